use Rattle.std.proofs.Common.{◌≡◌, ◌∙◌, ℕ, length, min, ap, subst}
use Rattle.wh_space_model.specs.{Space, Earmarks, pinned, frames_in_all}
use Rattle.wh_reclaim.proofs.begin.reserve.Goals as goal

pub returns-clause-reserves : goal.returns-clause-reserves
returns-clause-reserves c =
    let s = c.args.memory.now in
    let i = c.args.place in
    let need = c.args.need in
    let free : c.free-free.result ≡ length (pinned s i need).pool.free = c.free-free.ensures ∙ ap (λ (z : Space). length z.pool.free) c.pin.ensures in
    let wanted : c.frames_in_all-wanted.result ≡ frames_in_all s i need = c.frames_in_all-wanted.ensures.count ∙ ap (λ (z : Space). frames_in_all z i need) c.pin.ensures in
    let count : c.min.result ≡ min (length (pinned s i need).pool.free) (frames_in_all s i need) =
    c.min.ensures ∙ ap (λ (z : ℕ). min z c.frames_in_all-wanted.result) free ∙ ap (min (length (pinned s i need).pool.free)) wanted in
    subst (λ n. Earmarks (pinned s i need) i n c.earmark.new.self) count (subst (λ z. Earmarks z i c.min.result c.earmark.new.self) c.pin.ensures c.earmark.ensures)
