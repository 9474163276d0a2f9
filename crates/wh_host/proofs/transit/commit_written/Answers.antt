use Rattle.std.proofs.Common.{◌≡◌, true, Result, Ok, Err, OnOk, is_ok, refl, sym, subst}
use Rattle.wh_space_model.specs.declared.plain.SwapError.{SwapError}
use Rattle.wh_space_model.specs.{IsEvicting, IsWritten}
use Rattle.wh_host.proofs.Carrying.{is_evicting, written_holds}
use Rattle.wh_host.proofs.transit.commit_written.Goals as goal

pub written-requires : goal.written-requires
written-requires c = subst (IsEvicting c.args.memory.now) (sym c.slot.ensures) (is_evicting c.args.memory.now c.args.ticket.slot c.requires)

on_ok : (device : Result Unit SwapError) (P : Type 0) → (is_ok device ≡ true → P) → OnOk device P
on_ok (Ok done) P h = h refl
on_ok (Err fault) P h = tt

pub evict_commit-requires-clause-held : goal.evict_commit-requires-clause-held
evict_commit-requires-clause-held c =
    let s = c.args.memory.now in
    let k = c.args.ticket.slot in
    let mid = c.written.new.self in
    let w1 = subst (λ n. IsWritten s n c.bytes.result.now c.is_ok.result mid) c.slot.ensures c.written.ensures in
    let w2 = subst (λ b. IsWritten s k b c.is_ok.result mid) c.bytes.ensures w1 in
    let w3 = subst (λ b. IsWritten s k c.args.ticket.bytes b mid) c.is_ok.ensures.value w2 in
    on_ok c.args.device _ (λ e. written_holds s k c.args.ticket.bytes (is_ok c.args.device) mid c.invariant.ensures.sound w3 e)

pub returns-clause-ends : goal.returns-clause-ends
returns-clause-ends c =
    let s = c.args.memory.now in
    let k = c.args.ticket.slot in
    let mid = c.written.new.self in
    let w1 = subst (λ n. IsWritten s n c.bytes.result.now c.is_ok.result mid) c.slot.ensures c.written.ensures in
    let w2 = subst (λ b. IsWritten s k b c.is_ok.result mid) c.bytes.ensures w1 in
    let w3 = subst (λ b. IsWritten s k c.args.ticket.bytes b mid) c.is_ok.ensures.value w2 in
    (mid, w3, c.evict_commit.ensures.commits)
