use Rattle.std.proofs.Common.{inr, ◌≡◌, ◌<◌, slice_get, slice_set, length, length-set, refl, ap, ◌∙◌, arith, rules}
use Rattle.wh_space_model.specs.declared.states.Mark.TheVariants.{Plain, Sharers, Unlisted}
use Rattle.wh_space_model.specs.{IsOffered, joined_to, Space, frame_bytes}
use Rattle.wh_space_model.proofs.Putting.{set_same, there_of}
use Rattle.wh_scan.proofs.offers.list_beside_hint.Goals as goal

pub returns-then-ne : goal.returns-then-ne
returns-then-ne g c =
    let not : IsOffered c.args.memory.now c.args.hint.place c.args.hint.page c.args.hint.frame → ⊥ = search rules in
    (refl, (c.args.spot.on.frame, c.args.spot.on.sharers, c.args.hint.frame, c.args.hint.place, c.args.hint.page, c.requires.may, c.requires.some, c.requires.found, not))

pub join-requires-clause-found : goal.join-requires-clause-found
join-requires-clause-found g c =
    let s : Space = c.args.memory.now in
    let within : c.args.spot.on.frame < length (slice_set s.marks c.args.hint.frame Plain) =
    (let a = there_of s.marks c.args.spot.on.frame (Unlisted c.args.spot.on.sharers) c.requires.may.1 in let l = length-set s.marks c.args.hint.frame Plain in omega (arith, a, l)) in
    ap (λ (z : Space). slice_get z.marks c.args.spot.on.frame) c.list_for-2.ensures ∙ set_same (slice_set s.marks c.args.hint.frame Plain) c.args.spot.on.frame (Sharers c.args.hash c.args.spot.on.sharers) within

pub returns : goal.returns
returns g c =
    let other : IsOffered c.args.memory.now c.args.hint.place c.args.hint.page c.args.hint.frame = search rules in
    let same : frame_bytes c.args.memory.now c.args.spot.on.frame ≡ frame_bytes c.args.memory.now c.args.hint.frame = search rules in
    let hashed : g.H.PageHash.hashes c.args.hasher.now (frame_bytes c.args.memory.now c.args.hint.frame) ≡ c.args.hash = search rules in
    let is = c.join.ensures ∙ ap (λ (z : Space). joined_to z c.args.hint.place c.args.hint.page c.args.hint.frame c.args.spot.on.frame c.args.hash c.args.spot.on.sharers) c.list_for-2.ensures in
    (c.args.spot.on.frame, c.args.spot.on.sharers, c.args.hint.frame, c.requires.may, c.requires.some, same, inr (c.args.hint.place, c.args.hint.page, (c.requires.found, other, hashed), is))
