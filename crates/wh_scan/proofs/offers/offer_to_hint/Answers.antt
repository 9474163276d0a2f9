use Rattle.std.proofs.Common.{inr, ◌≡◌, rules}
use Rattle.wh_space_model.specs.{IsOffered, frame_bytes}
use Rattle.wh_scan.proofs.offers.offer_to_hint.Goals as goal

pub returns : goal.returns
returns g c =
    let other : IsOffered c.args.memory.now c.args.hint.place c.args.hint.page c.args.hint.frame = search rules in
    let same : frame_bytes c.args.memory.now c.args.spot.frame ≡ frame_bytes c.args.memory.now c.args.hint.frame = search rules in
    let hashed : g.H.PageHash.hashes c.args.hasher.now (frame_bytes c.args.memory.now c.args.hint.frame) ≡ c.args.hash = search rules in
    (c.args.spot.frame, c.args.hint.frame, c.requires.offered, c.requires.some, same, inr (c.args.hint.place, c.args.hint.page, c.if-hint-spot.false, (c.requires.found, other, hashed), c.pair.ensures))
