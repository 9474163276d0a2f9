use Rattle.std.proofs.Common.{◌≡◌, ◌+◌, ◌*◌, ◌≤◌, [], Some, true, get_or, length, slice_get, refl, ap, ◌∙◌}
use Rattle.wh_model.specs.declared.memory.Need.{Need}
use Rattle.wh_space_model.specs.{Space, occupant_at, stood}
use Rattle.wh_space.specs.Parts.{space_of}
use Rattle.wh_space.proofs.Stood.{stood_well}
use Rattle.wh_space.proofs.memory.Memory.stand.Goals as goal

pub invariant_of-self : goal.invariant_of-self
invariant_of-self c =
    let a = c.self.inside in
    let there : occupant_at (space_of a) c.args.place c.requires.there.0 = ap (λ (s : Space). slice_get s.occupants c.args.place) c.self.view_is ∙ c.requires.there.1 in
    let long : length (get_or (space_of a).tables c.args.place []) ≡ length (get_or c.args.self.now.tables c.args.place []) = ap (λ (s : Space). length (get_or s.tables c.args.place [])) c.self.view_is in
    let may : (want : Need) → c.args.need ≡ Some want → (c.requires.there.0.live ≡ true) × (want.at + want.length ≤ 4096 * length (get_or (space_of a).tables c.args.place [])) × (want.length ≤ 4096) =
    λ want e. (c.requires.there.2, rw long (c.requires.within want e), c.requires.few want e) in
    (stood_well a (record a { occupant_entries = c.stand_at.new.self }) c.args.place c.args.need c.requires.there.0 c.self.invariant there may c.stand_at.ensures refl refl refl refl refl refl).0

pub returns : goal.returns
returns c =
    let a = c.self.inside in
    let there : occupant_at (space_of a) c.args.place c.requires.there.0 = ap (λ (s : Space). slice_get s.occupants c.args.place) c.self.view_is ∙ c.requires.there.1 in
    let long : length (get_or (space_of a).tables c.args.place []) ≡ length (get_or c.args.self.now.tables c.args.place []) = ap (λ (s : Space). length (get_or s.tables c.args.place [])) c.self.view_is in
    let may : (want : Need) → c.args.need ≡ Some want → (c.requires.there.0.live ≡ true) × (want.at + want.length ≤ 4096 * length (get_or (space_of a).tables c.args.place [])) × (want.length ≤ 4096) =
    λ want e. (c.requires.there.2, rw long (c.requires.within want e), c.requires.few want e) in
    (stood_well a (record a { occupant_entries = c.stand_at.new.self }) c.args.place c.args.need c.requires.there.0 c.self.invariant there may c.stand_at.ensures refl refl refl refl refl refl).1
    ∙ ap (λ (s : Space). stood s c.args.place c.args.need) c.self.view_is
