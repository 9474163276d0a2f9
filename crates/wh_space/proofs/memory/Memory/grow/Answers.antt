use Rattle.std.proofs.Common.{◌≡◌, ◌*◌, ◌++◌, ℕ, length, get_or, [], replicate, ap, refl, ◌∙◌, arith, rules}
use Rattle.std.proofs.lemmas.List.{append-nil}
use Rattle.wh_space_model.specs.{Space, view, Grew}
use Rattle.wh_space_model.proofs.Enlarged.{grows_by_zeros}
use Rattle.wh_space_model.proofs.Putting.{get_or_is}
use Rattle.wh_space.specs.declared.memory.Memory.TheInside.{Inside}
use Rattle.wh_space.specs.UnchangedTables.{fixed_in}
use Rattle.wh_space.specs.Parts.{space_of}
use Rattle.wh_space.specs.Steps.{page_limit}
use Rattle.wh_space.proofs.Growing.{CanGrow, can_grow, grew_well, occupant, size_within}
use Rattle.wh_space.proofs.Entering.{other_guest}
use Rattle.wh_space.proofs.memory.Memory.grow.Goals as goal

pub returns-then-pages-eq0-clause-grows : goal.returns-then-pages-eq0-clause-grows
returns-then-pages-eq0-clause-grows c = search (rules, size_within, append-nil)

can : (c : goal.After-grow-arg-1) → CanGrow c.self.inside c.args.place c.args.pages
can c =
    let limit = ap (λ (z : Space). page_limit z c.args.place) c.self.view_is in
    let long = ap (λ (z : Space). length (get_or z.tables c.args.place [])) c.self.view_is ∙ c.size-before.ensures.pages in
    can_grow c.self.inside c.args.place c.size-before.result c.args.pages c.self.invariant long (omega arith) (omega arith)

pub overflow_mul-pages : goal.overflow_mul-pages
overflow_mul-pages c = let k = (can c).few in omega arith

pub grow-requires-clause-room : goal.grow-requires-clause-room
grow-requires-clause-room c =
    let k = can c in
    let room = k.room in
    let limit = get_or_is c.self.inside.tables.limits c.args.place k.here.occupant_entry.max 0 (c.self.invariant.limits c.args.place k.here.occupant_entry k.here.there) in
    omega arith

pub grow-requires-clause-apart : goal.grow-requires-clause-apart
grow-requires-clause-apart c j other some =
    let k = can c in
    other_guest c.self.inside c.args.place j k.here.occupant_entry c.self.invariant k.here.there other some

grew : (c : goal.After-grow) → Grew (space_of c.self.inside) c.args.place c.args.pages (space_of (record c.self.inside { tables = c.grow.new.self }))
grew c = rw c.grow.ensures refl

also : (c : goal.After-grow) → CanGrow c.self.inside c.args.place c.args.pages
also c =
    let limit = ap (λ (z : Space). page_limit z c.args.place) c.self.view_is in
    let long = ap (λ (z : Space). length (get_or z.tables c.args.place [])) c.self.view_is ∙ c.size-before.ensures.pages in
    can_grow c.self.inside c.args.place c.size-before.result c.args.pages c.self.invariant long (omega arith) (omega arith)

pub invariant_of-self : goal.invariant_of-self
invariant_of-self c =
    let k = also c in
    grew_well c.self.inside (record c.self.inside { tables = c.grow.new.self }) c.args.place c.args.pages k.here k.live c.self.invariant refl (ap fixed_in c.grow.ensures) refl refl (grew c) k.room

pub returns-clause-grows : goal.returns-clause-grows
returns-clause-grows c =
    let a : Inside = c.self.inside in
    let b : Inside = record a { tables = c.grow.new.self } in
    let k = also c in
    let limit = ap (λ (z : Space). page_limit z c.args.place) c.self.view_is in
    let seen = grows_by_zeros (space_of a) c.args.place c.args.pages (occupant k.here.occupant_entry) (space_of b) c.self.invariant.sound k.here.occupies (grew c) in
    let turned : 65536 * c.args.pages ≡ c.args.pages * 65536 = omega arith in
    (c.size-before.ensures.bytes, omega arith, seen ∙ (ap (λ (z : Space). view z c.args.place ++ replicate (65536 * c.args.pages) 0) c.self.view_is ∙ ap (λ (z : ℕ). view c.args.self.now c.args.place ++ replicate z 0) turned))
