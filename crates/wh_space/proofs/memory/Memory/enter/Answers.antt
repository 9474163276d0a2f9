use Rattle.std.proofs.Common.{◌≡◌, ◌<◌, ◌^◌, ℕ, Some, refl, subst, sym, ◌∙◌, arith, rules}
use Rattle.wh_space_model.specs.{Space, HasRoomFor, IsFreePlace, with_row}
use Rattle.wh_space_model.proofs.Entered.{free_within}
use Rattle.wh_space.specs.declared.memory.Memory.TheInside.{Inside}
use Rattle.wh_space.specs.Arrivals.{claimed}
use Rattle.wh_space.specs.Parts.{space_of}
use Rattle.wh_space.proofs.Promised.{nobody_there}
use Rattle.wh_space.proofs.Entering.{MayEnter, entered, guest_of, none_at_free, other_number, with_table}
use Rattle.wh_space.proofs.memory.Memory.enter.Goals as goal

pub enter-requires-clause-place : goal.enter-requires-clause-place
enter-requires-clause-place c = search (rules, free_within)

pub enter-requires-clause-empty : goal.enter-requires-clause-empty
enter-requires-clause-empty c =
    let free = subst (λ (z : Space). IsFreePlace z c.args.place) (sym c.self.view_is) c.requires.free in
    none_at_free (space_of c.self.inside) c.args.place c.self.invariant.sound free

pub enter-requires-clause-fresh : goal.enter-requires-clause-fresh
enter-requires-clause-fresh c j some = search (rules, ℕ, other_number)

pub put_occupant-requires-clause-nobody : goal.put_occupant-requires-clause-nobody
put_occupant-requires-clause-nobody c =
    let free = subst (λ (z : Space). IsFreePlace z c.args.place) (sym c.self.view_is) c.requires.free in
    rw c.in_ok-reserve.ensures.items (nobody_there c.self.inside.occupant_entries.items c.args.place free)

pub put_occupant-requires-clause-minima : goal.put_occupant-requires-clause-minima
put_occupant-requires-clause-minima c =
    let room = subst (λ (z : Space). HasRoomFor z (claimed c.args.promise)) (sym c.self.view_is) c.requires.room in
    let least = room.0 in
    let used = c.used.ensures.count in
    let free = c.free.ensures.count in
    rw (c.in_ok-reserve.ensures.items, c.new.ensures) (omega (arith, least, used, free))

pub put_occupant-requires-clause-spreads : goal.put_occupant-requires-clause-spreads
put_occupant-requires-clause-spreads c =
    let room = subst (λ (z : Space). HasRoomFor z (claimed c.args.promise)) (sym c.self.view_is) c.requires.room in
    let most = room.1 in
    let many = c.len.ensures in
    rw (c.in_ok-reserve.ensures.items, c.new.ensures) (omega (arith, most, many))

pub invariant_of-self-2 : goal.invariant_of-self-2
invariant_of-self-2 c =
    let a : Inside = c.self.inside in
    let b : Inside = record a { occupant_entries = c.put_occupant.new.self; tables = c.enter.new.self } in
    let may : MayEnter (space_of a) c.args.place c.args.promise c.args.size = search rules in
    let occupant_entries : b.occupant_entries.items ≡ with_row a.occupant_entries.items c.args.place (Some (guest_of c.args.promise)) = rw (c.put_occupant.ensures, c.in_ok-reserve.ensures.items, c.new.ensures) refl in
    let tables : b.tables ≡ with_table a.tables c.args.place c.args.promise c.args.size = c.in_ok-enter.ensures.ok in
    let place : c.args.place < 2 ^ 32 = omega (arith, c.if-place.false) in
    let limits = sym c.places.ensures.limits ∙ c.places.ensures.pages in
    let numbers = sym c.places.ensures.numbers ∙ c.places.ensures.pages in
    (entered a b c.args.place c.args.promise c.args.size c.self.invariant may occupant_entries tables limits numbers refl refl refl refl refl place).1

pub returns-clause-ok : goal.returns-clause-ok
returns-clause-ok c =
    let a : Inside = c.self.inside in
    let b : Inside = record a { occupant_entries = c.put_occupant.new.self; tables = c.enter.new.self } in
    let may : MayEnter (space_of a) c.args.place c.args.promise c.args.size = search rules in
    let occupant_entries : b.occupant_entries.items ≡ with_row a.occupant_entries.items c.args.place (Some (guest_of c.args.promise)) = rw (c.put_occupant.ensures, c.in_ok-reserve.ensures.items, c.new.ensures) refl in
    let tables : b.tables ≡ with_table a.tables c.args.place c.args.promise c.args.size = c.in_ok-enter.ensures.ok in
    let place : c.args.place < 2 ^ 32 = omega (arith, c.if-place.false) in
    let limits = sym c.places.ensures.limits ∙ c.places.ensures.pages in
    let numbers = sym c.places.ensures.numbers ∙ c.places.ensures.pages in
    rw (← c.self.view_is) (entered a b c.args.place c.args.promise c.args.size c.self.invariant may occupant_entries tables limits numbers refl refl refl refl refl place).0
