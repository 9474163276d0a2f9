use Rattle.std.proofs.Common.{◌≡◌, ℕ, ◌<◌, ◌∙◌, List, [], ◌∷◌, inl, inr, Option, Some, None, length, get_or, map, refl, sym, suc, zero, slice_get, ap, arith}
use Rattle.std.proofs.lemmas.Bool.{cases_lt}
use Rattle.wh_space_model.specs.{Occupant, Space}
use Rattle.wh_space.specs.declared.occupant_entry.OccupantEntry.{OccupantEntry}
use Rattle.wh_space.specs.Parts.{occupant_of}
use Rattle.wh_space.proofs.Summing.{guest_at}
use Rattle.wh_space.proofs.memory.Memory.is_fresh.Goals as goal
use Rattle.wh_space.proofs.memory.Memory.is_fresh.Goals.{in-Some+else-occupant_entry-number, in_default}

abbrev number_of : Option OccupantEntry → ℕ
number_of None = 0
number_of (Some k) = k.number

-- an occupant is who has its place
occupant_at_place : (xs : List (Option OccupantEntry)) (j : ℕ) (x : Option OccupantEntry) (g : OccupantEntry) → j < length xs → x ≡ get_or xs j x → x ≡ Some g → (t : Occupant) × (slice_get (map occupant_of xs) j ≡ Some (Some t)) × (t.number ≡ g.number)
occupant_at_place [] j x g less is some = absurd (omega arith)
occupant_at_place (None ∷ xs) zero x g less is some = absurd (cc (is, some))
occupant_at_place (Some h ∷ xs) zero x g less is some = (_, refl, ap number_of (sym is ∙ some))
occupant_at_place (y ∷ xs) (suc j) x g less is some = occupant_at_place xs j x g (omega arith) is some

pub returns-then-greatest-number : goal.returns-then-greatest-number
returns-then-greatest-number c = (
  λ fresh j t there same.
      let is = ap (λ (s : Space). slice_get s.occupants j) c.self.view_is ∙ there in
      let g = guest_at c.self.inside.occupant_entries.items j t is in
      let least = c.greatest.ensures j g.0 g.1 in
      let here = g.2 ∙ same in
      absurd (omega arith),
  λ all. refl,
)

pub returns : goal.returns
returns c = (
  λ fresh j t there same.
      let is = ap (λ (s : Space). slice_get s.occupants j) c.self.view_is ∙ there in
      let g = guest_at c.self.inside.occupant_entries.items j t is in
      let within : j < c.loop-place.place = omega (arith, c.loop-place-test.false, c.len-place-end.ensures) in
      c.loop-place.invariant j g.0 within g.1 (g.2 ∙ same),
  λ all. refl,
)

pub returns-then-occupant_entry-number : goal.returns-then-occupant_entry-number
returns-then-occupant_entry-number c = (
  λ never. absurd (cc never),
  λ all.
      let xs = c.self.inside.occupant_entries.items in
      let at = c.loop-place.place in
      let within : at < length xs = omega (arith, c.loop-place-test.true, c.len-place-end.ensures) in
      let found = occupant_at_place xs at c.at.result c.in-Some.occupant_entry within c.at.ensures.entry c.in-Some.is in
      absurd (all at found.0 (ap (λ (s : Space). slice_get s.occupants at) (sym c.self.view_is) ∙ found.1) (found.2 ∙ c.if-occupant_entry-number.true)),
)

-- what is read at a place is who is there
read_there : (xs : List (Option OccupantEntry)) (j : ℕ) (x : Option OccupantEntry) (t : OccupantEntry) → slice_get xs j ≡ Some (Some t) → x ≡ get_or xs j x → x ≡ Some t
read_there [] j x t there is = absurd (cc there)
read_there (y ∷ xs) zero x t there is = cc
read_there (y ∷ xs) (suc j) x t there is = read_there xs j x t there is

pub loop-place-preserved : goal.loop-place-preserved
loop-place-preserved c j t within there same = elim (cases_lt j c.loop-place.place) [
  | inl before ↦ c.loop-place.invariant j t before there same
  | inr from ↦ (let here : j ≡ c.loop-place.place = omega (arith, within, from) in
      let found = read_there c.self.inside.occupant_entries.items j c.at.result t there (rw here c.at.ensures.entry) in
      elim c.match-at.branch [
        | in-Some+else-occupant_entry-number w ↦ (let number : w.in-Some.occupant_entry.number ≡ t.number = ap number_of (sym w.in-Some.is ∙ found) in w.if-occupant_entry-number.false (number ∙ same))
        | in_default w ↦ w.in_default.not-Some t found
      ])
]
