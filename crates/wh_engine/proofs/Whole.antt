-- What calls leave of what lies behind the memory of all.
use Rattle.std.proofs.Common.{◌≡◌, ◌∙◌, ℕ, List, [], ◌∷◌, Option, Some, None, map, length, refl, sym, ap, arith}
use Rattle.wh_space_model.specs.{tally, Errand, Pass, errand_for, is_ticket, Space}
use Rattle.wh_space_model.specs.declared.states.Slot.{Slot}
use Rattle.wh_space_model.specs.declared.states.Slot.TheVariants.{Vacant, Taken, Evicting, EvictVoid, Fetching, FetchVoid}
use Rattle.wh_host.specs.Backing.{KeepsBacking}
use Rattle.wh_script_laws.specs.Following.{StaysWhole}

abbrev is_errand : Option Errand → ℕ
is_errand None = 0
is_errand (Some e) = 1

one_errand : (x : Slot) → is_ticket x ≡ is_errand (errand_for x)
one_errand Vacant = refl
one_errand Taken = refl
one_errand (Evicting i p) = refl
one_errand (EvictVoid i) = refl
one_errand (Fetching i p f) = refl
one_errand (FetchVoid i f) = refl

errands : (uses : List Slot) → tally is_ticket uses ≡ tally is_errand (map errand_for uses)
errands [] = refl
errands (x ∷ uses) = let a = one_errand x in let b = errands uses in omega arith

as_many : (uses : List Slot) → length (map errand_for uses) ≡ length uses
as_many [] = refl
as_many (x ∷ uses) = let b = as_many uses in omega arith

pub keeps_whole : (s s2 : Space) → KeepsBacking s s2 → StaysWhole s s2
keeps_whole s s2 k = record {
  frames = k.frames;
  slots = sym (as_many s2.slots.uses) ∙ ap (λ (z : Pass). length z.out) k.pass ∙ as_many s.slots.uses;
  tax = k.tax;
  none_out = errands s2.slots.uses ∙ ap (λ (z : Pass). tally is_errand z.out) k.pass ∙ sym (errands s.slots.uses);
}
