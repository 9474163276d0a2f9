-- What keeps memory and device together.
use Rattle.std.proofs.Common.{◌≡◌, ◌∙◌, ℕ, List, [], ◌∷◌, Option, Some, None, map, replicate, zero, suc, refl, sym, ap, arith}
use Rattle.wh_space_model.specs.{tally, Errand, Pass, errand_for, is_ticket, pass_of, tickets, Slots, Space}
use Rattle.wh_space_model.specs.declared.Tax.{Tax}
use Rattle.wh_space_model.specs.declared.states.Slot.{Slot}
use Rattle.wh_space_model.specs.declared.states.Slot.TheVariants.{Vacant, Taken, Evicting, EvictVoid, Fetching, FetchVoid}
use Rattle.wh_space.specs.Arrivals.{IsNew}
use Rattle.wh_reclaim.specs.Together.{AreTogether}

pub same_slots : (s s2 : Space) (held : List (List ℕ)) → s2.slots ≡ s.slots → AreTogether s held → AreTogether s2 held
same_slots s s2 held same are = record {
  none_out = ap (λ (z : Slots). tally is_ticket z.uses) same ∙ are.none_out;
  agrees = ap (λ (z : Slots). z.held) same ∙ are.agrees;
}

abbrev is_errand : Option Errand → ℕ
is_errand None = 0
is_errand (Some e) = 1

one_errand : (x : Slot) → is_ticket x ≡ is_errand (errand_for x)
one_errand Vacant = refl
one_errand Taken = refl
one_errand (Evicting i p) = refl
one_errand (EvictVoid i) = refl
one_errand (Fetching i p f) = refl
one_errand (FetchVoid i f) = refl

errands : (uses : List Slot) → tally is_ticket uses ≡ tally is_errand (map errand_for uses)
errands [] = refl
errands (x ∷ uses) = let a = one_errand x in let b = errands uses in omega arith

pub same_pass : (s s2 : Space) (held : List (List ℕ)) → pass_of s2 ≡ pass_of s → AreTogether s held → AreTogether s2 held
same_pass s s2 held same are = record {
  none_out = errands s2.slots.uses ∙ (ap (λ (z : Pass). tally is_errand z.out) same ∙ (sym (errands s.slots.uses) ∙ are.none_out));
  agrees = ap (λ (z : Pass). z.held) same ∙ are.agrees;
}

none_vacant : (n : ℕ) → tally is_ticket (replicate n Vacant) ≡ 0
none_vacant zero = refl
none_vacant (suc n) = let k = none_vacant n in omega arith

pub new_together : (s : Space) (frames slots : ℕ) (tax : Tax) → IsNew s frames slots tax → AreTogether s (replicate slots [])
new_together s frames slots tax new = record {
  none_out = ap tickets new.is ∙ none_vacant slots;
  agrees = ap (λ (z : Space). z.slots.held) new.is;
}
