-- What memory and device agree on, where neither tickets nor slots have changed.
use Rattle.std.proofs.Common.{◌≡◌, ◌+◌, ◌∙◌, arith, ◌∷◌, ℕ, List, [], Option, Some, None, map, refl, sym, ap}
use Rattle.wh_space_model.specs.declared.states.Slot.{Slot}
use Rattle.wh_space_model.specs.declared.states.Slot.TheVariants.{Evicting, EvictVoid, Fetching, FetchVoid, Taken, Vacant}
use Rattle.wh_space_model.specs.{tally, Errand, Pass, errand_for, is_ticket, Space}
use Rattle.wh_reclaim.specs.Together.{AreTogether}
use Rattle.wh_reclaim.specs.Whole.{IsAsWhole}
use Rattle.wh_host.specs.Backing.{KeepsBacking}

-- how many tickets are out
abbrev outs : List (Option Errand) → ℕ
outs [] = 0
outs (None ∷ xs) = outs xs
outs (Some e ∷ xs) = 1 + outs xs

tickets_by : (uses : List Slot) → tally is_ticket uses ≡ outs (map errand_for uses)
tickets_by [] = refl
tickets_by (Vacant ∷ uses) = let h = tickets_by uses in omega (arith, h)
tickets_by (Taken ∷ uses) = let h = tickets_by uses in omega (arith, h)
tickets_by (Evicting i p ∷ uses) = let h = tickets_by uses in omega (arith, h)
tickets_by (EvictVoid i ∷ uses) = let h = tickets_by uses in omega (arith, h)
tickets_by (Fetching i p f ∷ uses) = let h = tickets_by uses in omega (arith, h)
tickets_by (FetchVoid i f ∷ uses) = let h = tickets_by uses in omega (arith, h)

pub together_on : (s s2 : Space) (held : List (List ℕ)) → KeepsBacking s s2 → AreTogether s held → AreTogether s2 held
together_on s s2 held keeps a = record {
  none_out = tickets_by s2.slots.uses ∙ ap (λ (p : Pass). outs p.out) keeps.pass ∙ sym (tickets_by s.slots.uses) ∙ a.none_out;
  agrees = ap (λ (p : Pass). p.held) keeps.pass ∙ a.agrees;
}

-- there are as many frames and slots

pub whole_by : (s s2 : Space) → KeepsBacking s s2 → IsAsWhole s s2
whole_by s s2 keeps = record { frames = keeps.frames; slots = keeps.slots; tax = keeps.tax }

pub whole_itself : (s : Space) → IsAsWhole s s
whole_itself s = record { frames = refl; slots = refl; tax = refl }

pub whole_both : (a b c : Space) → IsAsWhole a b → IsAsWhole b c → IsAsWhole a c
whole_both a b c x y = record { frames = y.frames ∙ x.frames; slots = y.slots ∙ x.slots; tax = y.tax ∙ x.tax }
