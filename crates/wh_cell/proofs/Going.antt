-- Work leads on.
use Rattle.std.proofs.Common.{◌≡◌, inl, inr, List, [], ◌∷◌, ◌++◌, refl, sym, ap, subst, ◌∙◌, append_assoc, append-nil}
use Rattle.wh_space_model.specs.declared.plain.SwapError.{SwapError}
use Rattle.wh_host_model.specs.Host.{World, Event, AllHappen, Step, by_event, Befalls}
use Rattle.wh_host_model.specs.Host.Happens.{Happens}
use Rattle.wh_cell.specs.Going.{IsPartOf, IsWork, IsWorkOrMisread, AllWork, AllWorkAnyhow, fault_in, faults_in, WorksTo, WorksAnyhowTo}

-- ---- a part of a list

part_more : {X : Type 0} (xs ys : List X) (y : X) → IsPartOf xs ys → IsPartOf xs (y ∷ ys)
part_more [] ys y is = tt
part_more (x ∷ xs) ys y is = inr is

part_behind : {X : Type 0} (xs ys zs : List X) → IsPartOf xs zs → IsPartOf xs (ys ++ zs)
part_behind xs [] zs is = is
part_behind xs (y ∷ ys) zs is = part_more xs (ys ++ zs) y (part_behind xs ys zs is)

pub part_both : {X : Type 0} (xs ys us vs : List X) → IsPartOf xs ys → IsPartOf us vs → IsPartOf (xs ++ us) (ys ++ vs)
part_both [] ys us vs a b = part_behind us ys vs b
part_both (x ∷ xs) [] us vs a b = absurd a
part_both (x ∷ xs) (y ∷ ys) us vs (inl a) b = inl (a.0, part_both xs ys us vs a.1 b)
part_both (x ∷ xs) (y ∷ ys) us vs (inr a) b = inr (part_both (x ∷ xs) ys us vs a b)

pub part_self : {X : Type 0} (xs : List X) → IsPartOf xs xs
part_self [] = tt
part_self (x ∷ xs) = inl (refl, part_self xs)

-- ---- work

pub happen_both : (w w2 w3 : World) (es fs : List Event) → AllHappen w es w2 → AllHappen w2 fs w3 → AllHappen w (es ++ fs) w3
happen_both w w2 w3 [] fs a b = subst (λ (z : World). AllHappen z fs w3) a b
happen_both w w2 w3 (e ∷ es) fs a b = (a.0, a.1, happen_both a.0 w2 w3 es fs a.2 b)

-- it is events
pub work_happens : (w w2 : World) (es : List Event) → AllWork w es w2 → AllHappen w es w2
work_happens w w2 [] a = a
work_happens w w2 (e ∷ es) a = (a.0, a.2, work_happens a.0 w2 es a.3)

works_both : (w w2 w3 : World) (es fs : List Event) → AllWork w es w2 → AllWork w2 fs w3 → AllWork w (es ++ fs) w3
works_both w w2 w3 [] fs a b = subst (λ (z : World). AllWork z fs w3) a b
works_both w w2 w3 (e ∷ es) fs a b = (a.0, a.1, a.2, works_both a.0 w2 w3 es fs a.3 b)

anyhow_both : (w w2 w3 : World) (xs ys : List Step) → AllWorkAnyhow w xs w2 → AllWorkAnyhow w2 ys w3 → AllWorkAnyhow w (xs ++ ys) w3
anyhow_both w w2 w3 [] ys a b = subst (λ (z : World). AllWorkAnyhow z ys w3) a b
anyhow_both w w2 w3 (x ∷ xs) ys a b = (a.0, a.1, a.2, anyhow_both a.0 w2 w3 xs ys a.3 b)

faults_both : (es fs : List Event) → faults_in (es ++ fs) ≡ faults_in fs ++ faults_in es
faults_both [] fs = sym (append-nil (faults_in fs))
faults_both (e ∷ es) fs = ap (λ xs. xs ++ fault_in e) (faults_both es fs) ∙ append_assoc (faults_in fs) (faults_in es) (fault_in e)

-- none is needed
pub works_to_itself : (w : World) → WorksTo w [] w
works_to_itself w = record { events = []; faults_are = tt; work = refl }

pub works_anyhow_to_itself : (w : World) → WorksAnyhowTo w w
works_anyhow_to_itself w = record { steps = []; work = refl }

-- one after the other
pub works_on : (w w2 w3 : World) (faults more : List SwapError) → WorksTo w faults w2 → WorksTo w2 more w3 → WorksTo w (more ++ faults) w3
works_on w w2 w3 faults more a b = record {
  events = a.events ++ b.events;
  faults_are = subst (λ xs. IsPartOf xs (more ++ faults)) (sym (faults_both a.events b.events))
      (part_both (faults_in b.events) more (faults_in a.events) faults b.faults_are a.faults_are);
  work = works_both w w2 w3 a.events b.events a.work b.work;
}

pub works_anyhow_on : (w w2 w3 : World) → WorksAnyhowTo w w2 → WorksAnyhowTo w2 w3 → WorksAnyhowTo w w3
works_anyhow_on w w2 w3 a b = record { steps = a.steps ++ b.steps; work = anyhow_both w w2 w3 a.steps b.steps a.work b.work }

-- one event
pub works_by : (w w2 : World) (e : Event) → IsWork w e → Happens w e w2 → WorksTo w (fault_in e) w2
works_by w w2 e is h = record { events = e ∷ []; faults_are = part_self (fault_in e); work = (w2, is, h, refl) }

-- whose fault is one of these, if it has one
pub works_within : (w w2 : World) (e : Event) (faults : List SwapError) → IsWork w e → IsPartOf (fault_in e) faults → Happens w e w2 → WorksTo w faults w2
works_within w w2 e faults is part h = record { events = e ∷ []; faults_are = part; work = (w2, is, h, refl) }

pub works_anyhow_by : (w w2 : World) (x : Step) → IsWorkOrMisread w x → Befalls w x w2 → WorksAnyhowTo w w2
works_anyhow_by w w2 x is h = record { steps = x ∷ []; work = (w2, is, h, refl) }

-- events are steps
abbrev steps_of : List Event → List Step
steps_of [] = []
steps_of (e ∷ es) = by_event e ∷ steps_of es

work_as_steps : (w w2 : World) (es : List Event) → AllWork w es w2 → AllWorkAnyhow w (steps_of es) w2
work_as_steps w w2 [] a = a
work_as_steps w w2 (e ∷ es) a = (a.0, a.1, a.2, work_as_steps a.0 w2 es a.3)

pub anyhow_where_right : (w w2 : World) (faults : List SwapError) → WorksTo w faults w2 → WorksAnyhowTo w w2
anyhow_where_right w w2 faults a = record { steps = steps_of a.events; work = work_as_steps w w2 a.events a.work }
