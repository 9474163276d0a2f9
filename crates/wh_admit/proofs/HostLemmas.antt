-- From what an admission is given to any host for which it stands.
use Rattle.std.proofs.Common.{◌≡◌, ◌∙◌, ℕ, Option, Some, None, Result, Ok, Err, OnOk, IfOk, IfErr, refl, sym, ap, subst, arith}
use Rattle.std.specs.Result.{IsErrAnd}
use Rattle.wh_model.specs.Format.{Module}
use Rattle.wh_model.specs.Execution.{Beginning, IsInitial, memory_min, segment_bounds, begins, fragments}
use Rattle.wh_host_model.specs.Host.{Loaded, World, loaded_of, MeetsFault}
use Rattle.wh_host_model.specs.{Params, given_of, AdmitFault, no_module, shares, min_max, frames, swap, instances, memory, segments}
use Rattle.wh_initial.specs.Begins.{first_store}
use Rattle.wh_admit.specs.declared.room.Room.{Room}
use Rattle.wh_admit.specs.declared.outcome.Admitted.{Admitted}
use Rattle.wh_admit.specs.declared.error.AdmitError.{AdmitError}
use Rattle.wh_admit.specs.AdmitErrors.{fault_of}
use Rattle.wh_admit.specs.AdmissionNumbers.{HasNumbers, RefusesNumbers, quota_of}
use Rattle.wh_admit.specs.AdmittedStart.{BeginsAs, RefusesBeginning}
use Rattle.wh_admit.specs.RepresentedHost.{IsModuleAt, RepresentsHost}
use Rattle.wh_admit.specs.AdmissionFaults.{MeetsNone, RefusesFor, RefusesAdmission}
use Rattle.wh_admit.proofs.FaultLemmas.{ComesTo, MeetsHere, NoneBelow, RefusesHere, below_nine, past_all, refuses_numbers, refuses_beginning}

module _ (w : World) (k : ℕ) (p : Params) (room : Room) where
  -- an instance of the module of this number comes to this
  abbrev ComesToAt : Beginning → Type 0
  ComesToAt b = (l : Loaded) × (loaded_of w k ≡ Some l) × IsInitial l.m (given_of p) b

  from_module : (o : Option Module) (b : Beginning) → IsModuleAt w k o → ComesToAt b → ComesTo o p b
  from_module None b gone (l, at, is) = let both : None ≡ Some l = sym gone ∙ at in absurd (cc both)
  from_module (Some m) b (l, at, same) (l2, at2, is) =
      let both : Some l2 ≡ Some l = sym at2 ∙ at in
      let e : l2 ≡ l = cc both in
      (m, refl, subst (λ z. IsInitial z (given_of p) b) (ap (λ (z : Loaded). z.m) e ∙ sym same) is)

  to_module : (o : Option Module) (b : Beginning) → IsModuleAt w k o → ComesTo o p b → ComesToAt b
  to_module None b far (m, is, initial) = absurd (cc is)
  to_module (Some m2) b (l, at, same) (m, is, initial) =
      let e : m2 ≡ m = cc is in
      (l, at, subst (λ z. IsInitial z (given_of p) b) (sym e ∙ same) initial)

  from_number : (o : Option Module) → IsModuleAt w k o → loaded_of w k ≡ None → o ≡ None
  from_number None gone none = refl
  from_number (Some m) (l, at, same) none = let both : None ≡ Some l = sym none ∙ at in absurd (cc both)

  to_number : (o : Option Module) → IsModuleAt w k o → o ≡ None → loaded_of w k ≡ None
  to_number None gone none = gone
  to_number (Some m) is none = absurd (cc none)

  pub from_host : (o : Option Module) → RepresentsHost w k o room → (f : AdmitFault) → MeetsFault w k p f
      → MeetsHere o room p f
  from_host o st no_module met = from_number o st.is_module met
  from_host o st shares met = met
  from_host o st min_max met = met
  from_host o st frames met = let left = st.room_left.frames in omega (arith, left, met)
  from_host o st swap met = let left = st.room_left.slots in omega (arith, left, met)
  from_host o st instances met = let live = st.room_left.live in omega (arith, live, met)
  from_host o st memory met = from_module o memory_min st.is_module met
  from_host o st segments met = from_module o segment_bounds st.is_module met

  pub to_host : (o : Option Module) → RepresentsHost w k o room → (f : AdmitFault) → MeetsHere o room p f
      → MeetsFault w k p f
  to_host o st no_module met = to_number o st.is_module met
  to_host o st shares met = met
  to_host o st min_max met = met
  to_host o st frames met = let left = st.room_left.frames in omega (arith, left, met)
  to_host o st swap met = let left = st.room_left.slots in omega (arith, left, met)
  to_host o st instances met = let live = st.room_left.live in omega (arith, live, met)
  to_host o st memory met = to_module o memory_min st.is_module met
  to_host o st segments met = to_module o segment_bounds st.is_module met

module _ (o : Option Module) (room : Room) (p : Params) where
  pub meets_none : NoneBelow o room p 9 → MeetsNone o room p
  meets_none none w k st f has = none f (below_nine f) (from_host w k p room o st f has)

  pub refuses_for : (fault : Option AdmitFault) → RefusesHere o room p fault → RefusesFor o room p fault
  refuses_for (Some f) (met, none) = λ w k st. (
    to_host w k p room o st f met,
    λ other less has. none other less
        (from_host w k p room o st other has),
  )
  refuses_for None none = meets_none none

-- ---- what the parts of an admission come to

pub handed_on : {A E : Type 0} (r : Result A E) (e : E) (P : E → Type 0) → IsErrAnd r (λ x. x ≡ e) → P e → IfErr r P
handed_on (Ok a) e P is holds = tt
handed_on (Err x) e P is holds = subst P (sym is) holds

module _ (m : Module) (room : Room) (p : Params) where
  pub numbers_refused : (e : AdmitError) → RefusesNumbers (quota_of p) room e → RefusesAdmission (Some m) room p e
  numbers_refused e is = refuses_for (Some m) room p (fault_of e) (refuses_numbers m room p e is)

  pub beginning_refused : HasNumbers (quota_of p) room → (r : Result Admitted AdmitError) → IfErr r (RefusesBeginning m p)
      → IfErr r (RefusesAdmission (Some m) room p)
  beginning_refused h (Ok a) is = tt
  beginning_refused h (Err e) is = refuses_for (Some m) room p (fault_of e) (refuses_beginning m room p h e is)

  pub beginning_met : HasNumbers (quota_of p) room → (r : Result Admitted AdmitError) → IfOk r (BeginsAs m p)
      → OnOk r (MeetsNone (Some m) room p)
  beginning_met h (Ok a) is =
      let i = is.instantiates in
      let b = begins i.inst (first_store m (given_of p) i.globals i.elements) (fragments i.segments) in
      meets_none (Some m) room p (past_all m room p h b i.is_initial (λ e. absurd (cc e)) (λ e. absurd (cc e)))
  beginning_met h (Err e) is = tt
