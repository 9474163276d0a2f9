-- Work brings the calls of a script's instances further.
use Rattle.std.proofs.Common.{◌≡◌, ℕ, List, [], ◌∷◌, ◌++◌, Option, None, Some, ap, refl, sym, subst, ◌∙◌, arith, map, inl, inr, append-nil, append_assoc}
use Rattle.std.specs.List.{Contains}
use Rattle.wh_space_model.specs.declared.Tax.{Tax}
use Rattle.wh_space_model.specs.declared.plain.InstId.{InstId}
use Rattle.wh_space_model.specs.declared.plain.SwapError.{SwapError}
use Rattle.wh_space_model.specs.{claim, swap_number}
use Rattle.wh_host_model.specs.Host.{Event, turn, load, admit, invoke, refuel, cancel, retry, release, fork, unload, offer, evict_begin, evict_commit, fetch_begin, fetch_commit, provide, epoch, AwaitsFrame, AwaitsFrameFor, MovesPages, OnlyMoves, has_failed, moved, Tenant, World, for_device, with_tenant}
use Rattle.wh_host_model.specs.Host.Happens.{Happens}
use Rattle.wh_script_model.specs.ScriptState.{ScriptState}
use Rattle.wh_script_model.specs.{NamedInstance, AreMixed, none_left, one_own, one_other, ZipAmid, IsTenantOf}
use Rattle.wh_script_model.specs.Settings.{Settings}
use Rattle.wh_host_model.proofs.Host.Holding.{memory_is_sound}
use Rattle.wh_host.specs.Hosting.{IsReached}
use Rattle.wh_host.proofs.Hosts.{reached_on}
use Rattle.wh_cell.specs.Going.{AllWork, IsWork, WorksTo, fault_in, fault_or_none, faults_in, IsPartOf}
use Rattle.wh_script_laws.specs.Following.{AreRunAmid, ComeFurther, IsRunAmid, RunsKnown, StaysWhole, is_there, IsPlaced, StandsAmid, device_fault}
use Rattle.wh_script_laws.proofs.Drains.{moved_followed, moved_run}
use Rattle.wh_script_laws.proofs.Mixing.{mixed_others, zip_given, zip_more}
use Rattle.wh_script_laws.proofs.Sums.{claims_decide}
use Rattle.wh_script_laws.proofs.Turning.{AreFollowed, AreFollowedOn, turn_followed, zip_set}
use Rattle.std.proofs.lemmas.Option.{none-some, same_Some}

-- ---- faults by their numbers

abbrev numbers : List SwapError → List ℕ
numbers faults = map swap_number faults

numbers_both : (xs ys : List SwapError) → numbers (xs ++ ys) ≡ numbers xs ++ numbers ys
numbers_both [] ys = refl
numbers_both (x ∷ xs) ys = ap (λ zs. swap_number x ∷ zs) (numbers_both xs ys)

part_by_number : (xs ys : List SwapError) → IsPartOf xs ys → IsPartOf (numbers xs) (numbers ys)
part_by_number [] ys is = tt
part_by_number (x ∷ xs) [] is = absurd is
part_by_number (x ∷ xs) (y ∷ ys) (inl is) = inl (ap swap_number is.0, part_by_number xs ys is.1)
part_by_number (x ∷ xs) (y ∷ ys) (inr is) = inr (part_by_number (x ∷ xs) ys is)

part_of_more : (xs ys : List ℕ) (y : ℕ) → IsPartOf xs ys → IsPartOf xs (y ∷ ys)
part_of_more [] ys y is = tt
part_of_more (x ∷ xs) ys y is = inr is

mixed_part : (own others all more : List ℕ) → AreMixed own others all → IsPartOf all more
    → (others2 : List ℕ) × IsPartOf others others2 × AreMixed own others2 more
mixed_part _ _ _ more none_left is = (more, tt, mixed_others more)
mixed_part _ _ _ [] (one_own mixed) is = absurd is
mixed_part _ _ _ [] (one_other mixed) is = absurd is
mixed_part _ others _ (y ∷ more) (one_own {fault = fault} {own = own} {all = all} mixed) (inl is) =
    let rest = mixed_part own others all more mixed is.1 in
    (rest.0, rest.1, subst (λ n. AreMixed (n ∷ own) rest.0 (y ∷ more)) (sym is.0) (one_own rest.2))
mixed_part _ others _ (y ∷ more) (one_own {fault = fault} {own = own} {all = all} mixed) (inr is) =
    let rest = mixed_part (fault ∷ own) others (fault ∷ all) more (one_own mixed) is in
    (y ∷ rest.0, part_of_more others rest.0 y rest.1, one_other rest.2)
mixed_part own _ _ (y ∷ more) (one_other {fault = fault} {others = others} {all = all} mixed) (inl is) =
    let rest = mixed_part own others all more mixed is.1 in (y ∷ rest.0, inl (is.0, rest.1), one_other rest.2)
mixed_part own _ _ (y ∷ more) (one_other {fault = fault} {others = others} {all = all} mixed) (inr is) =
    let rest = mixed_part own (fault ∷ others) (fault ∷ all) more (one_other mixed) is in
    (y ∷ rest.0, part_of_more (fault ∷ others) rest.0 y rest.1, one_other rest.2)

-- more faults may have been met
zip_part : {A B : Type 0} (R : List ℕ → A → B → Type 0) (faults more : List ℕ) (xs : List A) (ys : List B) → IsPartOf faults more
    → ZipAmid R faults xs ys → ZipAmid R more xs ys
zip_part R faults more [] [] is h = tt
zip_part R faults more [] (y ∷ ys) is h = absurd h
zip_part R faults more (x ∷ xs) [] is h = absurd h
zip_part R faults more (x ∷ xs) (y ∷ ys) is h =
    let d = mixed_part h.0 h.1 faults more h.2 is in (h.0, d.0, d.2, h.3, zip_part R h.1 d.0 xs ys d.1 h.4)

-- ---- pages that move

moves_followed : (met : List ℕ) (w w2 : World) (m : ScriptState) (places : List ℕ) → OnlyMoves w w2 → AreFollowed met w m places → AreFollowedOn met w w2 m places
moves_followed met w w2 m places moves h =
    let after : World = record w { space = moves.0 } in
    subst (λ v. AreFollowedOn met w v m places) (sym moves.2)
    (record {
      are = record {
        modules = h.modules;
        instances = moved_run met w after refl m.instances w.tenants h.instances;
        placed = h.placed;
      };
      claims = λ j. (moves.1.0 j).claim;
      sound = moves.1.1;
    })

-- where a device has failed, the fault is kept with who waits, and stood for none
failed_followed : (w w2 : World) (t : Tenant) (e : SwapError) → w2.modules ≡ w.modules → AwaitsFrame t → (own : List ℕ) (g : NamedInstance)
    → IsRunAmid w own g (Some t) → IsRunAmid w2 (swap_number e ∷ own) g (Some (record t { waiting_for = Some (for_device e) }))
failed_followed w w2 t e same waits own g (is_there of_one further (inr (was, stood, yet, still))) = absurd (none-some was (sym (ap device_fault waits) ∙ yet))
failed_followed w w2 t e same waits own g (is_there of_one further (inl stands)) =
    let t2 : Tenant = record t { waiting_for = Some (for_device e) } in
    let of_one2 : IsTenantOf w2 t2 g = record {
      loaded = of_one.loaded;
      is_loaded = rw same of_one.is_loaded;
      of_one = of_one.of_one;
      params = of_one.params;
      inst = of_one.inst;
      is_live = of_one.is_live;
      calls = of_one.calls;
    } in
    is_there of_one2 further (inl (stands.0, λ fault is. subst (Contains (swap_number e ∷ own)) (same_Some (swap_number e) fault is) first)) where
      first : Contains (swap_number e ∷ own) (swap_number e)
      first = (0, omega arith, refl)

-- a fault may have been met for nobody
more_followed : (met : List ℕ) (w w2 : World) (m : ScriptState) (places : List ℕ) (fault : Option SwapError) → AreFollowedOn met w w2 m places
    → AreFollowedOn (numbers (fault_or_none fault) ++ met) w w2 m places
more_followed met w w2 m places None h = h
more_followed met w w2 m places (Some e) h = record {
  are = record {
    modules = h.are.modules;
    instances = zip_more (IsRunAmid w2) (swap_number e) met m.instances w2.tenants h.are.instances;
    placed = h.are.placed;
  };
  claims = h.claims;
  sound = h.sound;
}

pages_followed : (met : List ℕ) (w w2 : World) (m : ScriptState) (places : List ℕ) (id : InstId) (awaits : Tenant → Type 0) (fault : Option SwapError) → ((t : Tenant) → awaits t → AwaitsFrame t)
    → MovesPages w id awaits fault w2 → AreFollowed met w m places → AreFollowedOn (numbers (fault_or_none fault) ++ met) w w2 m places
pages_followed met w _ m places id awaits fault waits (moved {s2 = s2} alone why) h =
    more_followed met w (record w { space = s2 }) m places fault (moves_followed met w (record w { space = s2 }) m places (s2, alone, refl) h)
pages_followed met w _ m places id awaits fault waits (has_failed {t = t} {e = e} {s2 = s2} alone is live awaited) h =
    let t2 : Tenant = record t { waiting_for = Some (for_device e) } in
    let after = with_tenant w id.number (Some t2) s2 in
    subst (λ o. AreFollowedOn (numbers (fault_or_none o) ++ met) w after m places) (sym is)
    (record {
      are = record {
        modules = h.modules;
        instances = zip_given (IsRunAmid w) (IsRunAmid after) (swap_number e) t t2 (λ own. moved_followed ComeFurther (StandsAmid own) w after refl) (failed_followed w after t e refl (waits t awaited)) met m.instances w.tenants id.number live.0 h.instances;
        placed = zip_set IsPlaced IsPlaced t t2 (λ place o at. at) (λ place at. at) places w.tenants id.number live.0 h.placed;
      };
      claims = λ j. (alone.0 j).claim;
      sound = alone.1;
    })

-- ---- work

event_followed : (met : List ℕ) (w w2 : World) (m : ScriptState) (places : List ℕ) (e : Event) → IsReached w → IsWork w e → Happens w e w2 → AreFollowed met w m places
    → AreFollowedOn (numbers (fault_in e) ++ met) w w2 m places
event_followed met w w2 m places (turn id q) r work happens h =
    turn_followed r.frames r.slots r.tax r.events w r.happen met m places id q work.0 happens.0 w2 h work.1 work.2 happens.1
event_followed met w w2 m places (load bytes) r work happens h = absurd work
event_followed met w w2 m places (admit of p) r work happens h = absurd work
event_followed met w w2 m places (invoke id name given fuel) r work happens h = absurd work
event_followed met w w2 m places (refuel id n) r work happens h = absurd work
event_followed met w w2 m places (cancel id) r work happens h = absurd work
event_followed met w w2 m places (retry id) r work happens h = absurd work
event_followed met w w2 m places (release id) r work happens h = absurd work
event_followed met w w2 m places (fork id q) r work happens h = absurd work
event_followed met w w2 m places (unload k) r work happens h = absurd work
event_followed met w w2 m places (offer page hash) r work happens h = moves_followed met w w2 m places happens h
event_followed met w w2 m places (evict_begin id) r work happens h = moves_followed met w w2 m places happens h
event_followed met w w2 m places (evict_commit id call fault) r work happens h = pages_followed met w w2 m places id (AwaitsFrameFor call) fault (λ t awaits. awaits.0) happens h
event_followed met w w2 m places (fetch_begin id) r work happens h = moves_followed met w w2 m places happens h
event_followed met w w2 m places (fetch_commit id call fault) r work happens h = pages_followed met w w2 m places id (AwaitsFrameFor call) fault (λ t awaits. awaits.0) happens h
event_followed met w w2 m places (provide id fault) r work happens h = pages_followed met w w2 m places id AwaitsFrame fault (λ t awaits. awaits) happens h
event_followed met w w2 m places epoch r work happens h = absurd work

-- ---- one after the other

-- what work has come to
pub record HasWorked (met : List ℕ) (w w2 : World) (m : ScriptState) (places : List ℕ) : Type 0 where
  pub reached : IsReached w2
  pub are : AreFollowed met w2 m places
  pub claims : (j : ℕ) → claim w2.space j ≡ claim w.space j

works_followed : (met : List ℕ) (w w2 : World) (m : ScriptState) (places : List ℕ) (es : List Event) → IsReached w → AllWork w es w2 → AreFollowed met w m places
    → HasWorked (numbers (faults_in es) ++ met) w w2 m places
works_followed met w w2 m places [] r work h =
    subst (λ v. HasWorked met w v m places) (sym work) (record { reached = r; are = h; claims = λ j. refl })
works_followed met w w2 m places (e ∷ es) r work h =
    let mid = work.0 in
    let now = numbers (fault_in e) in
    let later = numbers (faults_in es) in
    let first = event_followed met w mid m places e r work.1 work.2 h in
    let rest = works_followed (now ++ met) mid w2 m places es (reached_on w mid e r work.2) work.3 first.are in
    let all : later ++ (now ++ met) ≡ numbers (faults_in es ++ fault_in e) ++ met =
    sym (append_assoc later now met) ∙ ap (λ xs. xs ++ met) (sym (numbers_both (faults_in es) (fault_in e))) in
    subst (λ faults. HasWorked faults w w2 m places) all
    (record { reached = rest.reached; are = rest.are; claims = λ j. rest.claims j ∙ first.claims j })

-- and what a script knows then, where frames and slots are as many and no ticket is out
pub works_known : (more : List SwapError) (settings : Settings) (w w2 : World) (m : ScriptState) (places : List ℕ) → IsReached w → WorksTo w more w2 → StaysWhole w.space w2.space
    → RunsKnown [] settings w m places → IsReached w2 × RunsKnown (map swap_number more) settings w2 m places
works_known more settings w w2 m places r works whole h =
    let met = numbers (faults_in works.events) in
    let did = works_followed [] w w2 m places works.events r works.work (record { modules = h.modules; instances = h.instances; placed = h.placed }) in
    let run = subst (λ faults. AreRunAmid faults w2 m.instances w2.tenants) (append-nil met) did.are.instances in
    let r2 = did.reached in
    let sound = memory_is_sound r.frames r.slots r.tax r.events w r.happen in
    let sound2 = memory_is_sound r2.frames r2.slots r2.tax r2.events w2 r2.happen in
    let sums = claims_decide w.space w2.space sound sound2 h.none_out (whole.none_out ∙ h.none_out) did.claims in (
      r2,
      record {
        frames = whole.frames ∙ h.frames;
        slots = whole.slots ∙ h.slots;
        tax_num = ap (λ (tax : Tax). tax.num) whole.tax ∙ h.tax_num;
        tax_den = ap (λ (tax : Tax). tax.den) whole.tax ∙ h.tax_den;
        none_out = whole.none_out ∙ h.none_out;
        minima = sums.0 ∙ h.minima;
        spreads = sums.1 ∙ h.spreads;
        modules = did.are.modules;
        instances = zip_part (IsRunAmid w2) met (map swap_number more) m.instances w2.tenants (part_by_number (faults_in works.events) more works.faults_are) run;
        placed = did.are.placed;
      },
    )
