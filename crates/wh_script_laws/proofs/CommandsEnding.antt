-- What ends a call or an instance: it is cancelled, or released.
use Rattle.std.proofs.Common.{◌≡◌, ℕ, ◌+◌, ◌-◌, true, false, List, [], ◌∷◌, ◌++◌, slice_get, Option, Some, None, refl, sym, ap, subst, ◌∙◌, rules}
use Rattle.wh_model.specs.Format.{Module}
use Rattle.wh_model.specs.Execution.Replay.{Replay}
use Rattle.wh_model.specs.Execution.{cancelled, store_at}
use Rattle.wh_space_model.specs.declared.Tax.{Tax}
use Rattle.wh_space_model.specs.{Space, minima, spreads, IsSound}
use Rattle.wh_host_model.specs.Host.{Rest, Doing, resting, has_left, computing, Tenant, World, promised, journal, journal_calls, tenant, with_tenant, standing_with, standing_in, ended_by, Closes, faces_next, is_dead, Cancels, LetsGo, IsCancel, IsRelease, InOrder, HasJournal, IsReplayed, PlacesAreTenants}
use Rattle.wh_host_model.specs.{Entry, first_open, given_of}
use Rattle.wh_host_model.specs.Host.OwnerCalls.{ends}
use Rattle.wh_host_model.specs.Host.Happens as happen
use Rattle.wh_script_model.specs.Settings.{Settings}
use Rattle.wh_script_model.specs.{cancel, release, release_ok, MayUseFuel, NamedInstance, HasInstance, with_instance, cancel_first, Files, IsObeyed, IsTenantOf}
use Rattle.wh_script_model.specs.ScriptState.{ScriptState}
use Rattle.wh_script_model.specs.Answers as answers
use Rattle.wh_host_model.proofs.Host.Holding.{memory_is_sound, places_are_right, instances_replay, journals_are_in_order}
use Rattle.wh_script_laws.specs.Following.{AreSame, IsFollowed, is_gone, IsPlaced, Knows, StaysWhole, StandsSame}
use Rattle.wh_script_laws.specs.Replies.{cancel_reply, release_reply}
use Rattle.wh_script_laws.specs.Laws.{CancelsFollow, ReleasesFollow}
use Rattle.wh_script_laws.proofs.Fuel.{others_begin}
use Rattle.wh_script_laws.proofs.Journals.{ordered, none_open, first_is, cancelled_next, cancelled_start}
use Rattle.wh_script_laws.proofs.SumsChange.{minima_same, spreads_same, minima_less, spreads_less}
use Rattle.wh_script_laws.proofs.CommandsKnown.{IsFound, found_gone, found_live, found, live_same, not_live, IsNext, tenant_calls, changed, zip_map, zip_set, zip_over, sum_goes, followed_there, quiet_before, quiet_after}

-- ---- a call that is cancelled

closed_next : (w : World) {m : Module} (s2 : Space) (t t2 : Tenant) (g : NamedInstance) (e : Entry) (es : List Entry)
    (place : ℕ) → IsTenantOf w t g → t.place ≡ place → g.calls ≡ journal_calls (t.ended ++ e ∷ es)
    → InOrder m t.inst t.dead t.ended (e ∷ es) → ((y : Entry) (ys : List Entry) → es ≡ y ∷ ys → MayUseFuel y.call) → Closes s2 t (ended_by e cancelled) es t.rest t2
    → IsNext w g (record g { calls = cancel_first g.calls; at_fault = None }) t2 place
closed_next w s2 t t2 g e es place of_one at calls order begin (faces_next alive faces) = search (rules, cancelled_next, tenant_calls)
closed_next w s2 t t2 g e es place of_one at calls order begin (is_dead died) = search (rules, cancelled_start, tenant_calls)

cancelled_so : {settings : Settings} {w : World} {m : ScriptState} {places : List ℕ} (files : Files) (number i place : ℕ)
    (name : List ℕ) (g : NamedInstance) (t t2 : Tenant) (s2 : Space) → IsSound w.space → Knows settings w m places
    → HasInstance m name i g → slice_get places i ≡ Some place → HasJournal w t → IsReplayed w t → IsTenantOf w t g → t.place ≡ place
    → g.calls ≡ journal_calls (journal t) → Cancels w.space t s2 t2 → StaysWhole w.space s2
    → (m2 : ScriptState) × IsObeyed true settings files m number (cancel name) (cancel_reply name happen.call_ok ∷ []) m2
    × Knows settings (with_tenant w i (Some t2) s2) m2 places
cancelled_so {settings} {w} {m} {places} files number i place name g t t2 s2 sound known has lies j x of_one at same
    (ends {e = e} {es = es} there leaves pins closes) whole =
    let order = ordered w t j in
    let order2 = subst (λ os. InOrder order.0 t.inst t.dead t.ended os) there order.1 in
    let calls : g.calls ≡ journal_calls (t.ended ++ e ∷ es) = same ∙ ap (λ os. journal_calls (t.ended ++ os)) there in
    let first : first_open g.calls ≡ Some e.call = ap first_open calls ∙ first_is order2 in
    let g2 : NamedInstance = record g { calls = cancel_first g.calls; at_fault = None } in
    let quiet = quiet_before sound known in
    let steps = leaves.steps in
    let replay = subst (λ os. Replay x.loaded.m (given_of t.params) (journal_calls (t.ended ++ os)) (standing_in w.space t)) there x.replay in
    let quiet2 = quiet_after s2 steps.sound known whole in (
      with_instance m i g2,
      answers.is_cancelled i has of_one.is_live first,
      changed i place g g2 t2 s2 known has.0 lies whole
          (minima_same w.space s2 t.place quiet quiet2 steps.others steps.claim)
          (spreads_same w.space s2 t.place quiet quiet2 steps.others steps.claim)
          (closed_next w s2 t t2 g e es place of_one at calls order2 (others_begin x.loaded.m (given_of t.params) t.ended es e (standing_in w.space t) order2 replay) closes),
    )

cancel_obeyed : {settings : Settings} {w w2 : World} {m : ScriptState} {places : List ℕ} (files : Files) (number i place : ℕ)
    (name : List ℕ) (g : NamedInstance) (answer : happen.CallAnswer) → IsSound w.space → Knows settings w m places
    → HasInstance m name i g → slice_get places i ≡ Some place → ((t : Tenant) → tenant w i ≡ Some t → HasJournal w t) → ((t : Tenant) → tenant w i ≡ Some t → IsReplayed w t)
    → IsFound w g i place → IsCancel w (record { place = place; number = i }) answer w2 → StaysWhole w.space w2.space
    → (m2 : ScriptState) × IsObeyed true settings files m number (cancel name) (cancel_reply name answer ∷ []) m2
    × Knows settings w2 m2 places
cancel_obeyed {w = w} files number i place name g answer sound known has lies orders replays (found_gone at gone)
    (happen.is_cancelled {t = u} live r) whole = absurd (not_live w i place u at live)
cancel_obeyed {m = m} files number i place name g answer sound known has lies orders replays (found_gone at gone)
    (happen.no_one_to_cancel none) whole = (m, answers.no_one_to_cancel i has gone, known)
cancel_obeyed {w = w} files number i place name g answer sound known has lies orders replays (found_gone at gone)
    (happen.no_call_to_cancel {t = u} live none) whole = absurd (not_live w i place u at live)
cancel_obeyed {w = w} files number i place name g answer sound known has lies orders replays (found_live t at here of_one same stands)
    (happen.is_cancelled {t = u} {t2 = t2} {s2 = s2} live r) whole =
    let one = live_same w i place t u here live in
    cancelled_so files number i place name g t t2 s2 sound known has lies (orders t here.0) (replays t here.0) of_one here.1 same
    (subst (λ x. Cancels w.space x s2 t2) (sym one) r) whole
cancel_obeyed files number i place name g answer sound known has lies orders replays (found_live t at here of_one same stands)
    (happen.no_one_to_cancel none) whole = absurd (none t here)
cancel_obeyed {w = w} {m = m} files number i place name g answer sound known has lies orders replays
    (found_live t at here of_one same stands) (happen.no_call_to_cancel {t = u} live none) whole =
    let one = live_same w i place t u here live in
    let none_now : t.open_calls ≡ [] = ap (λ (x : Tenant). x.open_calls) one ∙ none in
    (m, answers.no_call_to_cancel i has of_one.is_live (none_open w t g (orders t here.0) same none_now), known)

pub cancels_follow : CancelsFollow
cancels_follow name frames slots tax events w happens settings files number m places i place g answer w2 known has lies asks whole =
    cancel_obeyed files number i place name g answer (memory_is_sound frames slots tax events w happens) known has lies
    (journals_are_in_order frames slots tax events w happens i) (instances_replay frames slots tax events w happens i) (found i place g known has.0 lies) asks whole

-- ---- an instance that goes

pub stands_at : (bytes : List ℕ) (r : Rest) (d : Doing) → (store_at (standing_with bytes r d)).output ≡ r.output
stands_at bytes r resting = refl
stands_at bytes r (has_left ps) = refl
stands_at bytes r (computing term) = refl

-- the journal of the one that goes is what the script knows
pub replays_so : (w : World) (t : Tenant) (g : NamedInstance) → IsReplayed w t → IsTenantOf w t g
    → g.calls ≡ journal_calls (journal t) → Replay g.m (given_of g.params) g.calls (standing_in w.space t)
replays_so w t g r of_one same = search rules

released_known : {settings : Settings} {w : World} {m : ScriptState} {places : List ℕ} (i place : ℕ) (g : NamedInstance) (t : Tenant)
    (s2 : Space) → Knows settings w m places → slice_get m.instances i ≡ Some g → slice_get places i ≡ Some place
    → g.is_released ≡ false → g.params ≡ t.params → StaysWhole w.space s2 → minima s2 + t.params.min ≡ minima w.space
    → spreads s2 + ((t.params.max - t.params.min) + 1) ≡ spreads w.space
    → Knows settings (with_tenant w i None s2) (with_instance m i (record g { is_released = true })) places
released_known {w = w} {m = m} {places = places} i place g t s2 known has lies live params whole least most =
    let w2 : World = with_tenant w i None s2 in
    let g2 : NamedInstance = record g { is_released = true } in
    let stay = zip_map (IsFollowed AreSame StandsSame w) (IsFollowed AreSame StandsSame w2) m.instances w.tenants
    (λ h o. followed_there w w2 h o (λ k l e. e)) known.instances in
    record {
      frames = whole.frames ∙ known.frames;
      slots = whole.slots ∙ known.slots;
      tax_num = ap (λ (tax : Tax). tax.num) whole.tax ∙ known.tax_num;
      tax_den = ap (λ (tax : Tax). tax.den) whole.tax ∙ known.tax_den;
      none_out = whole.none_out ∙ known.none_out;
      minima = search (rules, sum_goes);
      spreads = search (rules, sum_goes);
      modules = known.modules;
      instances = zip_set (IsFollowed AreSame StandsSame w2) m.instances w.tenants i g2 None stay (is_gone refl);
      placed = zip_over IsPlaced places w.tenants i place None known.placed lies tt;
    }

released_so : {settings : Settings} {w w2 : World} {m : ScriptState} {places : List ℕ} (files : Files) (number i place : ℕ)
    (name output : List ℕ) (g : NamedInstance) (t : Tenant) → IsSound w.space → PlacesAreTenants w → Knows settings w m places
    → HasInstance m name i g → slice_get places i ≡ Some place → IsReplayed w t → IsTenantOf w t g → tenant w i ≡ Some t
    → g.calls ≡ journal_calls (journal t) → LetsGo w i t output w2 → StaysWhole w.space w2.space
    → (m2 : ScriptState) × IsObeyed true settings files m number (release name) (release_ok name output ∷ []) m2
    × Knows settings w2 m2 places
released_so {settings} {w} {w2} {m} {places} files number i place name output g t sound rightly known has lies r of_one there same go whole =
    let z = standing_in w.space t in
    let g2 : NamedInstance = record g { is_released = true } in
    let m2 : ScriptState = with_instance m i g2 in
    let s2 : Space = go.space in
    let departs = go.departs in
    let whole2 : StaysWhole w.space s2 = subst (λ (x : World). StaysWhole w.space x.space) go.after whole in
    let quiet = quiet_before sound known in
    let quiet2 = quiet_after s2 departs.sound known whole2 in
    let was = rightly.claimed i t there in
    let least = minima_less w.space s2 t.place (promised i t.params) quiet quiet2 departs.others was departs.claim in
    let most = spreads_less w.space s2 t.place (promised i t.params) quiet quiet2 departs.others was departs.claim in
    let text : (store_at z).output ≡ output = stands_at _ t.rest t.doing ∙ sym go.written in (
      m2,
      subst (λ x. IsObeyed true settings files m number (release name) (release_ok name x ∷ []) m2) text
          (answers.is_released i z has of_one.is_live (replays_so w t g r of_one same)),
      subst (λ x. Knows settings x m2 places) (sym go.after)
          (released_known i place g t s2 known has.0 lies of_one.is_live of_one.params whole2 least most),
    )

release_obeyed : {settings : Settings} {w w2 : World} {m : ScriptState} {places : List ℕ} (files : Files) (number i place : ℕ)
    (name : List ℕ) (g : NamedInstance) (answer : Option (List ℕ)) → IsSound w.space → PlacesAreTenants w
    → Knows settings w m places → HasInstance m name i g → slice_get places i ≡ Some place
    → ((t : Tenant) → tenant w i ≡ Some t → IsReplayed w t) → IsFound w g i place
    → IsRelease w (record { place = place; number = i }) answer w2 → StaysWhole w.space w2.space
    → (m2 : ScriptState) × IsObeyed true settings files m number (release name) (release_reply name answer ∷ []) m2
    × Knows settings w2 m2 places
release_obeyed {w = w} files number i place name g answer sound rightly known has lies replays (found_gone at gone)
    (happen.is_released {t = u} live go) whole = absurd (not_live w i place u at live)
release_obeyed {m = m} files number i place name g answer sound rightly known has lies replays (found_gone at gone)
    (happen.no_one_to_release none) whole = (m, answers.no_one_to_release i has gone, known)
release_obeyed {w = w} {w2 = w2} files number i place name g answer sound rightly known has lies replays
    (found_live t at here of_one same stands) (happen.is_released {t = u} {output = output} live go) whole =
    let one = live_same w i place t u here live in
    released_so files number i place name output g t sound rightly known has lies (replays t here.0) of_one here.0 same
    (subst (λ x. LetsGo w i x output w2) (sym one) go) whole
release_obeyed files number i place name g answer sound rightly known has lies replays
    (found_live t at here of_one same stands) (happen.no_one_to_release none) whole = absurd (none t here)

pub releases_follow : ReleasesFollow
releases_follow frames slots tax events w happens settings files number m places i place g name answer w2 known has lies asks whole =
    release_obeyed files number i place name g answer (memory_is_sound frames slots tax events w happens)
    (places_are_right frames slots tax events w happens) known has lies
    (instances_replay frames slots tax events w happens i) (found i place g known has.0 lies) asks whole
