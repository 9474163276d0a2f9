-- What the lock lends stays in step.
use Rattle.std.proofs.Common.{◌≡◌, ◌∙◌, inl, ℕ, ◌+◌, [], cond, get_or, length, slice_set, List, Option, Some, None, refl, sym, ap, subst}
use Rattle.std.proofs.lemmas.Option.{same_Some}
use Rattle.std.specs.Prelude.{Result, Ok, Err, OnOk, is_ok}
use Rattle.wh_space_model.specs.declared.plain.InstId.{InstId}
use Rattle.wh_space_model.specs.declared.plain.SwapError.{SwapError}
use Rattle.wh_host_model.specs.declared.plain.TurnEnd.{TurnEnd}
use Rattle.wh_space_model.specs.declared.states.EvictEnd.{EvictEnd}
use Rattle.wh_space_model.specs.declared.states.EvictEnd.TheVariants.{Evicted, Void, Failed}
use Rattle.wh_space_model.specs.declared.states.FetchEnd.{FetchEnd}
use Rattle.wh_space_model.specs.declared.states.FetchEnd.TheVariants.{Fetched, Void as FetchIsVoid, Failed as FetchHasFailed}
use Rattle.wh_host_model.specs.Host.{AwaitsFrame, AwaitsFrameFor, World}
use Rattle.wh_space_model.specs.{Errand, Pass, pass_of, tickets, Space, CommitsFetch}
use Rattle.wh_reclaim.specs.Whole.{IsAsWhole}
use Rattle.wh_host.specs.Backing.{KeepsBacking}
use Rattle.wh_host.specs.TicketsOut.{EndsEvict, evict_fault, fetch_fault}
use Rattle.wh_host.specs.Hosting.{HostState, IsHost}
use Rattle.wh_host.specs.Paging.{MovesAnyhow, MovesOnly, MovesWith, provide_fault}
use Rattle.wh_host.specs.Requests.{LeadsByRequest}
use Rattle.wh_host.specs.Showing.{RepresentsReached}
use Rattle.wh_cell.specs.Calling.{HasRead, HasWritten}
use Rattle.wh_swap.specs.DeviceCalls.{ServesOn, call_faults}
use Rattle.wh_cell.specs.Going.{IsPartOf, TurnsIfGoing, fault_or_none}
use Rattle.wh_cell.specs.Knowing.{AgreesWith, KnownState, NoneOut, with_ticket, without_ticket}
use Rattle.wh_cell.specs.LeftByOwner.{ComesFrom, FitsHost, HasTakenOn, LeftState, WorksOn, left_as}
use Rattle.wh_cell.specs.Locking.{BooksState, IsInStep, LockedState}
use Rattle.wh_cell.proofs.Asked.{fits_requested, fits_turned}
use Rattle.wh_cell.proofs.Followed.{comes_on_alone, comes_on_by, comes_on_provided, comes_on_still, fits_anyhow, fits_carried, fits_moved, left_now, works_anyhow_by_eviction, works_anyhow_by_fetch, works_by_eviction, works_by_fetch, works_by_moves, works_by_provision, works_by_turn}
use Rattle.wh_cell.proofs.Led.{led_by_request, led_by_work}
use Rattle.wh_cell.proofs.Passing.{Passes, as_many, commits_fetch, ends_evict, held_is, none_there, out_is, out_with, same_none}

-- memory and device agree still
agrees_still : {D : Type 0} (held : D → List (List ℕ)) (s s2 : Space) (known : KnownState D) (d : D) → pass_of s2 ≡ pass_of s → AgreesWith held s known d → AgreesWith held s2 known d
agrees_still held s s2 known d same a = record { has = a.has; pass = same ∙ a.pass }

-- whose fault is kept, if it is, failed
eviction_part : (end : EvictEnd) (answer : Result Unit SwapError) → IsPartOf (fault_or_none (evict_fault end answer)) (call_faults answer)
eviction_part Evicted (Ok done) = tt
eviction_part Void (Ok done) = tt
eviction_part Failed (Ok done) = tt
eviction_part Evicted (Err fault) = tt
eviction_part Void (Err fault) = tt
eviction_part Failed (Err fault) = inl (refl, tt)

fetch_part : (end : FetchEnd) (answer : Result Unit SwapError) → IsPartOf (fault_or_none (fetch_fault end answer)) (call_faults answer)
fetch_part Fetched (Ok done) = tt
fetch_part FetchIsVoid (Ok done) = tt
fetch_part FetchHasFailed (Ok done) = tt
fetch_part Fetched (Err fault) = tt
fetch_part FetchIsVoid (Err fault) = tt
fetch_part FetchHasFailed (Err fault) = inl (refl, tt)

on_ok : {T E : Type 0} (P Q : Type 0) (answer : Result T E) → (P → Q) → OnOk answer P → OnOk answer Q
on_ok P Q (Ok done) f p = f p
on_ok P Q (Err fault) f p = tt

on_ok_always : {T E : Type 0} (H P : Type 0) (answer : Result T E) → OnOk answer (H → P) → H → OnOk answer P
on_ok_always H P (Ok done) p h = p h
on_ok_always H P (Err fault) p h = tt

module _ {D : Type 0} (held : D → List (List ℕ)) (keeps honest : D → Type 0) (faults : D → List SwapError) where
  -- work without a call of the device leads on, and takes n charges
  pub worked_in_step : (l : LockedState D) (h2 : HostState) (books2 : BooksState) (taken : ℕ) → IsInStep held keeps honest faults l → (w : World) × IsHost h2 w
      → WorksOn l.host [] h2 → HasTakenOn l.host taken h2 → KeepsBacking l.host.space h2.space
      → books2.charges ≡ l.books.charges + taken → IsInStep held keeps honest faults (record l { host = h2; books = books2 })
  worked_in_step l h2 books2 taken s some2 works took backing counted = record {
    some = some2;
    fits = subst (FitsHost h2) (sym counted) (fits_turned l.host h2 l.books.charges taken s.some some2 s.fits took);
    device = s.device;
    agrees = agrees_still held l.host.space h2.space l.known s.device backing.pass s.agrees;
    led = λ is. led_by_work l.host h2 [] works (s.led is);
    came = comes_on_still keeps honest faults l.left s.device l.host h2 s.came works backing;
  }

  pub turned_in_step : (l : LockedState D) (h2 : HostState) (books2 : BooksState) (id : InstId) (q taken : ℕ) (answer : TurnEnd) → IsInStep held keeps honest faults l
      → ((w : World) → IsHost l.host w → (w2 : World) × TurnsIfGoing w id q answer w2 × IsHost h2 w2) → HasTakenOn l.host taken h2 → KeepsBacking l.host.space h2.space
      → books2.charges ≡ l.books.charges + taken → IsInStep held keeps honest faults (record l { host = h2; books = books2 })
  turned_in_step l h2 books2 id q taken answer s turns took backing counted =
      let x = turns s.some.0 s.some.1 in
      worked_in_step l h2 books2 taken s (x.0, x.2) (works_by_turn l.host h2 id q answer turns) took backing counted

  pub moved_in_step : (l : LockedState D) (h2 : HostState) (books2 : BooksState) → IsInStep held keeps honest faults l → MovesOnly l.host h2 → KeepsBacking l.host.space h2.space
      → books2.charges ≡ l.books.charges → IsInStep held keeps honest faults (record l { host = h2; books = books2 })
  moved_in_step l h2 books2 s moves backing same =
      let x = moves s.some.0 s.some.1 in
      record {
        some = (x.0, x.2);
        fits = subst (FitsHost h2) (sym same) (fits_moved l.host h2 l.books.charges s.some s.fits moves);
        device = s.device;
        agrees = agrees_still held l.host.space h2.space l.known s.device backing.pass s.agrees;
        led = λ is. led_by_work l.host h2 [] (works_by_moves l.host h2 moves) (s.led is);
        came = comes_on_still keeps honest faults l.left s.device l.host h2 s.came (works_by_moves l.host h2 moves) backing;
      }

  -- it is left as it is
  pub left_in_step : (l : LockedState D) (h2 : HostState) (left2 : LeftState D) → IsInStep held keeps honest faults l → (w : World) × IsHost h2 w → FitsHost h2 l.books.charges → (RepresentsReached l.host → RepresentsReached h2) → KeepsBacking l.host.space h2.space
      → left2 ≡ record { host = h2; device = l.known.device } → IsInStep held keeps honest faults (record l { host = h2; left = left2 })
  left_in_step l h2 left2 s some fits led backing is =
      let now : left2 ≡ left_as h2 s.device = is ∙ ap (λ (x : Option D). (let z : LeftState D = record { host = h2; device = x } in z)) s.agrees.has in
      record {
        some = some;
        fits = fits;
        device = s.device;
        agrees = agrees_still held l.host.space h2.space l.known s.device backing.pass s.agrees;
        led = λ right. led (s.led right);
        came = subst (λ z. ComesFrom keeps honest faults z s.device h2) (sym now) (left_now keeps honest faults h2 s.device);
      }

  -- what was asked of it, and who asked leaves it
  pub requested_in_step : (l : LockedState D) (h2 : HostState) (left2 : LeftState D) → IsInStep held keeps honest faults l → LeadsByRequest l.host h2 → KeepsBacking l.host.space h2.space
      → left2 ≡ record { host = h2; device = l.known.device } → IsInStep held keeps honest faults (record l { host = h2; left = left2 })
  requested_in_step l h2 left2 s leads backing is =
      let x = leads s.some.0 s.some.1 in
      left_in_step l h2 left2 s (x.1, x.4) (fits_requested l.host h2 l.books.charges s.some s.fits leads) (led_by_request l.host h2 leads) backing is

  -- a provision under both locks
  pub provided_in_step : (l : LockedState D) (h2 : HostState) (device device2 : D) (known2 : KnownState D) (books2 : BooksState) (id : InstId) (result : Result ℕ SwapError) → IsInStep held keeps honest faults l
      → l.known.device ≡ Some device → NoneOut l.known.out → known2 ≡ record l.known { device = Some device2 }
      → ServesOn keeps honest faults device (call_faults result) device2
      → (honest device2 → MovesWith l.host id AwaitsFrame (provide_fault result) h2) → MovesAnyhow l.host id AwaitsFrame (provide_fault result) h2
      → IsAsWhole l.host.space h2.space → tickets h2.space ≡ 0 → h2.space.slots.held ≡ held device2
      → books2.charges ≡ l.books.charges → IsInStep held keeps honest faults (record l { host = h2; known = known2; books = books2 })
  provided_in_step l h2 device device2 known2 books2 id result s has none is serves moves anyhow whole none2 agrees same =
      let x = anyhow s.some.0 s.some.1 in
      let one : s.device ≡ device = same_Some s.device device (sym s.agrees.has ∙ has) in
      let out = out_is held l.host.space l.known s.device s.agrees in
      let many = as_many h2.space.slots.uses ∙ whole.slots ∙ sym (as_many l.host.space.slots.uses) ∙ ap (λ (xs : List (Option Errand)). length xs) out in
      let outs : (pass_of h2.space).out ≡ l.known.out = same_none (pass_of h2.space).out l.known.out (none_there h2.space.slots.uses none2) none many in
      let pass : pass_of h2.space ≡ record { held = held device2; out = l.known.out } =
      ap (λ (z : List (List ℕ)). (let p : Pass = record { held = z; out = (pass_of h2.space).out } in p)) agrees
      ∙ ap (λ (z : List (Option Errand)). (let p : Pass = record { held = held device2; out = z } in p)) outs in
      record {
        some = (x.1, x.4);
        fits = subst (FitsHost h2) (sym same) (fits_anyhow l.host h2 l.books.charges id AwaitsFrame (provide_fault result) s.some s.fits anyhow);
        device = device2;
        agrees = record {
          has = ap (λ (k : KnownState D). k.device) is;
          pass = pass ∙ ap (λ (k : KnownState D). (let p : Pass = record { held = held device2; out = k.out } in p)) (sym is);
        };
        led = λ right. led_by_work l.host h2 (fault_or_none (provide_fault result)) (works_by_provision l.host h2 id (provide_fault result) (moves right)) (s.led (subst honest (sym one) (serves.was_honest right)));
        came = comes_on_provided keeps honest faults l.left device device2 l.host h2 id result (subst (λ z. ComesFrom keeps honest faults l.left z l.host) one s.came) serves moves anyhow whole;
      }

  -- the device was read under both locks, and nothing else was done
  pub read_in_step : (l : LockedState D) (device device2 : D) (more : List SwapError) (known2 : KnownState D) → IsInStep held keeps honest faults l
      → l.known.device ≡ Some device → known2 ≡ record l.known { device = Some device2 }
      → ServesOn keeps honest faults device more device2 → held device2 ≡ held device
      → IsInStep held keeps honest faults (record l { known = known2 })
  read_in_step l device device2 more known2 s has is serves holds =
      let one : s.device ≡ device = same_Some s.device device (sym s.agrees.has ∙ has) in record {
        some = s.some;
        fits = s.fits;
        device = device2;
        agrees = record {
          has = ap (λ (k : KnownState D). k.device) is;
          pass = s.agrees.pass
              ∙ ap (λ (z : D). (let p : Pass = record { held = held z; out = l.known.out } in p)) one
              ∙ ap (λ (z : List (List ℕ)). (let p : Pass = record { held = z; out = l.known.out } in p)) (sym holds)
              ∙ ap (λ (k : KnownState D). (let p : Pass = record { held = held device2; out = k.out } in p)) (sym is);
        };
        led = λ right. s.led (subst honest (sym one) (serves.was_honest right));
        came = comes_on_by keeps honest faults l.left device device2 more l.host l.host
            (subst (λ (z : D). ComesFrom keeps honest faults l.left z l.host) one s.came) serves
            (λ right w st. (w, record { events = []; faults_are = tt; work = refl }, st))
            (λ w st. (w, record { steps = []; work = refl }, st))
            (record { frames = refl; slots = refl; tax = refl });
      }

  -- a ticket goes out
  pub begun_in_step : (l : LockedState D) (h2 : HostState) (known2 : KnownState D) (slot : ℕ) (errand : Errand) → IsInStep held keeps honest faults l → MovesOnly l.host h2
      → Passes l.host.space l.host.space.slots.held (out_with (pass_of l.host.space).out (Some slot) errand) h2.space
      → known2 ≡ with_ticket l.known slot errand → IsInStep held keeps honest faults (record l { host = h2; known = known2 })
  begun_in_step l h2 known2 slot errand s moves passes is =
      let x = moves s.some.0 s.some.1 in
      record {
        some = (x.0, x.2);
        fits = fits_moved l.host h2 l.books.charges s.some s.fits moves;
        device = s.device;
        agrees = record {
          has = ap (λ (k : KnownState D). k.device) is ∙ s.agrees.has;
          pass = passes.pass ∙ ap (λ (p : Pass). (let q : Pass = record { held = p.held; out = slice_set p.out slot (Some errand) } in q)) s.agrees.pass
              ∙ ap (λ (k : KnownState D). (let p : Pass = record { held = held s.device; out = k.out } in p)) (sym is);
        };
        led = λ is. led_by_work l.host h2 [] (works_by_moves l.host h2 moves) (s.led is);
        came = comes_on_alone keeps honest faults l.left s.device l.host h2 s.came (works_by_moves l.host h2 moves) passes.whole;
      }

  -- none can, and nothing but pins and earmarks has changed
  pub idle_in_step : (l : LockedState D) (h2 : HostState) → IsInStep held keeps honest faults l → MovesOnly l.host h2
      → Passes l.host.space l.host.space.slots.held (pass_of l.host.space).out h2.space → IsInStep held keeps honest faults (record l { host = h2 })
  idle_in_step l h2 s moves passes =
      let x = moves s.some.0 s.some.1 in
      record {
        some = (x.0, x.2);
        fits = fits_moved l.host h2 l.books.charges s.some s.fits moves;
        device = s.device;
        agrees = agrees_still held l.host.space h2.space l.known s.device passes.pass s.agrees;
        led = λ is. led_by_work l.host h2 [] (works_by_moves l.host h2 moves) (s.led is);
        came = comes_on_alone keeps honest faults l.left s.device l.host h2 s.came (works_by_moves l.host h2 moves) passes.whole;
      }

  -- what both know when a ticket has come back
  back_agrees : (s s2 : Space) (known known2 : KnownState D) (d d2 : D) (slot : ℕ) (content : List (List ℕ) → List (List ℕ)) → AgreesWith held s known d
      → Passes s (content s.slots.held) (slice_set (pass_of s).out slot None) s2 → held d2 ≡ content (held d) → known2 ≡ without_ticket known slot d2 → AgreesWith held s2 known2 d2
  back_agrees s s2 known known2 d d2 slot content a passes holds is = record {
    has = ap (λ (k : KnownState D). k.device) is;
    pass = passes.pass ∙ ap (λ (p : Pass). (let q : Pass = record { held = content p.held; out = slice_set p.out slot None } in q)) a.pass
        ∙ ap (λ (z : List (List ℕ)). (let q : Pass = record { held = z; out = slice_set known.out slot None } in q)) (sym holds)
        ∙ ap (λ (k : KnownState D). (let q : Pass = record { held = held d2; out = k.out } in q)) (sym is);
  }

  pub evicted_in_step : (l : LockedState D) (h2 : HostState) (known2 : KnownState D) (books2 : BooksState) (id : InstId) (call slot : ℕ) (bytes : List ℕ) (answer : Result Unit SwapError) (end : EvictEnd) (device2 : D)
      → (s : IsInStep held keeps honest faults l) → MovesWith l.host id (AwaitsFrameFor call) (evict_fault end answer) h2 → EndsEvict l.host.space slot (is_ok answer) bytes end h2.space
      → HasWritten held keeps honest faults s.device slot bytes answer device2 → known2 ≡ without_ticket l.known slot device2 → books2.charges ≡ l.books.charges
      → IsInStep held keeps honest faults (record l { host = h2; known = known2; books = books2 })
  evicted_in_step l h2 known2 books2 id call slot bytes answer end device2 s moves ends wrote is same =
      let x = moves s.some.0 s.some.1 in
      let passes = ends_evict l.host.space slot (is_ok answer) bytes end h2.space ends in
      let fault = evict_fault end answer in
      record {
        some = (x.0, x.2);
        fits = subst (FitsHost h2) (sym same) (fits_carried l.host h2 l.books.charges id (AwaitsFrameFor call) fault s.some s.fits moves);
        device = device2;
        agrees = back_agrees l.host.space h2.space l.known known2 s.device device2 slot (λ z. slice_set z slot (cond (is_ok answer) bytes [])) s.agrees passes wrote.holds is;
        led = λ right. led_by_work l.host h2 (call_faults answer) (works_by_eviction l.host h2 id call fault (call_faults answer) (eviction_part end answer) moves) (s.led (wrote.serves.was_honest right));
        came = comes_on_by keeps honest faults l.left s.device device2 (call_faults answer) l.host h2 s.came wrote.serves
            (λ right. works_by_eviction l.host h2 id call fault (call_faults answer) (eviction_part end answer) moves)
            (works_anyhow_by_eviction l.host h2 id call fault moves) passes.whole;
      }

  pub fetched_in_step : (l : LockedState D) (h2 : HostState) (known2 : KnownState D) (id : InstId) (call slot : ℕ) (bytes : List ℕ) (answer : Result Unit SwapError) (end : FetchEnd) (device2 : D)
      → (s : IsInStep held keeps honest faults l) → (OnOk answer (get_or l.host.space.slots.held slot [] ≡ bytes) → MovesWith l.host id (AwaitsFrameFor call) (fetch_fault end answer) h2)
      → MovesAnyhow l.host id (AwaitsFrameFor call) (fetch_fault end answer) h2 → CommitsFetch l.host.space slot (is_ok answer) bytes end h2.space
      → HasRead held keeps honest faults s.device slot bytes answer device2 → known2 ≡ without_ticket l.known slot device2
      → IsInStep held keeps honest faults (record l { host = h2; known = known2 })
  fetched_in_step l h2 known2 id call slot bytes answer end device2 s moves anyhow commits read is =
      let x = anyhow s.some.0 s.some.1 in
      let passes = commits_fetch l.host.space slot (is_ok answer) bytes end h2.space commits in
      let fault = fetch_fault end answer in
      let there : get_or l.host.space.slots.held slot [] ≡ get_or (held s.device) slot [] = ap (λ (z : List (List ℕ)). get_or z slot []) (held_is held l.host.space l.known s.device s.agrees) in
      let works : honest device2 → WorksOn l.host (call_faults answer) h2 =
      (λ right. works_by_fetch l.host h2 id call fault (call_faults answer) (fetch_part end answer)
      (moves (on_ok (get_or (held s.device) slot [] ≡ bytes) (get_or l.host.space.slots.held slot [] ≡ bytes) answer (λ e. there ∙ e)
      (on_ok_always (honest device2) (get_or (held s.device) slot [] ≡ bytes) answer read.right right)))) in
      record {
        some = (x.1, x.4);
        fits = fits_anyhow l.host h2 l.books.charges id (AwaitsFrameFor call) fault s.some s.fits anyhow;
        device = device2;
        led = λ right. led_by_work l.host h2 (call_faults answer) (works right) (s.led (read.serves.was_honest right));
        agrees = back_agrees l.host.space h2.space l.known known2 s.device device2 slot (λ z. z) s.agrees passes read.holds is;
        came = comes_on_by keeps honest faults l.left s.device device2 (call_faults answer) l.host h2 s.came read.serves
            works
            (works_anyhow_by_fetch l.host h2 id call fault anyhow) passes.whole;
      }
