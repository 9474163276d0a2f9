-- Frames that are taken and sent, and what they carry on each connection.
use Rattle.std.proofs.Common.{◌≡◌, ◌≢◌, ℕ, ◌<◌, ◌≤◌, ◌==◌, Bool, true, false, List, [], ◌∷◌, ◌++◌, length, get_or, set, flat_map, if◌then◌else◌, Option, Some, None, MatchOption, All, refl, sym, ap, ◌∙◌, subst, arith, append_assoc, append-nil, get_or-set_same, get_or-set_other, inl, inr, ◌⊎◌}
use Rattle.std.proofs.Math.ListN.{get_or-eq_default}
use Rattle.std.proofs.Math.Logic.{⊎_elim}
use Rattle.std.proofs.lemmas.Bool.{cases_eq, cases_lt}
use Rattle.std.proofs.lemmas.Bool.Decides.{nat_tests}
use Rattle.std.proofs.lemmas.List.Elements.{All-head, All-tail}
use Rattle.wh_multiplex.specs.declared.frame.StreamFrame.{StreamFrame}
use Rattle.wh_multiplex.specs.declared.frame.StreamKind.{StreamKind}
use Rattle.wh_multiplex.specs.declared.frame.StreamKind.TheVariants.{Opened, Data, Ended, Stop}
use Rattle.wh_multiplex.specs.Multiplexing.{on_kind, bytes_behind, bytes_on, IsDataOn, Carries, close_frame, Sends, IsNewConnection, ServiceTurns, IsServiceTurn, open_at, ConnectionOpens, ConnectionTakes, ConnectionEnds, StepsOn, IsCarriedOn, AreCarried, Carried}

behind_append : (c : ℕ) (before : List ℕ) (xs ys : List StreamFrame) → bytes_behind c before (xs ++ ys) ≡ bytes_behind c (bytes_behind c before xs) ys
behind_append c before [] ys = refl
behind_append c before (x ∷ xs) ys = behind_append c (if x.connection == c then on_kind x.kind before x.bytes else before) xs ys

here : (m c : ℕ) (x y : List ℕ) → m ≡ c → (if m == c then x else y) ≡ x
here m c x y e = grind (arith, nat_tests)

elsewhere : (m c : ℕ) (x y : List ℕ) → m ≢ c → (if m == c then x else y) ≡ y
elsewhere m c x y ne = grind (arith, nat_tests)

on_data : (c : ℕ) (before : List ℕ) (f : StreamFrame) → IsDataOn c f → (if f.connection == c then on_kind f.kind before f.bytes else before) ≡ before ++ f.bytes
on_data c before f d = here f.connection c _ _ d.0 ∙ ap (λ kind. on_kind kind before f.bytes) d.1

data_behind : (c : ℕ) (before : List ℕ) (parts : List StreamFrame) → All (IsDataOn c) parts
    → bytes_behind c before parts ≡ before ++ flat_map (λ (f : StreamFrame). f.bytes) parts
data_behind c before [] h = sym (append-nil before)
data_behind c before (f ∷ fs) h =
    ap (λ b. bytes_behind c b fs) (on_data c before f (All-head (IsDataOn c) f fs h))
    ∙ data_behind c (before ++ f.bytes) fs (All-tail (IsDataOn c) f fs h)
    ∙ append_assoc before f.bytes (flat_map (λ (f : StreamFrame). f.bytes) fs)

others_behind : (c k : ℕ) (before : List ℕ) (parts : List StreamFrame) → k ≢ c → All (IsDataOn c) parts → bytes_behind k before parts ≡ before
others_behind c k before [] ne h = refl
others_behind c k before (f ∷ fs) ne h =
    let d = All-head (IsDataOn c) f fs h in
    ap (λ b. bytes_behind k b fs) (elsewhere f.connection k _ _ (λ e. ne (sym e ∙ d.0)))
    ∙ others_behind c k before fs ne (All-tail (IsDataOn c) f fs h)

sends_on : (c : ℕ) (bytes : List ℕ) (sent : List StreamFrame) (before : List ℕ) → Sends c bytes false sent → bytes_behind c before sent ≡ before ++ bytes
sends_on c bytes sent before (parts, carries, e) =
    ap (bytes_behind c before) (e ∙ append-nil parts) ∙ data_behind c before parts carries.each ∙ ap (λ b. before ++ b) carries.joined

sends_end : (c : ℕ) (bytes : List ℕ) (sent : List StreamFrame) (before : List ℕ) → Sends c bytes true sent → bytes_behind c before sent ≡ []
sends_end c bytes sent before (parts, carries, e) =
    ap (bytes_behind c before) e ∙ behind_append c before parts (close_frame c ∷ []) ∙ here c c [] (bytes_behind c before parts) refl

sends_elsewhere : (c k : ℕ) (bytes : List ℕ) (is_done : Bool) (sent : List StreamFrame) (before : List ℕ) → k ≢ c → Sends c bytes is_done sent
    → bytes_behind k before sent ≡ before
sends_elsewhere c k bytes true sent before ne (parts, carries, e) =
    ap (bytes_behind k before) e ∙ behind_append k before parts (close_frame c ∷ []) ∙ elsewhere c k [] (bytes_behind k before parts) (λ same. ne (sym same))
    ∙ others_behind c k before parts ne carries.each
sends_elsewhere c k bytes false sent before ne (parts, carries, e) =
    ap (bytes_behind k before) (e ∙ append-nil parts) ∙ others_behind c k before parts ne carries.each

came_here : (came : List StreamFrame) (frame : StreamFrame) → bytes_on frame.connection (came ++ frame ∷ []) ≡ on_kind frame.kind (bytes_on frame.connection came) frame.bytes
came_here came frame = behind_append frame.connection [] came (frame ∷ []) ∙ here frame.connection frame.connection _ _ refl

came_elsewhere : (k : ℕ) (came : List StreamFrame) (frame : StreamFrame) → k ≢ frame.connection → bytes_on k (came ++ frame ∷ []) ≡ bytes_on k came
came_elsewhere k came frame ne = behind_append k [] came (frame ∷ []) ∙ elsewhere frame.connection k _ _ (λ e. ne (sym e))

module _ {C : Type 0} (handed given : C → List ℕ) where
  same : (c : ℕ) (came before came' before' : List StreamFrame) (slot : Option C) → bytes_on c came' ≡ bytes_on c came
      → bytes_on c before' ≡ bytes_on c before → IsCarriedOn handed given c came before slot → IsCarriedOn handed given c came' before' slot
  same c came before came' before' None p q h = q ∙ h
  same c came before came' before' (Some x) p q h = (h.0 ∙ sym p, h.1 ∙ sym q)

  -- only the frame's connection has to be looked at
  joins : (slots new : List (Option C)) (frame : StreamFrame) (sent came before : List StreamFrame)
      → ((k : ℕ) → k ≢ frame.connection → (b : List ℕ) → bytes_behind k b sent ≡ b)
      → ((k : ℕ) → k ≢ frame.connection → open_at new k ≡ open_at slots k)
      → AreCarried handed given came before slots
      → IsCarriedOn handed given frame.connection (came ++ frame ∷ []) (before ++ sent) (open_at new frame.connection)
      → AreCarried handed given (came ++ frame ∷ []) (before ++ sent) new
  joins slots new frame sent came before quiet kept all at k =
      ⊎_elim
      (λ e. subst (λ n. IsCarriedOn handed given n (came ++ frame ∷ []) (before ++ sent) (open_at new n)) (sym e) at)
      (λ ne. subst (λ slot. IsCarriedOn handed given k (came ++ frame ∷ []) (before ++ sent) slot) (sym (kept k ne))
      (same k came before (came ++ frame ∷ []) (before ++ sent) (open_at slots k) (came_elsewhere k came frame ne)
      (behind_append k [] before sent ∙ quiet k ne (bytes_on k before)) (all k)))
      (cases_eq k frame.connection)

  -- where the connection isn't open now, nothing is on it since it was closed
  closed : (c : ℕ) (came sent : List StreamFrame) (slots : List (Option C)) → open_at slots c ≡ None → bytes_on c sent ≡ []
      → IsCarriedOn handed given c came sent (open_at slots c)
  closed c came sent slots e p = subst (λ slot. IsCarriedOn handed given c came sent slot) (sym e) p

  none_sent : (c : ℕ) (came sent : List StreamFrame) (slots : List (Option C)) → open_at slots c ≡ None
      → IsCarriedOn handed given c came sent (open_at slots c) → bytes_on c sent ≡ []
  none_sent c came sent slots e p = subst (λ slot. IsCarriedOn handed given c came sent slot) e p

  opened : (c : ℕ) (came sent : List StreamFrame) (slots : List (Option C)) (x : C) → open_at slots c ≡ Some x
      → (handed x ≡ bytes_on c came) × (given x ≡ bytes_on c sent) → IsCarriedOn handed given c came sent (open_at slots c)
  opened c came sent slots x e p = subst (λ slot. IsCarriedOn handed given c came sent slot) (sym e) p

  both_same : (c : ℕ) (came sent : List StreamFrame) (slots : List (Option C)) (x : C) → open_at slots c ≡ Some x
      → IsCarriedOn handed given c came sent (open_at slots c) → (handed x ≡ bytes_on c came) × (given x ≡ bytes_on c sent)
  both_same c came sent slots x e p = subst (λ slot. IsCarriedOn handed given c came sent slot) e p

  -- a frame for a connection that isn't open
  none_stays : (slots : List (Option C)) (frame : StreamFrame) (came before : List StreamFrame) → open_at slots frame.connection ≡ None
      → AreCarried handed given came before slots → AreCarried handed given (came ++ frame ∷ []) (before ++ []) slots
  none_stays slots frame came before e all =
      joins slots slots frame [] came before (λ k ne b. refl) (λ k ne. refl) all
      (closed frame.connection (came ++ frame ∷ []) (before ++ []) slots e
      (ap (bytes_on frame.connection) (append-nil before) ∙ none_sent frame.connection came before slots e (all frame.connection)))

  stop_stays : (slots : List (Option C)) (frame : StreamFrame) (came before : List StreamFrame) → frame.kind ≡ Stop
      → AreCarried handed given came before slots → AreCarried handed given (came ++ frame ∷ []) (before ++ []) slots
  stop_stays slots frame came before e all =
      joins slots slots frame [] came before (λ k ne b. refl) (λ k ne. refl) all
      (same frame.connection came before (came ++ frame ∷ []) (before ++ []) (open_at slots frame.connection)
      (came_here came frame ∙ ap (λ kind. on_kind kind (bytes_on frame.connection came) frame.bytes) e)
      (ap (bytes_on frame.connection) (append-nil before)) (all frame.connection))

  within : (slots : List (Option C)) (c : ℕ) (x : C) → open_at slots c ≡ Some x → c < length slots
  within slots c x e =
      ⊎_elim (λ lt. lt) (λ le. let beyond : open_at slots c ≡ None = get_or-eq_default slots None le in absurd (cc)) (cases_lt c (length slots))

  -- the connection comes or goes, or what it holds changes
  changes : (slots : List (Option C)) (slot : Option C) (frame : StreamFrame) (sent came before : List StreamFrame)
      → frame.connection < length slots → ((k : ℕ) → k ≢ frame.connection → (b : List ℕ) → bytes_behind k b sent ≡ b)
      → AreCarried handed given came before slots
      → IsCarriedOn handed given frame.connection (came ++ frame ∷ []) (before ++ sent) slot
      → AreCarried handed given (came ++ frame ∷ []) (before ++ sent) (set slots frame.connection slot)
  changes slots slot frame sent came before lt quiet all at =
      joins slots (set slots frame.connection slot) frame sent came before quiet
      (λ k ne. get_or-set_other slots frame.connection k slot None ne) all
      (subst (λ s. IsCarriedOn handed given frame.connection (came ++ frame ∷ []) (before ++ sent) s) (sym (get_or-set_same slots frame.connection slot None lt)) at)

module _ {S C : Type 0} (opens : S → C → Type 0) (takes : ServiceTurns S C) (handed given : C → List ℕ) (refusal : List ℕ) where
  opening : (service : S) (slots new : List (Option C)) (frame : StreamFrame) (sent came before : List StreamFrame) → frame.kind ≡ Opened
      → ConnectionOpens opens handed given refusal service slots frame.connection sent new
      → AreCarried handed given came before slots → AreCarried handed given (came ++ frame ∷ []) (before ++ sent) new
  opening service slots new frame sent came before kind (inl (lt, none, e, (connection, fresh, set_to))) all =
      let c = frame.connection in
      let slot : Option C = Some connection in
      let at : IsCarriedOn handed given c (came ++ frame ∷ []) (before ++ []) slot = (
        fresh.1 ∙ sym (came_here came frame ∙ ap (λ kind. on_kind kind (bytes_on c came) frame.bytes) kind),
        fresh.2 ∙ sym (ap (bytes_on c) (append-nil before) ∙ none_sent handed given c came before slots none (all c)),
      ) in
      let result : AreCarried handed given (came ++ frame ∷ []) (before ++ []) (set slots c slot) = changes handed given slots slot frame [] came before lt (λ k ne b. refl) all at in
      subst (λ s. AreCarried handed given (came ++ frame ∷ []) (before ++ s) new) (sym e)
      (subst (λ n. AreCarried handed given (came ++ frame ∷ []) (before ++ []) n) (sym set_to) result)
  opening service slots new frame sent came before kind (inr (le, sends, e)) all =
      let c = frame.connection in
      let beyond : open_at slots c ≡ None = get_or-eq_default slots None le in
      subst (λ n. AreCarried handed given (came ++ frame ∷ []) (before ++ sent) n) (sym e)
      (joins handed given slots slots frame sent came before (λ k ne b. sends_elsewhere c k refusal true sent b ne sends) (λ k ne. refl) all
      (closed handed given c (came ++ frame ∷ []) (before ++ sent) slots beyond (behind_append c [] before sent ∙ sends_end c refusal sent (bytes_on c before) sends)))

  turn : (is_done : Bool) (service next : S) (slots : List (Option C)) (connection after : C) (answer : List ℕ) (frame : StreamFrame) (sent came before : List StreamFrame)
      → frame.kind ≡ Data → open_at slots frame.connection ≡ Some connection
      → IsServiceTurn takes handed given service connection frame.bytes answer is_done next after
      → Sends frame.connection answer is_done sent
      → AreCarried handed given came before slots
      → AreCarried handed given (came ++ frame ∷ []) (before ++ sent) (set slots frame.connection (if is_done then None else Some after))
  turn true service next slots connection after answer frame sent came before kind e is_turn sends all =
      let c = frame.connection in
      changes handed given slots None frame sent came before (within handed given slots c connection e)
      (λ k ne b. sends_elsewhere c k answer true sent b ne sends) all
      (behind_append c [] before sent ∙ sends_end c answer sent (bytes_on c before) sends)
  turn false service next slots connection after answer frame sent came before kind e is_turn sends all =
      let c = frame.connection in
      let both = both_same handed given c came before slots connection e (all c) in
      changes handed given slots (Some after) frame sent came before (within handed given slots c connection e)
      (λ k ne b. sends_elsewhere c k answer false sent b ne sends) all (
        is_turn.all_handed refl ∙ ap (λ b. b ++ frame.bytes) both.0 ∙ sym (came_here came frame ∙ ap (λ kind. on_kind kind (bytes_on c came) frame.bytes) kind),
        is_turn.all_given refl ∙ ap (λ b. b ++ answer) both.1 ∙ sym (behind_append c [] before sent ∙ sends_on c answer sent (bytes_on c before) sends),
      )

  taking : (slot : Option C) (service next : S) (slots new : List (Option C)) (frame : StreamFrame) (sent came before : List StreamFrame) → frame.kind ≡ Data
      → open_at slots frame.connection ≡ slot
      → MatchOption slot ((sent ≡ []) × (next ≡ service) × (new ≡ slots)) (λ connection.
      (answer : List ℕ) × (is_done : Bool) × (after : C) × IsServiceTurn takes handed given service connection frame.bytes answer is_done next after
      × Sends frame.connection answer is_done sent × (new ≡ set slots frame.connection (if is_done then None else Some after)))
      → AreCarried handed given came before slots → AreCarried handed given (came ++ frame ∷ []) (before ++ sent) new
  taking None service next slots new frame sent came before kind e (none, _, stay) all =
      subst (λ s. AreCarried handed given (came ++ frame ∷ []) (before ++ s) new) (sym none)
      (subst (λ n. AreCarried handed given (came ++ frame ∷ []) (before ++ []) n) (sym stay) (none_stays handed given slots frame came before e all))
  taking (Some connection) service next slots new frame sent came before kind e (answer, is_done, after, is_turn, sends, changed) all =
      subst (λ n. AreCarried handed given (came ++ frame ∷ []) (before ++ sent) n) (sym changed)
      (turn is_done service next slots connection after answer frame sent came before kind e is_turn sends all)

  ending : (slot : Option C) (slots new : List (Option C)) (frame : StreamFrame) (sent came before : List StreamFrame)
      → open_at slots frame.connection ≡ slot
      → MatchOption slot ((sent ≡ []) × (new ≡ slots)) (λ connection. Sends frame.connection [] true sent × (new ≡ set slots frame.connection None))
      → AreCarried handed given came before slots → AreCarried handed given (came ++ frame ∷ []) (before ++ sent) new
  ending None slots new frame sent came before e (none, stay) all =
      subst (λ s. AreCarried handed given (came ++ frame ∷ []) (before ++ s) new) (sym none)
      (subst (λ n. AreCarried handed given (came ++ frame ∷ []) (before ++ []) n) (sym stay) (none_stays handed given slots frame came before e all))
  ending (Some connection) slots new frame sent came before e (sends, changed) all =
      let c = frame.connection in
      subst (λ n. AreCarried handed given (came ++ frame ∷ []) (before ++ sent) n) (sym changed)
      (changes handed given slots None frame sent came before (within handed given slots c connection e)
      (λ k ne b. sends_elsewhere c k [] true sent b ne sends) all
      (behind_append c [] before sent ∙ sends_end c [] sent (bytes_on c before) sends))

  steps_carry : (kind : StreamKind) (service next : S) (slots new : List (Option C)) (frame : StreamFrame) (sent came before : List StreamFrame)
      → frame.kind ≡ kind → StepsOn opens takes handed given refusal kind service slots frame.connection frame.bytes sent next new
      → AreCarried handed given came before slots → AreCarried handed given (came ++ frame ∷ []) (before ++ sent) new
  steps_carry Opened service next slots new frame sent came before e h all = opening service slots new frame sent came before e h.0 all
  steps_carry Data service next slots new frame sent came before e h all =
      taking (open_at slots frame.connection) service next slots new frame sent came before e refl h all
  steps_carry Ended service next slots new frame sent came before e h all =
      ending (open_at slots frame.connection) slots new frame sent came before refl h.0 all
  steps_carry Stop service next slots new frame sent came before e (none, _, stay) all =
      subst (λ s. AreCarried handed given (came ++ frame ∷ []) (before ++ s) new) (sym none)
      (subst (λ n. AreCarried handed given (came ++ frame ∷ []) (before ++ []) n) (sym stay) (stop_stays handed given slots frame came before e all))

  -- what a frame does by its kind keeps all connections carried
  pub carried : (service next : S) (slots new : List (Option C)) (frame : StreamFrame) (sent : List StreamFrame)
      → StepsOn opens takes handed given refusal frame.kind service slots frame.connection frame.bytes sent next new
      → Carried opens takes handed given refusal service slots frame sent next new
  carried service next slots new frame sent h = record {
    steps = h;
    carries = λ came before all. steps_carry frame.kind service next slots new frame sent came before refl h all;
  }

  pub carried_by : (kind : StreamKind) (service next : S) (slots new : List (Option C)) (frame : StreamFrame) (sent : List StreamFrame)
      → frame.kind ≡ kind → StepsOn opens takes handed given refusal kind service slots frame.connection frame.bytes sent next new
      → Carried opens takes handed given refusal service slots frame sent next new
  carried_by kind service next slots new frame sent e h =
      carried service next slots new frame sent
      (subst (λ k. StepsOn opens takes handed given refusal k service slots frame.connection frame.bytes sent next new) (sym e) h)
