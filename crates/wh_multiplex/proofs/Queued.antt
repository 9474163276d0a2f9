-- Frames that are queued, and slots that are emptied and filled.
use Rattle.std.proofs.Common.{◌≡◌, ℕ, zero, suc, ◌^◌, ◌<◌, ◌≤◌, Bool, true, false, List, [], ◌∷◌, ◌++◌, length, set, flat_map, if◌then◌else◌, Option, Some, None, MatchOption, All, refl, sym, ap, ◌∙◌, subst, append_assoc, append-nil}
use Rattle.std.proofs.lemmas.List.{flat_map_more, set-get_or, set-set}
use Rattle.std.proofs.lemmas.List.Elements.{All-push}
use Rattle.wh_multiplex.specs.declared.frame.StreamFrame.{StreamFrame}
use Rattle.wh_multiplex.specs.declared.frame.StreamKind.TheVariants.{Data}
use Rattle.wh_multiplex.specs.StreamFrames.{stream_frame_bytes, stream_bytes}
use Rattle.wh_multiplex.specs.Multiplexing.{IsDataOn, Carries, close_frame, Sends, ServiceTurns, IsServiceTurn, open_at, ConnectionTakes, ConnectionEnds}

-- the frame that carries these bytes on connection c
abbrev pub data_of : ℕ → List ℕ → StreamFrame
data_of c bytes = record { connection = c; kind = Data; bytes = bytes }

pub Carries-more : (c : ℕ) (went piece : List ℕ) (parts : List StreamFrame) → c < 2 ^ 32 → length piece ≤ 65536 → Carries c went parts
    → Carries c (went ++ piece) (parts ++ data_of c piece ∷ [])
Carries-more c went piece parts lt le h = record {
  each = All-push (IsDataOn c) parts (data_of c piece) h.each (refl, refl, (lt, le));
  joined = sym (flat_map_more (λ (frame : StreamFrame). frame.bytes) [] parts (data_of c piece)) ∙ ap (λ l. l ++ piece) h.joined;
}

pub queued_more : (old mid new : List ℕ) (parts : List StreamFrame) (frame : StreamFrame) → mid ≡ old ++ stream_bytes parts → new ≡ mid ++ stream_frame_bytes frame
    → new ≡ old ++ stream_bytes (parts ++ frame ∷ [])
queued_more old mid new parts frame p q = q ∙ ap (λ l. l ++ stream_frame_bytes frame) p ∙ flat_map_more stream_frame_bytes old parts frame

pub all_went : (bytes went rest : List ℕ) → bytes ≡ went ++ rest → rest ≡ [] → went ≡ bytes
all_went bytes went rest p q = sym (p ∙ ap (λ l. went ++ l) q ∙ append-nil went)

pub Sends-done : (c : ℕ) (bytes went : List ℕ) (is_done : Bool) (parts : List StreamFrame) → Carries c went parts → went ≡ bytes → is_done ≡ true
    → Sends c bytes is_done (parts ++ close_frame c ∷ [])
Sends-done c bytes went is_done parts h e done =
    (parts, subst (λ b. Carries c b parts) e h, ap (λ b. parts ++ (if b then close_frame c ∷ [] else [])) (sym done))

pub Sends-open : (c : ℕ) (bytes went : List ℕ) (is_done : Bool) (parts : List StreamFrame) → Carries c went parts → went ≡ bytes → is_done ≡ false
    → Sends c bytes is_done parts
Sends-open c bytes went is_done parts h e done =
    (parts, subst (λ b. Carries c b parts) e h, sym (append-nil parts) ∙ ap (λ b. parts ++ (if b then close_frame c ∷ [] else [])) (sym done))

module _ {C : Type 0} where
  set_none : (slots : List (Option C)) (c : ℕ) → open_at slots c ≡ None → set slots c None ≡ slots
  set_none slots c e = ap (λ slot. set slots c slot) (sym e) ∙ set-get_or slots c None

  abbrev ends_at : List (Option C) → List (Option C) → ℕ → List StreamFrame → Option C → Type 0
  ends_at slots new c sent slot =
      MatchOption slot ((sent ≡ []) × (new ≡ slots)) (λ connection. Sends c [] true sent × (new ≡ set slots c None))

  pub set_done : (slots new : List (Option C)) (c : ℕ) (after : C) (is_done : Bool) → new ≡ set slots c None → is_done ≡ true
      → new ≡ set slots c (if is_done then None else Some after)
  set_done slots new c after is_done p done = p ∙ ap (λ b. set slots c (if b then None else Some after)) (sym done)

  pub set_open : (slots mid new : List (Option C)) (c : ℕ) (after : C) (is_done : Bool) → mid ≡ set slots c None → new ≡ set mid c (Some after)
      → is_done ≡ false → new ≡ set slots c (if is_done then None else Some after)
  set_open slots mid new c after is_done p q done =
      q ∙ ap (λ s. set s c (Some after)) p ∙ set-set slots c None (Some after) ∙ ap (λ b. set slots c (if b then None else Some after)) (sym done)

  -- one more slot with no connection
  pub none_more : (xs : List (Option C)) → ((k : ℕ) → open_at xs k ≡ None) → (k : ℕ) → open_at (xs ++ None ∷ []) k ≡ None
  none_more [] h zero = refl
  none_more [] h (suc k) = refl
  none_more (x ∷ xs) h zero = h 0
  none_more (x ∷ xs) h (suc k) = none_more xs (λ n. h (suc n)) k

  pub ConnectionEnds-none : (slots new : List (Option C)) (c : ℕ) → open_at slots c ≡ None → new ≡ set slots c None → ConnectionEnds slots c [] new
  ConnectionEnds-none slots new c e p =
      subst (λ slot. ends_at slots new c [] slot) (sym e) (refl, p ∙ set_none slots c e)

  pub ConnectionEnds-some : (slots new : List (Option C)) (c : ℕ) (connection : C) (sent : List StreamFrame) → open_at slots c ≡ Some connection → Sends c [] true sent
      → new ≡ set slots c None → ConnectionEnds slots c sent new
  ConnectionEnds-some slots new c connection sent e sends p =
      subst (λ slot. ends_at slots new c sent slot) (sym e) (sends, p)

module _ {S C : Type 0} (takes : ServiceTurns S C) (handed given : C → List ℕ) where
  abbrev takes_at : S → List (Option C) → ℕ → List ℕ → List StreamFrame → S → List (Option C) → Option C → Type 0
  takes_at service slots c bytes sent next new slot =
      MatchOption slot ((sent ≡ []) × (next ≡ service) × (new ≡ slots)) (λ connection.
      (answer : List ℕ) × (is_done : Bool) × (after : C) × IsServiceTurn takes handed given service connection bytes answer is_done next after
      × Sends c answer is_done sent × (new ≡ set slots c (if is_done then None else Some after)))

  pub ConnectionTakes-none : (service : S) (slots new : List (Option C)) (c : ℕ) (bytes : List ℕ) → open_at slots c ≡ None → new ≡ set slots c None
      → ConnectionTakes takes handed given service slots c bytes [] service new
  ConnectionTakes-none service slots new c bytes e p =
      subst (takes_at service slots c bytes [] service new) (sym e) (refl, refl, p ∙ set_none slots c e)

  pub ConnectionTakes-some : (service next : S) (slots new : List (Option C)) (c : ℕ) (bytes answer : List ℕ) (connection after : C) (is_done : Bool) (sent : List StreamFrame)
      → open_at slots c ≡ Some connection → IsServiceTurn takes handed given service connection bytes answer is_done next after → Sends c answer is_done sent
      → new ≡ set slots c (if is_done then None else Some after)
      → ConnectionTakes takes handed given service slots c bytes sent next new
  ConnectionTakes-some service next slots new c bytes answer connection after is_done sent e turn sends p =
      subst (takes_at service slots c bytes sent next new) (sym e) (answer, is_done, after, turn, sends, p)
