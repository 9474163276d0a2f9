-- The two parts of the list of calls.
use Rattle.std.proofs.Common.{◌≡◌, ℕ, ◌<◌, ◌≤◌, List, [], ◌∷◌, ◌++◌, length, map, drop, slice_get, Some, nat_eq, zero, suc, refl, sym, ◌∙◌, ap, arith, append_assoc, append-nil}
use Rattle.std.specs.Bool.{MatchBool}
use Rattle.std.proofs.lemmas.Bool.Decides.{nat_tests}
use Rattle.std.proofs.lemmas.List.{drop_all}
use Rattle.wh_journal.specs.Calls.{JournalCallState, JournalState, HasPresent, with_end}
use Rattle.wh_journal.specs.declared.calls.CallEnd.TheVariants.{Dead}

-- behind fewer calls than there are there is one
pub present_there : (calls : List JournalCallState) (n : ℕ) → n < length calls → HasPresent (drop n calls)
present_there [] n below = absurd (omega arith)
present_there (c ∷ cs) zero below = (c, cs, refl)
present_there (c ∷ cs) (suc n) below = present_there cs n (omega arith)

-- the first one, if it is found
pub present_is :
    (calls : List JournalCallState) (c : JournalCallState) → slice_get calls 0 ≡ Some c → calls ≡ c ∷ drop 1 calls
present_is [] c found = absurd (cc)
present_is (d ∷ cs) c found = let same : d ≡ c = cc in rw same refl

-- behind all of them there is none
pub present_or_none :
    (calls : List JournalCallState) (n len : ℕ) → len ≡ length calls → n ≤ length calls
    → MatchBool (nat_eq n len) (drop n calls ≡ []) (HasPresent (drop n calls))
present_or_none calls n len is within = grind (arith, nat_tests, drop_all n calls, present_there calls n)

abbrev all_dead : List JournalCallState → List JournalCallState
all_dead calls = map (λ w. with_end w Dead) calls

-- the calls, with those that are still open as Dead
abbrev pub all_ended : JournalState → List JournalCallState
all_ended j = j.ended ++ all_dead j.open_calls

-- they stay as the present call ends so
pub one_ended :
    (j new : JournalState) → HasPresent j.open_calls
    → ((c : JournalCallState) (cs : List JournalCallState) → j.open_calls ≡ c ∷ cs
    → new ≡ record { ended = j.ended ++ with_end c Dead ∷ []; open_calls = cs })
    → all_ended new ≡ all_ended j
one_ended j new there ends =
    rw (ends there.0 there.1 there.2, there.2) (append_assoc j.ended (with_end there.0 Dead ∷ []) (all_dead there.1))

abbrev journal : List JournalCallState → List JournalCallState → JournalState
journal ended others = record { ended = ended; open_calls = others }

same_journal :
    (ended ended2 others others2 : List JournalCallState) → ended ≡ ended2 → others ≡ others2
    → journal ended others ≡ journal ended2 others2
same_journal ended ended2 others others2 first second = rw (first, second) refl

-- once none is open they have ended so
pub none_left :
    (first last : JournalState) (before : List JournalCallState) (c : JournalCallState) (cs : List JournalCallState)
    → first ≡ record { ended = before ++ c ∷ []; open_calls = cs } → all_ended last ≡ all_ended first
    → last.open_calls ≡ []
    → last ≡ record { ended = before ++ c ∷ map (λ w. with_end w Dead) cs; open_calls = [] }
none_left first last before c cs was kept none =
    let whole : all_ended last ≡ last.ended = rw none (append-nil last.ended) in
    same_journal _ _ _ _ (sym whole ∙ kept ∙ ap all_ended was ∙ append_assoc before (c ∷ []) (all_dead cs)) none
