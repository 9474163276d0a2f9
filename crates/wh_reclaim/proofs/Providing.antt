-- What a provision comes to.
use Rattle.std.proofs.Common.{◌≡◌, ◌∙◌, inl, inr, ℕ, Some, Result, Ok, Err, sym, ap, arith}
use Rattle.std.specs.Prelude.{IfOk, OnErr, OnOk}
use Rattle.wh_model.specs.declared.memory.Need.{Need}
use Rattle.wh_space_model.specs.{tickets, IsProvided, charged_of, MustLeave, Evicts, Space, FailsToProvide, GivesUp, OthersKeepMinimum, Provides, IsSound, WaitsForBytes}
use Rattle.wh_space_model.proofs.Provided.{provision_is_right, serves_way}
use Rattle.wh_reclaim.specs.Providing.{Revokes}
use Rattle.wh_reclaim.proofs.Beginning.{stands_wants}

some_need : {a b : Need} → Some a ≡ Some b → a ≡ b
some_need e = cc

-- it is blocked on one step
pub one_need : (s : Space) (i : ℕ) (a b : Need) → WaitsForBytes s i a → WaitsForBytes s i b → a ≡ b
one_need s i a b first second = some_need (sym (stands_wants s i a first) ∙ stands_wants s i b second)

-- what holds under a premise of each answer
pub under_ok : {E : Type 0} (answer : Result ℕ E) (premise : Type 0) (holds : ℕ → Type 0) → IfOk answer (λ n. premise → holds n) → premise → IfOk answer holds
under_ok (Ok n) premise holds so given = so given
under_ok (Err e) premise holds so given = tt

pub under_err : {E : Type 0} (answer : Result ℕ E) (premise holds : Type 0) → OnErr answer (premise → holds) → premise → OnErr answer holds
under_err (Ok n) premise holds so given = tt
under_err (Err e) premise holds so given = so given

pub is_right : {E : Type 0} (answer : Result ℕ E) (s : Space) (i : ℕ) (need : Need) (s2 : Space) → IsSound s → tickets s ≡ 0 → WaitsForBytes s i need → IfOk answer (λ n. Provides s i need n s2) → IfOk answer (λ n. IsProvided s i need n s2)
is_right (Ok n) s i need s2 sound none stands provides = provision_is_right s i need n s2 sound none stands provides
is_right (Err e) s i need s2 sound none stands provides = tt

charges_still : (mid s2 : Space) (j : ℕ) → GivesUp mid s2 → charged_of s2 j ≡ charged_of mid j
charges_still mid s2 j (inl is) = ap (λ (z : Space). charged_of z j) is
charges_still mid s2 j (inr (k, vacant, is)) = ap (λ (z : Space). charged_of z j) is

-- nobody else is below its minimum that wasn't
pub keeps_others : {E : Type 0} (answer : Result ℕ E) (s : Space) (i : ℕ) (need : Need) (s2 : Space) → IsSound s → tickets s ≡ 0 → WaitsForBytes s i need → IfOk answer (λ n. Provides s i need n s2) → OnErr answer (FailsToProvide s i need s2)
    → OthersKeepMinimum s i s2
keeps_others (Ok n) s i need s2 sound none stands provides fails = (provision_is_right s i need n s2 sound none stands provides).others
keeps_others (Err e) s i need s2 sound none stands provides (moves, mid, serves, gives) = λ j t other there.
    (let way = serves_way s i need moves mid sound none stands serves in
    let least = way.1.others j t other there in
    let same = charges_still mid s2 j gives in
    omega arith)

ticket_free : (mid s2 : Space) → GivesUp mid s2 → tickets s2 ≡ tickets mid
ticket_free mid s2 (inl is) = ap tickets is
ticket_free mid s2 (inr (k, vacant, is)) = ap tickets is

-- no ticket is out afterwards
pub none_left : {E : Type 0} (answer : Result ℕ E) (s : Space) (i : ℕ) (need : Need) (s2 : Space) → IsSound s → tickets s ≡ 0 → WaitsForBytes s i need → IfOk answer (λ n. Provides s i need n s2) → OnErr answer (FailsToProvide s i need s2)
    → tickets s2 ≡ 0
none_left (Ok n) s i need s2 sound none stands (moves, mid, serves, many, served, earmarks) fails =
    ap tickets earmarks.leaves ∙ (serves_way s i need moves mid sound none stands serves).1.none_out
none_left (Err e) s i need s2 sound none stands provides (moves, mid, serves, gives) = ticket_free mid s2 gives ∙ (serves_way s i need moves mid sound none stands serves).1.none_out

-- the page that had to leave has left, where the device did its part
pub revoked : {T E : Type 0} (r : Result T E) (s : Space) (i : ℕ) (need : Need) (j p : ℕ) (s2 : Space) → MustLeave s i need j p → OnOk r (Evicts s j p s2) → OnOk r (Revokes s i need s2)
revoked (Ok x) s i need j p s2 must evicts = (j, p, must, evicts)
revoked (Err e) s i need j p s2 must evicts = tt
