-- Pages that come with whatever bytes the device gives: all see as many bytes as before.
use Rattle.std.proofs.Common.{◌≡◌, ℕ, ◌*◌, inl, inr, Bool, List, [], ◌∷◌, length, get_or, ap, sym, ◌∙◌, rules}
use Rattle.wh_model.specs.declared.memory.Need.{Need}
use Rattle.wh_space_model.specs.declared.states.FetchEnd.{FetchEnd}
use Rattle.wh_space_model.specs.declared.states.Page.{Page}
use Rattle.wh_space_model.specs.declared.states.Page.TheVariants.{Private, Swapped}
use Rattle.wh_space_model.specs.{Space, Move, Serves, comes, goes, IsSound, put, CommitsFetch}
use Rattle.wh_host_model.specs.Host.{FailuresSeeAsMany, FetchesSeeAsMany, ProvisionsSeeAsMany, AllSeeAsMany}
use Rattle.wh_space_model.proofs.Chained.{fails_soundly}
use Rattle.wh_space_model.proofs.Come.{commits_fetch_soundly}
use Rattle.wh_space_model.proofs.Evicted.{row_length}
use Rattle.wh_space_model.proofs.Provided.{provision_is_right, serves_way}
use Rattle.wh_space_model.proofs.Reading.{view_length}
use Rattle.wh_host_model.proofs.Host.Moving.{Claims, claims_of, fetch_claims}

-- page tables are as long as before
pub record AreAsLong (a b : List (List Page)) : Type 0 where
  pub rows : (i : ℕ) → length (get_or b i []) ≡ length (get_or a i [])

long_of : (a b : List (List Page)) → b ≡ a → AreAsLong a b
long_of a b e = record { rows = λ i. ap (λ (t : List (List Page)). length (get_or t i [])) e }

long_then : (a b c : List (List Page)) → AreAsLong a b → AreAsLong b c → AreAsLong a c
long_then a b c x y = record { rows = λ i. y.rows i ∙ x.rows i }

long_put : (a b : List (List Page)) (j p : ℕ) (x : Page) → b ≡ put a j p x → AreAsLong a b
long_put a b j p x e = record { rows = λ i. ap (λ (t : List (List Page)). length (get_or t i [])) e ∙ row_length a j p x i }

as_many : (s s2 : Space) → IsSound s → IsSound s2 → AreAsLong s.tables s2.tables → Claims s2.occupants s.occupants → AllSeeAsMany s s2
as_many s s2 sound sound2 long same = (
  λ j. (let x = same.each j in record { many = view_length s2 j sound2 ∙ ap (λ n. 4096 * n) (long.rows j) ∙ sym (view_length s j sound); wants = x.0; claim = x.1; promise = x.2 }),
  sound2,
)

-- ---- a ticket that comes back

fetch_long : (s s2 : Space) (k : ℕ) (read : Bool) (bytes : List ℕ) (end : FetchEnd) → CommitsFetch s k read bytes end s2 → AreAsLong s.tables s2.tables
fetch_long s s2 k read bytes end (inl (i, f, was, ends, moves)) = long_of s.tables s2.tables (ap (λ (a : Space). a.tables) moves)
fetch_long s s2 k read bytes end (inr (i, p, f, was, inl (ok, long, ends, moves))) = long_put s.tables s2.tables i p (Private f) (ap (λ (a : Space). a.tables) moves)
fetch_long s s2 k read bytes end (inr (i, p, f, was, inr (failed, ends, moves))) = long_put s.tables s2.tables i p (Swapped k) (ap (λ (a : Space). a.tables) moves)

pub fetches_see_as_many : FetchesSeeAsMany
fetches_see_as_many s s2 k read bytes end sound is = search (rules, as_many, commits_fetch_soundly, fetch_long, fetch_claims)

-- ---- a provision

serves_long : (s : Space) (i : ℕ) (need : Need) (moves : List Move) (mid : Space) → Serves s i need moves mid → AreAsLong s.tables mid.tables
serves_long s i need [] mid is = long_of s.tables mid.tables (ap (λ (a : Space). a.tables) is)
serves_long s i need (comes bytes ∷ moves) s2 (mid, before, (p, first, fetches)) =
    long_then s.tables mid.tables s2.tables (serves_long s i need moves mid before) (long_put mid.tables s2.tables i p (Private fetches.frame) (ap (λ (a : Space). a.tables) fetches.leaves))
serves_long s i need (goes ∷ moves) s2 (mid, before, (lacks, (j, p, taken, evicts))) =
    long_then s.tables mid.tables s2.tables (serves_long s i need moves mid before) (long_put mid.tables s2.tables j p (Swapped evicts.slot) (ap (λ (a : Space). a.tables) evicts.leaves))

pub provisions_see_as_many : ProvisionsSeeAsMany
provisions_see_as_many s i need n s2 sound none stands (moves, mid, serves, many, served, earmarks) =
    let way = serves_way s i need moves mid sound none stands serves in
    let right = provision_is_right s i need n s2 sound none stands (moves, mid, serves, many, served, earmarks) in
    as_many s s2 sound right.sound
    (long_then s.tables mid.tables s2.tables (serves_long s i need moves mid serves) (long_of mid.tables s2.tables (ap (λ (a : Space). a.tables) earmarks.leaves)))
    (claims_of (ap (λ (a : Space). a.occupants) earmarks.leaves ∙ way.1.occupants))

pub failures_see_as_many : FailuresSeeAsMany
failures_see_as_many s i need s2 sound none stands (moves, mid, serves, inl is) =
    let way = serves_way s i need moves mid sound none stands serves in
    as_many s s2 sound (fails_soundly s i need s2 sound none stands (moves, mid, serves, inl is))
    (long_then s.tables mid.tables s2.tables (serves_long s i need moves mid serves) (long_of mid.tables s2.tables (ap (λ (a : Space). a.tables) is)))
    (claims_of (ap (λ (a : Space). a.occupants) is ∙ way.1.occupants))
failures_see_as_many s i need s2 sound none stands (moves, mid, serves, inr (k, vacant, is)) =
    let way = serves_way s i need moves mid sound none stands serves in
    as_many s s2 sound (fails_soundly s i need s2 sound none stands (moves, mid, serves, inr (k, vacant, is)))
    (long_then s.tables mid.tables s2.tables (serves_long s i need moves mid serves) (long_of mid.tables s2.tables (ap (λ (a : Space). a.tables) is)))
    (claims_of (ap (λ (a : Space). a.occupants) is ∙ way.1.occupants))
