-- How stores end.
use Rattle.std.proofs.Common.{◌≡◌, ◌≢◌, ℕ, ◌+◌, ◌*◌, ◌≤◌, List, [], ◌∷◌, Some, true, length, get_or, zero, suc, length-set, refl, sym, ◌∙◌, ap, subst, arith, rules}
use Rattle.std.specs.List.{All}
use Rattle.std.proofs.lemmas.List.Elements.{All-head, All-tail}
use Rattle.wh_model.specs.declared.memory.Got.TheVariants.{Value, NotReady}
use Rattle.wh_model.specs.Execution.Memory.{writing}
use Rattle.wh_model.specs.Execution.{Stores}
use Rattle.wh_space_model.specs.declared.states.Page.TheVariants.{Private}
use Rattle.wh_space_model.specs.Breaks.{Breaks}
use Rattle.wh_space_model.specs.{BreaksEach, Space, sharers, view, IsAtHand, may_take, pages_of_need, IsSound, count, page_at, put, shares, untouched, Fills, Overwrites}
use Rattle.wh_space_model.specs.Ready.{Ready}
use Rattle.wh_space_model.proofs.BrokenEach.{broken_off}
use Rattle.wh_space_model.proofs.Breaking.{broke}
use Rattle.wh_space_model.proofs.Counting.{double, frames_one_page, frames_two_pages, shared_frame, single}
use Rattle.wh_space_model.proofs.Filled.{stores_are_right}
use Rattle.wh_space_model.proofs.Filling.{at_hand, both_want, double_most, on_none, shares_it}
use Rattle.wh_space_model.proofs.Deciding.{no_bytes_are_ready}
use Rattle.wh_space_model.proofs.Putting.{put_other}
use Rattle.wh_space_model.proofs.Reading.{view_length}
use Rattle.wh_space_model.proofs.Sums.{put_tally}
use Rattle.wh_space.specs.Steps.{CanBreak, CanStep}
use Rattle.wh_space.proofs.Loading.{Hand, one_hand}

-- ---- one page

pub can_step_one : (s : Space) (i p : ℕ) → CanBreak s i p → CanStep s i true (p ∷ [])
can_step_one s i p can = (one_hand s i p can.0, can.1)

pub cannot_step_one : (s : Space) (i p : ℕ) → ¬ CanBreak s i p → ¬ CanStep s i true (p ∷ [])
cannot_step_one s i p never can = never (All-head (λ q. Hand s i q) p [] can.0, can.1)

-- ---- two pages

hands : (s : Space) (i p q : ℕ) → All (λ p. IsAtHand (page_at s.tables i p)) (p ∷ q ∷ []) → Hand s i p × Hand s i q
hands s i p q all = (All-head (λ q. Hand s i q) p (q ∷ []) all, All-head (λ q. Hand s i q) q [] (All-tail (λ q. Hand s i q) p (q ∷ []) all))

pub can_first : (s : Space) (i p : ℕ) → IsSound s → CanStep s i true (p ∷ (p + 1) ∷ []) → CanBreak s i p
can_first s i p sound can =
    let h = hands s i p (p + 1) can.0 in
    let x = at_hand (page_at s.tables i p) h.0 in
    let y = at_hand (page_at s.tables i (p + 1)) h.1 in
    let one = frames_one_page s i p x.0 sound.frames x.1 in
    let two = frames_two_pages s i p (p + 1) x.0 y.0 sound.frames x.1 y.1 in
    let most : single s (shared_frame x.0) ≤ double s (shared_frame x.0) (shared_frame y.0) = double_most s (shared_frame x.0) (shared_frame y.0) in
    let enough = can.1 in
    (h.0, omega arith)

-- the first page was unshared: the other one stays where it is
pub other_page : (s : Space) (i p q : ℕ) (mid : Space) → IsSound s → Breaks s i p mid → q ≢ p → page_at mid.tables i q ≡ page_at s.tables i q
unfolding broke
other_page s i p q mid sound breaks other = search (rules, broken_off, put_other)

pub can_second : (s : Space) (i p : ℕ) (mid : Space) → IsSound s → CanStep s i true (p ∷ (p + 1) ∷ []) → Breaks s i p mid → CanBreak mid i (p + 1)
unfolding broke
can_second s i p mid sound can breaks =
    let h = hands s i p (p + 1) can.0 in
    let x = at_hand (page_at s.tables i p) h.0 in
    let y = at_hand (page_at s.tables i (p + 1)) h.1 in
    let two = frames_two_pages s i p (p + 1) x.0 y.0 sound.frames x.1 y.1 in
    let enough = can.1 in
    let first = broken_off s i p mid sound breaks in
    let page : first.page ≡ x.0 = (let both : Some first.page ≡ Some x.0 = sym first.was ∙ x.1 in cc) in
    let share : (h : ℕ) → sharers mid h + shares h x.0 ≡ sharers s h + 0 =
    λ h. (let a = put_tally (shares h) s.tables i p x.0 (Private first.frame) x.1 in let t = ap (λ (a : Space). count (shares h) a.tables) first.is in omega arith) in
    let there : page_at mid.tables i (p + 1) ≡ Some y.0 = other_page s i p (p + 1) mid sound breaks (λ e. omega arith) ∙ y.1 in
    let together = both_want s mid (shared_frame x.0) (shared_frame y.0) (λ h. (let k = share h in omega arith)) (λ f is. (let k = share f in let o = shares_it x.0 f is in omega arith)) in
    let takes : may_take mid i + (untouched x.0 + single s (shared_frame x.0)) ≡ may_take s i = subst (λ z. may_take mid i + (untouched z + single s (shared_frame z)) ≡ may_take s i) page first.takes in
    let wants = frames_one_page mid i (p + 1) y.0 first.sound.frames there in
    (rw there y.2, omega arith)

-- ---- how they end

pub overwrites : (s mid s2 : Space) (i k : ℕ) (given ps : List ℕ) → pages_of_need (writing k (length given)) ≡ ps → BreaksEach s i ps mid → Fills mid i k given s2 → Overwrites s i k given s2
overwrites s mid s2 i k given ps pages breaks fills = record { mid = mid; breaks = subst (λ z. BreaksEach s i z mid) (sym pages) breaks; fills = fills }

pub stored : (s s2 : Space) (i k : ℕ) (given ps : List ℕ) → IsSound s → k + length given ≤ 4096 * length (get_or s.tables i []) → pages_of_need (writing k (length given)) ≡ ps → CanStep s i true ps
    → Overwrites s i k given s2 → Stores (Ready s i) (view s i) k given Value (view s2 i)
stored s s2 i k given ps sound fits pages can over =
    let long = view_length s i sound in
    (omega arith, (stores_are_right s i k given s2 sound over).sees, subst (CanStep s i true) (sym pages) can)

pub not_stored : (s : Space) (i k : ℕ) (given : List ℕ) → IsSound s → k + length given ≤ 4096 * length (get_or s.tables i []) → ¬ Ready s i (writing k (length given))
    → Stores (Ready s i) (view s i) k given (NotReady (writing k (length given))) (view s i)
not_stored s i k given sound fits away = let long = view_length s i sound in (omega arith, refl, refl, away)

-- no bytes
pub over_none : (s : Space) (i k : ℕ) (given : List ℕ) → length given ≡ 0 → Overwrites s i k given s
over_none s i k [] none = record { mid = s; breaks = refl; fills = on_none s i k }
over_none s i k (x ∷ given) none = absurd (omega arith)

pub no_step : (s : Space) (i : ℕ) → IsSound s → CanStep s i true []
no_step s i sound = no_bytes_are_ready s i (writing 0 0) refl

-- another page leaves a table as long as it was
put_length : {X : Type 0} (xss : List (List X)) (i p : ℕ) (x : X) (j : ℕ) → length (get_or (put xss i p x) j []) ≡ length (get_or xss j [])
put_length [] i p x j = refl
put_length (xs ∷ xss) zero p x zero = length-set xs p x
put_length (xs ∷ xss) zero p x (suc j) = refl
put_length (xs ∷ xss) (suc i) p x zero = refl
put_length (xs ∷ xss) (suc i) p x (suc j) = put_length xss i p x j

pub same_table : (s : Space) (i p : ℕ) (mid : Space) → IsSound s → Breaks s i p mid → length (get_or mid.tables i []) ≡ length (get_or s.tables i [])
unfolding broke
same_table s i p mid sound breaks = search (rules, broken_off, put_length)
