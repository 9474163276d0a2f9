-- Bytes that are written into pages that stand alone on their frames.
use Rattle.std.proofs.Common.{◌≡◌, ℕ, ◌+◌, ◌*◌, ◌/◌, ◌≤◌, ◌++◌, List, [], ◌∷◌, Some, length, slice_set, refl, sym, ◌∙◌, ap, subst, arith, rules}
use Rattle.wh_model.specs.Execution.{written}
use Rattle.wh_model.specs.Execution.Memory.{writing}
use Rattle.wh_space_model.specs.{tally, one_if, Space, frame_bytes, view, among, pages_of_need, IsSound, owns, page_at, Fills}
use Rattle.wh_space_model.specs.declared.states.Page.TheVariants.{Private}
use Rattle.wh_space_model.proofs.Tally.{one_same}
use Rattle.wh_space_model.proofs.Blocks.{written_parts}
use Rattle.wh_space_model.proofs.Filled.{refilled}
use Rattle.wh_space_model.proofs.Filling.{apart_of, fillable, one_filled}
use Rattle.wh_space_model.proofs.Reading.{on_one_page}

-- into one page
pub fills_page : (s : Space) (i p f r k : ℕ) (given : List ℕ) → IsSound s → page_at s.tables i p ≡ Some (Private f) → r + length given ≤ 4096 → 1 ≤ length given → k ≡ 4096 * p + r
    → Fills s i k given (record s { pool = record s.pool { frames = slice_set s.pool.frames f (written (frame_bytes s f) r given) } })
unfolding refilled
fills_page s i p f r k given sound there fits many place =
    let frames : List (List ℕ) = slice_set s.pool.frames f (written (frame_bytes s f) r given) in
    let one = one_filled s i p f r given (fillable s i sound) there fits in
    let here : k / 4096 ≡ p = omega arith in
    let pages : pages_of_need (writing k (length given)) ≡ p ∷ [] = on_one_page k (length given) many (omega arith) ∙ ap (λ z. z ∷ []) here in
    let some : 1 ≤ tally (one_if p) (p ∷ []) = (let o = one_same p p refl in omega arith) in
    record {
      frames = frames;
      sees = one.sees ∙ ap (λ z. written (view s i) z given) (sym place);
      many = one.many;
      whole = one.whole;
      others = λ h none. one.others h (apart_of s i p f h (p ∷ []) there some (subst (λ z. among (owns h) s i z ≡ 0) pages none));
      after = refl;
    }

-- into two, one after the other
pub fills_both : (s : Space) (i p k : ℕ) (a b given : List ℕ) (s1 s2 : Space) → Fills s i k a s1 → Fills s1 i (k + length a) b s2 → pages_of_need (writing k (length a)) ≡ p ∷ []
    → pages_of_need (writing (k + length a) (length b)) ≡ (p + 1) ∷ [] → pages_of_need (writing k (length given)) ≡ p ∷ (p + 1) ∷ [] → given ≡ a ++ b → k + length a ≤ length (view s i)
    → Fills s i k given s2
fills_both s i p k a b given s1 s2 first second one other both parts fits = search (rules, written_parts)
