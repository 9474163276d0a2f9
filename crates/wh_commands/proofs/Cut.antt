-- A line is cut into words at its spaces.
use Rattle.std.proofs.Common.{◌≡◌, ◌≢◌, ℕ, ◌<◌, List, [], ◌∷◌, ◌++◌, All, IsTrue, IsUtf8, refl, ap, ◌∙◌, arith}
use Rattle.std.specs.List.{AllByRecursion}
use Rattle.std.proofs.lemmas.Bool.Decides.{nat_tests}
use Rattle.std.proofs.lemmas.List.Elements.{recursion_from_All}
use Rattle.std.proofs.lemmas.Str.{IsUtf8-from_ascii}
use Rattle.std.proofs.lemmas.Str.Ascii.{IsAscii-from_all}
use Rattle.wh_script_model.specs.{is_name_byte, IsName, IsWord, words_of}

cut_by : (a b : List ℕ) → AllByRecursion (λ n. n ≢ 32) a → words_of (a ++ 32 ∷ b) ≡ a ∷ words_of b
cut_by [] b h = refl
cut_by (x ∷ a) b h = let ne = h.0 in rw (cut_by a b h.1) (grind (arith, nat_tests))

whole_by : (a : List ℕ) → AllByRecursion (λ n. n ≢ 32) a → words_of a ≡ a ∷ []
whole_by [] h = refl
whole_by (x ∷ a) h = let ne = h.0 in rw (whole_by a h.1) (grind (arith, nat_tests))

pub words_cut : (line a b : List ℕ) → line ≡ a ++ 32 ∷ b → All (λ n. n ≢ 32) a → words_of line ≡ a ∷ words_of b
words_cut line a b e free = ap words_of e ∙ cut_by a b (recursion_from_All (λ n. n ≢ 32) a free)

pub one_word : (line : List ℕ) → All (λ n. n ≢ 32) line → words_of line ≡ line ∷ []
one_word line free = whole_by line (recursion_from_All (λ n. n ≢ 32) line free)

pub word_utf8 : (word : List ℕ) → IsWord word → IsUtf8 word
word_utf8 word w = IsUtf8-from_ascii word (IsAscii-from_all word w.ascii)

name_byte_plain : (b : ℕ) → IsTrue (is_name_byte b) → (b < 128) × (b ≢ 32)
name_byte_plain b t = (grind arith, λ e. grind arith)

-- a name is a word
pub name_word : (name : List ℕ) → IsName name → IsWord name
name_word name n = record {
  some = n.some;
  ascii = λ k d lt. (name_byte_plain _ (n.each k d lt)).0;
  spaceless = λ k d lt. (name_byte_plain _ (n.each k d lt)).1;
}
