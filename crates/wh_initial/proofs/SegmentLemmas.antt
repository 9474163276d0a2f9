-- Where segments belong: their offsets, and that they end within a size.
use Rattle.std.proofs.Common.{◌≡◌, ℕ, suc, ◌+◌, ◌<◌, ◌≤◌, List, [], ◌∷◌, length, map, refl, sym, ap, subst, arith, All}
use Rattle.std.specs.List.{AllByRecursion}
use Rattle.std.proofs.lemmas.List.{length-map}
use Rattle.wh_model.specs.declared.ValType.TheVariants.{I32}
use Rattle.wh_model.specs.Format.{Code}
use Rattle.wh_model.specs.Validity.{Context, ValidElement, ValidData}
use Rattle.wh_model.specs.Execution.{Value, Placed, Piece, Within}
use Rattle.wh_control.specs.Represents.{bits_of}
use Rattle.wh_syntax.specs.declared.module.Element.{Element}
use Rattle.wh_syntax.specs.declared.module.Data.{Data}
use Rattle.wh_syntax.specs.View.{view_element, view_data}
use Rattle.wh_validate.proofs.Lists.{recursion_each}
use Rattle.wh_initial.specs.ConstantWords.{word_in, IsSeen, IsOffset, element_piece, data_piece}
use Rattle.wh_initial.proofs.ValueLemmas.{AreTyped, HasValue, has_value}
use Rattle.wh_initial.proofs.FuncLemmas.{funcs_below}

-- ---- offsets

value_offset : (values : List Value) (e : Code) → HasValue values e I32 → IsOffset (map bits_of values) e
value_offset values e h = (subst (λ n. IsSeen n e) (sym (length-map values bits_of)) h.seen, h.fits)

-- of offsets with values of 32 bits
module _ {X : Type 0} (offset : X → Code) (values : List Value) where
  pub all_offsets : (xs : List X) → AllByRecursion (λ x. HasValue values (offset x) I32) xs → All (λ x. IsOffset (map bits_of values) (offset x)) xs
  all_offsets xs valued = recursion_each (λ x. IsOffset (map bits_of values) (offset x)) (λ x. HasValue values (offset x) I32) (λ x h. value_offset values (offset x) h) xs valued

pub elements_valued : (c : Context) (values : List Value) (es : List Element) → AreTyped (map (λ g. g.value) c.globals) values → AllByRecursion (ValidElement c) (map view_element es) → AllByRecursion (λ e. HasValue values e.offset I32) es
elements_valued c values [] typed valid = tt
elements_valued c values (e ∷ es) typed valid = (has_value c.globals values e.offset I32 typed valid.0.1, elements_valued c values es typed valid.1)

pub segments_valued : (c : Context) (values : List Value) (ss : List Data) → AreTyped (map (λ g. g.value) c.globals) values → AllByRecursion (ValidData c) (map view_data ss) → AllByRecursion (λ s. HasValue values s.offset I32) ss
segments_valued c values [] typed valid = tt
segments_valued c values (s ∷ ss) typed valid = (has_value c.globals values s.offset I32 typed valid.0.1, segments_valued c values ss typed valid.1)

pub elements_placed : (values : List Value) (es : List Element) → AllByRecursion (λ e. HasValue values e.offset I32) es → Placed values (map (λ e. (e.offset, e.init)) (map view_element es)) (map (element_piece (map bits_of values)) es)
elements_placed values [] valued = refl
elements_placed values (e ∷ es) valued = (word_in (map bits_of values) e.offset, map (element_piece (map bits_of values)) es, valued.0.evaluates, refl, elements_placed values es valued.1)

pub segments_placed : (values : List Value) (ss : List Data) → AllByRecursion (λ s. HasValue values s.offset I32) ss → Placed values (map (λ d. (d.offset, d.init)) (map view_data ss)) (map (data_piece (map bits_of values)) ss)
segments_placed values [] valued = refl
segments_placed values (s ∷ ss) valued = (word_in (map bits_of values) s.offset, map (data_piece (map bits_of values)) ss, valued.0.evaluates, refl, segments_placed values ss valued.1)

-- ---- bounds

-- pieces that items make end within a size where each item's does
module _ {X : Type 0} (piece : X → Piece) (size : ℕ) where
  pub all_within : (xs : List X) → All (λ x. (piece x).at + length (piece x).items ≤ size) xs → Within size (map piece xs)
  all_within [] all = tt
  all_within (x ∷ xs) all = (all 0 x (omega arith), all_within xs (λ k d lt. all (suc k) d (omega (arith, lt))))

  within_each : (xs : List X) → Within size (map piece xs) → AllByRecursion (λ x. (piece x).at + length (piece x).items ≤ size) xs
  within_each [] within = tt
  within_each (x ∷ xs) within = (within.0, within_each xs within.1)

  pub within_all : (xs : List X) → Within size (map piece xs) → All (λ x. (piece x).at + length (piece x).items ≤ size) xs
  within_all xs within = recursion_each (λ x. (piece x).at + length (piece x).items ≤ size) (λ x. (piece x).at + length (piece x).items ≤ size) (λ x h. h) xs (within_each xs within)

-- ---- what they have

pub elements_name : (c : Context) (n : ℕ) (words : List ℕ) (es : List Element) → length c.funcs ≡ n → AllByRecursion (ValidElement c) (map view_element es) → AllByRecursion (λ (p : Piece). AllByRecursion (λ x. x < n) p.items) (map (element_piece words) es)
elements_name c n words [] count valid = tt
elements_name c n words (e ∷ es) count valid = (funcs_below c n e.init.items count valid.0.2, elements_name c n words es count valid.1)

pub places_mapped : (words : List ℕ) (ss : List Data) → map (λ s. s.at) (map (data_piece words) ss) ≡ map (λ s. word_in words s.offset) ss
places_mapped words [] = refl
places_mapped words (s ∷ ss) = ap (λ w. word_in words s.offset ∷ w) (places_mapped words ss)

pub bytes_mapped : (words : List ℕ) (ss : List Data) → map (λ s. s.items) (map (data_piece words) ss) ≡ map (λ d. d.init) (map view_data ss)
bytes_mapped words [] = refl
bytes_mapped words (s ∷ ss) = ap (λ w. s.init.items ∷ w) (bytes_mapped words ss)
