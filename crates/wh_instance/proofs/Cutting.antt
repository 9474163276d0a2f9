-- Data segments from a cursor on: the first fragment, and those behind it.
use Rattle.std.proofs.Common.{◌≡◌, ℕ, zero, suc, ◌+◌, ◌-◌, ◌*◌, ◌%◌, ◌==◌, ◌<◌, ◌≤◌, min, Bool, true, false, List, [], ◌∷◌, ◌++◌, length, take, drop, Some, slice_get, refl, sym, ap, ◌∙◌, arith, if◌then◌else◌, length-append, length-drop, rules}
use Rattle.std.proofs.Math.Nat.{mul-suc}
use Rattle.std.proofs.lemmas.Bool.{eqb-true}
use Rattle.std.proofs.lemmas.List.{drop-drop}
use Rattle.wh_model.specs.Execution.{Piece, Within, cut_up, onto_piece, fragments}
use Rattle.wh_syntax.specs.declared.module.Data.{Data}
use Rattle.wh_call.proofs.Lists.{drop_at, drop_all}
use Rattle.wh_instance.specs.declared.writing.Cursor.{Cursor}
use Rattle.wh_instance.specs.Pieces.{placed_data, fragments_behind, pieces_left, IsAtByte}

-- ---- one segment

abbrev piece : ℕ → List ℕ → Piece
piece at items = record { at = at; items = items }

not_zero : (n : ℕ) → (n == 0) ≡ false → 0 < n
not_zero zero e = absurd (cc e)
not_zero (suc n) e = omega arith

abbrev either : Bool → ℕ → ℕ → Piece → List Piece → List Piece
either c at b p ps = if c then piece at (b ∷ []) ∷ p ∷ ps else piece at (b ∷ p.items) ∷ ps

-- what is cut off first ends with the bytes, or before the next multiple of 4096
abbrev CutsFirst : ℕ → List ℕ → Type 0
CutsFirst at items = (room n : ℕ) → at % 4096 + room ≡ 4096 → 0 < length items → n ≡ min (length items) room → cut_up at items ≡ piece at (take n items) ∷ cut_up (at + n) (drop n items)

onto_first : (at b : ℕ) (bs : List ℕ) (p : Piece) (ps : List Piece) (c : Bool) → cut_up (at + 1) bs ≡ p ∷ ps → p.at ≡ at + 1 → ((at + 1) % 4096 == 0) ≡ c → cut_up at (b ∷ bs) ≡ either c at b p ps
onto_first at b bs p ps c first place e = ap (onto_piece at b) first ∙ ap (λ i. either (i % 4096 == 0) at b p ps) place ∙ ap (λ z. either z at b p ps) e

cut_more : (at b : ℕ) (bs : List ℕ) → 0 < length bs → CutsFirst (at + 1) bs → CutsFirst at (b ∷ bs)
cut_more at b bs any later room n ends some is = by_case ((at + 1) % 4096 == 0) refl
  where
    by_case : (c : Bool) → ((at + 1) % 4096 == 0) ≡ c → cut_up at (b ∷ bs) ≡ piece at (take n (b ∷ bs)) ∷ cut_up (at + n) (drop n (b ∷ bs))
    by_case true e =
        let multiple : (at + 1) % 4096 ≡ 0 = eqb-true ((at + 1) % 4096) 0 e in
        let m = min (length bs) 4096 in
        let first = later 4096 m (omega (arith, multiple)) any refl in
        let one : n ≡ 1 = omega (arith, multiple, ends, is, any) in
        rw one (onto_first at b bs (piece (at + 1) (take m bs)) (cut_up (at + 1 + m) (drop m bs)) true first refl e ∙ ap (λ z. piece at (b ∷ []) ∷ z) (sym first))
    by_case false e =
        let inside = not_zero ((at + 1) % 4096) e in
        let m = min (length bs) (room - 1) in
        let first = later (room - 1) m (omega (arith, inside, ends)) any refl in
        let more : n ≡ suc m = omega (arith, inside, ends, is, any) in
        let behind : at + 1 + m ≡ at + suc m = omega arith in
        rw more (onto_first at b bs (piece (at + 1) (take m bs)) (cut_up (at + 1 + m) (drop m bs)) false first refl e ∙ ap (λ i. piece at (b ∷ take m bs) ∷ cut_up i (drop m bs)) behind)

cut_first : (items : List ℕ) (at : ℕ) → CutsFirst at items
cut_first [] at room n ends some is = absurd (omega (arith, some))
cut_first (b ∷ []) at room n ends some is = let one : n ≡ 1 = omega (arith, ends, is) in rw one refl
cut_first (b ∷ x ∷ xs) at room n ends some is = cut_more at b (x ∷ xs) (omega arith) (cut_first (x ∷ xs) (at + 1)) room n ends some is

-- ---- segments at their places

placed_get : (segments : List Data) (places : List ℕ) (i : ℕ) (d : Data) (n : ℕ) → slice_get segments i ≡ Some d → slice_get places i ≡ Some n → slice_get (placed_data segments places) i ≡ Some (piece n d.init.items)
placed_get [] places i d n at_d at_n = absurd (cc at_d)
placed_get (e ∷ segments) [] i d n at_d at_n = absurd (cc at_n)
placed_get (e ∷ segments) (m ∷ places) zero d n at_d at_n = let same : e ≡ d = cc at_d in let place : m ≡ n = cc at_n in ap (λ (f : Data). Some (piece m f.init.items)) same ∙ ap (λ k. Some (piece k d.init.items)) place
placed_get (e ∷ segments) (m ∷ places) (suc i) d n at_d at_n = placed_get segments places i d n at_d at_n

placed_length : (segments : List Data) (places : List ℕ) → length (placed_data segments places) ≡ min (length segments) (length places)
placed_length [] places = omega arith
placed_length (d ∷ segments) [] = omega arith
placed_length (d ∷ segments) (n ∷ places) = let same = placed_length segments places in omega (arith, same)

-- ---- from a cursor on

-- from the first byte on they are all fragments
pub behind_none : (ps : List Piece) → fragments_behind 0 ps ≡ fragments ps
behind_none [] = refl
behind_none (p ∷ ps) = let same : p.at + 0 ≡ p.at = omega arith in ap (λ i. cut_up i p.items ++ fragments ps) same

-- a segment that is written in full is passed over
pub behind_whole : (segments : List Data) (places : List ℕ) (i at : ℕ) (d : Data) (n : ℕ) → slice_get segments i ≡ Some d → slice_get places i ≡ Some n → length d.init.items ≤ at
    → fragments_behind at (drop i (placed_data segments places)) ≡ fragments_behind 0 (drop (i + 1) (placed_data segments places))
behind_whole segments places i at d n at_d at_n full = search (rules, drop_at, placed_get, drop_all, behind_none)

-- behind the last one nothing is left
pub behind_all : (segments : List Data) (places : List ℕ) (i at : ℕ) → min (length segments) (length places) ≤ i → fragments_behind at (drop i (placed_data segments places)) ≡ []
behind_all segments places i at past = search (rules, placed_length, drop_all)

-- the first piece that is left, and those behind it
pub next_fragment : (segments : List Data) (places : List ℕ) (c : Cursor) (d : Data) (n count : ℕ) (bytes : List ℕ) → c.at < length bytes → slice_get segments c.segment ≡ Some d → slice_get places c.segment ≡ Some n → bytes ≡ d.init.items → count ≡ min (length bytes - c.at) (4096 - (n + c.at) % 4096)
    → pieces_left segments places c ≡ piece (n + c.at) (take (c.at + count - c.at) (drop c.at bytes)) ∷ pieces_left segments places (record { segment = c.segment; at = c.at + count })
next_fragment segments places c d n count bytes low at_d at_n same is =
    let ps = placed_data segments places in
    let items = drop c.at bytes in
    let rest = fragments (drop (c.segment + 1) ps) in
    let size = length-drop c.at bytes in
    let first = drop_at ps c.segment (piece n d.init.items) (placed_get segments places c.segment d n at_d at_n) in
    let cut = cut_first items (n + c.at) (4096 - (n + c.at) % 4096) count (omega arith) (omega (arith, size, low)) (is ∙ ap (λ k. min k (4096 - (n + c.at) % 4096)) (sym size)) in
    let behind : n + c.at + count ≡ n + (c.at + count) = omega arith in
    let all : c.at + count - c.at ≡ count = omega arith in
    rw all (ap (fragments_behind c.at) first
    ∙ ap (λ bs. cut_up (n + c.at) (drop c.at bs) ++ rest) (sym same)
    ∙ ap (λ z. z ++ rest) cut
    ∙ ap (λ i. piece (n + c.at) (take count items) ∷ (cut_up i (drop count items) ++ rest)) behind
    ∙ ap (λ bs. piece (n + c.at) (take count items) ∷ (cut_up (n + (c.at + count)) bs ++ rest)) (drop-drop count c.at bytes)
    ∙ ap (λ bs. piece (n + c.at) (take count items) ∷ (cut_up (n + (c.at + count)) (drop (c.at + count) bs) ++ rest)) same
    ∙ ap (λ z. piece (n + c.at) (take count items) ∷ fragments_behind (c.at + count) z) (sym first))

pub there : {A : Type 0} (xs : List A) (i : ℕ) → i < length xs → (x : A) × (slice_get xs i ≡ Some x)
there [] i low = absurd (omega (arith, low))
there (x ∷ xs) zero low = (x, refl)
there (x ∷ xs) (suc i) low = there xs i (omega (arith, low))

pub byte_low : (segments : List Data) (places : List ℕ) (c : Cursor) (d : Data) (bytes : List ℕ) → IsAtByte segments places c → slice_get segments c.segment ≡ Some d → bytes ≡ d.init.items → c.at < length bytes
byte_low segments places c d bytes (e, n, at_e, at_n, low) at_d same = search rules

-- at a byte a piece is left
pub some_left : (segments : List Data) (places : List ℕ) (c : Cursor) → IsAtByte segments places c → ¬ (pieces_left segments places c ≡ [])
some_left segments places c (d, n, at_d, at_n, low) none =
    let count = min (length d.init.items - c.at) (4096 - (n + c.at) % 4096) in
    cc (sym none ∙ next_fragment segments places c d n count d.init.items low at_d at_n refl refl)

-- ---- how many they are

onto_few : (at b n : ℕ) (ps : List Piece) → length ps ≤ n → length (onto_piece at b ps) ≤ suc n
onto_few at b n [] few = omega arith
onto_few at b n (p ∷ ps) few = search rules

-- bytes are no more pieces than bytes
cut_few : (at : ℕ) (items : List ℕ) → length (cut_up at items) ≤ length items
cut_few at [] = omega arith
cut_few at (b ∷ bs) = onto_few at b (length bs) (cut_up (at + 1) bs) (cut_few (at + 1) bs)

pub placed_few : (size : ℕ) (segments : List Data) (places : List ℕ) → Within size (placed_data segments places) → length (fragments (placed_data segments places)) ≤ size * length segments
placed_few size [] places within = omega arith
placed_few size (d ∷ segments) [] within = omega arith
placed_few size (d ∷ segments) (n ∷ places) within =
    let first = cut_few n d.init.items in
    let later = placed_few size segments places within.1 in
    let more = mul-suc size (length segments) in
    omega (arith, length-append (cut_up n d.init.items) (fragments (placed_data segments places)), first, later, within.0, more)
