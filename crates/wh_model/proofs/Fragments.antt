-- Fragments lie in one page each, and together they are the segments.
use Rattle.std.proofs.Common.{◌≡◌, ℕ, zero, suc, ◌+◌, ◌*◌, ◌%◌, ◌==◌, ◌<◌, ◌≤◌, map, Bool, false, List, [], ◌∷◌, ◌++◌, length, refl, sym, ap, subst, arith, ◌∙◌, if◌then◌else◌, take-append-drop, length-append, length-take, length-drop, rules}
use Rattle.std.specs.List.{AllByRecursion}
use Rattle.wh_model.specs.Execution.Store.{Store}
use Rattle.wh_model.specs.Execution.{written, Piece, Placed, onto_piece, cut_up, fragments, Within, with_pieces, begins, first_size, IsInitial, needs_more, out_of_bounds, in_bounds, Parameters, Beginning}
use Rattle.std.proofs.lemmas.List.{length-replicate}
use Rattle.wh_model.specs.Format.{Module}
use Rattle.wh_model.specs.Execution.Store.{Instance}
use Rattle.wh_model.specs.Laws.{InOnePage, FragmentsInPages, FragmentsWithin, FragmentsWrite, LaterAtMultiples, CutAtMultiples, CutOfThree, BeginningWrites}

-- ---- writing

pub length-written : (bs given : List ℕ) (at : ℕ) → at + length given ≤ length bs → length (written bs at given) ≡ length bs
length-written bs given at h = simp (length-append, length-take, length-drop) (omega arith)

written_later : (x : ℕ) (bs given : List ℕ) (at : ℕ) → written (x ∷ bs) (suc at) given ≡ x ∷ written bs at given
written_later x bs given at = let e : suc at + length given ≡ suc (at + length given) = omega arith in rw e refl

write_nothing : (bs : List ℕ) (at : ℕ) → written bs at [] ≡ bs
write_nothing bs at = let e : at + 0 ≡ at = omega arith in rw e (take-append-drop at bs)

-- a byte, and then those behind it
write_on : (bs : List ℕ) (at b : ℕ) (items : List ℕ) → at + suc (length items) ≤ length bs → written (written bs at (b ∷ [])) (at + 1) items ≡ written bs at (b ∷ items)
write_on [] at b items h = absurd (omega arith)
write_on (x ∷ bs) zero b items h = search rules
write_on (x ∷ bs) (suc at) b items h =
    let e : suc at + 1 ≡ suc (at + 1) = omega arith in
    ap (λ w. written w (suc at + 1) items) (written_later x bs (b ∷ []) at) ∙ rw e (written_later x (written bs at (b ∷ [])) items (at + 1))
    ∙ ap (λ w. x ∷ w) (write_on bs at b items (omega arith)) ∙ sym (written_later x bs (b ∷ items) at)

-- ---- pieces

with_append : (s : Store) (ps qs : List Piece) → with_pieces s (ps ++ qs) ≡ with_pieces (with_pieces s ps) qs
with_append s [] qs = refl
with_append s (p ∷ ps) qs = with_append (record s { bytes = written s.bytes p.at p.items }) ps qs

-- the pieces begin at that place, with not more than n bytes
abbrev Begins : ℕ → ℕ → List Piece → Type 0
Begins at most [] = Unit {0}
Begins at most (p ∷ ps) = (p.at ≡ at) × (length p.items ≤ most)

abbrev longer_piece : ℕ → ℕ → Piece → Piece
longer_piece at b p = record { at = at; items = b ∷ p.items }

abbrev either : Bool → ℕ → ℕ → Piece → List Piece → List Piece
either c at b p ps = if c then record { at = at; items = b ∷ [] } ∷ p ∷ ps else longer_piece at b p ∷ ps

onto_begins : (at b most : ℕ) (ps : List Piece) → Begins (at + 1) most ps → Begins at (suc most) (onto_piece at b ps)
onto_begins at b most [] h = (refl, omega arith)
onto_begins at b most (p ∷ ps) h = search rules

cut_begins : (at : ℕ) (items : List ℕ) → Begins at (length items) (cut_up at items)
cut_begins at [] = tt
cut_begins at (b ∷ bs) = onto_begins at b (length bs) (cut_up (at + 1) bs) (cut_begins (at + 1) bs)

-- ---- pages

not_zero : (n : ℕ) → (n == 0) ≡ false → 0 < n
not_zero zero e = absurd (cc e)
not_zero (suc n) e = omega arith

onto_in_page : (at b most : ℕ) (ps : List Piece) → Begins (at + 1) most ps → AllByRecursion InOnePage ps → AllByRecursion InOnePage (onto_piece at b ps)
onto_in_page at b most [] h w = ((omega arith, omega arith), tt)
onto_in_page at b most (p ∷ ps) h w = search rules

cut_in_pages : (at : ℕ) (items : List ℕ) → AllByRecursion InOnePage (cut_up at items)
cut_in_pages at [] = tt
cut_in_pages at (b ∷ bs) = onto_in_page at b (length bs) (cut_up (at + 1) bs) (cut_begins (at + 1) bs) (cut_in_pages (at + 1) bs)

all_append : (P : Piece → Type 0) (ps qs : List Piece) → AllByRecursion P ps → AllByRecursion P qs → AllByRecursion P (ps ++ qs)
all_append P [] qs x y = y
all_append P (p ∷ ps) qs x y = (x.0, all_append P ps qs x.1 y)

pub fragments_in_pages : FragmentsInPages
fragments_in_pages [] = tt
fragments_in_pages (p ∷ ps) = all_append InOnePage (cut_up p.at p.items) (fragments ps) (cut_in_pages p.at p.items) (fragments_in_pages ps)

-- ---- where they end

onto_within : (n at b most : ℕ) (ps : List Piece) → Begins (at + 1) most ps → at + 1 ≤ n → Within n ps → Within n (onto_piece at b ps)
onto_within n at b most [] h low w = (low, tt)
onto_within n at b most (p ∷ ps) h low w = search rules

cut_within : (n at : ℕ) (items : List ℕ) → at + length items ≤ n → Within n (cut_up at items)
cut_within n at [] low = tt
cut_within n at (b ∷ bs) low =
    onto_within n at b (length bs) (cut_up (at + 1) bs) (cut_begins (at + 1) bs) (omega (arith, low)) (cut_within n (at + 1) bs (omega (arith, low)))

pub fragments_within : FragmentsWithin
fragments_within n [] h = tt
fragments_within n (p ∷ ps) h = all_append (λ q. q.at + length q.items ≤ n) (cut_up p.at p.items) (fragments ps) (cut_within n p.at p.items h.0) (fragments_within n ps h.1)

-- ---- what is written

abbrev over : Store → ℕ → List ℕ → Store
over s at given = record s { bytes = written s.bytes at given }

onto_writes : (s : Store) (at b most : ℕ) (ps : List Piece) → Begins (at + 1) most ps → at + suc most ≤ length s.bytes → with_pieces s (onto_piece at b ps) ≡ with_pieces (over s at (b ∷ [])) ps
onto_writes s at b most [] h room = refl
onto_writes s at b most (p ∷ ps) h room = search (rules, write_on, ℕ)

cut_writes : (s : Store) (at : ℕ) (items : List ℕ) → at + length items ≤ length s.bytes → with_pieces s (cut_up at items) ≡ over s at items
cut_writes s at [] room = ap (λ (w : List ℕ). record s { bytes = w }) (sym (write_nothing s.bytes at))
cut_writes s at (b ∷ bs) room =
    onto_writes s at b (length bs) (cut_up (at + 1) bs) (cut_begins (at + 1) bs) room
    ∙ cut_writes (over s at (b ∷ [])) (at + 1) bs (omega (arith, length-written s.bytes (b ∷ []) at (omega arith)))
    ∙ ap (λ (w : List ℕ). record s { bytes = w }) (write_on s.bytes at b bs room)

pub fragments_write : FragmentsWrite
fragments_write s [] h = refl
fragments_write s (p ∷ ps) h =
    with_append s (cut_up p.at p.items) (fragments ps) ∙ ap (λ (w : Store). with_pieces w (fragments ps)) (cut_writes s p.at p.items h.0)
    ∙ fragments_write (over s p.at p.items) ps (subst (λ n. Within n ps) (sym (length-written s.bytes p.items p.at h.0)) h.1)

-- ---- where a segment is cut

onto_later : (at b : ℕ) (ps : List Piece) → LaterAtMultiples ps → LaterAtMultiples (onto_piece at b ps)
onto_later at b [] h = tt
onto_later at b (p ∷ ps) h = search rules

pub cut_at_multiples : CutAtMultiples
cut_at_multiples at [] = tt
cut_at_multiples at (b ∷ bs) = onto_later at b (cut_up (at + 1) bs) (cut_at_multiples (at + 1) bs)

pub cut_of_three : CutOfThree
cut_of_three x y z = refl

-- ---- what an instance has to write

writes_segments : {m : Module} {p : Parameters} {b : Beginning} → IsInitial m p b → (inst : Instance) (s : Store) (ps : List Piece) → b ≡ begins inst s ps
    → (segments : List Piece) × Placed s.globals (map (λ d. (d.offset, d.init)) m.segments) segments × (with_pieces s ps ≡ with_pieces s segments)
writes_segments (needs_more x) inst s ps e = absurd (cc e)
writes_segments (out_of_bounds q r t) inst s ps e = absurd (cc e)
writes_segments {m = m} (in_bounds {globals = gs} {segments = ds} q r t u) inst s ps e =
    let store = stored e in
    let pieces : fragments ds ≡ ps = cc e in
    let size : length s.bytes ≡ first_size m.memories * 65536 = ap (λ (w : Store). length w.bytes) (sym store) ∙ length-replicate {A = ℕ} (first_size m.memories * 65536) 0 in (
      ds,
      subst (λ (w : Store). Placed w.globals (map (λ d. (d.offset, d.init)) m.segments) ds) store r.segments_at,
      ap (with_pieces s) (sym pieces) ∙ fragments_write s ds (subst (λ n. Within n ds) (sym size) u),
    )
  where
    stored : {inst inst2 : Instance} {s s2 : Store} {ps ps2 : List Piece} → begins inst s ps ≡ begins inst2 s2 ps2 → s ≡ s2
    stored e = cc e

pub beginning_writes : BeginningWrites
beginning_writes m p inst s ps x = writes_segments x inst s ps refl
