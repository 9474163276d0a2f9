-- Which piece is written at a time.
use Rattle.std.proofs.Common.{◌≡◌, ℕ, ◌+◌, ◌≤◌, List, length, map, drop, Some, slice_get, sym, ap, ◌∙◌, arith}
use Rattle.wh_model.specs.Execution.{written, Piece, Within}
use Rattle.wh_syntax.specs.declared.module.Data.{Data}
use Rattle.wh_alone.specs.ModuleCalls.{ArePieces, written_over}
use Rattle.wh_call.proofs.Lists.{mapped_from, mapped_to}
use Rattle.wh_alone.proofs.Lists.{within_at, written_step, length_kept}

-- the piece of this place
pub piece_at : (ps : List Piece) (places : List ℕ) (segments : List Data) (i place : ℕ) (d : Data) → ArePieces ps places segments → slice_get places i ≡ Some place → slice_get segments i ≡ Some d
    → (p : Piece) × (slice_get ps i ≡ Some p) × (p.at ≡ place) × (p.items ≡ d.init.items)
piece_at ps places segments i place d h at_p at_s =
    let x = mapped_from (λ (p : Piece). p.at) ps i place (ap (λ zs. slice_get zs i) h.0 ∙ at_p) in
    let y : slice_get (map (λ (p : Piece). p.items) ps) i ≡ Some d.init.items = ap (λ zs. slice_get zs i) h.1 ∙ mapped_to (λ (d : Data). d.init.items) segments i d at_s in
    let z : Some x.0.items ≡ Some d.init.items = sym (mapped_to (λ (p : Piece). p.items) ps i x.0 x.1) ∙ y in
    (x.0, x.1, x.2, cc z)

-- it ends within the memory
pub piece_fits : (bytes now : List ℕ) (ps : List Piece) (places : List ℕ) (segments : List Data) (i place : ℕ) (d : Data) → ArePieces ps places segments → Within (length bytes) ps → length now ≡ length bytes → slice_get places i ≡ Some place → slice_get segments i ≡ Some d
    → place + length d.init.items ≤ length now
piece_fits bytes now ps places segments i place d h within size at_p at_s =
    let x = piece_at ps places segments i place d h at_p at_s in
    let low = within_at (length bytes) ps i x.0 within x.1 in
    let items = ap length x.3 in
    omega (arith, low, items, x.2, size)

-- and once it is written the others are left
pub piece_written : (now : List ℕ) (ps : List Piece) (places : List ℕ) (segments : List Data) (i place : ℕ) (d : Data) → ArePieces ps places segments → slice_get places i ≡ Some place → slice_get segments i ≡ Some d
    → written_over (written now place d.init.items) (drop (i + 1) ps) ≡ written_over now (drop i ps)
piece_written now ps places segments i place d h at_p at_s =
    let x = piece_at ps places segments i place d h at_p at_s in
    ap (λ n. written_over (written now n d.init.items) (drop (i + 1) ps)) (sym x.2) ∙ ap (λ bs. written_over (written now x.0.at bs) (drop (i + 1) ps)) (sym x.3) ∙ sym (written_step now ps i x.0 x.1)

pub length_same : (now : List ℕ) (place : ℕ) (items : List ℕ) → place + length items ≤ length now → length (written now place items) ≡ length now
length_same now place items h = length_kept now (record { at = place; items = items }) h
