-- Pieces that are written.
use Rattle.std.proofs.Common.{◌≡◌, ℕ, zero, suc, ◌+◌, ◌≤◌, List, [], ◌∷◌, length, drop, Some, slice_get, refl, ap, subst}
use Rattle.wh_model.specs.Execution.Store.{Store}
use Rattle.wh_model.specs.Execution.{written, Piece, Within, with_pieces}
use Rattle.wh_model.proofs.Fragments.{length-written}
use Rattle.wh_call.proofs.Lists.{drop_at}
use Rattle.wh_alone.specs.ModuleCalls.{written_over}

pub written_step : (bytes : List ℕ) (ps : List Piece) (i : ℕ) (p : Piece) → slice_get ps i ≡ Some p → written_over bytes (drop i ps) ≡ written_over (written bytes p.at p.items) (drop (i + 1) ps)
written_step bytes ps i p e = ap (written_over bytes) (drop_at ps i p e)

pub with_pieces_bytes : (s : Store) (ps : List Piece) → with_pieces s ps ≡ record s { bytes = written_over s.bytes ps }
with_pieces_bytes s [] = refl
with_pieces_bytes s (p ∷ ps) = with_pieces_bytes (record s { bytes = written s.bytes p.at p.items }) ps

pub within_at : (size : ℕ) (ps : List Piece) (i : ℕ) (p : Piece) → Within size ps → slice_get ps i ≡ Some p → p.at + length p.items ≤ size
within_at size [] i p h e = cc
within_at size (q ∷ ps) zero p h e = let same : q ≡ p = cc in subst (λ z. z.at + length z.items ≤ size) same h.0
within_at size (q ∷ ps) (suc i) p h e = within_at size ps i p h.1 e

pub length_kept : (bytes : List ℕ) (p : Piece) → p.at + length p.items ≤ length bytes → length (written bytes p.at p.items) ≡ length bytes
length_kept bytes p h = length-written bytes p.items p.at h
