-- A frame is its head and its bytes, of which a beginning may have been written.
use Rattle.std.proofs.Common.{◌≡◌, ℕ, List, ◌++◌, length, Result, Ok, Err, OnErr, sym, ap, ◌∙◌, append_assoc}
use Rattle.wh_multiplex.specs.declared.frame.StreamFrame.{StreamFrame}
use Rattle.wh_multiplex.specs.StreamFrames.{head_bytes, stream_frame_bytes}

pub on_err : {A E : Type 0} (r : Result A E) (P : Type 0) → P → OnErr r P
on_err (Ok x) P p = tt
on_err (Err e) P p = p

pub whole : (head bytes : List ℕ) (frame : StreamFrame) → head ≡ head_bytes frame.connection frame.kind (length bytes) → bytes ≡ frame.bytes
    → head ++ bytes ≡ stream_frame_bytes frame
whole head bytes frame p q = ap (λ h. h ++ bytes) p ∙ ap (λ b. head_bytes frame.connection frame.kind (length b) ++ b) q

pub head_part : (head bytes went kept all : List ℕ) → head ++ bytes ≡ all → head ≡ went ++ kept → all ≡ went ++ (kept ++ bytes)
head_part head bytes went kept all p q = sym p ∙ ap (λ h. h ++ bytes) q ∙ append_assoc went kept bytes

pub rest_part : (head bytes went kept all : List ℕ) → head ++ bytes ≡ all → bytes ≡ went ++ kept → all ≡ (head ++ went) ++ kept
rest_part head bytes went kept all p q = sym p ∙ ap (λ b. head ++ b) q ∙ sym (append_assoc head went kept)
