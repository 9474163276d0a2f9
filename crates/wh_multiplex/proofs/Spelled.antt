-- Heads and frames, and the bytes that spell them.
use Rattle.std.proofs.Common.{◌≡◌, ◌≢◌, ℕ, suc, ◌+◌, ◌*◌, ◌^◌, ◌/◌, ◌%◌, ◌<◌, ◌≤◌, List, [], ◌∷◌, ◌++◌, length, take, drop, get_or, slice_index, refl, sym, ap, ◌∙◌, subst, arith, append_assoc, length-append, length-take-le, Option, All}
use Rattle.std.proofs.Math.Seq.{drop-append_seam, take-append_seam}
use Rattle.byteorder.specs.Endian.{little_bytes, little_number}
use Rattle.wh_multiplex.specs.declared.frame.StreamFrame.{StreamFrame}
use Rattle.wh_multiplex.specs.declared.frame.StreamKind.{StreamKind}
use Rattle.wh_multiplex.specs.declared.frame.StreamKind.TheVariants.{Opened, Data, Ended, Stop}
use Rattle.wh_multiplex.specs.declared.fault.StreamFault.{StreamFault}
use Rattle.wh_multiplex.specs.declared.fault.StreamFault.TheVariants.{UnknownKind, TooLong, CutOff, Memory, Read}
use Rattle.wh_multiplex.specs.StreamFrames.{kind_code, head_bytes, stream_frame_bytes, stream_bytes, IsFrame, LacksFrame, HasNoFrame, LacksBytes}

-- a number of four bytes, taken apart
apart : (n a b c d : ℕ) → a < 256 → b < 256 → c < 256 → d < 256 → n ≡ a + 256 * (b + 256 * (c + 256 * d))
    → (n % 256 ≡ a) × (n / 256 % 256 ≡ b) × (n / 65536 % 256 ≡ c) × (n / 16777216 % 256 ≡ d)
apart n a b c d p q r s e = (omega arith, omega arith, omega arith, omega arith)

-- nine bytes, the fifth of which has a kind's number, are a head
pub head_read : (xs : List ℕ) (kind : StreamKind) → length xs ≡ 9 → ((k : ℕ) → get_or xs k 0 < 256) → get_or xs 4 0 ≡ kind_code kind
    → xs ≡ head_bytes (little_number 4 xs) kind (little_number 4 (drop 5 xs))
head_read [] kind len fits e = absurd (omega arith)
head_read (a ∷ b ∷ c ∷ d ∷ k ∷ f ∷ g ∷ h ∷ i ∷ []) kind len fits e =
    let x = apart (little_number 4 (a ∷ b ∷ c ∷ d ∷ [])) a b c d (fits 0) (fits 1) (fits 2) (fits 3) (omega arith) in
    let y = apart (little_number 4 (f ∷ g ∷ h ∷ i ∷ [])) f g h i (fits 5) (fits 6) (fits 7) (fits 8) (omega arith) in
    cc
head_read _ kind len fits e = absurd (omega arith)

-- a number of 32 bits is told by its bytes
told : (m n : ℕ) → m < 2 ^ 32 → n < 2 ^ 32 → m % 256 ≡ n % 256 → m / 256 % 256 ≡ n / 256 % 256 → m / 65536 % 256 ≡ n / 65536 % 256
    → m / 16777216 % 256 ≡ n / 16777216 % 256 → m ≡ n
told m n p q a b c d = omega arith

-- a kind is told by its number
kind_told : (j k : StreamKind) → kind_code j ≡ kind_code k → j ≡ k
kind_told Opened k e = elim k as (λ k. 1 ≡ kind_code k → Opened ≡ k) [ Opened ↦ λ _. refl | Data ↦ λ e. absurd (omega arith) | Ended ↦ λ e. absurd (omega arith) | Stop ↦ λ e. absurd (omega arith) ] e
kind_told Data k e = elim k as (λ k. 2 ≡ kind_code k → Data ≡ k) [ Opened ↦ λ e. absurd (omega arith) | Data ↦ λ _. refl | Ended ↦ λ e. absurd (omega arith) | Stop ↦ λ e. absurd (omega arith) ] e
kind_told Ended k e = elim k as (λ k. 3 ≡ kind_code k → Ended ≡ k) [ Opened ↦ λ e. absurd (omega arith) | Data ↦ λ e. absurd (omega arith) | Ended ↦ λ _. refl | Stop ↦ λ e. absurd (omega arith) ] e
kind_told Stop k e = elim k as (λ k. 4 ≡ kind_code k → Stop ≡ k) [ Opened ↦ λ e. absurd (omega arith) | Data ↦ λ e. absurd (omega arith) | Ended ↦ λ e. absurd (omega arith) | Stop ↦ λ _. refl ] e

-- two heads with what follows them are the same only where their parts are
pub heads_told : (c d : ℕ) (j k : StreamKind) (m n : ℕ) (xs ys : List ℕ) → c < 2 ^ 32 → d < 2 ^ 32 → m < 2 ^ 32 → n < 2 ^ 32
    → head_bytes c j m ++ xs ≡ head_bytes d k n ++ ys → (c ≡ d) × (j ≡ k) × (m ≡ n) × (xs ≡ ys)
heads_told c d j k m n xs ys p q r s e =
    let kinds : kind_code j ≡ kind_code k = cc in
    let rest : xs ≡ ys = cc in
    (told c d p q (cc) (cc) (cc) (cc), kind_told j k kinds, told m n r s (cc) (cc) (cc) (cc), rest)

-- what is shorter than a head has no frame
pub short_lacks : (came : List ℕ) → length came < 9 → LacksFrame came
short_lacks came h frame rest fits e = omega (arith, ap length e, length-append (stream_frame_bytes frame) rest, length-append (head_bytes frame.connection frame.kind (length frame.bytes)) frame.bytes)

-- nor has a head with a part of what it announces
pub part_lacks : (c : ℕ) (kind : StreamKind) (count : ℕ) (part : List ℕ) → c < 2 ^ 32 → count ≤ 65536 → length part < count
    → LacksFrame (head_bytes c kind count ++ part)
part_lacks c kind count part p q h frame rest fits e =
    let same = heads_told c frame.connection kind frame.kind count (length frame.bytes) part (frame.bytes ++ rest) p fits.0 (omega arith) (omega (arith, fits.1)) (e ∙ append_assoc (head_bytes frame.connection frame.kind (length frame.bytes)) frame.bytes rest) in
    omega (arith, ap length same.3, length-append frame.bytes rest, same.2)

-- what was read of a head is no frame
pub cut_short : (buffer : List ℕ) (count : ℕ) → count ≤ length buffer → count ≢ 0 → count < 9 → (take count buffer ≢ []) × LacksFrame (take count buffer)
cut_short buffer count le ne lt =
    (λ e. ne (sym (length-take-le count buffer le) ∙ ap length e), short_lacks (take count buffer) (omega (arith, length-take-le count buffer le)))

-- a head without all that it announces is no frame
pub lacks : (fault : StreamFault) (c : ℕ) (kind : StreamKind) (count : ℕ) (part : List ℕ) (after : Option (List ℕ)) → c < 2 ^ 32 → count ≤ 65536
    → LacksBytes fault count part after → HasNoFrame fault (head_bytes c kind count ++ part) after
lacks (UnknownKind code) c kind count part after p q h = absurd h
lacks (TooLong size) c kind count part after p q h = absurd h
lacks CutOff c kind count part after p q h =
    (λ e. absurd (omega (arith, ap length e, length-append (head_bytes c kind count) part)), part_lacks c kind count part p q h.0, h.1)
lacks Memory c kind count part after p q h = (c, kind, count, part, refl, h, q)
lacks (Read error) c kind count part after p q h = part_lacks c kind count part p q h

-- two lists of one length with what follows them are the same only where both parts are
both_told : (us vs xs ys : List ℕ) → length us ≡ length vs → us ++ xs ≡ vs ++ ys → (us ≡ vs) × (xs ≡ ys)
both_told us vs xs ys len e = (
  sym (take-append_seam us xs) ∙ ap (take (length us)) e ∙ ap (λ n. take n (vs ++ ys)) len ∙ take-append_seam vs ys,
  sym (drop-append_seam us xs) ∙ ap (drop (length us)) e ∙ ap (λ n. drop n (vs ++ ys)) len ∙ drop-append_seam vs ys,
)

abbrev made : ℕ → StreamKind → List ℕ → StreamFrame
made connection kind bytes = record { connection = connection; kind = kind; bytes = bytes }

made_same : (c d : ℕ) (j k : StreamKind) (us vs : List ℕ) → c ≡ d → j ≡ k → us ≡ vs → made c j us ≡ made d k vs
made_same c d j k us vs p q r = ap (λ n. made n j us) p ∙ ap (λ n. made d n us) q ∙ ap (λ n. made d k n) r

frame_told : (x y : StreamFrame) (xs ys : List ℕ) → IsFrame x → IsFrame y → stream_frame_bytes x ++ xs ≡ stream_frame_bytes y ++ ys → (x ≡ y) × (xs ≡ ys)
frame_told x y xs ys p q e =
    let same = heads_told x.connection y.connection x.kind y.kind (length x.bytes) (length y.bytes) (x.bytes ++ xs) (y.bytes ++ ys) p.0 q.0 (omega (arith, p.1)) (omega (arith, q.1))
    (sym (append_assoc (head_bytes x.connection x.kind (length x.bytes)) x.bytes xs) ∙ e ∙ append_assoc (head_bytes y.connection y.kind (length y.bytes)) y.bytes ys) in
    let both = both_told x.bytes y.bytes xs ys same.2 same.3 in
    (made_same x.connection y.connection x.kind y.kind x.bytes y.bytes same.0 same.1 both.0, both.1)

rest_of : (P : StreamFrame → Type 0) (x : StreamFrame) (xs : List StreamFrame) → All P (x ∷ xs) → All P xs
rest_of P x xs h k d lt = h (suc k) d (omega arith)

pub frames_told : (xs ys : List StreamFrame) → All IsFrame xs → All IsFrame ys → stream_bytes xs ≡ stream_bytes ys → xs ≡ ys
frames_told [] [] p q e = refl
frames_told [] (y ∷ ys) p q e = absurd (omega (arith, ap length e, length-append (stream_frame_bytes y) (stream_bytes ys), length-append (head_bytes y.connection y.kind (length y.bytes)) y.bytes))
frames_told (x ∷ xs) [] p q e = absurd (omega (arith, ap length e, length-append (stream_frame_bytes x) (stream_bytes xs), length-append (head_bytes x.connection x.kind (length x.bytes)) x.bytes))
frames_told (x ∷ xs) (y ∷ ys) p q e =
    let same = frame_told x y (stream_bytes xs) (stream_bytes ys) (p 0 x (omega arith)) (q 0 y (omega arith)) e in
    let rest = frames_told xs ys (rest_of IsFrame x xs p) (rest_of IsFrame y ys q) same.1 in
    cc (same.0, rest)
