-- Known bytes that are read, piece by piece, and the first of their lines.
use Rattle.std.proofs.Common.{drop_of_length-le, ◌≡◌, ◌≢◌, ℕ, ◌+◌, ◌-◌, ◌<◌, ◌≤◌, ◌==◌, Bool, false, List, [], ◌∷◌, ◌++◌, length, min, take, drop, All, Option, Some, None, Result, Ok, Err, OnErr, refl, sym, ap, subst, subst₂, ◌∙◌, append-nil, append_assoc, arith}
use Rattle.std.specs.Io.KnownBytes.{Consumes, Keeps, IsAtEnd, prepend_known}
use Rattle.std.specs.List.{AllByRecursion}
use Rattle.std.proofs.lemmas.List.{take-append-le, take_all, drop-drop, drop-take, length-take, length-drop}
use Rattle.std.proofs.lemmas.Grind.{common_steps}
use Rattle.std.proofs.lemmas.List.Elements.{recursion_from_All, All-append}
use Rattle.wh_script_model.specs.{lines_of, onto_first}
use Rattle.wh_script.specs.declared.lines.Line.{Line}
use Rattle.wh_script.specs.declared.lines.Line.TheVariants.{Kept, TooLong, Skipped, End}
use Rattle.wh_script.specs.declared.fault.ScriptFault.{ScriptFault}
use Rattle.wh_script.specs.declared.fault.ScriptFault.TheVariants.{Script, Output, Memory, Transcript}
use Rattle.wh_script.specs.Coming.{FailsAt, Holds, TakesLines, IsKind, ReadsLine}

pub keeps_consumes : (a b c : Option (List ℕ)) (xs : List ℕ) → Keeps a b → Consumes b c xs → Consumes a c xs
keeps_consumes None b c xs p q = tt
keeps_consumes (Some us) None c xs p q = elim p [ ]
keeps_consumes (Some us) (Some vs) None xs p q = elim q [ ]
keeps_consumes (Some us) (Some vs) (Some ws) xs p q = sym p ∙ q

pub keeps_same : (k : Option (List ℕ)) → Keeps k k
keeps_same None = tt
keeps_same (Some xs) = refl

pub keeps_more : (a b c : Option (List ℕ)) → Keeps a b → Keeps b c → Keeps a c
keeps_more None b c p q = tt
keeps_more (Some us) None c p q = elim p [ ]
keeps_more (Some us) (Some vs) None p q = elim q [ ]
keeps_more (Some us) (Some vs) (Some ws) p q = q ∙ p

pub consumes_more : (a b c : Option (List ℕ)) (xs ys : List ℕ) → Consumes a b xs → Consumes b c ys → Consumes a c (xs ++ ys)
consumes_more None b c xs ys p q = tt
consumes_more (Some us) None c xs ys p q = elim p [ ]
consumes_more (Some us) (Some vs) None xs ys p q = elim q [ ]
consumes_more (Some us) (Some vs) (Some ws) xs ys p q = p ∙ ap (λ zs. xs ++ zs) q ∙ sym (append_assoc xs ys ws)

-- more was read into a chunk of which nothing was left
pub filled : (a b : Option (List ℕ)) (old new : List ℕ) → old ≡ [] → Consumes a b new → Consumes (prepend_known old a) (prepend_known new b) []
filled None b old new e p = tt
filled (Some us) None old new e p = p
filled (Some us) (Some vs) old new e p = rw e p

-- a piece of the chunk was taken
pub taken : (k : Option (List ℕ)) (old piece new : List ℕ) → old ≡ piece ++ new → Consumes (prepend_known old k) (prepend_known new k) piece
taken None old piece new e = tt
taken (Some us) old piece new e = ap (λ zs. zs ++ us) e ∙ append_assoc piece new us

pub no_more : (k : Option (List ℕ)) (left : List ℕ) → IsAtEnd k → left ≡ [] → IsAtEnd (prepend_known left k)
no_more None left p e = tt
no_more (Some us) left p e = rw e p

byte_test : (b : ℕ) → b ≢ 10 → (b == 10) ≡ false
byte_test b h = grind (arith, common_steps)

lines_cut : (line rest : List ℕ) → AllByRecursion (λ b. b ≢ 10) line → lines_of (line ++ 10 ∷ rest) ≡ line ∷ lines_of rest
lines_cut [] rest free = refl
lines_cut (b ∷ line) rest free =
    rw (byte_test b free.0) (ap (onto_first b) (lines_cut line rest free.1))

lines_last : (b : ℕ) (line : List ℕ) → AllByRecursion (λ b. b ≢ 10) (b ∷ line) → lines_of (b ∷ line) ≡ (b ∷ line) ∷ []
lines_last b [] free = rw (byte_test b free.0) refl
lines_last b (c ∷ line) free = rw (byte_test b free.0) (ap (onto_first b) (lines_last c line free.1))

-- the line was read up to its newline
pub first_line : (a b : Option (List ℕ)) (line : List ℕ) → All (λ b. b ≢ 10) line → Consumes a b (line ++ 10 ∷ []) → TakesLines a b (line ∷ [])
first_line None b line free p = tt
first_line (Some us) None line free p = p
first_line (Some us) (Some vs) line free p = (line ++ 10 ∷ [], p, ap lines_of (p ∙ append_assoc line (10 ∷ []) vs) ∙ lines_cut line vs (recursion_from_All (λ b. b ≢ 10) line free))

-- the line was read up to the end of all
pub last_line : (a b : Option (List ℕ)) (line : List ℕ) → All (λ b. b ≢ 10) line → 0 < length line → Consumes a b line → IsAtEnd b → TakesLines a b (line ∷ [])
last_line None b line free some p end = tt
last_line (Some us) None line free some p end = p
last_line (Some us) (Some vs) [] free some p end = absurd (omega (arith, some))
last_line (Some us) (Some vs) (c ∷ line) free some p end =
    let whole : us ≡ c ∷ line = p ∙ ap (λ zs. (c ∷ line) ++ zs) end ∙ append-nil (c ∷ line) in
    (c ∷ line, p, ap lines_of whole ∙ lines_last c line (recursion_from_All (λ b. b ≢ 10) (c ∷ line) free) ∙ ap (λ zs. (c ∷ line) ∷ lines_of zs) (sym end))

-- nothing came, and nothing comes
pub at_end : (a b : Option (List ℕ)) → Consumes a b [] → IsAtEnd b → IsAtEnd a
at_end None b p end = tt
at_end (Some us) None p end = elim p [ ]
at_end (Some us) (Some vs) p end = p ∙ end

-- the front of a chunk that was read into
pub front_of_filled : (n len : ℕ) (buf rest : List ℕ) → n ≤ length buf → length buf ≡ len → take n (take len (buf ++ rest)) ≡ take n buf
front_of_filled n len buf rest le same = ap (take n) (take-append-le len buf rest (omega (arith, same)) ∙ take_all len buf (omega (arith, same)))

whole_slice : (items : List ℕ) (next end : ℕ) → next ≤ end → drop next (take end items) ≡ take (end - next) (drop next items)
whole_slice items next end le = ap (λ n. drop next (take n items)) (omega (arith, le)) ∙ drop-take next (end - next) items

-- a piece of the chunk, and its newline
pub cut_at : (items bytes piece : List ℕ) (next end : ℕ) → next ≤ end → bytes ≡ take (end - next) (drop next items) → bytes ≡ piece ++ 10 ∷ drop (length piece + 1) bytes
    → drop next (take end items) ≡ (piece ++ 10 ∷ []) ++ drop (next + (length piece + 1)) (take end items)
cut_at items bytes piece next end le b cut =
    let whole : drop next (take end items) ≡ bytes = whole_slice items next end le ∙ sym b in
    whole ∙ cut ∙ ap (λ xs. piece ++ 10 ∷ drop (length piece + 1) xs) (sym whole)
    ∙ ap (λ xs. piece ++ 10 ∷ xs) (drop-drop (length piece + 1) next (take end items))
    ∙ sym (append_assoc piece (10 ∷ []) (drop (next + (length piece + 1)) (take end items)))

pub none_left : (items : List ℕ) (end : ℕ) → drop end (take end items) ≡ []
none_left items end = drop_of_length-le (take end items) (omega (arith, length-take end items))

-- all of the chunk
pub cut_all : (items bytes piece : List ℕ) (next end : ℕ) → next ≤ end → bytes ≡ take (end - next) (drop next items) → bytes ≡ piece
    → drop next (take end items) ≡ (piece ++ []) ++ drop end (take end items)
cut_all items bytes piece next end le b cut =
    whole_slice items next end le ∙ sym b ∙ cut ∙ sym (append-nil piece) ∙ sym (append-nil (piece ++ []))
    ∙ ap (λ xs. (piece ++ []) ++ xs) (sym (none_left items end))

pub some_piece : (items bytes piece : List ℕ) (next end : ℕ) → next < end → end ≤ length items → bytes ≡ take (end - next) (drop next items) → bytes ≡ piece → 0 < length piece
some_piece items bytes piece next end lt le b cut = let e : length piece ≡ min (end - next) (length items - next) = ap length (sym cut ∙ b) ∙ length-take (end - next) (drop next items) ∙ ap (min (end - next)) (length-drop next items) in omega (arith, e)

pub nothing_unread : (items : List ℕ) (next end : ℕ) → end ≤ next → drop next (take end items) ≡ []
nothing_unread items next end le = drop_of_length-le (take end items) (omega (arith, length-take end items))

pub consumes_on : (a b c : Option (List ℕ)) (xs : List ℕ) → Consumes a b xs → Consumes b c [] → Consumes a c xs
consumes_on a b c xs p q = subst (λ ys. Consumes a c ys) (append-nil xs) (consumes_more a b c xs [] p q)

module _ (a m k : Option (List ℕ)) (u v line piece : List ℕ) (free : All (λ b. b ≢ 10) line) (clear : All (λ b. b ≢ 10) piece) (so_far : Consumes a m line) (more : Consumes m (prepend_known u k) []) where
  -- a piece with a newline ends the line
  pub line_ends : u ≡ piece ++ 10 ∷ [] ++ v → TakesLines a (prepend_known v k) ((line ++ piece) ∷ [])
  line_ends e =
      first_line a (prepend_known v k) (line ++ piece) (All-append (λ b. b ≢ 10) line piece free clear)
      (subst (λ xs. Consumes a (prepend_known v k) xs) (sym (append_assoc line piece (10 ∷ [])))
      (consumes_more a (prepend_known u k) (prepend_known v k) line (piece ++ 10 ∷ []) (consumes_on a m (prepend_known u k) line so_far more) (taken k u (piece ++ 10 ∷ []) v e)))

  -- a piece without one belongs to it
  pub line_goes_on : u ≡ piece ++ [] ++ v → All (λ b. b ≢ 10) (line ++ piece) × Consumes a (prepend_known v k) (line ++ piece)
  line_goes_on e = (
    All-append (λ b. b ≢ 10) line piece free clear,
    consumes_more a (prepend_known u k) (prepend_known v k) line piece (consumes_on a m (prepend_known u k) line so_far more) (taken k u piece v (e ∙ ap (λ xs. xs ++ v) (append-nil piece))),
  )

-- what is said of the line is said of the first line to come
pub says : (kind : Line) (a b : Option (List ℕ)) (held line : List ℕ) → TakesLines a b (line ∷ []) → IsKind kind held line → ReadsLine a b kind held
says Kept a b held line first is = (line, first, is)
says TooLong a b held line first is = (line, first, is)
says Skipped a b held line first is = (line, first, is)
says End a b held line first is = elim is [ ]

pub holds_same : (u v : List ℕ) (x y : Bool) (line : List ℕ) → u ≡ v → x ≡ y → Holds v y line → Holds u x line
holds_same u v x y line e f h = subst₂ (λ w z. Holds w z line) (sym e) (sym f) h

-- the reader failed before it gave anything
pub filled_nothing : (a b : Option (List ℕ)) (old : List ℕ) → old ≡ [] → Keeps a b → Consumes (prepend_known old a) b []
filled_nothing None b old e p = tt
filled_nothing (Some us) None old e p = p
filled_nothing (Some us) (Some vs) old e p = rw e (sym p)

-- no lines were taken yet
pub takes_none : (a : Option (List ℕ)) → TakesLines a a []
takes_none None = tt
takes_none (Some us) = ([], refl, refl)

-- more lines were taken
pub takes_more : (a b c : Option (List ℕ)) (ls ms : List (List ℕ)) → TakesLines a b ls → TakesLines b c ms → TakesLines a c (ls ++ ms)
takes_more None b c ls ms p q = tt
takes_more (Some us) None c ls ms p q = elim p [ ]
takes_more (Some us) (Some vs) None ls ms p q = elim q [ ]
takes_more (Some us) (Some vs) (Some ws) ls ms p q =
    (p.0 ++ q.0, p.1 ∙ ap (λ zs. p.0 ++ zs) q.1 ∙ sym (append_assoc p.0 q.0 ws), p.2 ∙ ap (λ zs. ls ++ zs) q.2 ∙ sym (append_assoc ls ms (lines_of ws)))

pub on_err : {X E P : Type 0} (r : Result X E) → P → OnErr r P
on_err (Ok x) p = tt
on_err (Err e) p = p

-- the reader failed behind a piece of the line
pub fails_at : (a b c : Option (List ℕ)) (r : Result Line ScriptFault) (begun : List ℕ) → All (λ n. n ≢ 10) begun → Consumes a b begun → Consumes b c [] → FailsAt a c r
fails_at a b c (Ok kind) begun free p q = tt
fails_at a b c (Err Script) begun free p q = (begun, free, consumes_on a b c begun p q)
fails_at a b c (Err Output) begun free p q = tt
fails_at a b c (Err Memory) begun free p q = tt
fails_at a b c (Err Transcript) begun free p q = tt
