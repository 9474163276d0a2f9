-- Histories put before calls, and taken away.
use Rattle.std.proofs.Common.{◌≡◌, List, [], ◌∷◌, ◌++◌, refl, sym, subst, rules}
use Rattle.std.specs.List.{AllByRecursion}
use Rattle.wh_model.specs.Execution.Store.{Instance, Store}
use Rattle.wh_model.specs.Execution.{Piece, Call, pending, Ends, Standing, idle, Stands, has_pieces, is_invoked, is_under_way, Replays, at_rest, ended, at_work, Past, none_yet, one_more}
use Rattle.wh_model.specs.Laws.{HistoryBefore, HistorySplits, JournalGrows}
use Rattle.wh_model.proofs.Journals.{from_beginning}

never_idle : {inst : Instance} {s s2 : Store} {ps : List Piece} {call : Call} {z : Standing} → Stands inst s ps call z → z ≡ idle s2 → ⊥
never_idle (has_pieces p q) e = cc
never_idle (is_invoked p q r) e = cc
never_idle (is_under_way p q r t n) e = cc

history : {inst : Instance} {s : Store} {ps : List Piece} {first : Call} {xs : List Call} {y : Standing} → Replays inst s ps (first ∷ xs) y → (s2 : Store) → y ≡ idle s2 → (calls : List Call) (z : Standing) → Replays inst s2 [] calls z → Replays inst s ps (first ∷ xs ++ calls) z
history {inst = inst} (ended {s2 = s3} e at_rest) s2 same calls z r = let q : s3 ≡ s2 = cc in ended e (subst (λ w. Replays inst w [] calls z) (sym q) r)
history (ended e (ended e2 r2)) s2 same calls z r = ended e (history (ended e2 r2) s2 same calls z r)
history (ended e (at_work p q w)) s2 same calls z r = absurd (never_idle q same)
history (at_work p q w) s2 same calls z r = absurd (never_idle q same)

pub history_before : HistoryBefore
history_before inst s s2 ps first xs calls z x y = history x s2 refl calls z y

first_ends : {inst : Instance} {s : Store} {ps : List Piece} {first : Call} {rest : List Call} {z : Standing} → Replays inst s ps (first ∷ rest) z → (first.outcome ≡ pending → ⊥) → (s2 : Store) × Ends inst s ps first s2 × Replays inst s2 [] rest z
first_ends (ended {s2 = s2} e r) p = (s2, e, r)
first_ends (at_work u v w) p = absurd (p u)

splits : (inst : Instance) (s : Store) (ps : List Piece) (first : Call) (xs calls : List Call) (z : Standing) → (first.outcome ≡ pending → ⊥) → AllByRecursion (λ call. ¬ (call.outcome ≡ pending)) xs → Replays inst s ps (first ∷ xs ++ calls) z → (s2 : Store) × Replays inst s ps (first ∷ xs) (idle s2) × Replays inst s2 [] calls z
splits inst s ps first [] calls z p q r = let x = first_ends r p in (x.0, ended x.1 at_rest, x.2)
splits inst s ps first (next ∷ xs) calls z p q r =
    let x = first_ends r p in
    let y = splits inst x.0 [] next xs calls z q.0 q.1 x.2 in
    (y.0, ended x.1 y.1, y.2)

pub history_splits : HistorySplits
history_splits inst s ps first xs calls z p q r = splits inst s ps first xs calls z p q r

all_join : (P : Call → Type 0) (xs ys : List Call) → AllByRecursion P xs → AllByRecursion P ys → AllByRecursion P (xs ++ ys)
all_join P [] ys p q = q
all_join P (x ∷ xs) ys p q = (p.0, all_join P xs ys p.1 q)

pub journal_grows : JournalGrows
journal_grows m p inst s s2 ps start xs calls z initial lives names alive (given, is, (inst2, s3, ps2, i2, r)) y =
    search (rules, from_beginning, all_join, history_before)

-- ---- calls that have ended, and those behind them

pub past_then : {inst : Instance} {s s2 s3 : Store} {ps ps2 ps3 : List Piece} {xs ys : List Call} → Past inst s ps xs s2 ps2 → Past inst s2 ps2 ys s3 ps3 → Past inst s ps (xs ++ ys) s3 ps3
past_then none_yet q = q
past_then (one_more e r) q = one_more e (past_then r q)

pub replays_then : {inst : Instance} {s s2 : Store} {ps ps2 : List Piece} {xs ys : List Call} {z : Standing} → Past inst s ps xs s2 ps2 → Replays inst s2 ps2 ys z → Replays inst s ps (xs ++ ys) z
replays_then none_yet q = q
replays_then (one_more e r) q = ended e (replays_then r q)
