-- Where a turn leaves the present call of an instance.
use Rattle.std.proofs.Common.{◌≡◌, ◌≢◌, ℕ, ◌+◌, ◌<◌, ◌≤◌, ◌^◌, List, [], ◌∷◌, ◌++◌, length, map, Some, refl, sym, subst, ◌∙◌, arith, length-append, rules}
use Rattle.wh_model.specs.declared.memory.Need.{Need}
use Rattle.wh_model.specs.Execution.Store.{Instance}
use Rattle.wh_model.specs.Execution.{Term, Config, Piece, Call}
use Rattle.wh_host_model.specs.Host.{Rest, Doing, resting, has_left, computing, Tenant, Opens, by_invocation, as_it_was, Upshot, Proceeds, returns, traps, writes_all, uses_fuel, waits, waits_to_write, has_had_its_turn, gone_further}
use Rattle.wh_host_model.specs.{Entry}
use Rattle.wh_control.specs.Represents.{bits_of}
use Rattle.wh_journal.specs.Calls.{JournalCallState, HasPresent, CanGoFurther}
use Rattle.wh_machine.specs.CallStates.{CallState, Setting}
use Rattle.wh_instance.specs.declared.computing.TurnOutcome.{TurnOutcome}
use Rattle.wh_instance.specs.declared.stages.CallStage.TheVariants.{Writing, Faced, UnderWay}
use Rattle.wh_instance.specs.Pieces.{pieces_left}
use Rattle.wh_instance.specs.Turned.{IsStarting, IsFaced, IsComputing, IsThere, Turns}
use Rattle.wh_instance.specs.Tenancy.{HostInstanceState, state_over, RepresentsCall, RepresentsEach, IsCounted, IsWhere, writes, is_faced, is_under_way, RepresentsTenant}
use Rattle.wh_instance.specs.Advancing.{HasOpenCall, AdvancesTenant}
use Rattle.wh_instance.proofs.Closing.{first_of_each}

-- ---- an open call

-- the present call, as the code has it
pub record Opened {M : Type 0} (w : Setting M) (x : HostInstanceState) (m : M) (t : Tenant) (e : Entry) (es : List Entry) : Type 0 where
  pub c : JournalCallState
  pub cs : List JournalCallState
  pub at : x.journal.open_calls ≡ c ∷ cs
  pub first : RepresentsCall c e
  pub others : RepresentsEach cs es
  pub counted : IsCounted e

pub opened : {M : Type 0} (w : Setting M) (x : HostInstanceState) (m : M) (t : Tenant) (e : Entry) (es : List Entry) → t.open_calls ≡ e ∷ es → RepresentsTenant w x m t → Opened w x m t e es
opened w x m t e es is_open rep = search (rules, first_of_each)

some_first : (es : List Entry) → es ≢ [] → (e : Entry) × (rest : List Entry) × (es ≡ e ∷ rest)
some_first [] some = absurd (some refl)
some_first (e ∷ rest) some = (e, rest, refl)

-- an instance with an open call, and this call
pub record Present {M : Type 0} (w : Setting M) (x : HostInstanceState) (m : M) : Type 0 where
  pub t : Tenant
  pub e : Entry
  pub es : List Entry
  pub is_open : t.open_calls ≡ e ∷ es
  pub represents : RepresentsTenant w x m t
  pub opened : Opened w x m t e es

pub present : {M : Type 0} (w : Setting M) (x : HostInstanceState) (m : M) → HasOpenCall w x m → Present w x m
present w x m (t, some, rep) = let f = some_first t.open_calls some in record { t = t; e = f.0; es = f.1; is_open = f.2; represents = rep; opened = opened w x m t f.0 f.1 f.2 rep }

pub has_present : {M : Type 0} (w : Setting M) (x : HostInstanceState) (m : M) → HasOpenCall w x m → HasPresent x.journal.open_calls
has_present w x m h = let p = present w x m h in let o = p.opened in (o.c, o.cs, o.at)

-- ---- where it is

pub is_computing : {M : Type 0} (w : Setting M) (x : HostInstanceState) (m : M) (inst : Instance) (r : Rest) (d : Doing) (e : Entry) (es : List Entry) → x.progress ≡ UnderWay → IsWhere w x m inst r d (e ∷ es) → (term : Term) × (d ≡ computing term) × IsComputing w (state_over x m) inst e.call r term × (e.call.charges ≤ e.call.fuel)
is_computing w x m inst r d e es at (writes is some func st left few) = absurd (cc (sym at ∙ is))
is_computing w x m inst r d e es at (is_faced is st) = absurd (cc (sym at ∙ is))
is_computing w x m inst r d e es at (is_under_way {term = term} is st within) = (term, refl, st, within)

pub is_facing : {M : Type 0} (w : Setting M) (x : HostInstanceState) (m : M) (inst : Instance) (r : Rest) (d : Doing) (e : Entry) (es : List Entry) → x.progress ≡ Faced → IsWhere w x m inst r d (e ∷ es) → (func : ℕ) × (term : Term) × (d ≡ computing term) × IsFaced w (state_over x m) inst e.call r func (map bits_of e.call.args) term
is_facing w x m inst r d e es at (writes is some func st left few) = absurd (cc (sym at ∙ is))
is_facing w x m inst r d e es at (is_faced {func = func} {term = term} is st) = (func, term, refl, st)
is_facing w x m inst r d e es at (is_under_way is st within) = absurd (cc (sym at ∙ is))

pub record IsWriting {M : Type 0} (w : Setting M) (x : HostInstanceState) (m : M) (inst : Instance) (r : Rest) (d : Doing) (e : Entry) : Type 0 where
  pub ps : List Piece
  pub doing : d ≡ has_left ps
  pub func : e.call.func ≡ w.program.decoded.start
  pub starting : IsStarting w (state_over x m) inst e.call r ps
  pub left : ps ≡ pieces_left w.program.decoded.segments.items x.places x.cursor
  pub few : e.call.fragments + length ps < 2 ^ 64

pub is_writing : {M : Type 0} (w : Setting M) (x : HostInstanceState) (m : M) (inst : Instance) (r : Rest) (d : Doing) (e : Entry) (es : List Entry) → x.progress ≡ Writing → IsWhere w x m inst r d (e ∷ es) → IsWriting w x m inst r d e
is_writing w x m inst r d e es at (writes {ps = ps} is some func st left few) = record { ps = ps; doing = refl; func = func; starting = st; left = left; few = few }
is_writing w x m inst r d e es at (is_faced is st) = absurd (cc (sym at ∙ is))
is_writing w x m inst r d e es at (is_under_way is st within) = absurd (cc (sym at ∙ is))

-- the same of the function and the words that the code has
pub faced_as : {M : Type 0} {w : Setting M} {state : CallState M} {inst : Instance} {call : Call} {r : Rest} {func func2 : ℕ} {args args2 : List ℕ} {term : Term} → IsFaced w state inst call r func args term → Some func ≡ Some func2 → args ≡ args2 → IsFaced w state inst call r func2 args2 term
faced_as st same_func same_args = record { store = st.store; invocation = st.invocation; calls = st.calls ∙ same_func; words = st.words ∙ same_args; no_charges = st.no_charges }

-- and of the pieces
pub starting_as : {M : Type 0} (w : Setting M) (x : HostInstanceState) (m : M) (inst : Instance) (e : Entry) (r : Rest) (ps qs : List Piece) → IsStarting w (state_over x m) inst e.call r ps → ps ≡ qs → IsStarting w (state_over x m) inst e.call r qs
starting_as w x m inst e r ps qs st same = subst (IsStarting w (state_over x m) inst e.call r) same st

-- ---- how much is done in a turn

-- of pieces, no more than were left
PiecesWithin : Doing → ℕ → Type 0
PiecesWithin d k = (left : ℕ) → ((ps : List Piece) → d ≡ has_left ps → length ps ≤ left) → k ≤ left

opens_within : {M : Type 0} {bytes : M → List ℕ} {ready : M → Need → Type 0} {keeps : M → M → Type 0} {inst : Instance} {call : Call} {m m1 : M} {r : Rest} {d : Doing} {k : ℕ} {c : Config} → Opens bytes ready keeps inst call m r d k m1 c → PiecesWithin d k
unfolding PiecesWithin
opens_within (by_invocation {ps = ps} a b c) left all = all ps refl
opens_within (as_it_was after) left all = omega arith

pieces_within : {M : Type 0} {bytes : M → List ℕ} {ready : M → Need → Type 0} {keeps : M → M → Type 0} {inst : Instance} {q : ℕ} {call : Call} {m m2 : M} {r r2 : Rest} {d d2 : Doing} {to : Upshot} {k n : ℕ} → Proceeds bytes ready keeps inst q call m r d to k n m2 r2 d2 → PiecesWithin d k
unfolding PiecesWithin
pieces_within (returns c h) = opens_within c.opens
pieces_within (traps c) = opens_within c.opens
pieces_within (writes_all {ps = ps} a b c) = λ left all. all ps a
pieces_within (uses_fuel c b d) = opens_within c.opens
pieces_within (waits c b d f g) = opens_within c.opens
pieces_within (waits_to_write {ps = ps} {more = more} {p = p} a b c) = λ left all. let n = length-append ps (p ∷ more) in let le = all (ps ++ p ∷ more) a in omega (arith, n, le)
pieces_within (has_had_its_turn c b d f g) = opens_within c.opens

-- of charges, no more than there is fuel
charges_within : {M : Type 0} {bytes : M → List ℕ} {ready : M → Need → Type 0} {keeps : M → M → Type 0} {inst : Instance} {q : ℕ} {call : Call} {m m2 : M} {r r2 : Rest} {d d2 : Doing} {to : Upshot} {k n : ℕ} → call.charges ≤ call.fuel → Proceeds bytes ready keeps inst q call m r d to k n m2 r2 d2 → call.charges + n ≤ call.fuel
charges_within within (returns c h) = c.in_fuel
charges_within within (traps c) = c.in_fuel
charges_within within (writes_all a b c) = omega (arith, within)
charges_within within (uses_fuel c b d) = c.in_fuel
charges_within within (waits c b d f g) = c.in_fuel
charges_within within (waits_to_write a b c) = omega (arith, within)
charges_within within (has_had_its_turn c b d f g) = c.in_fuel

-- ---- where it is afterwards

-- a call that goes on is of the same function, and is given as much
computing_on : {M : Type 0} (w : Setting M) (x : HostInstanceState) (m : M) (inst : Instance) (e : Entry) (r : Rest) (k n : ℕ) (term : Term) → IsComputing w (state_over x m) inst e.call r term → IsComputing w (state_over x m) inst (gone_further e k n).call r term
computing_on w x m inst e r k n term s = record { index = s.index; type = s.type; body = s.body; calls = s.calls; is_own = s.is_own; stands = s.stands; runs = s.runs; settled_in = s.settled_in; settled = s.settled }

starting_on : {M : Type 0} (w : Setting M) (x : HostInstanceState) (m : M) (inst : Instance) (e : Entry) (r : Rest) (k : ℕ) (ps : List Piece) → IsStarting w (state_over x m) inst e.call r ps → IsStarting w (state_over x m) inst (gone_further e k 0).call r ps
starting_on w x m inst e r k ps s = let none = s.no_charges in record { store = s.store; within = s.within; in_pages = s.in_pages; few = s.few; no_args = s.no_args; no_charges = omega (arith, none); calls_own = s.calls_own }

-- what is known of the turn's beginning, and of what it left of the code's instance
pub record Around {M : Type 0} (w : Setting M) (d : Doing) (e : Entry) (x2 : HostInstanceState) (left : List Piece) : Type 0 where
  pub started : (ps : List Piece) → d ≡ has_left ps → (e.call.func ≡ w.program.decoded.start) × (e.call.fragments + length ps < 2 ^ 64)
  pub counted : e.call.fragments < 2 ^ 64
  pub within : e.call.charges ≤ e.call.fuel
  pub at_end : left ≡ [] → x2.progress ≡ UnderWay
  pub at_piece : left ≢ [] → (x2.progress ≡ Writing) × (left ≡ pieces_left w.program.decoded.segments.items x2.places x2.cursor)
  pub begun : x2.progress ≢ Faced

there : {M : Type 0} (w : Setting M) (inst : Instance) (q : ℕ) (m m2 : M) (r r2 : Rest) (d d2 : Doing) (e : Entry) (es : List Entry) (k n : ℕ) (x2 : HostInstanceState) (left : List Piece) (to : Upshot) → Proceeds w.bytes w.ready w.keeps inst q e.call m r d to k n m2 r2 d2 → IsThere w (state_over x2 m2) inst e.call r2 left d2 → Around w d e x2 left → d2 ≢ resting → IsWhere w x2 m2 inst r2 d2 (gone_further e k n ∷ es)
there w inst q m m2 r r2 d d2 e es k n x2 left to (returns c h) is a on = absurd (on refl)
there w inst q m m2 r r2 d d2 e es k n x2 left to (traps c) is a on = absurd (on refl)
there w inst q m m2 r r2 d d2 e es k n x2 left to (writes_all f b c) is a on = absurd (on refl)
there w inst q m m2 r r2 d d2 e es k n x2 left to (uses_fuel {term = term} c b f) is a on = is_under_way (a.at_end is.1) (computing_on w x2 m2 inst e r2 k n term is.0) c.in_fuel
there w inst q m m2 r r2 d d2 e es k n x2 left to (waits {term = term} c b f g h) is a on = is_under_way (a.at_end is.1) (computing_on w x2 m2 inst e r2 k n term is.0) c.in_fuel
there w inst q m m2 r r2 d d2 e es k n x2 left to (has_had_its_turn {term = term} c b f g h) is a on = is_under_way (a.at_end is.1) (computing_on w x2 m2 inst e r2 k n term is.0) c.in_fuel
there w inst q m m2 r r2 d d2 e es k n x2 left to (waits_to_write {ps = ps} {more = more} {p = p} f b c) is a on =
    let s = a.started (ps ++ p ∷ more) f in
    let some = a.at_piece (λ none. let never = is.1 ∙ none in cc never) in
    let n = length-append ps (p ∷ more) in
    writes some.0 (λ none. cc none) s.0 (starting_on w x2 m2 inst e r2 k (p ∷ more) is.0) (is.1 ∙ some.1) (omega (arith, n, s.1))

few_of : (d : Doing) (e : Entry) (k : ℕ) → PiecesWithin d k → e.call.fragments < 2 ^ 64 → ((ps : List Piece) → d ≡ has_left ps → e.call.fragments + length ps < 2 ^ 64) → e.call.fragments + k < 2 ^ 64
unfolding PiecesWithin
few_of resting e k more counted few = let none = more 0 (λ ps is. absurd (cc is)) in omega (arith, none, counted)
few_of (computing term) e k more counted few = let none = more 0 (λ ps is. absurd (cc is)) in omega (arith, none, counted)
few_of (has_left ps) e k more counted few = let all = more (length ps) (λ other is. let same : ps ≡ other = cc is in subst (λ z. length z ≤ length ps) same (omega arith)) in let le = few ps refl in omega (arith, all, le)

pub advanced : {M : Type 0} (w : Setting M) (q : ℕ) (x2 : HostInstanceState) (m m2 : M) (t : Tenant) (e : Entry) (es : List Entry) (answer : TurnOutcome) (k n : ℕ) (left : List Piece) (d : Doing) → t.doing ≡ d → Turns w t.inst q e.call m t.rest d answer k n (state_over x2 m2) left → Around w d e x2 left → AdvancesTenant w q m t e es answer k n x2 m2
unfolding PiecesWithin
advanced w q x2 m m2 t e es answer k n left d same turns a =
    record {
      to = turns.to;
      rest = turns.rest;
      doing = turns.doing;
      proceeds = subst (λ z. Proceeds w.bytes w.ready w.keeps t.inst q e.call m t.rest z turns.to k n m2 turns.rest turns.doing) (sym same) turns.proceeds;
      is_came = turns.is_came;
      store = turns.store;
      begun = a.begun;
      is_where = there w t.inst q m m2 t.rest turns.rest d turns.doing e es k n x2 left turns.to turns.proceeds turns.is_there a;
      few_pieces = few_of d e k (pieces_within turns.proceeds) a.counted (λ ps is. let s = a.started ps is in s.1);
      in_fuel = charges_within a.within turns.proceeds;
    }

-- ---- the code's counts

pub can_go_further : {M : Type 0} (w : Setting M) (q : ℕ) (x x2 : HostInstanceState) (m m2 : M) (t : Tenant) (e : Entry) (es : List Entry) (answer : TurnOutcome) (k n : ℕ) → Opened w x m t e es → AdvancesTenant w q m t e es answer k n x2 m2 → x2.journal ≡ x.journal → CanGoFurther x2.journal.open_calls k n
can_go_further w q x x2 m m2 t e es answer k n o a same = search rules

-- ---- what no call is

pub isnt_left : (term : Term) (ps : List Piece) → computing term ≡ has_left ps → ⊥
isnt_left term ps is = cc is

pub isnt_faced : UnderWay ≡ Faced → ⊥
isnt_faced is = cc is
