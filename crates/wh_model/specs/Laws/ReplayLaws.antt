-- What holds of instantiation and of journals.
use Rattle.std.specs.Prelude.{◌≡◌, ◌+◌, ◌%◌, ◌<◌, ◌≤◌, ◌⊎◌, ℕ, false, length, List, [], ◌∷◌, ◌++◌, map, take, slice_get, Some}
use Rattle.std.specs.List.{AllByRecursion}
use Rattle.wh_model.specs.declared.Trap.{Trap}
use Rattle.wh_model.specs.declared.ValType.{ValType}
use Rattle.wh_model.specs.Format.Syntax.{Code, FuncType, Body, Module}
use Rattle.wh_model.specs.Execution.Store.{Value, type_of, InRange, own, Instance, Store}
use Rattle.wh_model.specs.Execution.Configuration.{Config}
use Rattle.wh_model.specs.Execution.Reduction.{After, IsNext}
use Rattle.wh_model.specs.Execution.Instance.{Parameters, Piece, Placed, cut_up, fragments, Within, Beginning, begins, IsInitial}
use Rattle.wh_model.specs.Execution.Replay.{returned, stopped, cancelled, dead, pending, Call, with_pieces, Invocation, Ends, Standing, idle, writing, running, store_at, Stands, Waits, Replays, fails, NamesFunction, IsNotDead, Replay}
use Rattle.wh_model.specs.Laws.Worked.{invoked, Done, Trapped, StandsForFuel}

-- ---- what is determined

-- a module with these parameters begins in one way at most
abbrev pub OneBeginning : Type 0
OneBeginning = (m : Module) (p : Parameters) (a b : Beginning) → IsInitial m p a → IsInitial m p b → a ≡ b

-- a call that has ended leaves one store
abbrev pub OneEnd : Type 0
OneEnd =
    (inst : Instance) (s a b : Store) (ps : List Piece) (call : Call) → Ends inst s ps call a → Ends inst s ps call b
    → a ≡ b

-- the same; or one is an invocation, and the other what uncharged reductions make of it
abbrev pub Alike : Instance → Standing → Standing → Type 0
Alike inst y z =
    (y ≡ z) ⊎ ((c c2 : Config) × (y ≡ running c) × (z ≡ running c2) × (After inst c 0 c2 ⊎ After inst c2 0 c))

-- a journal leads to one standing
abbrev pub OneStanding : Type 0
OneStanding =
    (m : Module) (p : Parameters) (inst : Instance) (s : Store) (ps : List Piece) (calls : List Call) (y z : Standing)
    → IsInitial m p (begins inst s ps) → Replay m p calls y → Replay m p calls z → Alike inst y z

-- ---- histories

-- with a history put before them, calls keep their charges and their ends
abbrev pub HistoryBefore : Type 0
HistoryBefore =
    (inst : Instance) (s s2 : Store) (ps : List Piece) (first : Call) (history calls : List Call) (z : Standing)
    → Replays inst s ps (first ∷ history) (idle s2) → Replays inst s2 [] calls z
    → Replays inst s ps (first ∷ history ++ calls) z

-- and what stands before them, each call of it ended, leads to the store at which they begin
abbrev pub HistorySplits : Type 0
HistorySplits =
    (inst : Instance) (s : Store) (ps : List Piece) (first : Call) (history calls : List Call) (z : Standing)
    → ¬ (first.outcome ≡ pending) → AllByRecursion (λ call. ¬ (call.outcome ≡ pending)) history
    → Replays inst s ps (first ∷ history ++ calls) z
    → (s2 : Store) × Replays inst s ps (first ∷ history) (idle s2) × Replays inst s2 [] calls z

-- so a journal whose start hasn't failed goes on by calls of functions
abbrev pub JournalGrows : Type 0
JournalGrows =
    (m : Module) (p : Parameters) (inst : Instance) (s s2 : Store) (ps : List Piece) (start : Call)
    (history calls : List Call) (z : Standing)
    → IsInitial m p (begins inst s ps) → fails start.outcome ≡ false → AllByRecursion NamesFunction calls
    → AllByRecursion IsNotDead calls
    → Replay m p (start ∷ history) (idle s2) → Replays inst s2 [] calls z → Replay m p (start ∷ history ++ calls) z

-- ---- what a journal shows

-- the start that is called is the module's, and something is
abbrev pub StartIsCalled : Type 0
StartIsCalled = (m : Module) (p : Parameters) (calls : List Call) (z : Standing)
    → Replay m p calls z
    → (start : Call) × (rest : List Call) × (calls ≡ start ∷ rest) × (start.func ≡ m.start) × (start.args ≡ [])

-- no call takes more charges than it was given fuel
abbrev pub WithinFuel : Call → Type 0
WithinFuel call = call.charges ≤ call.fuel

abbrev pub FuelSuffices : Type 0
FuelSuffices = (inst : Instance) (s : Store) (ps : List Piece) (calls : List Call) (z : Standing)
    → Replays inst s ps calls z → AllByRecursion WithinFuel calls

-- a call that was begun got a value for each parameter
abbrev pub ArgumentsFit : Type 0
ArgumentsFit = (inst : Instance) (s s2 : Store) (ps : List Piece) (call : Call) (x : ℕ) (type : FuncType) (body : Body)
    → Ends inst s ps call s2 → call.func ≡ Some x → slice_get inst.funcs x ≡ Some (own type body)
    → IsNotDead call → call.fragments ≡ length ps
    → (map type_of call.args ≡ type.params) × AllByRecursion InRange call.args

-- a call under way goes on with a charged reduction, or is at its invocation with no charge taken
abbrev pub RunningGoesOn : Type 0
RunningGoesOn = (inst : Instance) (s : Store) (ps : List Piece) (call : Call) (c : Config)
    → Stands inst s ps call (running c)
    → IsNext inst c ⊎ ((call.charges ≡ 0) × Invocation inst (with_pieces s ps) call c)

-- calls after an open one haven't begun
abbrev pub OthersWait : Type 0
OthersWait = (inst : Instance) (s : Store) (ps : List Piece) (call : Call) (calls : List Call) (z : Standing)
    → call.outcome ≡ pending → Replays inst s ps (call ∷ calls) z → AllByRecursion Waits calls

-- a dead call takes no charge and leaves the store
abbrev pub DeadDoNothing : Type 0
DeadDoNothing = (inst : Instance) (s s2 : Store) (ps : List Piece) (call : Call)
    → Ends inst s ps call s2 → call.outcome ≡ dead → (call.charges ≡ 0) × (s2 ≡ s)

-- what has returned has written all its pieces
abbrev pub ReturnedHasWritten : Type 0
ReturnedHasWritten = (inst : Instance) (s s2 : Store) (ps : List Piece) (call : Call) (vs : List Value)
    → Ends inst s ps call s2 → call.outcome ≡ returned vs → call.fragments ≡ length ps

-- while pieces are written, those that are counted stand in the store and the others are left
abbrev pub PiecesInOrder : Type 0
PiecesInOrder = (inst : Instance) (s s2 : Store) (ps rest : List Piece) (call : Call)
    → Stands inst s ps call (writing s2 rest)
    → (s2 ≡ with_pieces s (take call.fragments ps)) × (with_pieces s2 rest ≡ with_pieces s ps)

-- an open call that is cancelled leaves the store at which it stood
abbrev pub CancelledStays : Type 0
CancelledStays = (inst : Instance) (s : Store) (ps : List Piece) (call : Call) (z : Standing)
    → Stands inst s ps call z → Ends inst s ps (record call { outcome = cancelled }) (store_at z)

-- ---- runs as journals

-- it is the instance's function of this index, without further locals
abbrev pub IsFunction : Instance → ℕ → List ValType → List ValType → Code → Type 0
IsFunction inst x params results body =
    slice_get inst.funcs x
    ≡ Some (own (record { params = params; results = results }) (record { locals = []; code = body }))

-- an open call of it with these arguments, which has taken `charges` charges
abbrev pub called_with : ℕ → List Value → ℕ → ℕ → Call
called_with x args fuel charges =
    record { func = Some x; args = args; fuel = fuel; fragments = 0; charges = charges; outcome = pending }

-- a run that is done is a journal of a call that returned these values in order
abbrev pub DoneReplays : Type 0
DoneReplays =
    (inst : Instance) (s s2 : Store) (x fuel n : ℕ) (params results : List ValType) (body : Code) (args vs : List Value)
    → IsFunction inst x params results body → map type_of args ≡ params → AllByRecursion InRange args → n ≤ fuel
    → Done inst (invoked s params results body args) s2 vs n
    → Replays inst s [] (record (called_with x args fuel n) { outcome = returned vs } ∷ []) (idle s2)

-- one that traps is a journal of a call that trapped and left the store that was there
abbrev pub TrappedReplays : Type 0
TrappedReplays =
    (inst : Instance) (s s2 : Store) (x fuel n : ℕ) (params results : List ValType) (body : Code) (args : List Value)
    (trap : Trap)
    → IsFunction inst x params results body → map type_of args ≡ params → AllByRecursion InRange args → n ≤ fuel
    → Trapped inst (invoked s params results body args) s2 trap n
    → Replays inst s [] (record (called_with x args fuel n) { outcome = stopped trap } ∷ []) (idle s2)

-- one that is blocked on fuel is a journal of an open call that is there
abbrev pub FuelReplays : Type 0
FuelReplays =
    (inst : Instance) (s : Store) (x fuel n : ℕ) (params results : List ValType) (body : Code) (args : List Value)
    → IsFunction inst x params results body → map type_of args ≡ params → AllByRecursion InRange args → n ≤ fuel
    → (d : StandsForFuel inst (invoked s params results body args) n)
    → Replays inst s [] (called_with x args fuel n ∷ []) (running d.0)

-- ---- fragments

-- a fragment has bytes, all of one page of 4096
abbrev pub InOnePage : Piece → Type 0
InOnePage p = (0 < length p.items) × (p.at % 4096 + length p.items ≤ 4096)

abbrev pub FragmentsInPages : Type 0
FragmentsInPages = (ps : List Piece) → AllByRecursion InOnePage (fragments ps)

-- each piece but the first begins at a multiple of 4096
abbrev pub LaterAtMultiples : List Piece → Type 0
LaterAtMultiples [] = Unit {0}
LaterAtMultiples (p ∷ ps) = AllByRecursion (λ q. q.at % 4096 ≡ 0) ps

-- so a segment is cut nowhere else
abbrev pub CutAtMultiples : Type 0
CutAtMultiples = (at : ℕ) (items : List ℕ) → LaterAtMultiples (cut_up at items)

-- three bytes from 4094 on are two fragments
abbrev pub CutOfThree : Type 0
CutOfThree =
    (x y z : ℕ)
    → cut_up 4094 (x ∷ y ∷ z ∷ []) ≡ record { at = 4094; items = x ∷ y ∷ [] } ∷ record { at = 4096; items = z ∷ [] }
    ∷ []

-- they end where the segments may
abbrev pub FragmentsWithin : Type 0
FragmentsWithin = (n : ℕ) (ps : List Piece) → Within n ps → Within n (fragments ps)

-- written one after the other, the fragments are the segments
abbrev pub FragmentsWrite : Type 0
FragmentsWrite =
    (s : Store) (ps : List Piece) → Within (length s.bytes) ps → with_pieces s (fragments ps) ≡ with_pieces s ps

-- what an instance has to write are its module's data segments
abbrev pub BeginningWrites : Type 0
BeginningWrites =
    (m : Module) (p : Parameters) (inst : Instance) (s : Store) (ps : List Piece) → IsInitial m p (begins inst s ps)
    → (segments : List Piece) × Placed s.globals (map (λ d. (d.offset, d.init)) m.segments) segments
    × (with_pieces s ps ≡ with_pieces s segments)
