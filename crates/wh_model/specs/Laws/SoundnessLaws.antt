-- What is valid never gets stuck: the theorems of section 7.5 of the standard, and what follows for journals.
use Rattle.std.specs.Prelude.{◌≡◌, ◌≢◌, ◌⊎◌, ℕ, List, [], ◌∷◌, ◌++◌, Some, None, slice_get, reverse}
use Rattle.std.specs.List.{AllByRecursion}
use Rattle.wh_model.specs.declared.ValType.{ValType}
use Rattle.wh_model.specs.Format.Syntax.{nothing, FuncType, Module}
use Rattle.wh_model.specs.Validity.Typing.{Context}
use Rattle.wh_model.specs.Validity.Valid.{IsContext, IsValidIn}
use Rattle.wh_model.specs.Linking.Accepting.{IsModule, IsAccepted}
use Rattle.wh_model.specs.Execution.Store.{FuncInst, signature, Instance, Store}
use Rattle.wh_model.specs.Execution.Configuration.{code, Config, config, trapped, store_of}
use Rattle.wh_model.specs.Execution.Reduction.{Reduces, Leads}
use Rattle.wh_model.specs.Execution.Instance.{Parameters, AreGiven, Piece, begins, IsInitial}
use Rattle.wh_model.specs.Execution.Replay.{Outcome, returned, stopped, cancelled, dead, pending, Call, Invocation, Standing, idle, writing, running, Replay}
use Rattle.wh_model.specs.Soundness.StoreTyping.{AreOfTypes, InstanceType, StoreType, StoreExtends, PieceType, HasBytes}
use Rattle.wh_model.specs.Soundness.TermTyping.{IsInside, ConfigType, ThreadType}

-- ---- reduction

-- values of these types, or a trap: no more is to be done
abbrev pub IsFinal : Config → List ValType → Type 0
IsFinal (config s f (code vs nothing)) outs = AreOfTypes vs outs
IsFinal (trapped s trap) outs = Unit {0}
IsFinal _ outs = ⊥

-- some reduction follows, outside of all functions
abbrev pub GoesFurther : Instance → Config → Type 0
GoesFurther inst a = (k : ℕ) × (b : Config) × Reduces inst 0 a k b

-- A reduction keeps the types of a configuration, in every context inside the module's functions. So globals keep their
-- types, the table names functions that there are, values stay in their ranges, and the memory has whole pages within
-- its limit.
abbrev pub Preservation : Type 0
Preservation = (m c : Context) (inst : Instance) (d k : ℕ) (a b : Config) (outs : List ValType)
    → InstanceType m inst → IsInside m c → ConfigType m inst c a outs → Reduces inst d a k b
    → ConfigType m inst c b outs

-- outside of all functions too
abbrev pub ThreadPreservation : Type 0
ThreadPreservation = (m : Context) (inst : Instance) (k : ℕ) (a b : Config) (outs : List ValType)
    → InstanceType m inst → ThreadType m inst a outs → Reduces inst 0 a k b → ThreadType m inst b outs

-- what is typed has ended with values of its types or in a trap, or it goes further
abbrev pub Progress : Type 0
Progress = (m : Context) (inst : Instance) (a : Config) (outs : List ValType)
    → InstanceType m inst → ThreadType m inst a outs → IsFinal a outs ⊎ GoesFurther inst a

-- so nothing that it leads to is stuck
abbrev pub NeverStuck : Type 0
NeverStuck = (m : Context) (inst : Instance) (n : ℕ) (a b : Config) (outs : List ValType)
    → InstanceType m inst → ThreadType m inst a outs → Leads inst a n b
    → ThreadType m inst b outs × (IsFinal b outs ⊎ GoesFurther inst b)

-- and stores only extend
abbrev pub StoresExtend : Type 0
StoresExtend = (m : Context) (inst : Instance) (n : ℕ) (a b : Config) (outs : List ValType)
    → InstanceType m inst → ThreadType m inst a outs → Leads inst a n b → StoreExtends m (store_of a) (store_of b)

-- ---- instantiation

-- a valid module begins with an instance and a store of its types, and with bytes to be written within the memory
abbrev pub BeginsTyped : Type 0
BeginsTyped = (m : Module) (c : Context) (p : Parameters) (inst : Instance) (s : Store) (ps : List Piece)
    → IsValidIn m c → HasBytes m → AreGiven p → IsInitial m p (begins inst s ps)
    → InstanceType c inst × StoreType c inst s × AllByRecursion (PieceType s) ps

-- the data of a module that is spelled by bytes are bytes
abbrev pub SpelledHasBytes : Type 0
SpelledHasBytes = (bytes : List ℕ) (m : Module) → IsModule bytes m → HasBytes m

-- ---- journals

-- the call is of a function of this type
abbrev pub HasFuncType : Instance → Call → FuncType → Type 0
HasFuncType inst call type =
    (x : ℕ) × (h : FuncInst) × (call.func ≡ Some x) × (slice_get inst.funcs x ≡ Some h) × (signature h ≡ type)

-- it has a value for each of its function's parameters; a start without a function has none
abbrev pub HasArguments : Instance → Call → Type 0
HasArguments inst call = ((call.func ≡ None) × (call.args ≡ []))
    ⊎ ((type : FuncType) × HasFuncType inst call type × AreOfTypes call.args type.params)

-- what a call shows that has ended so: it got a value for each parameter, and gave values of its function's results
abbrev pub HasTypedEnd : Instance → Call → Outcome → Type 0
HasTypedEnd inst call (returned vs) = ((call.func ≡ None) × (vs ≡ []))
    ⊎ ((type : FuncType) × HasFuncType inst call type × AreOfTypes call.args type.params × AreOfTypes vs type.results)
HasTypedEnd inst call (stopped trap) = HasArguments inst call
HasTypedEnd inst call cancelled = HasArguments inst call
HasTypedEnd inst call dead = Unit {0}
HasTypedEnd inst call pending = Unit {0}

abbrev pub IsFirstOpen : List Call → Call → Type 0
IsFirstOpen calls call =
    (past waiting : List Call) × (calls ≡ past ++ call ∷ waiting) × (call.outcome ≡ pending)
    × AllByRecursion (λ before. before.outcome ≢ pending) past

-- Where the first open call stands: over a store of the module. If it runs, it got a value for each parameter, it is
-- typed by its function's results, and it goes further.
abbrev pub StandsAs : Context → Instance → List Call → Standing → Type 0
StandsAs c inst calls (idle s) = StoreType c inst s
StandsAs c inst calls (writing s rest) = StoreType c inst s × AllByRecursion (PieceType s) rest
StandsAs c inst calls (running a) =
    (call : Call) × (type : FuncType) × IsFirstOpen calls call × HasFuncType inst call type
    × AreOfTypes call.args type.params × ThreadType c inst a (reverse type.results) × GoesFurther inst a

-- in a journal of a valid module each call that has ended, and the one that is open first, are as above
abbrev pub ReplaySoundness : Type 0
ReplaySoundness =
    (m : Module) (c : Context) (p : Parameters) (inst : Instance) (s : Store) (ps : List Piece) (calls : List Call)
    (z : Standing)
    → IsValidIn m c → HasBytes m → IsInitial m p (begins inst s ps) → Replay m p calls z
    → AllByRecursion (λ call. HasTypedEnd inst call call.outcome) calls × StandsAs c inst calls z

-- and whatever function is called next, nothing that the call leads to is stuck
abbrev pub NoCallSticks : Type 0
NoCallSticks =
    (m : Module) (c : Context) (p : Parameters) (inst : Instance) (s s2 : Store) (ps : List Piece) (calls : List Call)
    (call : Call) (n : ℕ) (a b : Config)
    → IsValidIn m c → HasBytes m → IsInitial m p (begins inst s ps) → Replay m p calls (idle s2)
    → Invocation inst s2 call a → Leads inst a n b
    → (type : FuncType) × HasFuncType inst call type × (IsFinal b (reverse type.results) ⊎ GoesFurther inst b)

-- so it is of each module whose bytes are accepted
abbrev pub AcceptedSoundness : Type 0
AcceptedSoundness =
    (bytes : List ℕ) (m : Module) (p : Parameters) (inst : Instance) (s : Store) (ps : List Piece) (calls : List Call)
    (z : Standing)
    → IsAccepted bytes m → IsInitial m p (begins inst s ps) → Replay m p calls z
    → (c : Context) × IsContext m c × AllByRecursion (λ call. HasTypedEnd inst call call.outcome) calls
    × StandsAs c inst calls z
