-- Scripts that are worked out by hand: what some commands get.
use Rattle.std.specs.Prelude.{◌≡◌, ℕ, List, [], ◌∷◌, Some, None, ℤ, pos, codes, false}
use Rattle.wh_model.specs.declared.ValType.{ValType}
use Rattle.wh_model.specs.declared.ValType.TheVariants.{I32}
use Rattle.wh_model.specs.declared.ExternKind.TheVariants.{Func}
use Rattle.wh_model.specs.Format.Syntax.{i32_const, br, Code, nothing, plain, loop, Module}
use Rattle.wh_host_model.specs.Owners.{Params}
use Rattle.wh_script_model.specs.Settings.{default_settings}
use Rattle.wh_script_model.specs.Commands.{Command, admit, cancel, refuel}
use Rattle.wh_script_model.specs.Texts.{call, done, wants_fuel, queued, cancelled, refused, Reply, admit_ok, cancel_ok, refuel_refused, call_is}
use Rattle.wh_script_model.specs.ScriptState.{NamedInstance, ScriptState, HasInstance}
use Rattle.wh_script_model.specs.Drains.{Drains}
use Rattle.wh_script_model.specs.Receiving.{ReceivesCall}
use Rattle.wh_script_model.specs.Answers.{no_files, IsObeyed, replies_text}

-- ---- modules

-- a module of one function, without parameters, which is exported as `f`
abbrev pub one_function : List ValType → Code → Module
one_function results body = record {
  types = record { params = []; results = results } ∷ [];
  imports = [];
  funcs = 0 ∷ [];
  tables = [];
  memories = [];
  globals = [];
  exports = record { name = codes "f"; kind = Func; index = 0 } ∷ [];
  start = None;
  elements = [];
  bodies = record { locals = []; code = body } ∷ [];
  segments = [];
}

-- i32.const 7
abbrev pub seven : Code
seven = plain (i32_const (pos 7)) nothing

-- loop, br 0, end
abbrev pub round_and_round : Code
round_and_round = loop None (plain (br 0) nothing) nothing

-- it is kept as `m`, and no instance is there
abbrev pub only_module : Module → ScriptState
only_module m = record { modules = record { name = codes "m"; m = m } ∷ []; instances = []; invoked = []; faults_met = [] }

-- `100 2 16 0 0 0`
abbrev pub some_params : Params
some_params = record { shares = 100; min = 2; max = 16; fuel = 0; base = 0; salt = 0; inputs = [] }

-- ---- commands

-- a command on a line of this number, after a drain, with the default settings and no files
abbrev pub IsObeyedHere : ScriptState → ℕ → Command → List Reply → ScriptState → Type 0
IsObeyedHere w number command replies w2 = IsObeyed false default_settings no_files w number command replies w2

-- `invoke`
abbrev pub IsCalled : ScriptState → (inst export : List ℕ) → ℕ → List ℤ → ScriptState → Type 0
IsCalled w inst export fuel args w2 =
    (i : ℕ) × (g : NamedInstance) × HasInstance w inst i g × ReceivesCall false w i g export fuel args w2

-- Of a module whose `f` gives 7: `admit a m 100 2 16 0 0 0`, `invoke a f 0`, `invoke a g 0`, `invoke a f 0 5` get
-- `admit a ok 0`, and at the end `call 1 done 7 charges 0`, `call 2 refused H2`, `call 3 refused H3`.
abbrev pub SevenIsAnswered : Type 0
SevenIsAnswered =
    (w w2 w3 w4 w5 : ScriptState)
    × IsObeyedHere (only_module (one_function (I32 ∷ []) seven)) 2 (admit (codes "a") (codes "m") some_params)
    (admit_ok (codes "a") 0 ∷ []) w
    × IsCalled w (codes "a") (codes "f") 0 [] w2
    × IsCalled w2 (codes "a") (codes "g") 0 [] w3
    × IsCalled w3 (codes "a") (codes "f") 0 (pos 5 ∷ []) w4
    × Drains w4
    (call_is (call 1) (done (Some (pos 7)) 0) ∷ call_is (call 2) (refused 2) ∷ call_is (call 3) (refused 3) ∷ []) w5

-- as they are printed
abbrev pub SevenIsPrinted : Type 0
SevenIsPrinted =
    replies_text
    (call_is (call 1) (done (Some (pos 7)) 0) ∷ call_is (call 2) (refused 2) ∷ call_is (call 3) (refused 3) ∷ [])
    ≡ codes "call 1 done 7 charges 0\ncall 2 refused H2\ncall 3 refused H3\n"

-- Of a module whose `f` never ends: `invoke a f 3`, `invoke a f 0`, `cancel a` get `call 1 fuel charges 3`,
-- `call 2 queued`, `cancel a ok`, and at the end `call 1 cancelled charges 3`, `call 2 fuel charges 0`.
abbrev pub LoopIsAnswered : Type 0
LoopIsAnswered =
    (w w2 w3 w4 w5 w6 : ScriptState)
    × IsObeyedHere (only_module (one_function [] round_and_round)) 2 (admit (codes "a") (codes "m") some_params)
    (admit_ok (codes "a") 0 ∷ []) w
    × IsCalled w (codes "a") (codes "f") 3 [] w2
    × IsCalled w2 (codes "a") (codes "f") 0 [] w3
    × Drains w3 (call_is (call 1) (wants_fuel 3) ∷ call_is (call 2) queued ∷ []) w4
    × IsObeyedHere w4 5 (cancel (codes "a")) (cancel_ok (codes "a") ∷ []) w5
    × Drains w5 (call_is (call 1) (cancelled 3) ∷ call_is (call 2) (wants_fuel 0) ∷ []) w6

-- `refuel a 1` with no call to run gets `refuel a refused H8`
abbrev pub RefuelIsRefused : Type 0
RefuelIsRefused =
    (w w2 : ScriptState)
    × IsObeyedHere (only_module (one_function (I32 ∷ []) seven)) 2 (admit (codes "a") (codes "m") some_params)
    (admit_ok (codes "a") 0 ∷ []) w
    × Drains w [] w2
    × IsObeyedHere w2 3 (refuel (codes "a") 1) (refuel_refused (codes "a") 8 ∷ []) w2
