-- What holds of the focused form: it takes the steps of the nested one.
use Rattle.std.specs.Prelude.{◌≡◌, ℕ, List, []}
use Rattle.wh_model.specs.Format.Syntax.{nothing, FuncType, Body}
use Rattle.wh_model.specs.Execution.Store.{Value, Instance, Store}
use Rattle.wh_model.specs.Execution.Configuration.{Config, config, called}
use Rattle.wh_model.specs.Execution.Reduction.{Reduces, IsSettled, After}
use Rattle.wh_model.specs.Focus.Focused.{Activation, Focused, running, activation, plug}
use Rattle.wh_model.specs.Focus.FocusSteps.{charge_of, Steps, FocusedAfter}

-- a focused configuration takes a step exactly where its nested configuration takes a reduction, with the same charge
abbrev pub Agrees : Type 0
Agrees = ((inst : Instance) (c c2 : Focused) (k : ℕ) → Steps inst c k c2 → Reduces inst 0 (plug c) k (plug c2))
    × ((inst : Instance) (c : Focused) (k : ℕ) (r : Config) → Reduces inst 0 (plug c) k r
    → (c2 : Focused) × Steps inst c k c2 × (r ≡ plug c2))

-- so also for n charges
abbrev pub AfterAgrees : Type 0
AfterAgrees = ((inst : Instance) (c c2 : Focused) (n : ℕ) → FocusedAfter inst c n c2 → After inst (plug c) n (plug c2))
    × ((inst : Instance) (c : Focused) (n : ℕ) (r : Config) → After inst (plug c) n r
    → (c2 : Focused) × FocusedAfter inst c n c2 × (r ≡ plug c2))

-- where a charged instruction stands first, no uncharged rule applies
abbrev pub ChargedSettles : Type 0
ChargedSettles =
    (inst : Instance) (s : Store) (a : Activation) (ws : List Activation) → charge_of a.code ≡ 1
    → IsSettled inst (plug (running s a ws))

-- the outermost call is its activation alone
abbrev pub Starts : Type 0
Starts =
    (s : Store) (type : FuncType) (body : Body) (args : List Value)
    → plug (running s (activation type body args) []) ≡ config s [] (called type body args [] nothing)
