-- What holds of reduction: laws that are proved of the definitions alone.
use Rattle.std.specs.Prelude.{◌≡◌, ℕ, suc, ◌+◌, ◌<◌, ◌≤◌}
use Rattle.wh_model.specs.Format.Syntax.{Code, nothing, plain, block, loop, if_then, if_else}
use Rattle.wh_model.specs.Execution.Store.{Instance}
use Rattle.wh_model.specs.Execution.Configuration.{Term, code, label, frame, Config, config, trapped}
use Rattle.wh_model.specs.Execution.Reduction.{Reduces, After}
use Rattle.wh_model.specs.declared.memory.Need.{Need}
use Rattle.wh_model.specs.Execution.Asking.{Asks}

-- at most one charge and one configuration follow
abbrev pub OneReduction : Type 0
OneReduction =
    (inst : Instance) (d j k : ℕ) (a b c : Config) → Reduces inst d a j b → Reduces inst d a k c → (j ≡ k) × (b ≡ c)

-- a charge is 0 or 1
abbrev pub SmallCharges : Type 0
SmallCharges = (inst : Instance) (d k : ℕ) (a b : Config) → Reduces inst d a k b → k ≤ 1

-- the instructions of a sequence, bodies aside
abbrev pub instructions : Code → ℕ
instructions nothing = 0
instructions (plain op rest) = suc (instructions rest)
instructions (block t body rest) = suc (instructions rest)
instructions (loop t body rest) = suc (instructions rest)
instructions (if_then t first rest) = suc (instructions rest)
instructions (if_else t first second rest) = suc (instructions rest)

-- the labels, frames and instructions of a term
abbrev pub term_size : Term → ℕ
term_size (code vs is) = instructions is
term_size (label vs n next t is) = suc (term_size t + instructions is)
term_size (frame vs n f t is) = suc (term_size t + instructions is)

abbrev pub config_size : Config → ℕ
config_size (config s f t) = term_size t
config_size (trapped s x) = 0

-- an uncharged reduction makes the term smaller, so a chain of them ends
abbrev pub UnchargedEnd : Type 0
UnchargedEnd = (inst : Instance) (d : ℕ) (a b : Config) → Reduces inst d a 0 b → config_size b < config_size a

-- an uncharged chain leads to where no uncharged rule applies
abbrev pub Settles : Type 0
Settles = (inst : Instance) (a : Config) → (b : Config) × After inst a 0 b

-- what stands after n charges is determined
abbrev pub OneAfter : Type 0
OneAfter = (inst : Instance) (n : ℕ) (a b c : Config) → After inst a n b → After inst a n c → b ≡ c

-- m charges and then n are m + n charges
abbrev pub AfterJoins : Type 0
AfterJoins = (inst : Instance) (m n : ℕ) (a b c : Config) → After inst a m b → After inst b n c → After inst a (m + n) c

-- and m + n charges are m and then n
abbrev pub AfterSplits : Type 0
AfterSplits =
    (inst : Instance) (m n : ℕ) (a c : Config) → After inst a (m + n) c
    → (b : Config) × After inst a m b × After inst b n c

-- a configuration asks for one run of bytes at most
abbrev pub OneNeed : Type 0
OneNeed = (inst : Instance) (c : Config) (x y : Need) → Asks inst c x → Asks inst c y → x ≡ y
