-- Typing of instructions under way and of configurations: section 7.5 of the standard.
use Rattle.std.specs.Prelude.{◌≡◌, List, [], ◌++◌, Option, None}
use Rattle.wh_model.specs.declared.ValType.{ValType}
use Rattle.wh_model.specs.Format.Syntax.{nothing}
use Rattle.wh_model.specs.Validity.Typing.{Context, under, operand, HasType}
use Rattle.wh_model.specs.Execution.Store.{Instance}
use Rattle.wh_model.specs.Execution.Configuration.{Term, code, label, frame, arity, Config, config, trapped}
use Rattle.wh_model.specs.Soundness.StoreTyping.{AreOfTypes, StoreType}

-- ---- contexts

-- the context of a function of the module: its locals and its result, and no label yet
abbrev pub frame_context : Context → List ValType → Option ValType → Context
frame_context m locals result = record m { locals = locals; labels = []; result = result }

-- a context inside the module's functions: it has the module's own types, functions, table, memory and globals
abbrev pub IsInside : Context → Context → Type 0
IsInside m c =
    (c.types ≡ m.types) × (c.funcs ≡ m.funcs) × (c.tables ≡ m.tables) × (c.memories ≡ m.memories)
    × (c.globals ≡ m.globals)

-- ---- terms

-- Over a module's context m, the term gives values of these types in the context c. Operands have types, which the
-- instructions take up. A label takes what its continuation takes, and what is inside it gives what its continuation
-- gives. In a frame the locals have types, and what is inside it gives the function's result.
abbrev pub TermType : Context → Context → Term → List ValType → Type 0
TermType m c (code vs is) outs = (ins : List ValType) × AreOfTypes vs ins × HasType c is ins outs
TermType m c (label vs n next t is) outs =
    (below ends : List ValType) × (takes : Option ValType) × AreOfTypes vs below × (n ≡ arity takes)
    × HasType c next (operand takes) ends × TermType m (under takes c) t ends × HasType c is (ends ++ below) outs
TermType m c (frame vs n f t is) outs =
    (below locals : List ValType) × (result : Option ValType) × AreOfTypes vs below × (n ≡ arity result)
    × AreOfTypes f locals × TermType m (frame_context m locals result) t (operand result)
    × HasType c is (operand result ++ below) outs

-- ---- configurations

-- over a store of the module, with locals and a term of the context; or a trap, which leaves such a store
abbrev pub ConfigType : Context → Instance → Context → Config → List ValType → Type 0
ConfigType m inst c (config s f t) outs = StoreType m inst s × AreOfTypes f c.locals × TermType m c t outs
ConfigType m inst c (trapped s trap) outs = StoreType m inst s

-- outside of all functions there are values alone, or one call under way, alone
abbrev pub IsAlone : Term → Type 0
IsAlone (code vs nothing) = Unit {0}
IsAlone (frame [] n f t nothing) = Unit {0}
IsAlone _ = ⊥

-- a configuration outside of all functions, which gives values of these types
abbrev pub ThreadType : Context → Instance → Config → List ValType → Type 0
ThreadType m inst (config s f t) outs = ConfigType m inst (frame_context m [] None) (config s f t) outs × IsAlone t
ThreadType m inst (trapped s trap) outs = StoreType m inst s
