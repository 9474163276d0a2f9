-- Scripts that are worked out by hand, while calls of a device fail.
use Rattle.std.specs.Prelude.{[], ◌∷◌, None, pos, codes}
use Rattle.wh_model.specs.declared.StoreOp.TheVariants.{I32Store8}
use Rattle.wh_model.specs.Format.Syntax.{i32_const, store, Code, nothing, plain, Module}
use Rattle.wh_script_model.specs.Commands.{admit, cancel, retry}
use Rattle.wh_script_model.specs.Texts.{call, done, wants_frame, cancelled, admit_ok, cancel_ok, retry_ok, retry_refused, call_is}
use Rattle.wh_script_model.specs.ScriptState.{ScriptState}
use Rattle.wh_script_model.specs.Failing.{DrainsAmid}
use Rattle.wh_script_model.specs.WorkedScripts.{one_function, only_module, some_params, IsObeyedHere, IsCalled}

-- i32.const 0, i32.const 1, i32.store8
abbrev pub one_at_zero : Code
one_at_zero = plain (i32_const (pos 0)) (plain (i32_const (pos 1)) (plain (store I32Store8 0 0) nothing))

-- a module of one function without results, which is exported as `f`, with one page of memory
abbrev pub with_one_page : Code → Module
with_one_page body = record (one_function [] body) { memories = record { min = 1; max = None } ∷ [] }

-- Of a module whose `f` stores a byte: `admit a m 100 2 16 0 0 0` and `invoke a f 5`. A write of the device fails while
-- the call runs: `call 1 frame S2 charges 0`. `retry a` gets `retry a ok`, and at the end `call 1 done charges 1`.
abbrev pub StoreIsRetried : Type 0
StoreIsRetried =
    (w w2 w3 w4 w5 : ScriptState)
    × IsObeyedHere (only_module (with_one_page one_at_zero)) 2 (admit (codes "a") (codes "m") some_params)
    (admit_ok (codes "a") 0 ∷ []) w
    × IsCalled w (codes "a") (codes "f") 5 [] w2
    × DrainsAmid (2 ∷ []) w2 (call_is (call 1) (wants_frame 2 0) ∷ []) w3
    × IsObeyedHere w3 4 (retry (codes "a")) (retry_ok (codes "a") ∷ []) w4
    × DrainsAmid [] w4 (call_is (call 1) (done None 1) ∷ []) w5

-- At another drain it stands where it stood, and no line is printed. `cancel a` gets `cancel a ok`, then `call 1 cancelled
-- charges 0`, and `retry a` after that `retry a refused H8`.
abbrev pub StoreIsCancelled : Type 0
StoreIsCancelled =
    (w w2 w3 w4 w5 : ScriptState)
    × IsObeyedHere (only_module (with_one_page one_at_zero)) 2 (admit (codes "a") (codes "m") some_params)
    (admit_ok (codes "a") 0 ∷ []) w
    × IsCalled w (codes "a") (codes "f") 5 [] w2
    × DrainsAmid (2 ∷ []) w2 (call_is (call 1) (wants_frame 2 0) ∷ []) w3
    × DrainsAmid [] w3 [] w3
    × IsObeyedHere w3 5 (cancel (codes "a")) (cancel_ok (codes "a") ∷ []) w4
    × DrainsAmid [] w4 (call_is (call 1) (cancelled 0) ∷ []) w5
    × IsObeyedHere w5 6 (retry (codes "a")) (retry_refused (codes "a") 8 ∷ []) w5
