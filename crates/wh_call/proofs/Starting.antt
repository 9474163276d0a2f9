-- The start function can be called.
use Rattle.std.proofs.Common.{◌≡◌, ℕ, [], Some, slice_get, refl, sym, ap, subst, ◌∙◌}
use Rattle.wh_model.specs.declared.host.HostFunc.TheVariants.{Input, Put, Emit}
use Rattle.wh_model.specs.Format.{FuncType, Body, Module}
use Rattle.wh_model.specs.Validity.{Context, IsValidIn, ValidStart}
use Rattle.wh_model.specs.Execution.Store.{Instance}
use Rattle.wh_model.specs.Execution.{FuncInst, own, host, signature}
use Rattle.wh_control.specs.Parts.{ProgramParts, IsInstance}
use Rattle.wh_machine.specs.Opening.{IsOwnCall}
use Rattle.wh_call.proofs.Lists.{mapped_from}

abbrev no_type : FuncType
no_type = record { params = []; results = [] }

-- a function without parameters and results is the module's own
own_start : (inst : Instance) (x : ℕ) (h : FuncInst) → slice_get inst.funcs x ≡ Some h → signature h ≡ no_type → (type : FuncType) × (body : Body) × (type.params ≡ []) × IsOwnCall inst x [] type body []
own_start inst x (own type body) at e = (type, body, ap (λ (t : FuncType). t.params) e, record { is_own = at; types = sym (ap (λ (t : FuncType). t.params) e); fit = tt; words = refl })
own_start inst x (host Input) at e = let params = ap (λ (t : FuncType). t.params) e in cc
own_start inst x (host Put) at e = let params = ap (λ (t : FuncType). t.params) e in cc
own_start inst x (host Emit) at e = let params = ap (λ (t : FuncType). t.params) e in cc

pub start_called : (m : Module) (p : ProgramParts) (c : Context) (inst : Instance) (x : ℕ) → IsValidIn m c → IsInstance p c inst → m.start ≡ Some x → (type : FuncType) × (body : Body) × (type.params ≡ []) × IsOwnCall inst x [] type body []
start_called m p c inst x valid is e =
    let start : slice_get c.funcs x ≡ Some no_type = subst (ValidStart c) e valid.start in
    let h = mapped_from signature inst.funcs x no_type (ap (λ fs. slice_get fs x) (sym is.program.signatures) ∙ start) in
    own_start inst x h.0 h.1 h.2
