use Rattle.std.proofs.Common.{ℕ, ◌*◌, false, None, refl, replicate}
use Rattle.wh_model.specs.Execution.{Parameters}
use Rattle.wh_host_model.specs.Host.{rest_of, Tenant}
use Rattle.wh_syntax.specs.View.{view_module}
use Rattle.wh_imports.specs.LinkedState.{LinkedState}
use Rattle.wh_initial.specs.Begins.{Instantiates, first_store}
use Rattle.wh_initial.specs.declared.outcome.Instantiated.{Instantiated}
use Rattle.wh_instance.specs.Beginning.{BeginsTenant}
use Rattle.wh_instance.specs.Invoked.{IsSomeTenant}
use Rattle.wh_instance.specs.Tenancy.{HostInstanceState}
use Rattle.test_parts.proofs.arguments.begin.Goals as goal

-- one that has begun represents one of the definitions', whatever numbers its owner gave
begun_tenant : (l : LinkedState) (p : Parameters) (begun : Instantiated) (fuel : ℕ) (x : HostInstanceState)
    → Instantiates (view_module l.valid.decoded) p begun → BeginsTenant l begun fuel x → IsSomeTenant l x
begun_tenant l p begun fuel x i begins =
    let made = begins p i in
    let t : Tenant = record {
      place = 0;
      of = 0;
      params = record { shares = 0; min = 0; max = 0; fuel = 0; base = 0; salt = 0; inputs = p.inputs };
      inst = i.inst;
      rest = rest_of (first_store (view_module l.valid.decoded) p i.globals i.elements);
      doing = made.0;
      ended = made.1;
      copied = 0;
      open_calls = made.2;
      waiting_for = None;
      dead = false;
    } in
    (begun.page_limit, replicate (begun.pages * 65536) 0, t, made.4 t (record { inst_is = refl; rest = refl; doing = refl; ended_are = refl; open_are = refl; waiting_for = refl; dead = refl }))

pub returns-2 : goal.returns-2
returns-2 c = begun_tenant c.args.linked.now _ _ _ _ c.in_ok-begun.ensures.ok c.in_ok-new.ensures
