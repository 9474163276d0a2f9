use Rattle.std.proofs.Common.{sym, subst}
use Rattle.wh_syntax.specs.View.{view_module}
use Rattle.wh_imports.specs.LinkedState.{LinkedState}
use Rattle.wh_imports.specs.Records.{AreRecords}
use Rattle.wh_imports.proofs.linked.Linked.records.Goals as goal

pub returns : goal.returns
returns c =
    subst (λ rs. AreRecords (view_module c.args.self.now.valid.decoded) rs) (sym c.deref.ensures.value)
    (subst (λ (v : LinkedState). AreRecords (view_module v.valid.decoded) c.self.inside.records.items) c.self.view_is c.self.invariant.2)
