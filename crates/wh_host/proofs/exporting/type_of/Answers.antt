use Rattle.std.proofs.Common.{None, Some}
use Rattle.wh_host.proofs.ExportsThere.{index_by, no_type, none_found, type_found}
use Rattle.wh_host.proofs.exporting.type_of.Goals as goal

pub returns-in_default-clause-none : goal.returns-in_default-clause-none
returns-in_default-clause-none c =
    no_type c.args.module.now c.args.func (index_by c.args.module.now c.deref.result.now c.deref-2.result.now c.args.func None c.deref.ensures.value c.deref-2.ensures.value c.in_default.ensures)

pub returns-clause-some : goal.returns-clause-some
returns-clause-some c =
    type_found c.args.module.now c.deref-3.result.now c.args.func c.in-Some.of c.nth_type.result (index_by c.args.module.now c.deref.result.now c.deref-2.result.now c.args.func (Some c.in-Some.of) c.deref.ensures.value c.deref-2.ensures.value c.in-Some.ensures) c.deref-3.ensures.value c.nth_type.ensures

pub returns-clause-none : goal.returns-clause-none
returns-clause-none c =
    none_found c.args.module.now c.deref-3.result.now c.args.func c.in-Some.of c.nth_type.result (index_by c.args.module.now c.deref.result.now c.deref-2.result.now c.args.func (Some c.in-Some.of) c.deref.ensures.value c.deref-2.ensures.value c.in-Some.ensures) c.deref-3.ensures.value c.nth_type.ensures
