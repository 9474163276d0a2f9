use Rattle.std.proofs.Common.{◌≡◌, ℕ, Some, List, slice_get, sym, subst}
use Rattle.std.specs.String.{string_bytes}
use Rattle.wh_host.specs.ModuleExports.{ShowsExport}
use Rattle.wh_desk.specs.OwnCopies.{type_of_export}
use Rattle.wh_desk.specs.declared.copying.DeskExport.{DeskExport}
use Rattle.wh_desk.proofs.EndsThere.{one_longer, one_more_holds}
use Rattle.wh_desk.proofs.copying.exports.Goals as goal

pub loop-at-preserved : goal.loop-at-preserved
loop-at-preserved c =
    let at : ℕ → DeskExport → Type 0 = (λ i x. ShowsExport c.args.host.now c.args.of.number i (string_bytes x.name) (type_of_export x)) in
    let items = c.in-Ok-push.ensures.items in
    record {
      many = one_longer c.loop-at.all.items _ c.in-Ok.export c.loop-at.at items c.loop-at.invariant.many;
      shows = subst (λ (xs : List DeskExport). ((i : ℕ) (x : DeskExport) → slice_get xs i ≡ Some x → at i x)) (sym items)
          (one_more_holds at c.loop-at.all.items c.in-Ok.export c.loop-at.invariant.shows (subst (λ i. at i c.in-Ok.export) (sym c.loop-at.invariant.many) c.in-Ok.ensures));
    }
