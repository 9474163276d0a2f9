use Rattle.std.proofs.Common.{◌≡◌, ◌∙◌, ◌∷◌, ◌++◌, [], List, Option, refl, sym, ap}
use Rattle.wh_host.specs.declared.parts.LoadedModule.{LoadedModule}
use Rattle.wh_host.specs.declared.parts.ModuleRef.{ModuleRef}
use Rattle.wh_host.specs.Hosting.{module_in}
use Rattle.wh_host.proofs.loading.keep.Goals as goal

pub returns-clause-ok : goal.returns-clause-ok
returns-clause-ok c =
    let slots : c.reserve-2.new.self.slots ≡ c.args.modules.now.slots = ap (λ (s : _). s.slots) c.in_ok-reserve-2.ensures.rest_kept in
    record {
      kept = record { number = c.args.number; linked = c.args.linked; bytes = c.in_ok-bytes.bytes };
      place = c.insert_reserved-place.result;
      numbered = refl;
      is_linked = refl;
      bytes_are = c.in_ok-bytes.ensures;
      vacant = ap (λ (zs : List (Option LoadedModule)). module_in zs c.insert_reserved-place.result) (sym slots) ∙ c.insert_reserved-place.ensures.was_vacant;
      lies = c.insert_reserved-place.ensures.updates.changed;
      others = λ p other. c.insert_reserved-place.ensures.updates.others p other ∙ ap (λ (zs : List (Option LoadedModule)). module_in zs p) slots;
      listed = c.push_reserved.ensures.items ∙ ap (λ (zs : List ModuleRef). zs ++ record { number = c.args.number; place = c.insert_reserved-place.result } ∷ []) c.in_ok-reserve.ensures.items;
    }
