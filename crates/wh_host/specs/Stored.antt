-- What contracts see of a host can be stored: as its parts.
use Rattle.std.specs.Prelude.{ℕ, List, Option, refl}
use Rattle.std.specs.Coded.{Coded, code_by, coded_list, coded_option, coded_ℕ, coded×}
use Rattle.wh_space_model.specs.Parts.{Space}
use Rattle.wh_space.specs.contracts.memory.Memory as memory_type
use Rattle.wh_host.specs.declared.parts.LoadedModule.{LoadedModule}
use Rattle.wh_host.specs.contracts.parts.LoadedModule as module_type
use Rattle.wh_host.specs.declared.parts.ModuleRef.{ModuleRef}
use Rattle.wh_host.specs.contracts.parts.ModuleRef as ref_type
use Rattle.wh_host.specs.declared.parts.InstanceEntry.{InstanceEntry}
use Rattle.wh_host.specs.contracts.parts.InstanceEntry as resident_type
use Rattle.wh_host.specs.declared.counts.HostCounts.{HostCounts}
use Rattle.wh_host.specs.contracts.counts.HostCounts as counts_type
use Rattle.wh_host.specs.Hosting.{HostState}

abbrev pub stored_host : Coded HostState
stored_host =
    code_by (List (Option LoadedModule) × (List ModuleRef × (List (Option InstanceEntry) × (ℕ × (Space × (ℕ × (ℕ × HostCounts)))))))
    (coded× (coded_list (coded_option module_type.the_row.coded))
    (coded× (coded_list ref_type.the_row.coded)
    (coded× (coded_list (coded_option resident_type.the_row.coded))
    (coded× coded_ℕ (coded× memory_type.the_row.coded (coded× coded_ℕ (coded× coded_ℕ counts_type.the_row.coded)))))))
    (λ h. (h.modules, (h.module_refs, (h.entries, (h.live, (h.space, (h.next, (h.next_module, h.counts))))))))
    (λ p. record {
      modules = p.0;
      module_refs = p.1.0;
      entries = p.1.1.0;
      live = p.1.1.1.0;
      space = p.1.1.1.1.0;
      next = p.1.1.1.1.1.0;
      next_module = p.1.1.1.1.1.1.0;
      counts = p.1.1.1.1.1.1.1;
    })
    (λ _. refl)
