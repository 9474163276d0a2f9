-- What contracts see of a script's host can be stored: as its parts.
use Rattle.std.specs.Prelude.{ℕ, Bool, List, refl}
use Rattle.std.specs.Coded.{Coded, code_by, coded_bool, coded_list, coded_ℕ, coded×}
use Rattle.wh_scheduler.specs.InHand.{OwnedState}
use Rattle.wh_scheduler.specs.Stored.{stored_owned}
use Rattle.wh_engine.specs.declared.parts.NamedInstance.{NamedInstance}
use Rattle.wh_engine.specs.contracts.parts.NamedInstance as instance_type
use Rattle.wh_engine.specs.declared.parts.Invoked.{Invoked}
use Rattle.wh_engine.specs.contracts.parts.Invoked as invoked_type
use Rattle.wh_engine.specs.RepresentedScript.{ScriptHostState}

abbrev stored_names : Coded (List (List ℕ))
stored_names = coded_list (coded_list coded_ℕ)

abbrev pub stored_script_host : {D : Type 0} → Coded D → Coded (ScriptHostState D)
stored_script_host {D} code =
    code_by (OwnedState D × (List (List ℕ) × (List (List ℕ) × (List NamedInstance × (List Invoked × (ℕ × Bool))))))
    (coded× (stored_owned code) (coded× stored_names (coded× stored_names
    (coded× (coded_list instance_type.the_row.coded) (coded× (coded_list invoked_type.the_row.coded) (coded× coded_ℕ coded_bool))))))
    (λ s. (s.host, (s.module_names, (s.instance_names, (s.instances, (s.invoked, (s.asked, s.lacked_threads)))))))
    (λ p. record {
      host = p.0;
      module_names = p.1.0;
      instance_names = p.1.1.0;
      instances = p.1.1.1.0;
      invoked = p.1.1.1.1.0;
      asked = p.1.1.1.1.1.0;
      lacked_threads = p.1.1.1.1.1.1;
    })
    (λ _. refl)
