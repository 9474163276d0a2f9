-- What contracts see of a hand can be stored: as its parts.
use Rattle.std.specs.Prelude.{ℕ, List, refl}
use Rattle.std.specs.Coded.{Coded, code_by, coded_list, coded_ℕ, coded×}
use Rattle.wh_host.specs.Hosting.{HostState}
use Rattle.wh_host.specs.Stored.{stored_host}
use Rattle.wh_hand.specs.HandStates.{HandState}

abbrev pub stored_hand : Coded HandState
stored_hand =
    code_by (HostState × List ℕ) (coded× stored_host (coded_list coded_ℕ))
    (λ a. (a.host, a.output)) (λ p. record { host = p.0; output = p.1 }) (λ _. refl)
