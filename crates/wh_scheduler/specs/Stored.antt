-- What contracts see of a host that its owner has alone can be stored: as its parts.
use Rattle.std.specs.Prelude.{ℕ, Option, refl}
use Rattle.std.specs.Coded.{Coded, code_by, coded_option, coded_ℕ, coded×}
use Rattle.wh_host.specs.Hosting.{HostState}
use Rattle.wh_host.specs.Stored.{stored_host}
use Rattle.wh_scheduler.specs.InHand.{OwnedState}

abbrev pub stored_owned : {D : Type 0} → Coded D → Coded (OwnedState D)
stored_owned {D} code =
    code_by (HostState × (Option D × (ℕ × (ℕ × (ℕ × (ℕ × (ℕ × (ℕ × (ℕ × ℕ)))))))))
    (coded× stored_host
    (coded× (coded_option code)
    (coded× coded_ℕ (coded× coded_ℕ (coded× coded_ℕ (coded× coded_ℕ (coded× coded_ℕ (coded× coded_ℕ (coded× coded_ℕ coded_ℕ)))))))))
    (λ o. (o.host, (o.device, (o.books.turns, (o.books.charges, (o.books.offers, (o.books.evictions, (o.own.turns, (o.own.charges, (o.own.offers, o.own.evictions))))))))))
    (λ p. record {
      host = p.0;
      device = p.1.0;
      books = record { turns = p.1.1.0; charges = p.1.1.1.0; offers = p.1.1.1.1.0; evictions = p.1.1.1.1.1.0 };
      own = record {
        turns = p.1.1.1.1.1.1.0;
        charges = p.1.1.1.1.1.1.1.0;
        offers = p.1.1.1.1.1.1.1.1.0;
        evictions = p.1.1.1.1.1.1.1.1.1;
      };
    })
    (λ _. refl)
