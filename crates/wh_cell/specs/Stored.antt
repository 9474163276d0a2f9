-- What contracts see of an owner, and of what the lock lends, can be stored: as its parts.
use Rattle.std.specs.Prelude.{◌≡◌, ℕ, Bool, true, false, List, Option, refl}
use Rattle.std.specs.Coded.{Coded, code_by, coded_bool, coded_list, coded_option, coded_ℕ, coded×}
use Rattle.wh_space_model.specs.Errands.{Errand, to_read, to_write}
use Rattle.wh_host.specs.Hosting.{HostState}
use Rattle.wh_host.specs.Stored.{stored_host}
use Rattle.wh_cell.specs.Knowing.{BackingState, KnownState}
use Rattle.wh_cell.specs.LeftByOwner.{LeftState}
use Rattle.wh_cell.specs.Locking.{LockedState}

abbrev pub stored_left : {D : Type 0} → Coded D → Coded (LeftState D)
stored_left {D} code =
    code_by (HostState × Option D) (coded× stored_host (coded_option code))
    (λ l. (l.host, l.device)) (λ p. record { host = p.0; device = p.1 }) (λ _. refl)

abbrev is_read : Errand → Bool
is_read to_write = false
is_read to_read = true

abbrev errand_by : Bool → Errand
errand_by false = to_write
errand_by true = to_read

pub errand_back : (errand : Errand) → errand_by (is_read errand) ≡ errand
errand_back to_write = refl
errand_back to_read = refl

abbrev stored_errand : Coded Errand
stored_errand = code_by Bool coded_bool is_read errand_by errand_back

abbrev pub stored_known : {D : Type 0} → Coded D → Coded (KnownState D)
stored_known {D} code =
    code_by (Option D × List (Option Errand))
    (coded× (coded_option code) (coded_list (coded_option stored_errand)))
    (λ k. (k.device, k.out)) (λ p. record { device = p.0; out = p.1 }) (λ _. refl)

abbrev pub stored_backing : {D : Type 0} → Coded D → Coded (BackingState D)
stored_backing {D} code =
    code_by (D × List (Option Errand)) (coded× code (coded_list (coded_option stored_errand)))
    (λ b. (b.device, b.out)) (λ p. record { device = p.0; out = p.1 }) (λ _. refl)

abbrev pub stored_locked : {D : Type 0} → Coded D → Coded (LockedState D)
stored_locked {D} code =
    code_by (HostState × (KnownState D × (ℕ × (ℕ × (ℕ × (ℕ × LeftState D))))))
    (coded× stored_host
    (coded× (stored_known code) (coded× coded_ℕ (coded× coded_ℕ (coded× coded_ℕ (coded× coded_ℕ (stored_left code)))))))
    (λ l. (l.host, (l.known, (l.books.turns, (l.books.charges, (l.books.offers, (l.books.evictions, l.left)))))))
    (λ p. record {
      host = p.0;
      known = p.1.0;
      books = record {
        turns = p.1.1.0;
        charges = p.1.1.1.0;
        offers = p.1.1.1.1.0;
        evictions = p.1.1.1.1.1.0;
      };
      left = p.1.1.1.1.1.1;
    })
    (λ _. refl)
