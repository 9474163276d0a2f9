-- What contracts see of a call and of a journal, and what becomes of them.
use Rattle.std.specs.Prelude.{◌≡◌, ℕ, ◌+◌, ◌-◌, ◌<◌, ◌^◌, ℤ, List, ◌∷◌, Option, min, refl}
use Rattle.std.specs.Coded.{Coded, code_by, coded_list, coded_option, coded_ℕ, coded_ℤ, coded×}
use Rattle.wh_journal.specs.declared.calls.CallEnd.{CallEnd}
use Rattle.wh_journal.specs.contracts.calls.CallEnd as end_type

-- The index of a call's function, if it has one; its arguments as they were given, and as words; the fuel that it was
-- given in all, how many pieces it has written, how many charges it has taken, and how it has ended, if it has.
pub record JournalCallState : Type 0 where
  pub func : Option ℕ
  pub given : List ℤ
  pub words : List ℕ
  pub fuel : ℕ
  pub pieces : ℕ
  pub charges : ℕ
  pub end : CallEnd

-- it has written `pieces` more pieces, and taken `charges` more charges
abbrev pub with_progress : JournalCallState → ℕ → ℕ → JournalCallState
with_progress c pieces charges = record c { pieces = c.pieces + pieces; charges = c.charges + charges }

-- it was given n more fuel, as far as it can be counted in 64 bits
abbrev pub with_more_fuel : JournalCallState → ℕ → JournalCallState
with_more_fuel c n = record c { fuel = min (c.fuel + n) (2 ^ 64 - 1) }

-- it has ended so
abbrev pub with_end : JournalCallState → CallEnd → JournalCallState
with_end c end = record c { end = end }

-- ---- journals

-- the calls that have ended, and the others, the first of which is the present call, each in the order of their coming
pub record JournalState : Type 0 where
  pub ended : List JournalCallState
  pub open_calls : List JournalCallState

-- there is a first one of these calls
abbrev pub HasPresent : List JournalCallState → Type 0
HasPresent calls = (c : JournalCallState) × (cs : List JournalCallState) × (calls ≡ c ∷ cs)

-- and what it will have written and taken with these pieces and charges more can be counted in 64 bits
abbrev pub CanGoFurther : List JournalCallState → ℕ → ℕ → Type 0
CanGoFurther calls pieces charges =
    (c : JournalCallState) × (cs : List JournalCallState) × (calls ≡ c ∷ cs)
    × (c.pieces + pieces < 2 ^ 64) × (c.charges + charges < 2 ^ 64)

-- ---- both can be stored: as their parts

abbrev pub stored_call : Coded JournalCallState
stored_call =
    code_by (Option ℕ × (List ℤ × (List ℕ × (ℕ × (ℕ × (ℕ × CallEnd))))))
    (coded× (coded_option coded_ℕ) (coded× (coded_list coded_ℤ) (coded× (coded_list coded_ℕ)
    (coded× coded_ℕ (coded× coded_ℕ (coded× coded_ℕ end_type.the_row.coded))))))
    (λ c. (c.func, (c.given, (c.words, (c.fuel, (c.pieces, (c.charges, c.end)))))))
    (λ p. record {
      func = p.0;
      given = p.1.0;
      words = p.1.1.0;
      fuel = p.1.1.1.0;
      pieces = p.1.1.1.1.0;
      charges = p.1.1.1.1.1.0;
      end = p.1.1.1.1.1.1;
    })
    (λ _. refl)

abbrev pub stored_journal : Coded JournalState
stored_journal =
    code_by (List JournalCallState × List JournalCallState) (coded× (coded_list stored_call) (coded_list stored_call))
    (λ j. (j.ended, j.open_calls)) (λ p. record { ended = p.0; open_calls = p.1 }) (λ _. refl)
