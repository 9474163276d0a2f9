-- What contracts see of a transcript can be stored: as its parts.
use Rattle.std.specs.Prelude.{ℕ, List, Option, refl}
use Rattle.std.specs.Coded.{Coded, code_by, coded_list, coded_option, coded_ℕ, coded×}
use Rattle.wh_host_model.specs.Owners.{Params}
use Rattle.wh_journal.specs.Calls.{JournalCallState, stored_call}
use Rattle.wh_instance.specs.declared.stages.Suspension.{Suspension}
use Rattle.wh_instance.specs.contracts.stages.Suspension as suspension_type
use Rattle.wh_transcript.specs.Transcripts.{TranscriptState}

abbrev pub stored_params : Coded Params
stored_params =
    code_by (ℕ × (ℕ × (ℕ × (ℕ × (ℕ × (ℕ × List ℕ))))))
    (coded× coded_ℕ (coded× coded_ℕ (coded× coded_ℕ (coded× coded_ℕ (coded× coded_ℕ (coded× coded_ℕ
    (coded_list coded_ℕ)))))))
    (λ p. (p.shares, (p.min, (p.max, (p.fuel, (p.base, (p.salt, p.inputs)))))))
    (λ q. record {
      shares = q.0;
      min = q.1.0;
      max = q.1.1.0;
      fuel = q.1.1.1.0;
      base = q.1.1.1.1.0;
      salt = q.1.1.1.1.1.0;
      inputs = q.1.1.1.1.1.1;
    })
    (λ _. refl)

abbrev pub stored_transcript : Coded TranscriptState
stored_transcript =
    code_by (List ℕ × (Params × (List JournalCallState × (ℕ × Option Suspension))))
    (coded× (coded_list coded_ℕ) (coded× stored_params
    (coded× (coded_list stored_call) (coded× coded_ℕ (coded_option suspension_type.the_row.coded)))))
    (λ t. (t.bytes, (t.params, (t.calls, (t.copied, t.waiting_for)))))
    (λ q. record { bytes = q.0; params = q.1.0; calls = q.1.1.0; copied = q.1.1.1.0; waiting_for = q.1.1.1.1 })
    (λ _. refl)
