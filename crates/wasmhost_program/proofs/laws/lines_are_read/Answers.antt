use Rattle.std.proofs.Common.{refl}
use Rattle.clap.proofs.OnLiterals.{clap_on_literals}
use Rattle.wasmhost_program.specs.Laws.{LinesAreRead}
use Rattle.wasmhost_program.proofs.laws.lines_are_read.Goals as goal

are_read : LinesAreRead
unfolding clap_on_literals
are_read = record {
  nothing = record { accepted = refl; settings_are = refl; workers_are = refl; script_is = refl };
  all = record { accepted = refl; settings_are = refl; workers_are = refl; script_is = refl };
  joined = record { accepted = refl; settings_are = refl; workers_are = refl; script_is = refl };
  script_first = record { accepted = refl; settings_are = refl; workers_are = refl; script_is = refl };
  dashed = record { accepted = refl; settings_are = refl; workers_are = refl; script_is = refl };
  none_at_all = refl;
  too_many = refl;
  no_number = refl;
  twice = refl;
  two_scripts = refl;
}

pub returns : goal.returns
returns c = are_read
