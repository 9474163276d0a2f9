use Rattle.std.proofs.Common.{string_bytes}
use Rattle.wh_engine.proofs.Printings.{both_said}
use Rattle.wh_engine.proofs.script_host.ScriptHost.print.Goals as goal

pub returns-clause-says : goal.returns-clause-says
returns-clause-says g c =
    both_said c.args.self.now c.print_starts.new.self c.print_calls.new.self (string_bytes c.args.text.now) (string_bytes c.print_starts.new.text) (string_bytes c.print_calls.new.text)
    c.in_ok-print_starts.ensures.says c.in-Ok.ensures.says
