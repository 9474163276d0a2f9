use Rattle.std.proofs.Common.{◌≡◌, false, length, string_bytes}
use Rattle.wh_engine.specs.Printing.{PrintsStartOf}
use Rattle.wh_engine.proofs.Ended.{NoneOver}
use Rattle.wh_engine.proofs.OneByOne.{FirstChanged}
use Rattle.wh_engine.proofs.Resting.{FirstRest}
use Rattle.wh_engine.proofs.script_host.ScriptHost.print_starts.Given as goal

abbrev pub invariant-loop-at : goal.invariant-loop-at
invariant-loop-at g l = let first = l.initial.self-inside in let now = l.self-inside in record {
  same : now ≡ record first { instances = now.instances };
  host : now.host ≡ first.host;
  many : length now.instances.items ≡ length first.instances.items;
  rest : FirstRest first.host.host first.instances.items l.at;
  none_over : l.has_ended ≡ false → NoneOver now.instances.items l.at;
  so_far : FirstChanged (PrintsStartOf first.host.host) first.instances.items now.instances.items l.at (string_bytes l.fn.text) (string_bytes l.text);
}
