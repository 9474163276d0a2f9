use Rattle.std.proofs.Common.{◌≡◌, length, string_bytes}
use Rattle.wh_engine.specs.Printing.{PrintsCallOf}
use Rattle.wh_engine.proofs.OneByOne.{FirstChanged}
use Rattle.wh_engine.proofs.script_host.ScriptHost.print_calls.Given as goal

abbrev pub invariant-loop-at : goal.invariant-loop-at
invariant-loop-at g l = let first = l.initial.self-inside in let now = l.self-inside in record {
  same : now ≡ record first { invoked = now.invoked };
  host : now.host ≡ first.host;
  instances : now.instances ≡ first.instances;
  many : length now.invoked.items ≡ length first.invoked.items;
  so_far : FirstChanged (PrintsCallOf first.host.host first.instances.items) first.invoked.items now.invoked.items l.at (string_bytes l.fn.text) (string_bytes l.text);
}
