use Rattle.std.specs.Prelude.{◌≡◌}
use Rattle.wh_script_model.specs.{empty_script}
use Rattle.wh_script_model.specs.Settings.{Settings}
use Rattle.wh_engine.specs.Draining.{DeviceHoldsAmid, DeviceMayFail, DeviceStaysTrue}
use Rattle.wh_engine.specs.RepresentedScript.{RepresentsScript}
use Rattle.wh_script.specs.Coming.{coming, IsInChunk}
use Rattle.wh_script.proofs.Runs.{SoFar}
use Rattle.wh_script.proofs.session.Session.run_lines.Given as goal

abbrev pub invariant-loop-number : goal.invariant-loop-number
invariant-loop-number g l = record {
  within : IsInChunk l.lines;
  device : DeviceStaysTrue g.D.SwapDev.keeps g.D.SwapDev.honest l.fn.self.script_host.host.device l.self.script_host.host.device;
  faults : DeviceMayFail g.D.SwapDev.faults l.fn.self.script_host.host.device l.self.script_host.host.device;
  config : l.self.config ≡ l.fn.self.config;
  so_far : (settings : Settings) → RepresentsScript settings l.fn.self.script_host empty_script
      → DeviceHoldsAmid g.D.SwapDev.honest g.D.SwapDev.faults l.fn.self.script_host.host.device l.self.script_host.host.device
      (SoFar settings (g.S.Source.files l.fn.source) (g.R.Read.remaining l.fn.reader.inner) (coming l.lines (g.R.Read.remaining l.reader.inner)) (g.W.Write.contents l.fn.writer.inner) (g.W.Write.contents l.writer.inner) l.number
      l.self.script_host);
}
