-- What an instance has put out is what its journal gives.
use Rattle.std.proofs.Common.{◌≡◌, ℕ, List, Some, refl, sym, ◌∙◌}
use Rattle.wh_model.specs.Execution.Replay.{store_at}
use Rattle.wh_space_model.specs.declared.plain.InstId.{InstId}
use Rattle.wh_space_model.specs.{view}
use Rattle.wh_host_model.specs.Host.{Rest, Doing, resting, has_left, computing, World, standing_in, standing_with}
use Rattle.wh_host_model.proofs.Host.Holding.{instances_replay}
use Rattle.wh_instance.specs.Seen.{HasOutput}
use Rattle.wh_host.specs.declared.parts.InstanceEntry.{InstanceEntry}
use Rattle.wh_host.specs.Hosting.{HostState, IsHost, IsReached, entry_at}
use Rattle.wh_host.specs.LiveOutputs.{HasPutOut, IsJournalOutput}
use Rattle.wh_host.proofs.Hosts.{of_who_is_there}

-- wherever its present call is
output_there : (bytes : List ℕ) (r : Rest) (d : Doing) → (store_at (standing_with bytes r d)).output ≡ r.output
output_there bytes r resting = refl
output_there bytes r (has_left ps) = refl
output_there bytes r (computing t) = refl

pub put_out_here : (h : HostState) (w : World) (id : InstId) (x : InstanceEntry) (output : List ℕ) → IsHost h w → entry_at h.entries id.place ≡ Some x → x.number ≡ Some id.number → HasOutput x.tenant output → HasPutOut w id output
put_out_here h w id x output st at number has = of_who_is_there h w id x (λ t. output ≡ t.rest.output) st at number has

pub journal_output_here : (h : HostState) (w : World) (id : InstId) (x : InstanceEntry) (output : List ℕ) → IsHost h w → IsReached w → entry_at h.entries id.place ≡ Some x → x.number ≡ Some id.number → HasOutput x.tenant output → IsJournalOutput w id output
journal_output_here h w id x output st run at number has =
    let who = put_out_here h w id x output st at number has in
    let t = who.0 in
    let r = instances_replay run.frames run.slots run.tax run.events w run.happen id.number t who.1.0 in
    record {
      t = t;
      live = who.1;
      loaded = r.loaded;
      is_loaded = r.is_loaded;
      standing = standing_in w.space t;
      replay = r.replay;
      written = who.2 ∙ sym (output_there (view w.space t.place) t.rest t.doing);
    }
