-- No call of an instance is stuck: its journal replays from the beginning of a module whose bytes were accepted.
use Rattle.wh_model.proofs.SpelledBytesLemmas.{accepted_soundness}
use Rattle.wh_host_model.specs.Host.{journal, journal_calls, standing_in, NoCallIsStuck}
use Rattle.wh_host_model.specs.{given_of}
use Rattle.wh_host_model.proofs.Host.Holding.{instances_replay}

pub no_call_is_stuck : NoCallIsStuck
no_call_is_stuck frames slots tax events w r i t x =
    let at = instances_replay frames slots tax events w r i t x in
    let sound = accepted_soundness at.loaded.bytes at.loaded.m (given_of t.params) t.inst at.first at.pieces
    (journal_calls (journal t)) (standing_in w.space t) at.accepted at.initial at.replay in
    record {
      loaded = at.loaded;
      is_loaded = at.is_loaded;
      context = sound.0;
      is_context = sound.1;
      calls = sound.2;
      standing = sound.3;
    }
