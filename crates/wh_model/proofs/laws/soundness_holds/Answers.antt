use Rattle.wh_model.proofs.SoundnessLemmas.{preservation}
use Rattle.wh_model.proofs.StuckLemmas.{thread_preservation, progress, never_stuck}
use Rattle.wh_model.proofs.StoresExtendLemmas.{stores_extend}
use Rattle.wh_model.proofs.BeginsTypedLemmas.{begins_typed}
use Rattle.wh_model.proofs.SoundReplayLemmas.{replay_soundness, no_call_sticks}
use Rattle.wh_model.proofs.SpelledBytesLemmas.{spelled_has_bytes, accepted_soundness}
use Rattle.wh_model.proofs.laws.soundness_holds.Goals as goal

pub returns-clause-preservation : goal.returns-clause-preservation
returns-clause-preservation c = preservation

pub returns-clause-thread_preservation : goal.returns-clause-thread_preservation
returns-clause-thread_preservation c = thread_preservation

pub returns-clause-progress : goal.returns-clause-progress
returns-clause-progress c = progress

pub returns-clause-never_stuck : goal.returns-clause-never_stuck
returns-clause-never_stuck c = never_stuck

pub returns-clause-stores_extend : goal.returns-clause-stores_extend
returns-clause-stores_extend c = stores_extend

pub returns-clause-begins_typed : goal.returns-clause-begins_typed
returns-clause-begins_typed c = begins_typed

pub returns-clause-spelled_has_bytes : goal.returns-clause-spelled_has_bytes
returns-clause-spelled_has_bytes c = spelled_has_bytes

pub returns-clause-replay_soundness : goal.returns-clause-replay_soundness
returns-clause-replay_soundness c = replay_soundness

pub returns-clause-no_call_sticks : goal.returns-clause-no_call_sticks
returns-clause-no_call_sticks c = no_call_sticks

pub returns-clause-accepted_soundness : goal.returns-clause-accepted_soundness
returns-clause-accepted_soundness c = accepted_soundness
