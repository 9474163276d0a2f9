use Rattle.wh_hand.proofs.hand.Hand.transcript.Goals as goal

pub returns-clause-replays : goal.returns-clause-replays
returns-clause-replays c = c.transcript.ensures.replays c.self.invariant.led
