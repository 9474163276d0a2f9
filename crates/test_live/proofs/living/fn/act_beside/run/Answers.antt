use denote.Param.Send.{IsSend, sendable}
use Rattle.test_live.proofs.living.fn.act_beside.run.Goals as goal

pub run_all-requires-send-T : goal.run_all-requires-send-T
run_all-requires-send-T g c κs within =
    let sends = c.requires.1.1.1.1.1.1.1.1.1.1.1.1 in
    let own : IsSend g.row.T = sends.0 in
    search sendable depth 20

pub run_all-requires-send-C : goal.run_all-requires-send-C
run_all-requires-send-C g c κs within =
    let sends = c.requires.1.1.1.1.1.1.1.1.1.1.1.1 in
    let own : IsSend g.row.C = sends.1 in
    search sendable depth 20

pub run_all-requires-send-O : goal.run_all-requires-send-O
run_all-requires-send-O g c κs within =
    let sends = c.requires.1.1.1.1.1.1.1.1.1.1.1.1 in
    let own : IsSend g.row.O = sends.2 in
    search sendable depth 20

pub run_all-requires-send-E : goal.run_all-requires-send-E
run_all-requires-send-E g c κs within =
    let sends = c.requires.1.1.1.1.1.1.1.1.1.1.1.1 in
    let own : IsSend g.row.E = sends.3 in
    search sendable depth 20

pub run_all-requires-send-B : goal.run_all-requires-send-B
run_all-requires-send-B g c κs within =
    let sends = c.requires.1.1.1.1.1.1.1.1.1.1.1.1 in
    let own : IsSend g.row.B = sends.4 in
    search sendable depth 20
