use Rattle.std.proofs.Common.{◌∷◌, [], ap, option_map, string_bytes}
use Rattle.wh_script_model.specs.{call_is, as_before, anew}
use Rattle.wh_replies.specs.View.{caller_of, status_of}
use Rattle.wh_engine.proofs.Printings.{adds_none, adds_one, another_line, on_ok_then}
use Rattle.wh_engine.proofs.printing.print_line.Goals as goal

pub returns-then-was_printed : goal.returns-then-was_printed
returns-then-was_printed c = ([], as_before (ap (option_map status_of) c.if-was_printed.ensures), adds_none (string_bytes c.args.text.now))

pub returns : goal.returns
returns c =
    on_ok_then c.write_reply.result c.write_reply.ensures (λ e. (
      call_is (caller_of c.args.who) (status_of c.args.status) ∷ [],
      anew (another_line c.args.last_printed c.args.status c.if-was_printed.ensures),
      adds_one (call_is (caller_of c.args.who) (status_of c.args.status)) (string_bytes c.args.text.now) (string_bytes c.write_reply.new.text) e,
    ))
