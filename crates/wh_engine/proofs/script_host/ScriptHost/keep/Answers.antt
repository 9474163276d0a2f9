use Rattle.wh_engine.proofs.Again.{whole_in}
use Rattle.wh_engine.proofs.Kept.{module_again, takes_kept, takes_none}
use Rattle.wh_engine.proofs.script_host.ScriptHost.keep.Goals as goal

pub returns-in-Ok-clause-ok : goal.returns-in-Ok-clause-ok
returns-in-Ok-clause-ok g c =
    rw (← c.self.view_is) (λ settings m s.
    module_again settings _ m c.args.name.now c.args.bytes.now c.ask.new.self c.add.new.self _ s
    (takes_kept settings (whole_in s) m c.args.name.now c.args.bytes.now c.ask.new.self.host c.add.new.self c.in-Ok.field-0 s.stands c.in-Ok.ensures.asks c.in_ok-add.ensures.ok))

pub returns-in-Err-clause-ok : goal.returns-in-Err-clause-ok
returns-in-Err-clause-ok g c =
    rw (← c.self.view_is) (λ settings m s.
    module_again settings _ m c.args.name.now c.args.bytes.now c.ask.new.self c.remove_last.new.self _ s
    (takes_none settings (whole_in s) m c.args.name.now c.args.bytes.now c.ask.new.self.host c.add.new.self c.remove_last.new.self c.in-Err.error _ s.stands c.in-Err.ensures.asks
    c.in_ok-add.ensures.ok c.remove_last.ensures (λ answer is. c.refusal_of-why.ensures c.args.name.now answer is)))
