use Rattle.wh_engine.proofs.LookedUp.{module_named, place_within}
use Rattle.wh_engine.proofs.script_host.ScriptHost.module_number.Goals as goal

pub returns-clause-there : goal.returns-clause-there
returns-clause-there g c = rw (← c.self.view_is) (place_within c.self.inside.module_names c.args.name.now _ c.place.ensures)

pub returns-clause-named : goal.returns-clause-named
returns-clause-named g c = rw (← c.self.view_is) (λ settings m s. module_named c.self.inside.module_names m c.args.name.now _ s.stands.module_names c.place.ensures)
