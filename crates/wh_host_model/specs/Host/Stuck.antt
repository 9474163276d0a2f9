-- No call of an instance is stuck: soundness of replays, in every host that is reached.
use Rattle.std.specs.Prelude.{◌≡◌, Some}
use Rattle.std.specs.List.{AllByRecursion}
use Rattle.wh_model.specs.Validity.Typing.{Context}
use Rattle.wh_model.specs.Validity.Valid.{IsContext}
use Rattle.wh_model.specs.Laws.SoundnessLaws.{HasTypedEnd, StandsAs}
use Rattle.wh_host_model.specs.Host.Worlds.{Tenant, Loaded, World, journal, journal_calls, standing_in, loaded_of}
use Rattle.wh_host_model.specs.Host.Laws.{AfterEvents, EachHas}

-- In the context of its module, each call of an instance that has ended got arguments and gave results of its
-- function's types. What is open first stands over a store of the module, and where it runs, it goes further.
pub record IsSoundlyRun (w : World) (t : Tenant) : Type 0 where
  pub loaded : Loaded
  pub is_loaded : loaded_of w t.of ≡ Some loaded
  pub context : Context
  pub is_context : IsContext loaded.m context
  pub calls : AllByRecursion (λ call. HasTypedEnd t.inst call call.outcome) (journal_calls (journal t))
  pub standing : StandsAs context t.inst (journal_calls (journal t)) (standing_in w.space t)

abbrev pub NoCallIsStuck : Type 0
NoCallIsStuck = AfterEvents (EachHas IsSoundlyRun)
