-- An engine on a new host.
use Rattle.std.proofs.Common.{arith, ◌≡◌, ◌∙◌, ℕ, zero, suc, [], length, replicate, map, refl, sym, ap, subst}
use Rattle.wh_space_model.specs.declared.Tax.{Tax}
use Rattle.wh_space_model.specs.declared.states.Slot.TheVariants.{Vacant}
use Rattle.wh_space_model.specs.{tally, zero_page, is_ticket, tickets, Space, minima, spreads}
use Rattle.wh_script_model.specs.{empty_script}
use Rattle.wh_script_model.specs.Settings.{Settings}
use Rattle.wh_host.specs.Hosting.{IsNewHost}
use Rattle.wh_space.specs.Arrivals.{IsNew}
use Rattle.std.specs.List.{AllZip}
use Rattle.wh_host_model.specs.Host.{World}
use Rattle.wh_script_laws.specs.Following.{AreSame, IsFollowed, IsModuleKept, IsPlaced, Knows, StandsSame}
use Rattle.wh_names.specs.NamePlaces.{AreNamedOnce}
use Rattle.wh_engine.specs.declared.parts.NamedInstance.{NamedInstance}
use Rattle.wh_engine.specs.RepresentedScript.{ScriptHostState, RepresentsScript, AreNamedInstances, RepresentsWhole, WholeState, whole_on, LeavesOut, is_over, is_settled, none_there, AreInvoked}

none_vacant : (n : ℕ) → tally is_ticket (replicate n Vacant) ≡ 0
none_vacant zero = refl
none_vacant (suc n) = let k = none_vacant n in omega (arith, k)

many : {A : Type 0} (n : ℕ) (x : A) → length (replicate n x) ≡ n
many zero x = refl
many (suc n) x = let k = many n x in omega (arith, k)

none_apart : AreNamedOnce []
none_apart name i k has also = absurd (cc has)

knows_none : (settings : Settings) (w : World) (tax : Tax) → tax.num ≡ settings.num → tax.den ≡ settings.den → w.modules ≡ [] → w.tenants ≡ [] → IsNew w.space settings.frames settings.slots tax → Knows settings w empty_script []
knows_none settings w tax num den modules tenants new = record {
  frames = ap (λ (s : Space). length s.pool.frames) new.is ∙ many settings.frames zero_page;
  slots = ap (λ (s : Space). length s.slots.uses) new.is ∙ many settings.slots Vacant;
  tax_num = ap (λ (s : Space). s.tax.num) new.is ∙ num;
  tax_den = ap (λ (s : Space). s.tax.den) new.is ∙ den;
  none_out = ap (λ (s : Space). tickets s) new.is ∙ none_vacant settings.slots;
  minima = ap (λ (s : Space). minima s) new.is;
  spreads = ap (λ (s : Space). spreads s) new.is;
  modules = subst (λ ls. AllZip IsModuleKept [] ls) (sym modules) tt;
  instances = subst (λ ts. AllZip (IsFollowed AreSame StandsSame w) [] ts) (sym tenants) tt;
  placed = subst (λ ts. AllZip IsPlaced [] ts) (sym tenants) tt;
}

fresh_whole : (settings : Settings) (tax : Tax) (e : WholeState) → tax.num ≡ settings.num → tax.den ≡ settings.den → IsNewHost e.host settings.frames settings.slots tax → e.module_names ≡ []
    → e.instance_names ≡ [] → e.instances ≡ [] → e.invoked ≡ [] → RepresentsWhole settings e empty_script
fresh_whole settings tax e num den new modules instances none no_call = record {
  world = new.0;
  is = (new.1, new.2);
  knows = subst (λ xs. Knows settings new.0 empty_script (map (λ (x : NamedInstance). x.id.place) xs)) (sym none) (knows_none settings new.0 tax num den new.3 new.4 new.5);
  module_names = modules;
  instance_names = instances;
  apart = subst AreNamedOnce (sym instances) none_apart;
  instances = subst (λ xs. AreNamedInstances 0 xs []) (sym none) tt;
  invoked = subst (λ xs. AreInvoked 1 xs []) (sym no_call) tt;
}

pub fresh : {D : Type 0} (settings : Settings) (tax : Tax) (e : ScriptHostState D) → tax.num ≡ settings.num → tax.den ≡ settings.den → IsNewHost e.host.host settings.frames settings.slots tax
    → e.module_names ≡ [] → e.instance_names ≡ [] → e.instances ≡ [] → e.invoked ≡ [] → e.asked ≡ 0 → RepresentsScript settings e empty_script
fresh settings tax e num den new modules instances none no_call none_asked = record {
  instances = [];
  invoked = [];
  kept = subst (λ xs. LeavesOut is_over xs []) (sym none) none_there;
  pending = subst (λ xs. LeavesOut is_settled xs []) (sym no_call) none_there;
  asked = none_asked;
  stands = fresh_whole settings tax (whole_on e [] []) num den new modules instances refl refl;
}
