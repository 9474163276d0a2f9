use Rattle.std.proofs.Common.{◌≡◌, ◌⊎◌, ℕ, List, Result, Ok, Err, inl, inr, refl}
use Rattle.wh_model.specs.declared.faults.FaultKind.{FaultKind}
use Rattle.wh_model.specs.Format.{Module, AreBytes, Spells, Small, IsBroken}
use Rattle.wh_model.specs.declared.faults.DecodeError.{DecodeError}
use Rattle.wh_decode.specs.ReadingModule.{module_of}
use Rattle.wh_decode.proofs.Modules.{one_fault, one_module, fault_or_module, module_found, module_fault}
use Rattle.wh_decode.proofs.laws.one_meaning.Goals as goal

pub returns-clause-one_fault : goal.returns-clause-one_fault
returns-clause-one_fault c = one_fault

pub returns-clause-one_module : goal.returns-clause-one_module
returns-clause-one_module c = one_module

pub returns-clause-not_both : goal.returns-clause-not_both
returns-clause-not_both c = fault_or_module

meaning_by : (b : List ℕ) → AreBytes b → (r : Result Module DecodeError) → module_of b ≡ r → ((m : Module) × Spells b m × Small b m) ⊎ ((kind : FaultKind) × (offset : ℕ) × IsBroken b kind offset)
meaning_by b are (Ok m) e = let h = module_found b m are e in inl (m, h.0, h.1)
meaning_by b are (Err d) e = inr (d.kind, d.offset, module_fault b d are e)

pub returns-clause-some_meaning : goal.returns-clause-some_meaning
returns-clause-some_meaning c b are = meaning_by b are (module_of b) refl
