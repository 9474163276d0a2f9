-- What decode promises, from the laws of reading a module.
use Rattle.std.proofs.Common.{◌≡◌, ◌≢◌, ℕ, ◌<◌, List, get_or, Result, Ok, Err, sym, subst, ◌∙◌, arith, Fits, w8}
use Rattle.std.proofs.lemmas.List.Elements.{All-from_get_or}
use Rattle.std.specs.Prelude.{IfOk, IfErr}
use Rattle.wh_model.specs.declared.faults.FaultKind.{FaultKind}
use Rattle.wh_model.specs.declared.faults.FaultKind.TheVariants.{Memory}
use Rattle.wh_model.specs.Format.Syntax as model
use Rattle.wh_model.specs.Format.{AreBytes, Spells, Small, IsBroken}
use Rattle.wh_model.specs.declared.faults.DecodeError.{DecodeError}
use Rattle.wh_leb.specs.Reading.{Gives}
use Rattle.wh_syntax.specs.declared.module.Module.{Module}
use Rattle.wh_syntax.specs.View.{view_module}
use Rattle.wh_decode.specs.ReadingModule.{module_of}
use Rattle.wh_decode.specs.Promises.{IsFault}
use Rattle.wh_decode.proofs.Modules.{module_found, module_only, module_fault, module_stops, fault_is}

-- a slice of bytes has bytes
pub are_bytes : (b : List ℕ) → ((i : ℕ) → Fits w8 (get_or b i 0)) → AreBytes b
unfolding AreBytes
are_bytes b fits = All-from_get_or (λ n. n < 256) b 0 (λ i lt. let fit = fits i in omega arith)

module _ (b : List ℕ) (r : Result Module DecodeError) (are : AreBytes b) where
  pub is_found : Gives view_module r (module_of b) → IfOk r (λ m. Spells b (view_module m) × Small b (view_module m))
  is_found g = go r g
    where
      go : (q : Result Module DecodeError) → Gives view_module q (module_of b) → IfOk q (λ m. Spells b (view_module m) × Small b (view_module m))
      go (Ok m) g = module_found b (view_module m) are g
      go (Err e) g = tt

  pub is_fault : Gives view_module r (module_of b) → IfErr r (λ e. e.kind ≢ Memory → IsBroken b e.kind e.offset)
  is_fault g = go r g
    where
      go : (q : Result Module DecodeError) → Gives view_module q (module_of b) → IfErr q (λ e. e.kind ≢ Memory → IsBroken b e.kind e.offset)
      go (Ok m) g = tt
      go (Err e) g = λ other. module_fault b e are (g other)

pub is_only : (b : List ℕ) (r : Result Module DecodeError) → Gives view_module r (module_of b) → (m : model.Module) → Spells b m → Small b m → Gives view_module r (Ok m)
is_only b r g m s few = subst (λ (q : Result model.Module DecodeError). Gives view_module r q) (module_only b m s few) g

no_fault : (m : model.Module) (e : DecodeError) → Ok m ≡ Err e → ⊥
no_fault m e h = cc

pub is_refused : (b : List ℕ) (r : Result Module DecodeError) → Gives view_module r (module_of b) → (kind : FaultKind) (offset : ℕ) → IsBroken b kind offset → IsFault r kind offset
is_refused b (Ok m) g kind offset w = no_fault (view_module m) _ (sym g ∙ module_stops b kind offset w)
is_refused b (Err e) g kind offset w = λ other. fault_is e.kind kind e.offset offset (sym (g other) ∙ module_stops b kind offset w)
