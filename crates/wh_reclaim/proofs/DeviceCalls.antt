-- What calls of a device leave, one behind the other.
use Rattle.std.proofs.Common.{◌∙◌, List, [], ◌++◌, refl, sym, ap, append_assoc}
use Rattle.wh_space_model.specs.declared.plain.SwapError.{SwapError}
use Rattle.wh_swap.specs.DeviceCalls.{ServesOn}

module _ {D : Type 0} (keeps honest : D → Type 0) (faults : D → List SwapError) where
  pub serves_still : (device : D) → ServesOn keeps honest faults device [] device
  serves_still device = record {
    was_honest = λ right. right;
    goes_on = λ keeps. keeps;
    stays_honest = λ keeps right. right;
    added = refl;
  }

  pub serves_then : (device between device2 : D) (more then : List SwapError) → ServesOn keeps honest faults device more between
      → ServesOn keeps honest faults between then device2 → ServesOn keeps honest faults device (then ++ more) device2
  serves_then device between device2 more then a b = record {
    was_honest = λ right. a.was_honest (b.was_honest right);
    goes_on = λ keeps. b.goes_on (a.goes_on keeps);
    stays_honest = λ keeps right. b.stays_honest (a.goes_on keeps) (a.stays_honest keeps right);
    added = b.added ∙ ap (λ faults. then ++ faults) a.added ∙ sym (append_assoc then more (faults device));
  }
