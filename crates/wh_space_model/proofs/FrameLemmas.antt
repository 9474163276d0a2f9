-- Which frames are taken, when one more is, and when one is given back.
use Rattle.std.proofs.Common.{◌≡◌, ◌≢◌, ℕ, ◌+◌, ◌++◌, [], ◌∷◌, ◌∙◌, arith, rules}
use Rattle.wh_space_model.specs.{Pool, one_if, IsTaken, TakesFreeFrame}
use Rattle.wh_space_model.proofs.Tally.{tally-append, one_same, one_other}

-- a frame that was taken before is another one, and stays taken
pub IsTaken-takes : (old new : Pool) (f : ℕ) → TakesFreeFrame old f new → (g : ℕ) → IsTaken old g → (g ≢ f) × IsTaken new g
IsTaken-takes old new f takes g taken = search (rules, tally-append, one_same)

-- the others stay taken
pub IsTaken-gives : (pool : Pool) (f g : ℕ) → g ≢ f → IsTaken pool g → IsTaken (record pool { free = pool.free ++ f ∷ [] }) g
IsTaken-gives pool f g other taken = (taken.0, omega (arith, tally-append (one_if g) pool.free (f ∷ []), one_other g f other, taken.1))
