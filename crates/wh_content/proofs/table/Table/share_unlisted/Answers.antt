use Rattle.std.proofs.Common.{◌≡◌, ◌<◌, ℕ, zero, suc, List, [], ◌∷◌, slice_get, slice_set, length, refl, ◌∙◌, ap, Some, length-set}
use Rattle.wh_space_model.specs.declared.states.Mark.TheVariants.{Plain, Unlisted}
use Rattle.wh_space_model.proofs.Putting.{set_same}
use Rattle.wh_content.proofs.Buckets.{remarked}
use Rattle.wh_content.proofs.Entries.{apart_put}
use Rattle.wh_content.proofs.table.Table.share_unlisted.Goals as goal

set_twice : {X : Type 0} (xs : List X) (i : ℕ) (x y : X) → slice_set (slice_set xs i x) i y ≡ slice_set xs i y
set_twice [] i x y = refl
set_twice (z ∷ xs) zero x y = refl
set_twice (z ∷ xs) (suc i) x y = ap (λ zs. z ∷ zs) (set_twice xs i x y)

pub invariant_of-self : goal.invariant_of-self
invariant_of-self c =
    let a = c.self.inside in
    let marks = a.marks in
    let f = c.args.frame in
    let inv = c.self.invariant in
    let is : marks ≡ slice_set c.args.self.now f Plain = c.self.view_is ∙ c.forget_frame.ensures in
    let within : f < length marks = rw is (simp length-set c.requires) in
    let found : slice_get marks f ≡ Some Plain = rw is (set_same c.args.self.now f Plain c.requires) in
    record {
      few = inv.few;
      many = rw c.set.ensures (simp length-set inv.many);
      apart = rw c.set.ensures (apart_put marks f _ inv.apart within (λ hash has. absurd has));
      places = inv.places;
      chains = rw c.set.ensures (remarked a.frames f Plain (Unlisted c.args.sharers) marks a.chains within found (λ h x. x) (λ h x. x) inv.chains);
    }

pub returns : goal.returns
returns c =
    let f = c.args.frame in
    let is : c.self.inside.marks ≡ slice_set c.args.self.now f Plain = c.self.view_is ∙ c.forget_frame.ensures in
    rw (c.set.ensures, is) (set_twice c.args.self.now f Plain (Unlisted c.args.sharers))
