use Rattle.std.proofs.Common.{◌≡◌, ◌+◌, ◌*◌, ◌++◌, List, ℕ, [], ◌∷◌, ◌/◌, ◌%◌, true, length, ap, subst, sym, ◌∙◌, arith, rules}
use Rattle.std.proofs.lemmas.List.{take-append-drop}
use Rattle.wh_model.specs.Execution.Memory.{writing}
use Rattle.wh_space_model.specs.{IsSound, Fills, Overwrites}
use Rattle.wh_space_model.specs.Ready.{Ready}
use Rattle.wh_space_model.proofs.Filled.{breaks_soundly}
use Rattle.wh_space_model.proofs.Filling.{each_two}
use Rattle.wh_space_model.proofs.Reading.{on_one_page, on_two_pages, view_length}
use Rattle.wh_space_model.proofs.Writing.{fills_both}
use Rattle.wh_space.specs.Steps.{CanStep}
use Rattle.wh_space.proofs.Storing.{can_first, can_second, not_stored, other_page, overwrites, same_table, stored}
use Rattle.wh_space.proofs.memory.Memory.store_over.Goals as goal

pub returns-then-not-is_ready-clause-stores : goal.returns-then-not-is_ready-clause-stores
returns-then-not-is_ready-clause-stores c = search (rules, not_stored)

pub unreachable-requires : goal.unreachable-requires
unreachable-requires c =
    let s = c.args.self.now in
    let k = c.args.at in
    let n = length c.args.given.now in
    let ready : Ready s c.args.place (writing k n) = (search rules) in
    let can : CanStep s c.args.place true ((k / 4096) ∷ (k / 4096 + 1) ∷ []) = subst (CanStep s c.args.place true) (on_two_pages k n c.requires.over) ready in
    c.in_default.ensures.0 (can_first s c.args.place (k / 4096) (subst IsSound c.self.view_is c.self.invariant.sound) can)

pub own-requires-2 : goal.own-requires-2
own-requires-2 c =
    let s = c.args.self.now in
    let k = c.args.at in
    let same = same_table s c.args.place (k / 4096) c.own.new.self (subst IsSound c.self.view_is c.self.invariant.sound) c.in-Some.ensures.1 in
    let fits = c.requires.fits in
    let over = c.requires.over in
    omega arith

pub unreachable-requires-in_default-own : goal.unreachable-requires-in_default-own
unreachable-requires-in_default-own c =
    let s = c.args.self.now in
    let k = c.args.at in
    let n = length c.args.given.now in
    let ready : Ready s c.args.place (writing k n) = (search rules) in
    let can : CanStep s c.args.place true ((k / 4096) ∷ (k / 4096 + 1) ∷ []) = subst (CanStep s c.args.place true) (on_two_pages k n c.requires.over) ready in
    c.in_default-own.ensures.0 (can_second s c.args.place (k / 4096) c.own.new.self (subst IsSound c.self.view_is c.self.invariant.sound) can c.in-Some.ensures.1)

pub write_own-requires-clause-own : goal.write_own-requires-clause-own
write_own-requires-clause-own c = search (rules, ℕ, breaks_soundly, other_page)

over : (c : goal.After-write_own-2) → Overwrites c.args.self.now c.args.place c.args.at c.args.given.now c.write_own-2.new.self
over c =
    let s = c.args.self.now in
    let i = c.args.place in
    let k = c.args.at in
    let p : ℕ = k / 4096 in
    let given : List ℕ = c.args.given.now in
    let a : List ℕ = c.split_at.result.0.now in
    let b : List ℕ = c.split_at.result.1.now in
    let mid = c.own-2.new.self in
    let sound : IsSound s = subst IsSound c.self.view_is c.self.invariant.sound in
    let sound1 : IsSound c.own.new.self = (breaks_soundly s i p c.own.new.self sound c.in-Some.ensures.1).0 in
    let sound2 : IsSound mid = (breaks_soundly c.own.new.self i (p + 1) mid sound1 c.in-Some-own.ensures.1).0 in
    let same1 = same_table s i p c.own.new.self sound c.in-Some.ensures.1 in
    let same2 = same_table c.own.new.self i (p + 1) mid sound1 c.in-Some-own.ensures.1 in
    let whole : given ≡ a ++ b = sym (rw (c.split_at.ensures.front, c.split_at.ensures.back) (take-append-drop _ _)) in
    let front = c.split_at.ensures.front_len in
    let back = c.split_at.ensures.back_len in
    let few = c.requires.few in
    let fits = c.requires.fits in
    let long = view_length mid i sound2 in
    let first : Fills mid i k a c.write_own.new.self = subst (λ z. Fills mid i z a c.write_own.new.self) (let e : 4096 * p + k % 4096 ≡ k = omega arith in e) c.write_own.ensures.fills in
    let second : Fills c.write_own.new.self i (k + length a) b c.write_own-2.new.self = search rules in
    let here : (k + length a) / 4096 ≡ p + 1 = omega arith in
    let both = on_two_pages k (length given) c.requires.over in
    overwrites s mid c.write_own-2.new.self i k given (p ∷ (p + 1) ∷ []) both (each_two s i p (p + 1) c.own.new.self mid c.in-Some.ensures.1 c.in-Some-own.ensures.1)
    (fills_both mid i p k a b given c.write_own.new.self c.write_own-2.new.self first second
    (on_one_page k (length a) (omega arith) (omega arith))
    (on_one_page (k + length a) (length b) (omega arith) (omega arith) ∙ ap (λ z. z ∷ []) here) both whole (omega arith))

pub returns-clause-leaves : goal.returns-clause-leaves
returns-clause-leaves c = over c

pub returns-clause-stores : goal.returns-clause-stores
returns-clause-stores c =
    let s = c.args.self.now in
    let k = c.args.at in
    let given : List ℕ = c.args.given.now in
    let ready : Ready s c.args.place (writing k (length given)) = (search rules) in
    let pages = on_two_pages k (length given) c.requires.over in
    stored s c.write_own-2.new.self c.args.place k given ((k / 4096) ∷ (k / 4096 + 1) ∷ []) (subst IsSound c.self.view_is c.self.invariant.sound) c.requires.fits pages
    (subst (CanStep s c.args.place true) pages ready) (over c)
