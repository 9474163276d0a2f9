-- Calls that have ended, and functions that are exported, are there.
use Rattle.std.proofs.Common.{◌≡◌, ◌≢◌, ◌+◌, ◌<◌, ℕ, zero, suc, List, [], ◌∷◌, ◌++◌, length, slice_get, Some, None, ap, subst, ◌∙◌, arith}
use Rattle.std.proofs.lemmas.List.{length-append}
use Rattle.wh_space_model.specs.declared.plain.InstId.{InstId}
use Rattle.wh_host_model.specs.Host.{World, journal}
use Rattle.wh_host_model.proofs.Host.Lasting.{journals_stay_in_order}
use Rattle.wh_host.specs.Hosting.{HostState, IsHost}
use Rattle.wh_host.specs.ModuleExports.{CountsExports, HasNoExport, exported_funcs}
use Rattle.wh_host.specs.Telling.{CountsEnded, TellsOf}

there : {A : Type 0} (xs ys : List A) (i : ℕ) → i < length xs → slice_get (xs ++ ys) i ≢ None
there [] ys i less none = absurd (omega (arith, less))
there (x ∷ xs) ys zero less none = absurd (cc none)
there (x ∷ xs) ys (suc i) less none = there xs ys i (omega (arith, less)) none

has_it : {A : Type 0} (xs : List A) (i : ℕ) → i < length xs → slice_get xs i ≢ None
has_it [] i less none = absurd (omega (arith, less))
has_it (x ∷ xs) zero less none = absurd (cc none)
has_it (x ∷ xs) (suc i) less none = has_it xs i (omega (arith, less)) none

module _ (h : HostState) (some : (w : World) × IsHost h w) (id : InstId) (at ended : ℕ) (counts : CountsEnded h id (Some ended)) (less : at < ended) where
  -- no journal has so many calls
  pub few_ended : at < 65536
  few_ended =
      let who = counts some.0 some.1 in
      let t = who.0 in
      let few = (journals_stay_in_order some.0 some.1.comes id.number t who.1.0).few in
      let all : length (journal t) ≡ length t.ended + length t.open_calls = length-append t.ended t.open_calls in
      let many = who.2 in
      omega (arith, few, all, many, less)

  pub ended_told : TellsOf h id at None → ⊥
  ended_told none =
      let who = counts some.0 some.1 in
      let t = who.0 in
      let many = who.2 in
      there t.ended t.open_calls at (omega (arith, many, less)) (none some.0 some.1 t who.1)

-- one of so many exports is there
pub exported_there : (h : HostState) (some : (w : World) × IsHost h w) (k at count : ℕ) → CountsExports h k (Some count) → at < count → HasNoExport h k at → ⊥
exported_there h some k at count counts less none =
    let c = counts some.0 some.1 in
    let many = c.2 in
    has_it (exported_funcs c.0.m) at (omega (arith, many, less)) (none some.0 some.1 c.0 c.1)

-- what holds at each place of a list holds at each of one with one more
pub one_more_holds : {A : Type 0} (holds : ℕ → A → Type 0) (xs : List A) (x : A) → ((i : ℕ) (y : A) → slice_get xs i ≡ Some y → holds i y) → holds (length xs) x → (i : ℕ) (y : A) → slice_get (xs ++ x ∷ []) i ≡ Some y → holds i y
one_more_holds holds [] x all last zero y e = let same : x ≡ y = cc e in subst (λ z. holds 0 z) same last
one_more_holds holds [] x all last (suc i) y e = absurd (cc e)
one_more_holds holds (z ∷ zs) x all last zero y e = all 0 y e
one_more_holds holds (z ∷ zs) x all last (suc i) y e = one_more_holds (λ k. holds (suc k)) zs x (λ k. all (suc k)) last i y e

pub one_longer : {A : Type 0} (xs ys : List A) (x : A) (n : ℕ) → ys ≡ xs ++ x ∷ [] → length xs ≡ n → length ys ≡ n + 1
one_longer xs ys x n is many =
    let long = ap (λ (z : List _). length z) is ∙ length-append xs (x ∷ []) in
    omega (arith, long, many)
