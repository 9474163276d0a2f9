-- Custom sections, as a loop skips them.
use Rattle.std.proofs.Common.{◌≡◌, ℕ, zero, suc, ◌+◌, ◌-◌, ◌<◌, ◌≤◌, true, false, cond, leb, List, length, take, drop, Result, Ok, Err, refl, sym, ap, ◌∙◌, arith, inl, inr}
use Rattle.std.proofs.Math.ListN.{drop_of_length-le}
use Rattle.std.proofs.lemmas.Bool.{le-leb, cond-true, cond-false, cases_lt, both_ways}
use Rattle.wh_model.specs.declared.faults.FaultKind.TheVariants.{UnknownByte}
use Rattle.wh_model.specs.declared.faults.DecodeError.{DecodeError}
use Rattle.wh_model.specs.Format.{exact_byte}
use Rattle.wh_leb.specs.Reading.{◌>>=◌, one_at, u32_at, closed_from, exactly_from_at}
use Rattle.wh_decode.specs.ReadingModule.{name_at, custom_at, begins_with, skip_from, skip_at}
use Rattle.wh_leb.proofs.Combinators.{inside}
use Rattle.wh_decode.proofs.Productions.{reads_custom}
use Rattle.wh_decode.proofs.ReadsSections.{begins_some, custom_begins}

pub custom_found : (b : List ℕ) (at next size start : ℕ) (w x : List ℕ) (mid : ℕ) → one_at (exact_byte UnknownByte 0) b at ≡ Ok (tt, next) → Ok (size, start) ≡ u32_at b next → w ≡ take (start + size) b → name_at w start ≡ Ok (x, mid) → start + size ≤ length b → custom_at b at ≡ Ok (x, start + size)
unfolding custom_at
custom_found b at next size start w x mid e f g h le =
    ap (λ r. r >>= λ id. u32_at b id.1 >>= λ size. exactly_from_at size.0 name_at b size.1) e
    ∙ ap (λ r. r >>= λ size. exactly_from_at size.0 name_at b size.1) (sym f)
    ∙ ap (closed_from (leb (start + size) (length b)) (start + size) (length b)) (ap (λ v. name_at v start) (sym g) ∙ h)
    ∙ cond-true (leb (start + size) (length b)) (Ok (x, start + size)) _ (le-leb _ _ le)

pub custom_long : (b : List ℕ) (at : ℕ) (x : List ℕ) (next : ℕ) → at ≤ length b → custom_at b at ≡ Ok (x, next) → at < next
custom_long b at x next le e =
    let f = reads_custom.found b at x next le e in
    let some = begins_some 0 f.0 (custom_begins x f.0 f.3) in
    omega (arith, f.2)

custom_inside : (b : List ℕ) (at : ℕ) (x : List ℕ) (next : ℕ) → at ≤ length b → custom_at b at ≡ Ok (x, next) → next ≤ length b
custom_inside b at x next le e = let f = reads_custom.found b at x next le e in inside b at next f.0 (drop next b) le f.1 f.2

nothing_left : (b : List ℕ) (at : ℕ) → length b ≤ at → begins_with 0 (drop at b) ≡ false
nothing_left b at le = ap (begins_with 0) (drop_of_length-le b le)

pub begun : (b : List ℕ) (at : ℕ) → at ≤ length b → begins_with 0 (drop at b) ≡ true → at < length b
begun b at le e = elim (cases_lt at (length b)) [
  | inl lt ↦ lt
  | inr past ↦ absurd (both_ways (begins_with 0 (drop at b)) (nothing_left b at past) e)
]

-- how many sections may come is no matter, where there are as many as bytes
skip_fuel : (n m : ℕ) (b : List ℕ) (at : ℕ) → at ≤ length b → length b - at ≤ n → length b - at ≤ m → skip_from n b at ≡ skip_from m b at
unfolding skip_from
skip_fuel zero zero b at le p q = refl
skip_fuel zero (suc m) b at le p q = sym (cond-false (begins_with 0 (drop at b)) _ (Ok at) (nothing_left b at (omega arith)))
skip_fuel (suc n) zero b at le p q = cond-false (begins_with 0 (drop at b)) _ (Ok at) (nothing_left b at (omega arith))
skip_fuel (suc n) (suc m) b at le p q = ap (λ r. cond (begins_with 0 (drop at b)) r (Ok at)) (go (custom_at b at) refl (λ next short few few2. skip_fuel n m b next short few few2))
  where
    go : (r : Result (List ℕ × ℕ) DecodeError) → custom_at b at ≡ r → ((next : ℕ) → next ≤ length b → length b - next ≤ n → length b - next ≤ m → skip_from n b next ≡ skip_from m b next)
        → (r >>= λ item. skip_from n b item.1) ≡ (r >>= λ item. skip_from m b item.1)
    go (Ok x) e rest =
        let long = custom_long b at x.0 x.1 le e in
        let short = custom_inside b at x.0 x.1 le e in
        rest x.1 short (omega arith) (omega arith)
    go (Err d) e rest = refl

module _ (b : List ℕ) (at : ℕ) (total : Result ℕ DecodeError) (lt : at < length b) (first : begins_with 0 (drop at b) ≡ true) (so-far : skip_at b at ≡ total) where
  one : skip_at b at ≡ (custom_at b at >>= λ item. skip_from (length b - (at + 1)) b item.1)
  unfolding skip_at skip_from
  one = let e : length b - at ≡ suc (length b - (at + 1)) = omega arith in rw e (cond-true (begins_with 0 (drop at b)) _ (Ok at) first)

  pub skip_goes : (x : List ℕ) (next : ℕ) → custom_at b at ≡ Ok (x, next) → skip_at b next ≡ total
  unfolding skip_at
  skip_goes x next e =
      let long = custom_long b at x next (omega arith) e in
      let short = custom_inside b at x next (omega arith) e in
      skip_fuel (length b - next) (length b - (at + 1)) b next short (omega arith) (omega arith)
      ∙ ap (λ r. r >>= λ item. skip_from (length b - (at + 1)) b item.1) (sym e) ∙ sym one ∙ so-far

  pub skip_fails : (d : DecodeError) → custom_at b at ≡ Err d → total ≡ Err d
  skip_fails d e = sym so-far ∙ one ∙ ap (λ r. r >>= λ item. skip_from (length b - (at + 1)) b item.1) e

pub skip_done : (b : List ℕ) (at : ℕ) (total : Result ℕ DecodeError) → begins_with 0 (drop at b) ≡ false → skip_at b at ≡ total → total ≡ Ok at
unfolding skip_at skip_from
skip_done b at total none so-far = sym so-far ∙ go (length b - at)
  where
    go : (n : ℕ) → skip_from n b at ≡ Ok at
    go zero = refl
    go (suc n) = cond-false (begins_with 0 (drop at b)) _ (Ok at) none
