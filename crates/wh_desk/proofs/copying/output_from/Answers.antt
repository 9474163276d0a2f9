use Rattle.std.proofs.Common.{◌≡◌, ◌≢◌, ℕ, ◌+◌, ◌-◌, ◌<◌, min, List, [], ◌++◌, length, take, drop, length-drop, inr, refl, ap, ◌∙◌, arith}
use Rattle.std.proofs.lemmas.List.{drop_min, take_min}
use Rattle.wh_desk.specs.OwnCopies.{part_of}
use Rattle.wh_desk.proofs.copying.output_from.Goals as goal

module _ (xs : List ℕ) (from most start count : ℕ) (start_is : start ≡ min from (length xs)) (count_is : count ≡ min most (length xs - start)) where
  abbrev cut : List ℕ
  cut = take (start + count - start) (drop start xs)

  cut_is : cut ≡ part_of from most xs
  cut_is =
      let there = ap (λ n. drop n xs) start_is ∙ drop_min from xs in
      let left = length-drop from xs in
      let many : start + count - start ≡ min most (length (drop from xs)) = omega (arith, start_is, count_is, left) in
      ap (λ n. take n (drop start xs)) many ∙ ap (λ ys. take (min most (length (drop from xs))) ys) there ∙ take_min most (drop from xs)

  put_after : (ys : List ℕ) → ys ≡ [] → ys ++ cut ≡ part_of from most xs
  put_after ys none = ap (λ zs. zs ++ cut) none ∙ cut_is

  isnt_empty : (room len : ℕ) → room ≡ 0 → len ≡ 0 → room < len + length cut → part_of from most xs ≢ []
  isnt_empty room len no_room none less empty =
      let nothing : length cut ≡ 0 = ap (λ (z : List ℕ). length z) (cut_is ∙ empty) in
      absurd (omega (arith, no_room, none, less, nothing))

pub returns-in-Ok : goal.returns-in-Ok
returns-in-Ok c =
    let xs = c.in_ok-output.output.now in (
      xs,
      (c.in_ok-output.ensures.shows, c.in_ok-output.ensures.journal),
      c.in-Ok.ensures.items ∙ put_after xs c.args.from c.args.most c.min-start.result c.min.result c.min-start.ensures c.min.ensures c.new-bytes.result.items c.new-bytes.ensures.items,
    )

pub returns-in-Err : goal.returns-in-Err
returns-in-Err c =
    let xs = c.in_ok-output.output.now in
    inr (
      refl,
      (
        xs,
        (c.in_ok-output.ensures.shows, c.in_ok-output.ensures.journal),
        isnt_empty xs c.args.from c.args.most c.min-start.result c.min.result c.min-start.ensures c.min.ensures _ _ c.new-bytes.ensures.capacity c.new-bytes.ensures.len c.in-Err.ensures.full,
      ),
    )
