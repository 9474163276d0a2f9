-- The counts of instances and of frames, when one frame changes.
use Rattle.std.proofs.Common.{◌≡◌, ◌≢◌, ℕ, ◌+◌, ◌<◌, ◌≤◌, ◌==◌, cond, nat_lt, IsTrue, List, [], ◌∷◌, Option, Some, None, IfSome, length, get_or, zero, suc, refl, sym, ap, ◌∙◌, subst, arith, rules}
use Rattle.std.proofs.lemmas.Bool.Decides.{nat_tests}
use Rattle.wh_space_model.proofs.Tally.{one_same}
use Rattle.wh_space_model.proofs.Putting.{here_or}
use Rattle.wh_tables.specs.declared.page_id.PageId.{PageId}
use Rattle.wh_tables.specs.declared.index.Counts.{Counts}
use Rattle.wh_space_model.specs.{charge_in, touchers_in}
use Rattle.wh_tables.specs.Order.{IsInOrder, StandsOn, next_in}
use Rattle.wh_tables.specs.Index.{HaveOwnNumbers, Counted, CountsOneMore, HasCountsBut, IsIndexBut, IsIndexOf, IsMeasured, Marked, activity_in, counts_at, number_in, one_first}
use Rattle.wh_tables.proofs.Chaining.{next_stop}
use Rattle.wh_tables.proofs.Charging.{active_few, active_some, charge_is_first, charged_few, charged_some}
use Rattle.wh_space_model.proofs.Changing.{below_change}

-- where a touched page stands on the frame
some_touched : (touchers charge : ℕ) → cond (nat_lt 0 touchers) charge 0 ≡ cond (touchers == 0) 0 charge
some_touched touchers charge = grind (arith, nat_tests)

pub got_there : (xs : List ℕ) (f x : ℕ) → x ≡ get_or xs f x → f < length xs → get_or xs f 0 ≡ x
got_there [] f x is within = absurd (omega arith)
got_there (y ∷ xs) zero x is within = sym is
got_there (y ∷ xs) (suc f) x is within = got_there xs f x is (omega arith)

activity_first : (x : Counted) (m : Marked) (f k : ℕ) → IsInOrder x.chains m.pages → HaveOwnNumbers x.chains.numbers m.pages → get_or x.touchers f 0 ≡ touchers_in m.pages m.marks f
    → cond (nat_lt 0 (get_or x.touchers f 0)) (one_first (next_in x.chains f None) k) 0 ≡ activity_in (number_in x.chains.numbers) m k f
activity_first x m f k order apart touchers = search (rules, charge_is_first, some_touched)

-- a frame is counted for nobody any more
pub aside : (x : Counted) (m : Marked) (f : ℕ) (counts2 : List Counts) → IsIndexOf x m → f < length x.chains.ends
    → CountsOneMore (next_in x.chains f None) (nat_lt 0 (get_or x.touchers f 0)) counts2 x.counts → IsIndexBut f (record x { counts = counts2 }) m
aside x m f counts2 index frame less = search (rules, charge_is_first, activity_first)

-- and again for the instance of the first page on it
pub again : (x : Counted) (m : Marked) (f : ℕ) (counts2 : List Counts) → IsIndexBut f x m → f < length x.chains.ends
    → CountsOneMore (next_in x.chains f None) (nat_lt 0 (get_or x.touchers f 0)) x.counts counts2 → IsIndexOf (record x { counts = counts2 }) m
again x m f counts2 index frame more = search (rules, charge_is_first, activity_first)

-- what there is at the first page's place
place_of_first : (x : Counted) (m : Marked) (f : ℕ) (id : PageId) → IsInOrder x.chains m.pages → IsMeasured x m → next_in x.chains f None ≡ Some id → id.place < length x.counts
place_of_first x m f id order measured is =
    let on : StandsOn m.pages f id = subst (λ w. Stop w) is (next_stop x.chains m.pages f None order tt) in
    let within = (order.room f id on).place in
    let a = measured.places in let b = measured.counts in
    omega arith where
      Stop : Option PageId → Type 0
      Stop None = Unit
      Stop (Some y) = StandsOn m.pages f y

one_here : (k : ℕ) (id : PageId) (charge : ℕ) → charge ≡ one_first (Some id) id.place → charge ≡ 1
one_here k id charge e = let o = one_same id.place id.place refl in omega arith

pub has_charged : (x : Counted) (m : Marked) (f : ℕ) → IsIndexOf x m → f < length x.chains.ends → (first : Option PageId) → next_in x.chains f None ≡ first
    → IfSome first (λ id. (id.place < length x.counts) × (1 ≤ (counts_at x.counts id.place).charged))
has_charged x m f index frame None is = tt
has_charged x m f index frame (Some id) is = (
  place_of_first x m f id index.order index.measured is,
  (let e = one_here 0 id (charge_in (number_in x.chains.numbers) m.pages id.place f) (charge_is_first x.chains m.pages f id.place index.order index.apart ∙ ap (λ w. one_first w id.place) is) in
      let some = charged_some (number_in x.chains.numbers) m.pages (length x.chains.ends) id.place f frame in
      let count = index.counted.charged id.place in
      omega arith),
)

touched_term : (touchers charge : ℕ) → IsTrue (nat_lt 0 touchers) → cond (touchers == 0) 0 charge ≡ charge
touched_term touchers charge some = grind (arith, nat_tests)

pub has_active : (x : Counted) (m : Marked) (f t : ℕ) → IsIndexOf x m → f < length x.chains.ends → get_or x.touchers f 0 ≡ t → (first : Option PageId) → next_in x.chains f None ≡ first
    → IfSome first (λ id. IsTrue (nat_lt 0 t) → 1 ≤ (counts_at x.counts id.place).active)
has_active x m f t index frame got None is = tt
has_active x m f t index frame got (Some id) is = λ some. (
    let e = one_here 0 id (charge_in (number_in x.chains.numbers) m.pages id.place f) (charge_is_first x.chains m.pages f id.place index.order index.apart ∙ ap (λ w. one_first w id.place) is) in
    let same : t ≡ touchers_in m.pages m.marks f = sym got ∙ index.counted.touchers f frame in
    let term : activity_in (number_in x.chains.numbers) m id.place f ≡ charge_in (number_in x.chains.numbers) m.pages id.place f = touched_term (touchers_in m.pages m.marks f) (charge_in (number_in x.chains.numbers) m.pages id.place f) (subst (λ w. IsTrue (nat_lt 0 w)) same some) in
    let within = active_some (number_in x.chains.numbers) m (length x.chains.ends) id.place f frame in
    let count = index.counted.active id.place in
    omega arith)

pub room_charged : (x : Counted) (m : Marked) (f : ℕ) → IsIndexBut f x m → f < length x.chains.ends → (first : Option PageId) → next_in x.chains f None ≡ first
    → IfSome first (λ id. (id.place < length x.counts) × ((counts_at x.counts id.place).charged + 1 < 4294967296))
room_charged x m f index frame None is = tt
room_charged x m f index frame (Some id) is = search (rules, place_of_first, one_here, charge_is_first, charged_few)

pub room_active : (x : Counted) (m : Marked) (f t : ℕ) → IsIndexBut f x m → f < length x.chains.ends → get_or x.touchers f 0 ≡ t → (first : Option PageId) → next_in x.chains f None ≡ first
    → IfSome first (λ id. IsTrue (nat_lt 0 t) → (counts_at x.counts id.place).active + 1 < 4294967296)
room_active x m f t index frame got None is = tt
room_active x m f t index frame got (Some id) is = search (rules, one_here, charge_is_first, touched_term, charged_few, active_few)

-- Where nothing changes but on one frame, what is counted beside it stays.
pub but_changes : (x x2 : Counted) (m m2 : Marked) (f : ℕ) → HasCountsBut f x m → f < length x.chains.ends
    → x2.counts ≡ x.counts → x2.chains.numbers ≡ x.chains.numbers → length x2.chains.ends ≡ length x.chains.ends
    → ((k g : ℕ) → g ≢ f → charge_in (number_in x.chains.numbers) m2.pages k g ≡ charge_in (number_in x.chains.numbers) m.pages k g)
    → ((g : ℕ) → g ≢ f → touchers_in m2.pages m2.marks g ≡ touchers_in m.pages m.marks g)
    → get_or x2.touchers f 0 ≡ touchers_in m2.pages m2.marks f → ((g : ℕ) → g ≢ f → get_or x2.touchers g 0 ≡ get_or x.touchers g 0)
    → HasCountsBut f x2 m2
but_changes x x2 m m2 f counted frame counts numbers ends charges touchers here others =
    record {
      charged = λ i. rw (counts, numbers, ends) (
          let change = below_change (length x.chains.ends) f (λ g. charge_in (number_in x.chains.numbers) m.pages i g) (λ g. charge_in (number_in x.chains.numbers) m2.pages i g) frame (λ g other. charges i g other) in
          let old = counted.charged i in
          (omega arith));
      active = λ i. rw (counts, numbers, ends) (
          let change = below_change (length x.chains.ends) f (λ g. activity_in (number_in x.chains.numbers) m i g) (λ g. activity_in (number_in x.chains.numbers) m2 i g) frame
          (λ g other. rw (touchers g other, charges i g other) refl) in
          let old = counted.active i in
          (omega arith));
      touchers = search (rules, here_or);
    }
