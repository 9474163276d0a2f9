-- The index but for one frame, when a page leaves it, comes to it, is marked there, or isn't any more.
use Rattle.std.proofs.Common.{◌≡◌, ◌≢◌, ℕ, ◌+◌, ◌-◌, ◌<◌, ◌≤◌, cond, Bool, true, false, List, [], ◌∷◌, Some, length, slice_set, get_or, zero, suc, refl, sym, ap, ◌∙◌, subst, arith, length-set, rules}
use Rattle.wh_space_model.specs.declared.states.Page.{Page}
use Rattle.wh_space_model.specs.declared.states.Page.TheVariants.{Untouched}
use Rattle.wh_space_model.specs.{page_at, put, stands_on}
use Rattle.wh_tables.specs.declared.page_id.PageId.{PageId}
use Rattle.wh_tables.specs.Order.{Chains, IsAsLarge, IsInOrder}
use Rattle.wh_tables.specs.Index.{HaveOwnNumbers, Counted, HoldsOff, HoldsOn, IsIndexBut, IsIndexOf, IsMeasured, Marked, number_in, one_if_touched, with_mark, with_page}
use Rattle.wh_space_model.proofs.Changing.{charge_same}
use Rattle.wh_tables.proofs.Charging.{on_once}
use Rattle.wh_tables.proofs.Counting.{but_changes}
use Rattle.wh_tables.proofs.Relinking.{put_lengths}
use Rattle.wh_tables.proofs.Standing.{page_of_standing}
use Rattle.wh_tables.proofs.Touching.{few_touchers, touchers_with_mark, touchers_with_page}

got_set : (xs : List ℕ) (f x : ℕ) → f < length xs → get_or (slice_set xs f x) f 0 ≡ x
got_set [] f x within = absurd (omega arith)
got_set (y ∷ xs) zero x within = refl
got_set (y ∷ xs) (suc f) x within = got_set xs f x (omega arith)

got_else : (xs : List ℕ) (f g x : ℕ) → g ≢ f → get_or (slice_set xs f x) g 0 ≡ get_or xs g 0
got_else [] f g x other = refl
got_else (y ∷ xs) zero zero x other = absurd (other refl)
got_else (y ∷ xs) zero (suc g) x other = refl
got_else (y ∷ xs) (suc f) zero x other = refl
got_else (y ∷ xs) (suc f) (suc g) x other = got_else xs f g x (λ e. other (ap suc e))

-- on another frame it doesn't stand
stands_not : (f g : ℕ) (page : Page) → stands_on f page ≡ 1 → g ≢ f → stands_on g page ≡ 0
stands_not f g page on other = search rules

-- what is measured stays, and so do numbers
pub measured_page : (x x2 : Counted) (m : Marked) (id : PageId) (page : Page) → IsMeasured x m → IsAsLarge x.chains x2.chains → x2.counts ≡ x.counts → length x2.touchers ≡ length x.touchers → IsMeasured x2 (with_page m id page)
measured_page x x2 m id page old large counts touchers = search (rules, length-set, put_lengths)

measured_mark : (x x2 : Counted) (m : Marked) (id : PageId) (mark : Bool) → IsMeasured x m → x2.chains ≡ x.chains → x2.counts ≡ x.counts → length x2.touchers ≡ length x.touchers → IsMeasured x2 (with_mark m id mark)
measured_mark x x2 m id mark old chains counts touchers = search rules

pub apart_page : (numbers : List ℕ) (pages : List (List Page)) (id : PageId) (page : Page) → HaveOwnNumbers numbers pages → HaveOwnNumbers numbers (put pages id.place id.page page)
apart_page numbers pages id page apart i j some also same = search (rules, put_lengths)

-- a page that goes from one frame to none, or from none to one
other_page : (x x2 : Counted) (m : Marked) (f : ℕ) (id : PageId) (was page : Page) (touched : Bool) → IsIndexBut f x m → f < length x.chains.ends
    → page_at m.pages id.place id.page ≡ Some was → page_at m.marks id.place id.page ≡ Some touched → ((g : ℕ) → g ≢ f → stands_on g page ≡ stands_on g was)
    → IsInOrder x2.chains (put m.pages id.place id.page page) → IsAsLarge x.chains x2.chains → x2.counts ≡ x.counts → (n : ℕ) → x2.touchers ≡ slice_set x.touchers f n
    → n + cond touched (stands_on f was) 0 ≡ get_or x.touchers f 0 + cond touched (stands_on f page) 0
    → IsIndexBut f x2 (with_page m id page)
other_page x x2 m f id was page touched index frame there mark others order large counts n touchers now =
    let m_touchers = index.measured.touchers in
    record {
      order = order;
      apart = subst (λ numbers. HaveOwnNumbers numbers (put m.pages id.place id.page page)) (sym large.numbers) (apart_page x.chains.numbers m.pages id page index.apart);
      measured = measured_page x x2 m id page index.measured large counts (ap length touchers ∙ length-set x.touchers f n);
      counted = but_changes x x2 m (with_page m id page) f index.counted frame counts large.numbers large.ends
          (λ k g other. charge_same (number_in x.chains.numbers) m.pages id.place id.page was page g there (others g other) k)
          (λ g other. (let change = touchers_with_page m.pages m.marks id.place id.page g was page touched there mark in let e = ap (λ n. cond touched n 0) (others g other) in omega arith))
          (let change = touchers_with_page m.pages m.marks id.place id.page f was page touched there mark in
          let old = index.counted.touchers f frame in
          let here : get_or x2.touchers f 0 ≡ n = ap (λ z. get_or z f 0) touchers ∙ got_set x.touchers f n (omega arith) in
          omega arith)
          (λ g other. ap (λ z. get_or z g 0) touchers ∙ got_else x.touchers f g n other);
    }

-- another mark of a page that stands there
other_mark : (x x2 : Counted) (m : Marked) (f : ℕ) (id : PageId) (was : Page) (touched mark : Bool) → IsIndexBut f x m → f < length x.chains.ends
    → page_at m.pages id.place id.page ≡ Some was → stands_on f was ≡ 1 → page_at m.marks id.place id.page ≡ Some touched
    → x2.chains ≡ x.chains → x2.counts ≡ x.counts → (n : ℕ) → x2.touchers ≡ slice_set x.touchers f n
    → n + cond touched 1 0 ≡ get_or x.touchers f 0 + cond mark 1 0
    → IsIndexBut f x2 (with_mark m id mark)
other_mark x x2 m f id was touched mark index frame there on marked chains counts n touchers now =
    let m_touchers = index.measured.touchers in
    record {
      order = rw chains index.order;
      apart = rw chains index.apart;
      measured = measured_mark x x2 m id mark index.measured chains counts (ap length touchers ∙ length-set x.touchers f n);
      counted = but_changes x x2 m (with_mark m id mark) f index.counted frame counts (ap (λ (z : Chains). z.numbers) chains) (ap (λ (z : Chains). length z.ends) chains)
          (λ k g other. refl)
          (λ g other. (
          let change = touchers_with_mark m.pages m.marks id.place id.page g was touched mark there marked in
          let off = stands_not f g was on other in
          let a : cond touched (stands_on g was) 0 ≡ 0 = zeros touched (stands_on g was) off in
          let b : cond mark (stands_on g was) 0 ≡ 0 = zeros mark (stands_on g was) off in
          omega arith))
          (let change = touchers_with_mark m.pages m.marks id.place id.page f was touched mark there marked in
          let old = index.counted.touchers f frame in
          let here : get_or x2.touchers f 0 ≡ n = ap (λ z. get_or z f 0) touchers ∙ got_set x.touchers f n (omega arith) in
          let a = ap (λ n. cond touched n 0) on in
          let b = ap (λ n. cond mark n 0) on in
          omega arith)
          (λ g other. ap (λ z. get_or z g 0) touchers ∙ got_else x.touchers f g n other);
    } where
      zeros : (b : Bool) (n : ℕ) → n ≡ 0 → cond b n 0 ≡ 0
      zeros true n none = none
      zeros false n none = refl

-- a touched page that stands on a frame is counted there
pub counts_touched : (x : Counted) (m : Marked) (f : ℕ) (id : PageId) (touched : Bool) → HoldsOn x m f id touched → one_if_touched touched ≤ get_or x.touchers f 0
counts_touched x m f id touched holds =
    let was = page_of_standing m.pages f id holds.on in
    let change = touchers_with_page m.pages m.marks id.place id.page f was.0 Untouched touched was.1 holds.mark in
    let old = holds.index.counted.touchers f (holds.index.order.room f id holds.on).frame in
    let a = ap (λ n. cond touched n 0) was.2 in
    let none = same touched in
    omega arith where
      same : (b : Bool) → cond {A = ℕ} b 0 0 ≡ 0
      same true = refl
      same false = refl

-- and there is room to count
pub room_touched : (x : Counted) (m : Marked) (f : ℕ) → IsIndexOf x m → f < length x.chains.ends → get_or x.touchers f 0 + 1 < 18446744073709551616
room_touched x m f index frame = search (rules, few_touchers, on_once)

pub left_frame : (x y x2 : Counted) (m : Marked) (f : ℕ) (id : PageId) (touched : Bool) → HoldsOn x m f id touched → IsIndexBut f y m
    → y.chains ≡ x.chains → y.touchers ≡ x.touchers → IsInOrder x2.chains (put m.pages id.place id.page Untouched) → IsAsLarge y.chains x2.chains → x2.counts ≡ y.counts
    → x2.touchers ≡ slice_set y.touchers f (get_or y.touchers f 0 - one_if_touched touched)
    → IsIndexBut f x2 (with_page m id Untouched)
left_frame x y x2 m f id touched holds index chains same order large counts touchers =
    let was = page_of_standing m.pages f id holds.on in
    let frame = (holds.index.order.room f id holds.on).frame in
    let some = counts_touched x m f id touched holds in
    other_page y x2 m f id was.0 Untouched touched index (rw chains frame) was.1 holds.mark (λ g other. sym (stands_not f g was.0 was.2 other)) order large counts
    (get_or y.touchers f 0 - one_if_touched touched) touchers
    (let a = ap (λ n. cond touched n 0) was.2 in let b = ap (λ z. get_or z f 0) same in let none = zero_of touched in omega arith) where
      zero_of : (b : Bool) → cond {A = ℕ} b 0 0 ≡ 0
      zero_of true = refl
      zero_of false = refl

pub come_frame : (x y x2 : Counted) (m : Marked) (f : ℕ) (id : PageId) (was page : Page) (touched : Bool) → HoldsOff x m id was touched → stands_on f page ≡ 1 → IsIndexBut f y m → f < length y.chains.ends
    → IsInOrder x2.chains (put m.pages id.place id.page page) → IsAsLarge y.chains x2.chains → x2.counts ≡ y.counts
    → x2.touchers ≡ slice_set y.touchers f (get_or y.touchers f 0 + one_if_touched touched)
    → IsIndexBut f x2 (with_page m id page)
come_frame x y x2 m f id was page touched holds on index frame order large counts touchers =
    other_page y x2 m f id was page touched index frame holds.there holds.mark (λ g other. stands_not f g page on other ∙ sym (holds.nowhere g)) order large counts
    (get_or y.touchers f 0 + one_if_touched touched) touchers
    (let a = ap (λ n. cond touched n 0) on in let b = ap (λ n. cond touched n 0) (holds.nowhere f) in let none = zero_of touched in omega arith) where
      zero_of : (b : Bool) → cond {A = ℕ} b 0 0 ≡ 0
      zero_of true = refl
      zero_of false = refl

pub marked_there : (x y x2 : Counted) (m : Marked) (f : ℕ) (id : PageId) → HoldsOn x m f id false → IsIndexBut f y m → y.chains ≡ x.chains → x2.chains ≡ y.chains → x2.counts ≡ y.counts
    → x2.touchers ≡ slice_set y.touchers f (get_or y.touchers f 0 + 1) → IsIndexBut f x2 (with_mark m id true)
marked_there x y x2 m f id holds index chains chains2 counts touchers = search (rules, page_of_standing, other_mark)

pub unmarked_there : (x y x2 : Counted) (m : Marked) (f : ℕ) (id : PageId) → HoldsOn x m f id true → IsIndexBut f y m → y.chains ≡ x.chains → y.touchers ≡ x.touchers → x2.chains ≡ y.chains → x2.counts ≡ y.counts
    → x2.touchers ≡ slice_set y.touchers f (get_or y.touchers f 0 - 1) → IsIndexBut f x2 (with_mark m id false)
unmarked_there x y x2 m f id holds index chains same chains2 counts touchers = search (rules, page_of_standing, counts_touched, other_mark)
