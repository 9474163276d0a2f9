-- How many touched pages stand on a frame, when one page or one mark is another one now.
use Rattle.std.proofs.Common.{◌≡◌, ℕ, ◌+◌, ◌*◌, ◌<◌, ◌≤◌, cond, Bool, true, false, List, [], ◌∷◌, Some, length, slice_get, slice_set, get_or, zero, suc, refl, ap, arith, length-set, rules}
use Rattle.wh_space_model.specs.declared.states.Page.{Page}
use Rattle.wh_space_model.specs.{page_at, put, below, stands_on, touched_on, touchers_in}
use Rattle.wh_space_model.proofs.Putting.{is_page, put_other_row}
use Rattle.wh_space_model.proofs.Changing.{below_change}

row_of_put : {X : Type 0} (xss : List (List X)) (i p : ℕ) (x : X) → i < length xss → get_or (put xss i p x) i [] ≡ slice_set (get_or xss i []) p x
row_of_put [] i p x within = absurd (omega arith)
row_of_put (xs ∷ xss) zero p x within = refl
row_of_put (xs ∷ xss) (suc i) p x within = row_of_put xss i p x (omega arith)

row_with_page : (f : ℕ) (xs : List Page) (marks : List Bool) (p : ℕ) (x y : Page) (mark : Bool) → slice_get xs p ≡ Some x → slice_get marks p ≡ Some mark
    → touched_on f (slice_set xs p y) marks + cond mark (stands_on f x) 0 ≡ touched_on f xs marks + cond mark (stands_on f y) 0
row_with_page f [] marks p x y mark here there = cc
row_with_page f (z ∷ xs) [] p x y mark here there = cc
row_with_page f (z ∷ xs) (m ∷ marks) zero x y mark here there = search rules
row_with_page f (z ∷ xs) (m ∷ marks) (suc p) x y mark here there = let rest = row_with_page f xs marks p x y mark here there in omega arith

row_with_mark : (f : ℕ) (xs : List Page) (marks : List Bool) (p : ℕ) (x : Page) (mark mark2 : Bool) → slice_get xs p ≡ Some x → slice_get marks p ≡ Some mark
    → touched_on f xs (slice_set marks p mark2) + cond mark (stands_on f x) 0 ≡ touched_on f xs marks + cond mark2 (stands_on f x) 0
row_with_mark f [] marks p x mark mark2 here there = cc
row_with_mark f (z ∷ xs) [] p x mark mark2 here there = cc
row_with_mark f (z ∷ xs) (m ∷ marks) zero x mark mark2 here there = search rules
row_with_mark f (z ∷ xs) (m ∷ marks) (suc p) x mark mark2 here there = let rest = row_with_mark f xs marks p x mark mark2 here there in omega arith

pub touchers_with_page : (pages : List (List Page)) (marks : List (List Bool)) (i p f : ℕ) (x y : Page) (mark : Bool) → page_at pages i p ≡ Some x → page_at marks i p ≡ Some mark
    → touchers_in (put pages i p y) marks f + cond mark (stands_on f x) 0 ≡ touchers_in pages marks f + cond mark (stands_on f y) 0
touchers_with_page pages marks i p f x y mark here there =
    let within = (is_page pages i p x here).0 in
    let many : length (put pages i p y) ≡ length pages = length-set pages i _ in
    let change = below_change (length pages) i (λ j. touched_on f (get_or pages j []) (get_or marks j [])) (λ j. touched_on f (get_or (put pages i p y) j []) (get_or marks j [])) within
    (λ j other. ap (λ row. touched_on f row (get_or marks j [])) (put_other_row pages i p j y other)) in
    let row : touched_on f (get_or (put pages i p y) i []) (get_or marks i []) ≡ touched_on f (slice_set (get_or pages i []) p y) (get_or marks i []) = ap (λ row. touched_on f row (get_or marks i [])) (row_of_put pages i p y within) in
    let one = row_with_page f (get_or pages i []) (get_or marks i []) p x y mark here there in
    let all : touchers_in (put pages i p y) marks f ≡ below (length pages) (λ j. touched_on f (get_or (put pages i p y) j []) (get_or marks j [])) = ap (λ n. below n (λ j. touched_on f (get_or (put pages i p y) j []) (get_or marks j []))) many in
    omega arith

pub touchers_with_mark : (pages : List (List Page)) (marks : List (List Bool)) (i p f : ℕ) (x : Page) (mark mark2 : Bool) → page_at pages i p ≡ Some x → page_at marks i p ≡ Some mark
    → touchers_in pages (put marks i p mark2) f + cond mark (stands_on f x) 0 ≡ touchers_in pages marks f + cond mark2 (stands_on f x) 0
touchers_with_mark pages marks i p f x mark mark2 here there =
    let within = (is_page pages i p x here).0 in
    let also = (is_page marks i p mark there).0 in
    let change = below_change (length pages) i (λ j. touched_on f (get_or pages j []) (get_or marks j [])) (λ j. touched_on f (get_or pages j []) (get_or (put marks i p mark2) j [])) within
    (λ j other. ap (λ row. touched_on f (get_or pages j []) row) (put_other_row marks i p j mark2 other)) in
    let row : touched_on f (get_or pages i []) (get_or (put marks i p mark2) i []) ≡ touched_on f (get_or pages i []) (slice_set (get_or marks i []) p mark2) = ap (λ row. touched_on f (get_or pages i []) row) (row_of_put marks i p mark2 also) in
    let one = row_with_mark f (get_or pages i []) (get_or marks i []) p x mark mark2 here there in
    omega arith

-- there are few
few_in_row : (f : ℕ) (xs : List Page) (marks : List Bool) → ((x : Page) → stands_on f x ≤ 1) → touched_on f xs marks ≤ length xs
few_in_row f [] marks each = omega arith
few_in_row f (x ∷ xs) [] each = omega arith
few_in_row f (x ∷ xs) (true ∷ marks) each = let rest = few_in_row f xs marks each in let one = each x in omega arith
few_in_row f (x ∷ xs) (false ∷ marks) each = let rest = few_in_row f xs marks each in omega arith

each_below : (n : ℕ) (v : ℕ → ℕ) → ((j : ℕ) → v j ≤ 65536) → below n v ≤ 65536 * n
each_below zero v each = omega arith
each_below (suc n) v each = let rest = each_below n v each in let one = each n in omega arith

pub few_touchers : (pages : List (List Page)) (marks : List (List Bool)) (f : ℕ) → ((x : Page) → stands_on f x ≤ 1) → ((i : ℕ) → length (get_or pages i []) ≤ 65536) → touchers_in pages marks f ≤ 65536 * length pages
few_touchers pages marks f each small = search (rules, each_below, few_in_row)
