-- The links of all pages as they lie in memory, a row for each instance.
use Rattle.std.proofs.Common.{◌≡◌, ℕ, ◌<◌, ◌++◌, List, [], ◌∷◌, Option, Some, zero, suc, refl, sym, ap, subst, map, length, get_or, slice_get, slice_set, arith, rules}
use Rattle.std.proofs.lemmas.List.{length-map}
use Rattle.std.specs.Global.{Vec as Items}
use Rattle.std.specs.Vec.{with_item}
use Rattle.wh_space_model.specs.{with_row, page_at, put}
use Rattle.wh_tables.specs.declared.page_id.PageId.{PageId}
use Rattle.wh_tables.specs.declared.order.Link.{Link}
use Rattle.wh_tables.specs.declared.order.Ends.{Ends}
use Rattle.wh_tables.specs.Order.{Chains, HasLinks, HasNext, HasPrior}
use Rattle.wh_tables.proofs.Relinking.{next_from_page, prior_from_page}

pub column_put : {X Y : Type 0} (column : X → List Y) (rows : List X) (i p : ℕ) (row new : X) (y : Y)
    → row ≡ get_or rows i row → column new ≡ slice_set (column row) p y → map column (slice_set rows i new) ≡ put (map column rows) i p y
column_put column [] i p row new y found is = refl
column_put column (x ∷ rows) zero p row new y found is = let e : row ≡ x = found in let k = ap column e in cc
column_put column (x ∷ rows) (suc i) p row new y found is = let e = column_put column rows i p row new y found is in cc

some_there : {X : Type 0} (xs : List X) (p : ℕ) (x : X) → x ≡ get_or xs p x → p < length xs → slice_get xs p ≡ Some x
some_there [] p x is within = absurd (omega arith)
some_there (y ∷ xs) zero x is within = ap Some (sym is)
some_there (y ∷ xs) (suc p) x is within = some_there xs p x is (omega arith)

pub found_link : (rows : List (Items Link)) (i p : ℕ) (row : Items Link) (l : Link) → row ≡ get_or rows i row → l ≡ get_or row.items p l
    → p < length (get_or (map (λ (r : Items Link). r.items) rows) i []) → page_at (map (λ (r : Items Link). r.items) rows) i p ≡ Some l
found_link [] i p row l here is within = absurd (omega arith)
found_link (r ∷ rows) zero p row l here is within = search (rules, some_there)
found_link (r ∷ rows) (suc i) p row l here is within = found_link rows i p row l here is within

abbrev pub chains_in : List ℕ → List (Items Link) → List Ends → Chains
chains_in numbers rows ends = record { numbers = numbers; links = map (λ (r : Items Link). r.items) rows; ends = ends }

pub next_of_rows : (numbers : List ℕ) (rows : List (Items Link)) (ends : List Ends) (f : ℕ) (id : PageId) (row : Items Link) (l : Link) (to : Option PageId)
    → row ≡ get_or rows id.place row → l ≡ get_or row.items id.page l → HasLinks (chains_in numbers rows ends) f (Some id)
    → HasNext (chains_in numbers rows ends) f (Some id) to (chains_in numbers (slice_set rows id.place (with_item row id.page (record l { next = to }))) ends)
next_of_rows numbers rows ends f id row l to here is within =
    let done = next_from_page (chains_in numbers rows ends) f id l to (found_link rows id.place id.page row l here is within) in
    let same = column_put (λ (r : Items Link). r.items) rows id.place id.page row (with_item row id.page (record l { next = to })) (record l { next = to }) here refl in
    subst (λ (z : List (List Link)). HasNext (chains_in numbers rows ends) f (Some id) to (record { numbers = numbers; links = z; ends = ends })) (sym same) done

pub prior_of_rows : (numbers : List ℕ) (rows : List (Items Link)) (ends : List Ends) (f : ℕ) (id : PageId) (row : Items Link) (l : Link) (to : Option PageId)
    → row ≡ get_or rows id.place row → l ≡ get_or row.items id.page l → HasLinks (chains_in numbers rows ends) f (Some id)
    → HasPrior (chains_in numbers rows ends) f (Some id) to (chains_in numbers (slice_set rows id.place (with_item row id.page (record l { prior = to }))) ends)
prior_of_rows numbers rows ends f id row l to here is within =
    let done = prior_from_page (chains_in numbers rows ends) f id l to (found_link rows id.place id.page row l here is within) in
    let same = column_put (λ (r : Items Link). r.items) rows id.place id.page row (with_item row id.page (record l { prior = to })) (record l { prior = to }) here refl in
    subst (λ (z : List (List Link)). HasPrior (chains_in numbers rows ends) f (Some id) to (record { numbers = numbers; links = z; ends = ends })) (sym same) done

map_append : {X Y : Type 0} (f : X → Y) (xs : List X) (x : X) → map f (xs ++ x ∷ []) ≡ map f xs ++ f x ∷ []
map_append f [] x = refl
map_append f (y ∷ xs) x = let e = map_append f xs x in cc

pub map_set : {X Y : Type 0} (f : X → Y) (xs : List X) (i : ℕ) (x : X) → map f (slice_set xs i x) ≡ slice_set (map f xs) i (f x)
map_set f [] i x = refl
map_set f (y ∷ xs) zero x = refl
map_set f (y ∷ xs) (suc i) x = let e = map_set f xs i x in cc

pub map_row : {X Y : Type 0} (f : X → Y) (xs : List X) (i : ℕ) (x : X) → map f (with_row xs i x) ≡ with_row (map f xs) i (f x)
map_row f xs i x = search (rules, length-map, map_set, map_append)
