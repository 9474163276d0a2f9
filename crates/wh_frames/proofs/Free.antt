-- What is free in a pool: the frames that no one has taken yet, and those that were given back.
use Rattle.std.proofs.Common.{◌≡◌, ℕ, ◌+◌, ◌-◌, ◌<◌, ◌≤◌, ◌++◌, ◌⊎◌, List, [], ◌∷◌, length, replicate, get_or, slice_get, Some, zero, suc, add-zero, refl, sym, ◌∙◌, ap, arith, inl, inr}
use Rattle.std.proofs.lemmas.Bool.{cases_lt}
use Rattle.std.proofs.lemmas.List.{append_assoc, append-nil, length-append, length-replicate, length-set, set-append_left}
use Rattle.wh_space_model.specs.{tally, one_if, IsTaken, TakesFreeFrame, zero_page}
use Rattle.wh_space_model.proofs.Tally.{tally-append, one_same, one_other, length-le_from_once}
use Rattle.wh_frames.specs.Parts.{falling, pool_of, GivenBack}
use Rattle.std.specs.Vec.{with_item}
use Rattle.wh_frames.specs.LentFrames.{with_bytes}
use Rattle.wh_frames.specs.declared.pool.FramePool.TheInside.{Inside}

pub length-falling : (first count : ℕ) → length (falling first count) ≡ count
length-falling first zero = refl
length-falling first (suc count) = omega (arith, length-falling first count)

-- a number stands once among the falling ones where it is one of them
falling_out : (first count f : ℕ) → (f < first) ⊎ (first + count ≤ f) → tally (one_if f) (falling first count) ≡ 0
falling_out first zero f out = refl
falling_out first (suc count) f (inl below) = omega (arith, falling_out first count f (inl below), one_other f (first + count) (λ e. omega arith))
falling_out first (suc count) f (inr above) = omega (arith, falling_out first count f (inr (omega arith)), one_other f (first + count) (λ e. omega arith))

pub falling_in : (first count f : ℕ) → first ≤ f → f < first + count → tally (one_if f) (falling first count) ≡ 1
falling_in first zero f low high = absurd (omega arith)
falling_in first (suc count) f low high =
    elim (cases_lt f (first + count)) [
      | inl below ↦ omega (arith, falling_in first count f low below, one_other f (first + count) (λ e. omega arith))
      | inr most ↦ omega (arith, one_same f (first + count) (omega arith), falling_out first count f (inr most))
    ]

-- the least of them is the last
pub falling_next : (first count : ℕ) → falling first (suc count) ≡ falling (first + 1) count ++ first ∷ []
falling_next first zero = ap (λ n. n ∷ []) (add-zero first)
falling_next first (suc count) =
    let head : first + suc count ≡ first + 1 + count = omega arith in
    rw (head, falling_next first count) refl

-- no more were given back than were taken
pub given_back-le : (k : ℕ) (back : List ℕ) → GivenBack k back → length back ≤ k
given_back-le k back given = length-le_from_once k back given.once given.used

-- each frame is free at most once
pub free_once : (k unused : ℕ) (back : List ℕ) → GivenBack k back → (f : ℕ) → tally (one_if f) (falling k unused ++ back) ≤ 1
free_once k unused back given f =
    let parts = tally-append (one_if f) (falling k unused) back in
    elim (cases_lt f k) [
      | inl below ↦ omega (arith, parts, falling_out k unused f (inl below), given.once f)
      | inr above ↦ elim (cases_lt f (k + unused)) [
        | inl in_range ↦ omega (arith, parts, falling_in k unused f above in_range, given.used f above)
        | inr past ↦ omega (arith, parts, falling_out k unused f (inr past), given.used f above)
      ]
    ]

-- only frames that are there are free
pub free_there : (k unused : ℕ) (back : List ℕ) → GivenBack k back → (f : ℕ) → k + unused ≤ f → tally (one_if f) (falling k unused ++ back) ≡ 0
free_there k unused back given f past = omega (arith, tally-append (one_if f) (falling k unused) back, falling_out k unused f (inr past), given.used f (omega arith))

-- a frame that isn't free was taken before, and was not given back
pub taken_before : (k unused : ℕ) (back : List ℕ) (f : ℕ) → f < k + unused → tally (one_if f) (falling k unused ++ back) ≡ 0 → (f < k) × (tally (one_if f) back ≡ 0)
taken_before k unused back f there taken =
    let parts = tally-append (one_if f) (falling k unused) back in
    elim (cases_lt f k) [
      | inl below ↦ (below, omega (arith, parts))
      | inr above ↦ absurd (omega (arith, parts, falling_in k unused f above there))
    ]

-- one more is given back
pub gives_back : (k : ℕ) (back : List ℕ) (f : ℕ) → GivenBack k back → f < k → tally (one_if f) back ≡ 0 → GivenBack k (back ++ f ∷ [])
gives_back k back f given below apart = record {
  once = λ g. elim (cases_lt g f) [
    | inl less ↦ omega (arith, tally-append (one_if g) back (f ∷ []), given.once g, one_other g f (λ e. omega arith))
    | inr most ↦ elim (cases_lt f g) [
      | inl more ↦ omega (arith, tally-append (one_if g) back (f ∷ []), given.once g, one_other g f (λ e. omega arith))
      | inr least ↦ (let same : g ≡ f = omega arith in omega (arith, tally-append (one_if g) back (f ∷ []), ap (λ h. tally (one_if h) back) same, apart, one_same g f same))
    ]
  ];
  used = λ g out. omega (arith, tally-append (one_if g) back (f ∷ []), given.used g out, one_other g f (λ e. omega arith));
}

-- the last that was given back is taken again
pub takes_back : (k unused : ℕ) (old new : List ℕ) (f : ℕ) → old ≡ new ++ f ∷ [] → GivenBack k old → GivenBack k new × (f < k) × (tally (one_if f) (falling k unused ++ new) ≡ 0)
takes_back k unused old new f last given =
    let parts = λ (g : ℕ). ap (tally (one_if g)) last ∙ tally-append (one_if g) new (f ∷ []) in
    let below : f < k = elim (cases_lt f k) [ inl less ↦ less | inr out ↦ absurd (omega (arith, parts f, given.used f out, one_same f f refl)) ] in (
      record { once = λ g. omega (arith, parts g, given.once g); used = λ g out. omega (arith, parts g, given.used g out) },
      below,
      omega (arith, tally-append (one_if f) (falling k unused) new, falling_out k unused f (inl below), parts f, given.once f, one_same f f refl),
    )

-- how many frames there are, and how many are free
pub length_frames : (a : Inside) → length a.frames.items ≤ a.limit → length (pool_of a).frames ≡ a.limit
length_frames a within = omega (arith, length-append a.frames.items (replicate (a.limit - length a.frames.items) zero_page), length-replicate {A = List ℕ} (a.limit - length a.frames.items) zero_page)

pub length_free : (a : Inside) → length (pool_of a).free ≡ (a.limit - length a.frames.items) + length a.free.items
length_free a = omega (arith, length-append (falling (length a.frames.items) (a.limit - length a.frames.items)) a.free.items, length-falling (length a.frames.items) (a.limit - length a.frames.items))

-- a taken frame of a pool was taken before, and was not given back
pub taken_of : (a : Inside) (f : ℕ) → length a.frames.items ≤ a.limit → IsTaken (pool_of a) f → (f < length a.frames.items) × (tally (one_if f) a.free.items ≡ 0)
taken_of a f within taken = taken_before (length a.frames.items) (a.limit - length a.frames.items) a.free.items f (omega (arith, taken.0, length_frames a within)) taken.1

-- an element of the front
pub slice_get-front : {X : Type 0} (xs ys : List X) (i : ℕ) (x : X) → i < length xs → x ≡ get_or xs i x → slice_get (xs ++ ys) i ≡ Some x
slice_get-front [] ys i x within is = absurd (omega arith)
slice_get-front (z ∷ xs) ys zero x within is = ap Some (sym is)
slice_get-front (z ∷ xs) ys (suc i) x within is = slice_get-front xs ys i x (omega arith) is

pub get_or_front : {X : Type 0} (xs ys : List X) (i : ℕ) (x none : X) → i < length xs → x ≡ get_or xs i x → x ≡ get_or (xs ++ ys) i none
get_or_front [] ys i x none within is = absurd (omega arith)
get_or_front (z ∷ xs) ys zero x none within is = is
get_or_front (z ∷ xs) ys (suc i) x none within is = get_or_front xs ys i x none (omega arith) is

-- a write to a frame that was taken is a write to that frame of the pool
pub pool_of-write : (a : Inside) (f : ℕ) (bytes : List ℕ) → f < length a.frames.items → pool_of (record a { frames = with_item a.frames f bytes }) ≡ with_bytes (pool_of a) f bytes
pool_of-write a f bytes within =
    let same = length-set a.frames.items f bytes in
    rw (same, set-append_left a.frames.items (replicate (a.limit - length a.frames.items) zero_page) f bytes within) refl

-- one more frame of zeros is taken from those that were never taken
frames_next : (items : List (List ℕ)) (limit : ℕ) → length items < limit → (items ++ zero_page ∷ []) ++ replicate (limit - length (items ++ zero_page ∷ [])) zero_page ≡ items ++ replicate (limit - length items) zero_page
frames_next items limit below =
    let rest : limit - length items ≡ suc (limit - length (items ++ zero_page ∷ [])) = omega (arith, length-append items (zero_page ∷ [])) in
    append_assoc items (zero_page ∷ []) (replicate (limit - length (items ++ zero_page ∷ [])) zero_page)
    ∙ ap (λ (n : ℕ). items ++ replicate n zero_page) (sym rest)

-- the frame that is taken is the last free one
free_next : (k limit : ℕ) → k < limit → falling k (limit - k) ≡ falling (k + 1) (limit - (k + 1)) ++ k ∷ []
free_next k limit below =
    let rest : limit - k ≡ suc (limit - (k + 1)) = omega arith in
    ap (falling k) rest ∙ falling_next k (limit - (k + 1))

-- a frame that was given back is taken
pub takes_given : (a b : Inside) (f : ℕ) → b.limit ≡ a.limit → b.frames.items ≡ a.frames.items → a.free.items ≡ b.free.items ++ f ∷ [] → TakesFreeFrame (pool_of a) f (pool_of b)
takes_given a b f limit frames last =
    let unused = falling (length a.frames.items) (a.limit - length a.frames.items) in
    record {
      frames = rw (frames, limit) refl;
      free = rw (frames, limit) (ap (λ (l : List ℕ). unused ++ l) last ∙ sym (append_assoc unused b.free.items (f ∷ [])));
    }

-- a frame is taken for the first time
pub takes_next : (a b : Inside) (f : ℕ) → f ≡ length a.frames.items → f < a.limit → b.limit ≡ a.limit → b.frames.items ≡ a.frames.items ++ zero_page ∷ [] → a.free.items ≡ [] → b.free.items ≡ [] → TakesFreeFrame (pool_of a) f (pool_of b)
takes_next a b f is below limit next none none2 =
    let k = length a.frames.items in
    let under : k < a.limit = omega arith in
    let more : length b.frames.items ≡ k + 1 = ap length next ∙ length-append a.frames.items (zero_page ∷ []) in
    record {
      frames = rw (next, limit) (frames_next a.frames.items a.limit under);
      free = rw (none, none2, limit, more, is, append-nil (falling k (a.limit - k)), append-nil (falling (k + 1) (a.limit - (k + 1)))) (free_next k a.limit under);
    }

-- then it isn't free any more
pub taken_next : (a b : Inside) (f : ℕ) → f ≡ length a.frames.items → f < a.limit → b.limit ≡ a.limit → b.frames.items ≡ a.frames.items ++ zero_page ∷ [] → b.free.items ≡ [] → IsTaken (pool_of b) f
taken_next a b f is below limit next none2 =
    let k = length a.frames.items in
    let more : length b.frames.items ≡ k + 1 = ap length next ∙ length-append a.frames.items (zero_page ∷ []) in (
      omega (arith, length_frames b (omega (arith, more))),
      rw (none2, append-nil (falling (length b.frames.items) (b.limit - length b.frames.items))) (falling_out (length b.frames.items) (b.limit - length b.frames.items) f (inl (omega (arith, more)))),
    )

-- a list from which nothing could be taken is empty
pub nothing_left : (old new : List ℕ) → old ≡ new ++ [] → length new ≡ 0 → (old ≡ []) × (new ≡ [])
nothing_left old [] same none = (same, refl)
nothing_left old (x ∷ new) same none = absurd (omega arith)
