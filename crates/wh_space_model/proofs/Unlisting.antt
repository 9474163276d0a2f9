-- A frame comes to be shared without an entry by a page that is lent, and by nothing else.
use Rattle.std.proofs.Common.{◌≡◌, ℕ, ◌-◌, ◌<◌, inl, inr, cond, nat_lt, true, false, Bool, List, [], ◌∷◌, Option, Some, None, length, slice_get, slice_set, refl, sym, ap, ◌∙◌, arith, length-set, rules}
use Rattle.std.proofs.lemmas.Bool.{cases_lt}
use Rattle.wh_model.specs.declared.memory.Need.{Need}
use Rattle.wh_space_model.specs.declared.states.EvictEnd.{EvictEnd}
use Rattle.wh_space_model.specs.declared.states.FetchEnd.{FetchEnd}
use Rattle.wh_space_model.specs.declared.states.Mark.{Mark}
use Rattle.wh_space_model.specs.declared.states.Mark.TheVariants.{Plain, Hint, Sharers, Unlisted}
use Rattle.wh_space_model.specs.declared.states.Offer.{Offer}
use Rattle.wh_space_model.specs.declared.states.Offer.TheVariants.{Skipped, Zeroed, Hinted, Stale, Merged, FalseMatch}
use Rattle.wh_space_model.specs.{fewer_sharers, OnlyLendsUnlist, loads, stores, new_epoch, stands, ends, offered, begins_evict, written, commits_evict, begins_fetch, commits_fetch, provides, fails, grows, enters, exits, has_pins, one_fewer, unpinned, OffersAlone, OffersUnlisted, Space, sharers, Exits, released_mark, GivesUp, Move, Serves, comes, goes, IsUnlisted, IsSound, Overwrites, stood, BeginsEvict, BeginsFetch, CommitsEvict, CommitsFetch, Reserves}
use Rattle.wh_space_model.proofs.Filled.{stores_are_right, stores_soundly}
use Rattle.wh_space_model.proofs.Passing.{hint_listed, plain_listed, shared_listed, unlisted_other}
use Rattle.wh_space_model.proofs.Putting.{here_or, set_other, set_same, there_of}
use Rattle.wh_space_model.proofs.Rooms.{get_there}

-- each frame that is unlisted after it was so before
abbrev Keeps : Space → Space → Type 0
Keeps s s2 = (f : ℕ) → IsUnlisted s2 f → IsUnlisted s f

keeps_then : (a b c : Space) → Keeps a b → Keeps b c → Keeps a c
keeps_then a b c x y f is = x f (y f is)

keeps_marks : (s s2 : Space) → s2.marks ≡ s.marks → Keeps s s2
keeps_marks s s2 same f (n, is) = (n, ap (λ ms. slice_get ms f) (sym same) ∙ is)

-- ---- one entry

fewer_unlisted : (o : Option Mark) (n : ℕ) → one_fewer o ≡ Unlisted n → (m : ℕ) × (o ≡ Some (Unlisted m))
fewer_unlisted None n e = absurd (cc e)
fewer_unlisted (Some Plain) n e = absurd (cc e)
fewer_unlisted (Some (Hint h i p)) n e = absurd (cc e)
fewer_unlisted (Some (Sharers h k)) n e = absurd (cc e)
fewer_unlisted (Some (Unlisted k)) n e = (k, refl)

left_unlisted : (b : Bool) (o : Option Mark) (n : ℕ) → cond b (one_fewer o) Plain ≡ Unlisted n → (m : ℕ) × (o ≡ Some (Unlisted m))
left_unlisted true o n e = fewer_unlisted o n e
left_unlisted false o n e = absurd (cc e)

-- a page has left frame g
departed_keeps : (marks : List Mark) (g f n : ℕ) (b : Bool) → slice_get (slice_set marks g (cond b (one_fewer (slice_get marks g)) Plain)) f ≡ Some (Unlisted n) → (m : ℕ) × (slice_get marks f ≡ Some (Unlisted m))
departed_keeps marks g f n b is = elim (here_or g f) [
  | inr other ↦ (n, sym (set_other marks g f (cond b (one_fewer (slice_get marks g)) Plain) (λ e. other e)) ∙ is)
  | inl same ↦ search (rules, length-set, there_of, set_same, left_unlisted)
]

cond_listed : (b : Bool) (m : Mark) (n : ℕ) → cond b m Plain ≡ Unlisted n → m ≡ Unlisted n
cond_listed true m n e = e
cond_listed false m n e = absurd (cc e)

fewer_keeps : (t : ℕ) (m : Mark) (n : ℕ) → fewer_sharers t m ≡ Unlisted n → (k : ℕ) × (m ≡ Unlisted k)
fewer_keeps t Plain n e = absurd (cc e)
fewer_keeps t (Hint h i p) n e = absurd (cc e)
fewer_keeps t (Sharers h k) n e = absurd (let bad : Sharers h (k - t) ≡ Unlisted n = cond_listed (nat_lt t k) (Sharers h (k - t)) n e in cc bad)
fewer_keeps t (Unlisted k) n e = (k, refl)

hint_or_plain : (b : Bool) (h i p n : ℕ) → cond b Plain (Hint h i p) ≡ Unlisted n → ⊥
hint_or_plain true h i p n e = cc e
hint_or_plain false h i p n e = cc e

released_keeps : (i t : ℕ) (m : Mark) (n : ℕ) → released_mark i t m ≡ Unlisted n → (k : ℕ) × (m ≡ Unlisted k)
released_keeps i t Plain n e = absurd (cc e)
released_keeps i t (Hint h j p) n e = absurd (hint_or_plain _ h j p n e)
released_keeps i t (Sharers h k) n e = fewer_keeps t (Sharers h k) n e
released_keeps i t (Unlisted k) n e = (k, refl)

-- another entry was put
set_unlisted : (marks : List Mark) (g f n : ℕ) (m : Mark) → (m ≡ Unlisted n → ⊥) → slice_get (slice_set marks g m) f ≡ Some (Unlisted n) → slice_get marks f ≡ Some (Unlisted n)
set_unlisted marks g f n m never is = search (rules, cases_lt, unlisted_other, set_other, length-set, there_of)

-- each entry comes from one that there was
each_keeps : (s s2 : Space) (new : ℕ → Mark → Mark) → length s2.marks ≡ length s.marks → ((f : ℕ) (m : Mark) → slice_get s.marks f ≡ Some m → slice_get s2.marks f ≡ Some (new f m))
    → ((f : ℕ) (m : Mark) (n : ℕ) → new f m ≡ Unlisted n → (k : ℕ) × (m ≡ Unlisted k)) → Keeps s s2
each_keeps s s2 new long marks back f (n, is) =
    let within : f < length s.marks = (let t = there_of s2.marks f (Unlisted n) is in omega arith) in
    let m = get_there s.marks f within in
    let both : Some (new f m.0) ≡ Some (Unlisted n) = sym (marks f m.0 m.1) ∙ is in
    let was = back f m.0 n (cc both) in
    (was.0, m.1 ∙ ap Some was.1)

-- ---- offers

alone_keeps : (hashes : List ℕ → ℕ) (s : Space) (i p hash : ℕ) (answer : Offer) (s2 : Space) → OffersAlone hashes s i p hash answer s2 → Keeps s s2
alone_keeps hashes s i p hash Skipped s2 (is, why) f (n, mark) = keeps_marks s s2 (ap (λ (a : Space). a.marks) is) f (n, mark)
alone_keeps hashes s i p hash FalseMatch s2 (is, why) f (n, mark) = keeps_marks s s2 (ap (λ (a : Space). a.marks) is) f (n, mark)
alone_keeps hashes s i p hash Hinted s2 (g, there, some, none, is) f (n, mark) = (n, set_unlisted s.marks g f n (Hint hash i p) (hint_listed hash i p n) (ap (λ (a : Space). slice_get a.marks f) (sym is) ∙ mark))
alone_keeps hashes s i p hash Stale s2 (g, h, j, q, there, some, found, apart, other, changed, is) f (n, mark) =
    (n, set_unlisted s.marks h f n Plain (plain_listed n) (set_unlisted (slice_set s.marks h Plain) g f n (Hint hash i p) (hint_listed hash i p n) (ap (λ (a : Space). slice_get a.marks f) (sym is) ∙ mark)))
alone_keeps hashes s i p hash Zeroed s2 (g, there, zeros, is) f (n, mark) = (n, set_unlisted s.marks g f n Plain (plain_listed n) (ap (λ (a : Space). slice_get a.marks f) (sym is) ∙ mark))
alone_keeps hashes s i p hash Merged s2 (g, h, there, some, same, inl (k, found, is)) f (n, mark) =
    (n, set_unlisted s.marks g f n Plain (plain_listed n) (set_unlisted (slice_set s.marks g Plain) h f n (Sharers hash _) (shared_listed hash _ n) (ap (λ (a : Space). slice_get a.marks f) (sym is) ∙ mark)))
alone_keeps hashes s i p hash Merged s2 (g, h, there, some, same, inr (j, q, apart, hint, is)) f (n, mark) =
    (n, set_unlisted s.marks g f n Plain (plain_listed n) (set_unlisted (slice_set s.marks g Plain) h f n (Sharers hash _) (shared_listed hash _ n) (ap (λ (a : Space). slice_get a.marks f) (sym is) ∙ mark)))

listed_keeps : (hashes : List ℕ → ℕ) (s : Space) (i p hash : ℕ) (answer : Offer) (s2 : Space) → OffersUnlisted hashes s i p hash answer s2 → Keeps s s2
listed_keeps hashes s i p hash Skipped s2 (is, why) f (n, mark) = keeps_marks s s2 (ap (λ (a : Space). a.marks) is) f (n, mark)
listed_keeps hashes s i p hash FalseMatch s2 (is, why) f (n, mark) = keeps_marks s s2 (ap (λ (a : Space). a.marks) is) f (n, mark)
listed_keeps hashes s i p hash Hinted s2 (g, k, may, some, none, is) f (n, mark) = (n, set_unlisted s.marks g f n (Sharers hash k) (shared_listed hash k n) (ap (λ (a : Space). slice_get a.marks f) (sym is) ∙ mark))
listed_keeps hashes s i p hash Stale s2 (g, k, h, j, q, may, some, found, there, changed, is) f (n, mark) =
    (n, set_unlisted s.marks h f n Plain (plain_listed n) (set_unlisted (slice_set s.marks h Plain) g f n (Sharers hash k) (shared_listed hash k n) (ap (λ (a : Space). slice_get a.marks f) (sym is) ∙ mark)))
listed_keeps hashes s i p hash Zeroed s2 (g, k, may, zeros, is) f (n, mark) = departed_keeps s.marks g f n (nat_lt 1 (sharers s g)) (ap (λ (a : Space). slice_get a.marks f) (sym is) ∙ mark)
listed_keeps hashes s i p hash Merged s2 (g, k, h, may, some, same, inl (m, found, is)) f (n, mark) =
    departed_keeps s.marks g f n (nat_lt 1 (sharers s g)) (set_unlisted (slice_set s.marks g (cond (nat_lt 1 (sharers s g)) (one_fewer (slice_get s.marks g)) Plain)) h f n (Sharers hash _) (shared_listed hash _ n) (ap (λ (a : Space). slice_get a.marks f) (sym is) ∙ mark))
listed_keeps hashes s i p hash Merged s2 (g, k, h, may, some, same, inr (j, q, hint, is)) f (n, mark) =
    search (rules, set_unlisted, plain_listed, shared_listed)

-- ---- tickets, and provisions

reserved_keeps : (s : Space) (i : ℕ) (need : Need) (s2 : Space) → Reserves s i need s2 → Keeps s s2
reserved_keeps s i need s2 reserves = keeps_marks s s2 (ap (λ (a : Space). a.marks) reserves.leaves)

begun_evict : (s : Space) (i : ℕ) (slot : Option ℕ) (bytes : List ℕ) (s2 : Space) → BeginsEvict s i slot bytes s2 → Keeps s s2
begun_evict s i None bytes s2 (inl (none, is)) = keeps_marks s s2 (ap (λ (a : Space). a.marks) is)
begun_evict s i None bytes s2 (inr (need, waits, reserves, why)) = reserved_keeps s i need s2 reserves
begun_evict s i (Some k) bytes s2 (need, waits, s1, reserves, few, j, p, f, must, old, new, there, on, turns, same, others, vacant, is) = search rules

begun_fetch : (s : Space) (i : ℕ) (slot : Option ℕ) (s2 : Space) → BeginsFetch s i slot s2 → Keeps s s2
begun_fetch s i None s2 (inl (none, is)) = keeps_marks s s2 (ap (λ (a : Space). a.marks) is)
begun_fetch s i None s2 (inr (need, waits, reserves, why)) = reserved_keeps s i need s2 reserves
begun_fetch s i (Some k) s2 (need, waits, s1, reserves, p, f, first, there, others, kept, is) = search rules

come_evict : (s : Space) (k : ℕ) (wrote : Bool) (bytes : List ℕ) (end : EvictEnd) (s2 : Space) → CommitsEvict s k wrote bytes end s2 → Keeps s s2
come_evict s k wrote bytes end s2 (inl (j, void, e, is)) f (n, mark) = keeps_marks s s2 (ap (λ (a : Space). a.marks) is) f (n, mark)
come_evict s k wrote bytes end s2 (inr (j, p, g, used, page, there, on, inl (w, same, e, is))) f (n, mark) = departed_keeps s.marks g f n (nat_lt 1 (sharers s g)) (ap (λ (a : Space). slice_get a.marks f) (sym is) ∙ mark)
come_evict s k wrote bytes end s2 (inr (j, p, g, used, page, there, on, inr (why, old, before, is))) f (n, mark) = keeps_marks s s2 (ap (λ (a : Space). a.marks) is) f (n, mark)

come_fetch : (s : Space) (k : ℕ) (read : Bool) (bytes : List ℕ) (end : FetchEnd) (s2 : Space) → CommitsFetch s k read bytes end s2 → Keeps s s2
come_fetch s k read bytes end s2 (inl (i, f, void, e, is)) = keeps_marks s s2 (ap (λ (a : Space). a.marks) is)
come_fetch s k read bytes end s2 (inr (i, p, f, used, inl (r, long, e, is))) = keeps_marks s s2 (ap (λ (a : Space). a.marks) is)
come_fetch s k read bytes end s2 (inr (i, p, f, used, inr (r, e, is))) = keeps_marks s s2 (ap (λ (a : Space). a.marks) is)

served_keeps : (s : Space) (i : ℕ) (need : Need) (moves : List Move) (s2 : Space) → Serves s i need moves s2 → Keeps s s2
served_keeps s i need [] s2 is = keeps_marks s s2 (ap (λ (a : Space). a.marks) is)
served_keeps s i need (comes bytes ∷ moves) s2 (mid, before, (p, first, fetches)) =
    keeps_then s mid s2 (served_keeps s i need moves mid before) (keeps_marks mid s2 (ap (λ (a : Space). a.marks) fetches.leaves))
served_keeps s i need (goes ∷ moves) s2 (mid, before, (lacks, (j, p, must, evicts))) =
    keeps_then s mid s2 (served_keeps s i need moves mid before)
    (λ f is. departed_keeps mid.marks evicts.frame f is.0 (nat_lt 1 (sharers mid evicts.frame)) (ap (λ (a : Space). slice_get a.marks f) (sym evicts.leaves) ∙ is.1))

given_up : (s s2 : Space) → GivesUp s s2 → Keeps s s2
given_up s s2 (inl is) = keeps_marks s s2 (ap (λ (a : Space). a.marks) is)
given_up s s2 (inr (k, vacant, is)) = keeps_marks s s2 (ap (λ (a : Space). a.marks) is)

ended_marks : (s : Space) (i : ℕ) (b : Bool) → (cond b (unpinned (stood s i None)) (stood s i None)).marks ≡ s.marks
ended_marks s i true = refl
ended_marks s i false = refl

-- ---- anything

stored_keeps : (s : Space) (i at : ℕ) (given : List ℕ) (s2 : Space) → IsSound s → Overwrites s i at given s2 → Keeps s s2
stored_keeps s i at given s2 sound over =
    let right = stores_are_right s i at given s2 sound over in
    let after = stores_soundly s i at given s2 sound over in
    each_keeps s s2 _ (after.frames.marks ∙ (right.frames ∙ sym sound.frames.marks)) right.marks (λ f m n e. fewer_keeps _ m n e)

exited_keeps : (s : Space) (i : ℕ) (s2 : Space) → Exits s i s2 → Keeps s s2
exited_keeps s i s2 gone = each_keeps s s2 _ gone.entries gone.marks (λ f m n e. released_keeps i _ m n e)

pub only_lends_unlist : OnlyLendsUnlist
only_lends_unlist hashes s s2 sound (loads i first n is) = keeps_marks s s2 (ap (λ (a : Space). a.marks) is)
only_lends_unlist hashes s s2 sound (stores i at given is) = stored_keeps s i at given s2 sound is
only_lends_unlist hashes s s2 sound (new_epoch is) = keeps_marks s s2 (ap (λ (a : Space). a.marks) is)
only_lends_unlist hashes s s2 sound (stands i t need was may is) = keeps_marks s s2 (ap (λ (a : Space). a.marks) is)
only_lends_unlist hashes s s2 sound (ends i t was is) = keeps_marks s s2 (ap (λ (a : Space). a.marks) is ∙ ended_marks s i (has_pins s.pins i))
only_lends_unlist hashes s s2 sound (offered i p hash answer (inl o)) = alone_keeps hashes s i p hash answer s2 o
only_lends_unlist hashes s s2 sound (offered i p hash answer (inr o)) = listed_keeps hashes s i p hash answer s2 o
only_lends_unlist hashes s s2 sound (begins_evict i slot bytes is) = begun_evict s i slot bytes s2 is
only_lends_unlist hashes s s2 sound (written k bytes wrote is) = keeps_marks s s2 (ap (λ (a : Space). a.marks) is.1)
only_lends_unlist hashes s s2 sound (commits_evict k wrote bytes end held is) = come_evict s k wrote bytes end s2 is
only_lends_unlist hashes s s2 sound (begins_fetch i slot is) = begun_fetch s i slot s2 is
only_lends_unlist hashes s s2 sound (commits_fetch k read bytes end is) = come_fetch s k read bytes end s2 is
only_lends_unlist hashes s s2 sound (provides i n need none stand is) =
    keeps_then s is.1 s2 (served_keeps s i need is.0 is.1 is.2) (keeps_marks is.1 s2 (ap (λ (a : Space). a.marks) is.5.leaves))
only_lends_unlist hashes s s2 sound (fails i need none stand is) = keeps_then s is.1 s2 (served_keeps s i need is.0 is.1 is.2) (given_up is.1 s2 is.3)
only_lends_unlist hashes s s2 sound (grows i n t was live fits is) = keeps_marks s s2 (ap (λ (a : Space). a.marks) is)
only_lends_unlist hashes s s2 sound (enters i size c is) = keeps_marks s s2 (ap (λ (a : Space). a.marks) is.leaves)
only_lends_unlist hashes s s2 sound (exits i is) = exited_keeps s i s2 is
