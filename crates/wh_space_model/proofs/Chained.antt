-- Whatever befalls a memory in which nobody was leaves it sound.
use Rattle.std.proofs.Common.{◌≡◌, ℕ, ◌<◌, ◌≤◌, inl, inr, replicate, List, [], ◌∷◌, Option, Some, None, length, slice_get, zero, suc, refl, sym, ap, ◌∙◌, subst, arith, rules}
use Rattle.std.proofs.lemmas.Bool.{cases_lt}
use Rattle.std.proofs.lemmas.List.{get_or-replicate, length-replicate}
use Rattle.wh_space_model.specs.{zero_page, tally, one_if, BefallsMemory, stores, EmptyIsSound, FailsSoundly, Follows, ScansSoundly, StaysSound, loads, new_epoch, stands, ends, offered, begins_evict, written, commits_evict, begins_fetch, commits_fetch, provides, fails, grows, enters, exits, fetches_into, HasHash, IsSound, IsUsed, LeavesBy, Names, all_bytes, Space, empty_space, numbers_below, with_held}
use Rattle.wh_space_model.specs.declared.Tax.{Tax}
use Rattle.wh_space_model.proofs.Tally.{one_same, one_other}
use Rattle.wh_space_model.proofs.PageLemmas.{length-zero_page}
use Rattle.wh_space_model.specs.declared.states.Mark.TheVariants.{Plain}
use Rattle.wh_space_model.specs.declared.states.Slot.TheVariants.{Vacant, FetchVoid}
use Rattle.wh_space_model.proofs.Awaited.{begin_fetch_sound}
use Rattle.wh_space_model.proofs.Come.{commits_fetch_soundly}
use Rattle.wh_space_model.proofs.Enlarged.{grows_soundly}
use Rattle.wh_space_model.proofs.Entered.{enters_soundly}
use Rattle.wh_space_model.proofs.Exited.{exits_soundly}
use Rattle.wh_space_model.proofs.Forked.{lends_soundly}
use Rattle.wh_space_model.proofs.Listed.{offers_soundly}
use Rattle.wh_space_model.proofs.Filled.{stores_soundly}
use Rattle.wh_space_model.proofs.Listed.{offers_quiet}
use Rattle.wh_space_model.proofs.Provided.{provision_is_right, serves_way}
use Rattle.wh_space_model.proofs.Reserved.{begin_evict_sound, is_sound_unpinned}
use Rattle.wh_space_model.proofs.Sent.{commits_soundly}
use Rattle.wh_space_model.proofs.Steady.{ends_soundly, epochs_soundly, held_soundly, waits_soundly, touches_soundly, writes_soundly}

-- a slot to which a write failed
vacant_held : (s : Space) (k : ℕ) (bytes : List ℕ) → IsSound s → slice_get s.slots.uses k ≡ Some Vacant → IsSound (with_held s k bytes)
vacant_held s k bytes sound vacant = search (rules, held_soundly)

pub fails_soundly : FailsSoundly
fails_soundly s i need s2 sound none stand (moves, mid, serves, inl is) = subst IsSound (sym is) (is_sound_unpinned mid (serves_way s i need moves mid sound none stand serves).0)
fails_soundly s i need s2 sound none stand (moves, mid, serves, inr (k, vacant, is)) =
    subst IsSound (sym is) (is_sound_unpinned (with_held mid k []) (vacant_held mid k [] (serves_way s i need moves mid sound none stand serves).0 vacant))

-- the numbers below n, each once
below_none : (n f : ℕ) → n ≤ f → tally (one_if f) (numbers_below n) ≡ 0
below_none zero f past = refl
below_none (suc n) f past = let o = one_other f n (λ e. omega arith) in let rest = below_none n f (omega arith) in omega arith

below_once : (n f : ℕ) → f < n → tally (one_if f) (numbers_below n) ≡ 1
below_once zero f less = absurd (omega arith)
below_once (suc n) f less = elim (cases_lt f n) [
  | inl before ↦ (let o = one_other f n (λ e. omega arith) in let rest = below_once n f before in omega arith)
  | inr last ↦ (let o = one_same f n (omega arith) in let rest = below_none n f last in omega arith)
]

no_fetch : (n f : ℕ) → tally (fetches_into f) (replicate n Vacant) ≡ 0
no_fetch zero f = refl
no_fetch (suc n) f = let rest = no_fetch n f in omega arith

-- each of n is the same
each_is : {X : Type 0} (n k : ℕ) (x : X) (P : Option X → Type 0) → (k < n → P (Some x)) → (n ≤ k → P None) → P (slice_get (replicate n x) k)
each_is zero k x P some none = none (omega arith)
each_is (suc n) zero x P some none = some (omega arith)
each_is (suc n) (suc k) x P some none = each_is n k x P (λ less. some (omega arith)) (λ past. none (omega arith))

-- the free frames in any order
pub empty_in_order : (frames slots : ℕ) (tax : Tax) (free : List ℕ) → ((f : ℕ) → f < frames → tally (one_if f) free ≡ 1) → ((f : ℕ) → frames ≤ f → tally (one_if f) free ≡ 0)
    → IsSound (record (empty_space frames slots tax) { pool = record { frames = replicate frames zero_page; free = free } })
empty_in_order frames slots tax free once never =
    let s : Space = record (empty_space frames slots tax) { pool = record { frames = replicate frames zero_page; free = free } } in
    let many : length s.pool.frames ≡ frames = length-replicate frames zero_page in
    record {
      frames = record {
        one = λ f less. (let a = once f (omega (arith, less, many)) in let b = no_fetch slots f in omega arith);
        none = λ f past. (let a = never f (omega (arith, past, many)) in let b = no_fetch slots f in omega arith);
        whole = λ f less. ap length (get_or-replicate frames f zero_page [] (omega (arith, less, many))) ∙ length-zero_page;
        marks = length-replicate frames Plain ∙ sym many;
        names = λ f. each_is frames f Plain (Names s f) (λ less. refl) (λ past. tt);
        apart = λ f g hash has has2. absurd (each_is frames f Plain (λ m. HasHash m hash → ⊥) (λ less h. h) (λ past h. h) has);
      };
      slots = record {
        used = λ k. each_is slots k Vacant (IsUsed s k) (λ less. (refl, refl, below_once slots k less)) (λ past. (refl, refl, below_none slots k past));
        by_one = λ i k by. absurd (each_is slots k Vacant (λ u. LeavesBy i u → ⊥) (λ less h. h) (λ past h. h) by);
        by_this = λ i k t is at_it. absurd (let bad : None ≡ Some (Some t) = is in cc);
        leaving = λ i p is. absurd (omega arith);
        voids = λ i k f is. absurd (each_is slots k Vacant (λ u. u ≡ Some (FetchVoid i f) → ⊥) (λ less h. (let bad : Some Vacant ≡ Some (FetchVoid i f) = h in cc)) (λ past h. (let bad : None ≡ Some (FetchVoid i f) = h in cc)) is);
        held = length-replicate slots [] ∙ sym (length-replicate slots Vacant);
        whole = λ k some. absurd (omega arith);
      };
      occupants = search rules;
      pins = search rules;
      admissible = (omega arith, omega arith);
    }

pub empty_sound : EmptyIsSound
empty_sound frames slots tax = empty_in_order frames slots tax (numbers_below frames) (below_once frames) (below_none frames)

befalls_soundly : (hashes : List ℕ → ℕ) (s s2 : Space) → IsSound s → BefallsMemory hashes s s2 → IsSound s2
befalls_soundly hashes s s2 sound (loads i first n is) = touches_soundly s i first n s2 sound is
befalls_soundly hashes s s2 sound (stores i at given is) = stores_soundly s i at given s2 sound is
befalls_soundly hashes s s2 sound (new_epoch is) = epochs_soundly s s2 sound is
befalls_soundly hashes s s2 sound (stands i t need was may is) = subst IsSound (sym is) (waits_soundly s i t need sound was may)
befalls_soundly hashes s s2 sound (ends i t was is) = subst IsSound (sym is) (ends_soundly s i t sound was)
befalls_soundly hashes s s2 sound (offered i p hash answer is) = offers_soundly hashes s i p hash answer s2 sound is
befalls_soundly hashes s s2 sound (begins_evict i slot bytes is) = begin_evict_sound s s2 i slot bytes sound is
befalls_soundly hashes s s2 sound (written k bytes wrote is) = writes_soundly s k bytes wrote s2 sound is
befalls_soundly hashes s s2 sound (commits_evict k wrote bytes end held is) = commits_soundly s k wrote bytes end s2 sound held is
befalls_soundly hashes s s2 sound (begins_fetch i slot is) = begin_fetch_sound s s2 i slot sound is
befalls_soundly hashes s s2 sound (commits_fetch k read bytes end is) = commits_fetch_soundly s k read bytes end s2 sound is
befalls_soundly hashes s s2 sound (provides i n need none stand is) = (provision_is_right s i need n s2 sound none stand is).sound
befalls_soundly hashes s s2 sound (fails i need none stand is) = fails_soundly s i need s2 sound none stand is
befalls_soundly hashes s s2 sound (grows i n t was live fits is) = grows_soundly s i n t s2 sound was live fits is
befalls_soundly hashes s s2 sound (enters i size c is) = enters_soundly s i c size s2 sound is
befalls_soundly hashes s s2 sound (exits i is) = exits_soundly s i s2 sound is

follows_soundly : (hashes : List ℕ → ℕ) (s : Space) (n : ℕ) (s2 : Space) → IsSound s → Follows hashes s n s2 → IsSound s2
follows_soundly hashes s zero s2 sound is = subst IsSound (sym is) sound
follows_soundly hashes s (suc n) s2 sound (mid, before, inl last) = befalls_soundly hashes mid s2 (follows_soundly hashes s n mid sound before) last
follows_soundly hashes s (suc n) s2 sound (mid, before, inr (i, j, p, last)) = lends_soundly mid i j p s2 (follows_soundly hashes s n mid sound before) last

pub stays_sound : StaysSound
stays_sound hashes frames slots tax n s follows = follows_soundly hashes (empty_space frames slots tax) n s (empty_sound frames slots tax) follows

pub scans_soundly : ScansSoundly
scans_soundly hashes s [] s2 sound is = (subst IsSound (sym is) sound, ap (λ a. all_bytes a) is)
scans_soundly hashes s (page ∷ pages) s2 sound (hash, answer, mid, its, offer, rest) =
    let next = scans_soundly hashes mid pages s2 (offers_soundly hashes s page.0 page.1 hash answer mid sound offer) rest in
    (next.0, next.1 ∙ offers_quiet hashes s page.0 page.1 hash answer mid offer)
