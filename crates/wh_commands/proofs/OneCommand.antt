-- A line asks for one command at most.
use Rattle.std.proofs.Common.{◌≡◌, ℕ, ℤ, pos, List, [], ◌∷◌, refl, sym, ap, subst, ◌∙◌, true, false}
use Rattle.std.specs.Prelude.{codes, bytes_eq}
use Rattle.std.proofs.lemmas.Slice.Eq.{bytes_eq-Decides}
use Rattle.std.specs.List.{AllZip}
use Rattle.wh_model.specs.declared.ValType.{ValType}
use Rattle.wh_model.specs.declared.ValType.TheVariants.{I32, I64}
use Rattle.wh_host_model.specs.{Params}
use Rattle.wh_script_model.specs.{IsHex, words_of, IsNumber, IsCount, IsBits, Command, keep, load, admit, invoke, drain, refuel, cancel, retry, scan, report, release, verb, AreParams, Follow, AsksCommand}
use Rattle.wh_commands.proofs.Hex.{one_hex}

-- ---- numbers

one_number : (word : List ℕ) (n m : ℤ) → IsNumber word n → IsNumber word m → n ≡ m
one_number word n m p q = p.reads ∙ sym q.reads

one_count : (word : List ℕ) (n m : ℕ) → IsCount word n → IsCount word m → n ≡ m
one_count word n m p q = let e = one_number word (pos n) (pos m) p.0 q.0 in cc

one_bits : (t : ValType) (word : List ℕ) (a b : ℕ) → IsBits t word a → IsBits t word b → a ≡ b
one_bits I32 word a b (n, p, r) (m, q, s) = let e = one_number word n m p q in let f = r.2 in let g = s.2 in cc
one_bits I64 word a b (n, p, r) (m, q, s) = let e = one_number word n m p q in let f = r.2 in let g = s.2 in cc

one_list : {A : Type 0} (R : List ℕ → A → Type 0) → ((word : List ℕ) (x y : A) → R word x → R word y → x ≡ y)
    → (words : List (List ℕ)) (xs ys : List A) → AllZip R words xs → AllZip R words ys → xs ≡ ys
one_list R one [] [] [] p q = refl
one_list R one [] [] (y ∷ ys) p q = absurd q
one_list R one [] (x ∷ xs) ys p q = absurd p
one_list R one (w ∷ ws) [] ys p q = absurd p
one_list R one (w ∷ ws) (x ∷ xs) [] p q = absurd q
one_list R one (w ∷ ws) (x ∷ xs) (y ∷ ys) p q =
    let here = one w x y p.0 q.0 in let rest = one_list R one ws xs ys p.1 q.1 in cc

unfoldable made : (shares min max fuel base salt : ℕ) (inputs : List ℕ) → Params
made a b c d e f g = record { shares = a; min = b; max = c; fuel = d; base = e; salt = f; inputs = g }

same_made : (a b c d e f a2 b2 c2 d2 e2 f2 : ℕ) (g g2 : List ℕ) → a ≡ a2 → b ≡ b2 → c ≡ c2 → d ≡ d2 → e ≡ e2 → f ≡ f2
    → g ≡ g2 → made a b c d e f g ≡ made a2 b2 c2 d2 e2 f2 g2
same_made a b c d e f a2 b2 c2 d2 e2 f2 g g2 p q r s t u v = cc

same_params : (p q : Params) → p.shares ≡ q.shares → p.min ≡ q.min → p.max ≡ q.max → p.fuel ≡ q.fuel
    → p.base ≡ q.base → p.salt ≡ q.salt → p.inputs ≡ q.inputs → p ≡ q
unfolding made
same_params p q a b c d e f g =
    same_made p.shares p.min p.max p.fuel p.base p.salt q.shares q.min q.max q.fuel q.base q.salt p.inputs q.inputs
    a b c d e f g

same_words : (ws : List (List ℕ)) (a b c d e f a2 b2 c2 d2 e2 f2 : List ℕ) (i i2 : List (List ℕ))
    → ws ≡ a ∷ b ∷ c ∷ d ∷ e ∷ f ∷ i → ws ≡ a2 ∷ b2 ∷ c2 ∷ d2 ∷ e2 ∷ f2 ∷ i2
    → (a ≡ a2) × (b ≡ b2) × (c ≡ c2) × (d ≡ d2) × (e ≡ e2) × (f ≡ f2) × (i ≡ i2)
same_words ws a b c d e f a2 b2 c2 d2 e2 f2 i i2 p q = (cc, cc, cc, cc, cc, cc, cc)

count_along : (a b : List ℕ) (n m : ℕ) → a ≡ b → IsCount a n → IsCount b m → n ≡ m
count_along a b n m e p q = one_count b n m (subst (λ w. IsCount w n) e p) q

bits_along : (t : ValType) (a b : List ℕ) (n m : ℕ) → a ≡ b → IsBits t a n → IsBits t b m → n ≡ m
bits_along t a b n m e p q = one_bits t b n m (subst (λ w. IsBits t w n) e p) q

pub one_params : (words : List (List ℕ)) (p q : Params) → AreParams words p → AreParams words q → p ≡ q
one_params words p q a b =
    let e = same_words words a.shares a.min a.max a.fuel a.base a.salt b.shares b.min b.max b.fuel b.base b.salt
    a.inputs b.inputs a.are b.are in
    same_params p q
    (count_along a.shares b.shares p.shares q.shares e.0 a.is_shares b.is_shares)
    (count_along a.min b.min p.min q.min e.1 a.is_min b.is_min)
    (count_along a.max b.max p.max q.max e.2 a.is_max b.is_max)
    (count_along a.fuel b.fuel p.fuel q.fuel e.3 a.is_fuel b.is_fuel)
    (bits_along I32 a.base b.base p.base q.base e.4 a.is_base b.is_base)
    (bits_along I64 a.salt b.salt p.salt q.salt e.5 a.is_salt b.is_salt)
    (one_list (IsBits I64) (one_bits I64) b.inputs p.inputs q.inputs
    (subst (λ ws. AllZip (IsBits I64) ws p.inputs) e.6 a.are_inputs) b.are_inputs)

-- ---- by the first word

apart : (a b : List ℕ) → a ≡ b → bytes_eq a b ≡ false → ⊥
apart a b e f = let t : bytes_eq a b ≡ true = (bytes_eq-Decides a b).1 e in absurd (cc (t, f))

-- a line's first word is the verb of what it asks for, and the others are what follows it
pub by_line : (line first : List ℕ) (words : List (List ℕ)) → words_of line ≡ first ∷ words → (c : Command)
    → AsksCommand line c → (verb c ≡ first) × Follow c words
by_line line first words e c a =
    let heads : verb c ≡ first = cc (e, a.1) in
    let tails : a.0 ≡ words = cc (e, a.1) in
    (heads, subst (Follow c) tails a.2)

pub by_keep : (words : List (List ℕ)) (P : Command → Type 0) → ((n b : List ℕ) → Follow (keep n b) words → P (keep n b))
    → (c : Command) → verb c ≡ codes "module" → Follow c words → P c
by_keep words P h (keep n b) e f = h n b f
by_keep words P h c e f = absurd (apart (verb c) (codes "module") e refl)

pub by_load : (words : List (List ℕ)) (P : Command → Type 0) → ((n b : List ℕ) → Follow (load n b) words → P (load n b))
    → (c : Command) → verb c ≡ codes "load" → Follow c words → P c
by_load words P h (load n b) e f = h n b f
by_load words P h c e f = absurd (apart (verb c) (codes "load") e refl)

pub by_admit : (words : List (List ℕ)) (P : Command → Type 0)
    → ((i o : List ℕ) (p : Params) → Follow (admit i o p) words → P (admit i o p))
    → (c : Command) → verb c ≡ codes "admit" → Follow c words → P c
by_admit words P h (admit i o p) e f = h i o p f
by_admit words P h c e f = absurd (apart (verb c) (codes "admit") e refl)

pub by_invoke : (words : List (List ℕ)) (P : Command → Type 0)
    → ((i x : List ℕ) (n : ℕ) (args : List ℤ) → Follow (invoke i x n args) words → P (invoke i x n args))
    → (c : Command) → verb c ≡ codes "invoke" → Follow c words → P c
by_invoke words P h (invoke i x n args) e f = h i x n args f
by_invoke words P h c e f = absurd (apart (verb c) (codes "invoke") e refl)

pub by_drain : (words : List (List ℕ)) (P : Command → Type 0) → (Follow drain words → P drain)
    → (c : Command) → verb c ≡ codes "drain" → Follow c words → P c
by_drain words P h drain e f = h f
by_drain words P h c e f = absurd (apart (verb c) (codes "drain") e refl)

pub by_refuel : (words : List (List ℕ)) (P : Command → Type 0)
    → ((i : List ℕ) (n : ℕ) → Follow (refuel i n) words → P (refuel i n))
    → (c : Command) → verb c ≡ codes "refuel" → Follow c words → P c
by_refuel words P h (refuel i n) e f = h i n f
by_refuel words P h c e f = absurd (apart (verb c) (codes "refuel") e refl)

pub by_cancel : (words : List (List ℕ)) (P : Command → Type 0) → ((i : List ℕ) → Follow (cancel i) words → P (cancel i))
    → (c : Command) → verb c ≡ codes "cancel" → Follow c words → P c
by_cancel words P h (cancel i) e f = h i f
by_cancel words P h c e f = absurd (apart (verb c) (codes "cancel") e refl)

pub by_retry : (words : List (List ℕ)) (P : Command → Type 0) → ((i : List ℕ) → Follow (retry i) words → P (retry i))
    → (c : Command) → verb c ≡ codes "retry" → Follow c words → P c
by_retry words P h (retry i) e f = h i f
by_retry words P h c e f = absurd (apart (verb c) (codes "retry") e refl)

pub by_scan : (words : List (List ℕ)) (P : Command → Type 0) → (Follow scan words → P scan)
    → (c : Command) → verb c ≡ codes "scan" → Follow c words → P c
by_scan words P h scan e f = h f
by_scan words P h c e f = absurd (apart (verb c) (codes "scan") e refl)

pub by_report : (words : List (List ℕ)) (P : Command → Type 0) → (Follow report words → P report)
    → (c : Command) → verb c ≡ codes "report" → Follow c words → P c
by_report words P h report e f = h f
by_report words P h c e f = absurd (apart (verb c) (codes "report") e refl)

pub by_release : (words : List (List ℕ)) (P : Command → Type 0)
    → ((i : List ℕ) → Follow (release i) words → P (release i))
    → (c : Command) → verb c ≡ codes "release" → Follow c words → P c
by_release words P h (release i) e f = h i f
by_release words P h c e f = absurd (apart (verb c) (codes "release") e refl)

-- ---- one command

same_three : (ws : List (List ℕ)) (a b c d : List ℕ) (l m : List (List ℕ)) → ws ≡ a ∷ b ∷ l → ws ≡ c ∷ d ∷ m
    → (a ≡ c) × (b ≡ d) × (l ≡ m)
same_three ws a b c d l m p q = (cc, cc, cc)

same_one : (ws : List (List ℕ)) (a b : List ℕ) → ws ≡ a ∷ [] → ws ≡ b ∷ [] → a ≡ b
same_one ws a b p q = cc

same_cons : (a b : List ℕ) (l m : List (List ℕ)) → a ∷ l ≡ b ∷ m → (a ≡ b) × (l ≡ m)
same_cons a b l m e = (cc, cc)

pub one_follows : (words : List (List ℕ)) (c d : Command) → Follow c words → verb d ≡ verb c → Follow d words → c ≡ d
one_follows words (keep n b) d p = λ e q. by_keep words (λ d. keep n b ≡ d) (λ n2 b2 f.
    let s = same_three words n p.0 n2 f.0 [] [] p.1 f.1 in
    let bytes = one_hex f.0 b b2 (subst (λ w. IsHex w b) s.1 p.4) f.4 in let name = s.0 in cc) d e q
one_follows words (load n b) d p = λ e q. by_load words (λ d. load n b ≡ d) (λ n2 b2 f.
    let s = same_three words n b n2 b2 [] [] p.0 f.0 in let name = s.0 in let path = s.1 in cc) d e q
one_follows words (admit i o r) d p = λ e q. by_admit words (λ d. admit i o r ≡ d) (λ i2 o2 r2 f.
    let s = same_three words i o i2 o2 p.0 f.0 p.1 f.1 in let inst = s.0 in let of = s.1 in
    let given = one_params f.0 r r2 (subst (λ ws. AreParams ws r) s.2 p.4) f.4 in cc) d e q
one_follows words (invoke i x n args) d p = λ e q. by_invoke words (λ d. invoke i x n args ≡ d) (λ i2 x2 n2 args2 f.
    let s = same_three words i x i2 x2 (p.0 ∷ p.1) (f.0 ∷ f.1) p.2 f.2 in let inst = s.0 in let export = s.1 in
    let t = same_cons p.0 f.0 p.1 f.1 s.2 in
    let given = one_list IsNumber one_number f.1 args args2 (subst (λ ws. AllZip IsNumber ws args) t.1 p.6) f.6 in cc) d e q
one_follows words drain d p = λ e q. by_drain words (λ d. drain ≡ d) (λ f. refl) d e q
one_follows words (refuel i n) d p = λ e q. by_refuel words (λ d. refuel i n ≡ d) (λ i2 n2 f.
    let s = same_three words i p.0 i2 f.0 [] [] p.1 f.1 in let inst = s.0 in
    let fuel = count_along p.0 f.0 n n2 s.1 p.3 f.3 in cc) d e q
one_follows words (cancel i) d p = λ e q. by_cancel words (λ d. cancel i ≡ d) (λ i2 f. ap cancel (same_one words i i2 p.0 f.0)) d e q
one_follows words (retry i) d p = λ e q. by_retry words (λ d. retry i ≡ d) (λ i2 f. ap retry (same_one words i i2 p.0 f.0)) d e q
one_follows words scan d p = λ e q. by_scan words (λ d. scan ≡ d) (λ f. refl) d e q
one_follows words report d p = λ e q. by_report words (λ d. report ≡ d) (λ f. refl) d e q
one_follows words (release i) d p = λ e q. by_release words (λ d. release i ≡ d) (λ i2 f. ap release (same_one words i i2 p.0 f.0)) d e q

pub one_command : (line : List ℕ) (c d : Command) → AsksCommand line c → AsksCommand line d → c ≡ d
one_command line c d p q = let r = by_line line (verb c) p.0 p.1 d q in one_follows p.0 c d p.2 r.0 r.1
