-- A module with its parameters begins in one way at most.
use Rattle.std.proofs.Common.{◌≡◌, ℕ, List, [], ◌∷◌, ◌++◌, refl, sym, ap, subst, arith, ◌∙◌, ⊎_elim, ◌*◌, None, replicate, rules}
use Rattle.wh_model.specs.declared.host.HostFunc.{HostFunc}
use Rattle.wh_model.specs.declared.host.HostFunc.TheVariants.{Input, Put, Emit}
use Rattle.wh_model.specs.Format.{Code, FuncType, Import, Global, Body, Module}
use Rattle.wh_model.specs.Execution.Store.{Instance}
use Rattle.wh_model.specs.Execution.{Value, FuncInst, host, Parameters, name_of, ImportsFunc, ImportsGlobal, Imported, Defined, Evaluates, Begun, Piece, Placed, Within, first_size, Prepares, Beginning, IsInitial, needs_more, out_of_bounds, in_bounds, begins, fragments, filled}
use Rattle.wh_model.specs.Laws.{OneBeginning}

-- ---- imports

func_of_name : (h k : HostFunc) → name_of h ≡ name_of k → h ≡ k
func_of_name Input Input e = refl
func_of_name Input Put e = absurd (cc e)
func_of_name Input Emit e = absurd (cc e)
func_of_name Put Input e = absurd (cc e)
func_of_name Put Put e = refl
func_of_name Put Emit e = absurd (cc e)
func_of_name Emit Input e = absurd (cc e)
func_of_name Emit Put e = absurd (cc e)
func_of_name Emit Emit e = refl

func_same : (types : List FuncType) (i : Import) (h k : HostFunc) → ImportsFunc types i h → ImportsFunc types i k → h ≡ k
func_same types i h k p q = func_of_name h k (sym p.1 ∙ q.1)

func_or_global : (types : List FuncType) (p : Parameters) (i : Import) (h : HostFunc) (v : Value) → ImportsFunc types i h → ImportsGlobal p i v → ⊥
func_or_global types p i h v x y = ⊎_elim (λ g. let a = x.3 in let b = g.1 in absurd (cc (a, b))) (λ g. let a = x.3 in let b = g.1 in absurd (cc (a, b))) y.1

global_same : (p : Parameters) (i : Import) (v w : Value) → ImportsGlobal p i v → ImportsGlobal p i w → v ≡ w
global_same p i v w x y = search rules

pub imported_same : (types : List FuncType) (p : Parameters) (is : List Import) (fs gs : List FuncInst) (vs ws : List Value) → Imported types p is fs vs → Imported types p is gs ws → (fs ≡ gs) × (vs ≡ ws)
imported_same types p [] fs gs vs ws x y = (x.0 ∙ sym y.0, x.1 ∙ sym y.1)
imported_same types p (i ∷ is) fs gs vs ws x y =
    ⊎_elim
    (λ (a, b, c, d, e). ⊎_elim
    (λ (a2, b2, c2, d2, e2). let r = imported_same types p is b b2 vs ws e e2 in (d ∙ ap (λ k. host k ∷ b) (func_same types i a a2 c c2) ∙ ap (λ k. host a2 ∷ k) r.0 ∙ sym d2, r.1))
    (λ (a2, b2, c2, d2, e2). absurd (func_or_global types p i a a2 c c2)) y)
    (λ (a, b, c, d, e). ⊎_elim
    (λ (a2, b2, c2, d2, e2). absurd (func_or_global types p i a2 a c2 c))
    (λ (a2, b2, c2, d2, e2). let r = imported_same types p is fs gs b b2 e e2 in (r.0, d ∙ ap (λ k. k ∷ b) (global_same p i a a2 c c2) ∙ ap (λ k. a2 ∷ k) r.1 ∙ sym d2)) y)
    x

-- ---- functions, globals and segments

defined_same : (types : List FuncType) (xs : List ℕ) (bs : List Body) (fs gs : List FuncInst) → Defined types xs bs fs → Defined types xs bs gs → fs ≡ gs
defined_same types [] bs fs gs x y = x.1 ∙ sym y.1
defined_same types (n ∷ xs) bs fs gs (t, b, more, rest, at, e, f, r) (t2, b2, more2, rest2, at2, e2, f2, r2) =
    let same : t ≡ t2 = cc (at, at2) in
    let body : b ≡ b2 = cc (e, e2) in
    let later : more ≡ more2 = cc (e, e2) in
    let others = defined_same types xs more2 rest rest2 (subst (λ w. Defined types xs w rest) later r) r2 in
    cc (f, f2, same, body, others)

evaluates_same : (globals : List Value) (e : Code) (v w : Value) → Evaluates globals e v → Evaluates globals e w → v ≡ w
evaluates_same globals e v w x y = search rules

begun_same : (imported : List Value) (gs : List Global) (vs ws : List Value) → Begun imported gs vs → Begun imported gs ws → vs ≡ ws
begun_same imported [] vs ws x y = x ∙ sym y
begun_same imported (g ∷ gs) vs ws (v, rest, x, e, r) (v2, rest2, x2, e2, r2) =
    cc (e, e2, evaluates_same imported g.init v v2 x x2, begun_same imported gs rest rest2 r r2)

placed_same : (globals : List Value) (ss : List (Code × List ℕ)) (ps qs : List Piece) → Placed globals ss ps → Placed globals ss qs → ps ≡ qs
placed_same globals [] ps qs x y = x ∙ sym y
placed_same globals (s ∷ ss) ps qs (n, rest, x, e, r) (n2, rest2, x2, e2, r2) =
    let value_is = evaluates_same globals s.0 _ _ x x2 in
    let same : n ≡ n2 = cc value_is in
    let others = placed_same globals ss rest rest2 r r2 in
    e ∙ ap (λ k. record { at = k; items = s.1 } ∷ rest) same ∙ ap (λ k. record { at = n2; items = s.1 } ∷ k) others ∙ sym e2

-- ---- instantiation

abbrev Same : Instance → Instance → List Value → List Value → List Piece → List Piece → List Piece → List Piece → Type 0
Same inst inst2 gs gs2 es es2 ds ds2 = (inst ≡ inst2) × (gs ≡ gs2) × (es ≡ es2) × (ds ≡ ds2)

instance_same : (a b : Instance) → a.types ≡ b.types → a.funcs ≡ b.funcs → a.page_limit ≡ b.page_limit → a ≡ b
instance_same a b e f g = search rules

prepares_same : (m : Module) (p : Parameters) (inst inst2 : Instance) (gs gs2 : List Value) (es es2 ds ds2 : List Piece) → Prepares m p inst gs es ds → Prepares m p inst2 gs2 es2 ds2 → Same inst inst2 gs gs2 es es2 ds ds2
prepares_same m p inst inst2 gs gs2 es es2 ds ds2 x y = search (rules, imported_same, defined_same, begun_same, instance_same, placed_same)

-- the bounds that are met and those that are passed
bounds_differ : (m : Module) (p : Parameters) (inst inst2 : Instance) (gs gs2 : List Value) (es es2 ds ds2 : List Piece) → Prepares m p inst gs es ds → Prepares m p inst2 gs2 es2 ds2
    → ¬ (Within (first_size m.tables) es × Within (first_size m.memories * 65536) ds) → Within (first_size m.tables) es2 → Within (first_size m.memories * 65536) ds2 → ⊥
bounds_differ m p inst inst2 gs gs2 es es2 ds ds2 x y never q r =
    let same = prepares_same m p inst inst2 gs gs2 es es2 ds ds2 x y in
    never (subst (λ w. Within (first_size m.tables) w) (sym same.2) q, subst (λ w. Within (first_size m.memories * 65536) w) (sym same.3) r)

abbrev stands : Module → Parameters → Instance → List Value → List Piece → List Piece → Beginning
stands m p inst gs es ds = begins inst (record {
  bytes = replicate (first_size m.memories * 65536) 0;
  globals = gs;
  table = filled (replicate (first_size m.tables) None) es;
  inputs = p.inputs;
  output = [];
}) (fragments ds)

initial_same : (m : Module) (p : Parameters) {a b : Beginning} → IsInitial m p a → IsInitial m p b → a ≡ b
initial_same m p (needs_more x) (needs_more y) = refl
initial_same m p (needs_more x) (out_of_bounds q r t) = absurd (omega (arith, x, q))
initial_same m p (needs_more x) (in_bounds q r t u) = absurd (omega (arith, x, q))
initial_same m p (out_of_bounds q r t) (needs_more y) = absurd (omega (arith, y, q))
initial_same m p (out_of_bounds q r t) (out_of_bounds u v w) = refl
initial_same m p (out_of_bounds {inst = i} {globals = gs} {elements = es} {segments = ds} q r t) (in_bounds {inst = j} {globals = gs2} {elements = es2} {segments = ds2} u v w x) =
    absurd (bounds_differ m p i j gs gs2 es es2 ds ds2 r v t w x)
initial_same m p (in_bounds q r t u) (needs_more y) = absurd (omega (arith, y, q))
initial_same m p (in_bounds {inst = j} {globals = gs2} {elements = es2} {segments = ds2} u v w x) (out_of_bounds {inst = i} {globals = gs} {elements = es} {segments = ds} q r t) =
    absurd (bounds_differ m p i j gs gs2 es es2 ds ds2 r v t w x)
initial_same m p (in_bounds {inst = i} {globals = gs} {elements = es} {segments = ds} q r t u) (in_bounds {inst = j} {globals = gs2} {elements = es2} {segments = ds2} q2 r2 t2 u2) =
    let same = prepares_same m p i j gs gs2 es es2 ds ds2 r r2 in
    ap (λ (w : Instance). stands m p w gs es ds) same.0 ∙ ap (λ (w : List Value). stands m p j w es ds) same.1 ∙ ap (λ (w : List Piece). stands m p j gs2 w ds) same.2 ∙ ap (λ (w : List Piece). stands m p j gs2 es2 w) same.3

pub one_beginning : OneBeginning
one_beginning m p a b x y = initial_same m p x y
