-- An instance begins alike with any quota that lets its memory grow just as far.
use Rattle.std.proofs.Common.{◌≡◌, ℕ, ◌*◌, ◌≤◌, inl, inr, List, [], ◌∷◌, replicate, None, refl, sym, ap, subst, ◌∙◌, rules}
use Rattle.std.proofs.lemmas.Bool.{cases_lt}
use Rattle.wh_model.specs.Format.{FuncType, Import, Module}
use Rattle.wh_model.specs.Execution.Store.{Instance, Store}
use Rattle.wh_model.specs.Execution.{FuncInst, Value, AreGiven, Beginning, Imported, ImportsGlobal, IsInitial, Parameters, Piece, Prepares, begins, filled, first_size, fragments, in_bounds, last_size, memory_min, needs_more, out_of_bounds}

-- what another quota leaves of what instantiation is given
pub record SameLimit (m : Module) (p p2 : Parameters) (inst : Instance) : Type 0 where
  pub base : p2.base ≡ p.base
  pub salt : p2.salt ≡ p.salt
  pub inputs : p2.inputs ≡ p.inputs
  pub limit : last_size m.memories p2.page_limit ≡ inst.page_limit
  pub small : ¬ (IsInitial m p2 memory_min)

pub given_still : {m : Module} {p p2 : Parameters} {inst : Instance} → AreGiven p → SameLimit m p p2 inst → AreGiven p2
given_still {p = p} {p2 = p2} given same = search rules

global_still : (p p2 : Parameters) (i : Import) (v : Value) → p2.base ≡ p.base → p2.salt ≡ p.salt → ImportsGlobal p i v → ImportsGlobal p2 i v
global_still p p2 i v base salt (from, inl (name, desc, is)) = (from, inl (name, desc, rw base is))
global_still p p2 i v base salt (from, inr (name, desc, is)) = (from, inr (name, desc, rw salt is))

imported_still : (types : List FuncType) (p p2 : Parameters) (is : List Import) (fs : List FuncInst) (vs : List Value) → p2.base ≡ p.base → p2.salt ≡ p.salt → Imported types p is fs vs → Imported types p2 is fs vs
imported_still types p p2 [] fs vs base salt h = h
imported_still types p p2 (i ∷ is) fs vs base salt (inl (f, rest, one, same, more)) = inl (f, rest, one, same, imported_still types p p2 is rest vs base salt more)
imported_still types p p2 (i ∷ is) fs vs base salt (inr (v, rest, one, same, more)) = inr (v, rest, global_still p p2 i v base salt one, same, imported_still types p p2 is fs rest base salt more)

prepared_still : (m : Module) (p p2 : Parameters) (inst : Instance) (globals : List Value) (elements segments : List Piece) → Prepares m p inst globals elements segments
    → p2.base ≡ p.base → p2.salt ≡ p.salt → inst.page_limit ≡ last_size m.memories p2.page_limit → Prepares m p2 inst globals elements segments
prepared_still m p p2 inst globals elements segments pr base salt limit = search (rules, imported_still)

fits_still : (m : Module) (p2 : Parameters) → ¬ (IsInitial m p2 memory_min) → first_size m.memories ≤ p2.page_limit
fits_still m p2 small = elim (cases_lt p2.page_limit (first_size m.memories)) [
  | inl less ↦ absurd (small (needs_more less))
  | inr most ↦ most
]

limit_of : Beginning → ℕ → ℕ
limit_of (begins inst s ps) n = inst.page_limit
limit_of other n = n

moved : (m : Module) (p p2 : Parameters) (inst : Instance) (s : Store) (ps : List Piece) (b : Beginning) → IsInitial m p b → b ≡ begins inst s ps → SameLimit m p p2 inst → IsInitial m p2 b
unfolding limit_of
moved m p p2 inst s ps b (needs_more lt) e same = absurd (cc e)
moved m p p2 inst s ps b (out_of_bounds le pr never) e same = absurd (cc e)
moved m p p2 inst s ps b (in_bounds {inst = inst2} {globals = globals} {elements = elements} {segments = segments} le pr e1 e2) e same =
    let at_it : inst2.page_limit ≡ inst.page_limit = ap (λ z. limit_of z 0) e in
    let now : IsInitial m p2 (begins inst2 (record {
      bytes = replicate (first_size m.memories * 65536) 0;
      globals = globals;
      table = filled (replicate (Rattle.wh_model.specs.Execution.Instance.first_size m.tables) None) elements;
      inputs = p2.inputs;
      output = [];
    }) (fragments segments)) = in_bounds (fits_still m p2 same.small) (prepared_still m p p2 inst2 globals elements segments pr same.base same.salt (at_it ∙ sym same.limit)) e1 e2 in
    subst (λ z. IsInitial m p2 (begins inst2 (record {
      bytes = replicate (first_size m.memories * 65536) 0;
      globals = globals;
      table = filled (replicate (Rattle.wh_model.specs.Execution.Instance.first_size m.tables) None) elements;
      inputs = z;
      output = [];
    }) (fragments segments))) same.inputs now

pub initial_still : (m : Module) (p p2 : Parameters) (inst : Instance) (s : Store) (ps : List Piece) → IsInitial m p (begins inst s ps) → SameLimit m p p2 inst → IsInitial m p2 (begins inst s ps)
initial_still m p p2 inst s ps is same = moved m p p2 inst s ps (begins inst s ps) is refl same

limit_at : (m : Module) (p : Parameters) (inst : Instance) (s : Store) (ps : List Piece) (b : Beginning) → IsInitial m p b → b ≡ begins inst s ps → inst.page_limit ≡ last_size m.memories p.page_limit
unfolding limit_of
limit_at m p inst s ps b (needs_more lt) e = absurd (cc e)
limit_at m p inst s ps b (out_of_bounds le pr never) e = absurd (cc e)
limit_at m p inst s ps b (in_bounds {inst = inst2} le pr e1 e2) e = sym (ap (λ z. limit_of z 0) e) ∙ pr.page_limit

-- how far a memory may grow is what the parameters allow
pub limit_is : (m : Module) (p : Parameters) (inst : Instance) (s : Store) (ps : List Piece) → IsInitial m p (begins inst s ps) → inst.page_limit ≡ last_size m.memories p.page_limit
limit_is m p inst s ps is = limit_at m p inst s ps (begins inst s ps) is refl
