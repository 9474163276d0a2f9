-- The data of a module that is spelled by bytes are bytes.
use Rattle.std.proofs.Common.{◌≡◌, ℕ, zero, suc, inl, inr, List, [], ◌∷◌, ◌++◌, length, sym, subst}
use Rattle.std.proofs.lemmas.List.Elements.{recursion_from_All}
use Rattle.std.specs.List.{AllByRecursion}
use Rattle.wh_model.specs.Format.Grammar.{Grammar}
use Rattle.wh_model.specs.Format.{times, u32, vec, vec_up_to, Data, Module, empty_module, most_types, most_imports, most_functions, most_globals, most_exports, most_elements, most_segments, functype, tabletype, limits, global, export, element, segment, codes, part, section, from_end, from_data, from_code, from_elements, from_start, from_exports, from_globals, from_memories, from_tables, from_functions, from_imports, from_types, AreBytes, Spells}
use Rattle.wh_model.specs.Format.Parts.{«import»}
use Rattle.wh_model.specs.Format.Modules.{«module»}
use Rattle.wh_model.specs.Validity.Valid.{Valid}
use Rattle.wh_model.specs.Soundness.{IsByte, HasBytes}
use Rattle.wh_model.specs.Laws.{SpelledHasBytes, AcceptedSoundness}
use Rattle.wh_model.proofs.SoundReplayLemmas.{replay_soundness}

-- what is derived from bytes has the property
abbrev Yields : {A : Type 0} → (A → Type 0) → Grammar A → Type 0
Yields {A} P g = (x : A) (b : List ℕ) → AllByRecursion IsByte b → g.spells x b → P x

parted : (t u b : List ℕ) → b ≡ t ++ u → AllByRecursion IsByte b → AllByRecursion IsByte t × AllByRecursion IsByte u
parted t u b e all = each t u (subst (AllByRecursion IsByte) e all)
  where
    each : (t u : List ℕ) → AllByRecursion IsByte (t ++ u) → AllByRecursion IsByte t × AllByRecursion IsByte u
    each [] u all = (tt, all)
    each (b ∷ t) u all = let rest = each t u all.1 in ((all.0, rest.0), rest.1)

times_yields : {A : Type 0} (P : A → Type 0) (g : Grammar A) → Yields P g → (n : ℕ)
    → Yields (AllByRecursion P) (times n g)
times_yields P g h zero xs b all (is, none) = subst (AllByRecursion P) (sym is) tt
times_yields P g h (suc n) xs b all (x, t, u, e, first, (rest, v, w, e2, later, (is, none))) =
    let cut = parted t u b e all in
    let inner = parted v w u e2 cut.1 in
    subst (AllByRecursion P) (sym is) (h x t cut.0 first, times_yields P g h n rest v inner.0 later)

vec_yields : {A : Type 0} (P : A → Type 0) (g : Grammar A) (limit : ℕ) → Yields P g
    → Yields (AllByRecursion P) (vec_up_to limit g)
vec_yields P g limit h xs b all (n, t, u, e, count, items) = times_yields P g h n xs u (parted t u b e all).1 items

segment_yields : Yields (λ (d : Data). AllByRecursion IsByte d.init) segment
segment_yields d b all (
  x,
  t,
  u,
  e,
  index,
  (offset, t2, u2, e2, constant, (bs, t3, u3, e3, (n, t4, u4, e4, count, (same, length_is)), (is, none))),
) =
    let cut = (parted t3 u3 u2 e3 (parted t2 u2 u e2 (parted t u b e all).1).1).0 in
    subst (λ (d : Data). AllByRecursion IsByte d.init) (sym is)
    (subst (AllByRecursion IsByte) same (parted t4 u4 t3 e4 cut).1)

section_yields : {A : Type 0} (P : A → Type 0) (id : ℕ) (contents : Grammar A) → Yields P contents
    → Yields P (section id contents)
section_yields P id contents h x b all (one, t, u, e, first, (size, t2, u2, e2, count, (length_is, inside))) =
    h x u2 (parted t2 u2 u e2 (parted t u b e all).1).1 inside

-- a section, or none, and what is behind it
part_yields : {A : Type 0} (P : A → Type 0) (id : ℕ) (contents : Grammar A) (put : A → Module)
    (next : Module → Grammar Module) (m : Module) → Yields P contents → ((x : A) → P x → HasBytes (put x)) → HasBytes m
    → ((n : Module) → HasBytes n → Yields HasBytes (next n)) → Yields HasBytes (part id contents put next m)
part_yields P id contents put next m h kept has later y b all (names, t, u, e, customs, inl (x, t2, u2, e2, is, rest)) =
    let cut = parted t2 u2 u e2 (parted t u b e all).1 in
    later (put x) (kept x (section_yields P id contents h x t2 cut.0 is)) y u2 cut.1 rest
part_yields P id contents put next m h kept has later y b all (names, t, u, e, customs, inr rest) =
    later m has y u (parted t u b e all).1 rest

-- one that leaves the data alone
abbrev Any : {A : Type 0} → A → Type 0
Any x = Unit {0}

end_yields : (m : Module) → HasBytes m → Yields HasBytes (from_end m)
unfolding from_end
end_yields m has y b all (names, t, u, e, customs, (is, none, counts)) = subst HasBytes (sym is) has

data_yields : (m : Module) → HasBytes m → Yields HasBytes (from_data m)
unfolding from_data
data_yields m has =
    part_yields (AllByRecursion (λ (d : Data). AllByRecursion IsByte d.init)) 11
    (vec_up_to most_segments segment) _ from_end m
    (vec_yields (λ (d : Data). AllByRecursion IsByte d.init) segment most_segments segment_yields)
    (λ x h. h) has end_yields

code_yields : (m : Module) → HasBytes m → Yields HasBytes (from_code m)
unfolding from_code
code_yields m has =
    part_yields Any 10 (codes (length m.funcs)) _ from_data m (λ x b all s. tt) (λ x h. has) has data_yields

elements_yields : (m : Module) → HasBytes m → Yields HasBytes (from_elements m)
unfolding from_elements
elements_yields m has =
    part_yields Any 9 (vec_up_to most_elements element) _ from_code m (λ x b all s. tt) (λ x h. has) has code_yields

start_yields : (m : Module) → HasBytes m → Yields HasBytes (from_start m)
unfolding from_start
start_yields m has = part_yields Any 8 u32 _ from_elements m (λ x b all s. tt) (λ x h. has) has elements_yields

exports_yields : (m : Module) → HasBytes m → Yields HasBytes (from_exports m)
unfolding from_exports
exports_yields m has =
    part_yields Any 7 (vec_up_to most_exports export) _ from_start m (λ x b all s. tt) (λ x h. has) has start_yields

globals_yields : (m : Module) → HasBytes m → Yields HasBytes (from_globals m)
unfolding from_globals
globals_yields m has =
    part_yields Any 6 (vec_up_to most_globals global) _ from_exports m (λ x b all s. tt) (λ x h. has) has exports_yields

memories_yields : (m : Module) → HasBytes m → Yields HasBytes (from_memories m)
unfolding from_memories
memories_yields m has =
    part_yields Any 5 (vec limits) _ from_globals m (λ x b all s. tt) (λ x h. has) has globals_yields

tables_yields : (m : Module) → HasBytes m → Yields HasBytes (from_tables m)
unfolding from_tables
tables_yields m has =
    part_yields Any 4 (vec tabletype) _ from_memories m (λ x b all s. tt) (λ x h. has) has memories_yields

functions_yields : (m : Module) → HasBytes m → Yields HasBytes (from_functions m)
unfolding from_functions
functions_yields m has =
    part_yields Any 3 (vec_up_to most_functions u32) _ from_tables m (λ x b all s. tt) (λ x h. has) has tables_yields

imports_yields : (m : Module) → HasBytes m → Yields HasBytes (from_imports m)
unfolding from_imports
imports_yields m has =
    part_yields Any 2 (vec_up_to most_imports «import») _ from_functions m (λ x b all s. tt)
    (λ x h. has) has functions_yields

types_yields : (m : Module) → HasBytes m → Yields HasBytes (from_types m)
unfolding from_types
types_yields m has =
    part_yields Any 1 (vec_up_to most_types functype) _ from_imports m (λ x b all s. tt) (λ x h. has) has imports_yields

module_yields : Yields HasBytes «module»
unfolding «module»
module_yields y b all (one, t, u, e, preamble, rest) = types_yields empty_module tt y u (parted t u b e all).1 rest

pub spelled_has_bytes : SpelledHasBytes
unfolding Spells AreBytes
spelled_has_bytes bytes m is = module_yields m bytes (recursion_from_All IsByte bytes is.spelled.0) is.spelled.1

pub accepted_soundness : AcceptedSoundness
unfolding Valid
accepted_soundness bytes m p inst s ps calls z is initial r =
    let c = is.valid.0 in
    let sound = replay_soundness m c p inst s ps calls z is.valid.1
    (spelled_has_bytes bytes m is.is_module) initial r in
    (c, is.valid.1.context, sound.0, sound.1)
