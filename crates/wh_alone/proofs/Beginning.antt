-- What an instance over a flat memory begins with.
use Rattle.std.proofs.Common.{◌≡◌, ℕ, ◌*◌, List, [], ◌∷◌, length, map, replicate, refl, sym, ap, subst, ◌∙◌}
use Rattle.std.proofs.lemmas.List.{length-replicate}
use Rattle.wh_model.specs.Format.Syntax as model
use Rattle.wh_model.specs.Validity.{Context}
use Rattle.wh_model.specs.Execution.Store.{Instance, Store}
use Rattle.wh_model.specs.Execution.{Parameters, Within, fragments, first_size, with_pieces}
use Rattle.wh_model.proofs.Fragments.{fragments_write}
use Rattle.wh_syntax.specs.declared.module.Data.{Data}
use Rattle.wh_syntax.specs.View.{view_module, view_data}
use Rattle.wh_bodies.specs.View.{view_side}
use Rattle.wh_validate.specs.CheckedBodies.{IsChecked}
use Rattle.wh_imports.specs.LinkedState.{LinkedState}
use Rattle.wh_imports.specs.Resolving.{IsResolved}
use Rattle.wh_control.specs.declared.store.Store as code_store
use Rattle.wh_control.specs.Storage.{RepresentsStore}
use Rattle.wh_machine.specs.MachineRuns.{linked_parts, RepresentsInstance}
use Rattle.wh_initial.proofs.Instances.{instance_of}
use Rattle.wh_initial.specs.declared.outcome.Instantiated.{Instantiated}
use Rattle.wh_initial.specs.Begins.{Instantiates, first_store}
use Rattle.wh_alone.specs.ModuleCalls.{ArePieces, written_over}
use Rattle.wh_alone.proofs.Lists.{with_pieces_bytes}

inits_of : (segments : List Data) → map (λ (d : model.Data). d.init) (map view_data segments) ≡ map (λ (d : Data). d.init.items) segments
inits_of [] = refl
inits_of (d ∷ segments) = ap (λ z. d.init.items ∷ z) (inits_of segments)

-- the segments and their places are the pieces that instantiation has
pub pieces_ready : (l : LinkedState) (p : Parameters) (i : Instantiated) (b : Instantiates (view_module l.valid.decoded) p i) (segments : List Data) (places flat : List ℕ) → segments ≡ l.valid.decoded.segments.items → places ≡ i.places.items → flat ≡ replicate (i.pages * 65536) 0
    → ArePieces b.segments places segments × Within (length flat) b.segments
pieces_ready l p i b segments places flat segs at zeros = (
  (b.places ∙ sym at, b.bytes ∙ inits_of l.valid.decoded.segments.items ∙ ap (map (λ (d : Data). d.init.items)) (sym segs)),
  subst (λ n. Within n b.segments) (ap (λ n. n * 65536) (sym b.pages) ∙ sym (length-replicate (i.pages * 65536) 0) ∙ ap length (sym zeros)) b.segments_within,
)

-- a store with other bytes
other_bytes : {c : Context} {inst : Instance} {k : code_store.Store} {flat : List ℕ} {most : ℕ} {s : Store} (flat2 : List ℕ) → RepresentsStore c inst k flat most s → RepresentsStore c inst k flat2 most (record s { bytes = flat2 })
other_bytes flat2 st = record {
  bytes = refl;
  limit = st.limit;
  globals = st.globals;
  global_types = st.global_types;
  globals_fit = st.globals_fit;
  table = st.table;
  named = st.named;
  inputs = st.inputs;
  output = st.output;
  small = st.small;
  room = st.room;
}

-- with the data segments written it represents the store that instantiation ends with
pub stands_written : (l : LinkedState) (sound : IsChecked (view_module l.valid.decoded) (map view_side l.valid.tables)) → IsResolved (view_module l.valid.decoded) l.funcs l.globals → (p : Parameters) (i : Instantiated) (b : Instantiates (view_module l.valid.decoded) p i) (flat flat2 : List ℕ)
    → flat ≡ replicate (i.pages * 65536) 0 → flat2 ≡ written_over flat b.segments
    → RepresentsInstance (linked_parts l) i.store flat2 i.page_limit sound.context b.inst (with_pieces (first_store (view_module l.valid.decoded) p b.globals b.elements) (fragments b.segments))
stands_written l sound resolved p i b flat flat2 zeros written =
    let m = view_module l.valid.decoded in
    let s = first_store m p b.globals b.elements in
    let within : Within (length s.bytes) b.segments = subst (λ n. Within n b.segments) (sym (length-replicate (first_size m.memories * 65536) 0)) b.segments_within in
    let begun = b.represents sound.context sound.valid.context in
    let same : flat ≡ s.bytes = zeros ∙ ap (λ n. replicate (n * 65536) 0) b.pages in
    let all : flat2 ≡ written_over s.bytes b.segments = written ∙ ap (λ z. written_over z b.segments) same in
    let whole : with_pieces s (fragments b.segments) ≡ record s { bytes = flat2 } = fragments_write s b.segments within ∙ with_pieces_bytes s b.segments ∙ ap (λ z. let t : Store = record s { bytes = z } in t) (sym all) in
    record {
      instance = instance_of l sound resolved p b.inst b.globals b.elements b.segments b.prepares;
      store = subst (λ z. RepresentsStore sound.context b.inst i.store flat2 i.page_limit z) (sym whole) (other_bytes flat2 begun);
    }
