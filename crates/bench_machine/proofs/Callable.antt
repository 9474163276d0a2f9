-- An instance over any bytes of its memory.
use Rattle.std.proofs.Common.{◌≡◌, ℕ, List, map, refl, sym, subst}
use Rattle.wh_model.specs.Validity.{Context}
use Rattle.wh_model.specs.Execution.Store.{Instance, Store}
use Rattle.wh_model.specs.Execution.{Parameters}
use Rattle.wh_syntax.specs.View.{view_module}
use Rattle.wh_bodies.specs.View.{view_side}
use Rattle.wh_validate.specs.CheckedBodies.{IsChecked}
use Rattle.wh_imports.specs.LinkedState.{LinkedState}
use Rattle.wh_imports.specs.Resolving.{IsResolved}
use Rattle.wh_control.specs.declared.store.Store as code_store
use Rattle.wh_control.specs.Storage.{RepresentsStore}
use Rattle.wh_machine.specs.MachineRuns.{linked_parts, RepresentsInstance}
use Rattle.wh_initial.proofs.Instances.{instance_of}
use Rattle.wh_initial.specs.declared.outcome.Instantiated.{Instantiated}
use Rattle.wh_initial.specs.Begins.{Instantiates, first_store}

-- a store with other bytes
other_bytes : {c : Context} {inst : Instance} {k : code_store.Store} {flat : List ℕ} {most : ℕ} {s : Store} (flat2 : List ℕ) → RepresentsStore c inst k flat most s → RepresentsStore c inst k flat2 most (record s { bytes = flat2 })
other_bytes flat2 st = record {
  bytes = refl;
  limit = st.limit;
  globals = st.globals;
  global_types = st.global_types;
  globals_fit = st.globals_fit;
  table = st.table;
  named = st.named;
  inputs = st.inputs;
  output = st.output;
  small = st.small;
  room = st.room;
}

-- what instantiation hands out is the store of an instance, with any bytes
pub represented : (l : LinkedState) (sound : IsChecked (view_module l.valid.decoded) (map view_side l.valid.tables)) → IsResolved (view_module l.valid.decoded) l.funcs l.globals → (p : Parameters) (i : Instantiated) (b : Instantiates (view_module l.valid.decoded) p i) (flat : List ℕ) (limit : ℕ)
    → limit ≡ i.page_limit → RepresentsInstance (linked_parts l) i.store flat limit sound.context b.inst (record (first_store (view_module l.valid.decoded) p b.globals b.elements) { bytes = flat })
represented l sound resolved p i b flat limit same =
    let s : Store = first_store (view_module l.valid.decoded) p b.globals b.elements in
    record {
      instance = instance_of l sound resolved p b.inst b.globals b.elements b.segments b.prepares;
      store = subst (λ n. RepresentsStore sound.context b.inst i.store flat n (record s { bytes = flat })) (sym same) (other_bytes flat (b.represents sound.context sound.valid.context));
    }
