-- A copy of an instance represents what the instance does.
use Rattle.std.proofs.Common.{◌≡◌, ℕ, List, [], ◌∷◌, length, None, refl, sym, ap, ◌∙◌, arith}
use Rattle.wh_model.specs.Validity.Typing.{Context}
use Rattle.wh_model.specs.Execution.Store.{Instance, Store}
use Rattle.wh_host_model.specs.Host.{Rest, Doing, Tenant}
use Rattle.wh_host_model.specs.{Entry}
use Rattle.wh_imports.specs.LinkedState.{LinkedState}
use Rattle.wh_control.specs.declared.store.Store as code_store
use Rattle.wh_control.specs.Storage.{RepresentsStore}
use Rattle.wh_journal.specs.Calls.{JournalCallState}
use Rattle.wh_machine.specs.CallStates.{Setting}
use Rattle.wh_instance.specs.Tenancy.{HostInstanceState, IsTenant, IsWhere, RepresentsEach, byte_setting, is_faced, is_under_way, rests, writes}
use Rattle.wh_instance.specs.CopiedInstances.{HasSameItems}

same_store :
    (c : Context) (inst : Instance) (k k2 : code_store.Store) (flat : List ℕ) (most : ℕ) (s : Store)
    → RepresentsStore c inst k flat most s → HasSameItems k k2 → RepresentsStore c inst k2 flat most s
same_store c inst k k2 flat most s r same = record {
  bytes = r.bytes;
  limit = r.limit;
  globals = r.globals ∙ sym same.globals;
  global_types = r.global_types;
  globals_fit = r.globals_fit;
  table = r.table ∙ sym same.table;
  named = r.named;
  inputs = r.inputs ∙ sym same.inputs;
  output = r.output ∙ sym same.output;
  small = (let small = r.small in let e = ap (length {A = ℕ}) same.output in omega (arith, small, e));
  room = same.room;
}

-- without an open call it rests
pub none_open : (cs : List JournalCallState) (es : List Entry) → cs ≡ [] → RepresentsEach cs es → es ≡ []
none_open [] [] e h = refl
none_open [] (x ∷ es) e h = absurd h
none_open (c ∷ cs) es e h = absurd (cc e)

pub none_open_here : (cs : List JournalCallState) (es : List Entry) → es ≡ [] → RepresentsEach cs es → cs ≡ []
none_open_here [] es e h = refl
none_open_here (c ∷ cs) [] e h = absurd h
none_open_here (c ∷ cs) (x ∷ es) e h = absurd (cc e)

rests_too :
    {M : Type 0} (w : Setting M) (x x2 : HostInstanceState) (m : M) (inst : Instance) (r : Rest) (d : Doing)
    (es : List Entry) → es ≡ [] → x2.progress ≡ x.progress → IsWhere w x m inst r d es → IsWhere w x2 m inst r d es
rests_too w x x2 m inst r d es none same (rests at) = rests (same ∙ at)
rests_too w x x2 m inst r d es none same (writes a b c f g h) = absurd (cc none)
rests_too w x x2 m inst r d es none same (is_faced a b) = absurd (cc none)
rests_too w x x2 m inst r d es none same (is_under_way a b c) = absurd (cc none)

pub copied_tenant :
    (l : LinkedState) (limit : ℕ) (x x2 : HostInstanceState) (bytes : List ℕ) (t : Tenant) → x.journal.open_calls ≡ []
    → HasSameItems x.store x2.store → x2.progress ≡ x.progress
    → x2.journal ≡ record { ended = x.journal.ended; open_calls = [] } → x2.waiting_for ≡ None → x2.dead ≡ x.dead
    → IsTenant l limit x bytes t
    → IsTenant l limit x2 bytes (record t { copied = length t.ended; waiting_for = None })
copied_tenant l limit x x2 bytes t idle same progress journal waits dead rep =
    let around = rep.store.1 in
    let none = none_open x.journal.open_calls t.open_calls idle rep.open_calls in
    record {
      store = (
        rep.store.0,
        record {
          instance = around.instance;
          store = same_store rep.store.0 t.inst x.store x2.store bytes limit _ around.store same;
        },
      );
      ended = rw journal rep.ended;
      open_calls = rw (journal, none) tt;
      is_where = rests_too (byte_setting l limit) x x2 bytes t.inst t.rest t.doing t.open_calls none progress rep.is_where;
      waiting = rep.waiting;
      counted = rep.counted;
      waiting_for = rw waits refl;
      fresh = λ at. waits;
      dead = dead ∙ rep.dead;
    }
