-- Where an instance is first: at its start function, or behind a start that has none.
use Rattle.std.proofs.Common.{◌≡◌, ◌<◌, ◌^◌, ℕ, suc, get_or, List, [], ◌∷◌, length, Option, Some, None, refl, sym}
use Rattle.std.specs.List.{AllByRecursion}
use Rattle.wh_model.specs.Format.{nothing, Module, FuncType, Body}
use Rattle.wh_model.specs.Execution.Store.{Instance, Store}
use Rattle.wh_model.specs.Execution.{called, config, Parameters, AreGiven, Piece, IsInitial, begins, none_yet, one_more, Call, with_pieces, has_written, Standing, idle, running}
use Rattle.wh_syntax.specs.View.{view_module}
use Rattle.wh_machine.specs.Opening.{IsOwnCall}
use Rattle.wh_alone.specs.InstanceStates.{Kept, HasStore}
use Rattle.wh_alone.specs.Journal.{IsAtStanding}
use Rattle.wh_alone.specs.Stages.{stage_at_first}
use Rattle.wh_alone.specs.FirstStages.{written_start, open_start, IsFresh}

-- ---- what an owner gives

-- numbers that each fit in 64 bits
pub all_fit : (xs : List ℕ) → ((k : ℕ) → get_or xs k 0 < 2 ^ 64) → AllByRecursion (λ n. n < 2 ^ 64) xs
all_fit [] h = tt
all_fit (x ∷ xs) h = (h 0, all_fit xs (λ k. h (suc k)))

-- ---- the first stage

pub record Begun (k : Kept) (m : Module) (p : Parameters) (start : Option ℕ) : Type 0 where
  pub ended : List Call
  pub current : Option Call
  pub z : Standing
  pub is_at : IsAtStanding (record { kept = k; stage = stage_at_first start }) m p ended current z
  pub fresh : IsFresh start ended current

pub begun_at : (k : Kept) (m : Module) (p : Parameters) (inst : Instance) (first : Store) (pieces : List Piece) (start : Option ℕ) → m ≡ view_module k.linked.valid.decoded → AreGiven p → IsInitial m p (begins inst first pieces) → HasStore k inst (with_pieces first pieces)
    → m.start ≡ start → ((x : ℕ) → start ≡ Some x → (type : FuncType) × (body : Body) × (type.params ≡ []) × IsOwnCall inst x [] type body []) → Begun k m p start
begun_at k m p inst first pieces None module_is given initial store none suits = record {
  ended = written_start (length pieces) ∷ [];
  current = None;
  z = idle (with_pieces first pieces);
  is_at = record {
    module_is = module_is;
    given = given;
    journal = record { func = sym none; args = refl; not_dead = λ e. cc; names = tt; behind = tt };
    inst = inst;
    first = first;
    pieces = pieces;
    initial = initial;
    results = ((λ x type body vs e f g. absurd (cc e)), tt);
    s = with_pieces first pieces;
    ps = [];
    past = one_more (has_written refl refl refl refl) none_yet;
    store = store;
    stage = (refl, refl, refl, refl);
  };
  fresh = (length pieces, refl, refl);
}
begun_at k m p inst first pieces (Some x) module_is given initial store some suits =
    let (type, body, none, u) = suits x refl in record {
      ended = [];
      current = Some (open_start x (length pieces));
      z = running (config (with_pieces first pieces) [] (called type body [] [] nothing));
      is_at = record {
        module_is = module_is;
        given = given;
        journal = record { func = sym some; args = refl; not_dead = λ e. cc; names = tt; behind = tt };
        inst = inst;
        first = first;
        pieces = pieces;
        initial = initial;
        results = tt;
        s = first;
        ps = pieces;
        past = none_yet;
        store = store;
        stage = (
          refl,
          open_start x (length pieces),
          refl,
          record {
            at = config (with_pieces first pieces) [] (called type body [] [] nothing);
            stands = refl;
            is_open = refl;
            all_written = refl;
            no_charges = refl;
            no_fuel = refl;
            no_args = refl;
            invocation = record { index = x; type = type; body = body; calls = refl; is_own = u.is_own; types = u.types; fit = tt; begins = refl };
          },
        );
      };
      fresh = (length pieces, refl, refl);
    }
