use Rattle.std.proofs.Common.{◌↔◌}
use Rattle.toml.specs.View.{members_view}
use Rattle.wh_settings.specs.Spelled.{HasKnownKeys}
use Rattle.wh_settings.proofs.words.has_known_keys.Given as goal

abbrev pub invariant-loop-key : goal.invariant-loop-key
invariant-loop-key l =
    (goal.iterator-loop-key).can_next l.key-iterator × (goal.iterator-loop-key).is_finite l.key-iterator
    × (HasKnownKeys (members_view l.key-iterator) ↔ HasKnownKeys (members_view l.table.entries))
