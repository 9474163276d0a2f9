use Rattle.std.proofs.Common.{◌≡◌, ◌≢◌, ◌≤◌, ◌*◌, List, [], ℕ, length, map, sym, ap, subst, ◌∙◌}
use Rattle.std.specs.Bool.{MatchBool}
use Rattle.wh_model.specs.Execution.{Piece, Within, fragments, first_size}
use Rattle.wh_syntax.specs.declared.module.Data.{Data}
use Rattle.wh_syntax.specs.declared.module.Module.{Module}
use Rattle.wh_syntax.specs.View.{view_module}
use Rattle.wh_bodies.specs.View.{view_side}
use Rattle.wh_validate.specs.CheckedBodies.{IsChecked}
use Rattle.wh_imports.specs.Resolving.{IsResolved}
use Rattle.wh_instance.specs.Pieces.{placed_data, pieces_left}
use Rattle.wh_instance.specs.Beginning.{journal_at_first}
use Rattle.wh_instance.proofs.Newcomers.{segments_are, few_pieces, begins_tenant}
use Rattle.wh_instance.proofs.host_instance.HostInstance.new.Goals as goal

pub returns : goal.returns
returns c p i =
    let l = c.args.linked.now in
    let d = l.valid.decoded in
    let m = view_module d in
    let begun = c.args.begun in
    let same = c.module-module.ensures.same in
    let sound = subst (λ z. IsChecked (view_module z) (map view_side l.valid.tables)) same c.module-module.ensures.sound in
    let resolved = subst (λ z. IsResolved (view_module z) l.funcs l.globals) same c.module-module.ensures.resolved in
    let segments = d.segments.items in
    let cursor = c.first-cursor.result in
    let are = segments_are l p begun i in
    let left : pieces_left segments begun.places.items cursor ≡ fragments i.segments = c.first-cursor.ensures.all segments begun.places.items ∙ ap fragments are in
    let within : Within (first_size m.memories * 65536) (placed_data segments begun.places.items) = subst (Within (first_size m.memories * 65536)) (sym are) i.segments_within in
    let few = subst (λ (z : List Piece). length z ≤ first_size m.memories * 65536 * length segments) left (c.first-cursor.ensures.few segments begun.places.items (first_size m.memories * 65536) within) in
    let start = c.module-module.result.now.start in
    let same_start : m.start ≡ start = sym (ap (λ (z : Module). z.start) same) in
    let has = c.has_pieces-has_pieces.result in
    let seen : c.as_slice.result.now ≡ segments = c.as_slice.ensures.value ∙ ap (λ (z : Module). z.segments.items) same in
    let all : pieces_left c.as_slice.result.now c.deref.result.now cursor ≡ fragments i.segments = ap (λ (z : List Data). pieces_left z c.deref.result.now cursor) seen ∙ ap (λ (z : List ℕ). pieces_left segments z cursor) c.deref.ensures.value ∙ left in
    let decided : MatchBool has (fragments i.segments ≢ []) (fragments i.segments ≡ []) = subst (λ (z : List Piece). MatchBool has (z ≢ []) (z ≡ [])) all c.has_pieces-has_pieces.ensures in
    let h = begins_tenant l p begun i c.args.fuel c.args.machine cursor
    (record { known = record { sound = sound; resolved = resolved }; left = left; few = few_pieces m (length segments) (length (fragments i.segments)) sound.valid.memories c.requires.few few; counted = c.ranges.fuel.fits })
    start same_start has decided in
    let journal = c.in_ok-journal.ensures ∙ ap (λ b. journal_at_first start c.args.fuel b) c.is_over-over.ensures in
    rw (c.first_progress-progress.ensures, journal) h
