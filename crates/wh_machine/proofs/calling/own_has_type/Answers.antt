use Rattle.std.proofs.Common.{◌≡◌, ◌<◌, Some, length, refl, sym, ap, ◌∙◌, arith}
use Rattle.std.proofs.lemmas.Option.{slice_get_within, slice_get_read}
use Rattle.wh_control.proofs.Standing.{mapped_at}
use Rattle.wh_machine.proofs.SameTypes.{type_matches}
use Rattle.wh_syntax.specs.View.{view_type, view_body}
use Rattle.wh_bodies.specs.View.{view_side, type_at}
use Rattle.std.specs.Prelude.{map}
use Rattle.wh_control.specs.Represents.{Func}
use Rattle.wh_machine.proofs.Lookups.{parts_of, all_of, read_at, type_is, type_there}
use Rattle.wh_machine.proofs.calling.own_has_type.Goals as goal

pub index-requires : goal.index-requires
index-requires c =
    let m = c.args.program.now.module.now in
    let p = parts_of (map view_type m.types.items) m.funcs.items (map view_body m.bodies.items) (map view_side c.args.program.now.tables.now) c.args.func c.requires.there.0 c.requires.there.1 in
    let k = slice_get_within m.funcs.items c.args.func p.x p.x_at in
    omega (arith, k, m.funcs.ok)

pub index-requires-2 : goal.index-requires-2
index-requires-2 c =
    let m = c.args.program.now.module.now in
    let p = parts_of (map view_type m.types.items) m.funcs.items (map view_body m.bodies.items) (map view_side c.args.program.now.tables.now) c.args.func c.requires.there.0 c.requires.there.1 in
    let same = read_at m.funcs.items c.args.func c.index.result.now p.x c.index.ensures p.x_at in
    let k = all_of (λ x. x < length m.types.items) m.funcs.items c.args.func p.x c.requires.named p.x_at in
    omega (arith, k, m.types.ok, same)

pub returns-then-own-type_index : goal.returns-then-own-type_index
returns-then-own-type_index c g at =
    let m = c.args.program.now.module.now in
    let types = map view_type m.types.items in
    let p = parts_of types m.funcs.items (map view_body m.bodies.items) (map view_side c.args.program.now.tables.now) c.args.func g at in
    let same = read_at m.funcs.items c.args.func c.index.result.now p.x c.index.ensures p.x_at in
    let e : p.x ≡ c.args.type_index = sym same ∙ c.if-own-type_index.true in
    type_there m.types.items c.args.type_index c.requires.wanted ∙ ap (λ x. Some (type_at types x)) (sym e) ∙ ap (λ (h : Func). Some h.type) (sym p.is)

pub returns : goal.returns
returns c g at =
    let m = c.args.program.now.module.now in
    let types = map view_type m.types.items in
    let p = parts_of types m.funcs.items (map view_body m.bodies.items) (map view_side c.args.program.now.tables.now) c.args.func g at in
    let same = read_at m.funcs.items c.args.func c.index.result.now p.x c.index.ensures p.x_at in
    let k = all_of (λ x. x < length m.types.items) m.funcs.items c.args.func p.x c.requires.named p.x_at in
    let low : c.index.result.now < length m.types.items = omega (arith, k, same) in
    let own = type_is m.types.items c.index.result.now c.index-2.result.now low c.index-2.ensures in
    let left : view_type c.index-2.result.now ≡ g.type = sym own ∙ ap (type_at types) same ∙ ap (λ (h : Func). h.type) (sym p.is) in
    let right = mapped_at view_type m.types.items c.args.type_index c.index-3.result.now (slice_get_read m.types.items (length m.types.items) c.args.type_index c.index-3.result.now refl c.requires.wanted c.index-3.ensures) in
    type_matches types c.args.type_index (view_type c.index-2.result.now) (view_type c.index-3.result.now) g.type c.same_type.result left right c.same_type.ensures
