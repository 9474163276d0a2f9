use Rattle.std.proofs.Common.{inl, refl, ap, ◌∙◌}
use Rattle.wolqedir.specs.Rooms.{laid_in}
use Rattle.wolqedir.proofs.looking.tell_export.Goals as goal

pub returns-clause-told : goal.returns-clause-told
returns-clause-told c =
    let found = c.in-Some.found in
    inl (
      found.name.now,
      record { params = found.params.now; results = found.results.now },
      refl,
      c.in-Some.ensures.some,
      refl,
      c.lay.ensures.room ∙ ap (λ bytes. laid_in bytes c.args.name.now) c.as_bytes.ensures.value,
      c.lay_bits.ensures,
    )
