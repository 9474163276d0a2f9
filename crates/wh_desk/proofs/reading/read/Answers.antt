use Rattle.std.proofs.Common.{◌∙◌, drop, length, sym, ap, subst}
use Rattle.std.proofs.lemmas.List.{take_at}
use Rattle.wh_host.specs.HostReads.{ReadsBytes}
use Rattle.wh_host.specs.Hosting.{HostState}
use Rattle.wh_cell.specs.Knowing.{KnownState}
use Rattle.wh_cell.specs.LeftByOwner.{LeftState}
use Rattle.wh_desk.proofs.reading.read.Goals as goal

pub returns-in-Ok-read-clause-device : goal.returns-in-Ok-read-clause-device
returns-in-Ok-read-clause-device g c =
    let r = c.read-read in
    let bytes = take_at r.new.into (drop (length r.new.into) c.resize.new.self.items) c.resize.new.self.len (r.ensures.length ∙ c.deref_mut-2.ensures.len) in (
      record {
        before = c.deref_mut.result.now.device;
        after = r.new.backing.device;
        was = ap (λ (z : LeftState g.row.D.Denot). z.device) c.requires.known ∙ ap (λ (k : KnownState g.row.D.Denot). k.device) r.ensures.agreed;
        is = ap (λ (z : LeftState g.row.D.Denot). z.device) c.sync_owner.ensures.knows ∙ ap (λ (k : KnownState g.row.D.Denot). k.device) (c.sync_owner.ensures.known ∙ r.ensures.knows);
        serves = c.in-Ok-read.ensures.serves;
      },
      λ honest. subst (ReadsBytes c.args.owner.now.host c.args.id c.args.at) (sym bytes)
          (subst (λ (h : HostState). ReadsBytes h c.args.id c.args.at r.new.into) (sym (ap (λ (z : LeftState g.row.D.Denot). z.host) c.requires.known)) (c.in-Ok-read.ensures.reads honest)),
    )
