use Rattle.std.proofs.Common.{refl, sym}
use Rattle.std.proofs.lemmas.List.{length-replicate}
use Rattle.wh_content.specs.Counts.{is_shared, sharers_in}
use Rattle.wh_content.proofs.Summing.{none_plain, plain_small}
use Rattle.wh_content.proofs.counted_marks.CountedMarks.new.Goals as goal

pub invariant_of-result : goal.invariant_of-result
invariant_of-result c =
    rw (c.in_ok-marks.ensures) (record {
      few = simp length-replicate c.ranges.frames.fits;
      small = plain_small c.args.frames;
      shared = sym (none_plain is_shared c.args.frames refl);
      sharers = sym (none_plain sharers_in c.args.frames refl);
    })
