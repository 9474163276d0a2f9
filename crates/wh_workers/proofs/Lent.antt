-- Parts of the ledgers that are lent to helpers.
use Rattle.std.proofs.Common.{◌≡◌, ◌∙◌, ap}
use Rattle.wh_threads.specs.Counting.{ThreadCountsState}

-- what two steps lend and take back, nothing else has changed
pub only_out_more : (u v w : ThreadCountsState)
    → v ≡ record u { scanners_out = v.scanners_out; reclaimers_out = v.reclaimers_out }
    → w ≡ record v { scanners_out = w.scanners_out; reclaimers_out = w.reclaimers_out }
    → w ≡ record u { scanners_out = w.scanners_out; reclaimers_out = w.reclaimers_out }
only_out_more u v w first second =
    second
    ∙ ap (λ (x : ThreadCountsState). record x { scanners_out = w.scanners_out; reclaimers_out = w.reclaimers_out }) first
