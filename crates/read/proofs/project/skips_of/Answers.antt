use Rattle.read.proofs.Tables.{fates_counted}
use Rattle.definition.specs.Task.{context_of}
use Rattle.read.proofs.project.skips_of.Goals as goal

pub returns : goal.returns
unfolding context_of
returns c =
    let n = fates_counted c.requires c.count_fates-fates.ensures in
    record { exceptions = c.skipped.ensures; dangling_is = n.dangling_is; across_is = n.across_is; fractional_is = c.count_fractional.ensures }
