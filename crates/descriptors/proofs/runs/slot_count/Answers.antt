use Rattle.std.proofs.Common.{◌^◌, ◌-◌, sym, ap, ◌∙◌}
use Rattle.descriptors.specs.Runs.{at_most, slots_of_all}
use Rattle.descriptors.proofs.LongestRuns.{length-slots}
use Rattle.descriptors.proofs.runs.slot_count.Goals as goal

pub returns : goal.returns
returns c = c.count_of.ensures ∙ ap (at_most (2 ^ 64 - 1))
    (ap slots_of_all c.as_slice.ensures ∙ sym (length-slots c.args.runs.now))
