use Rattle.std.proofs.Common.{◌+◌, length}
use Rattle.std.specs.Option.{option_copied}
use Rattle.etc_merge.proofs.Merges.{IsMerging}
use Rattle.etc_merge.proofs.merging.merged.Given as goal

abbrev pub invariant-loop-next : goal.invariant-loop-next
invariant-loop-next l = IsMerging l.base l.current l.new l.before l.current_left l.new_left (option_copied l.gone) l.merged

abbrev pub decreases-loop-next : goal.decreases-loop-next
decreases-loop-next l = length l.current_left + length l.new_left
