use Rattle.std.proofs.Common.{◌≤◌, ◌+◌, ◌*◌, ◌^◌, ◌<◌, ◌++◌, eqb, length}
use Rattle.std.specs.Option.{is_some}
use Rattle.gv_core.specs.Tree.{view}
use Rattle.gv_core.specs.Node.{kinds_of}
use Rattle.gv_core.specs.Measure.{fixed}
use Rattle.gv_core.specs.Layout.{members, rows, nests, nest}
use Rattle.gv_core.specs.Gives.{views}
use Rattle.gv_core.proofs.Lengths.{Spans, CellSpans}
use Rattle.gv_core.proofs.measuring.+length.Given as goal

abbrev pub invariant-array_length-loop-item : goal.invariant-array_length-loop-item
invariant-array_length-loop-item l = record { deep : nest (views l.left) ≤ nest (views l.items); small : l.end < 2 ^ 64; kept : Spans l.kind (is_some (fixed l.kind)) l.end (length l.left) (length l.items) (rows (views l.left) l.kind) (rows (views l.items) l.kind) }

abbrev pub decreases-array_length-loop-item : goal.decreases-array_length-loop-item
decreases-array_length-loop-item l = length l.left

abbrev pub invariant-members_length-loop-kind : goal.invariant-members_length-loop-kind
invariant-members_length-loop-kind l = record {
  deep : nest (views (l.items_left ++ l.more_items_left)) ≤ nest (views (l.items ++ l.more_items));
  room : l.count + length (l.kinds_left ++ l.more_kinds_left) ≤ length (l.kinds ++ l.more_kinds);
  kept : CellSpans l.end l.count (eqb (length (l.kinds_left ++ l.more_kinds_left)) 0) (members (views (l.items_left ++ l.more_items_left)) (kinds_of (l.kinds_left ++ l.more_kinds_left))) (members (views (l.items ++ l.more_items)) (kinds_of (l.kinds ++ l.more_kinds)));
}

abbrev pub decreases-members_length-loop-kind : goal.decreases-members_length-loop-kind
decreases-members_length-loop-kind l = length (l.kinds_left ++ l.more_kinds_left)

abbrev pub decreases-length_of : goal.decreases-length_of
decreases-length_of l = 2 * nests (view l.value.now)

abbrev pub decreases-array_length : goal.decreases-array_length
decreases-array_length l = 2 * nest (views l.items.now) + 1

abbrev pub decreases-members_length : goal.decreases-members_length
decreases-members_length l = 2 * nest (views (l.items.now ++ l.more_items.now)) + 1

abbrev pub decreases-just_length : goal.decreases-just_length
decreases-just_length l = 2 * nests (view l.item.now) + 1

abbrev pub decreases-variant_length : goal.decreases-variant_length
decreases-variant_length l = 2 * nests (view l.item.now) + 1
