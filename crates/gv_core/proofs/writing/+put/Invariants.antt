use Rattle.std.proofs.Common.{◌≤◌, ◌+◌, ◌*◌, ◌++◌, eqb, length}
use Rattle.std.specs.Option.{is_some}
use Rattle.gv_core.specs.Tree.{view}
use Rattle.gv_core.specs.Node.{kinds_of}
use Rattle.gv_core.specs.Measure.{fixed}
use Rattle.gv_core.specs.Layout.{members, rows, nests, nest}
use Rattle.gv_core.specs.Gives.{views}
use Rattle.gv_core.proofs.Pushing.{Rows}
use Rattle.gv_core.proofs.Cells.{Cells}
use Rattle.gv_core.proofs.writing.+put.Given as goal

abbrev pub invariant-put_array-loop-item : goal.invariant-put_array-loop-item
invariant-put_array-loop-item l = record { deep : nest (views l.left) ≤ nest (views l.items); kept : Rows l.kind (is_some (fixed l.kind)) l.initial.out.items l.out.items l.ends.items (rows (views l.left) l.kind) (rows (views l.items) l.kind) }

abbrev pub decreases-put_array-loop-item : goal.decreases-put_array-loop-item
decreases-put_array-loop-item l = length l.left

abbrev pub invariant-put_members-loop-kind : goal.invariant-put_members-loop-kind
invariant-put_members-loop-kind l = record {
  deep : nest (views (l.items_left ++ l.more_items_left)) ≤ nest (views (l.items ++ l.more_items));
  kept : Cells l.initial.out.items l.out.items l.ends.items (eqb (length (l.kinds_left ++ l.more_kinds_left)) 0) (members (views (l.items_left ++ l.more_items_left)) (kinds_of (l.kinds_left ++ l.more_kinds_left))) (members (views (l.items ++ l.more_items)) (kinds_of (l.kinds ++ l.more_kinds)));
}

abbrev pub decreases-put_members-loop-kind : goal.decreases-put_members-loop-kind
decreases-put_members-loop-kind l = length (l.kinds_left ++ l.more_kinds_left)

abbrev pub decreases-put : goal.decreases-put
decreases-put l = 2 * nests (view l.value.now)

abbrev pub decreases-put_array : goal.decreases-put_array
decreases-put_array l = 2 * nest (views l.items.now) + 1

abbrev pub decreases-put_members : goal.decreases-put_members
decreases-put_members l = 2 * nest (views (l.items.now ++ l.more_items.now)) + 1

abbrev pub decreases-put_just : goal.decreases-put_just
decreases-put_just l = 2 * nests (view l.item.now) + 1

abbrev pub decreases-put_variant : goal.decreases-put_variant
decreases-put_variant l = 2 * nests (view l.item.now) + 1
