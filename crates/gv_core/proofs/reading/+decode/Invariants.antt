use Rattle.std.proofs.Common.{◌+◌, ◌-◌, ◌*◌, ◌++◌, length, map}
use Rattle.gv_core.specs.Tree.{view}
use Rattle.gv_core.specs.Measure.{fixed}
use Rattle.gv_core.specs.Node.{kinds_of}
use Rattle.gv_core.specs.Reading.{size_for, inner, elements, framed, tuple_at, parse}
use Rattle.gv_core.proofs.Steps.{Members, Framed, Alike}
use Rattle.gv_core.proofs.reading.+decode.Given as goal

abbrev pub invariant-decode_alike-loop-pos : goal.invariant-decode_alike-loop-pos
invariant-decode_alike-loop-pos l = Alike (parse l.depth) (map view l.values.items) l.kind l.bytes l.pos l.size (elements (parse l.depth) l.kind (fixed l.kind) l.bytes)

abbrev pub decreases-decode_alike-loop-pos : goal.decreases-decode_alike-loop-pos
decreases-decode_alike-loop-pos l = length l.bytes - l.pos

abbrev pub invariant-decode_framed-loop : goal.invariant-decode_framed-loop
invariant-decode_framed-loop l = Framed (parse l.depth) (map view l.values.items) l.kind l.bytes l.limit l.pos (l.count - l.counter) l.width l.table (framed (parse l.depth) l.kind l.bytes (size_for (length l.bytes)))

abbrev pub invariant-decode_members-loop-member : goal.invariant-decode_members-loop-member
invariant-decode_members-loop-member l = Members (parse l.depth) (map view l.values.items) (l.front_left ++ l.back_left) l.bytes l.limit l.pos l.table l.width (tuple_at (parse l.depth) (kinds_of (l.front ++ l.back)) l.bytes (size_for (length l.bytes)) (inner (kinds_of (l.front ++ l.back))))

abbrev pub decreases-decode_members-loop-member : goal.decreases-decode_members-loop-member
decreases-decode_members-loop-member l = length (l.front_left ++ l.back_left)

abbrev pub decreases-decode_at : goal.decreases-decode_at
decreases-decode_at l = 4 * l.depth

abbrev pub decreases-decode_members : goal.decreases-decode_members
decreases-decode_members l = 4 * l.depth + 1

abbrev pub decreases-decode_elements : goal.decreases-decode_elements
decreases-decode_elements l = 4 * l.depth + 2

abbrev pub decreases-decode_alike : goal.decreases-decode_alike
decreases-decode_alike l = 4 * l.depth + 1

abbrev pub decreases-decode_framed : goal.decreases-decode_framed
decreases-decode_framed l = 4 * l.depth + 1

abbrev pub decreases-decode_maybe : goal.decreases-decode_maybe
decreases-decode_maybe l = 4 * l.depth + 1

abbrev pub decreases-decode_deep : goal.decreases-decode_deep
decreases-decode_deep l = 4 * l.depth + 3

abbrev pub decreases-decode_variant : goal.decreases-decode_variant
decreases-decode_variant l = 4 * l.depth + 1

abbrev pub decreases-decode_entry : goal.decreases-decode_entry
decreases-decode_entry l = 4 * l.depth + 2
