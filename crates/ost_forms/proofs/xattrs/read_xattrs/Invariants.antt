use Rattle.std.proofs.Common.{map, drop}
use Rattle.ost_forms.specs.Rows.{xattr_form}
use Rattle.ost_forms.proofs.RowLists.{Reading}
use Rattle.ost_forms.proofs.xattrs.read_xattrs.Given as goal

abbrev pub invariant-loop-row : goal.invariant-loop-row
invariant-loop-row l = Reading xattr_form l.xattrs.items (map (λ b. b.now) (drop l.row-index l.row-items)) (map (λ b. b.now) l.row-items)
