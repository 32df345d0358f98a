-- How many objects a tree has at most.
use Rattle.std.proofs.Common.{◌≡◌, ◌≤◌, ◌*◌, List, [], ◌∷◌, length, Option, Some, None, refl, arith}
use Rattle.ost_forms.specs.declared.tree_item.BodySpec.{BodySpec}
use Rattle.ost_forms.specs.declared.tree_item.TreeItem.{TreeItem}
use Rattle.tree_build.specs.Objects.{work}
use Rattle.tree_build.proofs.Works.{work_file, work_folder}

none_work : length (work []) ≡ 0
unfolding work
none_work = refl

one_more : (i : TreeItem) (items : List TreeItem) (b : Option BodySpec) → i.body ≡ b → length (work items) ≤ 2 * length items → length (work (i ∷ items)) ≤ 2 * length (i ∷ items)
one_more i items None e few = omega (arith, work_folder i items e, few)
one_more i items (Some body) e few = omega (arith, work_file i items body e, few)

-- each path has one or two
pub work_few : (items : List TreeItem) → length (work items) ≤ 2 * length items
work_few [] = omega (arith, none_work)
work_few (i ∷ items) = one_more i items i.body refl (work_few items)
