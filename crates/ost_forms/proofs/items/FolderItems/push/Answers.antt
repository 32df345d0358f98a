use Rattle.ost_forms.proofs.ItemLists.{folders_more}
use Rattle.ost_forms.proofs.items.FolderItems.push.Goals as goal

pub invariant_of-self-2 : goal.invariant_of-self-2
invariant_of-self-2 c =
    let tree = rw c.as_slice-tree.ensures.value at c.as_slice-tree.ensures.whole in
    let meta = rw c.as_slice-meta.ensures.value at c.as_slice-meta.ensures.whole in
    let name = rw c.as_slice-name.ensures.value at c.as_slice-name.ensures.name in
    let ascending = rw (← c.self.view_is) at c.requires in
    rw c.in_ok-push.ensures.items (folders_more _ _ c.self.invariant tree meta name ascending)
