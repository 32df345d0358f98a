use Rattle.ost_forms.proofs.ItemLists.{files_more}
use Rattle.ost_forms.proofs.items.FileItems.push.Goals as goal

pub invariant_of-self-2 : goal.invariant_of-self-2
invariant_of-self-2 c =
    let sum = rw c.as_slice-file.ensures.value at c.as_slice-file.ensures.whole in
    let name = rw c.as_slice-name.ensures.value at c.as_slice-name.ensures.name in
    let ascending = rw (← c.self.view_is) at c.requires in
    rw c.in_ok-push.ensures.items (files_more _ _ c.self.invariant sum name ascending)
