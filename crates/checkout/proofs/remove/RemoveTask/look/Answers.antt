use Rattle.std.proofs.lemmas.Result.{err_from_is_err_and}
use Rattle.checkout.proofs.RemoveLooking.{barred_refuses, nothing_needs, folder_needs}
use Rattle.checkout.proofs.RemoveWrites.{told_leaves, told_writes}
use Rattle.checkout.proofs.remove.RemoveTask.look.Goals as goal

pub returns-in_err-at-clause-fails : goal.returns-in_err-at-clause-fails
returns-in_err-at-clause-fails g c = λ v told.
    let error = err_from_is_err_and c.from_residual.result c.from_residual.ensures.1 in
    rw (error.1, error.2) (barred_refuses c.args.self.now v (c.requires.needs v told) _ c.in_err-at.ensures.err)

pub returns-in_err-take_leaf-clause-leaves : goal.returns-in_err-take_leaf-clause-leaves
returns-in_err-take_leaf-clause-leaves g c = λ v told.
    told_leaves c.args.self.now v _ (c.requires.needs v told).made c.in_ok-at.ensures.ok _ (c.in_err-take_leaf.ensures.leaves v told)

pub returns-in_err-take_leaf-clause-writes : goal.returns-in_err-take_leaf-clause-writes
returns-in_err-take_leaf-clause-writes g c = λ v told.
    told_writes c.args.self.now v _ (told_leaves c.args.self.now v _ (c.requires.needs v told).made c.in_ok-at.ensures.ok _ (c.in_err-take_leaf.ensures.leaves v told))

pub returns-in-Nothing-clause-leaves : goal.returns-in-Nothing-clause-leaves
returns-in-Nothing-clause-leaves g c = λ v told.
    told_leaves c.args.self.now v _ (c.requires.needs v told).made c.in_ok-at.ensures.ok _ (c.in_ok-take_leaf.ensures.leaves v told)

pub returns-in-Nothing-clause-writes : goal.returns-in-Nothing-clause-writes
returns-in-Nothing-clause-writes g c = λ v told.
    told_writes c.args.self.now v _ (told_leaves c.args.self.now v _ (c.requires.needs v told).made c.in_ok-at.ensures.ok _ (c.in_ok-take_leaf.ensures.leaves v told))

pub returns-in-Nothing-clause-after : goal.returns-in-Nothing-clause-after
returns-in-Nothing-clause-after g c = λ v told.
    nothing_needs c.args.self.now c.pass.new.self v c.in_ok-at.at c.in_ok-take_leaf.field-0 c.in-Nothing.is c.pass.ensures.value c.in_ok-at.ensures.path c.in_ok-at.ensures.ok (c.requires.needs v told) _
    (c.in_ok-take_leaf.ensures.told v told)

pub returns-in_ok-enter-in-Folder-clause-after : goal.returns-in_ok-enter-in-Folder-clause-after
returns-in_ok-enter-in-Folder-clause-after g c = λ v told.
    folder_needs c.args.self.now c.enter.new.self v c.in_ok-at.at c.in_ok-take_leaf.field-0 c.in-Folder.names c.in-Folder.is c.in_ok-enter-in-Folder.ensures.ok c.in_ok-at.ensures.ok (c.requires.needs v told) _
    (c.in_ok-take_leaf.ensures.told v told)
