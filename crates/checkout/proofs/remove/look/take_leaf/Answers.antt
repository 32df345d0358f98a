use Rattle.std.proofs.Common.{inr, refl, sym, ◌∙◌, List}
use Rattle.std.proofs.lemmas.Result.{err_from_is_err_and}
use Rattle.ost_types.specs.Path.{Name}
use Rattle.fs_trait.specs.Effect.{IsListing}
use Rattle.fs_trait.proofs.Refusals.{no_folder-there}
use Rattle.fs_trait.proofs.Claims.{folder_shows}
use Rattle.checkout.proofs.RemoveAnswering.{read_fails, call_fails}
use Rattle.checkout.proofs.RemoveFound.{looked_folder, looked_leaf, no_leaf-free, err_leaves}
use Rattle.checkout.proofs.remove.look.take_leaf.Goals as goal

pub returns-in_err-list-in-Folder-clause-fails : goal.returns-in_err-list-in-Folder-clause-fails
returns-in_err-list-in-Folder-clause-fails g c = λ v told.
    let still = c.in_ok-look_at.ensures.quiet.view ∙ told in
    let there = looked_folder v.now (v.now.at c.args.at.now) (sym (c.in_ok-look_at.ensures.told v told) ∙ c.in-Folder.is) in
    let free = no_folder-there v.now (g.met.F.Fs.tree c.args.fs.now v told) c.args.at.now (folder_shows v.now c.args.at.now there) in
    let error = err_from_is_err_and c.from_residual-in_err-list-in-Folder.result c.from_residual-in_err-list-in-Folder.ensures.1 in
    rw (error.1, error.2) (read_fails {T = List Name} _ (IsListing v.now c.args.at.now) free _ (c.in_err-list-in-Folder.ensures.answer v still))

pub returns-in_err-unlink-in-Leaf-clause-leaves : goal.returns-in_err-unlink-in-Leaf-clause-leaves
returns-in_err-unlink-in-Leaf-clause-leaves g c = λ v told.
    let still = c.in_ok-look_at.ensures.quiet.view ∙ told in
    let leaf = looked_leaf v.now (v.now.at c.args.at.now) (sym (c.in_ok-look_at.ensures.told v told) ∙ c.in-Leaf.is) in
    err_leaves c.args.at.now v leaf _ _ _ (c.in_err-unlink-in-Leaf.ensures.effect v still)

pub returns-in_err-unlink-in-Leaf-clause-fails : goal.returns-in_err-unlink-in-Leaf-clause-fails
returns-in_err-unlink-in-Leaf-clause-fails g c = λ v told.
    let still = c.in_ok-look_at.ensures.quiet.view ∙ told in
    let leaf = looked_leaf v.now (v.now.at c.args.at.now) (sym (c.in_ok-look_at.ensures.told v told) ∙ c.in-Leaf.is) in
    let free = no_leaf-free v.now c.args.at.now (g.met.F.Fs.tree c.args.fs.now v told) leaf in
    let error = err_from_is_err_and c.from_residual-in_err-unlink-in-Leaf.result c.from_residual-in_err-unlink-in-Leaf.ensures.1 in
    rw (error.1, error.2) (call_fails _ v _ free _ _ (c.in_err-unlink-in-Leaf.ensures.effect v still))

pub returns-in_ok-unlink-in-Leaf-clause-leaves : goal.returns-in_ok-unlink-in-Leaf-clause-leaves
returns-in_ok-unlink-in-Leaf-clause-leaves g c = λ v told.
    let still = c.in_ok-look_at.ensures.quiet.view ∙ told in
    let leaf = looked_leaf v.now (v.now.at c.args.at.now) (sym (c.in_ok-look_at.ensures.told v told) ∙ c.in-Leaf.is) in
    (_, (c.in_ok-unlink-in-Leaf.ensures.effect v still).1, inr (leaf, refl))

pub returns-in_ok-unlink-in-Leaf-clause-told : goal.returns-in_ok-unlink-in-Leaf-clause-told
returns-in_ok-unlink-in-Leaf-clause-told g c = λ v told.
    let still = c.in_ok-look_at.ensures.quiet.view ∙ told in
    let leaf = looked_leaf v.now (v.now.at c.args.at.now) (sym (c.in_ok-look_at.ensures.told v told) ∙ c.in-Leaf.is) in
    (_, (c.in_ok-unlink-in-Leaf.ensures.effect v still).1, inr (leaf, refl))
