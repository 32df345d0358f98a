use Rattle.std.proofs.Common.{sym, ◌∙◌}
use Rattle.deploy_clean.proofs.Listings.{leaf_listed, list_fails, nothing_listed}
use Rattle.deploy_clean.proofs.list.names_in.Goals as goal

pub returns-in-Folder-clause-fails : goal.returns-in-Folder-clause-fails
returns-in-Folder-clause-fails g c = λ v told.
    let still = c.in_ok-look_at.ensures.quiet.view ∙ told in
    list_fails v.now c.args.at.now (g.met.F.Fs.tree c.args.fs.now v told) (sym (c.in_ok-look_at.ensures.told v told) ∙ c.in-Folder.is) c.list.result (c.list.ensures.answer v still)

pub returns-in-Nothing-clause-told : goal.returns-in-Nothing-clause-told
returns-in-Nothing-clause-told g c = λ v told.
    nothing_listed v.now c.args.at.now (g.met.F.Fs.tree c.args.fs.now v told) (sym c.in-Nothing.is ∙ c.in_ok-look_at.ensures.told v told) c.new.result c.new.ensures

pub returns-in-Leaf-clause-told : goal.returns-in-Leaf-clause-told
returns-in-Leaf-clause-told g c = λ v told.
    leaf_listed v.now c.args.at.now (g.met.F.Fs.tree c.args.fs.now v told) (sym c.in-Leaf.is ∙ c.in_ok-look_at.ensures.told v told) c.new-in-Leaf.result c.new-in-Leaf.ensures
