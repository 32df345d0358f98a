use Rattle.std.proofs.Common.{sym, ◌∙◌}
use Rattle.host_edit.proofs.Looking.{leaf_there}
use Rattle.host_edit.proofs.there.look.Goals as goal

pub returns-in-Leaf-clause-told : goal.returns-in-Leaf-clause-told
returns-in-Leaf-clause-told g c = λ v told.
    leaf_there v.now c.args.at.now (g.met.F.Fs.tree c.args.fs.now v told) (sym (c.in_ok-look_at.ensures.told v told) ∙ c.in-Leaf.is)
