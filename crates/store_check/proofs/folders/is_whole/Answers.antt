use Rattle.std.proofs.Common.{rules, ◌∙◌}
use Rattle.std.proofs.lemmas.Bool.{ltb-true}
use Rattle.store_check.proofs.Folding.{commit_whole, in_some}
use Rattle.store_check.proofs.folders.is_whole.Goals as goal

pub returns-in-Some-2-clause-told : goal.returns-in-Some-2-clause-told
returns-in-Some-2-clause-told g c = λ v told less.
    let e = c.in-Some-2.extent in
    let root = in_some _ _ _ c.in-Some.is (c.in_ok-root.ensures.told v told) in
    let known = in_some _ _ _ c.in-Some-2.is (c.in_ok-extent.ensures.told v (c.root_of.ensures.quiet.view ∙ told)) in
    commit_whole v.now c.args.limits.now c.args.objects.now.names.items (c.requires.found v told).sound c.args.commit.now root.0 c.in-Some.root.0 c.in-Some.root.1 e root.1 root.2 root.3 (c.is_listed.ensures (search rules)) known e.deep e.long (ltb-true e.paths c.args.limits.now.paths less)
