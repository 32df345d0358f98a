use Rattle.std.proofs.Common.{◌≡◌, ◌∙◌, ap, subst, lit<, false}
use Rattle.ost_types.specs.declared.meta.Meta.{Meta}
use Rattle.fs_trait.specs.Image.{is_folder}
use Rattle.staged_file.specs.Staged.{Staged}
use Rattle.staged_file_check.proofs.Starts.{begins, still_leaf, put_there, each_image, stage_path, plan_of}
use Rattle.staged_file_check.proofs.one_file.put.Goals as goal

pub new-requires : goal.new-requires
new-requires g c =
    let paths = plan_of c.args.bytes.now _ _ c.in-Some.is c.in_ok-plan.ensures in
    (420, lit< tt, ap (λ (m : Meta). m.mode) paths.3)

pub sync_and_put-requires : goal.sync_and_put-requires
sync_and_put-requires g c = λ v told.
    let paths = plan_of c.args.bytes.now _ _ c.in-Some.is c.in_ok-plan.ensures in
    begins c.new.result v.now (g.met.F.Fs.tree c.args.fs.now v told) (ap (λ (t : Staged). t.phase) c.new.ensures) (ap (λ (t : Staged). t.stage) c.new.ensures ∙ paths.0)
    (ap (λ (t : Staged). t.folder) c.new.ensures ∙ paths.1) (ap (λ (t : Staged). t.at) c.new.ensures ∙ paths.2) (c.requires v told)

pub returns-in-Some-clause-leaf : goal.returns-in-Some-clause-leaf
returns-in-Some-clause-leaf g c = λ w told.
    let paths = plan_of c.args.bytes.now _ _ c.in-Some.is c.in_ok-plan.ensures in
    let before = g.met.F.Fs.told _ c.args.fs.now w told in
    let after = c.sync_and_put.ensures.writes before.0 before.1 in
    let now = after.1 in
    let same : after.0 ≡ w = cc (now, told) in
    subst (λ w. is_folder (w.now.at stage_path) ≡ false) same
    (still_leaf c.new.result before.0 after.0 (ap (λ (t : Staged). t.stage) c.new.ensures ∙ paths.0) (ap (λ (t : Staged). t.at) c.new.ensures ∙ paths.2) after.2 (c.requires before.0 before.1))

pub returns-in-Some-clause-done : goal.returns-in-Some-clause-done
returns-in-Some-clause-done g c = λ v told.
    let paths = plan_of c.args.bytes.now _ _ c.in-Some.is c.in_ok-plan.ensures in
    each_image _ _ _ _
    (put_there c.new.result c.args.bytes.now (ap (λ (t : Staged). t.at) c.new.ensures ∙ paths.2) (ap (λ (t : Staged). t.meta) c.new.ensures ∙ paths.3) (ap (λ (t : Staged). t.bytes) c.new.ensures ∙ paths.4))
    (c.sync_and_put.ensures.done v told)
