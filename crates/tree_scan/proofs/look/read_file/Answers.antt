use Rattle.std.proofs.Common.{rules, ◌≡◌, true}
use Rattle.std.proofs.lemmas.Result.{err_from_is_err_and}
use Rattle.fs_trait.specs.Effect.{inode_of}
use Rattle.tree_scan.proofs.Looks.{read_file_fails, sum_file}
use Rattle.tree_scan.proofs.look.read_file.Goals as goal

pub returns-in_err-bytes-clause-told : goal.returns-in_err-bytes-clause-told
returns-in_err-bytes-clause-told g c = λ v told.
    let error = err_from_is_err_and c.from_residual.result c.from_residual.ensures.1 in
    rw (error.1, error.2) (read_file_fails v.now c.args.at.now c.args.meta c.args.limits.now.content (c.requires v told) (g.met.F.Fs.tree c.args.fs.now v told) (λ b. b ≡ v.now.bytes (inode_of (v.now.at c.args.at.now))) _ (c.in_err-bytes.ensures.answer v told))

pub returns-clause-told : goal.returns-clause-told
returns-clause-told g c = λ v told.
    let is : c.is_file_mode.result ≡ true = search rules in
    sum_file v.now c.args.at.now c.args.meta c.args.limits.now.content (c.requires v told) (c.is_file_mode.ensures.0 is) c.in_ok-bytes.bytes c.in_ok-sum.sum (c.in_ok-bytes.ensures.answer v told).1 c.in_ok-sum.ensures
