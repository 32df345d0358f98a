use Rattle.std.proofs.Common.{◌≡◌}
use Rattle.std.proofs.lemmas.Result.{err_from_is_err_and}
use Rattle.fs_trait.specs.Seen.{shows}
use Rattle.fs_trait.specs.Effect.{inode_of}
use Rattle.obj_store.proofs.Lookups.{refused}
use Rattle.obj_store.proofs.lookup.file_bytes.Goals as goal

pub returns-in_err-bytes-clause-told : goal.returns-in_err-bytes-clause-told
returns-in_err-bytes-clause-told g c = λ v told.
    let error = err_from_is_err_and c.from_residual.result c.from_residual.ensures.1 in
    rw (error.1, error.2) (refused v.now c.args.at.now c.args.meta c.args.kind (shows v.now c.args.at.now) (g.met.F.Fs.tree c.args.fs.now v told) (c.requires v told) (λ b. b ≡ v.now.bytes (inode_of (v.now.at c.args.at.now))) _ (c.in_err-bytes.ensures.answer v told))
