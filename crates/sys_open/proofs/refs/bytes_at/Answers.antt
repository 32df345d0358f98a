use Rattle.std.proofs.Common.{◌≡◌, ℕ, List}
use Rattle.fs_trait.specs.Effect.{inode_of}
use Rattle.fs_trait.proofs.Refusals.{no_file-there}
use Rattle.sys_open.proofs.FaultLemmas.{read_interrupted}
use Rattle.sys_open.proofs.refs.bytes_at.Goals as goal

pub returns-in-Err-clause-told : goal.returns-in-Err-clause-told
returns-in-Err-clause-told g c = λ v told file.
    read_interrupted _ (λ (b : List ℕ). b ≡ v.now.bytes (inode_of (v.now.at c.args.at.now))) c.args.at.now c.in-Err.error c.refused.result (no_file-there v.now (g.met.F.Fs.tree c.args.fs.now v told) c.args.at.now file.0 file.1) (c.in-Err.ensures.answer v told) c.refused.ensures

pub returns-in-Ok-clause-told : goal.returns-in-Ok-clause-told
returns-in-Ok-clause-told g c = λ v told file. (c.in-Ok.ensures.answer v told).1
