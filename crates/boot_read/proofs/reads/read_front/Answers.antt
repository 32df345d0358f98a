use Rattle.std.proofs.Common.{◌≡◌, Err, List, ℕ, subst}
use Rattle.fs_trait.specs.declared.types.FsErr.TheVariants.{Missing, NotFolder}
use Rattle.fs_trait.specs.Effect.{Answered, inode_of, no_file, part}
use Rattle.boot_read.proofs.Looking.{front_none, front_some}
use Rattle.boot_read.proofs.reads.read_front.Goals as goal

pub returns-in-Ok-clause-told : goal.returns-in-Ok-clause-told
returns-in-Ok-clause-told g c = λ v told.
    let read = c.in-Ok.ensures.answer v told in
    front_some v.now c.args.at.now c.args.most c.in-Ok.bytes read.0 read.1

pub returns-in-Err-Missing-clause-told : goal.returns-in-Err-Missing-clause-told
returns-in-Err-Missing-clause-told g c = λ v told.
    let is : c.in-Err-Missing.field-0 ≡ Missing = cc c.in-Err-Missing.field-0-is in
    let answer = subst (λ e. Answered (no_file c.args.at.now v.now) (λ (b : List ℕ). b ≡ part 0 c.args.most (v.now.bytes (inode_of (v.now.at c.args.at.now)))) (Err e)) is (c.in-Err-Missing.ensures.answer v told) in
    front_none v.now c.args.at.now c.args.most Missing (g.met.F.Fs.tree c.args.fs.now v told) answer

pub returns-in-Err-NotFolder-clause-told : goal.returns-in-Err-NotFolder-clause-told
returns-in-Err-NotFolder-clause-told g c = λ v told.
    let is : c.in-Err-NotFolder.field-0 ≡ NotFolder = cc c.in-Err-NotFolder.field-0-is in
    let answer = subst (λ e. Answered (no_file c.args.at.now v.now) (λ (b : List ℕ). b ≡ part 0 c.args.most (v.now.bytes (inode_of (v.now.at c.args.at.now)))) (Err e)) is (c.in-Err-NotFolder.ensures.answer v told) in
    front_none v.now c.args.at.now c.args.most NotFolder (g.met.F.Fs.tree c.args.fs.now v told) answer
