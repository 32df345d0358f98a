use Rattle.std.proofs.Common.{◌≡◌, Err, List, subst}
use Rattle.ost_types.specs.Path.{Name}
use Rattle.fs_trait.specs.declared.types.FsErr.TheVariants.{Missing, NotFolder}
use Rattle.fs_trait.specs.Effect.{Answered, IsListing, no_folder}
use Rattle.boot_read.proofs.Looking.{nothing_listed}
use Rattle.boot_read.proofs.reads.list_names.Goals as goal

pub returns-in-Err-Missing-clause-told : goal.returns-in-Err-Missing-clause-told
returns-in-Err-Missing-clause-told g c = λ v told.
    let is : c.in-Err-Missing.field-0 ≡ Missing = cc c.in-Err-Missing.field-0-is in
    let answer = subst (λ e. Answered {T = List Name} (no_folder c.args.at.now v.now) (IsListing v.now c.args.at.now) (Err e)) is (c.in-Err-Missing.ensures.answer v told) in
    nothing_listed v.now c.args.at.now Missing (g.met.F.Fs.tree c.args.fs.now v told) answer c.new.result c.new.ensures

pub returns-in-Err-NotFolder-clause-told : goal.returns-in-Err-NotFolder-clause-told
returns-in-Err-NotFolder-clause-told g c = λ v told.
    let is : c.in-Err-NotFolder.field-0 ≡ NotFolder = cc c.in-Err-NotFolder.field-0-is in
    let answer = subst (λ e. Answered {T = List Name} (no_folder c.args.at.now v.now) (IsListing v.now c.args.at.now) (Err e)) is (c.in-Err-NotFolder.ensures.answer v told) in
    nothing_listed v.now c.args.at.now NotFolder (g.met.F.Fs.tree c.args.fs.now v told) answer c.new-in-Err-NotFolder.result c.new-in-Err-NotFolder.ensures
