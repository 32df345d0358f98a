use Rattle.std.proofs.Common.{◌≡◌, Err, sym, ap, subst}
use Rattle.std.proofs.lemmas.Result.{err_from_is_err_and}
use Rattle.fs_trait.specs.declared.types.FsErr.TheVariants.{NoMemory}
use Rattle.fs_trait.specs.Change.{Writes}
use Rattle.fs_trait.specs.Image.{Told}
use Rattle.clean_command.specs.Commands.{needs_in, writes_in}
use Rattle.clean_command.proofs.Refusing.{of_none}
use Rattle.clean_command.proofs.command.CleanCommandCommandTask.advance.Goals as goal

pub step-requires : goal.step-requires
step-requires g c = λ v told. (subst (λ p. needs_in p v) c.in-Cleaning.is (c.requires v told)).0

pub returns-in_err-turn-in-Cleaning-clause-writes : goal.returns-in_err-turn-in-Cleaning-clause-writes
returns-in_err-turn-in-Cleaning-clause-writes g c = λ v told.
    subst (λ p. Told (g.F.Fs.view c.step.new.fs) (Writes (writes_in p v) v)) (sym c.in-Cleaning.is) (c.in_err-turn-in-Cleaning.ensures.told v told).writes

pub returns-in_err-turn-in-Cleaning-clause-unchanged : goal.returns-in_err-turn-in-Cleaning-clause-unchanged
returns-in_err-turn-in-Cleaning-clause-unchanged g c = λ v told.
    let error = err_from_is_err_and c.from_residual-in_err-turn-in-Cleaning.result c.from_residual-in_err-turn-in-Cleaning.ensures.1 in
    rw (error.1, error.2) (λ lacks.
    let one : c.in_err-turn-in-Cleaning.field-0.0 ≡ NoMemory = cc in
    (c.in_err-turn-in-Cleaning.ensures.told v told).unchanged (ap Err one))

pub returns-in_err-turn-in-Cleaning-clause-refused : goal.returns-in_err-turn-in-Cleaning-clause-refused
returns-in_err-turn-in-Cleaning-clause-refused g c = λ v told.
    let error = err_from_is_err_and c.from_residual-in_err-turn-in-Cleaning.result c.from_residual-in_err-turn-in-Cleaning.ensures.1 in
    let needs = subst (λ p. needs_in p v) c.in-Cleaning.is (c.requires v told) in
    rw (error.1, error.2) (of_none c.in-Cleaning.cleaning v _ needs.0 needs.1 (c.in_err-turn-in-Cleaning.ensures.told v told).fails)

pub returns-in_ok-turn-in-Cleaning-clause-writes : goal.returns-in_ok-turn-in-Cleaning-clause-writes
returns-in_ok-turn-in-Cleaning-clause-writes g c = λ v told.
    subst (λ p. Told (g.F.Fs.view c.step.new.fs) (Writes (writes_in p v) v)) (sym c.in-Cleaning.is) (c.in_ok-turn-in-Cleaning.ensures.told v told).writes

pub returns-in-Over-clause-after : goal.returns-in-Over-clause-after
returns-in-Over-clause-after g c = λ v told. absurd (subst (λ p. needs_in p v) c.in-Over.is (c.requires v told))
