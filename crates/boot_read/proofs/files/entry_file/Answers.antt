use Rattle.std.proofs.Common.{◌≡◌, ◌+◌, true, false, sym, ◌∙◌}
use Rattle.repo_layout.specs.Fixed.{number}
use Rattle.boot_read.specs.Entries.{entry_limit}
use Rattle.boot_read.specs.Steps.{IsFileAt}
use Rattle.boot_read.proofs.Entering.{file_at, no_file, other_name}
use Rattle.boot_read.proofs.Looking.{memory_cause, memory_only, told_as}
use Rattle.boot_read.proofs.files.entry_file.Goals as goal

pub returns-then-not-is_entry_name-clause-told : goal.returns-then-not-is_entry_name-clause-told
returns-then-not-is_entry_name-clause-told g c = λ v told.
    other_name v.now (number c.args.loader) c.args.name.now (λ name. let yes : c.is_entry_name.result ≡ true = c.is_entry_name.ensures.1 name in let n : true ≡ false = sym yes ∙ c.if-not-is_entry_name.true in cc)

pub returns-in-None-clause-told : goal.returns-in-None-clause-told
returns-in-None-clause-told g c = λ v told.
    no_file v.now (number c.args.loader) c.args.name.now c.in_ok-at.at (entry_limit + 1) c.in_ok-at.ensures (sym c.in-None.is ∙ c.in_ok-front.ensures.told v told)

pub returns-clause-told : goal.returns-clause-told
returns-clause-told g c = λ v told.
    told_as c.named_file.result _ (IsFileAt v.now (number c.args.loader) c.args.name.now) c.named_file.ensures.value
    (file_at v.now (number c.args.loader) c.args.name.now c.in_ok-at.at c.in-Some.bytes (c.is_entry_name.ensures.0 c.if-not-is_entry_name.false) c.in_ok-at.ensures (sym c.in-Some.is ∙ c.in_ok-front.ensures.told v told))

pub returns-clause-err : goal.returns-clause-err
returns-clause-err g c = memory_only c.named_file.result c.named_file.ensures.memory

pub returns-clause-cause : goal.returns-clause-cause
returns-clause-cause g c = memory_cause _ _ c.named_file.result c.in_ok-front.ensures.cause.later c.named_file.ensures.memory
