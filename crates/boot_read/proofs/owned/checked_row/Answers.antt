use Rattle.std.proofs.Common.{◌∙◌, ap, arith}
use Rattle.fs_trait.specs.Image.{is_folder}
use Rattle.repo_layout.specs.Fixed.{number}
use Rattle.boot_read.proofs.Looking.{fault_cause}
use Rattle.boot_read.proofs.Owning.{folder_lacks, row_owned, twin_lacks}
use Rattle.boot_read.proofs.owned.checked_row.Goals as goal

pub returns-then-not-is_alone-clause-told : goal.returns-then-not-is_alone-clause-told
returns-then-not-is_alone-clause-told g c = λ v sub told are is.
    c.no_deployment.ensures.told v.now sub
    (twin_lacks v.now (number c.args.loader) sub c.args.all.now are c.args.followed.now is c.args.row.now c.requires c.is_alone.result c.is_alone.ensures c.if-not-is_alone.true)

pub returns-then-not-is_alone-clause-cause : goal.returns-then-not-is_alone-clause-cause
returns-then-not-is_alone-clause-cause g c = fault_cause _ _ c.no_deployment.result (omega arith) c.no_deployment.ensures.no_call

pub returns-then-not-there-clause-told : goal.returns-then-not-there-clause-told
returns-then-not-there-clause-told g c = λ v sub told are is.
    c.no_deployment-then-not-there.ensures.told v.now sub
    (folder_lacks v.now (number c.args.loader) sub c.args.all.now are c.args.followed.now is c.args.row.now c.requires c.in_ok-there.there (c.in_ok-there.ensures.told v told ∙ ap (λ p. is_folder (v.now.at p)) c.in_ok-at.ensures) c.if-not-there.true)

pub returns-then-not-there-clause-cause : goal.returns-then-not-there-clause-cause
returns-then-not-there-clause-cause g c = fault_cause _ _ c.no_deployment-then-not-there.result c.in_ok-there.ensures.cause.later c.no_deployment-then-not-there.ensures.no_call

pub returns-clause-told : goal.returns-clause-told
returns-clause-told g c = λ v sub told are is.
    row_owned v.now (number c.args.loader) sub c.args.all.now are c.args.followed.now is c.args.row.now c.requires c.is_alone.result c.in_ok-there.there c.is_alone.ensures c.if-not-is_alone.false
    (c.in_ok-there.ensures.told v told ∙ ap (λ p. is_folder (v.now.at p)) c.in_ok-at.ensures) c.if-not-there.false c.in_ok-copy.field-0 c.in_ok-copy.ensures
