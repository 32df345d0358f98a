use Rattle.std.proofs.Common.{◌∙◌, subst}
use Rattle.kernel_copy.specs.Copies.{initramfs_path}
use Rattle.kernel_copy.specs.Compared.{FindsAt, IsFoundAny}
use Rattle.kernel_copy.proofs.Finding.{finds_rest, found_second}
use Rattle.kernel_copy.proofs.compare.first_other_copy.Goals as goal

pub returns-in-Some-clause-told : goal.returns-in-Some-clause-told
returns-in-Some-clause-told g c = λ v told.
    let files = c.args.files.now in
    let found = subst (λ o. IsFoundAny v.now (initramfs_path c.args.os.now files) files.initramfs o) c.in-Some.is (c.in_ok-at.ensures.told v told) in
    found_second v.now c.args.os.now files c.in-Some.at found

pub returns-in_ok-at-in-None-clause-told : goal.returns-in_ok-at-in-None-clause-told
returns-in_ok-at-in-None-clause-told g c = λ v told.
    let files = c.args.files.now in
    let none = subst (λ o. IsFoundAny v.now (initramfs_path c.args.os.now files) files.initramfs o) c.in-None.is (c.in_ok-at.ensures.told v told) in
    let first = subst (λ p. FindsAt v.now p files.kernel c.other_at.result) c.in_ok-at-in-None.ensures (c.other_at.ensures.told v (c.in_ok-at.ensures.quiet.view ∙ told)) in
    finds_rest v.now c.args.os.now files none c.other_at.result first
