use Rattle.std.proofs.Common.{◌∙◌, inr, sym, subst}
use Rattle.std.proofs.lemmas.Result.{err_from_is_err_and}
use Rattle.repo_layout.specs.Fixed.{number}
use Rattle.boot_read.specs.Faults.{HasFolders}
use Rattle.boot_read.specs.Steps.{AreFiles, AreFollowed, AreTexts}
use Rattle.boot_read.proofs.Entering.{are_read}
use Rattle.boot_read.proofs.Following.{are_linked}
use Rattle.boot_read.proofs.Sorting.{boot_rows}
use Rattle.boot_read.proofs.list.rows_of.Goals as goal

pub returns-in_err-files-clause-told : goal.returns-in_err-files-clause-told
returns-in_err-files-clause-told g c = λ v told selects.
    let error = err_from_is_err_and c.from_residual-in_err-files.result c.from_residual-in_err-files.ensures.1 in
    rw (error.1, error.2) (c.in_err-files.ensures.told v (number c.in_ok-sub.sub) (c.sub_version.ensures.quiet.view ∙ told) (record { selects = selects; folder = c.in_ok-sub.ensures.told v told selects }))

pub returns-in_err-texts-clause-told : goal.returns-in_err-texts-clause-told
returns-in_err-texts-clause-told g c = λ v told selects.
    let error = err_from_is_err_and c.from_residual-in_err-texts.result c.from_residual-in_err-texts.ensures.1 in
    let folders : HasFolders v.now (number c.args.loader) (number c.in_ok-sub.sub) = record { selects = selects; folder = c.in_ok-sub.ensures.told v told selects } in
    let files = c.in_ok-files.ensures.told v (number c.in_ok-sub.sub) (c.sub_version.ensures.quiet.view ∙ told) folders in
    rw (error.1, error.2) (c.in_err-texts.ensures.told v.now (number c.in_ok-sub.sub) folders (subst (AreFiles v.now (number c.args.loader)) (sym c.deref.ensures.value) files))

pub returns-in_err-all-clause-told : goal.returns-in_err-all-clause-told
returns-in_err-all-clause-told g c = λ v told selects.
    let error = err_from_is_err_and c.from_residual-in_err-all.result c.from_residual-in_err-all.ensures.1 in
    let one = c.sub_version.ensures.quiet.view ∙ told in
    let folders : HasFolders v.now (number c.args.loader) (number c.in_ok-sub.sub) = record { selects = selects; folder = c.in_ok-sub.ensures.told v told selects } in
    let files = c.in_ok-files.ensures.told v (number c.in_ok-sub.sub) one folders in
    let texts = c.in_ok-texts.ensures.told v.now (number c.in_ok-sub.sub) folders (subst (AreFiles v.now (number c.args.loader)) (sym c.deref.ensures.value) files) in
    rw (error.1, error.2) (c.in_err-all.ensures.told v (c.entry_files.ensures.quiet.view ∙ one) folders (subst (AreTexts v.now (number c.args.loader)) (sym c.deref-2.ensures.value) texts))

pub returns-in_err-rows-clause-told : goal.returns-in_err-rows-clause-told
returns-in_err-rows-clause-told g c = λ v told selects.
    let error = err_from_is_err_and c.from_residual-in_err-rows.result c.from_residual-in_err-rows.ensures.1 in
    let one = c.sub_version.ensures.quiet.view ∙ told in
    let two = c.entry_files.ensures.quiet.view ∙ one in
    let folders : HasFolders v.now (number c.args.loader) (number c.in_ok-sub.sub) = record { selects = selects; folder = c.in_ok-sub.ensures.told v told selects } in
    let files = c.in_ok-files.ensures.told v (number c.in_ok-sub.sub) one folders in
    let texts = c.in_ok-texts.ensures.told v.now (number c.in_ok-sub.sub) folders (subst (AreFiles v.now (number c.args.loader)) (sym c.deref.ensures.value) files) in
    let all = c.in_ok-all.ensures.told v two folders (subst (AreTexts v.now (number c.args.loader)) (sym c.deref-2.ensures.value) texts) in
    let read = are_read v.now (number c.args.loader) (number c.in_ok-sub.sub) c.in_ok-texts.texts.items folders texts in
    let linked = are_linked v.now (number c.args.loader) (number c.in_ok-sub.sub) c.in_ok-all.all.items read all in
    rw (error.1, error.2) (c.in_err-rows.ensures.told v (number c.in_ok-sub.sub) (c.follow_all.ensures.quiet.view ∙ two) linked (subst (AreFollowed v.now (number c.args.loader) (number c.in_ok-sub.sub)) (sym c.deref-3.ensures.value) all))

pub returns-clause-told : goal.returns-clause-told
returns-clause-told g c = λ v told selects.
    let one = c.sub_version.ensures.quiet.view ∙ told in
    let two = c.entry_files.ensures.quiet.view ∙ one in
    let folder = c.in_ok-sub.ensures.told v told selects in
    let folders : HasFolders v.now (number c.args.loader) (number c.in_ok-sub.sub) = record { selects = selects; folder = folder } in
    let files = c.in_ok-files.ensures.told v (number c.in_ok-sub.sub) one folders in
    let texts = c.in_ok-texts.ensures.told v.now (number c.in_ok-sub.sub) folders (subst (AreFiles v.now (number c.args.loader)) (sym c.deref.ensures.value) files) in
    let all = c.in_ok-all.ensures.told v two folders (subst (AreTexts v.now (number c.args.loader)) (sym c.deref-2.ensures.value) texts) in
    let read = are_read v.now (number c.args.loader) (number c.in_ok-sub.sub) c.in_ok-texts.texts.items folders texts in
    let linked = are_linked v.now (number c.args.loader) (number c.in_ok-sub.sub) c.in_ok-all.all.items read all in
    let rows = c.in_ok-rows.ensures.told v (number c.in_ok-sub.sub) (c.follow_all.ensures.quiet.view ∙ two) linked (subst (AreFollowed v.now (number c.args.loader) (number c.in_ok-sub.sub)) (sym c.deref-3.ensures.value) all) in
    inr (number c.args.loader, number c.in_ok-sub.sub, selects, folder, boot_rows v.now (number c.args.loader) (number c.in_ok-sub.sub) c.in_ok-rows.rows.items c.in_ok-sorted.sorted.items rows c.in_ok-sorted.ensures.same c.in_ok-sorted.ensures.falling)
