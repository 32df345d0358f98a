use Rattle.std.proofs.lemmas.Result.{err_from_is_err_and}
use Rattle.repo_layout.specs.Fixed.{number}
use Rattle.boot_read.specs.declared.files.EntryFile.{EntryFile}
use Rattle.boot_read.specs.declared.texts.EntryText.{EntryText}
use Rattle.boot_read.specs.Steps.{IsTextOf}
use Rattle.boot_read.proofs.Entering.{all_texts, file_here, tells_unread, text_of}
use Rattle.boot_read.proofs.Lists.{none_so_far, one_more}
use Rattle.boot_read.proofs.texts.entry_texts.Goals as goal

pub loop-file-init : goal.loop-file-init
loop-file-init c = λ d are. none_so_far (λ (f : EntryFile). f.name) (λ (t : EntryText). t.name) (IsTextOf d (number c.args.loader)) c.args.files.now _ c.in_ok-texts.ensures.items

pub loop-file-preserved : goal.loop-file-preserved
loop-file-preserved c = λ d are.
    let read = c.in_ok-entry.ensures.told d (file_here d (number c.args.loader) c.args.files.now are c.loop-file.file-index c.file-item.result c.loop-file-test.true c.file-item.is) in
    one_more (λ (f : EntryFile). f.name) (λ (t : EntryText). t.name) (IsTextOf d (number c.args.loader)) c.args.files.now c.loop-file.file-index c.file-item.result c.loop-file.texts.items _
    (record { name = c.in_ok-name.name; entry = c.in_ok-entry.entry }) c.loop-file-test.true c.file-item.is c.in_ok-name.ensures
    (text_of d (number c.args.loader) c.file-item.result.name c.in_ok-name.name c.in_ok-entry.entry c.in_ok-name.ensures read) c.in_ok-push.ensures.items (c.loop-file.invariant d are)

pub returns-in_err-entry-clause-told : goal.returns-in_err-entry-clause-told
returns-in_err-entry-clause-told c = λ d sub folders are.
    let error = err_from_is_err_and c.from_residual-in_err-entry.result c.from_residual-in_err-entry.ensures.1 in
    rw (error.1, error.2) (tells_unread d (number c.args.loader) sub folders c.args.files.now are c.loop-file.file-index c.file-item.result c.loop-file.texts.items c.loop-file-test.true c.file-item.is (c.loop-file.invariant d are) _
    (c.in_err-entry.ensures.told d (file_here d (number c.args.loader) c.args.files.now are c.loop-file.file-index c.file-item.result c.loop-file-test.true c.file-item.is)))

pub returns-clause-told : goal.returns-clause-told
returns-clause-told c = λ d sub folders are. all_texts d (number c.args.loader) c.args.files.now are c.loop-file.file-index c.loop-file.texts.items c.loop-file-test.false (c.loop-file.invariant d are)
