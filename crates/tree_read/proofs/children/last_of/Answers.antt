use Rattle.std.proofs.Common.{sym, ◌∙◌, ap}
use Rattle.std.specs.Ordering.{is_lt}
use Rattle.std.proofs.lemmas.List.{nil_from_length}
use Rattle.tree_read.proofs.Lasts.{file_taken, folder_alone, folder_after, folders_before, none_before, is_before, not_before, lasts_differ}
use Rattle.tree_read.proofs.children.last_of.Goals as goal

pub returns-in_default : goal.returns-in_default
returns-in_default c = folder_alone c.args.files.now c.args.folders.now c.last_folder.result c.last_folder.ensures (nil_from_length _ c.in_default.ensures.cases) c.requires.folders

pub returns-in_default-split_last : goal.returns-in_default-split_last
returns-in_default-split_last c =
    file_taken c.args.files.now c.in-Some.fewer.now _ c.args.folders.now _ c.in-Some.file.now _ _ c.in-Some.ensures.cases.0
    c.of_file.ensures.name c.of_file.ensures.named c.of_file.ensures.files c.of_file.ensures.folders c.requires.files (none_before c.args.folders.now c.in-Some.file.now.name (nil_from_length _ c.in_default-split_last.ensures.cases))

pub returns-then-is_lt : goal.returns-then-is_lt
returns-then-is_lt c =
    let less = is_before c.in-Some-split_last.folder.now.name c.in-Some.file.now.name (sym (c.is_lt.ensures ∙ ap is_lt c.cmp.ensures) ∙ c.if-is_lt.true) in
    file_taken c.args.files.now c.in-Some.fewer.now _ c.args.folders.now _ c.in-Some.file.now _ _ c.in-Some.ensures.cases.0
    c.of_file-then-is_lt.ensures.name c.of_file-then-is_lt.ensures.named c.of_file-then-is_lt.ensures.files c.of_file-then-is_lt.ensures.folders c.requires.files
    (folders_before c.args.folders.now c.in-Some-split_last.field-0-1.now c.in-Some-split_last.folder.now c.in-Some.file.now.name c.in-Some-split_last.ensures.cases.0 c.requires.folders less)

pub returns-else-is_lt : goal.returns-else-is_lt
returns-else-is_lt c =
    let differ = lasts_differ c.args.files.now c.in-Some.fewer.now c.args.folders.now c.in-Some-split_last.field-0-1.now c.in-Some.file.now c.in-Some-split_last.folder.now c.in-Some.ensures.cases.0 c.in-Some-split_last.ensures.cases.0 c.requires.apart in
    let more = not_before c.in-Some-split_last.folder.now.name c.in-Some.file.now.name differ (sym (c.is_lt.ensures ∙ ap is_lt c.cmp.ensures) ∙ c.if-is_lt.false) in
    folder_after c.args.files.now c.in-Some.fewer.now c.args.folders.now c.in-Some-split_last.field-0-1.now c.last_folder-else-is_lt.result c.in-Some.file.now c.in-Some-split_last.folder.now c.last_folder-else-is_lt.ensures
    c.in-Some.ensures.cases.0 c.in-Some-split_last.ensures.cases.0 c.requires.files c.requires.folders more
