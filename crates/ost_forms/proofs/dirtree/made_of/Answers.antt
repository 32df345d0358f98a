use Rattle.std.proofs.Common.{ap, ◌∙◌, map}
use Rattle.ost_forms.specs.DirTree.{AreApart, file_names, folder_names}
use Rattle.ost_forms.specs.FileRow.{file_of, folder_of}
use Rattle.ost_forms.proofs.Entries.{sums_files, sums_folders, names_files, names_folders}
use Rattle.ost_forms.proofs.dirtree.made_of.Goals as goal

pub file_items-requires-clause-sums : goal.file_items-requires-clause-sums
file_items-requires-clause-sums c = rw c.deref.ensures.value (sums_files c.args.rows.now c.requires.sums)

pub file_items-requires-clause-names : goal.file_items-requires-clause-names
file_items-requires-clause-names c = rw c.deref.ensures.value (names_files c.args.rows.now c.requires.names)

pub folder_items-requires-clause-sums : goal.folder_items-requires-clause-sums
folder_items-requires-clause-sums c = rw c.deref-2.ensures.value (sums_folders c.args.rows.now c.requires.sums)

pub folder_items-requires-clause-names : goal.folder_items-requires-clause-names
folder_items-requires-clause-names c = rw c.deref-2.ensures.value (names_folders c.args.rows.now c.requires.names)

pub invariant_of-result : goal.invariant_of-result
invariant_of-result c =
    let files = c.in_ok-file_items.ensures ∙ ap (map file_of) c.deref.ensures.value in
    let folders = c.in_ok-folder_items.ensures ∙ ap (map folder_of) c.deref-2.ensures.value in
    let apart : AreApart (file_names c.in_ok-file_items.field-0) (folder_names c.in_ok-folder_items.field-0) = rw (files, folders) c.requires.sorted.apart in
    record { apart = ∣ apart ∣₁ }
