use Rattle.std.proofs.Common.{◌≡◌, true, false, sym, ◌∙◌}
use Rattle.ost_forms.proofs.Entries.{names_from, names_files, names_folders}
use Rattle.ost_forms.proofs.sorting.have_names.Goals as goal

pub returns-then-files_have_names : goal.returns-then-files_have_names
returns-then-files_have_names c =
    let files = rw c.deref.ensures.value at c.files_have_names.ensures in
    let folders = rw c.deref-then-files_have_names.ensures.value at c.folders_have_names.ensures in
    (λ t. names_from c.args.rows.now (files.0 c.if-files_have_names.true) (folders.0 t), λ h. folders.1 (names_folders c.args.rows.now h))

pub returns-else-files_have_names : goal.returns-else-files_have_names
returns-else-files_have_names c =
    let files = rw c.deref.ensures.value at c.files_have_names.ensures in
    (λ t. let z : true ≡ false = sym t ∙ c.if-files_have_names.false in absurd cc, λ h. files.1 (names_files c.args.rows.now h))
