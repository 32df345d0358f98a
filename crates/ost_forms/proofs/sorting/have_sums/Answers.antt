use Rattle.std.proofs.Common.{◌≡◌, true, false, sym, ◌∙◌}
use Rattle.ost_forms.proofs.Entries.{sums_from, sums_files, sums_folders}
use Rattle.ost_forms.proofs.sorting.have_sums.Goals as goal

pub returns-then-files_have_sums : goal.returns-then-files_have_sums
returns-then-files_have_sums c =
    let files = rw c.deref.ensures.value at c.files_have_sums.ensures in
    let folders = rw c.deref-then-files_have_sums.ensures.value at c.folders_have_sums.ensures in
    (λ t. sums_from c.args.rows.now (files.0 c.if-files_have_sums.true) (folders.0 t), λ h. folders.1 (sums_folders c.args.rows.now h))

pub returns-else-files_have_sums : goal.returns-else-files_have_sums
returns-else-files_have_sums c =
    let files = rw c.deref.ensures.value at c.files_have_sums.ensures in
    (λ t. let z : true ≡ false = sym t ∙ c.if-files_have_sums.false in absurd cc, λ h. files.1 (sums_files c.args.rows.now h))
