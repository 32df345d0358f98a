use Rattle.std.proofs.Common.{◌≡◌, true, ap, ◌∙◌, rules, map}
use Rattle.ost_forms.specs.DirTree.{file_names, folder_names}
use Rattle.ost_forms.specs.FileRow.{file_of, folder_of}
use Rattle.ost_forms.proofs.Parts.{slices}
use Rattle.ost_forms.proofs.sorting.are_sorted.Goals as goal

pub returns : goal.returns
returns c =
    let holds : c.is_ascending.result ≡ true = search rules in
    let holds_too : c.is_ascending-2.result ≡ true = search rules in
    let of_files = c.in_ok-files.ensures ∙ ap (λ x. file_names (map file_of x)) c.deref.ensures.value in
    let of_folders = c.in_ok-folders.ensures ∙ ap (λ x. folder_names (map folder_of x)) c.deref-2.ensures.value in
    let files = rw (ap slices c.deref-3.ensures.value ∙ of_files) at c.is_ascending.ensures.0 holds in
    let folders = rw (ap slices c.deref-4.ensures.value ∙ of_folders) at c.is_ascending-2.ensures.0 holds_too in
    let apart = rw (ap slices c.deref-5.ensures.value ∙ of_files, ap slices c.deref-6.ensures.value ∙ of_folders) at c.are_apart.ensures in
    (λ t. record { files = files; folders = folders; apart = apart.0 t }, λ h. apart.1 h.apart)
