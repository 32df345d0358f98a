use Rattle.std.proofs.Common.{sym, ◌∙◌, subst}
use Rattle.fs_trait.specs.Effect.{IsListing}
use Rattle.boot_read.proofs.files.entry_files.Goals as goal

pub returns-clause-told : goal.returns-clause-told
returns-clause-told g c = λ v sub told folders.
    c.files_in.ensures.told v sub (c.list_names.ensures.quiet.view ∙ told) (subst (IsListing v.now c.in_ok-folder.folder) (sym c.as_slice.ensures) (c.in_ok-names.ensures.told v told)) folders
