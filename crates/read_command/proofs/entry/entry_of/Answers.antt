use Rattle.std.proofs.Common.{None, subst}
use Rattle.read_command.specs.Entering.{IsFolderEntry}
use Rattle.read_command.proofs.Entries.{TellsFile, folder_is}
use Rattle.read_command.proofs.entry.entry_of.Goals as goal

pub returns-in-None : goal.returns-in-None
returns-in-None c =
    folder_is (record { files = c.args.tree.now.files; folders = c.args.tree.now.folders }) c.args.name.now c.folder_of.result
    (subst (λ f. TellsFile f c.args.name.now None) c.as_slice.ensures.value c.in-None.ensures)
    (subst (λ f. IsFolderEntry f c.args.name.now c.folder_of.result) c.as_slice-in-None.ensures.value c.folder_of.ensures)
