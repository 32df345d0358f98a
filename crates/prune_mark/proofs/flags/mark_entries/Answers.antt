use Rattle.std.proofs.Common.{subst}
use Rattle.ost_forms.specs.DirTree.{Entries}
use Rattle.reach.specs.Reach.{IsEntry}
use Rattle.prune_mark.specs.Flags.{AreOfFiles, AreOfFolders, Spreads}
use Rattle.prune_mark.proofs.Spreading.{entry_from, entry_to, spreads_as, spreads_then}
use Rattle.prune_mark.proofs.flags.mark_entries.Goals as goal

pub returns : goal.returns
returns c =
    let entries : Entries = record { files = c.args.entries.now.files; folders = c.args.entries.now.folders } in
    let files = subst (λ f. Spreads c.args.names.now (AreOfFiles f) c.args.flags.now.items c.args.pending.now.items c.mark_files.new.flags.items c.args.pending.now.items) c.as_slice.ensures.value (c.mark_files.ensures c.args.pending.now.items) in
    let folders = subst (λ f. Spreads c.args.names.now (AreOfFolders f) c.mark_files.new.flags.items c.args.pending.now.items c.mark_folders.new.flags.items c.mark_folders.new.pending.items) c.as_slice-2.ensures.value c.mark_folders.ensures in
    spreads_as c.args.names.now _ (IsEntry entries) _ _ _ _ (entry_from entries) (entry_to entries) (spreads_then c.args.names.now (AreOfFiles c.args.entries.now.files) (AreOfFolders c.args.entries.now.folders) _ _ _ _ _ _ files folders)
