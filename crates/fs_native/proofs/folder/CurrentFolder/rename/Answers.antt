use Rattle.std.proofs.Common.{rules, ◌≡◌, ◌∙◌}
use Rattle.host_files.specs.HostPath.{host_text}
use Rattle.fs_native.proofs.Notes.{seen_kept, keeps_both, keeps_from}
use Rattle.fs_native.proofs.folder.CurrentFolder.rename.Goals as goal

-- both folders are noted, the first before the second
pub returns : goal.returns
returns g c = record {
  reserved = search rules;
  reserved_target = search rules;
  named = search rules;
  notes = λ p x is. seen_kept (host_text p) _ _ c.note_parent-2.ensures.keeps (c.note_parent.ensures.notes p x is);
  notes_target = c.note_parent-2.ensures.notes;
  keeps =
      keeps_from _ _ _ (c.begin.ensures.changed ∙ c.in_ok-settle.ensures.same ∙ c.walk_other.ensures.changed ∙ c.walk.ensures.changed)
      (keeps_both _ _ _ c.note_parent.ensures.keeps c.note_parent-2.ensures.keeps);
}
