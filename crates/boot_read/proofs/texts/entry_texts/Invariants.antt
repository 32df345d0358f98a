use Rattle.fs_trait.specs.View.{Disk}
use Rattle.repo_layout.specs.Fixed.{number}
use Rattle.boot_read.specs.Steps.{AreFiles}
use Rattle.boot_read.proofs.Entering.{TextsSoFar}
use Rattle.boot_read.proofs.texts.entry_texts.Given as goal

-- the files so far are read
abbrev pub invariant-loop-file : goal.invariant-loop-file
invariant-loop-file l = (d : Disk) → AreFiles d (number l.loader) l.files → TextsSoFar d (number l.loader) l.files l.file-index l.texts.items
