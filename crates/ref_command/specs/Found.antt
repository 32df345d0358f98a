-- What a commit is on a disk, by the files that stand at its object's path and at its mark's.
use Rattle.std.specs.Prelude.{◌≡◌, ℕ, Bool, true, false, List, Option, Some, None, IsSome}
use Rattle.ost_types.specs.declared.object.ObjName.{ObjName}
use Rattle.ost_types.specs.declared.object.Kind.TheVariants.{Commit}
use Rattle.fs_trait.specs.declared.types.Node.{Node}
use Rattle.fs_trait.specs.declared.types.Node.TheVariants.{File}
use Rattle.fs_trait.specs.View.{Disk}
use Rattle.fs_trait.specs.Image.{reads}
use Rattle.repo_layout.specs.Paths.{object_path, mark_path}
use Rattle.ref_command.specs.declared.look_up.Found.{Found}
use Rattle.ref_command.specs.declared.look_up.Found.TheVariants.{Missing, Partial, Whole}

-- what `stat` tells of a regular file
abbrev pub is_regular : Option Node → Bool
is_regular (Some (File m len)) = true
is_regular x = false

abbrev pub commit_name : List ℕ → ObjName
commit_name commit = record { csum = commit; kind = Commit }

-- no regular file is its object; or one is, with a regular file for its mark, or without
abbrev pub IsFound : Disk → List ℕ → Found → Type 0
IsFound d commit Missing = reads d (object_path Commit commit) ≡ None
IsFound d commit Partial = IsSome (reads d (object_path Commit commit)) × IsSome (reads d (mark_path commit))
IsFound d commit Whole = IsSome (reads d (object_path Commit commit)) × (reads d (mark_path commit) ≡ None)
