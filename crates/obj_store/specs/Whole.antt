-- What is known of an object that is put, and where putting one may begin.
use Rattle.std.specs.Prelude.{◌≡◌, ℕ, true, false, List, Some}
use Rattle.fs_trait.specs.View.{Disk}
use Rattle.fs_trait.specs.Image.{is_folder}
use Rattle.fs_trait.specs.Seen.{Seen}
use Rattle.repo_layout.specs.Paths.{folder_path, stage_path}
use Rattle.repo_layout.specs.declared.folder.Folder.TheVariants.{Objects, Tmp}
use Rattle.repo_model.specs.Objects.{object_in}
use Rattle.obj_store.specs.declared.phase.Phase.TheVariants.{Look}
use Rattle.obj_store.specs.Putting.{Putting, IsMade, IsObject}

-- the object is shown
abbrev pub IsShown : Putting → Seen → Type 0
IsShown t s = (bytes : List ℕ) → IsObject t.name bytes t.source → object_in t.name.kind s ≡ Some bytes

-- What reads must see where a task may begin: the folder of the objects, and the folder of staging paths with no folder at this one.
pub record MayBegin (t : Putting) (d : Disk) : Type 0 where
  pub new : t.phase ≡ Look
  pub made : IsMade t
  pub objects : is_folder (d.at (folder_path Objects)) ≡ true
  pub home : is_folder (d.at (folder_path Tmp)) ≡ true
  pub leaf : is_folder (d.at (stage_path t.actor)) ≡ false
