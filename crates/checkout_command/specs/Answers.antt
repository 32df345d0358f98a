-- What each answer says of a disk.
use Rattle.std.specs.Prelude.{◌≡◌, ◌≢◌, ◌⊎◌, ℕ, List}
use Rattle.ost_types.specs.declared.limits.Limits.{Limits}
use Rattle.ost_types.specs.declared.object.ObjName.{ObjName}
use Rattle.ost_types.specs.Path.{Name, Path}
use Rattle.fs_trait.specs.View.{Disk}
use Rattle.fs_trait.specs.Seen.{Vacant, shows}
use Rattle.repo_layout.specs.BootPaths.{checkout_path}
use Rattle.repo_model.specs.Objects.{Stores, path_of}
use Rattle.repo_model.specs.Trees.{TreeShows}
use Rattle.repo_model.specs.Whole.{Complete}
use Rattle.ref_command.specs.declared.look_up.Found.TheVariants.{Missing, Partial}
use Rattle.ref_command.specs.Found.{IsFound}
use Rattle.read_command.specs.Answers.{IsFirstAbsent, IsFirstDamaged}
use Rattle.commit_checkout.specs.TreeFolder.{IsTreeFolder}
use Rattle.checkout_command.specs.declared.answer.CheckoutAnswer.{CheckoutAnswer}
use Rattle.checkout_command.specs.declared.answer.CheckoutAnswer.TheVariants as answer

-- The commit is whole within the limits, and the folder of the name is exactly its tree, each regular file one inode with its object.
pub record IsCheckedOut (d : Disk) (limits : Limits) (commit : List ℕ) (name : Name) : Type 0 where
  pub whole : Complete (Stores d) limits commit
  pub folder : IsTreeFolder d (checkout_path name) (TreeShows (Stores d) commit)

-- the first object of the commit, in the order of its paths, that is missing or damaged
abbrev pub SaysLacking : Disk → Limits → List ℕ → Path → Type 0
SaysLacking d limits commit p = (o : ObjName) × (p ≡ path_of o) × (IsFirstAbsent d limits commit o ⊎ IsFirstDamaged d limits commit o)

-- The folder is the commit's tree; the commit isn't there, or has a mark; something stands in the folder's place; or an object lacks.
abbrev pub Says : Disk → Limits → List ℕ → Name → CheckoutAnswer → Type 0
Says d limits commit name answer.Done = IsCheckedOut d limits commit name
Says d limits commit name (answer.NoCommit c) = (c ≡ commit) × IsFound d commit Missing
Says d limits commit name (answer.Partial c) = (c ≡ commit) × IsFound d commit Partial
Says d limits commit name (answer.DestExists p) = (p ≡ checkout_path name) × (shows d p ≢ Vacant)
Says d limits commit name (answer.Lacking p) = SaysLacking d limits commit p
