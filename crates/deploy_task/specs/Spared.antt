-- What others have to spare so that what a task needs stays true; and where it writes itself.
use Rattle.std.specs.Prelude.{◌≡◌, ◌≢◌, ◌⊎◌, ◌++◌, ℕ, true, List, Contains, Some}
use Rattle.ost_types.specs.declared.limits.Limits.{Limits}
use Rattle.ost_types.specs.declared.meta.Meta.{Meta}
use Rattle.ost_types.specs.declared.node.NodeName.TheVariants.{Leaf}
use Rattle.ost_types.specs.Path.{Name, Path, is_below}
use Rattle.ost_types.specs.PathMap.{Nodes, node_at}
use Rattle.fs_trait.specs.declared.types.Value.TheVariants.{File}
use Rattle.fs_trait.specs.View.{Disk, View}
use Rattle.fs_trait.specs.Image.{Image}
use Rattle.fs_trait.specs.Seen.{Seen, Vacant, Leaf as SeenLeaf, MayBe, shows, IsDirectory}
use Rattle.fs_trait.specs.Change.{Harmless, Own}
use Rattle.repo_layout.specs.declared.fixed.Version.{Version}
use Rattle.repo_layout.specs.Fixed.{number}
use Rattle.repo_layout.specs.BootPaths.{boot_folder_path, boot_link_path, boot_link_stage_path, entry_path, kernel_path, loader_folder_path, loader_path, loader_stage_path}
use Rattle.boot_model.specs.declared.item.DepId.{DepId}
use Rattle.boot_compare.specs.declared.choosing.Swap.TheVariants.{Sub}
use Rattle.checkout.specs.CheckoutFolder.{leaf_path}
use Rattle.tree_read.specs.Reading as walk
use Rattle.tree_read.specs.Reading.{Reading}
use Rattle.tree_walk.specs.Standing.{Standing}
use Rattle.kernel_copy.specs.Copies.{IsFor}
use Rattle.deployment_check.specs.Deployments.{IsWholeTree}
use Rattle.deployment_build.specs.Deployment.{folder_of, origin_of}
use Rattle.deployment_build.proofs.Keeping.{KeepsAbove, SparesInodes}
use Rattle.deploy_clean.specs.Steps.{Goes}
use Rattle.boot_swap.specs.declared.phase.Phase as swapping
use Rattle.boot_swap.specs.declared.phase.Phase.TheVariants as swap
use Rattle.boot_swap.specs.Swap.{version_of}
use Rattle.boot_swap.specs.Steps.{IsAround, IsAside, IsTheLink, IsTheLoader, NotSelecting}
use Rattle.boot_swap.proofs.Spots.{LinkFolder, LoaderFolder, Spot, path_of}
use Rattle.deploy_task.specs.declared.deploy.Deploy.{Deploy}
use Rattle.deploy_task.specs.declared.phase.Phase.{Phase}
use Rattle.deploy_task.specs.declared.phase.Phase.TheVariants.{Clean, Etc, Build, Swap}
use Rattle.deploy_task.specs.Listed.{ids_in}
use Rattle.deploy_task.specs.Deploying.{Deploying, IsSourceOf, items_of}
use Rattle.deploy_task.specs.Steps.{Needs, WritesOf}

-- ---- what others write

-- a leaf of the new deployment's tree, its kernel, or what that first mounts
abbrev pub IsObjectOf : Deploy → List ℕ → Type 0
IsObjectOf plan sum = ((p : Path) × (node_at plan.tree p ≡ Some (Leaf sum))) ⊎ ((at : Path) × IsFor plan.os plan.kernel at sum)

-- They spare what the new deployment is made of and built with: they write nothing at the staging path, at the copies of its kernel, nor at
-- its objects, and nothing but a folder at the folder of the copies. They leave folders above these, and give the inodes of the files in
-- its `etc`, and that of the staged file, no other name.
pub record SparesNew (W : Path → Seen → Type 0) (t : Deploying) (v : View) : Type 0 where
  pub stage : (s : Seen) → W t.plan.stage s → ⊥
  pub copies : (at : Path) (sum : List ℕ) (s : Seen) → IsFor t.plan.os t.plan.kernel at sum → W at s → ⊥
  pub objects : (sum : List ℕ) (s : Seen) → IsObjectOf t.plan sum → W (leaf_path sum) s → ⊥
  pub folder : (s : Seen) → W (kernel_path t.plan.os t.plan.kernel.bootcsum) s → IsDirectory s
  pub stages : KeepsAbove W t.plan.stage v
  pub above : KeepsAbove W (kernel_path t.plan.os t.plan.kernel.bootcsum) v
  pub inodes : SparesInodes W t.id v
  pub staged : (n : ℕ) → v.now.at t.plan.stage ≡ File n → ((p : Path) (s : Seen) → MayBe v p s → Own n t.plan.stage p s) → Harmless W (Own n t.plan.stage)

-- the folders that a swap makes
abbrev pub IsMadeFolder : Spot → Type 0
IsMadeFolder (LoaderFolder n) = Unit {0}
IsMadeFolder (LinkFolder n sub) = Unit {0}
IsMadeFolder a = ⊥

-- They write nothing at the places of the boot loader, nor on the way to one or below it, and give no inode that stands in a folder there by
-- one name alone, now and whatever a crash leaves, another name.
pub record SparesBoot (W : Path → Seen → Type 0) (v : View) : Type 0 where
  pub spots : (a : Spot) (p : Path) (s : Seen) → W p s → IsAround (path_of a) p → ⊥
  pub comes : (a : Spot) → IsMadeFolder a → (p at : Path) (s : Seen) (n : ℕ) (m : Meta) (b : List ℕ) → W p s → s ≡ SeenLeaf n m b → is_below (path_of a) at ≡ true → ((q : Path) (x : Seen) → MayBe v q x → Own n at q x) → v.now.at at ≢ File n

-- What is known of a commit and its tree, and of a walk of it, is known still.
pub record KeepsCommit (limits : Limits) (v w : View) (commit : List ℕ) : Type 0 where
  pub walks : (s : Reading) → s.commit ≡ commit → walk.Knows (Standing v.now) s → walk.Knows (Standing w.now) s
  pub whole : (tree : Nodes) → IsWholeTree limits v.now commit tree → IsWholeTree limits w.now commit tree

-- a deployment of the list, or the new one
abbrev pub IsHeld : Deploying → DepId → Type 0
IsHeld t id = Contains (ids_in (items_of t.plan)) id ⊎ (id ≡ t.id)

-- where the next step reads what is in a deployment
abbrev pub reads_at : Phase → Path → Type 0
reads_at (Etc defaults s) p = is_below s.at p ≡ true
reads_at ph p = ⊥

-- Others spare the task: they write nothing at a deployment of the list or the new one, nor on the way there; nothing at or below the path
-- of one that isn't listed, or of its origin file, as the new one's are; nothing in the `etc` that is read; and what the source's commit
-- leads to is there still.
pub record Spares (W : Path → Seen → Type 0) (t : Deploying) (v w : View) : Type 0 where
  pub boot : SparesBoot W v
  pub deployments : (id : DepId) → IsHeld t id → (p : Path) (s : Seen) → W p s → is_below p (folder_of id) ≡ true → ⊥
  pub unlisted : (p : Path) (s : Seen) → W p s → ¬ (Goes (ids_in (items_of t.plan)) p)
  pub reads : (p : Path) (s : Seen) → W p s → ¬ (reads_at t.phase p)
  pub commit : (source : DepId) → IsSourceOf t.plan source → KeepsCommit t.plan.limits v w source.commit
  pub new : SparesNew W t v

-- ---- its own writes

-- In the new deployment's files; at its origin file; where files are staged; at the folder of its kernel's copies, or at one of these.
abbrev pub IsOwn : Deploying → Path → Type 0
IsOwn t p = (is_below (folder_of t.id) p ≡ true) ⊎ ((p ≡ origin_of t.id) ⊎ ((p ≡ t.plan.stage) ⊎ ((p ≡ kernel_path t.id.os t.plan.kernel.bootcsum) ⊎ ((sum : List ℕ) × IsFor t.id.os t.plan.kernel p sum))))

-- The folder of entries of a version that isn't selected; a folder of links that isn't named; or a link, where it is staged and, as it is
-- to be, in its place.
abbrev pub swaps_in : swapping.Phase → View → Path → Seen → Type 0
swaps_in (swap.Entries n b) v p s = NotSelecting n v × (is_below (loader_folder_path (number n)) p ≡ true)
swaps_in (swap.Links u sub b) v p s = IsAside u sub v × (is_below (boot_folder_path (number (version_of u)) (number sub)) p ≡ true)
swaps_in (swap.ShowLink u sub l) v p s = IsAside u sub v × ((is_below boot_link_stage_path p ≡ true) ⊎ ((p ≡ boot_link_path (number (version_of u))) × IsTheLink (version_of u) sub s))
swaps_in (swap.ShowLoader n l) v p s = NotSelecting n v × ((is_below loader_stage_path p ≡ true) ⊎ ((p ≡ loader_path) × IsTheLoader n s))
swaps_in ph v p s = ⊥

-- What the list doesn't name goes; the new deployment is built; what is to boot is made aside of what boots.
abbrev pub lies_in : Phase → Deploying → View → Path → Seen → Type 0
lies_in (Clean c) t v p s = Goes (ids_in (items_of t.plan)) p × (s ≡ Vacant)
lies_in (Build b) t v p s = IsOwn t p
lies_in (Swap sw) t v p s = swaps_in sw.phase v p s
lies_in ph t v p s = ⊥

abbrev pub DeployLies : Type 0
DeployLies = (t : Deploying) (v : View) (p : Path) (s : Seen) → Needs t v → WritesOf t v p s → lies_in t.phase t v p s

-- ---- and the list

-- the link of a version, an entry of it, or what stands in the folder of links that its link names
abbrev pub reads_version : Disk → Version → Path → Type 0
reads_version d n p = (p ≡ boot_link_path (number n))
    ⊎ (((file : Name) × (p ≡ entry_path (number n) file))
    ⊎ ((sub : Version) × IsTheLink n sub (shows d (boot_link_path (number n))) × (rest : Path) × (p ≡ boot_folder_path (number n) (number sub) ++ rest)))

-- where a disk's list of these deployments is read
abbrev pub ReadsList : List DepId → Disk → Path → Type 0
ReadsList ids d p = (p ≡ loader_path)
    ⊎ (((n : Version) × IsTheLoader n (shows d loader_path) × reads_version d n p)
    ⊎ ((id : DepId) × Contains ids id × (p ≡ folder_of id)))

-- the one rename that shows the new list: of the link of the version that is selected, or of the boot loader's
abbrev pub renames_in : swapping.Phase → Path → Seen → Type 0
renames_in (swap.ShowLink (Sub n) sub l) p s = (p ≡ boot_link_path (number n)) × IsTheLink n sub s
renames_in (swap.ShowLoader n l) p s = (p ≡ loader_path) × IsTheLoader n s
renames_in ph p s = ⊥

abbrev pub IsRename : Phase → Path → Seen → Type 0
IsRename (Swap sw) p s = renames_in sw.phase p s
IsRename ph p s = ⊥

-- No other write is where the list is read of a disk that a crash might leave.
abbrev pub DeploySparesList : Type 0
DeploySparesList = (t : Deploying) (v : View) (p : Path) (s : Seen) → Needs t v → WritesOf t v p s → (d : Disk) → Image v d → ReadsList (ids_in (items_of t.plan)) d p → IsRename t.phase p s
