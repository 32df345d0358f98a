-- What a new deployment is, aside of what boots it (OSTree manual, "Deployments").
use Rattle.std.specs.Prelude.{◌≡◌, ◌≤◌, ◌++◌, ◌∷◌, [], false, ℕ, List, length, codes}
use Rattle.std.specs.Fmt.{decimal}
use Rattle.ost_types.specs.Csum.{hex_of}
use Rattle.ost_types.specs.Path.{Name, Path, under}
use Rattle.fs_trait.specs.View.{Disk}
use Rattle.fs_trait.specs.Seen.{shows}
use Rattle.repo_layout.specs.Paths.{deploy_path, stage_path}
use Rattle.repo_layout.specs.BootPaths.{origin_path}
use Rattle.boot_model.specs.declared.item.DepId.{DepId}
use Rattle.boot_model.specs.Items.{IsKver}
use Rattle.deploy_list.specs.Kernels.{has_etc}
use Rattle.folder_build.specs.Node.{file_meta}
use Rattle.staged_file.specs.Steps.{IsFileWith}
use Rattle.checkout.specs.CheckoutWork.{IsPlaced}
use Rattle.checkout_compare.specs.Compare.{IsCheckoutOutsideEtc}
use Rattle.tree_copy.specs.TreeFolder.{IsCopy}
use Rattle.tree_copy.specs.TreeWork.{most_paths}
use Rattle.kernel_copy.specs.Copies.{AreCopied}
use Rattle.deployment_build.specs.declared.deployment.NewDeployment.{NewDeployment}

-- where its files stand, its `etc` in them, and its origin file
abbrev pub folder_of : DepId → Path
folder_of id = deploy_path id.os id.commit id.serial

abbrev pub etc_of : DepId → Path
etc_of id = under (folder_of id) (codes "etc")

abbrev pub origin_of : DepId → Path
origin_of id = origin_path id.os id.commit id.serial

-- the folder in which these are, and the origin file's name there
abbrev pub deployments : Name → Path
deployments os = codes "ostree" ∷ codes "deploy" ∷ os ∷ codes "deploy" ∷ []

abbrev pub origin_name : DepId → Name
origin_name id = hex_of id.commit ++ ((46 ∷ decimal id.serial) ++ codes ".origin")

-- a regular file with this text, of the attributes that it gets
abbrev pub HasOrigin : Disk → DepId → List ℕ → Type 0
HasOrigin d id text = IsFileWith file_meta text (shows d (origin_of id))

-- The deployment is built: outside `etc` its files are the checkout of its tree, its `etc` is a copy of what it is to be, with no
-- inode of another path, its origin file has the text, and the copies of its kernel are there.
pub record IsBuilt (d : Disk) (new : NewDeployment) : Type 0 where
  pub files : IsCheckoutOutsideEtc d (folder_of new.id) new.tree
  pub etc : IsCopy d (etc_of new.id) new.etc
  pub origin : HasOrigin d new.id new.origin
  pub kernel : AreCopied d new.id.os new.kernel

-- What may be built, and where it is staged: the tree has nothing at `etc`, all paths are within the bounds of paths, and the staging
-- path is that of an actor.
pub record MayBuild (stage : Path) (new : NewDeployment) : Type 0 where
  pub staging : (actor : ℕ) × (stage ≡ stage_path actor)
  pub tree : IsPlaced (folder_of new.id) new.tree
  pub no_etc : has_etc new.tree ≡ false
  pub etc : IsPlaced (etc_of new.id) new.etc
  pub few : length new.etc ≤ most_paths
  pub version : IsKver new.kernel.kver
