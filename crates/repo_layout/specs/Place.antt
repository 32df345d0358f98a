-- Whose place a path is. Each kind of thing has places of its own, so things of different kinds, or with different names,
-- never have the same path.
use Rattle.std.specs.Prelude.{◌≡◌, ◌≢◌, ◌==◌, ◌-◌, ℕ, List, [], ◌∷◌, ◌++◌, length, take, drop, codes, if◌then◌else◌}
use Rattle.std.specs.Result.{result_unwrap_or}
use Rattle.std.specs.Str.Parse.{digits_value}
use Rattle.hex.specs.Hex.{decode_of}
use Rattle.ost_types.specs.Path.{Name, Path, joined, same_name, same_path}
use Rattle.ost_types.specs.declared.object.Kind.{Kind}
use Rattle.ost_types.specs.declared.object.Kind.TheVariants.{Commit, DirTree, DirMeta, File}
use Rattle.repo_layout.specs.Paths.{config_path, deploy_path, ending, in_repo, mark_path, object_path, ref_path, stage_path}
use Rattle.repo_layout.specs.BootPaths.{boot_folder_path, boot_link_path, boot_link_stage_path, checkout_path, kernel_path, loader_folder_path, loader_path, loader_stage_path, origin_path, staged_path, summary_path}

pub data Place : Type 0 where
  Config : Place  -- the configuration
  Stage : ℕ → Place  -- an actor's staging folder and all in it, by the actor
  Ref : List ℕ → Place  -- a ref, by its name; the folders above refs are such places too
  ObjectsFolder : Name → Place  -- a folder of objects, by its two digits
  Object : Kind → List ℕ → Place  -- an object, by its kind and its sum
  Mark : List ℕ → Place  -- the mark of a commit, by its sum
  Summary : Place  -- the summary of the refs
  Deployment : Name → List ℕ → ℕ → Path → Place  -- in a deployment, by stateroot, commit and serial: the path in its files
  Etc : Name → List ℕ → ℕ → Path → Place  -- in the changeable `etc` of a deployment: the path in it
  Origin : Name → List ℕ → ℕ → Place  -- the origin file of a deployment, and all below its path
  Staged : Place  -- the record of a deployment that is to come
  BootLink : ℕ → Place  -- the link to the boot links of a version
  BootLinkStage : Place  -- where such a link is staged
  BootFolder : ℕ → ℕ → Path → Place  -- in the boot links of a version and a sub-version: the path in them
  Loader : Place  -- the link that selects a version
  LoaderStage : Place  -- where that link is staged
  LoaderFolder : ℕ → Path → Place  -- in the folder of a version: the path in it, its entries among them
  KernelCopy : Name → List ℕ → Path → Place  -- in the copies of a kernel, by stateroot and checksum: the path in them
  Checkout : Name → Path → Place  -- in a checkout: the path in it
  Other : Path → Place

-- the place of the one path that it has, and of no other
abbrev pub only_at : Path → Path → Place → Place
only_at path p x = if same_path path p then x else Other p

-- what the digits of a sum say
abbrev pub sum_of : List ℕ → List ℕ
sum_of digits = result_unwrap_or (decode_of digits) []

-- the name whose parts these are
abbrev pub name_of : Path → List ℕ
name_of parts = drop 1 (joined parts)

abbrev pub ref_at : List ℕ → Path → Place
ref_at name p = only_at (ref_path name) p (Ref name)

unfoldable pub ref_place : Path → Path → Place
ref_place p (heads ∷ part ∷ parts) = if same_name heads (codes "heads") then ref_at (name_of (part ∷ parts)) p else Other p
ref_place p rest = Other p

abbrev pub object_at : Kind → List ℕ → Path → Place
object_at kind sum p = only_at (object_path kind sum) p (Object kind sum)

abbrev pub object_of : List ℕ → List ℕ → Path → Place
object_of digits end p =
    if same_name end (ending Commit) then object_at Commit (sum_of digits) p
    else if same_name end (ending DirTree) then object_at DirTree (sum_of digits) p
    else if same_name end (ending DirMeta) then object_at DirMeta (sum_of digits) p
    else if same_name end (ending File) then object_at File (sum_of digits) p
    else Other p

abbrev pub folder_at : Name → Path → Place
folder_at digits p = only_at (in_repo (codes "objects" ∷ digits ∷ [])) p (ObjectsFolder digits)

unfoldable pub object_place : Path → Path → Place
object_place p (folder ∷ []) = folder_at folder p
object_place p (folder ∷ file ∷ []) = object_of (folder ++ take 62 file) (drop 62 file) p
object_place p rest = Other p

abbrev pub mark_at : List ℕ → Path → Place
mark_at commit p = only_at (mark_path commit) p (Mark commit)

unfoldable pub mark_place : Path → Path → Place
mark_place p (file ∷ []) = mark_at (sum_of (take 64 file)) p
mark_place p rest = Other p

abbrev pub stage_at : ℕ → Path → Path → Place
stage_at actor rest p = only_at (stage_path actor ++ rest) p (Stage actor)

unfoldable pub stage_place : Path → Path → Place
stage_place p (who ∷ rest) = stage_at (digits_value 10 (drop 6 who)) rest p
stage_place p rest = Other p

abbrev pub config_place : Path → Place
config_place p = only_at config_path p Config

unfoldable pub repo_place : Path → Path → Place
repo_place p (part ∷ rest) =
    if same_name part (codes "objects") then object_place p rest
    else if same_name part (codes "refs") then ref_place p rest
    else if same_name part (codes "tmp") then stage_place p rest
    else if same_name part (codes "state") then mark_place p rest
    else if same_name part (codes "config") then config_place p
    else if same_name part (codes "summary") then only_at summary_path p Summary
    else Other p
repo_place p rest = Other p

-- the files of a deployment outside its `etc`
abbrev pub IsOutsideEtc : Path → Type 0
IsOutsideEtc [] = Unit {0}
IsOutsideEtc (x ∷ rest) = x ≢ codes "etc"

abbrev pub in_deployment : Name → List ℕ → ℕ → Path → Place
in_deployment os commit serial [] = Deployment os commit serial []
in_deployment os commit serial (x ∷ rest) = if same_name x (codes "etc") then Etc os commit serial rest else Deployment os commit serial (x ∷ rest)

abbrev pub deployment_at : Name → List ℕ → ℕ → Path → Path → Place
deployment_at os commit serial rest p = only_at (deploy_path os commit serial ++ rest) p (in_deployment os commit serial rest)

-- what stands beside the deployments of a stateroot: an origin file, or one of them
unfoldable pub deployed_place : Name → Name → Path → Path → Place
deployed_place os id rest p =
    if same_path (origin_path os (sum_of (take 64 id)) (digits_value 10 (take (length id - 72) (drop 65 id))) ++ rest) p then Origin os (sum_of (take 64 id)) (digits_value 10 (take (length id - 72) (drop 65 id)))
    else deployment_at os (sum_of (take 64 id)) (digits_value 10 (drop 65 id)) rest p

unfoldable pub deploy_place : Path → Path → Place
deploy_place p (os ∷ deploy ∷ id ∷ rest) = if same_name deploy (codes "deploy") then deployed_place os id rest p else Other p
deploy_place p rest = Other p

abbrev pub boot_link_at : ℕ → Path → Place
boot_link_at version p = only_at (boot_link_path version) p (BootLink version)

abbrev pub boot_folder_at : ℕ → ℕ → Path → Path → Place
boot_folder_at version sub rest p = only_at (boot_folder_path version sub ++ rest) p (BootFolder version sub rest)

-- a version has one digit, and so has a sub-version
unfoldable pub boot_links_place : Path → Name → Path → Place
boot_links_place p part rest =
    if length part == 6 then boot_link_at (digits_value 10 (drop 5 part)) p
    else if same_name (take 1 (drop 6 part)) (codes ".") then boot_folder_at (digits_value 10 (take 1 (drop 5 part))) (digits_value 10 (drop 7 part)) rest p
    else only_at boot_link_stage_path p BootLinkStage

abbrev pub kernel_at : Name → List ℕ → Path → Path → Place
kernel_at os bootcsum rest p = only_at (kernel_path os bootcsum ++ rest) p (KernelCopy os bootcsum rest)

unfoldable pub kernel_place : Path → Path → Place
kernel_place p (folder ∷ rest) = kernel_at (take (length folder - 65) folder) (sum_of (drop (length folder - 64) folder)) rest p
kernel_place p rest = Other p

abbrev pub loader_folder_at : ℕ → Path → Path → Place
loader_folder_at version rest p = only_at (loader_folder_path version ++ rest) p (LoaderFolder version rest)

unfoldable pub boot_place : Path → Path → Place
boot_place p (part ∷ rest) =
    if length part == 8 then loader_folder_at (digits_value 10 (drop 7 part)) rest p
    else if same_name part (codes "loader") then only_at loader_path p Loader
    else if same_name part (codes "ostree") then kernel_place p rest
    else only_at loader_stage_path p LoaderStage
boot_place p rest = Other p

unfoldable pub checkout_place : Path → Path → Place
checkout_place p (name ∷ rest) = only_at (checkout_path name ++ rest) p (Checkout name rest)
checkout_place p rest = Other p

unfoldable pub ostree_place : Path → Path → Place
ostree_place p (part ∷ rest) =
    if same_name part (codes "repo") then repo_place p rest
    else if same_name part (codes "deploy") then deploy_place p rest
    else if same_name part (codes "staged") then only_at staged_path p Staged
    else boot_links_place p part rest
ostree_place p rest = Other p

-- the place of a path
unfoldable pub place : Path → Place
place (top ∷ rest) =
    if same_name top (codes "ostree") then ostree_place (top ∷ rest) rest
    else if same_name top (codes "boot") then boot_place (top ∷ rest) rest
    else if same_name top (codes "checkout") then checkout_place (top ∷ rest) rest
    else Other (top ∷ rest)
place p = Other p

-- the paths of a place
abbrev pub IsAt : Place → Path → Type 0
IsAt Config p = p ≡ config_path
IsAt (Stage actor) p = (rest : Path) × (p ≡ stage_path actor ++ rest)
IsAt (Ref name) p = p ≡ ref_path name
IsAt (ObjectsFolder digits) p = p ≡ in_repo (codes "objects" ∷ digits ∷ [])
IsAt (Object kind sum) p = p ≡ object_path kind sum
IsAt (Mark commit) p = p ≡ mark_path commit
IsAt Summary p = p ≡ summary_path
IsAt (Deployment os commit serial rest) p = p ≡ deploy_path os commit serial ++ rest
IsAt (Etc os commit serial rest) p = p ≡ deploy_path os commit serial ++ codes "etc" ∷ rest
IsAt (Origin os commit serial) p = (rest : Path) × (p ≡ origin_path os commit serial ++ rest)
IsAt Staged p = p ≡ staged_path
IsAt (BootLink version) p = p ≡ boot_link_path version
IsAt BootLinkStage p = p ≡ boot_link_stage_path
IsAt (BootFolder version sub rest) p = p ≡ boot_folder_path version sub ++ rest
IsAt Loader p = p ≡ loader_path
IsAt LoaderStage p = p ≡ loader_stage_path
IsAt (LoaderFolder version rest) p = p ≡ loader_folder_path version ++ rest
IsAt (KernelCopy os bootcsum rest) p = p ≡ kernel_path os bootcsum ++ rest
IsAt (Checkout name rest) p = p ≡ checkout_path name ++ rest
IsAt (Other path) p = p ≡ path
