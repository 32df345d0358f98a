-- The kernel of a tree, and why a tree can't be deployed.
use Rattle.std.specs.Prelude.{◌≡◌, ◌≤◌, ◌&&◌, nat_le, ℕ, Bool, true, false, if◌then◌else◌, List, [], ◌∷◌, ◌++◌, length, codes, Contains, Option, Some, None, Result, Ok, Err}
use Rattle.std.specs.List.{filter_map, list_all, list_any}
use Rattle.ost_types.specs.Path.{Name, Path, same_name}
use Rattle.ost_types.specs.PathMap.{Nodes}
use Rattle.ost_types.specs.declared.node.NodeName.{NodeName}
use Rattle.ost_types.specs.declared.node.NodeName.TheVariants.{Folder, Leaf}
use Rattle.boot_model.specs.Items.{is_kver_byte}
use Rattle.deploy_list.specs.declared.fault.KernelFault.{KernelFault}
use Rattle.deploy_list.specs.declared.fault.KernelFault.TheVariants.{EtcInTree, NoDefaults, NoKernel, TwoKernels}

-- 1 to 241 bytes of `A-Z a-z 0-9 - _ . + ~`
abbrev pub is_kver : Name → Bool
is_kver name = nat_le 1 (length name) && nat_le (length name) 241 && list_all is_kver_byte name

-- `/etc`
abbrev pub is_etc : Path → Bool
is_etc (etc ∷ []) = same_name etc (codes "etc")
is_etc path = false

-- `/usr/etc`
abbrev pub is_usr_etc : Path → Bool
is_usr_etc (usr ∷ etc ∷ []) = same_name usr (codes "usr") && same_name etc (codes "etc")
is_usr_etc path = false

-- a folder there
abbrev pub is_defaults : Path → NodeName → Bool
is_defaults path (Folder meta) = is_usr_etc path
is_defaults path (Leaf csum) = false

-- the folder of the versions of kernels
abbrev pub is_modules : Name → Name → Name → Bool
is_modules usr lib modules = same_name usr (codes "usr") && same_name lib (codes "lib") && same_name modules (codes "modules")

-- `/usr/lib/modules/<kver>/vmlinuz`
abbrev pub kernel_named : Path → Option Name
kernel_named (usr ∷ lib ∷ modules ∷ kver ∷ file ∷ []) = if is_modules usr lib modules && same_name file (codes "vmlinuz") && is_kver kver then Some kver else None
kernel_named path = None

-- a leaf there
abbrev pub kernel_at : Path → NodeName → Option Name
kernel_at path (Folder meta) = None
kernel_at path (Leaf csum) = kernel_named path

-- the versions of a tree's kernels, in their order
abbrev pub kernels_of : Nodes → List Name
kernels_of tree = filter_map (λ e. kernel_at e.0 e.1) tree

-- where the kernel of a version is
abbrev pub kernel_path : Name → Path
kernel_path kver = codes "usr" ∷ codes "lib" ∷ codes "modules" ∷ kver ∷ codes "vmlinuz" ∷ []

-- the tree has a kernel of this version
pub record HasKernel (tree : Nodes) (kver : Name) : Type 0 where
  pub version : is_kver kver ≡ true
  pub leaf : (csum : List ℕ) × Contains tree (kernel_path kver, Leaf csum)

-- one, or none
abbrev pub as_list : Option Name → List Name
as_list None = []
as_list (Some kver) = kver ∷ []

-- what was found, and one kernel more where the node is one
abbrev pub with_node : Option Name → Path → NodeName → List Name
with_node found path node = as_list found ++ as_list (kernel_at path node)

abbrev pub has_etc : Nodes → Bool
has_etc tree = list_any (λ e. is_etc e.0) tree

abbrev pub has_defaults : Nodes → Bool
has_defaults tree = list_any (λ e. is_defaults e.0 e.1) tree

-- there is no kernel, or there are several
abbrev pub IsNotOne : List Name → KernelFault → Type 0
IsNotOne kernels EtcInTree = ⊥
IsNotOne kernels NoDefaults = ⊥
IsNotOne kernels NoKernel = kernels ≡ []
IsNotOne kernels TwoKernels = 2 ≤ length kernels

-- The one kernel of a tree that may be deployed, or the first fault, in this order. No two answers hold of one tree.
abbrev pub Finds : Nodes → Result Name KernelFault → Type 0
Finds tree (Ok kver) = (has_etc tree ≡ false) × (has_defaults tree ≡ true) × (kernels_of tree ≡ kver ∷ [])
Finds tree (Err EtcInTree) = has_etc tree ≡ true
Finds tree (Err NoDefaults) = (has_etc tree ≡ false) × (has_defaults tree ≡ false)
Finds tree (Err NoKernel) = (has_etc tree ≡ false) × (has_defaults tree ≡ true) × (kernels_of tree ≡ [])
Finds tree (Err TwoKernels) = (has_etc tree ≡ false) × (has_defaults tree ≡ true) × (2 ≤ length (kernels_of tree))
