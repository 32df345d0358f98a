-- A tree boots one kernel on a disk, or has one fault there.
use Rattle.std.proofs.Common.{◌≡◌, ◌≤◌, inl, inr, ℕ, Bool, true, false, List, [], ◌∷◌, length, Option, Some, None, Ok, Err, refl, sym, ◌∙◌, ap, subst, arith}
use Rattle.ost_types.specs.declared.node.NodeName.TheVariants.{Leaf}
use Rattle.ost_types.specs.Path.{Name, Path}
use Rattle.ost_types.specs.PathMap.{Nodes, node_at}
use Rattle.fs_trait.specs.View.{Disk}
use Rattle.deploy_list.specs.Kernels.{Finds, has_defaults, has_etc, kernel_path, kernels_of}
use Rattle.deploy_list.specs.declared.fault.KernelFault.{KernelFault}
use Rattle.deploy_list.specs.declared.fault.KernelFault.TheVariants.{EtcInTree, NoDefaults, NoKernel, TwoKernels}
use Rattle.tree_kernel.specs.declared.find.TreeKernel.{TreeKernel}
use Rattle.tree_kernel.specs.Boots.{Boots, BootsOnce, IsFileAt, initramfs_path}

-- ---- the version

module _ (tree : Nodes) where
  one_version : (k l : Name) → Finds tree (Ok k) → Finds tree (Ok l) → k ≡ l
  one_version k l a b = let e : k ∷ [] ≡ l ∷ [] = sym a.2 ∙ b.2 in cc

  no_fault : (k : Name) (f : KernelFault) → Finds tree (Ok k) → Finds tree (Err f) → ⊥
  no_fault k EtcInTree a b = let e : true ≡ false = sym b ∙ a.0 in cc
  no_fault k NoDefaults a b = let e : true ≡ false = sym a.1 ∙ b.1 in cc
  no_fault k NoKernel a b = let e : k ∷ [] ≡ [] = sym a.2 ∙ b.2 in cc
  no_fault k TwoKernels a b = let e : 2 ≤ length (k ∷ []) = subst (λ ks. 2 ≤ length ks) a.2 b.2 in omega (arith, e)

  clash : (x : Bool) → x ≡ true → x ≡ false → ⊥
  clash x is isnt = let e : true ≡ false = sym is ∙ isnt in cc

  few_and_many : kernels_of tree ≡ [] → 2 ≤ length (kernels_of tree) → ⊥
  few_and_many none two = omega (arith, ap length none, two)

  one_fault : (f g : KernelFault) → Finds tree (Err f) → Finds tree (Err g) → f ≡ g
  one_fault EtcInTree EtcInTree a b = refl
  one_fault EtcInTree NoDefaults a b = absurd (clash (has_etc tree) a b.0)
  one_fault EtcInTree NoKernel a b = absurd (clash (has_etc tree) a b.0)
  one_fault EtcInTree TwoKernels a b = absurd (clash (has_etc tree) a b.0)
  one_fault NoDefaults EtcInTree a b = absurd (clash (has_etc tree) b a.0)
  one_fault NoDefaults NoDefaults a b = refl
  one_fault NoDefaults NoKernel a b = absurd (clash (has_defaults tree) b.1 a.1)
  one_fault NoDefaults TwoKernels a b = absurd (clash (has_defaults tree) b.1 a.1)
  one_fault NoKernel EtcInTree a b = absurd (clash (has_etc tree) b a.0)
  one_fault NoKernel NoDefaults a b = absurd (clash (has_defaults tree) a.1 b.1)
  one_fault NoKernel NoKernel a b = refl
  one_fault NoKernel TwoKernels a b = absurd (few_and_many a.2 b.2)
  one_fault TwoKernels EtcInTree a b = absurd (clash (has_etc tree) b a.0)
  one_fault TwoKernels NoDefaults a b = absurd (clash (has_defaults tree) a.1 b.1)
  one_fault TwoKernels NoKernel a b = absurd (few_and_many b.2 a.2)
  one_fault TwoKernels TwoKernels a b = refl

-- ---- the files

module _ (d : Disk) (tree : Nodes) where
  one_file : (p : Path) (o q : Option (List ℕ)) → IsFileAt d tree p o → IsFileAt d tree p q → o ≡ q
  one_file p None None a b = refl
  one_file p None (Some y) a b = absurd (a y b.0 b.1)
  one_file p (Some x) None a b = absurd (b x a.0 a.1)
  one_file p (Some x) (Some y) a b = let e : Some (Leaf x) ≡ Some (Leaf y) = sym a.0 ∙ b.0 in cc

  abbrev as_found : Name → List ℕ → Option (List ℕ) → TreeKernel
  as_found kver kernel initramfs = record { kver = kver; kernel = kernel; initramfs = initramfs }

  one_kernel : (k l : TreeKernel) → Boots d tree (Ok k) → Boots d tree (Ok l) → k ≡ l
  one_kernel k l a b =
      let version : k.kver ≡ l.kver = one_version tree k.kver l.kver a.0 b.0 in
      let kernel : Some k.kernel ≡ Some l.kernel = one_file (kernel_path l.kver) (Some k.kernel) (Some l.kernel) (subst (λ v. IsFileAt d tree (kernel_path v) (Some k.kernel)) version a.1) b.1 in
      let initramfs : k.initramfs ≡ l.initramfs = one_file (initramfs_path l.kver) k.initramfs l.initramfs (subst (λ v. IsFileAt d tree (initramfs_path v) k.initramfs) version a.2) b.2 in
      let same : k.kernel ≡ l.kernel = cc in
      ap (λ v. as_found v k.kernel k.initramfs) version ∙ ap (λ sum. as_found l.kver sum k.initramfs) same ∙ ap (as_found l.kver l.kernel) initramfs

  no_kernel_and_one : (k : TreeKernel) → Boots d tree (Ok k) → Boots d tree (Err NoKernel) → ⊥
  no_kernel_and_one k a (inl finds) = no_fault tree k.kver NoKernel a.0 finds
  no_kernel_and_one k a (inr none) = none.2 k.kernel (ap (λ v. node_at tree (kernel_path v)) (one_version tree none.0 k.kver none.1 a.0) ∙ a.1.0) a.1.1

  fault_and_kernel : (k : TreeKernel) (f : KernelFault) → Boots d tree (Ok k) → Boots d tree (Err f) → ⊥
  fault_and_kernel k EtcInTree a b = no_fault tree k.kver EtcInTree a.0 b
  fault_and_kernel k NoDefaults a b = no_fault tree k.kver NoDefaults a.0 b
  fault_and_kernel k NoKernel a b = no_kernel_and_one k a b
  fault_and_kernel k TwoKernels a b = no_fault tree k.kver TwoKernels a.0 b

  -- whatever else is told of a tree without a kernel that is a regular file
  no_kernel_alone : (f : KernelFault) → Boots d tree (Err NoKernel) → Finds tree (Err f) → NoKernel ≡ f
  no_kernel_alone f (inl finds) b = one_fault tree NoKernel f finds b
  no_kernel_alone f (inr none) b = absurd (no_fault tree none.0 f none.1 b)

  same_fault : (f g : KernelFault) → Boots d tree (Err f) → Boots d tree (Err g) → f ≡ g
  same_fault NoKernel NoKernel a b = refl
  same_fault NoKernel EtcInTree a b = no_kernel_alone EtcInTree a b
  same_fault NoKernel NoDefaults a b = no_kernel_alone NoDefaults a b
  same_fault NoKernel TwoKernels a b = no_kernel_alone TwoKernels a b
  same_fault EtcInTree NoKernel a b = sym (no_kernel_alone EtcInTree b a)
  same_fault NoDefaults NoKernel a b = sym (no_kernel_alone NoDefaults b a)
  same_fault TwoKernels NoKernel a b = sym (no_kernel_alone TwoKernels b a)
  same_fault EtcInTree EtcInTree a b = refl
  same_fault EtcInTree NoDefaults a b = one_fault tree EtcInTree NoDefaults a b
  same_fault EtcInTree TwoKernels a b = one_fault tree EtcInTree TwoKernels a b
  same_fault NoDefaults EtcInTree a b = one_fault tree NoDefaults EtcInTree a b
  same_fault NoDefaults NoDefaults a b = refl
  same_fault NoDefaults TwoKernels a b = one_fault tree NoDefaults TwoKernels a b
  same_fault TwoKernels EtcInTree a b = one_fault tree TwoKernels EtcInTree a b
  same_fault TwoKernels NoDefaults a b = one_fault tree TwoKernels NoDefaults a b
  same_fault TwoKernels TwoKernels a b = refl

pub boots_once : BootsOnce
boots_once d tree (Ok k) (Ok l) a b = ap Ok (one_kernel d tree k l a b)
boots_once d tree (Ok k) (Err f) a b = absurd (fault_and_kernel d tree k f a b)
boots_once d tree (Err f) (Ok k) a b = absurd (fault_and_kernel d tree k f b a)
boots_once d tree (Err f) (Err g) a b = ap Err (same_fault d tree f g a b)
