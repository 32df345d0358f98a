-- What survives the writes of others: what a tree boots, and what a sum knows, which begins with what it needs.
use Rattle.std.proofs.Common.{◌≡◌, inl, inr, List, ℕ, Option, Some, None, Result, Ok, Err, refl, sym, ◌∙◌, subst}
use Rattle.ost_types.specs.declared.node.NodeName.TheVariants.{Leaf}
use Rattle.ost_types.specs.declared.object.Kind.TheVariants.{File}
use Rattle.ost_types.specs.Path.{Path}
use Rattle.ost_types.specs.PathMap.{Nodes, node_at}
use Rattle.fs_trait.specs.View.{Disk, View}
use Rattle.fs_trait.specs.Image.{reads}
use Rattle.fs_trait.specs.Seen.{Seen}
use Rattle.fs_trait.specs.Change.{Writes}
use Rattle.repo_layout.specs.Paths.{object_path}
use Rattle.deploy_list.specs.declared.fault.KernelFault.{KernelFault}
use Rattle.deploy_list.specs.declared.fault.KernelFault.TheVariants.{EtcInTree, NoDefaults, NoKernel, TwoKernels}
use Rattle.deploy_list.specs.Kernels.{kernel_path}
use Rattle.file_copy.proofs.CopyLemmas.{reads_kept}
use Rattle.tree_kernel.specs.Boots.{Boots, IsFileAt, initramfs_path}
use Rattle.tree_kernel.specs.Sizes.{IsInitramfs}
use Rattle.tree_kernel.specs.Sum.{AreBytes}
use Rattle.tree_kernel.specs.Summing.{IsBegun, Summing}
use Rattle.tree_kernel.specs.Telling.{IsSoFar, so_far_in}
use Rattle.tree_kernel.specs.declared.find.TreeKernel.{TreeKernel}
use Rattle.tree_kernel.specs.declared.phase.SumPhase.{SumPhase}
use Rattle.tree_kernel.specs.declared.phase.SumPhase.TheVariants.{Look, Kernel, Initramfs, Finish, Ended}

-- ---- what a tree boots

module _ (d e : Disk) (tree : Nodes) (same : (p : Path) (sum : List ℕ) → node_at tree p ≡ Some (Leaf sum) → reads e (object_path File sum) ≡ reads d (object_path File sum)) where
  file_kept : (p : Path) (o : Option (List ℕ)) → IsFileAt d tree p o → IsFileAt e tree p o
  file_kept p (Some sum) at = (at.0, (at.1.0, same p sum at.0 ∙ at.1.1))
  file_kept p None none = λ sum at regular. none sum at (regular.0, sym (same p sum at) ∙ regular.1)

  answer_kept : (a : Result TreeKernel KernelFault) → Boots d tree a → Boots e tree a
  answer_kept (Ok k) boots = (boots.0, file_kept (kernel_path k.kver) (Some k.kernel) boots.1, file_kept (initramfs_path k.kver) k.initramfs boots.2)
  answer_kept (Err EtcInTree) boots = boots
  answer_kept (Err NoDefaults) boots = boots
  answer_kept (Err NoKernel) (inl finds) = inl finds
  answer_kept (Err NoKernel) (inr none) = inr (none.0, none.1, file_kept (kernel_path none.0) None none.2)
  answer_kept (Err TwoKernels) boots = boots

-- Others may write whatever isn't at the path of the object of one of the tree's leaves.
pub boots_kept : (W : Path → Seen → Type 0) (tree : Nodes) (v w : View) → Writes W v w → ((p : Path) (sum : List ℕ) → node_at tree p ≡ Some (Leaf sum) → (s : Seen) → W (object_path File sum) s → ⊥)
    → (a : Result TreeKernel KernelFault) → Boots v.now tree a → Boots w.now tree a
boots_kept W tree v w writes spared = answer_kept v.now w.now tree (λ p sum at. reads_kept W v w (object_path File sum) writes (spared p sum at))

-- ---- what a sum knows

-- A new task needs nothing of the disk.
pub sum_begun : (d : Disk) (kernel : List ℕ) (initramfs : Option (List ℕ)) (t : Summing) → IsBegun kernel initramfs t → IsSoFar d t
sum_begun d kernel initramfs t begun = subst (λ ph. so_far_in ph d t) (sym begun.phase_is) tt

-- The writes of others spare the objects of both files.
pub record Spares (W : Path → Seen → Type 0) (t : Summing) : Type 0 where
  pub first : (s : Seen) → W (object_path File t.kernel) s → ⊥
  pub second : (file : List ℕ) → t.initramfs ≡ Some file → (s : Seen) → W (object_path File file) s → ⊥

module _ (d e : Disk) (t : Summing) (first : reads e (object_path File t.kernel) ≡ reads d (object_path File t.kernel))
    (second : (file : List ℕ) → t.initramfs ≡ Some file → reads e (object_path File file) ≡ reads d (object_path File file)) where
  second_kept : (o : Option (List ℕ)) → t.initramfs ≡ o → (bytes : List ℕ) → IsInitramfs d o bytes → IsInitramfs e o bytes
  second_kept None is bytes none = none
  second_kept (Some file) is bytes there = second file is ∙ there

  are_kept : (a b : List ℕ) → AreBytes d t.kernel t.initramfs a b → AreBytes e t.kernel t.initramfs a b
  are_kept a b are = record { first_is = first ∙ are.first_is; second_is = second_kept t.initramfs refl b are.second_is }

  known_kept : (ph : SumPhase) → so_far_in ph d t → so_far_in ph e t
  known_kept Look so = tt
  known_kept (Kernel size at after) so = record {
    first = so.first;
    second = so.second;
    are = are_kept so.first so.second so.are;
    first_long = so.first_long;
    second_long = so.second_long;
    taken = so.taken;
  }
  known_kept (Initramfs size at) so = record { first = so.first; second = so.second; are = are_kept so.first so.second so.are; second_long = so.second_long; taken = so.taken }
  known_kept Finish so = record { first = so.first; second = so.second; are = are_kept so.first so.second so.are; taken = so.taken }
  known_kept (Ended sum) so = (so.0, so.1, are_kept so.0 so.1 so.2, so.3)

-- Others may write whatever isn't at the path of one of the objects.
pub sum_kept : (W : Path → Seen → Type 0) (t : Summing) (v w : View) → Writes W v w → Spares W t → IsSoFar v.now t → IsSoFar w.now t
sum_kept W t v w writes spares = known_kept v.now w.now t (reads_kept W v w (object_path File t.kernel) writes spares.first) (λ file is. reads_kept W v w (object_path File file) writes (spares.second file is)) t.phase
