-- What was read comes before the next path, and what is wrong there.
use Rattle.std.proofs.Common.{◌≡◌, arith, ◌≢◌, ℕ, ⊎_elim, sym, ◌∙◌, ap, subst, List, ◌∷◌, ◌++◌}
use Rattle.std.specs.declared.cmp.Ordering.TheVariants.{Less}
use Rattle.ost_types.specs.declared.limits.Limits.{Limits}
use Rattle.ost_types.specs.Path.{Path, path_cmp, under}
use Rattle.ost_types.specs.PathMap.{Nodes, paths_of}
use Rattle.fs_trait.specs.View.{Disk}
use Rattle.fs_trait.specs.Seen.{Vacant, shows, NotDirectory}
use Rattle.fs_trait.proofs.Facts.{vacant_absent}
use Rattle.checkout.proofs.RemoveLists.{cons_cases}
use Rattle.tree_scan.specs.Faults.{IsBefore, IsFault, IsUnreadable, HasFar}
use Rattle.tree_scan.specs.Looking.{Tells}
use Rattle.tree_scan.specs.SoFar.{ComesBefore, IsSoFar, Waits}
use Rattle.tree_scan.specs.Steps.{IsNoFolder, IsOdd, IsThere, IsFar, Stops}
use Rattle.tree_scan.specs.declared.fault.ScanFault.{ScanFault}
use Rattle.tree_scan.specs.declared.fault.ScanFault.TheVariants.{NotFolder, Unreadable, TooMany, TooLong}
use Rattle.tree_scan.specs.declared.look.Looked.{Looked}
use Rattle.tree_scan.specs.declared.look.Looked.TheVariants as looks
use Rattle.tree_scan.proofs.Lists.{all_has}
use Rattle.tree_scan.proofs.Orders.{not_above, not_before}
use Rattle.tree_scan.proofs.Passing.{state}
use Rattle.tree_scan.proofs.Trees.{at_root, directory_shown, is_directory, leaf_no_folder, leaf_shown, vacant_no_folder}

module _ (d : Disk) (at : Path) (limits : Limits) (found : Nodes) (p : Path) (rest : List Path) (so : IsSoFar d (state at limits (p ∷ rest) found)) where
  -- what waits doesn't come before the next path
  waits_later : (q : Path) → Waits (p ∷ rest) q → path_cmp q p ≡ Less → ⊥
  waits_later q w less =
      let less : path_cmp (w.item ++ w.rest) p ≡ Less = ap (λ z. path_cmp z p) (sym w.is) ∙ less in
      ⊎_elim
      (λ is. not_above p w.rest (ap (λ z. path_cmp (z ++ w.rest) p) (sym is) ∙ less))
      (λ has. not_before p w.item w.rest (all_has (ComesBefore p) rest w.item so.line.0 has) less)
      (cons_cases w.item p rest w.among)

  read_before : IsBefore d at limits found p
  read_before = record {
    sound = so.sound;
    earlier = λ q has. all_has (λ r. path_cmp r p ≡ Less) (paths_of found) q so.after.0 has;
    all = λ q shown less. ⊎_elim (λ has. has) (λ w. absurd (waits_later q w less)) (so.all q shown);
    kept = so.kept;
    few = so.few;
  }

no_directory : (d : Disk) (p : Path) (limit : ℕ) (l : Looked) → Tells d p limit l → IsNoFolder l → NotDirectory (shows d p)
no_directory d p limit looks.Nothing tells is = vacant_no_folder (shows d p) tells
no_directory d p limit (looks.Folder m names) tells is = absurd is
no_directory d p limit looks.OddFolder tells is = absurd is
no_directory d p limit (looks.Leaf sum) tells is = leaf_no_folder (shows d p) tells.0.leaf
no_directory d p limit looks.OddLeaf tells is = leaf_no_folder (shows d p) tells.0

odd : (d : Disk) (p q : Path) (limit : ℕ) (l : Looked) → Tells d p limit l → IsOdd q l → IsUnreadable limit (shows d p)
odd d p q limit looks.Nothing tells is = absurd is
odd d p q limit (looks.Folder m names) tells is = absurd is
odd d p q limit looks.OddFolder tells is = tells.1
odd d p q limit (looks.Leaf sum) tells is = absurd is
odd d p q limit looks.OddLeaf tells is = tells.1

there : (d : Disk) (p : Path) (limit : ℕ) (l : Looked) → Tells d p limit l → IsThere l → shows d p ≢ Vacant
there d p limit looks.Nothing tells is = absurd is
there d p limit (looks.Folder m names) tells is = directory_shown (shows d p) (is_directory (shows d p) m tells.0)
there d p limit looks.OddFolder tells is = absurd is
there d p limit (looks.Leaf sum) tells is = leaf_shown (shows d p) tells.0.leaf
there d p limit looks.OddLeaf tells is = absurd is

far : (d : Disk) (p : Path) (limit : ℕ) (l : Looked) → Tells d p limit l → IsFar p l → HasFar d p
far d p limit looks.Nothing tells is = absurd is
far d p limit (looks.Folder m names) tells (x, has, none) = record {
  is_folder = is_directory (shows d p) m tells.0;
  name = x;
  there = λ v. tells.1.there x has (vacant_absent d (under p x) v);
  far = none;
}
far d p limit looks.OddFolder tells is = absurd is
far d p limit (looks.Leaf sum) tells is = absurd is
far d p limit looks.OddLeaf tells is = absurd is

module _ (d : Disk) (at : Path) (limits : Limits) (found : Nodes) (p : Path) (rest : List Path) (so : IsSoFar d (state at limits (p ∷ rest) found)) where
  before : IsBefore d at limits found p
  before = read_before d at limits found p rest so

  pub stops_told : (l : Looked) → Tells d (at ++ p) limits.content l → (fault : ScanFault) → Stops (state at limits (p ∷ rest) found) p l fault → IsFault d at limits found fault
  stops_told l tells NotFolder (root, none) = subst (λ q. NotDirectory (shows d q)) (ap (λ q. at ++ q) root ∙ at_root at) (no_directory d (at ++ p) limits.content l tells none)
  stops_told l tells (Unreadable q) (is, bad) =
      subst (λ r. IsUnreadable limits.content (shows d (at ++ r)) × IsBefore d at limits found r) (sym is) (odd d (at ++ p) p limits.content l tells bad, before)
  stops_told l tells TooMany (full, is) = record { path = p; there = there d (at ++ p) limits.content l tells is; before = before; full = let few = so.few in omega (arith, full, few) }
  stops_told l tells (TooLong q) (is, long) = subst (λ r. HasFar d (at ++ r) × IsBefore d at limits found r) (sym is) (far d (at ++ p) limits.content l tells long, before)
