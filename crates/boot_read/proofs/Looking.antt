-- What the answers of the file system say of a file, of a folder and of what stands at a path.
use Rattle.std.proofs.Common.{◌≡◌, ◌≢◌, ◌⊎◌, inl, inr, ℕ, zero, suc, ◌<◌, ◌≤◌, true, false, refl, sym, ◌∙◌, ap, subst, List, [], length, take, arith, Option, Some, None, Result, Ok, Err}
use Rattle.std.specs.Prelude.{IfErr, IfOk, MatchOption}
use Rattle.std.specs.Option.{option_map}
use Rattle.std.specs.List.Sorted.{IsStrictlySortedBy}
use Rattle.ost_types.specs.Path.{Name, Path}
use Rattle.fs_trait.specs.declared.types.Value.{Value}
use Rattle.fs_trait.specs.declared.types.Value.TheVariants.{Absent, Folder, Link, File}
use Rattle.fs_trait.specs.declared.types.Node as node
use Rattle.fs_trait.specs.declared.types.FsErr.{FsErr}
use Rattle.fs_trait.specs.declared.types.FsErr.TheVariants.{Failed}
use Rattle.fs_trait.specs.View.{Disk}
use Rattle.fs_trait.specs.Image.{IsTree, is_folder, reads}
use Rattle.fs_trait.specs.Seen.{Vacant, Directory, Symlink, Leaf, seen, shows}
use Rattle.fs_trait.specs.Effect.{IsListing, IsNode, inode_of, no_file, no_folder, or_else, part, unless_file, way}
use Rattle.fs_trait.proofs.Images.{folder_or_not}
use Rattle.fs_trait.proofs.Refusals.{no_file-there, no_folder-there}
use Rattle.repo_layout.specs.declared.fixed.Version.{Version}
use Rattle.repo_layout.specs.declared.fixed.Version.TheVariants.{Zero, One}
use Rattle.repo_layout.specs.Fixed.{number}
use Rattle.repo_layout.specs.BootPaths.{boot_link_path, loader_path}
use Rattle.boot_model.specs.Entries.{boot_target, loader_target}
use Rattle.boot_model.specs.Listing.{IsLinkTo, Selects}
use Rattle.boot_read.specs.declared.fault.ListFault.{ListFault}
use Rattle.boot_read.specs.declared.fault.ListFault.TheVariants.{BadLink, TooMany, BadEntry, NoDeployment, Fs, NoMemory}
use Rattle.boot_read.specs.Faults.{HasCauseOf, IsFault, IsOfCall, IsOfNoCall, NamesNoRule, NoLoader}
use Rattle.boot_read.specs.Links.{HasSub}
use Rattle.boot_read.specs.Steps.{IsNodeTo, either_of, is_folder_node}

-- ---- results

-- what a result is known to be is so
pub told_as : {T E : Type 0} (r : Result T E) (x : T) (P : T → Type 0) → IfOk r (λ o. o ≡ x) → P x → IfOk r P
told_as (Ok y) x P is has = subst P (sym is) has
told_as (Err e) x P is has = tt

abbrev err_of : (T : Type 0) → ListFault → Result T ListFault
err_of T e = Err e

-- a fault that no call gave has no cause in one
names_none : (e : ListFault) → IsOfNoCall e → NamesNoRule e
names_none (BadLink path) no_call = tt
names_none (TooMany path) no_call = tt
names_none (BadEntry path fault) no_call = tt
names_none (NoDeployment path) no_call = tt
names_none (Fs error) no_call = absurd no_call
names_none NoMemory no_call = tt

pub fault_cause : {T : Type 0} (before now : ℕ) (e : ListFault) → before ≤ now → IsOfNoCall e → HasCauseOf {T = T} before now (Err e)
fault_cause {T} before now e later no_call = record {
  later = later;
  failed = λ is. let n : err_of T e ≡ err_of T (Fs Failed) = is in let same : e ≡ Fs Failed = cc in absurd (subst IsOfNoCall same no_call);
  named = names_none e no_call;
}

pub no_cause : {T : Type 0} (before now : ℕ) (r : Result T ListFault) → before ≤ now → IfErr r IsOfNoCall → HasCauseOf before now r
no_cause {T} before now (Ok x) later no_call = record { later = later; failed = λ is. let n : Ok x ≡ err_of T (Fs Failed) = is in cc; named = tt }
no_cause {T} before now (Err e) later no_call = fault_cause before now e later no_call

pub memory_cause : {T : Type 0} (before now : ℕ) (r : Result T ListFault) → before ≤ now → IfErr r (λ e. e ≡ NoMemory) → HasCauseOf before now r
memory_cause {T} before now (Ok x) later memory = no_cause before now (Ok x) later tt
memory_cause {T} before now (Err e) later memory = no_cause before now (Err e) later (subst IsOfNoCall (sym memory) tt)

pub memory_only : {T : Type 0} (r : Result T ListFault) → IfErr r (λ e. e ≡ NoMemory) → IfErr r IsOfCall
memory_only (Ok x) memory = tt
memory_only (Err e) memory = subst IsOfCall (sym memory) tt

pub of_call : (d : Disk) (f : ListFault) → IsOfCall f → IsFault d f
of_call d (BadLink path) is = absurd is
of_call d (TooMany path) is = absurd is
of_call d (BadEntry path fault) is = absurd is
of_call d (NoDeployment path) is = absurd is
of_call d (Fs error) is = is
of_call d NoMemory is = tt

-- ---- a file

later_none : (a b : Option FsErr) → or_else a b ≡ None → b ≡ None
later_none None b e = e
later_none (Some x) b e = let n : Some x ≡ None = e in cc

pub front_some : (d : Disk) (p : Path) (most : ℕ) (b : List ℕ) → no_file p d ≡ None → b ≡ part 0 most (d.bytes (inode_of (d.at p))) → Some b ≡ option_map (take most) (reads d p)
unfolding no_file reads
front_some d p most b free is = by (d.at p) refl (later_none (way d p) (unless_file (d.at p)) free)
  where
    by : (z : Value) → d.at p ≡ z → unless_file (d.at p) ≡ None → Some b ≡ option_map (take most) (reads d p)
    by (File n) at none = rw at (ap Some (is ∙ ap (λ x. take most (d.bytes (inode_of x))) at))
    by Absent at none = let n : unless_file Absent ≡ None = subst (λ x. unless_file x ≡ None) at none in cc
    by (Folder m) at none = let n : unless_file (Folder m) ≡ None = subst (λ x. unless_file x ≡ None) at none in cc
    by (Link m t) at none = let n : unless_file (Link m t) ≡ None = subst (λ x. unless_file x ≡ None) at none in cc

pub front_none : (d : Disk) (p : Path) (most : ℕ) (e : FsErr) → IsTree d → no_file p d ≡ Some e → None ≡ option_map (take most) (reads d p)
unfolding reads
front_none d p most e tree refused = by (d.at p) refl
  where
    by : (z : Value) → d.at p ≡ z → None ≡ option_map (take most) (reads d p)
    by (File n) at = let no_ : None ≡ Some e = sym (no_file-there d tree p n at) ∙ refused in cc
    by Absent at = rw at refl
    by (Folder m) at = rw at refl
    by (Link m t) at = rw at refl

-- ---- a folder

pub nothing_listed : (d : Disk) (at : Path) (e : FsErr) → IsTree d → no_folder at d ≡ Some e → (names : List Name) → names ≡ [] → IsListing d at names
unfolding IsStrictlySortedBy
nothing_listed d at e tree refused names none = subst (IsListing d at) (sym none) (record {
  ascending = tt;
  there = λ x has. absurd (omega (arith, has.1));
  all = λ x there. absurd (there (tree.folders at x (no_folder_at (folder_or_not (d.at at)))));
})
  where
    no_folder_at : (is_folder (d.at at) ≡ true) ⊎ (is_folder (d.at at) ≡ false) → is_folder (d.at at) ≡ false
    no_folder_at (inl folder) = let n : None ≡ Some e = sym (no_folder-there d tree at folder) ∙ refused in cc
    no_folder_at (inr is) = is

-- ---- what stands at a path

pub vacant_at : (d : Disk) (z : Value) → IsNode d z None → seen d z ≡ Vacant
vacant_at d Absent is = refl
vacant_at d (Folder m) is = let n : None ≡ Some (node.TheVariants.Folder m) = is in cc
vacant_at d (Link m t) is = let n : None ≡ Some (node.TheVariants.Link m t) = is in cc
vacant_at d (File k) is = let n : None ≡ Some (node.TheVariants.File (d.meta k) (length (d.bytes k))) = is in cc

pub there_at : (d : Disk) (z : Value) (n : node.Node) → IsNode d z (Some n) → seen d z ≢ Vacant
there_at d Absent n is e = let no_ : Some n ≡ None = is in cc
there_at d (Folder m) n is e = let no_ : Directory m ≡ Vacant = e in cc
there_at d (Link m t) n is e = let no_ : Symlink m t ≡ Vacant = e in cc
there_at d (File k) n is e = let no_ : Leaf k (d.meta k) (d.bytes k) ≡ Vacant = e in cc

some_node : (a b : node.Node) → Some a ≡ Some b → a ≡ b
some_node a b e = cc

-- a link is told as one, and nothing else is
pub link_at : (d : Disk) (z : Value) (n : node.Node) (target : List ℕ) → IsNode d z (Some n) → IsNodeTo target n → IsLinkTo target (seen d z)
link_at d Absent n target is to = let no_ : Some n ≡ None = is in cc
link_at d (Folder m) n target is to = let e : node.TheVariants.Folder m ≡ node.TheVariants.Link to.0 target = sym (some_node n (node.TheVariants.Folder m) is) ∙ to.1 in cc
link_at d (Link m t) n target is to = let e : node.TheVariants.Link m t ≡ node.TheVariants.Link to.0 target = sym (some_node n (node.TheVariants.Link m t) is) ∙ to.1 in (m, let same : t ≡ target = cc in ap (λ x. Symlink m x) same)
link_at d (File k) n target is to = let e : node.TheVariants.File (d.meta k) (length (d.bytes k)) ≡ node.TheVariants.Link to.0 target = sym (some_node n (node.TheVariants.File (d.meta k) (length (d.bytes k))) is) ∙ to.1 in cc

pub link_from : (d : Disk) (z : Value) (n : node.Node) (target : List ℕ) → IsNode d z (Some n) → IsLinkTo target (seen d z) → IsNodeTo target n
link_from d Absent n target is to = let e : Vacant ≡ Symlink to.0 target = to.1 in cc
link_from d (Folder m) n target is to = let e : Directory m ≡ Symlink to.0 target = to.1 in cc
link_from d (Link m t) n target is to =
    let e : Symlink m t ≡ Symlink to.0 target = to.1 in
    let same : t ≡ target = cc in
    (m, some_node n (node.TheVariants.Link m t) is ∙ ap (λ x. node.TheVariants.Link m x) same)
link_from d (File k) n target is to = let e : Leaf k (d.meta k) (d.bytes k) ≡ Symlink to.0 target = to.1 in cc

pub folder_at : (d : Disk) (z : Value) (o : Option node.Node) → IsNode d z o → is_folder_node o ≡ is_folder z
folder_at d Absent o is = ap is_folder_node is
folder_at d (Folder m) o is = ap is_folder_node is
folder_at d (Link m t) o is = ap is_folder_node is
folder_at d (File k) o is = ap is_folder_node is

-- ---- versions

loader_of : (v : Version) (a b : List ℕ) → a ≡ loader_target 0 → b ≡ loader_target 1 → either_of a b v ≡ loader_target (number v)
loader_of Zero a b one two = one
loader_of One a b one two = two

sub_of : (loader : ℕ) (v : Version) (a b : List ℕ) → a ≡ boot_target loader 0 → b ≡ boot_target loader 1 → either_of a b v ≡ boot_target loader (number v)
sub_of loader Zero a b one two = one
sub_of loader One a b one two = two

-- one of two
pub which : (n : ℕ) → n < 2 → (v : Version) × (number v ≡ n)
which zero less = (Zero, refl)
which (suc zero) less = (One, refl)
which (suc (suc n)) less = absurd (omega (arith, less))

pub small : (v : Version) → number v < 2
small Zero = omega arith
small One = omega arith

module _ (d : Disk) (p : Path) (n : node.Node) (is : IsNode d (d.at p) (Some n)) (a b : List ℕ) (o : Option Version)
    (told : MatchOption o ((v : Version) → ¬ (IsNodeTo (either_of a b v) n)) (λ v. IsNodeTo (either_of a b v) n)) where
  none_of : o ≡ None → (v : Version) → ¬ (IsNodeTo (either_of a b v) n)
  none_of e = subst (λ x. MatchOption x ((v : Version) → ¬ (IsNodeTo (either_of a b v) n)) (λ v. IsNodeTo (either_of a b v) n)) e told

  some_of : (v : Version) → o ≡ Some v → IsNodeTo (either_of a b v) n
  some_of v e = subst (λ x. MatchOption x ((v : Version) → ¬ (IsNodeTo (either_of a b v) n)) (λ v. IsNodeTo (either_of a b v) n)) e told

  link_to : (q : Path) (v : Version) (target : List ℕ) → p ≡ q → either_of a b v ≡ target → o ≡ Some v → IsLinkTo target (shows d q)
  link_to q v target at same e = subst (λ x. IsLinkTo target (shows d x)) at (link_at d (d.at p) n target is (subst (λ t. IsNodeTo t n) same (some_of v e)))

  not_link_to : (q : Path) (v : Version) (target : List ℕ) → p ≡ q → either_of a b v ≡ target → o ≡ None → ¬ (IsLinkTo target (shows d q))
  not_link_to q v target at same e link = none_of e v (subst (λ t. IsNodeTo t n) (sym same) (link_from d (d.at p) n target is (subst (λ x. IsLinkTo target (shows d x)) (sym at) link)))

  pub selects : p ≡ loader_path → a ≡ loader_target 0 → b ≡ loader_target 1 → (v : Version) → o ≡ Some v → Selects d (number v)
  selects at one two v e = record { small = small v; link = link_to loader_path v (loader_target (number v)) at (loader_of v a b one two) e }

  pub selects_none : p ≡ loader_path → a ≡ loader_target 0 → b ≡ loader_target 1 → o ≡ None → NoLoader d
  selects_none at one two e = record {
    there = subst (λ q. shows d q ≢ Vacant) at (there_at d (d.at p) n is);
    none = λ loader sel. let w = which loader sel.small in
        not_link_to loader_path w.0 (loader_target (number w.0)) at (loader_of w.0 a b one two) e (subst (λ k. IsLinkTo (loader_target k) (shows d loader_path)) (sym w.1) sel.link);
  }

  pub has_sub : (loader : ℕ) → p ≡ boot_link_path loader → a ≡ boot_target loader 0 → b ≡ boot_target loader 1 → (v : Version) → o ≡ Some v → HasSub d loader (number v)
  has_sub loader at one two v e = record { small = small v; link = link_to (boot_link_path loader) v (boot_target loader (number v)) at (sub_of loader v a b one two) e }

  pub has_no_sub : (loader : ℕ) → p ≡ boot_link_path loader → a ≡ boot_target loader 0 → b ≡ boot_target loader 1 → o ≡ None → (sub : ℕ) → ¬ (HasSub d loader sub)
  has_no_sub loader at one two e sub has =
      let w = which sub has.small in
      not_link_to (boot_link_path loader) w.0 (boot_target loader (number w.0)) at (sub_of loader w.0 a b one two) e (subst (λ k. IsLinkTo (boot_target loader k) (shows d (boot_link_path loader))) (sym w.1) has.link)

pub vacant_sub : (d : Disk) (loader : ℕ) → shows d (boot_link_path loader) ≡ Vacant → (sub : ℕ) → ¬ (HasSub d loader sub)
vacant_sub d loader vacant sub is = let e : Vacant ≡ Symlink is.link.0 (boot_target loader sub) = sym vacant ∙ is.link.1 in cc
