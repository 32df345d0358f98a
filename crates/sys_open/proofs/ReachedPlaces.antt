-- That what stands at a path and below it can be removed.
use Rattle.std.proofs.Common.{◌≡◌, ◌<◌, ◌≤◌, ℕ, true, false, refl, sym, ◌∙◌, ap, subst, arith, List, [], length, get_or, Err}
use Rattle.std.proofs.lemmas.List.{get_or_default}
use Rattle.ost_types.specs.Path.{Name, Path}
use Rattle.ost_types.proofs.Paths.{is_below-self}
use Rattle.fs_trait.specs.declared.types.Value.{Value}
use Rattle.fs_trait.specs.declared.types.Value.TheVariants.{Absent, Folder, Link, File}
use Rattle.fs_trait.specs.View.{Disk}
use Rattle.fs_trait.specs.Image.{is_folder, IsTree}
use Rattle.fs_trait.specs.Effect.{IsListing}
use Rattle.repo_layout.specs.Refs.{is_leaf}
use Rattle.sys_open.specs.declared.fault.OpenFault.{OpenFault}
use Rattle.sys_open.specs.declared.fault.OpenFault.TheVariants as fault
use Rattle.sys_open.specs.declared.fault.Why.{Why}
use Rattle.layout_rules.specs.Checks.{IsReached}
use Rattle.sys_open.specs.Walk.{IsSoBelow, IsFirstBelow, Looked, Walked, paths_in}
use Rattle.sys_open.proofs.Walks.{leaf_walk, first_here, folder_walk, folder_first}

pub leaf_no_folder : (z : Value) → is_leaf z ≡ true → is_folder z ≡ false
leaf_no_folder Absent e = refl
leaf_no_folder (Link m t) e = refl
leaf_no_folder (File n) e = refl
leaf_no_folder (Folder m) e = let n : false ≡ true = e in cc

-- what was told at the path itself is the first of all below it
pub walked_here : (T U : Type 0) (So : Path → Type 0) (why : Why) (at : Path) (f : OpenFault) → Looked {T = T} (So at) why at (Err f) → Walked {T = U} So why at (Err f)
walked_here T U So why at fault.Disk looked = tt
walked_here T U So why at fault.NoMemory looked = tt
walked_here T U So why at (fault.Damaged p y) looked = (looked.0, subst (λ q. IsFirstBelow So at q) (sym looked.1) (first_here So at looked.2 (is_below-self at)))
walked_here T U So why at (fault.Outside p) looked = looked

module _ (d : Disk) (tree : IsTree d) (So : Path → Type 0) (vacant : (q : Path) → d.at q ≡ Absent → So q) (why : Why) (at : Path) (paths : List Path) (names : List Name) (are : paths ≡ paths_in at names) (listing : IsListing d at names) (here : So at) (i : ℕ) (before : (k : ℕ) → k < i → IsSoBelow So (get_or paths k [])) where
  -- what was told of one path in a folder, after those before it
  pub walked_later : (T : Type 0) → i < length paths → (f : OpenFault) (x : Path) → x ≡ get_or paths i x → Walked {T = T} So why x (Err f) → Walked {T = T} So why at (Err f)
  walked_later T inside fault.Disk x is walked = tt
  walked_later T inside fault.NoMemory x is walked = tt
  walked_later T inside (fault.Damaged p y) x is walked =
      let same : x ≡ get_or paths i [] = is ∙ get_or_default paths i x [] inside in
      (walked.0, folder_first d tree So vacant at paths names are listing here i inside before p (subst (λ q. IsFirstBelow So q p) same walked.1))
  walked_later T inside (fault.Outside p) x is walked = walked

  pub walked_all : length paths ≤ i → IsSoBelow So at
  walked_all le = folder_walk d tree So vacant at paths names are listing here (λ k less. before k (omega (arith, less, le)))

module _ (d : Disk) (tree : IsTree d) where
  pub reached_vacant : (q : Path) → d.at q ≡ Absent → IsReached d q
  reached_vacant q none x there = absurd (there (tree.folders q x (ap is_folder none)))

  pub reached_leaf : (at : Path) → is_folder (d.at at) ≡ false → IsSoBelow (IsReached d) at
  reached_leaf at none = leaf_walk d tree (IsReached d) reached_vacant at none (λ x there. absurd (there (tree.folders at x none)))
