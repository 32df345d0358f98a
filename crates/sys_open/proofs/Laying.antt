-- What is left where the folders are laid out.
use Rattle.std.proofs.Common.{◌≡◌, ◌⊎◌, inl, inr, ⊎_elim, ◌<◌, ◌≤◌, ◌+◌, ℕ, zero, suc, true, refl, sym, ◌∙◌, ap, subst, arith, List, [], length, get_or, Option, Some, None}
use Rattle.std.proofs.lemmas.List.{get_or_default}
use Rattle.ost_types.specs.declared.meta.Meta.{Meta}
use Rattle.ost_types.specs.Path.{Name, Path, under}
use Rattle.fs_trait.specs.declared.types.Value.TheVariants as value
use Rattle.fs_trait.specs.View.{Disk, View, named}
use Rattle.fs_trait.specs.Image.{is_folder, IsTree, Told}
use Rattle.fs_trait.specs.Effect.{no_new}
use Rattle.fs_trait.specs.Seen.{Seen, Directory, seen, shows, IsDirectory}
use Rattle.fs_trait.specs.Change.{Writes}
use Rattle.fs_trait.proofs.Kept.{weaker}
use Rattle.fs_trait.proofs.Effects.{named-writes}
use Rattle.fs_trait.proofs.Facts.{no_new-free}
use Rattle.fs_trait.proofs.Images.{named-here}
use Rattle.fs_trait.proofs.Claims.{folder_shows}
use Rattle.repo_layout.specs.declared.folder.Folder.{Folder}
use Rattle.repo_layout.specs.declared.folder.Folder.TheVariants.{Ostree, Repo, Refs, Boot}
use Rattle.repo_layout.specs.Paths.{folder_path}
use Rattle.ref_room.specs.Way.{folder_meta}
use Rattle.layout_rules.specs.declared.rule.Rule.TheVariants.{FolderOrNothing}
use Rattle.layout_rules.specs.Checks.{Suits}
use Rattle.sys_open.specs.Changes.{Lays}
use Rattle.sys_open.specs.Folders.{all_folders, HasParent, IsFree}
use Rattle.sys_open.proofs.Clearings.{folder_still}
use Rattle.layout_rules.proofs.Suiting.{folder_suits, suits_same}
use Rattle.sys_open.proofs.FolderLemmas.{is_one}

pub lays_name : (v : View) (at : Path) (m : Meta) → (f : Folder) × (at ≡ folder_path f) → v.now.at at ≡ value.Absent → m ≡ folder_meta → Writes (Lays v.now) v (named at (value.Folder m) v)
lays_name v at m place absent is =
    weaker _ (Lays v.now) v (named at (value.Folder m) v) (λ q s h. ((place.0, h.0 ∙ place.1), h.1 ∙ ap Directory is, ap (shows v.now) h.0 ∙ ap (seen v.now) absent)) (named-writes v at (value.Folder m))

pub laid_name : (v : View) (at : Path) (m : Meta) (view : Option View) → view ≡ Some (named at (value.Folder m) v) → Told view (λ w. is_folder (w.now.at at) ≡ true)
laid_name v at m view told = (named at (value.Folder m) v, told, ap is_folder (named-here v at (value.Folder m)))

pub free_new : (d : Disk) → IsTree d → (at : Path) → IsFree d at → no_new at d ≡ None
free_new d tree at free =
    let p = free.1 in
    subst (λ q. no_new q d ≡ None) (sym p.2) (no_new-free d p.0 p.1 tree p.3 (subst (λ q. d.at q ≡ value.Absent) p.2 free.0))

-- what was laid out is there still, and so is what suited
pub folder_kept : (v u : View) → Writes (Lays v.now) v u → (p : Path) → is_folder (v.now.at p) ≡ true → is_folder (u.now.at p) ≡ true
folder_kept v u writes p folder = ⊎_elim (λ same. folder_still v.now u.now p same folder) (λ wrote. folder_shows u.now p (subst IsDirectory (sym wrote.1) tt)) (writes.now p)

pub suits_kept : (v u : View) → Writes (Lays v.now) v u → (p : Path) → Suits FolderOrNothing (v.now.at p) → Suits FolderOrNothing (u.now.at p)
suits_kept v u writes p suits = ⊎_elim
    (λ same. suits_same FolderOrNothing v.now u.now (v.now.at p) (u.now.at p) same suits)
    (λ wrote. folder_suits u.now (u.now.at p) (subst IsDirectory (sym wrote.1) tt))
    (writes.now p)

-- the folder above the one at a place of the list is the root, or stands at an earlier place
parent_at : (i : ℕ) → i < 11 → ((x : Name) × (folder_path (get_or all_folders i Ostree) ≡ under [] x)) ⊎ ((j : ℕ) × (j < i) × (h : Folder) × (get_or all_folders j h ≡ h) × (x : Name) × (folder_path (get_or all_folders i Ostree) ≡ under (folder_path h) x))
parent_at zero less = inl (_, refl)
parent_at (suc zero) less = inr (0, omega arith, Boot, refl, _, refl)
parent_at (suc (suc zero)) less = inl (_, refl)
parent_at (suc (suc (suc zero))) less = inl (_, refl)
parent_at (suc (suc (suc (suc zero)))) less = inr (3, omega arith, Ostree, refl, _, refl)
parent_at (suc (suc (suc (suc (suc zero))))) less = inr (3, omega arith, Ostree, refl, _, refl)
parent_at (suc (suc (suc (suc (suc (suc zero)))))) less = inr (5, omega arith, Repo, refl, _, refl)
parent_at (suc (suc (suc (suc (suc (suc (suc zero))))))) less = inr (5, omega arith, Repo, refl, _, refl)
parent_at (suc (suc (suc (suc (suc (suc (suc (suc zero)))))))) less = inr (7, omega arith, Refs, refl, _, refl)
parent_at (suc (suc (suc (suc (suc (suc (suc (suc (suc zero))))))))) less = inr (5, omega arith, Repo, refl, _, refl)
parent_at (suc (suc (suc (suc (suc (suc (suc (suc (suc (suc zero)))))))))) less = inr (5, omega arith, Repo, refl, _, refl)
parent_at (suc (suc (suc (suc (suc (suc (suc (suc (suc (suc (suc n))))))))))) less = absurd (omega (arith, less))

-- the first so many are there
abbrev pub LaidFirst : Disk → List Folder → ℕ → Type 0
LaidFirst d folders i = (k : ℕ) (f : Folder) → k < i → get_or folders k f ≡ f → is_folder (d.at (folder_path f)) ≡ true

pub parent_laid : (d : Disk) → IsTree d → (folders : List Folder) (i : ℕ) (f : Folder) → folders ≡ all_folders → i < length folders → f ≡ get_or folders i f → LaidFirst d folders i → HasParent d f
parent_laid d tree folders i f are less is laid =
    let all_of : i < 11 = let n : length folders ≡ 11 = ap length are in omega (arith, n, less) in
    let same : get_or all_folders i Ostree ≡ f = get_or_default all_folders i Ostree f all_of ∙ sym (is ∙ ap (λ l. get_or l i f) are) in
    ⊎_elim
    (λ w. ([], w.0, ap folder_path (sym same) ∙ w.1, tree.root))
    (λ w. (folder_path w.2, w.4, ap folder_path (sym same) ∙ w.5, laid w.0 w.2 w.1 (ap (λ l. get_or l w.0 w.2) are ∙ w.3)))
    (parent_at i all_of)

pub more_laid : (u w : View) (folders : List Folder) (i : ℕ) (f : Folder) → i < length folders → f ≡ get_or folders i f → Writes (Lays u.now) u w → is_folder (w.now.at (folder_path f)) ≡ true → LaidFirst u.now folders i → LaidFirst w.now folders (i + 1)
more_laid u w folders i f less is writes here before k h within is_h = by (order k i within)
  where
    order : (k i : ℕ) → k < i + 1 → (k < i) ⊎ (k ≡ i)
    order k i within = grind (arith, within)

    by : (k < i) ⊎ (k ≡ i) → is_folder (w.now.at (folder_path h)) ≡ true
    by (inl earlier) = folder_kept u w writes (folder_path h) (before k h earlier is_h)
    by (inr same) = subst (λ x. is_folder (w.now.at (folder_path x)) ≡ true) (is ∙ get_or_default folders i f h less ∙ ap (λ j. get_or folders j h) (sym same) ∙ is_h) here

pub all_laid : (d : Disk) (folders : List Folder) (i : ℕ) → folders ≡ all_folders → length folders ≤ i → LaidFirst d folders i → (f : Folder) → is_folder (d.at (folder_path f)) ≡ true
all_laid d folders i are le laid f =
    let one = is_one f in
    laid one.0 f (let n : length folders ≡ 11 = ap length are in omega (arith, n, le, one.1)) (ap (λ l. get_or l one.0 f) are ∙ one.2)

-- what is laid out later was absent at the beginning too
pub lays_from : (v u : View) → Writes (Lays v.now) v u → (p : Path) (s : Seen) → Lays u.now p s → Lays v.now p s
lays_from v u writes p s lays = (lays.0, lays.1, ⊎_elim (λ same. sym same ∙ lays.2) (λ wrote. wrote.2) (writes.now p))
