-- A task may begin after a sync of all, by what reads see then.
use Rattle.std.proofs.Common.{◌≡◌, Bool, true, false, ◌&&◌, refl, sym, ◌∙◌, subst, [], ◌∷◌, ◌++◌}
use Rattle.ost_types.specs.Path.{Path, is_in, is_below}
use Rattle.ost_types.proofs.Paths.{same_name-Decides, under-is_in, under-folder}
use Rattle.fs_trait.specs.declared.types.Value.{Value}
use Rattle.fs_trait.specs.declared.types.Value.TheVariants.{Absent, Folder, Link, File}
use Rattle.fs_trait.specs.View.{Disk, View, all_synced}
use Rattle.fs_trait.specs.Image.{is_folder, IsTree}
use Rattle.fs_trait.specs.Seen.{Seen, seen, shows, MayBe, IsDirectory, NotDirectory}
use Rattle.fs_trait.specs.Change.{LeadsTo}
use Rattle.fs_trait.proofs.Ways.{above}
use Rattle.fs_trait.proofs.Effects.{all_synced-firm}
use Rattle.staged_file.specs.declared.phase.Phase.TheVariants.{Clear}
use Rattle.staged_file.specs.Staged.{Staged}
use Rattle.staged_file.specs.Steps.{IsPlaced, firm_in, here_in, Needs}
use Rattle.staged_file.specs.Whole.{MayBegin}

-- what a new task needs
pub needs_new : (t : Staged) (v : View) → t.phase ≡ Clear → IsPlaced t.stage t.folder t.at → ((p : Path) (s : Seen) → MayBe v p s → LeadsTo t.folder p s)
    → NotDirectory (shows v.now t.stage) → ((p : Path) → is_in p t.stage ≡ true → IsDirectory (shows v.now p)) → Needs t v
needs_new t v is placed leads leaf parents = record {
  placed = placed;
  inode = 0;
  meets = record {
    firm = λ p s may. subst (λ ph. firm_in ph t 0 p s) (sym is) (leads p s may);
    here = λ p. subst (λ ph. here_in ph t 0 p (shows v.now p)) (sym is) ((λ e. subst (λ q. NotDirectory (shows v.now q)) (sym e) leaf), parents p);
  };
}

both_true : (a b : Bool) → a && b ≡ true → (a ≡ true) × (b ≡ true)
both_true true true e = (refl, refl)
both_true true false e = let n : false ≡ true = e in cc
both_true false b e = let n : false ≡ true = e in cc

below-rest : (p q : Path) → is_below p q ≡ true → (rest : Path) × (q ≡ p ++ rest)
unfolding is_below
below-rest [] q e = (q, refl)
below-rest (a ∷ p) [] e = let n : false ≡ true = e in cc
below-rest (a ∷ p) (x ∷ q) e =
    let s = both_true _ _ e in
    let more = below-rest p q s.1 in
    let head : a ≡ x = (same_name-Decides a x).0 s.0 in
    (more.0, cc (head, more.1))

folder_directory : (d : Disk) (z : Value) → is_folder z ≡ true → IsDirectory (seen d z)
folder_directory d (Folder m) e = tt
folder_directory d Absent e = let n : false ≡ true = e in cc
folder_directory d (Link m t) e = let n : false ≡ true = e in cc
folder_directory d (File k) e = let n : false ≡ true = e in cc

leaf_directory : (d : Disk) (z : Value) → is_folder z ≡ false → NotDirectory (seen d z)
leaf_directory d (Folder m) e = let n : true ≡ false = e in cc
leaf_directory d Absent e = tt
leaf_directory d (Link m t) e = tt
leaf_directory d (File k) e = tt

-- a sync of all changes nothing that reads see
now_is : (v : View) (p : Path) → shows (all_synced v).now p ≡ shows v.now p
unfolding all_synced
now_is v p = by (v.now.at p)
  where
    by : (z : Value) → seen (all_synced v).now z ≡ seen v.now z
    by Absent = refl
    by (Folder m) = refl
    by (Link m l) = refl
    by (File n) = refl

module _ (t : Staged) (v : View) (tree : IsTree v.now) (may : MayBegin t v.now) where
  folder_here : (p : Path) → is_folder (v.now.at p) ≡ true → IsDirectory (shows (all_synced v).now p)
  folder_here p folder = subst IsDirectory (sym (now_is v p)) (folder_directory v.now (v.now.at p) folder)

  leads : (p : Path) → is_below p t.folder ≡ true → IsDirectory (shows v.now p)
  leads p below =
      let rest = below-rest p t.folder below in
      folder_directory v.now (v.now.at p) (above v.now tree p rest.0 (subst (λ q. is_folder (v.now.at q) ≡ true) rest.1 may.folder))

  pub needs_synced : Needs t (all_synced v)
  needs_synced = needs_new t (all_synced v) may.new may.placed
      (λ p s m below. subst IsDirectory (sym ((all_synced-firm v p).each s m)) (leads p below))
      (subst NotDirectory (sym (now_is v t.stage)) (leaf_directory v.now (v.now.at t.stage) may.leaf))
      (λ p in_.
      let name = under-is_in p t.stage in_ in
      let home = may.placed.staging in
      let same : home.0 ≡ p = under-folder home.0 p home.1 name.0 (sym home.2 ∙ name.1) in
      folder_here p (subst (λ q. is_folder (v.now.at q) ≡ true) same (may.home home.0 home.1 home.2)))
