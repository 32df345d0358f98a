-- What an open repository keeps, from what the opening leaves.
use Rattle.std.proofs.Common.{◌≡◌, ◌≤◌, ℕ, true, sym, ap, subst, List, Option, Some}
use Rattle.ost_types.specs.declared.limits.Limits.{Limits}
use Rattle.ost_types.specs.declared.object.ObjName.{ObjName}
use Rattle.ost_types.specs.Path.{Path}
use Rattle.fs_trait.specs.declared.types.Value.TheVariants.{Absent}
use Rattle.fs_trait.specs.View.{Disk, View}
use Rattle.fs_trait.specs.Image.{IsTree, Told, is_folder}
use Rattle.fs_trait.specs.Change.{Left}
use Rattle.repo_layout.specs.declared.folder.Folder.{Folder}
use Rattle.rely_guarantee.specs.State.{first}
use Rattle.rely_guarantee.specs.Disks.{Logical}
use Rattle.fs_trait.specs.Seen.{Always, Vacant, seen, shows}
use Rattle.fs_trait.proofs.Facts.{vacant_absent}
use Rattle.repo_layout.specs.Paths.{folder_path, stage_path}
use Rattle.boot_read.specs.declared.row.BootRow.{BootRow}
use Rattle.boot_read.specs.Rows.{AreRowsOf}
use Rattle.store_check.specs.Listing.{AreAll}
use Rattle.layout_rules.specs.Checks.{IsSane}
use Rattle.layout_rules.proofs.Layouts.{below_split}
use Rattle.sys_open.specs.Changes.{IsArranged, Keeps}
use Rattle.sys_open.specs.Damages.{BootsList, IsGood}
use Rattle.sys_open.specs.LeftOver.{LiesIn}
use Rattle.sys_open.specs.Opened.{IsListed, IsOpened, KeepsGood, KeepsRows}
use Rattle.sys_open.specs.Opening.{AreAscending, Begins, IsGoodSince, KeepsSince}
use Rattle.sys_open.proofs.Beginning.{logical_kept}
use Rattle.sys_open.proofs.Bounds.{bounded_of}
use Rattle.sys_open.proofs.Goods.{can_go_of, deployments_of, sane_of, store_of}
use Rattle.sys_open.proofs.LeftOvers.{lies_still}
use Rattle.sys_open.proofs.ListKept.{loader_kept, rows_kept}
use Rattle.sys_open.proofs.Reopening.{still_sane}
use Rattle.sys_open.proofs.StoreKept.{all_kept, still_good}
use Rattle.sys_open.proofs.Walks.{absent_below}
use Rattle.sys_open.proofs.Working.{one_view}

-- what a system can begin with, where a sane disk was arranged
pub begins : (v w : View) → IsSane v.now → BootsList v.now → Keeps v.now w.now → IsTree w.now → IsArranged v.now w.now → ((p : Path) → Always w p (shows w.now p)) → (refs : List (List ℕ × List ℕ)) → Logical v.now (first refs) → Begins refs v w
begins v w sane boots keeps tree arranged settled refs logical = record {
  opening = record { settled = settled; folders = arranged.folders; sane = still_sane v.now w.now sane keeps; state = logical_kept v.now w.now sane keeps refs logical };
  same = logical;
  keeps = keeps;
  config = arranged.config;
  staging = λ actor small p below. let s = below_split (stage_path actor) p below in ap (seen w.now) (subst (λ q. w.now.at q ≡ Absent) (sym s.1) (absent_below w.now tree (stage_path actor) s.0 (vacant_absent w.now (stage_path actor) (arranged.staging actor small))));
  left_over = λ p lies. nothing p (lies_still v.now w.now boots.0 boots.1 (rows_kept v.now w.now keeps boots.0 boots.1) (loader_kept v.now w.now keeps boots.0 boots.1) p lies);
}
  where
    nothing : (p : Path) → LiesIn v.now p → shows w.now p ≡ Vacant
    nothing p (q, is, below) = let s = below_split q p below in ap (seen w.now) (subst (λ r. w.now.at r ≡ Absent) (sym s.1) (absent_below w.now tree q s.0 (vacant_absent w.now q (arranged.left_over q is))))

-- each disk that a crash left is good, and has the refs
pub good_since : (limits : Limits) (left : ℕ → Disk → Type 0) (opened : ℕ) (d : Disk) (refs : List (List ℕ × List ℕ)) → IsGood limits d → Logical d (first refs) → KeepsSince left opened d → IsGoodSince left opened limits (first refs)
good_since limits left opened d refs good logical keeps t e from is = let k = keeps t e from is in (still_good d e k limits good, logical_kept d e (sane_of limits d good) k refs logical)

module _ {F : Type 0} (view : F → Option View) (clock : F → ℕ) (was : F → ℕ → View → Type 0) (told : (fs gs : F) (v : View) → view fs ≡ Some v → Told (view gs) (λ w. Unit {0})) (limits : Limits)
    (old new : F) (opened : ℕ) (refs : List (List ℕ × List ℕ)) (good : (v : View) → view old ≡ Some v → IsGood limits v.now) (begin : (v : View) → view old ≡ Some v → Told (view new) (Begins refs v))
    (keeps : (v : View) → view old ≡ Some v → KeepsSince (Left (was new)) opened v.now) where
  here : (w : View) → view new ≡ Some w → (v : View) × (view old ≡ Some v) × Begins refs v w
  here w now = let b = told new old w now in let x = begin b.0 b.1 in (b.0, b.1, subst (Begins refs b.0) (one_view (view new) x.0 w x.1 now) x.2)

  since : (w : View) → view new ≡ Some w → IsGoodSince (Left (was new)) opened limits (first refs)
  since w now = let h = here w now in good_since limits (Left (was new)) opened h.0.now refs (good h.0 h.1) h.2.same (keeps h.0 h.1)

  pub is_opened : AreAscending refs → opened ≤ clock new → IsOpened view clock was new opened refs
  is_opened ascending past = record {
    ascending = ascending;
    past = past;
    opening = λ w now. (here w now).2.opening;
    staging = λ w now. (here w now).2.staging;
    left_over = λ w now. (here w now).2.left_over;
    bounded = λ w now. let h = here w now in bounded_of w.now (can_go_of limits w.now (still_good h.0.now w.now h.2.keeps limits (good h.0 h.1)));
    since = λ w now t e from left. let s = since w now t e from left in (sane_of limits e s.0, s.1);
  }

  pub keeps_good : KeepsGood view was new opened limits refs
  keeps_good = record {
    store = λ w now. let h = here w now in store_of limits w.now (still_good h.0.now w.now h.2.keeps limits (good h.0 h.1));
    config = λ w now. (here w now).2.config;
    since = since;
  }

  pub is_listed : (names : List ObjName) → ((v : View) → view old ≡ Some v → AreAll v.now names) → IsListed view new names
  is_listed names all w now = let h = here w now in all_kept h.0.now w.now h.2.keeps names (all h.0 h.1)

  module _ (rows : List BootRow) (are : (v : View) → view old ≡ Some v → AreRowsOf v.now rows) where
    rows_now : (w : View) → view new ≡ Some w → AreRowsOf w.now rows
    rows_now w now = let h = here w now in rows_kept h.0.now w.now h.2.keeps rows (are h.0 h.1)

    rows_since : (w : View) → view new ≡ Some w → (t : ℕ) (e : Disk) → opened ≤ t → Left (was new) t e → AreRowsOf e rows
    rows_since w now t e from left = let h = here w now in rows_kept h.0.now e (keeps h.0 h.1 t e from left) rows (are h.0 h.1)

    pub keeps_rows : KeepsRows view was new opened limits rows
    keeps_rows = record {
      now = rows_now;
      whole = λ w now. let h = here w now in deployments_of limits w.now (still_good h.0.now w.now h.2.keeps limits (good h.0 h.1)) rows (rows_now w now);
      since = rows_since;
      whole_since = λ w now t e from left. deployments_of limits e (since w now t e from left).0 rows (rows_since w now t e from left);
    }

  pub folders_there : (w : View) → view new ≡ Some w → (f : Folder) → is_folder (w.now.at (folder_path f)) ≡ true
  folders_there w now = (here w now).2.opening.folders
