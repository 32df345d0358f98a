-- Where the list is read each crash leaves what there is now, and so it is left.
use Rattle.std.proofs.Common.{◌≡◌, ◌⊎◌, inl, inr, ⊎_elim, true, false, IsTrue, sym, ◌∙◌, ap, subst, List, [], ◌∷◌, ◌++◌, append-nil, append_assoc}
use Rattle.ost_types.specs.Path.{Name, Path, is_below, under}
use Rattle.fs_trait.specs.View.{Disk, View}
use Rattle.fs_trait.specs.Image.{Image, IsTree, is_folder}
use Rattle.fs_trait.specs.Seen.{Seen, Always, MayBe, seen, shows}
use Rattle.fs_trait.proofs.Claims.{Image-root, Image-under, is_below-before}
use Rattle.fs_trait.proofs.Images.{folder_or_not, not_both}
use Rattle.boot_read.specs.declared.row.BootRow.{BootRow}
use Rattle.boot_read.specs.Rows.{AreRowsOf}
use Rattle.durable_list.specs.Standing.{IsListPath, IsOnTheWay, ListStands, SparesList}
use Rattle.durable_list.proofs.Same.{path_back, same_folder, same_rows}

pub itself : (p : Path) → is_below p p ≡ true
itself p = subst (λ q. is_below p q ≡ true) (append-nil p) (is_below-before p [])

module _ (v : View) (d : Disk) (tree : IsTree v.now) (i : Image v d) where
  -- no folder stood there before, where none is left
  no_folder : (p : Path) → shows d p ≡ shows v.now p → is_folder (d.at p) ≡ false → is_folder (v.now.at p) ≡ false
  no_folder p same none = ⊎_elim (λ is. absurd (not_both (same_folder v.now d p same is) none)) (λ no_. no_) (folder_or_not (v.now.at p))

  below_one : (g : Path) (x : Name) → ((s : Seen) → MayBe v (under g x) s → s ≡ shows v.now (under g x)) → shows d g ≡ shows v.now g → (is_folder (d.at g) ≡ true) ⊎ (is_folder (d.at g) ≡ false)
      → shows d (under g x) ≡ shows v.now (under g x)
  below_one g x sure here (inl folder) = sure (shows d (under g x)) (Image-under v d i g x folder)
  below_one g x sure here (inr none) = ap (seen d) (i.gone g x none) ∙ sym (ap (seen v.now) (tree.folders g x (no_folder g here none)))

  -- on the way from a folder
  along : (g rest : Path) → ((p : Path) (s : Seen) → IsTrue (is_below p (g ++ rest)) → MayBe v p s → s ≡ shows v.now p) → shows d g ≡ shows v.now g → shows d (g ++ rest) ≡ shows v.now (g ++ rest)
  along g [] sure here = subst (λ q. shows d q ≡ shows v.now q) (sym (append-nil g)) here
  along g (x ∷ rest) sure here =
      let again : under g x ++ rest ≡ g ++ x ∷ rest = append_assoc g (x ∷ []) rest in
      let on : is_below (under g x) (g ++ x ∷ rest) ≡ true = subst (λ q. is_below (under g x) q ≡ true) again (is_below-before (under g x) rest) in
      subst (λ q. shows d q ≡ shows v.now q) again
      (along (under g x) rest (subst (λ f. (p : Path) (s : Seen) → IsTrue (is_below p f) → MayBe v p s → s ≡ shows v.now p) (sym again) sure)
      (below_one g x (λ s may. sure (under g x) s on may) here (folder_or_not (d.at g))))

  pub left_there : (p : Path) → ((q : Path) (s : Seen) → IsTrue (is_below q p) → MayBe v q s → s ≡ shows v.now q) → shows d p ≡ shows v.now p
  left_there p sure = along [] p sure (sure [] (shows d []) (is_below-before [] p) (Image-root v d i))

  pub stands_left : (rows : List BootRow) → ListStands rows v → AreRowsOf d rows
  stands_left rows stands = same_rows v.now d rows (λ p is. left_there p (λ q s below may. stands.sure q s (p, is, below) may)) stands.are

pub stands_begins : (rows : List BootRow) (v : View) → ((p : Path) → Always v p (shows v.now p)) → AreRowsOf v.now rows → ListStands rows v
stands_begins rows v settled are = record { are = are; sure = λ p s way may. (settled p).each s may }

pub stands_on : (rows : List BootRow) (v w : View) → SparesList v.now rows v w → ListStands rows v → ListStands rows w
stands_on rows v w spares stands = record {
  are = same_rows v.now w.now rows same stands.are;
  sure = λ p s way may.
      let back : IsOnTheWay v.now rows p = (way.0, path_back v.now w.now rows same way.0 way.1, way.2) in
      ⊎_elim (λ was. stands.sure p s back was) (λ is. is) (spares.each p s back may) ∙ sym (spares.now p back);
}
  where
    same : (p : Path) → IsListPath v.now rows p → shows w.now p ≡ shows v.now p
    same p is = spares.now p (p, is, itself p)
