-- While one list is put in the place of another, each crash leaves one of both.
use Rattle.std.proofs.Common.{◌≡◌, ◌⊎◌, inl, inr, ⊎_elim, true, false, sym, ◌∙◌, ap, subst, List, [], ◌∷◌, ◌++◌, append-nil, append_assoc, Some}
use Rattle.ost_types.specs.Path.{Name, Path, is_below, under}
use Rattle.ost_types.proofs.Paths.{is_below-under}
use Rattle.fs_trait.specs.View.{Disk, View}
use Rattle.fs_trait.specs.Image.{EachImage, Image, IsTree, is_folder}
use Rattle.fs_trait.specs.Seen.{Seen, IsDirectory, MayBe, seen, shows}
use Rattle.fs_trait.specs.Change.{LeadsTo}
use Rattle.fs_trait.proofs.Claims.{Image-root, Image-under, folder_shows, is_below-before}
use Rattle.fs_trait.proofs.Converse.{image_shows}
use Rattle.fs_trait.proofs.Effects.{may_now}
use Rattle.fs_trait.proofs.Facts.{under-not_below}
use Rattle.fs_trait.proofs.Images.{folder_or_not, not_both}
use Rattle.fs_trait.proofs.Ways.{above}
use Rattle.layout_rules.proofs.Layouts.{below_split}
use Rattle.boot_read.specs.declared.row.BootRow.{BootRow}
use Rattle.boot_read.specs.Rows.{AreRowsOf}
use Rattle.durable_list.specs.Standing.{BeginsSwap, EndsSwap, IsListPath, LeavesNoMore, IsOnTheWay, ListOf, ListStands, ListsSwap, SparesList}
use Rattle.durable_list.proofs.Same.{folder_directory, path_back, same_folder, same_rows}
use Rattle.durable_list.proofs.Standing.{itself}

-- what is on the way to a path on the way is there, too
pub way_above : (base : Disk) (rows : List BootRow) (q p : Path) → is_below q p ≡ true → IsOnTheWay base rows p → IsOnTheWay base rows q
way_above base rows q p below (at, is, on) =
    let one = below_split q p below in
    let two = below_split p at on in
    let whole : at ≡ q ++ (one.0 ++ two.0) = two.1 ∙ ap (λ t. t ++ two.0) one.1 ∙ append_assoc q one.0 two.0 in
    (at, is, subst (λ t. is_below q t ≡ true) (sym whole) (is_below-before q (one.0 ++ two.0)))

-- ---- what a crash leaves

module _ (link : Path) (base : Disk) (rows : List BootRow) (v : View) (tree : IsTree base) (list : ListOf (Some link) base rows v) (d : Disk) (i : Image v d) where
  -- no folder is on the disk, where none is left
  no_folder : (p : Path) → shows d p ≡ shows base p → is_folder (d.at p) ≡ false → is_folder (base.at p) ≡ false
  no_folder p same none = ⊎_elim (λ is. absurd (not_both (same_folder base d p same is) none)) (λ no_. no_) (folder_or_not (base.at p))

  -- a path shows what the disk shows there, or is the link
  abbrev Met : Path → Type 0
  Met p = (shows d p ≡ shows base p) ⊎ ((p ≡ link) × MayBe v p (shows d p))

  met : (p : Path) → IsOnTheWay base rows p → MayBe v p (shows d p) → Met p
  met p way may = ⊎_elim (λ same. inl same) (λ is. inr (is, may)) (list.sure p (shows d p) way may)

  below_one : (g : Path) (x : Name) → IsOnTheWay base rows (under g x) → shows d g ≡ shows base g → (is_folder (d.at g) ≡ true) ⊎ (is_folder (d.at g) ≡ false) → Met (under g x)
  below_one g x way here (inl folder) = met (under g x) way (Image-under v d i g x folder)
  below_one g x way here (inr none) = inl (ap (seen d) (i.gone g x none) ∙ sym (ap (seen base) (tree.folders g x (no_folder g here none))))

  -- from a folder on: what is known at the link decides
  module _ (M : Type 0) (at_link : MayBe v link (shows d link) → (shows d link ≡ shows base link) ⊎ M) where
    decided : (p : Path) → Met p → (shows d p ≡ shows base p) ⊎ M
    decided p (inl same) = inl same
    decided p (inr (is, may)) = ⊎_elim
        (λ same. inl (subst (λ q. shows d q ≡ shows base q) (sym is) same))
        (λ m. inr m)
        (at_link (subst (λ q. MayBe v q (shows d q)) is may))

    along : (g rest : Path) → IsOnTheWay base rows (g ++ rest) → (shows d g ≡ shows base g) ⊎ M → (shows d (g ++ rest) ≡ shows base (g ++ rest)) ⊎ M
    along g rest way (inr m) = inr m
    along g [] way (inl here) = inl (subst (λ q. shows d q ≡ shows base q) (sym (append-nil g)) here)
    along g (x ∷ rest) way (inl here) =
        let again : under g x ++ rest ≡ g ++ x ∷ rest = append_assoc g (x ∷ []) rest in
        let on : is_below (under g x) (g ++ x ∷ rest) ≡ true = subst (λ q. is_below (under g x) q ≡ true) again (is_below-before (under g x) rest) in
        subst (λ q. (shows d q ≡ shows base q) ⊎ M) again
        (along (under g x) rest (subst (IsOnTheWay base rows) (sym again) way)
        (decided (under g x) (below_one g x (way_above base rows (under g x) (g ++ x ∷ rest) on way) here (folder_or_not (d.at g)))))

    pub there_or : (p : Path) → IsOnTheWay base rows p → (shows d p ≡ shows base p) ⊎ M
    there_or p way = along [] p way (decided [] (met [] (way_above base rows [] p (is_below-before [] p) way) (Image-root v d i)))

  -- at the link the disk's is left, or what may be there
  pub link_or : IsOnTheWay base rows link → (shows d link ≡ shows base link) ⊎ MayBe v link (shows d link)
  link_or way = there_or (MayBe v link (shows d link)) (λ may. inr may) link way

  -- where it is the disk's, all the list is
  pub list_left : shows d link ≡ shows base link → AreRowsOf d rows
  list_left here = same_rows base d rows (λ p is. ⊎_elim (λ same. same) (λ none. absurd none) (there_or ⊥ (λ may. inl here) p (p, is, itself p))) list.are

pub one_left : (link : Path) (old new : Disk) (before after : List BootRow) (v : View) (d : Disk) → ListsSwap link old new before after v → Image v d → AreRowsOf d before ⊎ AreRowsOf d after
one_left link old new before after v d swap i = ⊎_elim was by (link_or link old before v swap.trees.0 swap.left d i swap.there)
  where
    was : shows d link ≡ shows old link → AreRowsOf d before ⊎ AreRowsOf d after
    was here = inl (list_left link old before v swap.trees.0 swap.left d i here)

    by : MayBe v link (shows d link) → AreRowsOf d before ⊎ AreRowsOf d after
    by may = ⊎_elim was (λ here. inr (list_left link new after v swap.trees.1 swap.come d i here)) (swap.either (shows d link) may)

-- ---- over what others do

-- what is spared may be only what it might be before
pub spared_may : (base : Disk) (rows : List BootRow) (v w : View) → SparesList base rows v w → (p : Path) (s : Seen) → IsOnTheWay base rows p → MayBe w p s → MayBe v p s
spared_may base rows v w spares p s way may = ⊎_elim (λ was. was) (λ is. subst (MayBe v p) (sym is) (may_now v p)) (spares.each p s way may)

pub list_of_on : (link : Path) (base : Disk) (rows : List BootRow) (v w : View) → SparesList base rows v w → ListOf (Some link) base rows v → ListOf (Some link) base rows w
list_of_on link base rows v w spares list = record { are = list.are; sure = λ p s way may. list.sure p s way (spared_may base rows v w spares p s way may) }

pub swap_on : (link : Path) (old new : Disk) (before after : List BootRow) (v w : View) → ListsSwap link old new before after v → SparesList old before v w → SparesList new after v w → ListsSwap link old new before after w
swap_on link old new before after v w swap one two = record {
  trees = swap.trees;
  there = swap.there;
  home = swap.home;
  left = list_of_on link old before v w one swap.left;
  come = list_of_on link new after v w two swap.come;
  either = λ s may. swap.either s (spared_may old before v w one link s swap.there may);
}

-- ---- its beginning and its end

pub swap_begins : (link : Path) (new : Disk) (before after : List BootRow) (v w : View) → ListStands before v → BeginsSwap link new before after v w → ListsSwap link v.now new before after w
swap_begins link new before after v w stands begins = record {
  trees = begins.trees;
  there = begins.there;
  home = begins.home;
  left = record { are = stands.are; sure = begins.stays };
  come = begins.come;
  either = begins.either;
}

module _ (link : Path) (old new : Disk) (before after : List BootRow) (v w : View) (swap : ListsSwap link old new before after v) (ends : EndsSwap link new v w) where
  each_new : (p : Path) (s : Seen) → IsOnTheWay new after p → MayBe w p s → s ≡ shows new p
  each_new p s way may = ⊎_elim
      (λ same. same)
      (λ is. subst (λ q. s ≡ shows new q) (sym is) (ends.shown s (subst (λ q. MayBe w q s) is may)))
      (swap.come.sure p s way (ends.only p s may))

  pub swap_ends : ListStands after w
  swap_ends = record {
    are = same_rows new w.now after same swap.come.are;
    sure = λ p s way may.
        let back : IsOnTheWay new after p = (way.0, path_back new w.now after same way.0 way.1, way.2) in
        each_new p s back may ∙ sym (each_new p (shows w.now p) back (may_now w p));
  }
    where
      same : (p : Path) → IsListPath new after p → shows w.now p ≡ shows new p
      same p is = each_new p (shows w.now p) (p, is, itself p) (may_now w p)

-- ---- where no crash leaves the old list

module _ (link : Path) (old new : Disk) (before after : List BootRow) (v w : View) (swap : ListsSwap link old new before after v) (only : LeavesNoMore v w) where
  f : Path
  f = swap.home.0

  at_link : link ≡ under f swap.home.1
  unfolding f
  at_link = swap.home.2

  there : IsDirectory (shows old f)
  unfolding f
  there = swap.home.3

  still : ListOf (Some link) old before w
  still = record { are = swap.left.are; sure = λ p s way may. swap.left.sure p s way (only p s may) }

  -- folders lead to the link in each crash
  leads : (p : Path) (s : Seen) → MayBe w p s → LeadsTo f p s
  leads p s may below = ⊎_elim (λ same. subst IsDirectory (sym same) folder) not_link (still.sure p s (way_above old before p link on swap.there) may)
    where
      on : is_below p link ≡ true
      on = subst (λ q. is_below p q ≡ true) (sym at_link) (is_below-under p f swap.home.1 below)

      folder : IsDirectory (shows old p)
      folder =
          let split = below_split p f below in
          folder_directory old (old.at p) (above old swap.trees.0 p split.0 (subst (λ q. is_folder (old.at q) ≡ true) split.1 (folder_shows old f there)))

      not_link : p ≡ link → IsDirectory s
      not_link is = absurd (not_both (subst (λ q. is_below q f ≡ true) (is ∙ at_link) below) (under-not_below f swap.home.1))

  -- what may be at the link, some crash leaves there
  module _ (gone : EachImage w (λ d. AreRowsOf d before → ⊥)) where
    each_gone : (s : Seen) → MayBe w link s → s ≡ shows old link → ⊥
    each_gone s may same =
        let d = image_shows w f swap.home.1 s (subst (λ q. MayBe w q s) at_link may) leads in
        gone d.0 d.1 (list_left link old before w swap.trees.0 still d.0 d.1 (subst (λ q. shows d.0 q ≡ s) (sym at_link) d.2 ∙ same))

    pub swap_settles : ListStands after w
    swap_settles = swap_ends link old new before after v w swap
        (record { only = only; shown = λ s may. ⊎_elim (λ was. absurd (each_gone s may was)) (λ is. is) (swap.either s (only link s may)) })
