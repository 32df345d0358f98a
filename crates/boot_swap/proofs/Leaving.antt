-- Each step of a swap leaves the list that was there, or the new one.
use Rattle.std.proofs.Common.{◌≡◌, ◌≢◌, ◌⊎◌, inl, inr, ⊎_elim, Bool, true, false, ◌||◌, List, [], refl, sym, ◌∙◌, ap, subst}
use Rattle.ost_types.specs.Path.{Path, is_below}
use Rattle.ost_types.proofs.Paths.{is_below-self, is_below-under}
use Rattle.fs_trait.specs.View.{Disk, View}
use Rattle.fs_trait.specs.Image.{EachImage, Image, IsTree}
use Rattle.fs_trait.specs.Seen.{Seen, shows, MayBe}
use Rattle.fs_trait.specs.Change.{Writes}
use Rattle.fs_trait.proofs.Claims.{Image-may}
use Rattle.fs_trait.proofs.Images.{not_both}
use Rattle.repo_layout.specs.declared.fixed.Version.{Version}
use Rattle.repo_layout.specs.Fixed.{number}
use Rattle.repo_layout.specs.Place as place
use Rattle.repo_layout.specs.BootPaths.{boot_folder_path, boot_link_path, boot_link_stage_path, loader_folder_path, loader_path, loader_stage_path}
use Rattle.boot_model.specs.declared.item.BootItem.{BootItem}
use Rattle.boot_model.specs.Listing.{Boots}
use Rattle.boot_compare.specs.declared.choosing.Swap as which
use Rattle.boot_compare.specs.declared.choosing.Swap.TheVariants as swap
use Rattle.folder_build.specs.Node.{link_meta}
use Rattle.folder_build.specs.Build.{Building}
use Rattle.folder_build.specs.Steps as building
use Rattle.folder_build.specs.Link.{Linking}
use Rattle.folder_build.specs.LinkSteps as linking
use Rattle.folder_build.specs.LinkSteps.{IsTheLink as IsPut}
use Rattle.folder_build.proofs.Lying.{link_lies}
use Rattle.boot_swap.specs.declared.phase.Phase.{Phase}
use Rattle.boot_swap.specs.declared.phase.Phase.TheVariants as phase
use Rattle.boot_swap.specs.Swap.{Swapping, version_of}
use Rattle.boot_swap.specs.Steps.{IsAside, IsTheLink, IsTheLoader, Needs, writes_in}
use Rattle.boot_swap.specs.Whole.{Leaves}
use Rattle.boot_swap.proofs.Spots.{IsApart, Link, LinkFolder, LinkStage, Loader, LoaderFolder, LoaderStage, apart_around, around_self, spots_apart}
use Rattle.boot_swap.proofs.Keeping.{each_missed, places_kept}
use Rattle.boot_swap.proofs.Making.{at_phase, entries_lie, entries_spotted, links_lie, links_spotted}
use Rattle.boot_swap.proofs.Showing.{link_misses_loader, link_ready_kept, link_spotted, link_stage_misses, loader_spotted, loader_stage_misses, loader_whole_kept}
use Rattle.boot_swap.proofs.Selecting.{not_vacant}
use Rattle.boot_swap.proofs.Booting.{link_shown, loader_shown, new_boots}
use Rattle.boot_swap.proofs.Safe.{Unread, both_unread, entries_unread, link_unread, links_unread, loader_stage_unread, none_true, old_list, other_sub, other_version, stage_unread}

or_true : (a b : Bool) → b ≡ true → a || b ≡ true
or_true true b e = refl
or_true false b e = e

or_first : (a b : Bool) → a ≡ true → a || b ≡ true
or_first a b e = rw e refl

or_cases : (a b : Bool) → a || b ≡ true → (a ≡ true) ⊎ (b ≡ true)
or_cases true b e = inl refl
or_cases false b e = inr e

-- no list is read at the links alone
none_unread : (b : Disk) (m : Version) → Unread (λ p. false) b m
none_unread b m = record { entries = λ p below. refl; link = refl; links = λ s named p below. refl; deployments = λ id. refl }

module _ (items : List BootItem) (v w : View) (tree : IsTree v.now) (late : IsTree w.now) where
  -- a step that writes nothing
  quiet : Writes (λ p s. ⊥) v w → EachImage w (Leaves items v)
  quiet writes d image = old_list (λ p s. ⊥) v w tree writes (λ p s none. absurd none) d image (λ p. false) (λ f x e. let n : false ≡ true = e in cc)
      (λ p out may. ⊎_elim (λ was. was) (λ none. absurd none) (writes.only p (shows d p) may)) refl items (λ b before m selects. none_unread b m)

  -- the folder of entries
  entries : (n : Version) (b : Building) → Needs (at_phase items (phase.Entries n b)) v → Writes (building.WritesOf b v) v w → EachImage w (Leaves items v)
  entries n b needs writes d image =
      let top = loader_folder_path (number n) in
      old_list (building.WritesOf b v) v w tree writes (entries_spotted items n b v needs) d image (is_below top) (λ f x below. is_below-under top f x below)
      (λ p out may. ⊎_elim (λ was. was) (λ wrote. absurd (not_both (entries_lie items n b v needs p (shows d p) wrote) out)) (writes.only p (shows d p) may))
      (spots_apart (LoaderFolder n) Loader (λ e. let k : place.LoaderFolder (number n) [] ≡ place.Loader = e in cc)).down
      items (λ e before m selects. entries_unread n m e (other_version v e before m selects n needs.meets.0))

  -- the folder of links
  links : (u : which.Swap) (sub : Version) (b : Building) → Needs (at_phase items (phase.Links u sub b)) v → Writes (building.WritesOf b v) v w → EachImage w (Leaves items v)
  links u sub b needs writes d image =
      let top = boot_folder_path (number (version_of u)) (number sub) in
      old_list (building.WritesOf b v) v w tree writes (links_spotted items u sub b v needs) d image (is_below top) (λ f x below. is_below-under top f x below)
      (λ p out may. ⊎_elim (λ was. was) (λ wrote. absurd (not_both (links_lie items u sub b v needs p (shows d p) wrote) out)) (writes.only p (shows d p) may))
      (spots_apart (LinkFolder (version_of u) sub) Loader (λ e. let k : place.BootFolder (number (version_of u)) (number sub) [] ≡ place.Loader = e in cc)).down
      items (λ e before m selects. links_unread (version_of u) sub m e (unnamed u needs.meets.0 e before m selects))
    where
      unnamed : (u : which.Swap) → IsAside u sub v → (e : Disk) → Image v e → (m : Version) → IsTheLoader m (shows e loader_path) → (s : Version) → IsTheLink m s (shows e (boot_link_path (number m))) → m ≡ version_of u → s ≢ sub
      unnamed (swap.Loader n) aside e before m selects s named same = absurd (other_version v e before m selects n aside same)
      unnamed (swap.Sub n) aside e before m selects s named same = other_sub v e before n sub s aside.1 (subst (λ k. IsTheLink k s (shows e (boot_link_path (number k)))) same named)

  -- the link of a version that isn't selected
  link_aside : (n sub : Version) (l : Linking) → Needs (at_phase items (phase.ShowLink (swap.Loader n) sub l)) v → Writes (linking.WritesOf l v) v w → EachImage w (Leaves items v)
  link_aside n sub l needs writes d image =
      let link = boot_link_path (number n) in
      old_list (linking.WritesOf l v) v w tree writes (link_spotted items (swap.Loader n) sub l v needs) d image (λ p. is_below boot_link_stage_path p || is_below link p)
      (λ f x inside. ⊎_elim
      (λ a. or_first _ _ (is_below-under boot_link_stage_path f x a))
      (λ a. or_true _ _ (is_below-under link f x a))
      (or_cases (is_below boot_link_stage_path f) (is_below link f) inside))
      (λ p out may. ⊎_elim (λ was. was) (λ wrote. absurd (not_both (lies p (shows d p) wrote) out)) (writes.only p (shows d p) may))
      (none_true _ _
      (spots_apart LinkStage Loader (λ e. let k : place.BootLinkStage ≡ place.Loader = e in cc)).down
      (spots_apart (Link n) Loader (λ e. let k : place.BootLink (number n) ≡ place.Loader = e in cc)).down)
      items (λ e before m selects. both_unread (is_below boot_link_stage_path) (is_below link) e m (stage_unread m e) (link_unread n m e (other_version v e before m selects n needs.meets.0)))
    where
      lies : (p : Path) (s : Seen) → linking.WritesOf l v p s → is_below boot_link_stage_path p || is_below (boot_link_path (number n)) p ≡ true
      lies p s wrote = ⊎_elim
          (λ below. or_first _ _ (subst (λ q. is_below q p ≡ true) needs.made.part.stage below))
          (λ a. or_true _ _ (subst (λ q. is_below (boot_link_path (number n)) q ≡ true) (sym (a.0 ∙ needs.made.part.at)) (is_below-self (boot_link_path (number n)))))
          (link_lies l v needs.meets.2.made p s wrote)

  -- the link of the version that is selected: it shows the new list
  link_shows : (n sub : Version) (l : Linking) → Needs (at_phase items (phase.ShowLink (swap.Sub n) sub l)) v → Writes (linking.WritesOf l v) v w → EachImage w (Leaves items v)
  link_shows n sub l needs writes d image = ⊎_elim
      (λ may. ⊎_elim
      (λ was. old (λ p is put. subst (λ q. MayBe v q (shows d q)) (sym is) was))
      (λ wrote. ⊎_elim (λ below. absurd (apart_around l.stage link link stage_apart below (around_self link))) (λ a. inr (new a.1)) (link_lies l v needs.meets.2.made link (shows d link) wrote))
      (writes.only link (shows d link) may))
      (λ vacant. old (λ p is put. absurd (not_vacant (shows d p) l.target (ap (shows d) is ∙ vacant) (link_meta, put))))
      (Image-may w d image link)
    where
      link : Path
      link = boot_link_path (number n)

      stage_apart : IsApart l.stage (boot_link_path (number n))
      stage_apart = link_stage_misses items (swap.Sub n) sub l v needs

      old : ((p : Path) → p ≡ boot_link_path (number n) → IsPut l.target (shows d p) → MayBe v p (shows d p)) → Leaves items v d
      old at_link = old_list (linking.WritesOf l v) v w tree writes (link_spotted items (swap.Sub n) sub l v needs) d image (is_below boot_link_stage_path) (λ f x below. is_below-under boot_link_stage_path f x below)
          (λ p out may. ⊎_elim
          (λ was. was)
          (λ wrote. ⊎_elim
          (λ below. absurd (not_both (subst (λ q. is_below q p ≡ true) needs.made.part.stage below) out))
          (λ a. at_link p (a.0 ∙ needs.made.part.at) a.1)
          (link_lies l v needs.meets.2.made p (shows d p) wrote))
          (writes.only p (shows d p) may))
          (spots_apart LinkStage Loader (λ e. let k : place.BootLinkStage ≡ place.Loader = e in cc)).down
          items (λ e before m selects. stage_unread m e)

      new : IsPut l.target (shows d (boot_link_path (number n))) → Boots d items
      new put =
          let places = places_kept (linking.WritesOf l v) v w writes items (link_spotted items (swap.Sub n) sub l v needs) needs.places in
          let sure = link_ready_kept items (swap.Sub n) sub l v needs w writes in
          let selects = each_missed (linking.WritesOf l v) v w writes (IsTheLoader n) loader_path (link_misses_loader items (swap.Sub n) sub l v needs) needs.meets.0.0 in
          new_boots items w late places n sub sure d image (loader_shown items w late places n sub sure d image selects)
          (link_meta, subst (λ t. IsPut t (shows d (boot_link_path (number n)))) needs.made.part.target put)

  -- the boot loader's link: it shows the new list
  loader_shows : (n : Version) (l : Linking) → Needs (at_phase items (phase.ShowLoader n l)) v → Writes (linking.WritesOf l v) v w → EachImage w (Leaves items v)
  loader_shows n l needs writes d image = ⊎_elim
      (λ may. ⊎_elim
      (λ was. old (λ p is put. subst (λ q. MayBe v q (shows d q)) (sym is) was))
      (λ wrote. ⊎_elim (λ below. absurd (apart_around l.stage loader_path loader_path stage_apart below (around_self loader_path))) (λ a. inr (new a.1)) (link_lies l v needs.meets.2.made loader_path (shows d loader_path) wrote))
      (writes.only loader_path (shows d loader_path) may))
      (λ vacant. old (λ p is put. absurd (not_vacant (shows d p) l.target (ap (shows d) is ∙ vacant) (link_meta, put))))
      (Image-may w d image loader_path)
    where
      stage_apart : IsApart l.stage loader_path
      stage_apart = loader_stage_misses items n l v needs

      old : ((p : Path) → p ≡ loader_path → IsPut l.target (shows d p) → MayBe v p (shows d p)) → Leaves items v d
      old at_link = old_list (linking.WritesOf l v) v w tree writes (loader_spotted items n l v needs) d image (is_below loader_stage_path) (λ f x below. is_below-under loader_stage_path f x below)
          (λ p out may. ⊎_elim
          (λ was. was)
          (λ wrote. ⊎_elim
          (λ below. absurd (not_both (subst (λ q. is_below q p ≡ true) needs.made.part.stage below) out))
          (λ a. at_link p (a.0 ∙ needs.made.part.at) a.1)
          (link_lies l v needs.meets.2.made p (shows d p) wrote))
          (writes.only p (shows d p) may))
          (spots_apart LoaderStage Loader (λ e. let k : place.LoaderStage ≡ place.Loader = e in cc)).down
          items (λ e before m selects. loader_stage_unread m e)

      new : IsPut l.target (shows d loader_path) → Boots d items
      new put =
          let places = places_kept (linking.WritesOf l v) v w writes items (loader_spotted items n l v needs) needs.places in
          let whole = loader_whole_kept items n l v needs w writes in
          new_boots items w late places n whole.sub whole.sure d image
          (link_meta, subst (λ t. IsPut t (shows d loader_path)) needs.made.part.target put)
          (link_shown items w late places n whole.sub whole.sure d image whole.link)

  in_phase : (ph : Phase) → Needs (at_phase items ph) v → Writes (writes_in ph v) v w → EachImage w (Leaves items v)
  in_phase (phase.Choose c) needs writes = quiet writes
  in_phase (phase.BeginEntries n) needs writes = quiet writes
  in_phase (phase.Entries n b) needs writes = entries n b needs writes
  in_phase (phase.LookLink u) needs writes = quiet writes
  in_phase (phase.Links u sub b) needs writes = links u sub b needs writes
  in_phase (phase.BeginLink u sub) needs writes = quiet writes
  in_phase (phase.ShowLink (swap.Loader n) sub l) needs writes = link_aside n sub l needs writes
  in_phase (phase.ShowLink (swap.Sub n) sub l) needs writes = link_shows n sub l needs writes
  in_phase (phase.Barrier u sub) needs writes = quiet writes
  in_phase (phase.BeginLoader n) needs writes = quiet writes
  in_phase (phase.ShowLoader n l) needs writes = loader_shows n l needs writes
  in_phase (phase.SyncFolder u) needs writes = quiet writes
  in_phase phase.Ended needs writes = quiet writes

-- whatever the step answered
pub step_leaves : (t : Swapping) (v w : View) → IsTree v.now → IsTree w.now → Needs t v → Writes (writes_in t.phase v) v w → EachImage w (Leaves t.items v)
step_leaves t v w tree late needs writes = in_phase t.items v w tree late t.phase needs writes
