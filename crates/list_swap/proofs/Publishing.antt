-- The step that puts the link in its place.
use Rattle.std.proofs.Common.{◌≡◌, ◌≢◌, ◌⊎◌, inl, inr, ⊎_elim, ℕ, ◌<◌, true, false, List, [], ◌++◌, Contains, arith, codes, refl, sym, ◌∙◌, ap, subst}
use Rattle.std.specs.Fmt.{decimal}
use Rattle.ost_types.specs.Path.{Name, Path, is_below, under}
use Rattle.ost_types.proofs.Paths.{is_below-self, same_or_apart, under-is_below}
use Rattle.fs_trait.specs.declared.types.Value.{Value}
use Rattle.fs_trait.specs.declared.types.Value.TheVariants as value
use Rattle.fs_trait.specs.View.{Disk, View, named}
use Rattle.fs_trait.specs.Image.{IsTree, is_folder}
use Rattle.fs_trait.specs.Seen.{Seen, Vacant, Directory, Symlink, IsDirectory, MayBe, seen, shows}
use Rattle.fs_trait.specs.Change.{Writes}
use Rattle.fs_trait.proofs.Claims.{folder_shows, is_below-before}
use Rattle.fs_trait.proofs.Effects.{may_now, shows_named, shows_named_apart}
use Rattle.fs_trait.proofs.Trees.{tree-named}
use Rattle.fs_trait.proofs.Images.{not_both}
use Rattle.fs_trait.proofs.Ways.{way-folder}
use Rattle.repo_layout.specs.declared.fixed.Version.{Version}
use Rattle.repo_layout.specs.declared.fixed.Version.TheVariants.{Zero, One}
use Rattle.repo_layout.specs.declared.folder.Folder.TheVariants.{Boot, Ostree}
use Rattle.repo_layout.specs.Fixed.{number}
use Rattle.repo_layout.specs.Paths.{deploy_path, folder_path}
use Rattle.repo_layout.specs.Place as place
use Rattle.repo_layout.specs.BootPaths.{boot_folder_path, boot_link_path, entry_path, loader_folder_path, loader_path}
use Rattle.boot_model.specs.declared.item.BootItem.{BootItem}
use Rattle.boot_model.specs.Items.{AreItems, IsAt}
use Rattle.boot_model.specs.Entries.{boot_target, loader_target}
use Rattle.boot_model.specs.Listing.{Boots, IsLinkTo}
use Rattle.boot_read.specs.declared.row.BootRow.{BootRow}
use Rattle.boot_read.specs.Rows.{AreRowsOf}
use Rattle.boot_rows.specs.Rows.{row_of, rows_of}
use Rattle.boot_rows.specs.Written.{IsWritten}
use Rattle.boot_rows.proofs.Placed.{found}
use Rattle.boot_rows.proofs.Reading.{written_read}
use Rattle.boot_rows.proofs.Short.{few_words_short}
use Rattle.boot_rows.proofs.Telling.{tell_ids}
use Rattle.boot_compare.specs.declared.choosing.Swap.TheVariants as which
use Rattle.folder_build.specs.Node.{link_meta}
use Rattle.folder_build.specs.Link.{Linking}
use Rattle.folder_build.specs.LinkSteps as linking
use Rattle.folder_build.proofs.Lying.{link_lies}
use Rattle.boot_swap.specs.declared.phase.Phase.{Phase}
use Rattle.boot_swap.specs.declared.phase.Phase.TheVariants as phase
use Rattle.boot_swap.specs.Steps.{HasPlaces, IsRead, IsSure, IsSureAt, IsTheLink, IsTheLoader, Needs, writes_in}
use Rattle.boot_swap.proofs.Spots.{IsApart, Link, LinkFolder, LinkStage, Loader, LoaderFolder, LoaderStage, Spot, below_both, below_trans, off_deployment, path_of, spots_apart, spots_differ}
use Rattle.boot_swap.proofs.Keeping.{entries_same, entry_below, links_same}
use Rattle.boot_swap.proofs.Making.{at_phase}
use Rattle.boot_swap.proofs.Selecting.{boot_number, loader_number, not_vacant, one_target}
use Rattle.boot_swap.proofs.Showing.{link_place}
use Rattle.durable_list.specs.Standing.{BeginsSwap, HasFolderOf, IsInVersion, IsListPath, IsOnTheWay, ListStands}
use Rattle.durable_list.proofs.Swapping.{swap_begins}
use Rattle.list_swap.specs.Published.{AreReadable, HaveSerials, IsPublished, SwapsPublish, shows_in}
use Rattle.list_swap.proofs.Apart.{IsAsideOf, link_stage_aside, loader_stage_aside, off_way, version_of}

small : (n : Version) → number n < 2
small Zero = omega arith
small One = omega arith

ostree_above : (n sub : Version) → is_below (folder_path Ostree) (boot_folder_path (number n) (number sub)) ≡ true
unfolding is_below boot_folder_path
ostree_above n sub = refl

-- no folder is where a link or nothing is
no_folder : (d : Disk) (z : Value) → (seen d z ≡ Vacant) ⊎ ((t : List ℕ) × IsLinkTo t (seen d z)) → is_folder z ≡ false
no_folder d value.Absent is = refl
no_folder d (value.Link m t) is = refl
no_folder d (value.File k) is = refl
no_folder d (value.Folder m) (inl e) = let n : Directory m ≡ Vacant = e in cc
no_folder d (value.Folder m) (inr (t, (k, e))) = let n : Directory m ≡ Symlink k t = e in cc

-- a path at or below another isn't a third that is apart from that
off_other : (a b p : Path) → IsApart a b → is_below b p ≡ true → a ≢ p
off_other a b p apart below e = not_both (subst (λ q. is_below b q ≡ true) (sym e) below) apart.up

-- ---- a link is put where each crash leaves what is to boot

module _ (items : List BootItem) (n sub : Version) (b stage : Spot) (target : List ℕ) (v w : View) (W : Path → Seen → Type 0) (rows : List BootRow) where
  abbrev new : Disk
  new = (named (path_of b) (value.Link link_meta target) v).now

  -- What is known of the two views.
  pub record Puts : Type 0 where
    pub tree : IsTree v.now
    pub stands : ListStands rows v
    pub are : AreItems items
    pub readable : AreReadable items
    pub serials : HaveSerials items
    pub places : HasPlaces items v.now
    pub sure : IsSure v n sub items
    pub lies : (p : Path) (s : Seen) → W p s → (is_below (path_of stage) p ≡ true) ⊎ ((p ≡ path_of b) × (s ≡ Symlink link_meta target))
    pub writes : Writes W v w
    pub there : IsListPath v.now rows (path_of b)
    pub home : HasFolderOf (path_of b) v.now
    pub leaf : is_folder (v.now.at (path_of b)) ≡ false
    pub aside : IsAsideOf stage
    pub entries : IsApart (path_of b) (loader_folder_path (number n))
    pub links : IsApart (path_of b) (boot_folder_path (number n) (number sub))
    pub loader_new : IsTheLoader n (shows new loader_path)
    pub link_new : IsTheLink n sub (shows new (boot_link_path (number n)))
    pub link_sure : (path_of b ≢ boot_link_path (number n)) → IsSureAt v (boot_link_path (number n))

  module _ (k : Puts) where
    at_new : shows new (path_of b) ≡ Symlink link_meta target
    at_new = shows_named v (path_of b) (value.Link link_meta target)

    beside : (p : Path) → path_of b ≢ p → shows new p ≡ shows v.now p
    beside p apart = shows_named_apart v (path_of b) (value.Link link_meta target) p apart

    loader_is : IsTheLoader n (shows new loader_path)
    loader_is = k.loader_new

    link_is : IsTheLink n sub (shows new (boot_link_path (number n)))
    link_is = k.link_new

    tree_new : IsTree new
    tree_new = subst (λ q. IsTree (named q (value.Link link_meta target) v).now) (sym k.home.2)
        (tree-named v (under k.home.0 k.home.1) (value.Link link_meta target) k.tree (way-folder v.now k.tree k.home.0 k.home.1 (folder_shows v.now k.home.0 k.home.3)) (subst (λ q. is_folder (v.now.at q) ≡ false) k.home.2 k.leaf))

    -- ---- the new disk boots the items

    entry_beside : (file : Name) → shows new (entry_path (number n) file) ≡ shows v.now (entry_path (number n) file)
    entry_beside file = beside (entry_path (number n) file) (off_other (path_of b) (loader_folder_path (number n)) (entry_path (number n) file) k.entries (entry_below (number n) file))

    links_beside : (p : Path) → is_below (boot_folder_path (number n) (number sub)) p ≡ true → shows new p ≡ shows v.now p
    links_beside p below = beside p (off_other (path_of b) (boot_folder_path (number n) (number sub)) p k.links below)

    deployment_beside : (os : Name) (commit : List ℕ) (serial : ℕ) → shows new (deploy_path os commit serial) ≡ shows v.now (deploy_path os commit serial)
    deployment_beside os commit serial = beside (deploy_path os commit serial)
        (λ e. not_both (subst (λ q. is_below (path_of b) q ≡ true) e (is_below-self (path_of b))) (off_deployment b os commit serial))

    new_boots : Boots new items
    new_boots = record {
      loader = number n;
      selects = record { small = small n; link = loader_is };
      entries = entries_same v.now new (number n) items entry_beside k.sure.entries;
      leads = λ i item at. record {
        sub = number sub;
        small = small sub;
        link = link_is;
        item = links_same v.now new (number n) (number sub) items links_beside k.sure.links i item at;
        same = refl;
        there = folder_shows new (deploy_path item.id.os item.id.commit item.id.serial)
            (subst IsDirectory (sym (deployment_beside item.id.os item.id.commit item.id.serial)) (k.places.deployments i item at));
      };
    }

    written : IsWritten new items
    unfolding new_boots
    written = record {
      may = k.are;
      texts = k.readable.texts;
      serials = k.serials;
      boots = new_boots;
      short = few_words_short (number n) items (small n) k.are k.readable.words;
      links = λ none. (number sub, record { small = small sub; link = link_is });
    }

    files : ℕ → Name
    files = (written_read new items written).0

    abbrev after : List BootRow
    after = rows_of files items

    read : AreRowsOf new after
    unfolding files
    read = (written_read new items written).1

    -- ---- each crash leaves what it is read from

    read_sure : (p : Path) → IsRead (number n) (number sub) items p → (s : Seen) → MayBe v p s → s ≡ shows v.now p
    read_sure p is s may = k.sure.sure p is s may

    old_sure : (p : Path) (s : Seen) → IsOnTheWay v.now rows p → MayBe v p s → s ≡ shows v.now p
    old_sure p s way may = k.stands.sure p s way may

    sure_below : (folder at p : Path) → is_below folder at ≡ true → is_below p at ≡ true → (is_below p folder ≡ true) ⊎ (is_below folder p ≡ true)
    sure_below folder at p inside below = below_both p folder at below inside

    at_link : (p : Path) (s : Seen) → is_below p (boot_link_path (number n)) ≡ true → path_of b ≢ p → MayBe v p s → s ≡ shows v.now p
    at_link p s below apart may = by (same_or_apart (path_of b) (boot_link_path (number n)))
      where
        by : (path_of b ≡ boot_link_path (number n)) ⊎ (path_of b ≢ boot_link_path (number n)) → s ≡ shows v.now p
        by (inl is) = old_sure p s (path_of b, k.there, subst (λ q. is_below p q ≡ true) (sym is) below) may
        by (inr other) = ⊎_elim
            (λ above. read_sure p (inr (inl (inl (below_trans p (folder_path Ostree) (boot_folder_path (number n) (number sub)) above (ostree_above n sub))))) s may)
            (λ is. let e : p ≡ boot_link_path (number n) = is ∙ sym (link_place n) in subst (λ q. MayBe v q s → s ≡ shows v.now q) (sym e) (k.link_sure other s) may)
            (under-is_below p (folder_path Ostree) (codes "boot." ++ decimal (number n)) (subst (λ q. is_below p q ≡ true) (link_place n) below))

    in_version : (at p : Path) (s : Seen) → IsInVersion new (number n) at → is_below p at ≡ true → path_of b ≢ p → MayBe v p s → s ≡ shows v.now p
    in_version at p s (inl is) below apart may = at_link p s (subst (λ q. is_below p q ≡ true) is below) apart may
    in_version at p s (inr (inl (file, is))) below apart may =
        read_sure p (inl (sure_below (loader_folder_path (number n)) (entry_path (number n) file) p (entry_below (number n) file) (subst (λ q. is_below p q ≡ true) is below))) s may
    in_version at p s (inr (inr (u, has, rest, is))) below apart may = by (version_of u has.small)
      where
        by : (x : Version) × (number x ≡ u) → s ≡ shows v.now p
        by (x, same) =
            let named_x : IsTheLink n x (shows new (boot_link_path (number n))) = subst (λ j. IsLinkTo (boot_target (number n) j) (shows new (boot_link_path (number n)))) (sym same) has.link in
            let e : x ≡ sub = boot_number n x sub (one_target (shows new (boot_link_path (number n))) _ _ named_x link_is) in
            let here : at ≡ boot_folder_path (number n) (number sub) ++ rest = subst (λ j. at ≡ boot_folder_path (number n) j ++ rest) (sym same ∙ ap number e) is in
            read_sure p (inr (inl (sure_below (boot_folder_path (number n) (number sub)) (boot_folder_path (number n) (number sub) ++ rest) p (is_below-before (boot_folder_path (number n) (number sub)) rest)
            (subst (λ q. is_below p q ≡ true) here below)))) s may

    found_row : (r : BootRow) → Contains after r → (i : ℕ) × (item : BootItem) × IsAt items i item × (r ≡ row_of files items i item)
    found_row r has = found files items r has

    new_sure : (p : Path) (s : Seen) → IsOnTheWay new after p → path_of b ≢ p → MayBe v p s → s ≡ shows v.now p
    new_sure p s (at, inl is, below) apart may = old_sure p s (at, inl is, below) may
    new_sure p s (at, inr (inl (u, selects, inside)), below) apart may = by (version_of u selects.small)
      where
        by : (x : Version) × (number x ≡ u) → s ≡ shows v.now p
        by (x, same) =
            let named_x : IsTheLoader x (shows new loader_path) = subst (λ j. IsLinkTo (loader_target j) (shows new loader_path)) (sym same) selects.link in
            let e : x ≡ n = loader_number x n (one_target (shows new loader_path) _ _ named_x loader_is) in
            in_version at p s (subst (λ j. IsInVersion new j at) (sym same ∙ ap number e) inside) below apart may
    new_sure p s (at, inr (inr (row, among, is)), below) apart may =
        let m = found_row row among in
        let i : BootItem = m.1 in
        let here : at ≡ deploy_path i.id.os i.id.commit i.id.serial = is ∙ ap (λ (r : BootRow). deploy_path r.id.os r.id.commit r.id.serial) m.3 in
        read_sure p (inr (inr (m.0, i, m.2, subst (λ q. is_below p q ≡ true) here below))) s may

    -- ---- the swap begins

    begins : BeginsSwap (path_of b) new rows after v w
    begins = record {
      trees = (k.tree, tree_new);
      there = (path_of b, k.there, is_below-self (path_of b));
      home = k.home;
      stays = λ p s way may. ⊎_elim
          (λ was. inl (old_sure p s way was))
          (λ wrote. ⊎_elim (λ staged. absurd (off_way stage k.aside v.now rows p staged way)) (λ put. inr put.0) (k.lies p s wrote))
          (k.writes.only p s may);
      come = record { are = read; sure = λ p s way may. come p s way may (same_or_apart (path_of b) p) };
      either = λ s may. ⊎_elim
          (λ was. inl (old_sure (path_of b) s (path_of b, k.there, is_below-self (path_of b)) was))
          (λ wrote. ⊎_elim
          (λ staged. absurd (off_way stage k.aside v.now rows (path_of b) staged (path_of b, k.there, is_below-self (path_of b))))
          (λ put. inr (put.1 ∙ sym at_new))
          (k.lies (path_of b) s wrote))
          (k.writes.only (path_of b) s may);
    }
      where
        come : (p : Path) (s : Seen) → IsOnTheWay new after p → MayBe w p s → (path_of b ≡ p) ⊎ (path_of b ≢ p) → (s ≡ shows new p) ⊎ (p ≡ path_of b)
        come p s way may (inl is) = inr (sym is)
        come p s way may (inr apart) = ⊎_elim
            (λ was. inl (new_sure p s way apart was ∙ sym (beside p apart)))
            (λ wrote. ⊎_elim (λ staged. absurd (off_way stage k.aside new after p staged way)) (λ put. inr put.0) (k.lies p s wrote))
            (k.writes.only p s may)

    pub published : IsPublished items rows v w
    published = record {
      link = path_of b;
      new = new;
      after = after;
      files = files;
      rows_are = refl;
      ids = tell_ids files items;
      swap = swap_begins (path_of b) new rows after v w k.stands begins;
    }

-- ---- the two links

loader_there : (d : Disk) (rows : List BootRow) → AreRowsOf d rows → (shows d loader_path ≡ Vacant) ⊎ ((t : List ℕ) × IsLinkTo t (shows d loader_path))
loader_there d rows (inl (none, no_rows)) = inl none
loader_there d rows (inr (k, u, selects, has, are)) = inr (loader_target k, selects.link)

-- where the list of a version is read, its link is one
link_there : (d : Disk) (rows : List BootRow) (n : Version) → IsTheLoader n (shows d loader_path) → AreRowsOf d rows → (t : List ℕ) × IsLinkTo t (shows d (boot_link_path (number n)))
link_there d rows n selects (inl (none, no_rows)) = absurd (not_vacant (shows d loader_path) (loader_target (number n)) none selects)
link_there d rows n selects (inr (k, u, other, has, are)) = by (version_of k other.small)
  where
    by : (m : Version) × (number m ≡ k) → (t : List ℕ) × IsLinkTo t (shows d (boot_link_path (number n)))
    by (m, same) =
        let named_m : IsTheLoader m (shows d loader_path) = subst (λ j. IsLinkTo (loader_target j) (shows d loader_path)) (sym same) other.link in
        let e : m ≡ n = loader_number m n (one_target (shows d loader_path) _ _ named_m selects) in
        (boot_target k u, subst (λ j. IsLinkTo (boot_target k u) (shows d (boot_link_path j))) (sym same ∙ ap number e) has.link)

module _ (items : List BootItem) (l : Linking) (v w : View) (rows : List BootRow) (tree : IsTree v.now) (writes : Writes (linking.WritesOf l v) v w) (readable : AreReadable items) (serials : HaveSerials items) (stands : ListStands rows v) (n : Version) where
  loader_puts : Needs (at_phase items (phase.ShowLoader n l)) v → IsPublished items rows v w
  loader_puts needs =
      let part = needs.made.part in
      let whole = needs.meets.1 in
      let differ : loader_path ≢ boot_link_path (number n) = spots_differ Loader (Link n) (λ e. let k : place.Loader ≡ place.BootLink (number n) = e in cc) in
      published items n whole.sub Loader LoaderStage (loader_target (number n)) v w (linking.WritesOf l v) rows (record {
        tree = tree;
        stands = stands;
        are = needs.made.items;
        readable = readable;
        serials = serials;
        places = needs.places;
        sure = whole.sure;
        lies = λ p s wrote. ⊎_elim
            (λ below. inl (subst (λ q. is_below q p ≡ true) part.stage below))
            (λ a. inr (a.0 ∙ part.at, subst (λ t. s ≡ Symlink link_meta t) part.target a.1))
            (link_lies l v needs.meets.2.made p s wrote);
        writes = writes;
        there = inl refl;
        home = (folder_path Boot, _, refl, needs.places.boot);
        leaf = no_folder v.now (v.now.at loader_path) (loader_there v.now rows stands.are);
        aside = loader_stage_aside;
        entries = spots_apart Loader (LoaderFolder n) (λ e. let k : place.Loader ≡ place.LoaderFolder (number n) [] = e in cc);
        links = spots_apart Loader (LinkFolder n whole.sub) (λ e. let k : place.Loader ≡ place.BootFolder (number n) (number whole.sub) [] = e in cc);
        loader_new = (link_meta, shows_named v loader_path (value.Link link_meta (loader_target (number n))));
        link_new = subst (IsTheLink n whole.sub) (sym (shows_named_apart v loader_path (value.Link link_meta (loader_target (number n))) (boot_link_path (number n)) differ)) (whole.link (shows v.now (boot_link_path (number n))) (may_now v (boot_link_path (number n))));
        link_sure = λ other. whole.settled;
      })

  link_puts : (sub : Version) → Needs (at_phase items (phase.ShowLink (which.Sub n) sub l)) v → IsPublished items rows v w
  link_puts sub needs =
      let part = needs.made.part in
      let selecting : IsTheLoader n (shows v.now loader_path) = needs.meets.0.0 (shows v.now loader_path) (may_now v loader_path) in
      let differ : boot_link_path (number n) ≢ loader_path = spots_differ (Link n) Loader (λ e. let k : place.BootLink (number n) ≡ place.Loader = e in cc) in
      published items n sub (Link n) LinkStage (boot_target (number n) (number sub)) v w (linking.WritesOf l v) rows (record {
        tree = tree;
        stands = stands;
        are = needs.made.items;
        readable = readable;
        serials = serials;
        places = needs.places;
        sure = needs.meets.1;
        lies = λ p s wrote. ⊎_elim
            (λ below. inl (subst (λ q. is_below q p ≡ true) part.stage below))
            (λ a. inr (a.0 ∙ part.at, subst (λ t. s ≡ Symlink link_meta t) part.target a.1))
            (link_lies l v needs.meets.2.made p s wrote);
        writes = writes;
        there = inr (inl (number n, record { small = small n; link = selecting }, inl refl));
        home = (folder_path Ostree, _, link_place n, needs.places.ostree);
        leaf = no_folder v.now (v.now.at (boot_link_path (number n))) (inr (link_there v.now rows n selecting stands.are));
        aside = link_stage_aside;
        entries = spots_apart (Link n) (LoaderFolder n) (λ e. let k : place.BootLink (number n) ≡ place.LoaderFolder (number n) [] = e in cc);
        links = spots_apart (Link n) (LinkFolder n sub) (λ e. let k : place.BootLink (number n) ≡ place.BootFolder (number n) (number sub) [] = e in cc);
        loader_new = subst (IsTheLoader n) (sym (shows_named_apart v (boot_link_path (number n)) (value.Link link_meta (boot_target (number n) (number sub))) loader_path differ)) selecting;
        link_new = (link_meta, shows_named v (boot_link_path (number n)) (value.Link link_meta (boot_target (number n) (number sub))));
        link_sure = λ other. absurd (other refl);
      })

in_phase : (items : List BootItem) (ph : Phase) (v w : View) (rows : List BootRow) → IsTree v.now → Needs (at_phase items ph) v → shows_in ph → Writes (writes_in ph v) v w → AreReadable items → HaveSerials items → ListStands rows v → IsPublished items rows v w
in_phase items (phase.ShowLink (which.Sub n) sub l) v w rows tree needs shown writes readable serials stands = link_puts items l v w rows tree writes readable serials stands n sub needs
in_phase items (phase.ShowLink (which.Loader n) sub l) v w rows tree needs shown writes readable serials stands = absurd shown
in_phase items (phase.ShowLoader n l) v w rows tree needs shown writes readable serials stands = loader_puts items l v w rows tree writes readable serials stands n needs
in_phase items (phase.Choose c) v w rows tree needs shown writes readable serials stands = absurd shown
in_phase items (phase.BeginEntries n) v w rows tree needs shown writes readable serials stands = absurd shown
in_phase items (phase.Entries n b) v w rows tree needs shown writes readable serials stands = absurd shown
in_phase items (phase.LookLink u) v w rows tree needs shown writes readable serials stands = absurd shown
in_phase items (phase.Links u sub b) v w rows tree needs shown writes readable serials stands = absurd shown
in_phase items (phase.BeginLink u sub) v w rows tree needs shown writes readable serials stands = absurd shown
in_phase items (phase.Barrier u sub) v w rows tree needs shown writes readable serials stands = absurd shown
in_phase items (phase.BeginLoader n) v w rows tree needs shown writes readable serials stands = absurd shown
in_phase items (phase.SyncFolder u) v w rows tree needs shown writes readable serials stands = absurd shown
in_phase items phase.Ended v w rows tree needs shown writes readable serials stands = absurd shown

pub swap_publishes : SwapsPublish
swap_publishes t v w rows tree needs shown writes readable serials stands = in_phase t.items t.phase v w rows tree needs shown writes readable serials stands
