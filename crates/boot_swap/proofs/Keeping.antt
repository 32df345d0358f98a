-- What stays true while a swap writes elsewhere.
use Rattle.std.proofs.Common.{◌≡◌, inl, inr, ⊎_elim, ℕ, true, sym, ◌∙◌, ap, subst, List, [], ◌∷◌, codes}
use Rattle.std.specs.Fmt.{decimal}
use Rattle.ost_types.specs.Path.{Name, Path, is_below}
use Rattle.ost_types.specs.Csum.{hex_of}
use Rattle.ost_types.proofs.Paths.{is_below-self}
use Rattle.fs_trait.specs.View.{Disk, View}
use Rattle.fs_trait.specs.Seen.{Seen, shows, IsDirectory, bytes_in}
use Rattle.fs_trait.specs.Change.{Writes}
use Rattle.fs_trait.proofs.Claims.{is_below-before, reads_shows}
use Rattle.fs_trait.proofs.Facts.{shows_kept}
use Rattle.fs_trait.proofs.Images.{not_both}
use Rattle.repo_layout.specs.declared.fixed.Version.{Version}
use Rattle.repo_layout.specs.declared.folder.Folder.TheVariants.{Boot, Ostree}
use Rattle.repo_layout.specs.Fixed.{number}
use Rattle.repo_layout.specs.Paths.{deploy_path, folder_path}
use Rattle.repo_layout.specs.BootPaths.{boot_folder_path, entry_path, loader_folder_path}
use Rattle.boot_model.specs.declared.item.BootItem.{BootItem}
use Rattle.boot_model.specs.Items.{link_number}
use Rattle.boot_model.specs.Entries.{deploy_target, entry_text, item_link_path}
use Rattle.boot_model.specs.Listing.{HasEntry, IsLinkTo, ShowsEntries}
use Rattle.boot_swap.specs.Steps.{EachShows, HasPlaces, IsAround, IsRead, IsSure, IsSureAt, ShowsLinks}
use Rattle.boot_swap.proofs.Spots.{IsApart, Spot, apart_around, below_trans, off_boot, off_deployment, off_ostree, path_of}

-- nothing is written at a path, nor on the way to it, nor below it
abbrev pub Misses : (Path → Seen → Type 0) → Path → Type 0
Misses W a = (p : Path) (s : Seen) → W p s → IsAround a p → ⊥

-- all that is written lies at or below the places of a swap
abbrev pub Spotted : (Path → Seen → Type 0) → Type 0
Spotted W = (p : Path) (s : Seen) → W p s → (a : Spot) × (is_below (path_of a) p ≡ true)

pub misses_apart : (W : Path → Seen → Type 0) (a b : Path) → IsApart a b → ((p : Path) (s : Seen) → W p s → is_below a p ≡ true) → Misses W b
misses_apart W a b apart lies p s write = apart_around a b p apart (lies p s write)

-- below an entry's folder
pub entry_below : (n : ℕ) (file : Name) → is_below (loader_folder_path n) (entry_path n file) ≡ true
entry_below n file = is_below-before (loader_folder_path n) (codes "entries" ∷ file ∷ [])

pub link_below : (n sub : ℕ) (item : BootItem) (k : ℕ) → is_below (boot_folder_path n sub) (item_link_path n sub item k) ≡ true
link_below n sub item k = is_below-before (boot_folder_path n sub) (item.id.os ∷ hex_of item.kernel.bootcsum ∷ decimal k ∷ [])

-- ---- disks that show the same

entry_same : (d e : Disk) (n : ℕ) (file : Name) (bytes : List ℕ) → shows e (entry_path n file) ≡ shows d (entry_path n file) → HasEntry d n file bytes → HasEntry e n file bytes
entry_same d e n file bytes same has = record {
  name = has.name;
  holds = reads_shows e (entry_path n file) ∙ ap bytes_in same ∙ sym (reads_shows d (entry_path n file)) ∙ has.holds;
}

pub entries_same : (d e : Disk) (n : ℕ) (items : List BootItem) → ((file : Name) → shows e (entry_path n file) ≡ shows d (entry_path n file)) → ShowsEntries d n items → ShowsEntries e n items
entries_same d e n items here shown = record {
  each = λ i item at. let f = shown.each i item at in (f.0, entry_same d e n f.0 (entry_text n items i item) (here f.0) f.1);
  only = λ file bytes has. shown.only file bytes (back file bytes has);
  once = λ f g bytes one two. shown.once f g bytes (back f bytes one) (back g bytes two);
}
  where
    back : (file : Name) (bytes : List ℕ) → HasEntry e n file bytes → HasEntry d n file bytes
    back file bytes has = entry_same e d n file bytes (sym (here file)) has

pub links_same : (d e : Disk) (n sub : ℕ) (items : List BootItem) → ((p : Path) → is_below (boot_folder_path n sub) p ≡ true → shows e p ≡ shows d p) → ShowsLinks d n sub items → ShowsLinks e n sub items
links_same d e n sub items same shown i item at = subst (IsLinkTo (deploy_target item.id)) (sym (same _ (link_below n sub item (link_number items i item)))) (shown i item at)

-- ---- a view that is written elsewhere

module _ (W : Path → Seen → Type 0) (v w : View) (writes : Writes W v w) where
  pub each_kept : (S : Seen → Type 0) (p : Path) → ((s : Seen) → W p s → ⊥) → EachShows v p S → EachShows w p S
  each_kept S p none was s may = ⊎_elim (was s) (λ wrote. absurd (none s wrote)) (writes.only p s may)

  pub at_missed : (a : Path) → Misses W a → (s : Seen) → W a s → ⊥
  at_missed a misses s wrote = misses a s wrote (inl (is_below-self a))

  pub each_missed : (S : Seen → Type 0) (a : Path) → Misses W a → EachShows v a S → EachShows w a S
  each_missed S a misses was = each_kept S a (at_missed a misses) was

  pub settled_kept : (a : Path) → Misses W a → IsSureAt v a → IsSureAt w a
  settled_kept a misses was s may = each_missed (λ x. x ≡ shows v.now a) a misses was s may ∙ sym (shows_kept W v w a writes (at_missed a misses))

  pub same_around : (a : Path) → Misses W a → (p : Path) → IsAround a p → shows w.now p ≡ shows v.now p
  same_around a misses p around = shows_kept W v w p writes (λ s wrote. misses p s wrote around)

  pub entries_kept : (n : ℕ) (items : List BootItem) → Misses W (loader_folder_path n) → ShowsEntries v.now n items → ShowsEntries w.now n items
  entries_kept n items misses = entries_same v.now w.now n items (λ file. same_around (loader_folder_path n) misses (entry_path n file) (inr (entry_below n file)))

  pub links_kept : (n sub : ℕ) (items : List BootItem) → Misses W (boot_folder_path n sub) → ShowsLinks v.now n sub items → ShowsLinks w.now n sub items
  links_kept n sub items misses = links_same v.now w.now n sub items (λ p below. same_around (boot_folder_path n sub) misses p (inr below))

  -- what lies at the places of a swap is on the way to no deployment
  on_way : Spotted W → (p : Path) (s : Seen) (os : Name) (commit : List ℕ) (serial : ℕ) → W p s → is_below p (deploy_path os commit serial) ≡ true → ⊥
  on_way spotted p s os commit serial wrote below =
      let a = spotted p s wrote in
      not_both (below_trans (path_of a.0) p (deploy_path os commit serial) a.1 below) (off_deployment a.0 os commit serial)

  pub places_kept : (items : List BootItem) → Spotted W → HasPlaces items v.now → HasPlaces items w.now
  places_kept items spotted places = record {
    boot = subst IsDirectory (sym (shows_kept W v w (folder_path Boot) writes (λ s wrote. let a = spotted (folder_path Boot) s wrote in not_both a.1 (off_boot a.0)))) places.boot;
    ostree = subst IsDirectory (sym (shows_kept W v w (folder_path Ostree) writes (λ s wrote. let a = spotted (folder_path Ostree) s wrote in not_both a.1 (off_ostree a.0)))) places.ostree;
    deployments = λ i item at. subst IsDirectory
        (sym (shows_kept W v w (deploy_path item.id.os item.id.commit item.id.serial) writes (λ s wrote. on_way spotted _ s item.id.os item.id.commit item.id.serial wrote (is_below-self (deploy_path item.id.os item.id.commit item.id.serial)))))
        (places.deployments i item at);
  }

  pub sure_kept : (n sub : Version) (items : List BootItem) → Misses W (loader_folder_path (number n)) → Misses W (boot_folder_path (number n) (number sub)) → Spotted W → IsSure v n sub items → IsSure w n sub items
  sure_kept n sub items entries links spotted sure = record {
    entries = entries_kept (number n) items entries sure.entries;
    links = links_kept (number n) (number sub) items links sure.links;
    sure = λ p read s may.
        let none = unread p read in
        ⊎_elim (λ was. sure.sure p read s was ∙ sym (shows_kept W v w p writes none)) (λ wrote. absurd (none s wrote)) (writes.only p s may);
  }
    where
      unread : (p : Path) → IsRead (number n) (number sub) items p → (s : Seen) → W p s → ⊥
      unread p (inl a) s wrote = entries p s wrote a
      unread p (inr (inl a)) s wrote = links p s wrote a
      unread p (inr (inr a)) s wrote = on_way spotted p s a.1.id.os a.1.id.commit a.1.id.serial wrote a.3
