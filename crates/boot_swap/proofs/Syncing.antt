-- The syncs of a swap.
use Rattle.std.proofs.Common.{◌≡◌, ℕ, List, refl, sym, ◌∙◌, ap, subst, Option, Some, None}
use Rattle.ost_types.specs.Path.{Name, Path, under}
use Rattle.fs_trait.specs.View.{View, all_synced, folder_synced}
use Rattle.fs_trait.specs.Image.{IsTree}
use Rattle.fs_trait.specs.Effect.{no_folder}
use Rattle.fs_trait.specs.Seen.{Seen, shows, MayBe}
use Rattle.fs_trait.specs.Change.{Nothing, Writes}
use Rattle.fs_trait.proofs.Effects.{all_synced-firm, all_synced-writes, folder_synced-firm, folder_synced-writes}
use Rattle.fs_trait.proofs.Claims.{folder_shows}
use Rattle.fs_trait.proofs.Facts.{shows_kept}
use Rattle.fs_trait.proofs.Refusals.{no_folder-there}
use Rattle.fs_trait.proofs.Answering.{Step}
use Rattle.repo_layout.specs.declared.fixed.Version.{Version}
use Rattle.repo_layout.specs.declared.folder.Folder.TheVariants.{Boot, Ostree}
use Rattle.repo_layout.specs.Fixed.{number}
use Rattle.repo_layout.specs.Paths.{folder_path}
use Rattle.repo_layout.specs.BootPaths.{boot_folder_path, boot_link_path, loader_folder_path, loader_path}
use Rattle.boot_model.specs.declared.item.BootItem.{BootItem}
use Rattle.boot_model.specs.Entries.{boot_target, loader_target}
use Rattle.boot_model.specs.Listing.{IsLinkTo}
use Rattle.boot_compare.specs.declared.choosing.Swap as which
use Rattle.boot_compare.specs.declared.choosing.Swap.TheVariants.{Loader, Sub}
use Rattle.boot_swap.specs.declared.phase.Phase.{Phase}
use Rattle.boot_swap.specs.declared.phase.Phase.TheVariants as phase
use Rattle.boot_swap.specs.Swap.{barred, folder_of, keeps_folder, version_of}
use Rattle.boot_swap.specs.Steps.{EachShows, HasMade, HasPlaces, IsAside, IsSure, IsSureAt, IsTheLink, IsTheLoader, Needs, barred_in, shown_in}
use Rattle.boot_swap.proofs.Keeping.{Misses, Spotted, each_missed, entries_kept, links_kept, places_kept, settled_kept, sure_kept}
use Rattle.boot_swap.proofs.Making.{aside_kept, at_phase}
use Rattle.boot_swap.proofs.Selecting.{firm_as_now, firm_link}
use Rattle.boot_swap.proofs.Showing.{link_place}

misses : (a : Path) → Misses Nothing a
misses a p s none around = none

spotted : Spotted Nothing
spotted p s none = absurd none

-- ---- the sync of all

module _ (items : List BootItem) (u : which.Swap) (sub : Version) (v : View) (needs : Needs (at_phase items (phase.Barrier u sub)) v) where
  all_writes : Writes Nothing v (all_synced v)
  all_writes = all_synced-writes v

  same : (p : Path) → shows (all_synced v).now p ≡ shows v.now p
  same p = shows_kept Nothing v (all_synced v) p all_writes (λ s none. none)

  firm : (p : Path) → EachShows (all_synced v) p (λ s. s ≡ shows (all_synced v).now p)
  firm p s may = (all_synced-firm v p).each s may ∙ sym (same p)

  made_sure : (n : Version) → HasMade (Loader n) sub items v → IsSure (all_synced v) n sub items
  made_sure n made = record {
    entries = entries_kept Nothing v (all_synced v) all_writes (number n) items (misses (loader_folder_path (number n))) made.entries;
    links = links_kept Nothing v (all_synced v) all_writes (number n) (number sub) items (misses (boot_folder_path (number n) (number sub))) made.links;
    sure = λ p read. firm p;
  }

  all_aside : IsAside u sub (all_synced v)
  all_aside = aside_kept Nothing v (all_synced v) all_writes u sub (misses loader_path) (misses (boot_link_path (number (version_of u)))) needs.meets.0

  all_places : HasPlaces items (all_synced v).now
  all_places = places_kept Nothing v (all_synced v) all_writes items spotted needs.places

  pub all_done : Needs (at_phase items (barred u sub)) (all_synced v)
  all_done = by u all_aside needs.meets.1 needs.meets.2
    where
      by : (u : which.Swap) → IsAside u sub (all_synced v) → HasMade u sub items v → barred_in u sub v → Needs (at_phase items (barred u sub)) (all_synced v)
      by (Loader n) aside made there = record {
        made = record { items = needs.made.items; part = tt };
        places = all_places;
        meets = (
          aside,
          record {
            sub = sub;
            sure = made_sure n made;
            link = λ s may. subst (IsTheLink n sub) (sym (firm (boot_link_path (number n)) s may ∙ same (boot_link_path (number n)))) there;
            settled = firm (boot_link_path (number n));
          },
        );
      }
      by (Sub n) aside made there = record {
        made = record { items = needs.made.items; part = tt };
        places = all_places;
        meets = (aside, made_sure n (record { entries = made.entries; links = made.links }));
      }

-- ---- the sync of the folder of the shown link

module _ (items : List BootItem) (v : View) (f : Path) where
  folder_writes : Writes Nothing v (folder_synced f v)
  folder_writes = folder_synced-writes v f

  sure_still : (n sub : Version) → IsSure v n sub items → IsSure (folder_synced f v) n sub items
  sure_still n sub sure = sure_kept Nothing v (folder_synced f v) folder_writes n sub items (misses (loader_folder_path (number n))) (misses (boot_folder_path (number n) (number sub))) spotted sure

  each_still : (S : Seen → Type 0) (p : Path) → EachShows v p S → EachShows (folder_synced f v) p S
  each_still S p each = each_missed Nothing v (folder_synced f v) folder_writes S p (misses p) each

  link_firm : (at : Path) (x : Name) (target : List ℕ) → at ≡ under f x → IsLinkTo target (shows v.now at) → EachShows (folder_synced f v) at (IsLinkTo target)
  link_firm at x target is there s may =
      let here : IsLinkTo target (shows v.now (under f x)) = subst (λ q. IsLinkTo target (shows v.now q)) is there in
      firm_link v (v.now.at (under f x)) s target here (folder_synced-firm v f x s (subst (λ q. MayBe (folder_synced f v) q s) is may))

-- the sync of its folder makes a link sure
link_settled : (v : View) (f at : Path) (x : Name) (target : List ℕ) → at ≡ under f x → IsLinkTo target (shows v.now at) → IsSureAt (folder_synced f v) at
link_settled v f at x target is there s may =
    let here : IsLinkTo target (shows v.now (under f x)) = subst (λ q. IsLinkTo target (shows v.now q)) is there in
    let firm = firm_as_now v (v.now.at (under f x)) s target here (folder_synced-firm v f x s (subst (λ q. MayBe (folder_synced f v) q s) is may)) in
    firm ∙ ap (λ q. shows v.now q) (sym is) ∙ sym (shows_kept Nothing v (folder_synced f v) at (folder_synced-writes v f) (λ x none. none))

pub folder_done : (items : List BootItem) (u : which.Swap) (v : View) → Needs (at_phase items (phase.SyncFolder u)) v → Needs (at_phase items phase.Ended) (folder_synced (folder_of u) v)
folder_done items u v needs = by u needs.meets
  where
    places : (f : Path) → HasPlaces items (folder_synced f v).now
    places f = places_kept Nothing v (folder_synced f v) (folder_synced-writes v f) items spotted needs.places

    by : (u : which.Swap) → shown_in u items v → Needs (at_phase items phase.Ended) (folder_synced (folder_of u) v)
    by (Loader n) shown =
        let f = folder_path Boot in
        let whole = shown.0 in
        record {
          made = record { items = needs.made.items; part = tt };
          places = places f;
          meets = (
            n,
            record {
              sub = whole.sub;
              sure = sure_still items v f n whole.sub whole.sure;
              link = each_still items v f (IsTheLink n whole.sub) (boot_link_path (number n)) whole.link;
              settled = settled_kept Nothing v (folder_synced f v) (folder_synced-writes v f) (boot_link_path (number n)) (misses (boot_link_path (number n))) whole.settled;
            },
            link_firm items v f loader_path _ (loader_target (number n)) refl shown.1,
          );
        }
    by (Sub n) shown =
        let f = folder_path Ostree in
        let sub = shown.1 in
        record {
          made = record { items = needs.made.items; part = tt };
          places = places f;
          meets = (
            n,
            record {
              sub = sub;
              sure = sure_still items v f n sub shown.2;
              link = link_firm items v f (boot_link_path (number n)) _ (boot_target (number n) (number sub)) (link_place n) shown.3;
              settled = link_settled v f (boot_link_path (number n)) _ (boot_target (number n) (number sub)) (link_place n) shown.3;
            },
            each_still items v f (IsTheLoader n) loader_path shown.0,
          );
        }

-- ---- the steps

pub all_step : (items : List BootItem) (u : which.Swap) (sub : Version) (v : View) → Needs (at_phase items (phase.Barrier u sub)) v
    → Step (λ p s. ⊥) (Needs (at_phase items (barred u sub))) v None (all_synced v)
all_step items u sub v needs = record { free = refl; writes = all_synced-writes v; after = all_done items u sub v needs }

folder_free : (items : List BootItem) (u : which.Swap) (v : View) → IsTree v.now → Needs (at_phase items (phase.SyncFolder u)) v → no_folder (folder_of u) v.now ≡ None
folder_free items (Loader n) v tree needs = no_folder-there v.now tree (folder_path Boot) (folder_shows v.now (folder_path Boot) needs.places.boot)
folder_free items (Sub n) v tree needs = no_folder-there v.now tree (folder_path Ostree) (folder_shows v.now (folder_path Ostree) needs.places.ostree)

pub folder_step : (items : List BootItem) (u : which.Swap) (v : View) → IsTree v.now → Needs (at_phase items (phase.SyncFolder u)) v
    → Step (λ p s. ⊥) (Needs (at_phase items phase.Ended)) v (no_folder (folder_of u) v.now) (folder_synced (folder_of u) v)
folder_step items u v tree needs = record { free = folder_free items u v tree needs; writes = folder_synced-writes v (folder_of u); after = folder_done items u v needs }

pub folder_step_at : (items : List BootItem) (u : which.Swap) (v : View) (f : Path) → f ≡ folder_of u → IsTree v.now → Needs (at_phase items (phase.SyncFolder u)) v
    → Step (λ p s. ⊥) (Needs (at_phase items phase.Ended)) v (no_folder f v.now) (folder_synced f v)
folder_step_at items u v f is tree needs = subst (λ q. Step (λ p s. ⊥) (Needs (at_phase items phase.Ended)) v (no_folder q v.now) (folder_synced q v)) (sym is) (folder_step items u v tree needs)

-- the folder that is kept for it
pub kept_folder : (ph : Phase) (u : which.Swap) (folder : Option Path) (f : Path) → ph ≡ phase.SyncFolder u → keeps_folder ph folder → folder ≡ Some f → f ≡ folder_of u
kept_folder ph u folder f is keeps there =
    let kept : folder ≡ Some (folder_of u) = subst (λ p. keeps_folder p folder) is keeps in
    let e : Some f ≡ Some (folder_of u) = sym there ∙ kept in
    cc
