-- The steps that make the folders of a swap.
use Rattle.std.proofs.Common.{◌≡◌, ◌≢◌, true, List, [], ◌∷◌, ◌++◌, refl, sym, ◌∙◌, ap, subst, codes, Option, Ok}
use Rattle.std.specs.Fmt.{decimal}
use Rattle.ost_types.specs.Path.{Path, is_below, under}
use Rattle.fs_trait.specs.declared.task.StepResult.TheVariants.{More, Done}
use Rattle.fs_trait.specs.declared.types.Node as node
use Rattle.fs_trait.specs.View.{View}
use Rattle.fs_trait.specs.Effect.{IsNode}
use Rattle.fs_trait.specs.Seen.{Seen}
use Rattle.fs_trait.specs.Change.{Writes}
use Rattle.repo_layout.specs.declared.fixed.Version.{Version}
use Rattle.repo_layout.specs.declared.folder.Folder.TheVariants.{Boot, Ostree}
use Rattle.repo_layout.specs.Fixed.{number}
use Rattle.repo_layout.specs.Paths.{folder_path}
use Rattle.repo_layout.specs.Place as place
use Rattle.repo_layout.specs.BootPaths.{boot_folder_path, boot_link_path, loader_folder_path, loader_path}
use Rattle.boot_model.specs.declared.item.BootItem.{BootItem}
use Rattle.boot_model.specs.Items.{AreItems}
use Rattle.boot_model.specs.Listing.{ShowsEntries}
use Rattle.boot_compare.specs.declared.choosing.Swap as which
use Rattle.boot_compare.specs.declared.choosing.Swap.TheVariants.{Loader, Sub}
use Rattle.boot_compare.specs.Choosing as choosing
use Rattle.boot_plan.specs.Plans.{AreEntries, AreLinks, IsEntries, IsLinks}
use Rattle.folder_build.specs.Node.{IsBuilt}
use Rattle.folder_build.specs.Build as build
use Rattle.folder_build.specs.Build.{Building}
use Rattle.folder_build.specs.Steps as building
use Rattle.folder_build.proofs.Lying.{build_lies}
use Rattle.boot_swap.specs.declared.phase.Phase.{Phase}
use Rattle.boot_swap.specs.declared.phase.Phase.TheVariants as phase
use Rattle.boot_swap.specs.Ready.{IsOther}
use Rattle.boot_swap.specs.Swap.{IsMade, Swapping, chosen, filled, version_of}
use Rattle.boot_swap.specs.Steps.{HasMade, HasPlaces, IsAside, IsTheLink, IsTheLoader, Needs, NotSelecting, needs_in}
use Rattle.boot_swap.proofs.Spots.{LinkFolder, LoaderFolder, Link, Loader as Link_of, spots_apart}
use Rattle.boot_swap.proofs.Keeping.{Misses, Spotted, each_missed, entries_kept, misses_apart, places_kept}
use Rattle.boot_swap.proofs.Parts.{build_begins, build_same, built}
use Rattle.boot_swap.proofs.Filling.{entries_built, links_built}
use Rattle.boot_swap.proofs.Selecting.{loader_aside, other_aside, sub_selects}

-- the swap in a phase
abbrev pub at_phase : List BootItem → Phase → Swapping
at_phase items ph = record { items = items; phase = ph }

-- what it needs there, with its part
pub needs_at : (items : List BootItem) (ph next : Phase) (v : View) → ph ≡ next → Needs (at_phase items ph) v → Needs (at_phase items next) v
needs_at items ph next v is needs = subst (λ p. Needs (at_phase items p) v) is needs

-- ---- the choice

module _ (items : List BootItem) (c : choosing.Choosing) (v : View) (needs : Needs (at_phase items (phase.Choose c)) v) where
  pub choice_more : (e : choosing.Choosing) → choosing.Knows e v.now items → Needs (at_phase items (phase.Choose e)) v
  choice_more e knows = record { made = record { items = needs.made.items; part = tt }; places = needs.places; meets = (needs.meets.0, knows) }

  pub choice_loader : (n : Version) → choosing.IsChosen v.now items (Loader n) → Needs (at_phase items (phase.BeginEntries n)) v
  choice_loader n is = record { made = record { items = needs.made.items; part = tt }; places = needs.places; meets = loader_aside v items needs.meets.0 n is }

  pub choice_sub : (n : Version) → choosing.IsChosen v.now items (Sub n) → Needs (at_phase items (phase.LookLink (Sub n))) v
  choice_sub n is =
      let s = sub_selects v items needs.meets.0 n is in
      record { made = record { items = needs.made.items; part = tt }; places = needs.places; meets = (s.0, s.1, is.1) }

-- ---- the folder of entries

loader_folder_under : (n : Version) → loader_folder_path (number n) ≡ under (folder_path Boot) (codes "loader." ++ decimal (number n))
unfolding loader_folder_path
loader_folder_under n = refl

loader_folder-some : (n : Version) → loader_folder_path (number n) ≢ []
unfolding loader_folder_path
loader_folder-some n e = cc

pub entries_begin : (items : List BootItem) (n : Version) (b : Building) (v : View) → Needs (at_phase items (phase.BeginEntries n)) v → IsEntries (number n) items b → Needs (at_phase items (phase.Entries n b)) v
entries_begin items n b v needs is = record {
  made = record { items = needs.made.items; part = record { top = ap (λ (x : Building). x.top) is.new; nodes = is.nodes } };
  places = needs.places;
  meets = (needs.meets, build_begins b (loader_folder_path (number n)) (folder_path Boot) _ b.nodes v is.new is.made (loader_folder_under n) (loader_folder-some n) needs.places.boot);
}

module _ (items : List BootItem) (n : Version) (b : Building) (v : View) (needs : Needs (at_phase items (phase.Entries n b)) v) where
  pub entries_lie : (p : Path) (s : Seen) → building.WritesOf b v p s → is_below (loader_folder_path (number n)) p ≡ true
  entries_lie p s write = subst (λ q. is_below q p ≡ true) needs.made.part.top (build_lies b v needs.meets.1.made p s write)

  pub entries_spotted : Spotted (building.WritesOf b v)
  entries_spotted p s write = (LoaderFolder n, entries_lie p s write)

  pub entries_miss_loader : Misses (building.WritesOf b v) loader_path
  entries_miss_loader = misses_apart (building.WritesOf b v) (loader_folder_path (number n)) loader_path
      (spots_apart (LoaderFolder n) Link_of (λ e. let k : place.LoaderFolder (number n) [] ≡ place.Loader = e in cc)) entries_lie

  module _ (w : View) (writes : Writes (building.WritesOf b v) v w) (e : Building) (after : building.Needs e w) where
    aside : NotSelecting n w
    aside = each_missed (building.WritesOf b v) v w writes (λ s. ¬ (IsTheLoader n s)) loader_path entries_miss_loader needs.meets.0

    places : HasPlaces items w.now
    places = places_kept (building.WritesOf b v) v w writes items entries_spotted needs.places

    pub entries_more : build.IsStepped b (Ok More) e → Needs (at_phase items (phase.Entries n e)) w
    entries_more stepped =
        let same = build_same b e More stepped in
        record {
          made = record { items = needs.made.items; part = record { top = same.0 ∙ needs.made.part.top; nodes = subst (AreEntries (number n) items) (sym same.1) needs.made.part.nodes } };
          places = places;
          meets = (aside, after);
        }

    pub entries_done : (x : Unit {0}) → build.IsStepped b (Ok (Done x)) e → Needs (at_phase items (phase.LookLink (Loader n))) w
    entries_done x stepped =
        let same = build_same b e (Done x) stepped in
        let whole : IsBuilt w.now (loader_folder_path (number n)) e.nodes = subst (λ q. IsBuilt w.now q e.nodes) (same.0 ∙ needs.made.part.top) (built b e x w stepped after) in
        record {
          made = record { items = needs.made.items; part = tt };
          places = places;
          meets = (aside, entries_built w.now (number n) items e.nodes needs.made.items whole (subst (AreEntries (number n) items) (sym same.1) needs.made.part.nodes));
        }

-- ---- the folder of links

link_folder_under : (n sub : Version) → boot_folder_path (number n) (number sub) ≡ under (folder_path Ostree) (codes "boot." ++ (decimal (number n) ++ (46 ∷ decimal (number sub))))
unfolding boot_folder_path
link_folder_under n sub = refl

link_folder-some : (n sub : Version) → boot_folder_path (number n) (number sub) ≢ []
unfolding boot_folder_path
link_folder-some n sub e = cc

links_part : (items : List BootItem) (u : which.Swap) (sub : Version) (b : Building) → AreItems items → IsLinks (number (version_of u)) (number sub) items b → IsMade (at_phase items (phase.Links u sub b))
links_part items u sub b are is = record { items = are; part = record { top = ap (λ (x : Building). x.top) is.new; nodes = is.nodes } }

pub links_begin : (items : List BootItem) (u : which.Swap) (sub : Version) (b : Building) (v : View) (found : Option node.Node) → Needs (at_phase items (phase.LookLink u)) v
    → IsNode v.now (v.now.at (boot_link_path (number (version_of u)))) found → IsOther (version_of u) found sub → IsLinks (number (version_of u)) (number sub) items b
    → Needs (at_phase items (phase.Links u sub b)) v
links_begin items u sub b v found needs node other is = record {
  made = links_part items u sub b needs.made.items is;
  places = needs.places;
  meets = by u needs.meets node other is;
}
  where
    begun : (n : Version) → IsLinks (number n) (number sub) items b → building.Needs b v
    begun n is = build_begins b (boot_folder_path (number n) (number sub)) (folder_path Ostree) _ b.nodes v is.new is.made (link_folder_under n sub) (link_folder-some n sub) needs.places.ostree

    by : (u : which.Swap) → needs_in (phase.LookLink u) items v → IsNode v.now (v.now.at (boot_link_path (number (version_of u)))) found → IsOther (version_of u) found sub
        → IsLinks (number (version_of u)) (number sub) items b → needs_in (phase.Links u sub b) items v
    by (Loader n) meets node other is = (meets.0, meets.1, begun n is)
    by (Sub n) meets node other is = ((meets.0, other_aside n v meets.1 found node sub other), meets.2, begun n is)

-- what is read in no crash stays so
pub aside_kept : (W : Path → Seen → Type 0) (v w : View) → Writes W v w → (u : which.Swap) (sub : Version) → Misses W loader_path → Misses W (boot_link_path (number (version_of u))) → IsAside u sub v → IsAside u sub w
aside_kept W v w writes (Loader n) sub loader link aside = each_missed W v w writes (λ s. ¬ (IsTheLoader n s)) loader_path loader aside
aside_kept W v w writes (Sub n) sub loader link aside = (
  each_missed W v w writes (IsTheLoader n) loader_path loader aside.0,
  each_missed W v w writes (λ s. ¬ (IsTheLink n sub s)) (boot_link_path (number n)) link aside.1,
)

module _ (items : List BootItem) (u : which.Swap) (sub : Version) (b : Building) (v : View) (needs : Needs (at_phase items (phase.Links u sub b)) v) where
  pub links_lie : (p : Path) (s : Seen) → building.WritesOf b v p s → is_below (boot_folder_path (number (version_of u)) (number sub)) p ≡ true
  links_lie p s write = subst (λ q. is_below q p ≡ true) needs.made.part.top (build_lies b v needs.meets.2.made p s write)

  pub links_spotted : Spotted (building.WritesOf b v)
  links_spotted p s write = (LinkFolder (version_of u) sub, links_lie p s write)

  pub links_miss_loader : Misses (building.WritesOf b v) loader_path
  links_miss_loader = misses_apart (building.WritesOf b v) (boot_folder_path (number (version_of u)) (number sub)) loader_path
      (spots_apart (LinkFolder (version_of u) sub) Link_of (λ e. let k : place.BootFolder (number (version_of u)) (number sub) [] ≡ place.Loader = e in cc)) links_lie

  pub links_miss_link : Misses (building.WritesOf b v) (boot_link_path (number (version_of u)))
  links_miss_link = misses_apart (building.WritesOf b v) (boot_folder_path (number (version_of u)) (number sub)) (boot_link_path (number (version_of u)))
      (spots_apart (LinkFolder (version_of u) sub) (Link (version_of u)) (λ e. let k : place.BootFolder (number (version_of u)) (number sub) [] ≡ place.BootLink (number (version_of u)) = e in cc)) links_lie

  links_miss_entries : Misses (building.WritesOf b v) (loader_folder_path (number (version_of u)))
  links_miss_entries = misses_apart (building.WritesOf b v) (boot_folder_path (number (version_of u)) (number sub)) (loader_folder_path (number (version_of u)))
      (spots_apart (LinkFolder (version_of u) sub) (LoaderFolder (version_of u)) (λ e. let k : place.BootFolder (number (version_of u)) (number sub) [] ≡ place.LoaderFolder (number (version_of u)) [] = e in cc)) links_lie

  module _ (w : View) (writes : Writes (building.WritesOf b v) v w) (e : Building) (after : building.Needs e w) where
    kept_aside : IsAside u sub w
    kept_aside = aside_kept (building.WritesOf b v) v w writes u sub links_miss_loader links_miss_link needs.meets.0

    kept_entries : ShowsEntries w.now (number (version_of u)) items
    kept_entries = entries_kept (building.WritesOf b v) v w writes (number (version_of u)) items links_miss_entries needs.meets.1

    kept_places : HasPlaces items w.now
    kept_places = places_kept (building.WritesOf b v) v w writes items links_spotted needs.places

    pub links_more : build.IsStepped b (Ok More) e → Needs (at_phase items (phase.Links u sub e)) w
    links_more stepped =
        let same = build_same b e More stepped in
        record {
          made = record {
            items = needs.made.items;
            part = record { top = same.0 ∙ needs.made.part.top; nodes = subst (AreLinks (number (version_of u)) (number sub) items) (sym same.1) needs.made.part.nodes };
          };
          places = kept_places;
          meets = (kept_aside, kept_entries, after);
        }

    pub links_done : (x : Unit {0}) → build.IsStepped b (Ok (Done x)) e → Needs (at_phase items (filled u sub)) w
    links_done x stepped =
        let same = build_same b e (Done x) stepped in
        let whole : IsBuilt w.now (boot_folder_path (number (version_of u)) (number sub)) e.nodes = subst (λ q. IsBuilt w.now q e.nodes) (same.0 ∙ needs.made.part.top) (built b e x w stepped after) in
        let links = links_built w.now (number (version_of u)) (number sub) items e.nodes whole (subst (AreLinks (number (version_of u)) (number sub) items) (sym same.1) needs.made.part.nodes) in
        by u kept_aside (record { entries = kept_entries; links = links })
      where
        by : (u : which.Swap) → IsAside u sub w → HasMade u sub items w → Needs (at_phase items (filled u sub)) w
        by (Loader m) aside made = record { made = record { items = needs.made.items; part = tt }; places = kept_places; meets = (aside, made) }
        by (Sub m) aside made = record { made = record { items = needs.made.items; part = tt }; places = kept_places; meets = (aside, made, tt) }

-- ---- the tasks stay those of the swap

pub entries_made : (items : List BootItem) (n : Version) (b e : Building) → IsMade (at_phase items (phase.Entries n b)) → build.IsStepped b (Ok More) e → IsMade (at_phase items (phase.Entries n e))
entries_made items n b e made stepped =
    let same = build_same b e More stepped in
    record { items = made.items; part = record { top = same.0 ∙ made.part.top; nodes = subst (AreEntries (number n) items) (sym same.1) made.part.nodes } }

pub links_made : (items : List BootItem) (u : which.Swap) (sub : Version) (b e : Building) → IsMade (at_phase items (phase.Links u sub b)) → build.IsStepped b (Ok More) e → IsMade (at_phase items (phase.Links u sub e))
links_made items u sub b e made stepped =
    let same = build_same b e More stepped in
    record { items = made.items; part = record { top = same.0 ∙ made.part.top; nodes = subst (AreLinks (number (version_of u)) (number sub) items) (sym same.1) made.part.nodes } }

pub made_at : (items : List BootItem) (ph next : Phase) → ph ≡ next → IsMade (at_phase items ph) → IsMade (at_phase items next)
made_at items ph next is made = subst (λ p. IsMade (at_phase items p)) is made

pub choice_done : (items : List BootItem) (c : choosing.Choosing) (v : View) → Needs (at_phase items (phase.Choose c)) v → (u : which.Swap) → choosing.IsChosen v.now items u → Needs (at_phase items (chosen u)) v
choice_done items c v needs (Loader n) is = choice_loader items c v needs n is
choice_done items c v needs (Sub n) is = choice_sub items c v needs n is
