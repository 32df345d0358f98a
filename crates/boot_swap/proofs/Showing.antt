-- The steps that put the links of a swap in their places.
use Rattle.std.proofs.Common.{◌≡◌, ◌≢◌, ⊎_elim, ℕ, true, List, [], ◌++◌, refl, sym, ◌∙◌, ap, subst, codes, Option, Ok}
use Rattle.std.specs.Fmt.{decimal}
use Rattle.ost_types.specs.Path.{Path, is_below, under}
use Rattle.ost_types.proofs.Paths.{is_below-self}
use Rattle.fs_trait.specs.declared.task.StepResult.TheVariants.{More, Done}
use Rattle.fs_trait.specs.View.{View}
use Rattle.fs_trait.specs.Seen.{Seen, shows}
use Rattle.fs_trait.specs.Change.{Writes}
use Rattle.repo_layout.specs.declared.fixed.Version.{Version}
use Rattle.repo_layout.specs.declared.folder.Folder.TheVariants.{Boot, Ostree}
use Rattle.repo_layout.specs.Fixed.{number}
use Rattle.repo_layout.specs.Paths.{folder_path}
use Rattle.repo_layout.specs.Place as place
use Rattle.repo_layout.specs.BootPaths.{boot_folder_path, boot_link_path, boot_link_stage_path, loader_folder_path, loader_path, loader_stage_path}
use Rattle.boot_model.specs.declared.item.BootItem.{BootItem}
use Rattle.boot_model.specs.Entries.{boot_target, loader_target}
use Rattle.boot_model.specs.Items.{AreItems}
use Rattle.boot_compare.specs.declared.choosing.Swap as which
use Rattle.boot_compare.specs.declared.choosing.Swap.TheVariants.{Loader, Sub}
use Rattle.folder_build.specs.Node.{link_meta}
use Rattle.folder_build.specs.Link as link
use Rattle.folder_build.specs.Link.{IsPlaced, Linking}
use Rattle.folder_build.specs.LinkSteps as linking
use Rattle.folder_build.specs.LinkSteps.{IsTheLink as IsPut}
use Rattle.folder_build.proofs.Lying.{link_lies}
use Rattle.boot_swap.specs.declared.phase.Phase.TheVariants as phase
use Rattle.boot_swap.specs.Swap.{IsLoaderLink, IsMade, IsVersionLink, keeps_folder, linked, version_of}
use Rattle.boot_swap.specs.Steps.{HasPlaces, IsAside, IsTheLink, IsTheLoader, IsWhole, Needs, ready_in}
use Rattle.boot_swap.proofs.Spots.{IsApart, Link, LinkFolder, LinkStage, LoaderFolder, LoaderStage, Spot, apart_around, around_self, path_of, spots_apart}
use Rattle.boot_swap.proofs.Spots.{Loader as LoaderLink}
use Rattle.boot_swap.proofs.Keeping.{Misses, Spotted, each_kept, each_missed, entries_kept, links_kept, places_kept, settled_kept, sure_kept}
use Rattle.boot_swap.proofs.Parts.{is_put, link_begins, link_same, more_lies}
use Rattle.boot_swap.proofs.Making.{at_phase}

-- ---- where the links are put

pub link_place : (n : Version) → boot_link_path (number n) ≡ under (folder_path Ostree) (codes "boot." ++ decimal (number n))
unfolding boot_link_path
link_place n = refl

stage_link : (n : Version) → IsApart boot_link_stage_path (boot_link_path (number n))
stage_link n = spots_apart LinkStage (Link n) (λ e. let k : place.BootLinkStage ≡ place.BootLink (number n) = e in cc)

stage_loader : IsApart loader_stage_path loader_path
stage_loader = spots_apart LoaderStage LoaderLink (λ e. let k : place.LoaderStage ≡ place.Loader = e in cc)

pub link_placed : (n : Version) → IsPlaced boot_link_stage_path (boot_link_path (number n))
link_placed n = record { staging = (folder_path Ostree, _, refl); inside = (folder_path Ostree, _, link_place n); aside = (stage_link n).down; apart = (stage_link n).up }

pub loader_placed : IsPlaced loader_stage_path loader_path
loader_placed = record { staging = (folder_path Boot, _, refl); inside = (folder_path Boot, _, refl); aside = stage_loader.down; apart = stage_loader.up }

pub boot_target-some : (n sub : ℕ) → boot_target n sub ≢ []
unfolding boot_target
boot_target-some n sub e = cc

pub loader_target-some : (n : ℕ) → loader_target n ≢ []
unfolding loader_target
loader_target-some n e = cc

-- ---- what putting a link writes

module _ (l : Linking) (v : View) (needs : linking.Needs l v) where
  pub put_misses : (a : Path) → IsApart l.stage a → IsApart l.at a → Misses (linking.WritesOf l v) a
  put_misses a stage at p s write around = ⊎_elim
      (λ below. apart_around l.stage a p stage below around)
      (λ b. apart_around l.at a p at (subst (λ q. is_below l.at q ≡ true) (sym b.0) (is_below-self l.at)) around)
      (link_lies l v needs.made p s write)

  pub put_spotted : (a b : Spot) → l.stage ≡ path_of a → l.at ≡ path_of b → Spotted (linking.WritesOf l v)
  put_spotted a b stage at p s write = ⊎_elim
      (λ below. (a, subst (λ q. is_below q p ≡ true) stage below))
      (λ c. (b, subst (λ q. is_below q p ≡ true) at (subst (λ q. is_below l.at q ≡ true) (sym c.0) (is_below-self l.at))))
      (link_lies l v needs.made p s write)

  -- while there is more to do, nothing is written where the link is to go
  pub more_misses : (k : Linking) (a : Path) → link.IsStepped l (Ok More) k → IsApart l.stage a → (s : Seen) → linking.WritesOf l v a s → ⊥
  more_misses k a stepped stage s write = apart_around l.stage a a stage (more_lies l k v needs.made stepped a s write) (around_self a)

-- ---- the link of the version

module _ (items : List BootItem) (u : which.Swap) (sub : Version) (l : Linking) (v : View) where
  pub link_begin : Needs (at_phase items (phase.BeginLink u sub)) v → l ≡ link.begun boot_link_stage_path (boot_link_path (number (version_of u))) (boot_target (number (version_of u)) (number sub))
      → Needs (at_phase items (phase.ShowLink u sub l)) v
  link_begin needs is = record {
    made = record { items = needs.made.items; part = record { stage = ap (λ (x : Linking). x.stage) is; at = ap (λ (x : Linking). x.at) is; target = ap (λ (x : Linking). x.target) is } };
    places = needs.places;
    meets = (
      needs.meets.0,
      needs.meets.1,
      link_begins l boot_link_stage_path (boot_link_path (number (version_of u))) (folder_path Ostree) (folder_path Ostree) _ _ (boot_target (number (version_of u)) (number sub)) v is made refl (link_place (version_of u))
          (λ e. cc) needs.places.ostree needs.places.ostree,
    );
  }
    where
      made : link.IsMade l
      made = subst link.IsMade (sym is) (record { placed = link_placed (version_of u); target = boot_target-some (number (version_of u)) (number sub); within = refl })

  module _ (needs : Needs (at_phase items (phase.ShowLink u sub l)) v) where
    part : IsVersionLink (number (version_of u)) (number sub) l
    part = needs.made.part

    stage_apart : (a : Spot) → IsApart boot_link_stage_path (path_of a) → IsApart l.stage (path_of a)
    stage_apart a apart = subst (λ q. IsApart q (path_of a)) (sym part.stage) apart

    at_apart : (a : Spot) → IsApart (boot_link_path (number (version_of u))) (path_of a) → IsApart l.at (path_of a)
    at_apart a apart = subst (λ q. IsApart q (path_of a)) (sym part.at) apart

    pub link_spotted : Spotted (linking.WritesOf l v)
    link_spotted = put_spotted l v needs.meets.2 LinkStage (Link (version_of u)) part.stage part.at

    pub link_misses_loader : Misses (linking.WritesOf l v) loader_path
    link_misses_loader = put_misses l v needs.meets.2 loader_path
        (stage_apart LoaderLink (spots_apart LinkStage LoaderLink (λ e. let k : place.BootLinkStage ≡ place.Loader = e in cc)))
        (at_apart LoaderLink (spots_apart (Link (version_of u)) LoaderLink (λ e. let k : place.BootLink (number (version_of u)) ≡ place.Loader = e in cc)))

    pub link_misses_entries : (n : Version) → Misses (linking.WritesOf l v) (loader_folder_path (number n))
    link_misses_entries n = put_misses l v needs.meets.2 (loader_folder_path (number n))
        (stage_apart (LoaderFolder n) (spots_apart LinkStage (LoaderFolder n) (λ e. let k : place.BootLinkStage ≡ place.LoaderFolder (number n) [] = e in cc)))
        (at_apart (LoaderFolder n) (spots_apart (Link (version_of u)) (LoaderFolder n) (λ e. let k : place.BootLink (number (version_of u)) ≡ place.LoaderFolder (number n) [] = e in cc)))

    pub link_misses_links : (n s : Version) → Misses (linking.WritesOf l v) (boot_folder_path (number n) (number s))
    link_misses_links n s = put_misses l v needs.meets.2 (boot_folder_path (number n) (number s))
        (stage_apart (LinkFolder n s) (spots_apart LinkStage (LinkFolder n s) (λ e. let k : place.BootLinkStage ≡ place.BootFolder (number n) (number s) [] = e in cc)))
        (at_apart (LinkFolder n s) (spots_apart (Link (version_of u)) (LinkFolder n s) (λ e. let k : place.BootLink (number (version_of u)) ≡ place.BootFolder (number n) (number s) [] = e in cc)))

    pub link_stage_misses : IsApart l.stage (boot_link_path (number (version_of u)))
    link_stage_misses = stage_apart (Link (version_of u)) (stage_link (version_of u))

    module _ (w : View) (writes : Writes (linking.WritesOf l v) v w) where
      pub link_ready_kept : ready_in u sub items w
      link_ready_kept = by u needs.meets.1 link_misses_entries link_misses_links
        where
          by : (u : which.Swap) → ready_in u sub items v → ((n : Version) → Misses (linking.WritesOf l v) (loader_folder_path (number n))) → ((n s : Version) → Misses (linking.WritesOf l v) (boot_folder_path (number n) (number s))) → ready_in u sub items w
          by (Loader n) ready entries links = record {
            entries = entries_kept (linking.WritesOf l v) v w writes (number n) items (entries n) ready.entries;
            links = links_kept (linking.WritesOf l v) v w writes (number n) (number sub) items (links n sub) ready.links;
          }
          by (Sub n) ready entries links = sure_kept (linking.WritesOf l v) v w writes n sub items (entries n) (links n sub) link_spotted ready

      link_places : HasPlaces items w.now
      link_places = places_kept (linking.WritesOf l v) v w writes items link_spotted needs.places

      link_aside : (k : Linking) → link.IsStepped l (Ok More) k → IsAside u sub w
      link_aside k stepped = by u needs.meets.0 (more_misses l v needs.meets.2 k (boot_link_path (number (version_of u))) stepped link_stage_misses)
        where
          by : (u : which.Swap) → IsAside u sub v → ((s : Seen) → linking.WritesOf l v (boot_link_path (number (version_of u))) s → ⊥) → IsAside u sub w
          by (Loader n) aside none = each_missed (linking.WritesOf l v) v w writes (λ s. ¬ (IsTheLoader n s)) loader_path link_misses_loader aside
          by (Sub n) aside none = (
            each_missed (linking.WritesOf l v) v w writes (IsTheLoader n) loader_path link_misses_loader aside.0,
            each_kept (linking.WritesOf l v) v w writes (λ s. ¬ (IsTheLink n sub s)) (boot_link_path (number n)) none aside.1,
          )

      module _ (k : Linking) (after : linking.Needs k w) where
        pub link_more : link.IsStepped l (Ok More) k → Needs (at_phase items (phase.ShowLink u sub k)) w
        link_more stepped =
            let same = link_same l k More stepped in
            record {
              made = record { items = needs.made.items; part = record { stage = same.0 ∙ part.stage; at = same.1 ∙ part.at; target = same.2 ∙ part.target } };
              places = link_places;
              meets = (link_aside k stepped, link_ready_kept, after);
            }

        pub link_done : (x : Unit {0}) → link.IsStepped l (Ok (Done x)) k → Needs (at_phase items (linked u sub)) w
        link_done x stepped =
            let same = link_same l k (Done x) stepped in
            let there : IsPut (boot_target (number (version_of u)) (number sub)) (shows w.now (boot_link_path (number (version_of u)))) =
            subst (λ t. IsPut t (shows w.now (boot_link_path (number (version_of u))))) (same.2 ∙ part.target) (subst (λ q. IsPut k.target (shows w.now q)) (same.1 ∙ part.at) (is_put l k x w stepped after)) in
            by u needs.meets.0 link_ready_kept (link_meta, there)
          where
            by : (u : which.Swap) → IsAside u sub v → ready_in u sub items w → IsTheLink (version_of u) sub (shows w.now (boot_link_path (number (version_of u)))) → Needs (at_phase items (linked u sub)) w
            by (Loader n) aside ready there = record {
              made = record { items = needs.made.items; part = tt };
              places = link_places;
              meets = (each_missed (linking.WritesOf l v) v w writes (λ s. ¬ (IsTheLoader n s)) loader_path link_misses_loader aside, ready, there);
            }
            by (Sub n) aside ready there = record {
              made = record { items = needs.made.items; part = tt };
              places = link_places;
              meets = (each_missed (linking.WritesOf l v) v w writes (IsTheLoader n) loader_path link_misses_loader aside.0, sub, ready, there);
            }

-- what is kept once the version's link is put in its place
pub linked_folder : (u : which.Swap) (sub : Version) (l : Linking) (folder : Option Path) → keeps_folder (phase.ShowLink u sub l) folder → keeps_folder (linked u sub) folder
linked_folder (Loader n) sub l folder keeps = tt
linked_folder (Sub n) sub l folder keeps = keeps

pub linked_made : (items : List BootItem) (u : which.Swap) (sub : Version) → AreItems items → IsMade (at_phase items (linked u sub))
linked_made items (Loader n) sub are = record { items = are; part = tt }
linked_made items (Sub n) sub are = record { items = are; part = tt }

-- ---- the boot loader's link

module _ (items : List BootItem) (n : Version) (l : Linking) (v : View) where
  pub loader_begin : Needs (at_phase items (phase.BeginLoader n)) v → l ≡ link.begun loader_stage_path loader_path (loader_target (number n)) → Needs (at_phase items (phase.ShowLoader n l)) v
  loader_begin needs is = record {
    made = record { items = needs.made.items; part = record { stage = ap (λ (x : Linking). x.stage) is; at = ap (λ (x : Linking). x.at) is; target = ap (λ (x : Linking). x.target) is } };
    places = needs.places;
    meets = (
      needs.meets.0,
      needs.meets.1,
      link_begins l loader_stage_path loader_path (folder_path Boot) (folder_path Boot) _ _ (loader_target (number n)) v is made refl refl (λ e. cc) needs.places.boot needs.places.boot,
    );
  }
    where
      made : link.IsMade l
      made = subst link.IsMade (sym is) (record { placed = loader_placed; target = loader_target-some (number n); within = refl })

  module _ (needs : Needs (at_phase items (phase.ShowLoader n l)) v) where
    loader_part : IsLoaderLink (number n) l
    loader_part = needs.made.part

    loader_stage_apart : (a : Spot) → IsApart loader_stage_path (path_of a) → IsApart l.stage (path_of a)
    loader_stage_apart a apart = subst (λ q. IsApart q (path_of a)) (sym loader_part.stage) apart

    loader_at_apart : (a : Spot) → IsApart loader_path (path_of a) → IsApart l.at (path_of a)
    loader_at_apart a apart = subst (λ q. IsApart q (path_of a)) (sym loader_part.at) apart

    pub loader_spotted : Spotted (linking.WritesOf l v)
    loader_spotted = put_spotted l v needs.meets.2 LoaderStage LoaderLink loader_part.stage loader_part.at

    pub loader_misses_link : (m : Version) → Misses (linking.WritesOf l v) (boot_link_path (number m))
    loader_misses_link m = put_misses l v needs.meets.2 (boot_link_path (number m))
        (loader_stage_apart (Link m) (spots_apart LoaderStage (Link m) (λ e. let k : place.LoaderStage ≡ place.BootLink (number m) = e in cc)))
        (loader_at_apart (Link m) (spots_apart LoaderLink (Link m) (λ e. let k : place.Loader ≡ place.BootLink (number m) = e in cc)))

    pub loader_misses_entries : (m : Version) → Misses (linking.WritesOf l v) (loader_folder_path (number m))
    loader_misses_entries m = put_misses l v needs.meets.2 (loader_folder_path (number m))
        (loader_stage_apart (LoaderFolder m) (spots_apart LoaderStage (LoaderFolder m) (λ e. let k : place.LoaderStage ≡ place.LoaderFolder (number m) [] = e in cc)))
        (loader_at_apart (LoaderFolder m) (spots_apart LoaderLink (LoaderFolder m) (λ e. let k : place.Loader ≡ place.LoaderFolder (number m) [] = e in cc)))

    pub loader_misses_links : (m s : Version) → Misses (linking.WritesOf l v) (boot_folder_path (number m) (number s))
    loader_misses_links m s = put_misses l v needs.meets.2 (boot_folder_path (number m) (number s))
        (loader_stage_apart (LinkFolder m s) (spots_apart LoaderStage (LinkFolder m s) (λ e. let k : place.LoaderStage ≡ place.BootFolder (number m) (number s) [] = e in cc)))
        (loader_at_apart (LinkFolder m s) (spots_apart LoaderLink (LinkFolder m s) (λ e. let k : place.Loader ≡ place.BootFolder (number m) (number s) [] = e in cc)))

    pub loader_stage_misses : IsApart l.stage loader_path
    loader_stage_misses = loader_stage_apart LoaderLink stage_loader

    module _ (w : View) (writes : Writes (linking.WritesOf l v) v w) where
      pub loader_whole_kept : IsWhole n items w
      loader_whole_kept =
          let whole = needs.meets.1 in
          record {
            sub = whole.sub;
            sure = sure_kept (linking.WritesOf l v) v w writes n whole.sub items (loader_misses_entries n) (loader_misses_links n whole.sub) loader_spotted whole.sure;
            link = each_missed (linking.WritesOf l v) v w writes (IsTheLink n whole.sub) (boot_link_path (number n)) (loader_misses_link n) whole.link;
            settled = settled_kept (linking.WritesOf l v) v w writes (boot_link_path (number n)) (loader_misses_link n) whole.settled;
          }

      loader_places : HasPlaces items w.now
      loader_places = places_kept (linking.WritesOf l v) v w writes items loader_spotted needs.places

      module _ (k : Linking) (after : linking.Needs k w) where
        pub loader_more : link.IsStepped l (Ok More) k → Needs (at_phase items (phase.ShowLoader n k)) w
        loader_more stepped =
            let same = link_same l k More stepped in
            record {
              made = record { items = needs.made.items; part = record { stage = same.0 ∙ loader_part.stage; at = same.1 ∙ loader_part.at; target = same.2 ∙ loader_part.target } };
              places = loader_places;
              meets = (
                each_kept (linking.WritesOf l v) v w writes (λ s. ¬ (IsTheLoader n s)) loader_path (more_misses l v needs.meets.2 k loader_path stepped loader_stage_misses) needs.meets.0,
                loader_whole_kept,
                after,
              );
            }

        pub loader_done : (x : Unit {0}) → link.IsStepped l (Ok (Done x)) k → Needs (at_phase items (phase.SyncFolder (Loader n))) w
        loader_done x stepped =
            let same = link_same l k (Done x) stepped in
            let there : IsPut (loader_target (number n)) (shows w.now loader_path) =
            subst (λ t. IsPut t (shows w.now loader_path)) (same.2 ∙ loader_part.target) (subst (λ q. IsPut k.target (shows w.now q)) (same.1 ∙ loader_part.at) (is_put l k x w stepped after)) in
            record { made = record { items = needs.made.items; part = tt }; places = loader_places; meets = (loader_whole_kept, (link_meta, there)) }
