-- What a swap needs stays true under what others may write.
use Rattle.std.proofs.Common.{◌≡◌, ◌≢◌, inl, inr, ⊎_elim, ℕ, true, List, [], ◌∷◌, refl, sym, ◌∙◌, ap, subst}
use Rattle.ost_types.specs.declared.meta.Meta.{Meta}
use Rattle.ost_types.specs.Path.{Name, Path, is_below, is_in}
use Rattle.ost_types.proofs.Paths.{is_below-self, under-is_in}
use Rattle.fs_trait.specs.declared.types.Value.TheVariants.{File}
use Rattle.fs_trait.specs.View.{View}
use Rattle.fs_trait.specs.Seen.{Seen, Leaf, MayBe, shows, IsDirectory, bytes_in}
use Rattle.fs_trait.specs.Change.{Own, Writes}
use Rattle.fs_trait.proofs.Claims.{is_below-before, reads_shows}
use Rattle.fs_trait.proofs.Facts.{shows_kept}
use Rattle.repo_layout.specs.declared.fixed.Version.{Version}
use Rattle.repo_layout.specs.declared.folder.Folder.TheVariants.{Boot, Ostree}
use Rattle.repo_layout.specs.Fixed.{number}
use Rattle.repo_layout.specs.Paths.{deploy_path, folder_path}
use Rattle.repo_layout.specs.BootPaths.{entry_path, loader_folder_path}
use Rattle.boot_model.specs.declared.item.BootItem.{BootItem}
use Rattle.boot_model.specs.Items.{IsAt}
use Rattle.boot_model.specs.Entries.{loader_target}
use Rattle.boot_model.specs.Listing.{HasEntry, IsLinkTo, Selects, ShowsEntries}
use Rattle.boot_compare.specs.declared.choosing.ChoosePhase.{ChoosePhase}
use Rattle.boot_compare.specs.declared.choosing.ChoosePhase.TheVariants as choose
use Rattle.boot_compare.specs.declared.choosing.Swap as which
use Rattle.boot_compare.specs.declared.choosing.Swap.TheVariants.{Loader as OfLoader, Sub as OfSub}
use Rattle.boot_compare.specs.Choosing as choosing
use Rattle.boot_compare.specs.Comparing.{AreTexts, Comparison}
use Rattle.folder_build.specs.Build.{Building}
use Rattle.folder_build.specs.Steps as folders
use Rattle.folder_build.specs.Link.{Linking}
use Rattle.folder_build.specs.LinkSteps as links
use Rattle.folder_build.proofs.Keeping.{build_kept, link_kept}
use Rattle.boot_swap.specs.declared.phase.Phase.{Phase}
use Rattle.boot_swap.specs.declared.phase.Phase.TheVariants as phase
use Rattle.boot_swap.specs.Swap.{Swapping, made_in, version_of}
use Rattle.boot_swap.specs.Steps.{EachShows, HasMade, HasPlaces, IsAside, IsRead, IsSettled, IsSure, IsSureAt, IsTheLink, IsTheLoader, IsWhole, Needs, needs_in, ready_in}
use Rattle.boot_swap.proofs.Keeping.{Misses, each_missed, entry_below, entries_kept, links_kept, same_around}
use Rattle.boot_swap.proofs.Spots.{Link, LinkFolder, LinkStage, Loader, LoaderFolder, LoaderStage, Spot, around_self, path_of}
use Rattle.deploy_task.specs.Spared.{IsMadeFolder}

-- They write nothing at a place of a swap, nor on the way to it or below it, and give no inode that stands in a folder there by one name
-- alone, now and whatever a crash leaves, another name; and nothing at the deployments of its list, nor on the way to these.
pub record SparesSwap (W : Path → Seen → Type 0) (items : List BootItem) (v : View) : Type 0 where
  pub spots : (a : Spot) → Misses W (path_of a)
  pub comes : (a : Spot) → IsMadeFolder a → (p at : Path) (s : Seen) (n : ℕ) (m : Meta) (b : List ℕ) → W p s → s ≡ Leaf n m b → is_below (path_of a) at ≡ true → ((q : Path) (x : Seen) → MayBe v q x → Own n at q x) → v.now.at at ≢ File n
  pub deployments : (i : ℕ) (item : BootItem) → IsAt items i item → (p : Path) (s : Seen) → W p s → is_below p (deploy_path item.id.os item.id.commit item.id.serial) ≡ true → ⊥

boot_above : is_below (folder_path Boot) (path_of Loader) ≡ true
unfolding is_below
boot_above = refl

ostree_above : is_below (folder_path Ostree) (path_of LinkStage) ≡ true
unfolding is_below
ostree_above = refl

module _ (W : Path → Seen → Type 0) (items : List BootItem) (v w : View) (writes : Writes W v w) (spares : SparesSwap W items v) where
  unwritten : (a : Spot) (s : Seen) → W (path_of a) s → ⊥
  unwritten a s wrote = spares.spots a (path_of a) s wrote (around_self (path_of a))

  same_at : (a : Spot) → shows w.now (path_of a) ≡ shows v.now (path_of a)
  same_at a = shows_kept W v w (path_of a) writes (unwritten a)

  each_on : (a : Spot) (S : Seen → Type 0) → EachShows v (path_of a) S → EachShows w (path_of a) S
  each_on a S was = each_missed W v w writes S (path_of a) (spares.spots a) was

  sure_at_on : (a : Spot) → IsSureAt v (path_of a) → IsSureAt w (path_of a)
  sure_at_on a was s may = ⊎_elim (λ m. was s m ∙ sym (same_at a)) (λ wrote. absurd (unwritten a s wrote)) (writes.only (path_of a) s may)

  selects_back : (n : ℕ) → Selects w.now n → Selects v.now n
  selects_back n selects = record { small = selects.small; link = subst (IsLinkTo (loader_target n)) (same_at Loader) selects.link }

  selects_on : (n : ℕ) → Selects v.now n → Selects w.now n
  selects_on n selects = record { small = selects.small; link = subst (IsLinkTo (loader_target n)) (sym (same_at Loader)) selects.link }

  pub settled_on : IsSettled v → IsSettled w
  settled_on was = record { loader = sure_at_on Loader was.loader; link = λ n selects. sure_at_on (Link n) (was.link n (selects_back (number n) selects)) }

  pub places_on : HasPlaces items v.now → HasPlaces items w.now
  places_on was = record {
    boot = subst IsDirectory (sym (shows_kept W v w (folder_path Boot) writes (λ s wrote. spares.spots Loader (folder_path Boot) s wrote (inl boot_above)))) was.boot;
    ostree = subst IsDirectory (sym (shows_kept W v w (folder_path Ostree) writes (λ s wrote. spares.spots LinkStage (folder_path Ostree) s wrote (inl ostree_above)))) was.ostree;
    deployments = λ i item at.
        let p = deploy_path item.id.os item.id.commit item.id.serial in
        subst IsDirectory (sym (shows_kept W v w p writes (λ s wrote. spares.deployments i item at p s wrote (is_below-self p)))) (was.deployments i item at);
  }

  -- ---- what was made

  entries_on : (n : Version) → ShowsEntries v.now (number n) items → ShowsEntries w.now (number n) items
  entries_on n was = entries_kept W v w writes (number n) items (spares.spots (LoaderFolder n)) was

  made_on : (u : which.Swap) (sub : Version) → HasMade u sub items v → HasMade u sub items w
  made_on u sub was = record { entries = entries_on (version_of u) was.entries; links = links_kept W v w writes (number (version_of u)) (number sub) items (spares.spots (LinkFolder (version_of u) sub)) was.links }

  unread : (n sub : Version) (p : Path) → IsRead (number n) (number sub) items p → (s : Seen) → W p s → ⊥
  unread n sub p (inl around) s wrote = spares.spots (LoaderFolder n) p s wrote around
  unread n sub p (inr (inl around)) s wrote = spares.spots (LinkFolder n sub) p s wrote around
  unread n sub p (inr (inr a)) s wrote = spares.deployments a.0 a.1 a.2 p s wrote a.3

  sure_on : (n sub : Version) → IsSure v n sub items → IsSure w n sub items
  sure_on n sub was = record {
    entries = entries_on n was.entries;
    links = links_kept W v w writes (number n) (number sub) items (spares.spots (LinkFolder n sub)) was.links;
    sure = λ p read s may. ⊎_elim (λ m. was.sure p read s m ∙ sym (shows_kept W v w p writes (unread n sub p read))) (λ wrote. absurd (unread n sub p read s wrote)) (writes.only p s may);
  }

  whole_on : (n : Version) → IsWhole n items v → IsWhole n items w
  whole_on n was = record { sub = was.sub; sure = sure_on n was.sub was.sure; link = each_on (Link n) (IsTheLink n was.sub) was.link; settled = sure_at_on (Link n) was.settled }

  -- ---- what is compared

  entry_same : (n : Version) (file : Name) → shows w.now (entry_path (number n) file) ≡ shows v.now (entry_path (number n) file)
  entry_same n file = same_around W v w writes (loader_folder_path (number n)) (spares.spots (LoaderFolder n)) (entry_path (number n) file) (inr (entry_below (number n) file))

  has_on : (n : Version) (file : Name) (bytes : List ℕ) → HasEntry v.now (number n) file bytes → HasEntry w.now (number n) file bytes
  has_on n file bytes has = record { name = has.name; holds = reads_shows w.now (entry_path (number n) file) ∙ ap bytes_in (entry_same n file) ∙ sym (reads_shows v.now (entry_path (number n) file)) ∙ has.holds }

  has_back : (n : Version) (file : Name) (bytes : List ℕ) → HasEntry w.now (number n) file bytes → HasEntry v.now (number n) file bytes
  has_back n file bytes has = record { name = has.name; holds = reads_shows v.now (entry_path (number n) file) ∙ ap bytes_in (sym (entry_same n file)) ∙ sym (reads_shows w.now (entry_path (number n) file)) ∙ has.holds }

  shown_back : (n : Version) → ShowsEntries w.now (number n) items → ShowsEntries v.now (number n) items
  shown_back n shown = record {
    each = λ i item at. let f = shown.each i item at in (f.0, has_back n f.0 _ f.1);
    only = λ file bytes has. shown.only file bytes (has_on n file bytes has);
    once = λ f g bytes one two. shown.once f g bytes (has_on n f bytes one) (has_on n g bytes two);
  }

  texts_back : (n : Version) (c : Comparison) → AreTexts w.now (number n) c → AreTexts v.now (number n) c
  texts_back n c are = record {
    each = λ text among. let f = are.each text among in (f.0, f.1, has_back n f.0 text f.2);
    only = λ file text among has. are.only file text among (has_on n file text has);
    once = λ f g text one two a b. are.once f g text one two (has_on n f text a) (has_on n g text b);
  }

  texts_on : (n : Version) (c : Comparison) → AreTexts v.now (number n) c → AreTexts w.now (number n) c
  texts_on n c are = record {
    each = λ text among. let f = are.each text among in (f.0, f.1, has_on n f.0 text f.2);
    only = λ file text among has. are.only file text among (has_back n file text has);
    once = λ f g text one two a b. are.once f g text one two (has_back n f text a) (has_back n g text b);
  }

  knows_on : (ph : ChoosePhase) → choosing.knows_in ph v.now items → choosing.knows_in ph w.now items
  knows_on choose.Look knows = tt
  knows_on (choose.Entries n) knows = selects_on (number n) knows
  knows_on (choose.Compare n c) knows = (
    selects_on (number n) knows.0,
    record {
      names = knows.1.names;
      texts = knows.1.texts;
      says = ((λ are. entries_on n (knows.1.says.0 (texts_back n c are))), (λ shown. texts_on n c (knows.1.says.1 (shown_back n shown))));
    },
  )

  -- ---- its parts

  on_way : (p top : Path) → is_in p top ≡ true → is_below p top ≡ true
  on_way p top in_ = let u = under-is_in p top in_ in subst (λ q. is_below p q ≡ true) (sym u.1) (is_below-before p (u.0 ∷ []))

  making_on : (b : Building) (a : Spot) → IsMadeFolder a → b.top ≡ path_of a → folders.Needs b v → folders.Needs b w
  making_on b a folder top needs = build_kept W b v w writes (record {
    apart = λ p s wrote below. spares.spots a p s wrote (inr (subst (λ q. is_below q p ≡ true) top below));
    folders = λ p s wrote in_. absurd (spares.spots a p s wrote (inl (subst (λ q. is_below p q ≡ true) top (on_way p b.top in_))));
    comes = λ p at s n m c wrote leaf below. spares.comes a folder p at s n m c wrote leaf (subst (λ q. is_below q at ≡ true) top below);
  }) needs

  putting_on : (l : Linking) (a b : Spot) → l.stage ≡ path_of a → l.at ≡ path_of b → links.Needs l v → links.Needs l w
  putting_on l a b stage at needs = link_kept W l v w writes (record {
    stage = λ p s wrote below. spares.spots a p s wrote (inr (subst (λ q. is_below q p ≡ true) stage below));
    at = λ s wrote. unwritten b s (subst (λ q. W q s) at wrote);
    folders = λ p s wrote in_. absurd (spares.spots a p s wrote (inl (subst (λ q. is_below p q ≡ true) stage (on_way p l.stage in_))));
    above = λ p s wrote in_. absurd (spares.spots b p s wrote (inl (subst (λ q. is_below p q ≡ true) at (on_way p l.at in_))));
  }) needs

  -- ---- by what the next step does

  aside_on : (u : which.Swap) (sub : Version) → IsAside u sub v → IsAside u sub w
  aside_on (OfLoader n) sub was = each_on Loader (λ s. ¬ (IsTheLoader n s)) was
  aside_on (OfSub n) sub was = (each_on Loader (IsTheLoader n) was.0, each_on (Link n) (λ s. ¬ (IsTheLink n sub s)) was.1)

  ready_on : (u : which.Swap) (sub : Version) → ready_in u sub items v → ready_in u sub items w
  ready_on (OfLoader n) sub was = made_on (OfLoader n) sub was
  ready_on (OfSub n) sub was = sure_on n sub was

  needs_on : (ph : Phase) → made_in ph items → needs_in ph items v → needs_in ph items w
  needs_on (phase.Choose c) made was = (settled_on was.0, knows_on c.phase was.1)
  needs_on (phase.BeginEntries n) made was = each_on Loader (λ s. ¬ (IsTheLoader n s)) was
  needs_on (phase.Entries n b) made was = (each_on Loader (λ s. ¬ (IsTheLoader n s)) was.0, making_on b (LoaderFolder n) tt made.top was.1)
  needs_on (phase.LookLink (OfLoader n)) made was = (each_on Loader (λ s. ¬ (IsTheLoader n s)) was.0, entries_on n was.1)
  needs_on (phase.LookLink (OfSub n)) made was = (each_on Loader (IsTheLoader n) was.0, sure_at_on (Link n) was.1, entries_on n was.2)
  needs_on (phase.Links u sub b) made was = (aside_on u sub was.0, entries_on (version_of u) was.1, making_on b (LinkFolder (version_of u) sub) tt made.top was.2)
  needs_on (phase.BeginLink u sub) made was = (aside_on u sub was.0, ready_on u sub was.1)
  needs_on (phase.ShowLink u sub l) made was = (aside_on u sub was.0, ready_on u sub was.1, putting_on l LinkStage (Link (version_of u)) made.stage made.at was.2)
  needs_on (phase.Barrier (OfLoader n) sub) made was = (aside_on (OfLoader n) sub was.0, made_on (OfLoader n) sub was.1, subst (IsTheLink n sub) (sym (same_at (Link n))) was.2)
  needs_on (phase.Barrier (OfSub n) sub) made was = (aside_on (OfSub n) sub was.0, made_on (OfSub n) sub was.1, tt)
  needs_on (phase.BeginLoader n) made was = (each_on Loader (λ s. ¬ (IsTheLoader n s)) was.0, whole_on n was.1)
  needs_on (phase.ShowLoader n l) made was = (each_on Loader (λ s. ¬ (IsTheLoader n s)) was.0, whole_on n was.1, putting_on l LoaderStage Loader made.stage made.at was.2)
  needs_on (phase.SyncFolder (OfLoader n)) made was = (whole_on n was.0, subst (IsTheLoader n) (sym (same_at Loader)) was.1)
  needs_on (phase.SyncFolder (OfSub n)) made was = (each_on Loader (IsTheLoader n) was.0, was.1, sure_on n was.1 was.2, subst (IsTheLink n was.1) (sym (same_at (Link n))) was.3)
  needs_on phase.Ended made was = (was.0, whole_on was.0 was.1, each_on Loader (IsTheLoader was.0) was.2)

pub swap_kept : (W : Path → Seen → Type 0) (s : Swapping) (v w : View) → Writes W v w → SparesSwap W s.items v → Needs s v → Needs s w
swap_kept W s v w writes spares needs = record {
  made = needs.made;
  places = places_on W s.items v w writes spares needs.places;
  meets = needs_on W s.items v w writes spares s.phase needs.made.part needs.meets;
}
