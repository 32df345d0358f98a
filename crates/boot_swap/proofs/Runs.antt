-- A run of steps, from the beginning.
use Rattle.std.proofs.Common.{◌≡◌, inl, inr, ⊎_elim, ◌+◌, ◌*◌, ◌^◌, ◌<◌, arith, true, List, refl, sym, ◌∙◌, subst, Option, Some}
use Rattle.ost_types.specs.Path.{Path, is_below}
use Rattle.fs_trait.specs.View.{Disk, View}
use Rattle.fs_trait.specs.Image.{EachImage, IsTree, Told}
use Rattle.fs_trait.specs.Seen.{Seen, shows}
use Rattle.fs_trait.specs.Change.{Writes}
use Rattle.fs_trait.proofs.Effects.{may_now}
use Rattle.fs_trait.proofs.Facts.{shows_kept}
use Rattle.fs_trait.proofs.Kept.{same_view, then_writes, weaker}
use Rattle.repo_layout.specs.declared.fixed.Version.{Version}
use Rattle.repo_layout.specs.Fixed.{number}
use Rattle.repo_layout.specs.BootPaths.{boot_link_path, entry_path, loader_path}
use Rattle.boot_model.specs.declared.item.BootItem.{BootItem}
use Rattle.boot_model.specs.Items.{AreItems}
use Rattle.boot_model.specs.Entries.{loader_target}
use Rattle.boot_model.specs.Listing.{Boots, IsLinkTo, Selects, ShowsEntries}
use Rattle.boot_compare.specs.declared.choosing.Swap as which
use Rattle.boot_compare.specs.declared.choosing.Swap.TheVariants.{Loader, Sub}
use Rattle.boot_compare.specs.Choosing.{Choosing, IsChosen, knows_in}
use Rattle.folder_build.specs.Node.{link_meta}
use Rattle.folder_build.specs.LinkSteps.{IsTheLink as IsPut}
use Rattle.folder_build.proofs.Lying.{link_lies}
use Rattle.boot_swap.specs.declared.phase.Phase.{Phase}
use Rattle.boot_swap.specs.declared.phase.Phase.TheVariants as phase
use Rattle.boot_swap.specs.Swap.{Falls, Follows, IsBegun, IsLast, Swapping, begins_in, left, parts, barred, chosen, filled, linked, version_of}
use Rattle.boot_swap.specs.Steps.{IsAside, IsTheLink, IsTheLoader, Needs, tells_in, writes_in}
use Rattle.boot_swap.specs.Whole.{IsLinked, KeepsLoader, Leaves, MaySwap, Swaps}
use Rattle.boot_swap.proofs.Keeping.{at_missed, entries_same}
use Rattle.boot_swap.proofs.Making.{at_phase, entries_lie, entries_miss_loader, links_lie, links_miss_link, links_miss_loader}
use Rattle.boot_swap.proofs.Showing.{link_misses_loader, loader_stage_misses, more_misses}
use Rattle.boot_swap.proofs.Selecting.{loader_number, not_chosen, not_vacant, one_target, other_not}
use Rattle.boot_swap.proofs.Safe.{leaves_then, same_refl}
use Rattle.boot_swap.proofs.Leaving.{step_leaves}
use Rattle.boot_swap.proofs.Booting.{shown_boots}

-- ---- what is known of the beginning

-- until the boot loader's link is put in its place it shows what it showed
abbrev pub shown_so : which.Swap → View → View → Type 0
shown_so (Loader n) v w = IsTheLoader n (shows w.now loader_path)
shown_so (Sub n) v w = shows w.now loader_path ≡ shows v.now loader_path

-- and until the link of the version is put in its place that shows what it showed, where it is read
abbrev pub link_so : which.Swap → View → View → Type 0
link_so (Loader n) v w = Unit {0}
link_so (Sub n) v w = shows w.now (boot_link_path (number n)) ≡ shows v.now (boot_link_path (number n))

abbrev pub so_far : Phase → List BootItem → View → View → Type 0
so_far (phase.Choose c) items v w = (p : Path) → shows w.now p ≡ shows v.now p
so_far (phase.BeginEntries n) items v w = IsChosen v.now items (Loader n) × (shows w.now loader_path ≡ shows v.now loader_path)
so_far (phase.Entries n b) items v w = IsChosen v.now items (Loader n) × (shows w.now loader_path ≡ shows v.now loader_path)
so_far (phase.LookLink u) items v w = IsChosen v.now items u × (shows w.now loader_path ≡ shows v.now loader_path) × link_so u v w
so_far (phase.Links u sub b) items v w = IsChosen v.now items u × (shows w.now loader_path ≡ shows v.now loader_path) × link_so u v w
so_far (phase.BeginLink u sub) items v w = IsChosen v.now items u × (shows w.now loader_path ≡ shows v.now loader_path)
so_far (phase.ShowLink u sub l) items v w = IsChosen v.now items u × (shows w.now loader_path ≡ shows v.now loader_path)
so_far (phase.Barrier u sub) items v w = IsChosen v.now items u × (shows w.now loader_path ≡ shows v.now loader_path)
so_far (phase.BeginLoader n) items v w = IsChosen v.now items (Loader n) × (shows w.now loader_path ≡ shows v.now loader_path)
so_far (phase.ShowLoader n l) items v w = IsChosen v.now items (Loader n) × (shows w.now loader_path ≡ shows v.now loader_path)
so_far (phase.SyncFolder u) items v w = IsChosen v.now items u × shown_so u v w
so_far phase.Ended items v w = KeepsLoader items v.now w.now

pub record Runs (items : List BootItem) (v : View) (ph : Phase) (w : View) : Type 0 where
  pub writes : Writes (Swaps v.now) v w
  pub leaves : EachImage w (Leaves items v)
  pub so_far : so_far ph items v w

-- ---- where a step writes

-- the folder of links that is made isn't one through which a list boots
not_linked : (items : List BootItem) (u : which.Swap) (sub : Version) (v w : View) → IsChosen v.now items u → link_so u v w → IsAside u sub w → IsLinked v.now (version_of u) sub → ⊥
not_linked items (Loader n) sub v w chosen same aside linked = not_chosen v.now items n chosen linked.0
not_linked items (Sub n) sub v w chosen same aside linked = aside.1 (shows w.now (boot_link_path (number n))) (may_now w (boot_link_path (number n))) (subst (IsTheLink n sub) (sym same) linked.1)

named_at : (items : List BootItem) (ph : Phase) (v w : View) → Needs (at_phase items ph) w → so_far ph items v w → (p : Path) (s : Seen) → writes_in ph w p s → Swaps v.now p s
named_at items (phase.Entries n b) v w needs so p s wrote = inl (inl (n, not_chosen v.now items n so.0, entries_lie items n b w needs p s wrote))
named_at items (phase.Links u sub b) v w needs so p s wrote = inl (inr (inl (version_of u, sub, not_linked items u sub v w so.0 so.2 needs.meets.0, links_lie items u sub b w needs p s wrote)))
named_at items (phase.ShowLink u sub l) v w needs so p s wrote = ⊎_elim
    (λ below. inl (inr (inr (inl (subst (λ q. is_below q p ≡ true) needs.made.part.stage below)))))
    (λ a. inr (inr (version_of u, sub, a.0 ∙ needs.made.part.at, (link_meta, subst (λ t. IsPut t s) needs.made.part.target a.1))))
    (link_lies l w needs.meets.2.made p s wrote)
named_at items (phase.ShowLoader n l) v w needs so p s wrote = ⊎_elim
    (λ below. inl (inr (inr (inr (subst (λ q. is_below q p ≡ true) needs.made.part.stage below)))))
    (λ a. inr (inl (n, a.0 ∙ needs.made.part.at, (link_meta, subst (λ t. IsPut t s) needs.made.part.target a.1))))
    (link_lies l w needs.meets.2.made p s wrote)
named_at items (phase.Choose c) v w needs so p s wrote = absurd wrote
named_at items (phase.BeginEntries n) v w needs so p s wrote = absurd wrote
named_at items (phase.LookLink u) v w needs so p s wrote = absurd wrote
named_at items (phase.BeginLink u sub) v w needs so p s wrote = absurd wrote
named_at items (phase.Barrier u sub) v w needs so p s wrote = absurd wrote
named_at items (phase.BeginLoader n) v w needs so p s wrote = absurd wrote
named_at items (phase.SyncFolder u) v w needs so p s wrote = absurd wrote
named_at items phase.Ended v w needs so p s wrote = absurd wrote

-- what is chosen, told by the disk at the beginning
module _ (items : List BootItem) (d e : Disk) (same : (p : Path) → shows e p ≡ shows d p) where
  selects_back : (n : Version) → Selects e (number n) → Selects d (number n)
  selects_back n s = record { small = s.small; link = subst (IsLinkTo (loader_target (number n))) (same loader_path) s.link }

  shows_back : (n : Version) → ShowsEntries e (number n) items → ShowsEntries d (number n) items
  shows_back n shown = entries_same e d (number n) items (λ file. sym (same (entry_path (number n) file))) shown

  shows_on : (n : Version) → ShowsEntries d (number n) items → ShowsEntries e (number n) items
  shows_on n shown = entries_same d e (number n) items (λ file. same (entry_path (number n) file)) shown

  chosen_back : (u : which.Swap) → IsChosen e items u → IsChosen d items u
  chosen_back (Loader n) (inl c) = inl (sym (same loader_path) ∙ c.0, c.1)
  chosen_back (Loader n) (inr c) = inr (c.0, selects_back c.0 c.1, c.2, (λ shown. c.3 (shows_on c.0 shown)))
  chosen_back (Sub n) c = (selects_back n c.0, shows_back n c.1)

-- ---- the end

keeps_end : (items : List BootItem) (u : which.Swap) (v w : View) → IsChosen v.now items u → shown_so u v w → KeepsLoader items v.now w.now
keeps_end items (Sub n) v w c same = ((λ e. (n, c.0, c.1)), (λ a. same))
keeps_end items (Loader n) v w c there = ((λ e. absurd (moved (subst (IsTheLoader n) e there) c)), (λ a. absurd (kept a.0 a.1 a.2 c)))
  where
    moved : IsTheLoader n (shows v.now loader_path) → IsChosen v.now items (Loader n) → ⊥
    moved was (inl a) = not_vacant (shows v.now loader_path) (loader_target (number n)) a.0 was
    moved was (inr a) =
        let e : n ≡ a.0 = loader_number n a.0 (one_target (shows v.now loader_path) _ _ was a.1.link) in
        other_not a.0 (sym a.2 ∙ e)

    kept : (k : Version) → Selects v.now (number k) → ShowsEntries v.now (number k) items → IsChosen v.now items (Loader n) → ⊥
    kept k selects shown (inl a) = not_vacant (shows v.now loader_path) (loader_target (number k)) a.0 selects.link
    kept k selects shown (inr a) =
        let e : k ≡ a.0 = loader_number k a.0 (one_target (shows v.now loader_path) _ _ selects.link a.1.link) in
        a.3 (subst (λ j. ShowsEntries v.now (number j) items) e shown)

-- ---- one step more

module _ (items : List BootItem) (v w x : View) where
  -- what isn't written at the boot loader's link leaves it
  still : (W : Path → Seen → Type 0) → Writes W w x → ((s : Seen) → W loader_path s → ⊥) → shows w.now loader_path ≡ shows v.now loader_path → shows x.now loader_path ≡ shows v.now loader_path
  still W writes none same = shows_kept W w x loader_path writes none ∙ same

  none_written : (p : Path) → Writes (λ p s. ⊥) w x → shows x.now p ≡ shows w.now p
  none_written p writes = shows_kept (λ p s. ⊥) w x p writes (λ s none. none)

  chosen_so : (u : which.Swap) → IsChosen v.now items u → ((p : Path) → shows x.now p ≡ shows v.now p) → so_far (chosen u) items v x
  chosen_so (Loader n) c same = (c, same loader_path)
  chosen_so (Sub n) c same = (c, same loader_path, same (boot_link_path (number n)))

  -- the version's link shows what it showed
  link_still : (u : which.Swap) → (W : Path → Seen → Type 0) → Writes W w x → ((s : Seen) → W (boot_link_path (number (version_of u))) s → ⊥) → link_so u v w → link_so u v x
  link_still (Loader n) W writes none same = tt
  link_still (Sub n) W writes none same = shows_kept W w x (boot_link_path (number n)) writes none ∙ same

  tells_chosen : (c : Choosing) (u : which.Swap) → tells_in (phase.Choose c) (chosen u) items w → IsChosen w.now items u
  tells_chosen c (Loader n) tells = tells
  tells_chosen c (Sub n) tells = tells

  filled_so : (u : which.Swap) (sub : Version) → IsChosen v.now items u → shows x.now loader_path ≡ shows v.now loader_path → so_far (filled u sub) items v x
  filled_so (Loader n) sub c same = (c, same)
  filled_so (Sub n) sub c same = (c, same)

  linked_so : (u : which.Swap) (sub : Version) → IsChosen v.now items u → shows x.now loader_path ≡ shows v.now loader_path → so_far (linked u sub) items v x
  linked_so (Loader n) sub c same = (c, same)
  linked_so (Sub n) sub c same = (c, same)

  barred_so : (u : which.Swap) (sub : Version) → IsChosen v.now items u → shows x.now loader_path ≡ shows v.now loader_path → so_far (barred u sub) items v x
  barred_so (Loader n) sub c same = (c, same)
  barred_so (Sub n) sub c same = (c, same)

  at_next : (ph next : Phase) → next ≡ ph → so_far ph items v x → so_far next items v x
  at_next ph next is so = subst (λ p. so_far p items v x) (sym is) so

  goes_so : (ph next : Phase) → Needs (at_phase items ph) w → Writes (writes_in ph w) w x → Needs (at_phase items next) x → Follows ph next items → tells_in ph next items w → so_far ph items v w → so_far next items v x
  goes_so (phase.Choose c) next needs writes after (inl f) tells so = at_next (phase.Choose f.0) next f.1 (λ p. none_written p writes ∙ so p)
  goes_so (phase.Choose c) next needs writes after (inr f) tells so =
      let is = tells_chosen c f.0 (subst (λ q. tells_in (phase.Choose c) q items w) f.1 tells) in
      at_next (chosen f.0) next f.1 (chosen_so f.0 (chosen_back items v.now w.now so f.0 is) (λ p. none_written p writes ∙ so p))
  goes_so (phase.BeginEntries n) next needs writes after f tells so = at_next (phase.Entries n f.0) next f.1 (so.0, none_written loader_path writes ∙ so.1)
  goes_so (phase.Entries n b) next needs writes after (inl f) tells so = at_next (phase.Entries n f.0) next f.1
      (so.0, still (writes_in (phase.Entries n b) w) writes (at_missed (writes_in (phase.Entries n b) w) w x writes loader_path (entries_miss_loader items n b w needs)) so.1)
  goes_so (phase.Entries n b) next needs writes after (inr f) tells so = at_next (phase.LookLink (Loader n)) next f
      (so.0, still (writes_in (phase.Entries n b) w) writes (at_missed (writes_in (phase.Entries n b) w) w x writes loader_path (entries_miss_loader items n b w needs)) so.1, tt)
  goes_so (phase.LookLink u) next needs writes after f tells so = at_next (phase.Links u f.0 f.1) next f.2
      (so.0, none_written loader_path writes ∙ so.1, link_still u (λ p s. ⊥) writes (λ s none. none) so.2)
  goes_so (phase.Links u sub b) next needs writes after (inl f) tells so = at_next (phase.Links u sub f.0) next f.1 (
    so.0,
    still (writes_in (phase.Links u sub b) w) writes (at_missed (writes_in (phase.Links u sub b) w) w x writes loader_path (links_miss_loader items u sub b w needs)) so.1,
    link_still u (writes_in (phase.Links u sub b) w) writes (at_missed (writes_in (phase.Links u sub b) w) w x writes (boot_link_path (number (version_of u))) (links_miss_link items u sub b w needs)) so.2,
  )
  goes_so (phase.Links u sub b) next needs writes after (inr f) tells so = at_next (filled u sub) next f
      (filled_so u sub so.0 (still (writes_in (phase.Links u sub b) w) writes (at_missed (writes_in (phase.Links u sub b) w) w x writes loader_path (links_miss_loader items u sub b w needs)) so.1))
  goes_so (phase.BeginLink u sub) next needs writes after f tells so = at_next (phase.ShowLink u sub f.0) next f.1 (so.0, none_written loader_path writes ∙ so.1)
  goes_so (phase.ShowLink u sub l) next needs writes after (inl f) tells so = at_next (phase.ShowLink u sub f.0) next f.1
      (so.0, still (writes_in (phase.ShowLink u sub l) w) writes (at_missed (writes_in (phase.ShowLink u sub l) w) w x writes loader_path (link_misses_loader items u sub l w needs)) so.1)
  goes_so (phase.ShowLink u sub l) next needs writes after (inr f) tells so = at_next (linked u sub) next f
      (linked_so u sub so.0 (still (writes_in (phase.ShowLink u sub l) w) writes (at_missed (writes_in (phase.ShowLink u sub l) w) w x writes loader_path (link_misses_loader items u sub l w needs)) so.1))
  goes_so (phase.Barrier u sub) next needs writes after f tells so = at_next (barred u sub) next f (barred_so u sub so.0 (none_written loader_path writes ∙ so.1))
  goes_so (phase.BeginLoader n) next needs writes after f tells so = at_next (phase.ShowLoader n f.0) next f.1 (so.0, none_written loader_path writes ∙ so.1)
  goes_so (phase.ShowLoader n l) next needs writes after (inl f) tells so = at_next (phase.ShowLoader n f.0) next f.1
      (so.0, still (writes_in (phase.ShowLoader n l) w) writes (more_misses l w needs.meets.2 f.0 loader_path f.2 (loader_stage_misses items n l w needs)) so.1)
  goes_so (phase.ShowLoader n l) next needs writes after (inr f) tells so =
      at_next (phase.SyncFolder (Loader n)) next f (so.0, (subst (λ q. Needs (at_phase items q) x) f after).meets.1)
  goes_so (phase.SyncFolder u) next needs writes after f tells so = absurd f
  goes_so phase.Ended next needs writes after f tells so = absurd f

  ends_so : (ph : Phase) → Writes (writes_in ph w) w x → IsLast ph → so_far ph items v w → KeepsLoader items v.now x.now
  ends_so (phase.SyncFolder (Loader n)) writes last so = keeps_end items (Loader n) v x so.0 (subst (IsTheLoader n) (sym (none_written loader_path writes)) so.1)
  ends_so (phase.SyncFolder (Sub n)) writes last so = keeps_end items (Sub n) v x so.0 (none_written loader_path writes ∙ so.1)
  ends_so phase.Ended writes last so =
      let same = none_written loader_path writes in
      ((λ e. so.0 (sym same ∙ e)), (λ a. same ∙ so.1 a))
  ends_so (phase.Choose c) writes last so = absurd last
  ends_so (phase.BeginEntries n) writes last so = absurd last
  ends_so (phase.Entries n b) writes last so = absurd last
  ends_so (phase.LookLink u) writes last so = absurd last
  ends_so (phase.Links u sub b) writes last so = absurd last
  ends_so (phase.BeginLink u sub) writes last so = absurd last
  ends_so (phase.ShowLink u sub l) writes last so = absurd last
  ends_so (phase.Barrier u sub) writes last so = absurd last
  ends_so (phase.BeginLoader n) writes last so = absurd last
  ends_so (phase.ShowLoader n l) writes last so = absurd last

-- ---- from the first step on

pub runs_from : (items : List BootItem) (v : View) (ph : Phase) → so_far ph items v v → Runs items v ph v
runs_from items v ph so = record { writes = same_view (Swaps v.now) v; leaves = λ d image. inl (d, image, same_refl d); so_far = so }

module _ (items : List BootItem) (t : Swapping) (here : t.items ≡ items) (v w x : View) (tree : IsTree w.now) (late : IsTree x.now) (needs : Needs t w) (runs : Runs items v t.phase w) (writes : Writes (writes_in t.phase w) w x) where
  now : Needs (at_phase items t.phase) w
  now = subst (λ i. Needs (at_phase i t.phase) w) here needs

  -- whatever the step answered
  pub writes_on : Writes (Swaps v.now) v x
  writes_on = weaker _ (Swaps v.now) v x (λ p s a. ⊎_elim (λ b. b) (λ b. b) a)
      (then_writes (Swaps v.now) (Swaps v.now) v w x runs.writes (weaker (writes_in t.phase w) (Swaps v.now) w x (named_at items t.phase v w now runs.so_far) writes))

  pub leaves_on : EachImage x (Leaves items v)
  leaves_on d image = leaves_then items v w d runs.leaves (step_leaves (at_phase items t.phase) w x tree late now writes d image)

  pub runs_on : (new : Swapping) → new.items ≡ t.items → Follows t.phase new.phase t.items → tells_in t.phase new.phase t.items w → Needs new x → Runs items v new.phase x
  runs_on new same follows tells after = record {
    writes = writes_on;
    leaves = leaves_on;
    so_far = goes_so items v w x t.phase new.phase now writes (subst (λ i. Needs (at_phase i new.phase) x) (same ∙ here) after)
        (subst (Follows t.phase new.phase) here follows) (subst (λ i. tells_in t.phase new.phase i w) here tells) runs.so_far;
  }

  pub runs_end : IsLast t.phase → KeepsLoader items v.now x.now
  runs_end last = ends_so items v w x t.phase writes last runs.so_far

-- the new list boots in each crash
pub ended_boots : (items : List BootItem) (new : Swapping) (x : View) → IsTree x.now → new.items ≡ items → new.phase ≡ phase.Ended → Needs new x → EachImage x (λ d. Boots d items)
ended_boots items new x tree same last after = by (subst (λ i. Needs (at_phase i phase.Ended) x) same (subst (λ q. Needs (at_phase new.items q) x) last after))
  where
    by : Needs (at_phase items phase.Ended) x → EachImage x (λ d. Boots d items)
    by needs = shown_boots items x tree needs.places needs.meets

-- ---- the beginning

begins_in_places : (items : List BootItem) (v : View) → MaySwap items v → AreItems items → (ph : Phase) → begins_in ph → Needs (at_phase items ph) v
begins_in_places items v may are (phase.Choose c) first = record {
  made = record { items = are; part = tt };
  places = may.places;
  meets = (may.settled, subst (λ p. knows_in p v.now items) (sym first) tt);
}
begins_in_places items v may are (phase.BeginEntries n) first = absurd first
begins_in_places items v may are (phase.Entries n b) first = absurd first
begins_in_places items v may are (phase.LookLink u) first = absurd first
begins_in_places items v may are (phase.Links u sub b) first = absurd first
begins_in_places items v may are (phase.BeginLink u sub) first = absurd first
begins_in_places items v may are (phase.ShowLink u sub l) first = absurd first
begins_in_places items v may are (phase.Barrier u sub) first = absurd first
begins_in_places items v may are (phase.BeginLoader n) first = absurd first
begins_in_places items v may are (phase.ShowLoader n l) first = absurd first
begins_in_places items v may are (phase.SyncFolder u) first = absurd first
begins_in_places items v may are phase.Ended first = absurd first

pub begins_needs : (items : List BootItem) (t : Swapping) (v : View) → IsBegun items t → AreItems items → MaySwap items v → Needs t v
begins_needs items t v begun are may = subst (λ i. Needs (at_phase i t.phase) v) (sym begun.list) (begins_in_places items v may are t.phase begun.first)

begins_so : (items : List BootItem) (v : View) (ph : Phase) → begins_in ph → so_far ph items v v
begins_so items v (phase.Choose c) first = λ p. refl
begins_so items v (phase.BeginEntries n) first = absurd first
begins_so items v (phase.Entries n b) first = absurd first
begins_so items v (phase.LookLink u) first = absurd first
begins_so items v (phase.Links u sub b) first = absurd first
begins_so items v (phase.BeginLink u sub) first = absurd first
begins_so items v (phase.ShowLink u sub l) first = absurd first
begins_so items v (phase.Barrier u sub) first = absurd first
begins_so items v (phase.BeginLoader n) first = absurd first
begins_so items v (phase.ShowLoader n l) first = absurd first
begins_so items v (phase.SyncFolder u) first = absurd first
begins_so items v phase.Ended first = absurd first

pub begins_runs : (items : List BootItem) (t : Swapping) (v : View) → IsBegun items t → Runs items v t.phase v
begins_runs items t v begun = runs_from items v t.phase (begins_so items v t.phase begun.first)

-- fewer parts, or fewer steps of the same part
pub measure_falls : (a b : Phase) → Falls b a → left b < 2 ^ 128 → parts b * 2 ^ 128 + left b < parts a * 2 ^ 128 + left a
measure_falls a b (inl less) small = omega (arith, less, small)
measure_falls a b (inr f) small = let e = f.0 in let less = f.1 in omega (arith, e, less, small)

-- a view that is told is one
pub told_once : (P : View → Type 0) (view : Option View) → Told view P → (w : View) → view ≡ Some w → P w
told_once P view told w is = let same : told.0 ≡ w = cc (told.1, is) in subst P same told.2
