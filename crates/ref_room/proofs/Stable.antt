-- What the tasks write, for all others; and their facts stay true under what others may write.
use Rattle.std.proofs.Common.{◌≡◌, ◌⊎◌, true, ⊎_elim, ℕ, ◌<◌, ◌+◌, arith, refl, sym, ◌∙◌, ap, subst, List, [], ◌∷◌, ◌++◌, length, append-nil, append_assoc}
use Rattle.std.specs.Prelude.{Contains}
use Rattle.ost_types.specs.Path.{Name, Path, IsPath, under, is_below}
use Rattle.std.proofs.lemmas.List.Elements.{Contains-append_right}
use Rattle.fs_trait.specs.View.{View}
use Rattle.fs_trait.specs.Image.{IsTree}
use Rattle.fs_trait.specs.Seen.{Seen, Vacant, seen, shows, IsDirectory}
use Rattle.fs_trait.specs.Change.{Writes, Harmless, LeadsTo}
use Rattle.fs_trait.proofs.Kept.{meets_kept}
use Rattle.repo_layout.specs.RefName.{parts_of}
use Rattle.repo_layout.specs.Paths.{heads, ref_path}
use Rattle.ref_room.specs.declared.way.Leg.{Leg}
use Rattle.ref_room.specs.declared.way.Leg.TheVariants.{Make, Sync, Over}
use Rattle.ref_room.specs.Clash.{way_to, IsAbove}
use Rattle.ref_room.proofs.Lists.{one}
use Rattle.ref_room.specs.Way as way
use Rattle.ref_room.specs.Way.{Walked, leg_of, folder, next_folder, writes_in, here_in}
use Rattle.ref_room.specs.Clearing as clearing
use Rattle.ref_room.specs.Clearing.{Cleared, IsUnder, IsEmpty, HereOf, IsLeaf}
use Rattle.ref_room.proofs.Names.{below-rest}
use Rattle.ref_room.proofs.Disks.{directory_no_leaf, below_empty}
use Rattle.ref_room.proofs.ClearingSteps.{seen_leaf}

-- Where a write of a way's next step lies: it is a new folder on the way to the ref's file.
pub record OnWay (name : List ℕ) (v : View) (p : Path) (s : Seen) : Type 0 where
  pub parts : ℕ
  pub some : 0 < parts
  pub few : parts < length (parts_of name)
  pub place : p ≡ way_to parts name
  pub folder : IsDirectory s
  pub vacant : shows v.now p ≡ Vacant

module _ (t : Walked) (v : View) (needs : way.Needs t v) where
  way_writes : (leg : Leg) → t.leg ≡ leg → (p : Path) (s : Seen) → writes_in leg t v p s → OnWay t.name v p s
  way_writes Make is p s a = record {
    parts = t.reached + 1;
    some = omega arith;
    few = subst (λ l. leg_of l t.reached t.name) is needs.place;
    place = a.0;
    folder = subst IsDirectory (sym a.1) tt;
    vacant = ap (shows v.now) a.0 ∙ a.2;
  }
  way_writes Sync is p s a = absurd a
  way_writes Over is p s a = absurd a

  pub way_lies : (p : Path) (s : Seen) → way.WritesOf t v p s → OnWay t.name v p s
  way_lies = way_writes t.leg refl

module _ (W : Path → Seen → Type 0) (t : Walked) (v : View) (needs : way.Needs t v) (leads : Harmless W (LeadsTo (folder t))) (next : (s : Seen) → W (next_folder t) s → IsDirectory s) where
  way_here : (leg : Leg) → Harmless W (here_in leg t)
  way_here Make p s wrote = tt
  way_here Sync p s wrote = λ e. next s (subst (λ q. W q s) e wrote)
  way_here Over p s wrote = tt

  -- The facts of a way stay true.
  pub way_kept : (w : View) → Writes W v w → way.Needs t w
  way_kept w writes = record {
    named = needs.named;
    place = needs.place;
    meets = meets_kept W (way.FirmOf t) (way.HereOf t) v w writes leads (way_here t.leg) needs.meets;
  }

-- Where a write of a clearing's next step lies: an empty folder at or below the ref's path goes.
pub record Goes (name : List ℕ) (v : View) (p : Path) (s : Seen) : Type 0 where
  pub place : IsUnder name p
  pub vacant : s ≡ Vacant
  pub folder : IsDirectory (shows v.now p)
  pub empty : IsEmpty v.now p
  pub path : IsPath p

pub clearing_lies : (t : Cleared) (v : View) → clearing.Needs t v → (p : Path) (s : Seen) → clearing.WritesOf t v p s → Goes t.name v p s
clearing_lies t v needs p s a = record {
  place = needs.folders p (subst (λ l. Contains l p) (sym a.0.1.1) (Contains-append_right a.0.1.0 (p ∷ []) p (one p)));
  vacant = a.1;
  folder = a.2;
  empty = a.3;
  path = a.4;
}

no_leaf_at : (v : View) (p : Path) → IsTree v.now → IsDirectory (shows v.now p) → IsEmpty v.now p → (rest : Path) → IsLeaf (shows v.now (p ++ rest)) → ⊥
no_leaf_at v p tree folder empty [] leaf = directory_no_leaf v.now (v.now.at p) folder (seen_leaf v.now (v.now.at p) (subst (λ q. IsLeaf (shows v.now q)) (append-nil p) leaf))
no_leaf_at v p tree folder empty (x ∷ rest) leaf = subst IsLeaf (ap (seen v.now) (below_empty v.now tree p x rest empty)) leaf

-- No leaf stands at the folder or below it, so no ref goes with it.
pub goes_alone : (name : List ℕ) (v : View) (p : Path) (s : Seen) → IsTree v.now → Goes name v p s → (q : Path) → is_below p q ≡ true → IsLeaf (shows v.now q) → ⊥
goes_alone name v p s tree goes q below leaf =
    let rest = below-rest p q below in
    no_leaf_at v p tree goes.folder goes.empty rest.0 (subst (λ r. IsLeaf (shows v.now r)) rest.1 leaf)

module _ (W : Path → Seen → Type 0) (t : Cleared) (v : View) (needs : clearing.Needs t v) (apart : (p : Path) (s : Seen) → IsUnder t.name p → W p s → ⊥) where
  kept_here : (w : View) → Writes W v w → (p : Path) → IsUnder t.name p → shows w.now p ≡ shows v.now p
  kept_here w writes p place = ⊎_elim (λ same. same) (λ wrote. absurd (apart p _ place wrote)) (writes.now p)

  inside : (f : Path) (x : Name) → IsUnder t.name f → IsUnder t.name (under f x)
  inside f x place = (under place.0 x, ap (λ q. under q x) place.1 ∙ append_assoc (ref_path t.name) place.0 (x ∷ []))

  own_place : IsUnder t.name (ref_path t.name)
  own_place = ([], sym (append-nil (ref_path t.name)))

  clash_place : (other : List ℕ) → IsAbove t.name other → IsUnder t.name (ref_path other)
  unfolding ref_path
  clash_place other above = (above.0 ∷ above.1, ap (λ q. heads ++ q) above.2 ∙ sym (append_assoc heads (parts_of t.name) (above.0 ∷ above.1)))

  -- The facts of a clearing stay true.
  pub clearing_kept : (w : View) → Writes W v w → clearing.Needs t w
  clearing_kept w writes = record {
    named = needs.named;
    pending = needs.pending;
    folders = needs.folders;
    least = needs.least;
    here = λ p. record {
      known = λ f x is has. subst (clearing.IsKnown t p) (sym (kept_here w writes p (subst (IsUnder t.name) (sym is) (inside f x (needs.folders f has))))) ((needs.here p).known f x is has);
      own = λ is. subst (λ s. (Contains t.pending p ⊎ Contains t.folders p ⊎ (s ≡ Vacant)) × (IsLeaf s → ⊥)) (sym (kept_here w writes p (subst (IsUnder t.name) (sym is) own_place))) ((needs.here p).own is);
      folder = λ has. subst IsDirectory (sym (kept_here w writes p (needs.folders p has))) ((needs.here p).folder has);
      least = λ other is at. subst IsLeaf (sym (kept_here w writes p (subst (IsUnder t.name) (sym at) (clash_place other (needs.least other is).1)))) ((needs.here p).least other is at);
    };
  }
