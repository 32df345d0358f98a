-- What a change writes, for all others; and its facts stay true under what others may write.
use Rattle.std.proofs.Common.{◌≡◌, ◌⊎◌, inl, inr, ⊎_elim, ℕ, ◌+◌, ◌-◌, ◌<◌, arith, true, refl, sym, ◌∙◌, ap, subst, List, [], append-nil, length, Option, Some, None}
use Rattle.ost_types.specs.declared.meta.Meta.{Meta}
use Rattle.ost_types.specs.Path.{Path, is_in}
use Rattle.fs_trait.specs.declared.types.Value.TheVariants.{File}
use Rattle.fs_trait.specs.View.{View}
use Rattle.fs_trait.specs.Effect.{IsFresh}
use Rattle.fs_trait.specs.Seen.{Seen, Vacant, Directory, Symlink, Leaf, shows, MayBe, IsDirectory, NotDirectory}
use Rattle.fs_trait.specs.Change.{Writes, Harmless, LeadsTo, Own}
use Rattle.fs_trait.proofs.Kept.{meets_kept, firm_kept}
use Rattle.fs_trait.proofs.Facts.{shows_kept}
use Rattle.repo_layout.specs.RefName.{parts_of}
use Rattle.repo_layout.specs.Paths.{heads, ref_path, stage_path}
use Rattle.ref_room.specs.Clash.{way_to, ref_folder}
use Rattle.ref_room.specs.Clearing.{IsLeaf, IsUnder}
use Rattle.ref_room.specs.Way as way
use Rattle.ref_room.specs.declared.way.Leg.{Leg}
use Rattle.ref_room.specs.declared.way.Leg.TheVariants as leg
use Rattle.ref_room.proofs.Names.{way_to-none, way_to-all, some_parts}
use Rattle.ref_room.proofs.Stable.{OnWay, Goes, way_lies, way_kept, clearing_kept}
use Rattle.staged_file.specs.Staged.{Staged}
use Rattle.staged_file.proofs.Stable as staged
use Rattle.ref_store.specs.declared.phase.Phase.{Phase}
use Rattle.ref_store.specs.declared.phase.Phase.TheVariants as phase
use Rattle.ref_store.specs.Change.{Change}
use Rattle.ref_store.specs.Steps.{Needs, needs_in, writes_in, WritesOf, ShowsNew, HereOfStage, begins, leads}
use Rattle.ref_store.proofs.StepLemmas.{meets_in, made}
use Rattle.ref_store.proofs.LookLemmas.{leaf_not_folder}
use Rattle.ref_store.proofs.PutLemmas.{shows_new}
use Rattle.ref_store.proofs.RoomLemmas.{clear_lies}

-- a write that the change makes among the refs: the ref's new value in its file, a new folder on the way, or a folder that goes
abbrev pub OfRef : Change → View → Path → Seen → Type 0
OfRef t v p s = ((p ≡ ref_path t.name) × ShowsNew t.value s) ⊎ OnWay t.name v p s ⊎ Goes t.name v p s

-- Where a write of the next step lies: at the staging path, or among the refs. A file that is written is a new one or the staged
-- one; and a folder goes at and below the ref's path alone.
pub record Lies (t : Change) (v : View) (p : Path) (s : Seen) : Type 0 where
  pub place : (p ≡ stage_path t.actor) ⊎ OfRef t v p s
  pub comes : (n : ℕ) (m : Meta) (b : List ℕ) → s ≡ Leaf n m b → IsFresh n v ⊎ (v.now.at (stage_path t.actor) ≡ File n)
  pub folders : IsDirectory s ⊎ NotDirectory (shows v.now p) ⊎ Goes t.name v p s

no_leaf_comes : (t : Change) (v : View) (s : Seen) → ¬ (IsLeaf s) → (n : ℕ) (m : Meta) (b : List ℕ) → s ≡ Leaf n m b → IsFresh n v ⊎ (v.now.at (stage_path t.actor) ≡ File n)
no_leaf_comes t v s none n m b e = absurd (none (subst IsLeaf (sym e) tt))

directory_leaf : (s : Seen) → IsDirectory s → ¬ (IsLeaf s)
directory_leaf (Directory m) is leaf = leaf
directory_leaf Vacant is leaf = is
directory_leaf (Leaf n m b) is leaf = is
directory_leaf (Symlink m l) is leaf = is

module _ (t : Change) (v : View) (needs : Needs t v) where
  put_lies : (f : Staged) → t.phase ≡ phase.Put f → (p : Path) (s : Seen) → staged.Lies f v p s → Lies t v p s
  put_lies f is p s l =
      let m = made t v needs (phase.Put f) is in
      record {
        place = ⊎_elim (λ e. inl (e ∙ m.stage)) (λ x. inr (inl (x.0 ∙ m.at, shows_new t f m s x.1))) l.place;
        comes = λ n k b e. subst (λ q. IsFresh n v ⊎ (v.now.at q ≡ File n)) m.stage (l.comes n k b e);
        folders = inr (inl l.folders);
      }

  lies : (ph : Phase) → t.phase ≡ ph → (p : Path) (s : Seen) → writes_in ph t v p s → Lies t v p s
  lies phase.Look is p s a = absurd a
  lies (phase.Clear c) is p s a =
      let g = clear_lies t v needs c is p s a in
      record { place = inr (inr (inr g)); comes = no_leaf_comes t v s (λ l. subst IsLeaf g.vacant l); folders = inr (inr g) }
  lies (phase.Walk y) is p s a =
      let o = subst (λ n. OnWay n v p s) (made t v needs (phase.Walk y) is).0 (way_lies y v (meets_in t v needs (phase.Walk y) is).1 p s a) in
      record { place = inr (inr (inl o)); comes = no_leaf_comes t v s (directory_leaf s o.folder); folders = inl o.folder }
  lies (phase.Put f) is p s a = put_lies f is p s (staged.staged_lies f v (meets_in t v needs (phase.Put f) is).0 p s a)
  lies phase.Unlink is p s a = record {
    place = inr (inl (a.0, subst (λ o. ShowsNew o s) (sym (made t v needs phase.Unlink is)) a.1));
    comes = no_leaf_comes t v s (λ l. subst IsLeaf a.1 l);
    folders = inr (inl (subst (λ q. NotDirectory (shows v.now q)) (sym a.0) (leaf_not_folder _ (meets_in t v needs phase.Unlink is))));
  }
  lies phase.SyncFolder is p s a = absurd a
  lies phase.Ended is p s a = absurd a

  pub ref_lies : (p : Path) (s : Seen) → WritesOf t v p s → Lies t v p s
  ref_lies = lies t.phase refl

-- The writes of others spare the change: they write nothing at its staging path and at or below the ref's path, leave folders
-- where folders are on the way there and above the staging path, and give the staged file no other name.
pub record Spares (W : Path → Seen → Type 0) (t : Change) (v : View) : Type 0 where
  pub stage : (s : Seen) → W (stage_path t.actor) s → ⊥
  pub parents : (p : Path) (s : Seen) → is_in p (stage_path t.actor) ≡ true → IsDirectory (shows v.now p) → W p s → IsDirectory s
  pub own : (n : ℕ) → v.now.at (stage_path t.actor) ≡ File n → ((p : Path) (s : Seen) → MayBe v p s → Own n (stage_path t.actor) p s) → Harmless W (Own n (stage_path t.actor))
  pub under : (p : Path) (s : Seen) → IsUnder t.name p → W p s → ⊥
  pub leads : (k : ℕ) → k < length (parts_of t.name) → ((p : Path) (s : Seen) → MayBe v p s → LeadsTo (way_to k t.name) p s) → Harmless W (LeadsTo (way_to k t.name))
  pub folders : (k : ℕ) (s : Seen) → k < length (parts_of t.name) → W (way_to k t.name) s → IsDirectory s

module _ (W : Path → Seen → Type 0) (t : Change) (v : View) (spares : Spares W t v) (needs : Needs t v) (w : View) (writes : Writes W v w) where
  at_ref : (s : Seen) → W (ref_path t.name) s → ⊥
  at_ref s wrote = spares.under (ref_path t.name) s ([], sym (append-nil (ref_path t.name))) wrote

  still : shows w.now (ref_path t.name) ≡ shows v.now (ref_path t.name)
  still = shows_kept W v w (ref_path t.name) writes at_ref

  begins_still : (o : Option (List ℕ)) → begins o t.actor v → begins o t.actor w
  begins_still None was = tt
  begins_still (Some commit) was =
      meets_kept W (LeadsTo heads) (HereOfStage t.actor) v w writes
      (subst (λ f. Harmless W (LeadsTo f)) (way_to-none t.name) (spares.leads 0 (some_parts t.name) (subst (λ f. (p : Path) (s : Seen) → MayBe v p s → LeadsTo f p s) (sym (way_to-none t.name)) was.firm)))
      (λ p s wrote. ((λ e. absurd (spares.stage s (subst (λ q. W q s) e wrote))), (λ in_. spares.parents p s in_ ((was.here p).1 in_) wrote)))
      was

  last_part : length (parts_of t.name) - 1 < length (parts_of t.name)
  last_part = omega (arith, some_parts t.name)

  leads_still : (o : Option (List ℕ)) → leads o t.name v → leads o t.name w
  leads_still None was = tt
  leads_still (Some commit) was = firm_kept W (LeadsTo (ref_folder t.name)) v w writes (spares.leads (length (parts_of t.name) - 1) last_part was) was

  next_by : (l : Leg) (k : ℕ) → way.leg_of l k t.name → (s : Seen) → W (way_to (k + 1) t.name) s → IsDirectory s
  next_by leg.Make k h s wrote = spares.folders (k + 1) s h wrote
  next_by leg.Sync k h s wrote = spares.folders (k + 1) s h wrote
  next_by leg.Over k h s wrote = absurd (at_ref s (subst (λ q. W q s) (ap (λ m. way_to m t.name) h ∙ way_to-all t.name) wrote))

  walk_still : (y : way.Walked) → y.name ≡ t.name → way.Needs y v → way.Needs y w
  walk_still y e was = way_kept W y v was
      (subst (λ n. Harmless W (LeadsTo (way_to y.reached n))) (sym e)
      (spares.leads y.reached (subst (λ n. y.reached < length (parts_of n)) e few) (subst (λ n. (p : Path) (s : Seen) → MayBe v p s → LeadsTo (way_to y.reached n) p s) e was.meets.firm)))
      (λ s wrote. next_by y.leg y.reached (subst (λ n. way.leg_of y.leg y.reached n) e was.place) s (subst (λ n. W (way_to (y.reached + 1) n) s) e wrote)) w writes
    where
      short : (l : Leg) → way.leg_of l y.reached y.name → y.reached < length (parts_of y.name)
      short leg.Make h = omega (arith, h)
      short leg.Sync h = omega (arith, h)
      short leg.Over h = omega (arith, h)

      few : y.reached < length (parts_of y.name)
      few = short y.leg was.place

  file_spares : (f : Staged) → t.phase ≡ phase.Put f → staged.Spares W f v
  file_spares f is =
      let m = made t v needs (phase.Put f) is in
      record {
        stage = λ s wrote. spares.stage s (subst (λ q. W q s) m.stage wrote);
        leads = λ was. subst (λ g. Harmless W (LeadsTo g)) (sym m.folder)
            (spares.leads (length (parts_of t.name) - 1) last_part (subst (λ g. (p : Path) (s : Seen) → MayBe v p s → LeadsTo g p s) m.folder was));
        parents = λ p s in_ here wrote. spares.parents p s (subst (λ q. is_in p q ≡ true) m.stage in_) here wrote;
        own = λ n at was. subst (λ q. Harmless W (Own n q)) (sym m.stage) (spares.own n (subst (λ q. v.now.at q ≡ File n) m.stage at) (subst (λ q. (p : Path) (s : Seen) → MayBe v p s → Own n q p s) m.stage was));
        target = λ s wrote. absurd (at_ref s (subst (λ q. W q s) m.at wrote));
      }

  needs_still : (ph : Phase) → t.phase ≡ ph → needs_in ph t w
  needs_still phase.Look is = begins_still t.value (meets_in t v needs phase.Look is)
  needs_still (phase.Clear c) is =
      let m = meets_in t v needs (phase.Clear c) is in
      (begins_still t.value m.0, clearing_kept W c v m.1 (λ p s place wrote. spares.under p s (subst (λ n. IsUnder n p) (made t v needs (phase.Clear c) is).0 place) wrote) w writes)
  needs_still (phase.Walk y) is =
      let m = meets_in t v needs (phase.Walk y) is in
      (begins_still t.value m.0, walk_still y (made t v needs (phase.Walk y) is).0 m.1, subst NotDirectory (sym still) m.2)
  needs_still (phase.Put f) is =
      let m = meets_in t v needs (phase.Put f) is in
      (staged.staged_kept W f v (file_spares f is) m.0 w writes, subst NotDirectory (sym still) m.1)
  needs_still phase.Unlink is = subst IsLeaf (sym still) (meets_in t v needs phase.Unlink is)
  needs_still phase.SyncFolder is =
      let m = meets_in t v needs phase.SyncFolder is in
      (still ∙ m.0, ⊎_elim (λ same. subst IsDirectory (sym same) m.1) (λ a. spares.folders (length (parts_of t.name) - 1) _ last_part a) (writes.now (ref_folder t.name)))
  needs_still phase.Ended is =
      let m = meets_in t v needs phase.Ended is in
      ((λ s may. ⊎_elim (m.0 s) (λ a. absurd (at_ref s a)) (writes.only (ref_path t.name) s may)), leads_still t.value m.1)

  -- The facts of the change stay true.
  pub ref_kept : Needs t w
  ref_kept = record { named = needs.named; actor = needs.actor; made = needs.made; meets = needs_still t.phase refl }
