-- Room is made for the ref's file.
use Rattle.std.proofs.Common.{◌≡◌, ◌≢◌, ℕ, ◌+◌, ◌-◌, ◌*◌, ◌≤◌, ◌<◌, arith, Bool, true, false, ◌&&◌, refl, sym, ◌∙◌, ap, subst, List, [], ◌∷◌, ◌++◌, length, take, length-append, Option, Some, None, Result, Ok, Err}
use Rattle.std.specs.Prelude.{IsSome, IfOk, codes}
use Rattle.std.specs.Fmt.{decimal}
use Rattle.std.proofs.lemmas.List.{length-take}
use Rattle.ost_types.specs.Path.{Path, is_in, is_below}
use Rattle.ost_types.proofs.Paths.{under-is_in, under-folder, is_below-self}
use Rattle.fs_trait.specs.declared.types.FsErr.{FsErr}
use Rattle.fs_trait.specs.declared.task.StepResult.{StepResult}
use Rattle.fs_trait.specs.declared.task.StepResult.TheVariants.{More, Done}
use Rattle.fs_trait.specs.View.{View}
use Rattle.fs_trait.specs.Seen.{Seen, Vacant, Directory, shows, MayBe, IsDirectory, NotDirectory}
use Rattle.fs_trait.specs.Effect.{Elapses}
use Rattle.fs_trait.specs.Change.{Writes, Harmless, LeadsTo}
use Rattle.fs_trait.proofs.Images.{not_both}
use Rattle.fs_trait.proofs.Claims.{is_below-before}
use Rattle.fs_trait.proofs.Kept.{meets_kept}
use Rattle.fs_trait.proofs.Facts.{shows_kept}
use Rattle.repo_layout.specs.RefName.{parts_of}
use Rattle.repo_layout.specs.Paths.{heads, in_repo, ref_path, stage_path}
use Rattle.ref_room.specs.Clash.{way_to, ref_folder}
use Rattle.ref_room.specs.Way as way
use Rattle.ref_room.specs.Clearing as clearing
use Rattle.ref_room.specs.declared.way.Leg.{Leg}
use Rattle.ref_room.specs.declared.way.Leg.TheVariants as leg
use Rattle.ref_room.proofs.Names.{length-ref_path, some_parts}
use Rattle.ref_room.proofs.Begins.{way_begins}
use Rattle.ref_room.proofs.Stable.{Goes, clearing_lies}
use Rattle.staged_file.specs.Staged.{Staged}
use Rattle.staged_file.specs.Steps as steps
use Rattle.staged_file.proofs.Begins.{needs_new}
use Rattle.ref_store.specs.declared.phase.Phase.TheVariants as phase
use Rattle.ref_store.specs.Change.{Change, IsNew, left_way}
use Rattle.ref_store.specs.Steps.{Needs, begins, HereOfStage}
use Rattle.ref_store.proofs.StepLemmas.{meets_in, made, placed, stage-aside}
use Rattle.ref_store.proofs.PutLemmas.{file_in}

both_true : (a b : Bool) → a && b ≡ true → (a ≡ true) × (b ≡ true)
both_true true true e = (refl, refl)
both_true true false e = let n : false ≡ true = e in cc
both_true false b e = let n : false ≡ true = e in cc

pub below-length : (p q : Path) → is_below p q ≡ true → length p ≤ length q
unfolding is_below
below-length [] q e = omega arith
below-length (a ∷ p) [] e = let n : false ≡ true = e in cc
below-length (a ∷ p) (x ∷ q) e = let more : length p ≤ length q = below-length p q (both_true _ _ e).1 in omega (arith, more)

-- nothing at or below a ref's path is on the way to the refs, or to a staging path
pub off_heads : (name : List ℕ) (p : Path) → is_below (ref_path name) p ≡ true → is_below p heads ≡ true → ⊥
off_heads name p a b = absurd (omega (arith, below-length _ _ a, below-length _ _ b, length-ref_path name, some_parts name))

stage-off : (actor : ℕ) (name : List ℕ) → is_below (ref_path name) (stage_path actor) ≡ false
unfolding stage_path ref_path is_below
stage-off actor name = refl

home-off : (name : List ℕ) → is_below (ref_path name) (in_repo (codes "tmp" ∷ [])) ≡ false
unfolding ref_path is_below
home-off name = refl

pub home_is : (actor : ℕ) (p : Path) → is_in p (stage_path actor) ≡ true → p ≡ in_repo (codes "tmp" ∷ [])
unfolding stage_path
home_is actor p in_ = let u = under-is_in p (stage_path actor) in_ in under-folder p (in_repo (codes "tmp" ∷ [])) u.0 (codes "actor-" ++ decimal actor) (sym u.1)

-- what is kept while room is made
begins_kept : (o : Option (List ℕ)) (actor : ℕ) (W : Path → Seen → Type 0) (v w : View) → Writes W v w → Harmless W (LeadsTo heads) → Harmless W (HereOfStage actor) → begins o actor v → begins o actor w
begins_kept None actor W v w writes firm here was = tt
begins_kept (Some commit) actor W v w writes firm here was = meets_kept W (LeadsTo heads) (HereOfStage actor) v w writes firm here was

pub begins_leads : (o : Option (List ℕ)) (actor : ℕ) (v : View) → IsSome o → begins o actor v → (p : Path) (s : Seen) → MayBe v p s → LeadsTo heads p s
begins_leads None actor v some was = let n : false ≡ true = some in cc
begins_leads (Some commit) actor v some was = was.firm

pub begins_here : (o : Option (List ℕ)) (actor : ℕ) (v : View) → IsSome o → begins o actor v → (p : Path) → HereOfStage actor p (shows v.now p)
begins_here None actor v some was = let n : false ≡ true = some in cc
begins_here (Some commit) actor v some was = was.here

module _ (t : Change) (v : View) (needs : Needs t v) (c : clearing.Cleared) (is : t.phase ≡ phase.Clear c) where
  pub clear_lies : (p : Path) (s : Seen) → clearing.WritesOf c v p s → Goes t.name v p s
  clear_lies p s a = subst (λ n. Goes n v p s) (made t v needs (phase.Clear c) is).0 (clearing_lies c v (meets_in t v needs (phase.Clear c) is).1 p s a)

  clear_below : (p : Path) (s : Seen) → clearing.WritesOf c v p s → is_below (ref_path t.name) p ≡ true
  clear_below p s a = let u = (clear_lies p s a).place in subst (λ q. is_below (ref_path t.name) q ≡ true) (sym u.1) (is_below-before (ref_path t.name) u.0)

  clear_begins : (w : View) → Writes (clearing.WritesOf c v) v w → begins t.value t.actor w
  clear_begins w writes = begins_kept t.value t.actor (clearing.WritesOf c v) v w writes
      (λ p s a below. absurd (off_heads t.name p (clear_below p s a) below))
      (λ p s a. (
        λ e. absurd (not_both (subst (λ q. is_below (ref_path t.name) q ≡ true) e (clear_below p s a)) (stage-off t.actor t.name)),
        λ in_. absurd (not_both (subst (λ q. is_below (ref_path t.name) q ≡ true) (home_is t.actor p in_) (clear_below p s a)) (home-off t.name)),
      ))
      (meets_in t v needs (phase.Clear c) is).0

  pub clear_kept : (d : clearing.Cleared) → d.name ≡ c.name → (w : View) → Writes (clearing.WritesOf c v) v w → clearing.Needs d w → Needs (record t { phase = phase.Clear d }) w
  clear_kept d same w writes after = record {
    named = needs.named;
    actor = needs.actor;
    made = (same ∙ (made t v needs (phase.Clear c) is).0, (made t v needs (phase.Clear c) is).1);
    meets = (clear_begins w writes, after);
  }

  -- nothing stands at the path any more
  pub clear_over : (x : way.Walked) → x ≡ way.begun t.name → shows v.now (ref_path c.name) ≡ Vacant → clearing.act c ≡ clearing.Ends → (w : View) → Writes (clearing.WritesOf c v) v w → Needs (record t { phase = phase.Walk x }) w
  clear_over x e vacant ends w writes = subst (λ y. Needs (record t { phase = phase.Walk y }) w) (sym e) (
      let m = made t v needs (phase.Clear c) is in
      let still : shows w.now (ref_path c.name) ≡ shows v.now (ref_path c.name) = shows_kept (clearing.WritesOf c v) v w (ref_path c.name) writes (λ s a. let n : clearing.Ends ≡ clearing.Removes = sym ends ∙ a.0.0 in cc) in
      let b = clear_begins w writes in
      record {
        named = needs.named;
        actor = needs.actor;
        made = (refl, m.1);
        meets = (b, way_begins t.name w needs.named (begins_leads t.value t.actor w m.1 b), subst (λ n. NotDirectory (shows w.now (ref_path n))) m.0 (subst NotDirectory (sym (still ∙ vacant)) tt));
      })

-- where the folders lie that a way makes
pub way_lies : (w : way.Walked) (v : View) → way.Needs w v → (p : Path) (s : Seen) → way.WritesOf w v p s → (k : ℕ) × (p ≡ way_to k w.name) × (k < length (parts_of w.name)) × (s ≡ Directory way.folder_meta) × (shows v.now p ≡ Vacant)
way_lies w v needs = by w.leg refl
  where
    by : (l : Leg) → w.leg ≡ l → (p : Path) (s : Seen) → way.writes_in l w v p s → (k : ℕ) × (p ≡ way_to k w.name) × (k < length (parts_of w.name)) × (s ≡ Directory way.folder_meta) × (shows v.now p ≡ Vacant)
    by leg.Make is p s a = (w.reached + 1, a.0, subst (λ l. way.leg_of l w.reached w.name) is needs.place, a.1, ap (shows v.now) a.0 ∙ a.2)
    by leg.Sync is p s a = absurd a
    by leg.Over is p s a = absurd a

pub way_to-short : (k : ℕ) (name : List ℕ) → k < length (parts_of name) → way_to k name ≢ ref_path name
unfolding way_to ref_path
way_to-short k name few e = absurd (omega (arith, ap length e, few, length-append heads (take k (parts_of name)), length-append heads (parts_of name), length-take k (parts_of name)))

pub is_over : (l : Leg) → way.is_over l ≡ true → l ≡ leg.Over
is_over leg.Over e = refl
is_over leg.Make e = let n : false ≡ true = e in cc
is_over leg.Sync e = let n : false ≡ true = e in cc

next_name : (l : Leg) (w : way.Walked) → (way.next_in l w).name ≡ w.name
next_name leg.Make w = refl
next_name leg.Sync w = refl
next_name leg.Over w = refl

pub same_name : (w x : way.Walked) → x ≡ way.next w → x.name ≡ w.name
same_name w x e = ap (λ (y : way.Walked). y.name) e ∙ next_name w.leg w

module _ (t : Change) (v : View) (needs : Needs t v) (y : way.Walked) (is : t.phase ≡ phase.Walk y) where
  pub walk_lies : (p : Path) (s : Seen) → way.WritesOf y v p s → (k : ℕ) × (p ≡ way_to k t.name) × (k < length (parts_of t.name)) × (s ≡ Directory way.folder_meta) × (shows v.now p ≡ Vacant)
  walk_lies p s a = subst (λ n. (k : ℕ) × (p ≡ way_to k n) × (k < length (parts_of n)) × (s ≡ Directory way.folder_meta) × (shows v.now p ≡ Vacant)) (made t v needs (phase.Walk y) is).0 (way_lies y v (meets_in t v needs (phase.Walk y) is).1 p s a)

  walk_begins : (w : View) → Writes (way.WritesOf y v) v w → begins t.value t.actor w
  walk_begins w writes = begins_kept t.value t.actor (way.WritesOf y v) v w writes
      (λ p s a below. subst IsDirectory (sym (walk_lies p s a).3) tt)
      (λ p s a. (
        λ e. absurd (not_both (is_below-self (stage_path t.actor)) (subst (λ q. is_below (stage_path t.actor) q ≡ false) (sym (walk_lies p s a).1 ∙ e) (stage-aside t.actor _ t.name))),
        λ in_. subst IsDirectory (sym (walk_lies p s a).3) tt,
      ))
      (meets_in t v needs (phase.Walk y) is).0

  walk_leaf : (w : View) → Writes (way.WritesOf y v) v w → NotDirectory (shows w.now (ref_path t.name))
  walk_leaf w writes = subst NotDirectory (sym (shows_kept (way.WritesOf y v) v w (ref_path t.name) writes (λ s a. let l = walk_lies (ref_path t.name) s a in way_to-short l.0 t.name l.2 (sym l.1)))) (meets_in t v needs (phase.Walk y) is).2

  pub walk_kept : (x : way.Walked) → x.name ≡ y.name → (w : View) → Writes (way.WritesOf y v) v w → way.Needs x w → Needs (record t { phase = phase.Walk x }) w
  walk_kept x same w writes after = record {
    named = needs.named;
    actor = needs.actor;
    made = (same ∙ (made t v needs (phase.Walk y) is).0, (made t v needs (phase.Walk y) is).1);
    meets = (walk_begins w writes, after, walk_leaf w writes);
  }

  -- the way is over
  over_leads : (x : way.Walked) → x.name ≡ t.name → x.leg ≡ leg.Over → (w : View) → way.Needs x w → (p : Path) (s : Seen) → MayBe w p s → LeadsTo (ref_folder t.name) p s
  over_leads x same over w after p s may =
      let n : x.reached + 1 ≡ length (parts_of x.name) = subst (λ l. way.leg_of l x.reached x.name) over after.place in
      let k : x.reached ≡ length (parts_of x.name) - 1 = omega (arith, n) in
      subst (λ m. LeadsTo (ref_folder m) p s) same (subst (λ r. LeadsTo (way_to r x.name) p s) k (after.meets.firm p s may))

  pub walk_over : (x : way.Walked) → x.name ≡ y.name → x.leg ≡ leg.Over → (f : Staged) → IsNew (record t { phase = phase.Walk x }) f → (w : View) → Writes (way.WritesOf y v) v w → way.Needs x w → Needs (record t { phase = phase.Put f }) w
  walk_over x same over f new w writes after =
      let m = made t v needs (phase.Walk y) is in
      let file = new.0 in
      let here = begins_here t.value t.actor w m.1 (walk_begins w writes) in
      record {
        named = needs.named;
        actor = needs.actor;
        made = file_in (record t { phase = phase.Walk x }) (phase.Put f) f file;
        meets = (
          needs_new f w new.1
              (subst (λ a. steps.IsPlaced a f.folder f.at) (sym file.stage) (subst (λ a. steps.IsPlaced (stage_path t.actor) a f.at) (sym file.folder) (subst (λ a. steps.IsPlaced (stage_path t.actor) (ref_folder t.name) a) (sym file.at) (placed t.actor t.name needs.actor))))
              (λ p s may. subst (λ g. LeadsTo g p s) (sym file.folder) (over_leads x (same ∙ m.0) over w after p s may))
              (subst (λ q. NotDirectory (shows w.now q)) (sym file.stage) ((here (stage_path t.actor)).0 refl))
              (λ p in_. (here p).1 (subst (λ q. is_in p q ≡ true) file.stage in_)),
          walk_leaf w writes,
        );
      }

-- a way is never longer than this
left_bound : (l : Leg) (w : way.Walked) → way.left_in l w ≤ 2 * length (ref_path w.name)
left_bound leg.Make w = omega (arith, length-ref_path w.name)
left_bound leg.Sync w = omega (arith, length-ref_path w.name)
left_bound leg.Over w = omega arith

pub left_small : (w : way.Walked) (name : List ℕ) → w.name ≡ name → way.left w + 9 ≤ left_way name
left_small w name e = subst (λ n. way.left w + 9 ≤ left_way n) e (let h = left_bound w.leg w in omega (arith, h))

-- the name stays
pub way_name : (old : way.Walked) (result : Result (StepResult (Option (List ℕ))) FsErr) (new : way.Walked) → way.IsStepped old result new → new.name ≡ old.name
way_name old (Ok More) new s = same_name old new s.0
way_name old (Ok (Done None)) new s = same_name old new s.0
way_name old (Ok (Done (Some other))) new s = ap (λ (y : way.Walked). y.name) s.0
way_name old (Err e) new s = ap (λ (y : way.Walked). y.name) s

pub clear_name : (old : clearing.Cleared) (result : Result (StepResult (Option (List ℕ))) FsErr) (new : clearing.Cleared) → clearing.IsStepped old result new → new.name ≡ old.name
clear_name old (Ok More) new s = s.0
clear_name old (Ok (Done None)) new s = ap (λ (y : clearing.Cleared). y.name) s.0
clear_name old (Ok (Done (Some other))) new s = ap (λ (y : clearing.Cleared). y.name) s.0
clear_name old (Err e) new s = ap (λ (y : clearing.Cleared). y.name) s

-- the last step of each part
pub clear_told : (c : clearing.Cleared) (v : View) (result : Result (StepResult (Option (List ℕ))) FsErr) → result ≡ Ok (Done None) → IfOk result (clearing.Tells c v) → shows v.now (ref_path c.name) ≡ Vacant
clear_told c v result is tells = subst (λ r. IfOk r (clearing.Tells c v)) is tells

pub clear_ends : (c d : clearing.Cleared) (result : Result (StepResult (Option (List ℕ))) FsErr) → result ≡ Ok (Done None) → clearing.IsStepped c result d → clearing.act c ≡ clearing.Ends
clear_ends c d result is stepped = (subst (λ r. clearing.IsStepped c r d) is stepped).1

pub way_ends : (w x : way.Walked) (result : Result (StepResult (Option (List ℕ))) FsErr) → result ≡ Ok (Done None) → way.IsStepped w result x → x.leg ≡ leg.Over
way_ends w x result is stepped = is_over x.leg (subst (λ r. way.IsStepped w r x) is stepped).1

-- where no changing call was made, the view stands
pub view_stands : (before now : ℕ) (past since : ℕ → View → Type 0) (view : Option View) (v : View)
    → Elapses before now past since view → now ≡ before → past before v → ((w : View) → since now w → view ≡ Some w) → view ≡ Some v
view_stands before now past since view v time same was only = only v (subst (λ t. since t v) (sym same) (time.keeps before v (omega arith) was))

-- and none is made once the room is there
pub clear_idle : (c : clearing.Cleared) (before now : ℕ) → clearing.act c ≡ clearing.Ends → clearing.Takes (clearing.act c) before now → now ≡ before
clear_idle c before now ends takes = subst (λ a. clearing.Takes a before now) ends takes

pub way_idle : (w : way.Walked) (before now : ℕ) → way.is_over w.leg ≡ true → way.Takes w.leg before now → now ≡ before
way_idle w before now over takes = subst (λ l. way.Takes l before now) (is_over w.leg over) takes
