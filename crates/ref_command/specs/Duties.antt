-- What a change of a ref writes is what its lane may write, and each kind of step keeps its obligation.
use Rattle.std.proofs.Common.{◌≡◌, ◌≢◌, ◌⊎◌, inl, inr, ⊎_elim, ℕ, true, refl, sym, ◌∙◌, ap, subst, List, [], Option, Some, None}
use Rattle.ost_types.specs.declared.meta.Meta.{Meta}
use Rattle.ost_types.specs.declared.object.Kind.{Kind}
use Rattle.ost_types.specs.declared.object.Kind.TheVariants.{Commit}
use Rattle.ost_types.specs.Path.{Name, Path}
use Rattle.ost_types.proofs.Paths.{under-folder}
use Rattle.fs_trait.specs.declared.types.Value.TheVariants.{File}
use Rattle.fs_trait.specs.View.{View}
use Rattle.fs_trait.specs.Image.{Holds}
use Rattle.fs_trait.specs.Effect.{IsFresh}
use Rattle.fs_trait.specs.Seen.{Seen, Vacant, Directory, Symlink, Leaf, shows, MayBe, IsDirectory, NotDirectory, bytes_in}
use Rattle.repo_layout.specs.RefFile.{IsSum, ref_text}
use Rattle.repo_layout.specs.Paths.{object_path, ref_path, stage_path}
use Rattle.repo_layout.specs.Place.{Checkout, Mark, Object, Ref, Stage, place}
use Rattle.layout_rules.specs.InLayout.{InLayout}
use Rattle.ref_room.specs.Clash.{ref_folder}
use Rattle.ref_room.specs.Clearing as clearing
use Rattle.ref_room.proofs.Names.{ref_folder-under}
use Rattle.ref_room.proofs.Stable.{way_lies, clearing_lies}
use Rattle.staged_file.specs.declared.phase.Phase as staged
use Rattle.staged_file.specs.declared.phase.Phase.TheVariants as file
use Rattle.staged_file.specs.Staged.{Staged}
use Rattle.staged_file.specs.Steps as staging
use Rattle.ref_store.specs.declared.phase.Phase.{Phase}
use Rattle.ref_store.specs.declared.phase.Phase.TheVariants as phase
use Rattle.ref_store.specs.Change.{Change, IsRefFile}
use Rattle.ref_store.specs.Steps.{Needs, writes_in, WritesOf, ShowsHad, ShowsNew, awaits, awaits_file, leads}
use Rattle.ref_store.proofs.StepLemmas.{meets_in, made}
use Rattle.ref_store.proofs.Stable.{Lies, ref_lies}
use Rattle.rely_guarantee.specs.State.{RefOf}
use Rattle.rely_guarantee.specs.Disks as disks
use Rattle.rely_guarantee.specs.Disks.{Says}
use Rattle.rely_guarantee.specs.Books.{Books, Free, Agrees, listed_in}
use Rattle.rely_guarantee.specs.Objects.{IsObjectSeen}
use Rattle.rely_guarantee.specs.Rely.{Guarantee, may_at, NotOthers, OwnTree, IsEmpty, HasNoRefs}
use Rattle.rely_guarantee.specs.SystemInvariant.{Leads}
use Rattle.rely_guarantee.specs.Change.{Still, Dooms, Shows, Final}
use Rattle.rely_guarantee.specs.Laws.{IsMakeDurable, StepObligation, Stood, Within}
use Rattle.rely_guarantee.proofs.Calls.{own_file, ref_fits, stage_fits, stage_still, folder_still, set_shows, drop_shows, set_final, drop_final}
use Rattle.ref_command.specs.Kinds.{event_of, event, put_kind, kind_in}
use Rattle.ref_command.specs.Facts.{turn_in, Facts}
use Rattle.ref_command.specs.Kept.{stage_is}
use Rattle.ref_command.specs.Placed.{IsPlaced, is_placed}

abbrev pub IsSomeSum : Option (List ℕ) → Type 0
IsSomeSum None = Unit {0}
IsSomeSum (Some commit) = IsSum commit

leaf_is : (s : Seen) → clearing.IsLeaf s → disks.IsLeaf s
leaf_is (Leaf n m b) is = tt
leaf_is (Symlink m l) is = tt
leaf_is Vacant is = absurd is
leaf_is (Directory m) is = absurd is

is_leaf : (s : Seen) → disks.IsLeaf s → clearing.IsLeaf s
is_leaf (Leaf n m b) is = tt
is_leaf (Symlink m l) is = tt
is_leaf Vacant is = absurd is
is_leaf (Directory m) is = absurd is

pub says_had : (name : List ℕ) (o : Option (List ℕ)) (s : Seen) → ShowsHad o s → Says (RefOf name) o s
says_had name None s had = λ leaf. had (is_leaf s leaf)
says_had name (Some commit) s had = had

-- what may be written under the ref lock
module _ (b : Books) (v : View) (lane : ℕ) (t : Change) (needs : Needs t v) (mine : t.actor ≡ lane) where
  stage : place (stage_path t.actor) ≡ Stage lane
  stage = stage_is t lane needs.actor mine

  placed : (p : Path) (s : Seen) → Lies t v p s → IsPlaced lane p s
  placed = is_placed t v lane needs mine

  fits : (p : Path) (s : Seen) → Lies t v p s → InLayout p s
  fits p s l = ⊎_elim (λ e. stage_fits lane p s e (placed p s l).bounds) (λ r. ref_fits r.0 p s r.1 (placed p s l).bounds) (placed p s l).lies

  -- no object is
  objects : (p : Path) (s : Seen) → Lies t v p s → (kind : Kind) (sum : List ℕ) → place p ≡ Object kind sum → (shows v.now p ≡ Vacant) × IsObjectSeen kind sum s
  objects p s l kind sum at = absurd (⊎_elim
      (λ e. (let k : Stage lane ≡ Object kind sum = sym e ∙ at in cc))
      (λ r. (let k : Ref r.0 ≡ Object kind sum = sym r.1 ∙ at in cc))
      (placed p s l).lies)

  -- and no mark is
  marks : (p : Path) (s : Seen) → Lies t v p s → (commit : List ℕ) → place p ≡ Mark commit → s ≢ Vacant → Free b.exclusive lane × (shows v.now (object_path Commit commit) ≡ Vacant)
  marks p s l commit at there = ⊎_elim
      (λ e. (let k : Stage lane ≡ Mark commit = sym e ∙ at in cc))
      (λ r. (let k : Ref r.0 ≡ Mark commit = sym r.1 ∙ at in cc))
      (placed p s l).lies

  -- and no checkout's folder is made
  checkouts : (p : Path) (s : Seen) → Lies t v p s → (name : Name) → place p ≡ Checkout name [] → shows v.now p ≡ Vacant
  checkouts p s l name at = absurd (⊎_elim
      (λ e. (let k : Stage lane ≡ Checkout name [] = sym e ∙ at in cc))
      (λ r. (let k : Ref r.0 ≡ Checkout name [] = sym r.1 ∙ at in cc))
      (placed p s l).lies)

  comes : (p : Path) (s : Seen) → Lies t v p s → (n : ℕ) (m : Meta) (bytes : List ℕ) → s ≡ Leaf n m bytes → IsFresh n v ⊎ ((q : Path) × Holds v q (File n) × NotOthers lane (place q))
  comes p s l n m bytes e = ⊎_elim (λ fresh. inl fresh) (λ at. inr (own_file v lane (stage_path t.actor) n stage at)) (l.comes n m bytes e)

  folders : (p : Path) (s : Seen) → Lies t v p s → IsDirectory s ⊎ NotDirectory (shows v.now p) ⊎ OwnTree lane (place p) ⊎ IsEmpty v p ⊎ HasNoRefs v p
  folders p s l = ⊎_elim (λ is. inl is) (λ more. ⊎_elim (λ leaf. inr (inl leaf)) (λ goes. inr (inr (inr (inl goes.empty)))) more) l.folders

  module _ (turn : Free b.turn lane) (alone : Free b.exclusive lane) where
    at : (p : Path) (s : Seen) → Lies t v p s → may_at b lane lane (place p) s
    at p s l = ⊎_elim
        (λ e. subst (λ x. may_at b lane lane x s) (sym e) refl)
        (λ r. subst (λ x. may_at b lane lane x s) (sym r.1) (turn, alone))
        (placed p s l).lies

    within : (ph : Phase) → t.phase ≡ ph → Within (writes_in ph t v) (Guarantee b v lane lane)
    within ph is p s a =
        let l = ref_lies t v needs p s (subst (λ f. writes_in f t v p s) (sym is) a) in
        record { at = at p s l; fits = fits p s l; objects = λ kind sum is. inl (objects p s l kind sum is); marks = marks p s l; checkouts = checkouts p s l; comes = comes p s l; folders = folders p s l }

-- the change is done: the ref's path may show only its new file, or nothing, and folders lead there
abbrev pub IsDone : Change → View → Type 0
IsDone t w = ((s : Seen) → MayBe w (ref_path t.name) s → ShowsNew t.value s) × leads t.value t.name w

no_leaf : (s : Seen) → s ≡ Vacant → disks.IsLeaf s → ⊥
no_leaf s e leaf = let k : disks.IsLeaf Vacant = subst disks.IsLeaf e leaf in k

final_in : (o : Option (List ℕ)) (seen : Option (List ℕ)) (name : List ℕ) (w : View) → ((s : Seen) → MayBe w (ref_path name) s → ShowsNew o s) → leads o name w → IsSomeSum o → Final (event_of o name seen) w
final_in (Some commit) seen name w only lead sum = set_final w name commit seen sum (λ s may. ap bytes_in (only s may).1.1)
    (λ g x e. let u = ref_folder-under name in subst (λ h. Leads w h) (under-folder (ref_folder name) g u.0 x (sym u.1 ∙ e)) lead)
final_in None (Some seen) name w only lead sum = drop_final w name seen (λ s may. no_leaf s (only s may))
final_in None None name w only lead sum = drop_final w name [] (λ s may. no_leaf s (only s may))

-- a change of a ref takes no object away
no_removal : (b : Books) (lane : ℕ) (o : Option (List ℕ)) (name : List ℕ) (seen : Option (List ℕ)) → Dooms lane b (event_of o name seen)
no_removal b lane (Some commit) name seen = tt
no_removal b lane None name (Some seen) = tt
no_removal b lane None name None = tt

-- the table of the steps
module _ (b : Books) (v : View) (actor lane : ℕ) (t : Change) (f : Facts lane t v b) where
  stage_at : (p : Path) → p ≡ stage_path t.actor → place p ≡ Stage lane
  stage_at p e = ap place e ∙ stage_is t lane f.needs.actor f.mine

  was : awaits t.phase ≡ true → Says (RefOf t.name) t.seen (shows v.now (ref_path t.name))
  was goes = says_had t.name t.seen (shows v.now (ref_path t.name)) (f.seen goes)

  free : b.turn ≡ Some lane → Free b.turn lane
  free turn x is = let e : Some lane ≡ Some x = sym turn ∙ is in let k : lane ≡ x = cc in sym k

  alone : Agrees b → b.turn ≡ Some lane → Free b.exclusive lane
  alone agrees turn x is = sym (agrees.turn x lane is turn)

  held : Agrees b → b.turn ≡ Some lane → (ph : Phase) → t.phase ≡ ph → Within (writes_in ph t v) (Guarantee b v lane lane)
  held agrees turn ph is = within b v lane t f.needs f.mine (free turn) (alone agrees turn) ph is

  clear_still : (c : clearing.Cleared) → t.phase ≡ phase.Clear c → Still (writes_in (phase.Clear c) t v) v
  clear_still c is = folder_still (writes_in (phase.Clear c) t v) v
      (λ p s a. let g = clearing_lies c v (meets_in t v f.needs (phase.Clear c) is).1 p s a in (inl g.vacant, inr g.folder))

  walk_still : (y : _) → t.phase ≡ phase.Walk y → Still (writes_in (phase.Walk y) t v) v
  walk_still y is = folder_still (writes_in (phase.Walk y) t v) v
      (λ p s a. let o = way_lies y v (meets_in t v f.needs (phase.Walk y) is).1 p s a in (inr o.folder, inl o.vacant))

  -- the ref's file
  module _ (g : Staged) (is : t.phase ≡ phase.Put g) where
    file_of : IsRefFile t g
    file_of = made t v f.needs (phase.Put g) is

    put_within : Free b.turn lane → Free b.exclusive lane → (ph : staged.Phase) → g.phase ≡ ph → Within (staging.writes_in ph g v) (Guarantee b v lane lane)
    put_within turn alone ph e p s a = within b v lane t f.needs f.mine turn alone (phase.Put g) is p s (subst (λ x. staging.writes_in x g v p s) (sym e) a)

    at_stage : (p : Path) → p ≡ g.stage → place p ≡ Stage lane
    at_stage p e = stage_at p (e ∙ file_of.stage)

    moved : (p : Path) (s : Seen) → staging.writes_in file.Replace g v p s → (place p ≡ Stage lane) ⊎ ((p ≡ ref_path t.name) × (bytes_in s ≡ Some (ref_text file_of.commit)))
    moved p s (inl a) = inr (a.0 ∙ file_of.at, ap bytes_in a.1.1 ∙ ap Some file_of.bytes)
    moved p s (inr a) = inl (at_stage p a.0)

    shown : g.phase ≡ file.Replace → Shows (listed_in b) (staging.writes_in file.Replace g v) v (event t)
    shown e = subst (λ o. Shows (listed_in b) (staging.writes_in file.Replace g v) v (event_of o t.name t.seen)) (sym file_of.value)
        (set_shows (listed_in b) (staging.writes_in file.Replace g v) v lane t.name file_of.commit t.seen moved f.needs.named file_of.sum (was (ap awaits is ∙ ap awaits_file e)))

    final : (w : View) → IsDone t w → Final (event t) w
    final w done = final_in t.value t.seen t.name w done.0 done.1 (subst IsSomeSum (sym file_of.value) file_of.sum)

    put_duty : Agrees b → (Done : View → Type 0) (ph : staged.Phase) → (IsMakeDurable (put_kind ph (event t)) → (w : View) → Done w → IsDone t w) → g.phase ≡ ph → Stood (put_kind ph (event t)) actor lane b → turn_in (put_kind ph (event t)) lane b
        → StepObligation (put_kind ph (event t)) actor lane v b (staging.writes_in ph g v) Done
    put_duty agrees Done file.Clear done e stood turn = (put_within (free turn) (alone agrees turn) file.Clear e, stage_still (staging.writes_in file.Clear g v) v lane (λ p s a. at_stage p a.0))
    put_duty agrees Done file.Create done e stood turn = (put_within (free turn) (alone agrees turn) file.Create e, stage_still (staging.writes_in file.Create g v) v lane (λ p s a. at_stage p a.0))
    put_duty agrees Done file.Append done e stood turn = (put_within (free turn) (alone agrees turn) file.Append e, stage_still (staging.writes_in file.Append g v) v lane (λ p s a. at_stage p a.0))
    put_duty agrees Done file.SyncFile done e stood turn = ((λ p s a. absurd a), (λ q s a. absurd a))
    put_duty agrees Done file.Look done e stood turn = ((λ p s a. absurd a), (λ q s a. absurd a))
    put_duty agrees Done file.Replace done e stood turn = (put_within stood.0 stood.1 file.Replace e, shown e, no_removal b lane t.value t.name t.seen)
    put_duty agrees Done file.SyncFolder done e stood turn = ((λ p s a. absurd a), (λ w last. final w (done tt w last)))
    put_duty agrees Done file.Ended done e stood turn = ((λ p s a. absurd a), (λ q s a. absurd a))

  drop_by : (o : Option (List ℕ)) → t.phase ≡ phase.Unlink → Says (RefOf t.name) o (shows v.now (ref_path t.name)) → Shows (listed_in b) (writes_in phase.Unlink t v) v (event_of None t.name o)
  drop_by (Some seen) is says = drop_shows (listed_in b) (writes_in phase.Unlink t v) v t.name seen (λ p s a. a) f.needs.named says
  drop_by None is says = absurd (says (leaf_is (shows v.now (ref_path t.name)) (meets_in t v f.needs phase.Unlink is)))

  unlink_shows : t.phase ≡ phase.Unlink → Shows (listed_in b) (writes_in phase.Unlink t v) v (event t)
  unlink_shows is = subst (λ o. Shows (listed_in b) (writes_in phase.Unlink t v) v (event_of o t.name t.seen)) (sym (made t v f.needs phase.Unlink is)) (drop_by t.seen is (was (ap awaits is)))

  sync_final : t.phase ≡ phase.SyncFolder → (w : View) → IsDone t w → Final (event t) w
  sync_final is w done = final_in t.value t.seen t.name w done.0 done.1 (subst IsSomeSum (sym (made t v f.needs phase.SyncFolder is)) tt)

  duty_in : Agrees b → (Done : View → Type 0) (ph : Phase) → (IsMakeDurable (kind_in ph (event t)) → (w : View) → Done w → IsDone t w) → t.phase ≡ ph → Stood (kind_in ph (event t)) actor lane b → turn_in (kind_in ph (event t)) lane b
      → StepObligation (kind_in ph (event t)) actor lane v b (writes_in ph t v) Done
  duty_in agrees Done phase.Look done is stood turn = ((λ p s a. absurd a), (λ q s a. absurd a))
  duty_in agrees Done (phase.Clear c) done is stood turn = (held agrees turn (phase.Clear c) is, clear_still c is)
  duty_in agrees Done (phase.Walk y) done is stood turn = (held agrees turn (phase.Walk y) is, walk_still y is)
  duty_in agrees Done (phase.Put g) done is stood turn = put_duty g is agrees Done g.phase done refl stood turn
  duty_in agrees Done phase.Unlink done is stood turn = (within b v lane t f.needs f.mine stood.0 stood.1 phase.Unlink is, unlink_shows is, no_removal b lane t.value t.name t.seen)
  duty_in agrees Done phase.SyncFolder done is stood turn = ((λ p s a. absurd a), (λ w last. sync_final is w (done tt w last)))
  duty_in agrees Done phase.Ended done is stood turn = ((λ p s a. absurd a), (λ q s a. absurd a))

-- each step of a change keeps the obligation of its kind
pub change_duty : (b : Books) (v : View) (actor lane : ℕ) (t : Change) → Facts lane t v b → Agrees b → (Done : View → Type 0) → (IsMakeDurable (kind_in t.phase (event t)) → (w : View) → Done w → IsDone t w)
    → Stood (kind_in t.phase (event t)) actor lane b → StepObligation (kind_in t.phase (event t)) actor lane v b (WritesOf t v) Done
change_duty b v actor lane t f agrees Done done stood = duty_in b v actor lane t f agrees Done t.phase done refl stood f.turn
