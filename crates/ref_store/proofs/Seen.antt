-- From the look to the step that shows the change the ref keeps its value.
use Rattle.std.proofs.Common.{◌≡◌, ⊎_elim, ℕ, true, false, refl, sym, ◌∙◌, ap, subst, List, [], append-nil, Option, Some, None, Ok}
use Rattle.fs_trait.specs.declared.types.FsErr.{FsErr}
use Rattle.fs_trait.specs.declared.types.FsErr.TheVariants.{Failed, NoMemory, Exists, Missing, NotFolder, NotEmpty}
use Rattle.fs_trait.specs.declared.task.StepResult.TheVariants.{More}
use Rattle.ost_types.specs.Path.{Path}
use Rattle.fs_trait.specs.View.{Disk, View}
use Rattle.fs_trait.specs.Seen.{Seen, shows}
use Rattle.fs_trait.specs.Effect.{OfNone}
use Rattle.fs_trait.specs.Change.{Writes}
use Rattle.fs_trait.proofs.Claims.{reads_shows}
use Rattle.fs_trait.proofs.Facts.{shows_kept}
use Rattle.repo_layout.specs.Paths.{ref_path}
use Rattle.ref_room.specs.Clearing as clearing
use Rattle.ref_room.specs.Clearing.{IsLeaf}
use Rattle.staged_file.specs.declared.phase.Phase as staged
use Rattle.staged_file.specs.declared.phase.Phase.TheVariants as file
use Rattle.staged_file.specs.Staged as staging
use Rattle.staged_file.specs.Steps as steps
use Rattle.ref_store.specs.declared.phase.Phase.{Phase}
use Rattle.ref_store.specs.declared.phase.Phase.TheVariants as phase
use Rattle.ref_store.specs.Change.{Change, Follows, IsRefFile, IsStepped}
use Rattle.ref_store.specs.Steps.{Needs, HasSeen, HasValue, IsPlacing, ShowsHad, Tells, awaits, awaits_file, goes_on, refuses_in, writes_in, WritesOf}
use Rattle.ref_store.proofs.StepLemmas.{made, stage-not_ref}
use Rattle.ref_store.proofs.RoomLemmas.{clear_lies, walk_lies, way_to-short}
use Rattle.ref_store.proofs.Leaves.{directory_leaf, file_leaf, is_a_leaf, no_leaf, vacant_leaf}
use Rattle.ref_store.proofs.Stable.{Spares}

-- a ref has a value where its path shows it
pub value_had : (d : Disk) (name : List ℕ) (o : Option (List ℕ)) → HasValue d name o → ShowsHad o (shows d (ref_path name))
value_had d name None has = λ leaf. let n : false ≡ true = sym has ∙ is_a_leaf d (d.at (ref_path name)) leaf in cc
value_had d name (Some commit) has = (has.sum, sym (reads_shows d (ref_path name)) ∙ has.file)

pub had_value : (d : Disk) (name : List ℕ) (o : Option (List ℕ)) → ShowsHad o (shows d (ref_path name)) → HasValue d name o
had_value d name None had = no_leaf d (d.at (ref_path name)) had
had_value d name (Some commit) had = record { sum = had.0; file = reads_shows d (ref_path name) ∙ had.1 }

-- room in the place of room: there was no ref, and there is none
had_room : (o : Option (List ℕ)) (s u : Seen) → ShowsHad o s → ¬ (IsLeaf s) → ¬ (IsLeaf u) → ShowsHad o u
had_room None s u had was is = is
had_room (Some commit) s u had was is = absurd (was (file_leaf s _ had.1))

module _ (t : Change) (v : View) (needs : Needs t v) (w : View) where
  stays : (ph : Phase) → ((s : Seen) → writes_in ph t v (ref_path t.name) s → ⊥) → Writes (writes_in ph t v) v w → ShowsHad t.seen (shows v.now (ref_path t.name)) → ShowsHad t.seen (shows w.now (ref_path t.name))
  stays ph none writes had = subst (ShowsHad t.seen) (sym (shows_kept (writes_in ph t v) v w (ref_path t.name) writes none)) had

  clear_stays : (c : clearing.Cleared) → t.phase ≡ phase.Clear c → Writes (clearing.WritesOf c v) v w → ShowsHad t.seen (shows v.now (ref_path t.name)) → ShowsHad t.seen (shows w.now (ref_path t.name))
  clear_stays c is writes had = ⊎_elim
      (λ same. subst (ShowsHad t.seen) (sym same) had)
      (λ a. let l = clear_lies t v needs c is (ref_path t.name) _ a in had_room t.seen _ _ had (directory_leaf _ l.folder) (vacant_leaf _ l.vacant))
      (writes.now (ref_path t.name))

  -- before the file is shown nothing is written but its stage
  not_stage : (f : staging.Staged) → IsRefFile t f → ref_path t.name ≡ f.stage → ⊥
  not_stage f m e = stage-not_ref t.actor t.name needs.actor (sym m.stage ∙ sym e)

  put_off : (k : staged.Phase) (f : staging.Staged) → IsRefFile t f → awaits_file (staging.next_in k f).phase ≡ true → (s : Seen) → steps.writes_in k f v (ref_path t.name) s → ⊥
  put_off file.Clear f m next s a = not_stage f m a.0
  put_off file.Create f m next s a = not_stage f m a.0
  put_off file.Append f m next s a = not_stage f m a.0
  put_off file.SyncFile f m next s a = a
  put_off file.Look f m next s a = a
  put_off file.Replace f m next s a = let n : false ≡ true = next in cc
  put_off file.SyncFolder f m next s a = a
  put_off file.Ended f m next s a = a

  awaited : (k : staged.Phase) (f : staging.Staged) → f.phase ≡ k → awaits_file (staging.next_in k f).phase ≡ true → awaits_file k ≡ true
  awaited file.Clear f is next = refl
  awaited file.Create f is next = refl
  awaited file.Append f is next = refl
  awaited file.SyncFile f is next = refl
  awaited file.Look f is next = refl
  awaited file.Replace f is next = refl
  awaited file.SyncFolder f is next = next
  awaited file.Ended f is next = ap awaits_file (sym is) ∙ next

  on : (ph next : Phase) → t.phase ≡ ph → Follows ph next t → goes_on ph next t v → awaits next ≡ true → (awaits ph ≡ true → ShowsHad t.seen (shows v.now (ref_path t.name))) → Writes (writes_in ph t v) v w → ShowsHad t.seen (shows w.now (ref_path t.name))
  on phase.Look next is follows tells goes had writes = stays phase.Look (λ s a. a) writes (value_had v.now t.name t.seen tells)
  on (phase.Clear c) next is follows tells goes had writes = clear_stays c is writes (had refl)
  on (phase.Walk y) next is follows tells goes had writes = stays (phase.Walk y) (λ s a. let l = walk_lies t v needs y is (ref_path t.name) s a in way_to-short l.0 t.name l.2 (sym l.1)) writes (had refl)
  on (phase.Put f) (phase.Put u) is follows tells goes had writes =
      let next : awaits_file (staging.next_in f.phase f).phase ≡ true = ap (λ (x : staging.Staged). awaits_file x.phase) (sym follows.0) ∙ goes in
      stays (phase.Put f) (put_off f.phase f (made t v needs (phase.Put f) is) next) writes (had (awaited f.phase f refl next))
  on (phase.Put f) phase.Look is follows tells goes had writes = absurd follows
  on (phase.Put f) (phase.Clear d) is follows tells goes had writes = absurd follows
  on (phase.Put f) (phase.Walk x) is follows tells goes had writes = absurd follows
  on (phase.Put f) phase.Unlink is follows tells goes had writes = absurd follows
  on (phase.Put f) phase.SyncFolder is follows tells goes had writes = absurd follows
  on (phase.Put f) phase.Ended is follows tells goes had writes = absurd follows
  on phase.Unlink phase.SyncFolder is follows tells goes had writes = let n : false ≡ true = goes in cc
  on phase.Unlink phase.Look is follows tells goes had writes = absurd follows
  on phase.Unlink (phase.Clear d) is follows tells goes had writes = absurd follows
  on phase.Unlink (phase.Walk x) is follows tells goes had writes = absurd follows
  on phase.Unlink (phase.Put u) is follows tells goes had writes = absurd follows
  on phase.Unlink phase.Unlink is follows tells goes had writes = absurd follows
  on phase.Unlink phase.Ended is follows tells goes had writes = absurd follows
  on phase.SyncFolder next is follows tells goes had writes = absurd follows
  on phase.Ended next is follows tells goes had writes = absurd follows

-- The change's own step leaves the ref its value, or shows the change.
pub seen_next : (t new : Change) (v w : View) → Needs t v → HasSeen t v → IsStepped t (Ok More) new → Tells t new v More → Writes (WritesOf t v) v w → HasSeen new w
seen_next t new v w needs had stepped tells writes goes =
    let name : new.name ≡ t.name = ap (λ (c : Change). c.name) stepped.0 in
    let seen_ : new.seen ≡ t.seen = ap (λ (c : Change). c.seen) stepped.0 in
    subst (λ n. ShowsHad new.seen (shows w.now (ref_path n))) (sym name)
    (subst (λ o. ShowsHad o (shows w.now (ref_path t.name))) (sym seen_) (on t v needs w t.phase new.phase refl stepped.1 tells goes had writes))

-- And so do others that spare it.
pub seen_kept : (W : Path → Seen → Type 0) (t : Change) (v w : View) → Spares W t v → Writes W v w → HasSeen t v → HasSeen t w
seen_kept W t v w spares writes had goes = subst (ShowsHad t.seen)
    (sym (shows_kept W v w (ref_path t.name) writes (λ s wrote. spares.under (ref_path t.name) s ([], sym (append-nil (ref_path t.name))) wrote)))
    (had goes)

-- Where the file is put or taken away nothing refuses but a call that failed or want of memory.
pub placing_fails : (ph : Phase) (t : Change) (v : View) (e : FsErr) → IsPlacing ph → refuses_in ph t v e → OfNone e
placing_fails ph t v Failed is why = tt
placing_fails ph t v NoMemory is why = tt
placing_fails (phase.Put f) t v Exists is why = why
placing_fails (phase.Put f) t v Missing is why = why
placing_fails (phase.Put f) t v NotFolder is why = why
placing_fails (phase.Put f) t v NotEmpty is why = why
placing_fails phase.Unlink t v Exists is why = why
placing_fails phase.Unlink t v Missing is why = why
placing_fails phase.Unlink t v NotFolder is why = why
placing_fails phase.Unlink t v NotEmpty is why = why
placing_fails phase.SyncFolder t v Exists is why = why
placing_fails phase.SyncFolder t v Missing is why = why
placing_fails phase.SyncFolder t v NotFolder is why = why
placing_fails phase.SyncFolder t v NotEmpty is why = why
placing_fails phase.Look t v e is why = absurd is
placing_fails (phase.Clear c) t v e is why = absurd is
placing_fails (phase.Walk y) t v e is why = absurd is
placing_fails phase.Ended t v e is why = absurd is
