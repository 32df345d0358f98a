-- The ref's file is put at its path.
use Rattle.std.proofs.Common.{◌≡◌, ⊎_elim, true, false, refl, sym, ◌∙◌, ap, subst, length, Ok}
use Rattle.fs_trait.specs.declared.types.FsErr.{FsErr}
use Rattle.fs_trait.specs.declared.types.FsErr.TheVariants.{Failed, NoMemory, Exists, Missing, NotFolder, NotEmpty}
use Rattle.fs_trait.specs.declared.task.StepResult.TheVariants.{More, Done}
use Rattle.fs_trait.specs.View.{View}
use Rattle.fs_trait.specs.Seen.{Seen, Vacant, Directory, Symlink, Leaf, shows, MayBe, IsDirectory, NotDirectory}
use Rattle.fs_trait.specs.Change.{Writes, LeadsTo}
use Rattle.fs_trait.proofs.Kept.{same_view}
use Rattle.repo_layout.specs.Paths.{ref_path}
use Rattle.staged_file.specs.declared.phase.Phase as staged
use Rattle.staged_file.specs.declared.phase.Phase.TheVariants as file
use Rattle.staged_file.specs.Staged as staging
use Rattle.staged_file.specs.Staged.{Staged}
use Rattle.staged_file.specs.Steps as steps
use Rattle.staged_file.specs.Whole.{Written}
use Rattle.staged_file.proofs.Wholes.{IsSame, IsSame-refl, same_stepped, written_on, needs_leads}
use Rattle.staged_file.proofs.Stable.{ended_lasts}
use Rattle.ref_store.specs.declared.phase.Phase.{Phase}
use Rattle.ref_store.specs.declared.phase.Phase.TheVariants as phase
use Rattle.ref_store.specs.Change.{Change, IsRefFile, file_meta}
use Rattle.ref_store.specs.Steps.{Needs, needs_in, Refuses, refuses_in, ShowsNew, leads}
use Rattle.ref_store.proofs.StepLemmas.{meets_in, made}

both_not : (s : Seen) → IsDirectory s → NotDirectory s → ⊥
both_not (Directory m) is no_ = no_
both_not Vacant is no_ = is
both_not (Symlink m l) is no_ = is
both_not (Leaf n m b) is no_ = is

-- no folder stands at the target, so that it is never refused for one
put_refuses : (t : Change) (v : View) (s : Staged) → s.at ≡ ref_path t.name → NotDirectory (shows v.now (ref_path t.name)) → (e : FsErr) → steps.Refuses s v e → refuses_in (phase.Put s) t v e
put_refuses t v s at leaf Failed r = tt
put_refuses t v s at leaf NoMemory r = tt
put_refuses t v s at leaf Exists r = both_not _ (subst (λ p. IsDirectory (shows v.now p)) at r.1) leaf
put_refuses t v s at leaf Missing r = r
put_refuses t v s at leaf NotFolder r = r
put_refuses t v s at leaf NotEmpty r = r

pub put_fails : (t u : Change) → t ≡ u → (v : View) → Needs t v → (s : Staged) → t.phase ≡ phase.Put s → (e : FsErr) → steps.Refuses s v e → Refuses u v e
put_fails t u same v needs s is e r = subst (λ x. Refuses x v e) same
    (subst (λ ph. refuses_in ph t v e) (sym is) (put_refuses t v s (made t v needs (phase.Put s) is).at (meets_in t v needs (phase.Put s) is).1 e r))

same_file : (t : Change) (s u : Staged) → IsSame s u → IsRefFile t s → IsRefFile t u
same_file t s u same is = record {
  commit = is.commit;
  value = is.value;
  sum = is.sum;
  stage = same.stage ∙ is.stage;
  folder = same.folder ∙ is.folder;
  at = same.at ∙ is.at;
  meta = same.meta ∙ is.meta;
  bytes = same.bytes ∙ is.bytes;
  long = ap length same.bytes ∙ is.long;
}

-- the same file, of a change in another phase
pub file_in : (t : Change) (ph : Phase) (s : Staged) → IsRefFile t s → IsRefFile (record t { phase = ph }) s
file_in t ph s is = record { commit = is.commit; value = is.value; sum = is.sum; stage = is.stage; folder = is.folder; at = is.at; meta = is.meta; bytes = is.bytes; long = is.long }

-- where the whole file stands, the ref has its new value
pub shows_new : (t : Change) (f : Staged) → IsRefFile t f → (s : Seen) → steps.IsFileWith f.meta f.bytes s → ShowsNew t.value s
shows_new t f is s file = subst (λ o. ShowsNew o s) (sym is.value) (is.sum, (file.0, file.1 ∙ ap (λ m. Leaf file.0 m f.bytes) is.meta ∙ ap (Leaf file.0 file_meta) is.bytes))

-- no folder comes to the target
still_no_folder : (s : Staged) (v w : View) → Writes (steps.WritesOf s v) v w → NotDirectory (shows v.now s.at) → NotDirectory (shows w.now s.at)
still_no_folder s v w writes leaf =
    let all : Writes (Written s) v w = written_on s s (IsSame-refl s) v v w (same_view (Written s) v) writes in
    ⊎_elim (λ same. subst NotDirectory (sym same) leaf) (λ a. ⊎_elim (λ a. a.1) (λ a. subst NotDirectory (sym a.1.1) tt) a) (all.now s.at)

module _ (t : Change) (v : View) (needs : Needs t v) (s : Staged) (is : t.phase ≡ phase.Put s) where
  the_file : IsRefFile t s
  the_file = made t v needs (phase.Put s) is

  at_ref : (w : View) → Writes (steps.WritesOf s v) v w → NotDirectory (shows w.now (ref_path t.name))
  at_ref w writes =
      let f = the_file in
      subst (λ p. NotDirectory (shows w.now p)) f.at
      (still_no_folder s v w writes (subst (λ p. NotDirectory (shows v.now p)) (sym f.at) (meets_in t v needs (phase.Put s) is).1))

  pub put_more : (u : Staged) → staging.IsStepped {T = Unit {0}} s (Ok More) u → (w : View) → Writes (steps.WritesOf s v) v w → steps.Needs u w → Needs (record t { phase = phase.Put u }) w
  put_more u stepped w writes after = record {
    named = needs.named;
    actor = needs.actor;
    made = file_in t (phase.Put u) u (same_file t s u (same_stepped {T = Unit {0}} s (Ok More) u stepped) the_file);
    meets = (after, at_ref w writes);
  }

  last_phase : (ph : staged.Phase) (x : Staged) → x.phase ≡ ph → staging.is_last ph ≡ true → (staging.next_in ph x).phase ≡ file.Ended
  last_phase file.SyncFolder x e last = refl
  last_phase file.Ended x e last = e
  last_phase file.Clear x e last = let n : false ≡ true = last in cc
  last_phase file.Create x e last = let n : false ≡ true = last in cc
  last_phase file.Append x e last = let n : false ≡ true = last in cc
  last_phase file.SyncFile x e last = let n : false ≡ true = last in cc
  last_phase file.Look x e last = let n : false ≡ true = last in cc
  last_phase file.Replace x e last = let n : false ≡ true = last in cc

  settled : (u : Staged) → IsRefFile t u → u.phase ≡ file.Ended → (w : View) → steps.Needs u w → needs_in phase.Ended (record t { phase = phase.Ended }) w
  settled u f ended w after = (
    λ x may. shows_new t u f x (ended_lasts u w after ended x (subst (λ p. MayBe w p x) (sym f.at) may)),
    subst (λ o. leads o t.name w) (sym f.value) (λ p x may. subst (λ g. LeadsTo g p x) f.folder (needs_leads u w after p x may)),
  )

  pub put_done : (u : Staged) (x : Unit {0}) → staging.IsStepped {T = Unit {0}} s (Ok (Done x)) u → (w : View) → steps.Needs u w → Needs (record t { phase = phase.Ended }) w
  put_done u x stepped w after =
      let ended : u.phase ≡ file.Ended = ap (λ (y : Staged). y.phase) stepped.0 ∙ last_phase s.phase s refl stepped.1 in
      record {
        named = needs.named;
        actor = needs.actor;
        made = tt;
        meets = settled u (same_file t s u (same_stepped {T = Unit {0}} s (Ok (Done x)) u stepped) the_file) ended w after;
      }
