-- What no step of putting a copy changes in it, and where it writes.
use Rattle.std.proofs.Common.{◌≡◌, ◌≢◌, ◌⊎◌, inl, inr, ⊎_elim, ℕ, false, refl, sym, ◌∙◌, ap, subst, List, Ok, Result}
use Rattle.ost_types.specs.declared.meta.Meta.{Meta}
use Rattle.ost_types.specs.Path.{Name, Path, under, is_below}
use Rattle.fs_trait.specs.declared.types.FsErr.{FsErr}
use Rattle.fs_trait.specs.declared.task.StepResult.{StepResult}
use Rattle.fs_trait.specs.declared.task.StepResult.TheVariants.{More, Done}
use Rattle.fs_trait.specs.declared.types.Value.TheVariants.{File}
use Rattle.fs_trait.specs.View.{View}
use Rattle.fs_trait.specs.Image.{reads}
use Rattle.fs_trait.specs.Effect.{IsFresh}
use Rattle.fs_trait.specs.Seen.{Seen, Vacant, Directory, Symlink, Leaf, shows, IsDirectory, NotDirectory}
use Rattle.fs_trait.specs.Change.{Writes}
use Rattle.fs_trait.proofs.Facts.{leaf_not_directory, shows_kept}
use Rattle.file_copy.specs.declared.putting.PutPhase.{PutPhase}
use Rattle.file_copy.specs.declared.putting.PutPhase.TheVariants.{Compare, Copy, Replace, Ended}
use Rattle.file_copy.specs.Comparing.{Comparing}
use Rattle.file_copy.specs.Copying.{Copying}
use Rattle.file_copy.specs.Putting.{IsStepped, Putting, goes_in}
use Rattle.file_copy.specs.PutSteps.{IsCopy, Needs, WritesOf, needs_in, writes_in}
use Rattle.file_copy.proofs.CopyLemmas.{reads_kept}
use Rattle.file_copy.proofs.PutLemmas.{IsSameCopy, copy_same}
use Rattle.file_copy.proofs.Stable.{copy_done, copy_lies}
use Rattle.folder_build.specs.Steps.{HasHome}
use Rattle.kernel_copy.proofs.Apart.{above_apart, above_stage, stage_copy}

-- ---- what stays

-- the same object on its way to the same path, by the same one and with the same attributes
pub record IsSamePut (t new : Putting) : Type 0 where
  pub target : new.at ≡ t.at
  pub source : new.copying.from ≡ t.copying.from
  pub stage : new.copying.stage ≡ t.copying.stage
  pub meta : new.copying.meta ≡ t.copying.meta

same_as : (t u new : Putting) → new ≡ u → IsSamePut t u → IsSamePut t new
same_as t u new e same = subst (IsSamePut t) (sym e) same

with_comparing : (t : Putting) (c : Comparing) (ph : PutPhase) → IsSamePut t (record t { comparing = c; phase = ph })
with_comparing t c ph = record { target = refl; source = refl; stage = refl; meta = refl }

with_copying : (t : Putting) (c : Copying) (ph : PutPhase) → IsSameCopy t.copying c → IsSamePut t (record t { copying = c; phase = ph })
with_copying t c ph same = record { target = refl; source = same.from; stage = same.stage; meta = same.meta }

with_phase : (t : Putting) (ph : PutPhase) → IsSamePut t (record t { phase = ph })
with_phase t ph = record { target = refl; source = refl; stage = refl; meta = refl }

same_in : (ph : PutPhase) (t : Putting) (turn : StepResult (Unit {0})) (new : Putting) → goes_in ph t turn new → IsSamePut t new
same_in Compare t More new (inl w) = same_as t (record t { comparing = w.0 }) new w.2 (with_comparing t w.0 t.phase)
same_in Compare t More new (inr w) = same_as t (record t { comparing = w.0; phase = Copy }) new w.2 (with_comparing t w.0 Copy)
same_in Compare t (Done x) new w = same_as t (record t { comparing = w.0; phase = Ended }) new w.2 (with_comparing t w.0 Ended)
same_in Copy t More new (inl w) = same_as t (record t { copying = w.0 }) new w.2 (with_copying t w.0 t.phase (copy_same t.copying w.0 w.1.0))
same_in Copy t More new (inr w) = same_as t (record t { copying = w.0; phase = Replace }) new w.2 (with_copying t w.0 Replace (copy_same t.copying w.0 w.1.0))
same_in Copy t (Done x) new w = absurd w
same_in Replace t turn new w = same_as t (record t { phase = Ended }) new w.1 (with_phase t Ended)
same_in Ended t turn new w = same_as t t new w.1 (with_phase t t.phase)

pub stepped_as : (old new : Putting) (r : Result (StepResult (Unit {0})) FsErr) (turn : StepResult (Unit {0})) → r ≡ Ok turn → IsStepped old r new → IsStepped old (Ok turn) new
stepped_as old new r turn is stepped = subst (λ x. IsStepped old x new) is stepped

pub put_same : (old new : Putting) (turn : StepResult (Unit {0})) → IsStepped old (Ok turn) new → IsSamePut old new
put_same old new turn stepped = same_in old.phase old turn new stepped

ends_in : (ph : PutPhase) (t new : Putting) → t.phase ≡ ph → goes_in ph t (Done tt) new → new.phase ≡ Ended
ends_in Compare t new at w = ap (λ (x : Putting). x.phase) w.2
ends_in Copy t new at w = absurd w
ends_in Replace t new at w = ap (λ (x : Putting). x.phase) w.1
ends_in Ended t new at w = ap (λ (x : Putting). x.phase) w.1 ∙ at

-- with its last step it is ended
pub put_ends : (old new : Putting) → IsStepped old (Ok (Done tt)) new → new.phase ≡ Ended
put_ends old new stepped = ends_in old.phase old new refl stepped

-- ---- where it writes

-- At the staging path: no folder, and in no folder's place; a file that is written is a new one or the staged one.
pub record IsStaged (stage : Path) (v : View) (p : Path) (s : Seen) : Type 0 where
  pub place : p ≡ stage
  pub file : NotDirectory s
  pub comes : (n : ℕ) (m : Meta) (b : List ℕ) → s ≡ Leaf n m b → IsFresh n v ⊎ (v.now.at stage ≡ File n)
  pub folders : NotDirectory (shows v.now p)

-- there, or the whole copy at its own path
abbrev pub IsPutAt : Putting → View → Path → Seen → Type 0
IsPutAt c v p s = IsStaged c.copying.stage v p s ⊎ ((p ≡ c.at) × IsCopy c.copying v s)

no_leaf : (s : Seen) → s ≡ Vacant → (n : ℕ) (m : Meta) (b : List ℕ) → s ≡ Leaf n m b → ⊥
no_leaf s none n m b e = let l : Vacant ≡ Leaf n m b = sym none ∙ e in cc

pub put_at : (c : Putting) (v : View) → Needs c v → (p : Path) (s : Seen) → WritesOf c v p s → IsPutAt c v p s
put_at c v needs p s a = by c.phase needs.meets a
  where
    by : (ph : PutPhase) → needs_in ph c v → writes_in ph c v p s → IsPutAt c v p s
    by Compare m a = absurd a
    by Copy m a = let l = copy_lies c.copying v m p s a in inl (record { place = l.place; file = l.file; comes = l.comes; folders = l.folders })
    by Replace m (inl a) = inr (a.0, a.1)
    by Replace m (inr a) =
        let d = copy_done c.copying v m.0 m.1 in
        let none : NotDirectory (shows v.now c.copying.stage) = leaf_not_directory _ d.inode c.copying.meta m.0.bytes d.here in
        inl (record {
          place = a.0;
          file = subst NotDirectory (sym a.1) tt;
          comes = λ n k b e. absurd (no_leaf s a.1 n k b e);
          folders = subst (λ q. NotDirectory (shows v.now q)) (sym a.0) none;
        })
    by Ended m a = absurd a

no_both : (s : Seen) → IsDirectory s → NotDirectory s → ⊥
no_both Vacant is not = is
no_both (Directory m) is not = not
no_both (Symlink m l) is not = is
no_both (Leaf n m b) is not = is

module _ (c : Putting) (stage folder : Path) (x : Name) (staged : c.copying.stage ≡ stage) (target : c.at ≡ under folder x) (outside : is_below folder stage ≡ false)
    (v w : View) (needs : Needs c v) (writes : Writes (WritesOf c v) v w) where
  at_place : (p : Path) (s : Seen) → WritesOf c v p s → ((p ≡ stage) × NotDirectory s × NotDirectory (shows v.now p)) ⊎ (p ≡ under folder x)
  at_place p s a = ⊎_elim (λ b. inl (b.place ∙ staged, b.file, b.folders)) (λ b. inr (b.0 ∙ target)) (put_at c v needs p s a)

  -- elsewhere all is as it was
  spared : (p : Path) → p ≢ stage → p ≢ under folder x → (s : Seen) → WritesOf c v p s → ⊥
  spared p one two s a = ⊎_elim (λ b. one b.0) two (at_place p s a)

  pub reads_off : (p : Path) → p ≢ stage → p ≢ under folder x → reads w.now p ≡ reads v.now p
  reads_off p one two = reads_kept (WritesOf c v) v w p writes (spared p one two)

  -- folders stay, but for one in the place of the copy
  folders_kept : (p : Path) → p ≢ under folder x → IsDirectory (shows v.now p) → IsDirectory (shows w.now p)
  folders_kept p apart there = subst IsDirectory (sym (shows_kept (WritesOf c v) v w p writes (λ s a. ⊎_elim (λ b. no_both (shows v.now p) there b.2) apart (at_place p s a)))) there

  pub above_kept : HasHome folder v.now → HasHome folder w.now
  above_kept home p in_ = folders_kept p (above_apart folder p x in_) (home p in_)

  pub stages_kept : HasHome stage v.now → HasHome stage w.now
  stages_kept home p in_ = folders_kept p (above_stage stage folder outside p x in_) (home p in_)

  pub stage_kept : NotDirectory (shows v.now stage) → NotDirectory (shows w.now stage)
  stage_kept free =
      ⊎_elim (λ same. subst NotDirectory (sym same) free)
      (λ a. ⊎_elim (λ b. b.1) (λ e. absurd (stage_copy stage folder outside x e)) (at_place stage (shows w.now stage) a)) (writes.now stage)
