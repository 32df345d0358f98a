-- A task alone, from its first step to any later moment.
use Rattle.std.proofs.Common.{◌≡◌, inl, inr, ⊎_elim, ℕ, refl, sym, ◌∙◌, subst, Option, Some, Result, Ok, Err}
use Rattle.ost_types.specs.Path.{Path}
use Rattle.fs_trait.specs.declared.types.FsErr.{FsErr}
use Rattle.fs_trait.specs.declared.types.FsErr.TheVariants.{Failed, Exists, Missing, NotFolder, NotEmpty, NoMemory}
use Rattle.fs_trait.specs.declared.task.StepResult.{StepResult}
use Rattle.fs_trait.specs.declared.task.StepResult.TheVariants.{More, Done}
use Rattle.fs_trait.specs.View.{View}
use Rattle.fs_trait.specs.Image.{Told}
use Rattle.fs_trait.specs.Seen.{Seen, shows, MayBe, IsDirectory, NotDirectory}
use Rattle.fs_trait.specs.Change.{Writes, LeadsTo}
use Rattle.fs_trait.proofs.Kept.{firm_kept, then_writes, weaker}
use Rattle.fs_trait.proofs.Facts.{leaf_not_directory}
use Rattle.staged_file.specs.declared.phase.Phase.{Phase}
use Rattle.staged_file.specs.declared.phase.Phase.TheVariants.{Clear, Create, Append, SyncFile, Look, Replace, SyncFolder, Ended}
use Rattle.staged_file.specs.Staged.{Staged, next_in, IsStepped}
use Rattle.staged_file.specs.Steps.{IsFileWith, writes_in, WritesOf, firm_in, Needs, Refuses}
use Rattle.staged_file.specs.Whole.{Written, Stops}
use Rattle.staged_file.proofs.StepLemmas.{off_stage, off_at}

-- in terms of the views of one file system
pub told_once : (P : View → Type 0) (view : Option View) → Told view P → (x : View) → view ≡ Some x → P x
told_once P view t x is = let e : t.0 ≡ x = cc (t.1, is) in subst P e t.2

-- the file and its places stay
pub record IsSame (t u : Staged) : Type 0 where
  pub stage : u.stage ≡ t.stage
  pub folder : u.folder ≡ t.folder
  pub at : u.at ≡ t.at
  pub meta : u.meta ≡ t.meta
  pub bytes : u.bytes ≡ t.bytes

pub IsSame-refl : (t : Staged) → IsSame t t
IsSame-refl t = record { stage = refl; folder = refl; at = refl; meta = refl; bytes = refl }

pub IsSame-trans : (t u x : Staged) → IsSame t u → IsSame u x → IsSame t x
IsSame-trans t u x a b = record { stage = b.stage ∙ a.stage; folder = b.folder ∙ a.folder; at = b.at ∙ a.at; meta = b.meta ∙ a.meta; bytes = b.bytes ∙ a.bytes }

same_next : (ph : Phase) (t : Staged) → IsSame t (next_in ph t)
same_next Clear t = record { stage = refl; folder = refl; at = refl; meta = refl; bytes = refl }
same_next Create t = record { stage = refl; folder = refl; at = refl; meta = refl; bytes = refl }
same_next Append t = record { stage = refl; folder = refl; at = refl; meta = refl; bytes = refl }
same_next SyncFile t = record { stage = refl; folder = refl; at = refl; meta = refl; bytes = refl }
same_next Look t = record { stage = refl; folder = refl; at = refl; meta = refl; bytes = refl }
same_next Replace t = record { stage = refl; folder = refl; at = refl; meta = refl; bytes = refl }
same_next SyncFolder t = record { stage = refl; folder = refl; at = refl; meta = refl; bytes = refl }
same_next Ended t = record { stage = refl; folder = refl; at = refl; meta = refl; bytes = refl }

pub same_stepped : {T : Type 0} (old : Staged) (result : Result (StepResult T) FsErr) (new : Staged) → IsStepped old result new → IsSame old new
same_stepped old (Ok More) new s = subst (IsSame old) (sym s.0) (same_next old.phase old)
same_stepped old (Ok (Done x)) new s = subst (IsSame old) (sym s.0) (same_next old.phase old)
same_stepped old (Err e) new s = subst (IsSame old) (sym s) (IsSame-refl old)

-- what each step writes is what all may write
pub written_in : (ph : Phase) (u : Staged) (v : View) (p : Path) (s : Seen) → writes_in ph u v p s → Written u p s
written_in Clear u v p s a = inl (a.0, subst NotDirectory (sym a.1) tt)
written_in Create u v p s a = inl (a.0, leaf_not_directory s a.1.0 u.meta a.1.1.0 a.1.1.1)
written_in Append u v p s a = inl (a.0, leaf_not_directory s a.1.0 u.meta a.1.1.0 a.1.1.1)
written_in SyncFile u v p s a = absurd a
written_in Look u v p s a = absurd a
written_in Replace u v p s (inl a) = inr (a.0, (a.1.0, a.1.1))
written_in Replace u v p s (inr a) = inl (a.0, subst NotDirectory (sym a.1) tt)
written_in SyncFolder u v p s a = absurd a
written_in Ended u v p s a = absurd a

same_with : (t u : Staged) → IsSame t u → (s : Seen) → IsFileWith u.meta u.bytes s → IsFileWith t.meta t.bytes s
same_with t u same s file = subst (λ m. IsFileWith m t.bytes s) same.meta (subst (λ b. IsFileWith u.meta b s) same.bytes file)

written_same : (t u : Staged) → IsSame t u → (p : Path) (s : Seen) → Written u p s → Written t p s
written_same t u same p s a = ⊎_elim (λ a. inl (a.0 ∙ same.stage, a.1)) (λ a. inr (a.0 ∙ same.at, same_with t u same s a.1)) a

pub written_on : (t u : Staged) → IsSame t u → (v w x : View) → Writes (Written t) v w → Writes (WritesOf u w) w x → Writes (Written t) v x
written_on t u same v w x before step = weaker _ (Written t) v x (λ p s a. ⊎_elim (λ was. was) (λ a. written_same t u same p s (written_in u.phase u w p s a)) a) (then_writes (Written t) (WritesOf u w) v w x before step)

leads_in : (ph : Phase) (t : Staged) (n : ℕ) (p : Path) (s : Seen) → firm_in ph t n p s → LeadsTo t.folder p s
leads_in Clear t n p s f = f
leads_in Create t n p s f = f
leads_in Append t n p s f = f.0
leads_in SyncFile t n p s f = f.0
leads_in Look t n p s f = f.0
leads_in Replace t n p s f = f.0
leads_in SyncFolder t n p s f = f.0
leads_in Ended t n p s f = f.0

pub needs_leads : (t : Staged) (v : View) → Needs t v → (p : Path) (s : Seen) → MayBe v p s → LeadsTo t.folder p s
needs_leads t v needs p s may = leads_in t.phase t needs.inode p s (needs.meets.firm p s may)

module _ (t : Staged) (v : View) (needs : Needs t v) (w : View) (writes : Writes (Written t) v w) where
  leads : (p : Path) (s : Seen) → MayBe w p s → LeadsTo t.folder p s
  leads = firm_kept (Written t) (LeadsTo t.folder) v w writes
      (λ p s a below. absurd (⊎_elim (λ a. off_stage t needs.placed p a.0 below) (λ a. off_at t needs.placed p a.0 below) a)) (needs_leads t v needs)

  directory_file : (s : Seen) → IsDirectory s → IsFileWith t.meta t.bytes s → ⊥
  directory_file s is file = subst IsDirectory file.1 is

  pub stops : (u : Staged) → IsSame t u → Needs u w → (e : FsErr) → Refuses u w e → Stops t v e
  stops u same now Failed r = tt
  stops u same now NoMemory r = tt
  stops u same now Exists r =
      let is : IsDirectory (shows w.now t.at) = subst (λ q. IsDirectory (shows w.now q)) same.at r.1 in
      ⊎_elim (λ e. subst IsDirectory e is)
      (λ a. absurd (⊎_elim (λ a. needs.placed.apart (sym a.0)) (λ a. directory_file (shows w.now t.at) is a.1) a)) (writes.now t.at)
  stops u same now Missing r = absurd r
  stops u same now NotFolder r = absurd r
  stops u same now NotEmpty r = absurd r
