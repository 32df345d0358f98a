-- What a task writes, for all others; and its facts stay true under what others may write.
use Rattle.std.proofs.Common.{◌≡◌, ◌⊎◌, inl, inr, ℕ, true, refl, sym, ◌∙◌, ap, subst, List}
use Rattle.ost_types.specs.declared.meta.Meta.{Meta}
use Rattle.ost_types.specs.Path.{Path, is_in}
use Rattle.fs_trait.specs.declared.types.Value.TheVariants.{File}
use Rattle.fs_trait.specs.View.{View}
use Rattle.fs_trait.specs.Effect.{IsFresh}
use Rattle.fs_trait.specs.Seen.{Seen, Vacant, Leaf, shows, MayBe, IsDirectory, NotDirectory}
use Rattle.fs_trait.specs.Change.{Writes, Meets, Harmless, LeadsTo, Own}
use Rattle.fs_trait.proofs.Kept.{meets_kept}
use Rattle.fs_trait.proofs.Facts.{leaf_file, leaf_not_directory}
use Rattle.staging.specs.Steps as stages
use Rattle.staging.proofs.Stable.{staging_lies}
use Rattle.staged_file.specs.declared.phase.Phase.{Phase}
use Rattle.staged_file.specs.declared.phase.Phase.TheVariants.{Clear, Create, Append, SyncFile, Look, Replace, SyncFolder, Ended}
use Rattle.staged_file.specs.Staged.{Staged, draft_of, is_staging, lock_in, stage_in}
use Rattle.staged_file.specs.Steps.{IsFileWith, IsWhole, writes_in, WritesOf, firm_in, FirmOf, here_in, HereOf, Needs}
use Rattle.staged_file.proofs.StageLemmas.{stage_needs}

-- Where a write of the next step lies: at the staging path, or, under the task's lock, at the target, where it is the whole
-- file with its attributes. A file that is written is a new one or the staged one, and takes no folder's place.
pub record Lies (t : Staged) (v : View) (p : Path) (s : Seen) : Type 0 where
  pub place : (p ≡ t.stage) ⊎ ((p ≡ t.at) × IsFileWith t.meta t.bytes s × (lock_in t.phase t ≡ t.lock))
  pub comes : (n : ℕ) (m : Meta) (b : List ℕ) → s ≡ Leaf n m b → IsFresh n v ⊎ (v.now.at t.stage ≡ File n)
  pub folders : NotDirectory (shows v.now p)

module _ (t : Staged) (v : View) (needs : Needs t v) where
  -- while the file is staged, as staging does
  stage_lies : (ph : Phase) → t.phase ≡ ph → is_staging ph ≡ true → (p : Path) (s : Seen) → stages.writes_in (stage_in ph) (draft_of t) v p s → Lies t v p s
  stage_lies ph is on p s a =
      let l = staging_lies (draft_of t) v (stage_needs t v needs (ap is_staging is ∙ on)) p s (subst (λ f. stages.writes_in (stage_in f) (draft_of t) v p s) (sym is) a) in
      record { place = inl l.place; comes = l.comes; folders = l.folders }

  from_whole : (s : Seen) → IsWhole t v s → (n : ℕ) (m : Meta) (b : List ℕ) → s ≡ Leaf n m b → IsFresh n v ⊎ (v.now.at t.stage ≡ File n)
  from_whole s file n m b e =
      let l : Leaf file.0 t.meta t.bytes ≡ Leaf n m b = sym file.1 ∙ e in
      let i : file.0 ≡ n = cc in
      inr (file.2 ∙ ap File i)

  from_none : (s : Seen) → s ≡ Vacant → (n : ℕ) (m : Meta) (b : List ℕ) → s ≡ Leaf n m b → IsFresh n v ⊎ (v.now.at t.stage ≡ File n)
  from_none s none n m b e = let l : Vacant ≡ Leaf n m b = sym none ∙ e in cc

  no_folder : (p q : Path) → p ≡ q → NotDirectory (shows v.now q) → NotDirectory (shows v.now p)
  no_folder p q e is = subst (λ r. NotDirectory (shows v.now r)) (sym e) is

  lies : (ph : Phase) → t.phase ≡ ph → Meets (firm_in ph t needs.inode) (here_in ph t needs.inode) v → (p : Path) (s : Seen) → writes_in ph t v p s → Lies t v p s
  lies Clear is now p s a = stage_lies Clear is refl p s a
  lies Create is now p s a = stage_lies Create is refl p s a
  lies Append is now p s a = stage_lies Append is refl p s a
  lies Replace is now p s (inl a) = record { place = inr (a.0, (a.1.0, a.1.1), ap (λ ph. lock_in ph t) is); comes = from_whole s a.1; folders = no_folder p t.at a.0 ((now.here t.at).1 refl) }
  lies Replace is now p s (inr a) = record {
    place = inl a.0;
    comes = from_none s a.1;
    folders = no_folder p t.stage a.0 (leaf_not_directory _ needs.inode t.meta t.bytes ((now.here t.stage).0 refl));
  }
  lies ph is now p s a = absurd a

  pub staged_lies : (p : Path) (s : Seen) → WritesOf t v p s → Lies t v p s
  staged_lies = lies t.phase refl needs.meets

-- whether others may write at the target
abbrev pub is_shared : Phase → Type 0
is_shared Replace = ⊥
is_shared SyncFolder = ⊥
is_shared Ended = ⊥
is_shared ph = Unit {0}

-- The writes of others spare the task: they are harmless to the folders that lead to its target and to its staging path, write
-- nothing there, give its inode no other name, and leave its target alone once it has looked.
pub record Spares (W : Path → Seen → Type 0) (t : Staged) (v : View) : Type 0 where
  pub stage : (s : Seen) → W t.stage s → ⊥
  pub leads : ((p : Path) (s : Seen) → MayBe v p s → LeadsTo t.folder p s) → Harmless W (LeadsTo t.folder)
  pub parents : (p : Path) (s : Seen) → is_in p t.stage ≡ true → IsDirectory (shows v.now p) → W p s → IsDirectory s
  pub own : (n : ℕ) → v.now.at t.stage ≡ File n → ((p : Path) (s : Seen) → MayBe v p s → Own n t.stage p s) → Harmless W (Own n t.stage)
  pub target : (s : Seen) → W t.at s → is_shared t.phase

module _ (W : Path → Seen → Type 0) (t : Staged) (v : View) (spares : Spares W t v) (needs : Needs t v) where
  not_stage : (p : Path) (s : Seen) → W p s → p ≡ t.stage → ⊥
  not_stage p s wrote e = spares.stage s (subst (λ q. W q s) e wrote)

  at_target : (ph : Phase) → t.phase ≡ ph → (p : Path) (s : Seen) → W p s → p ≡ t.at → is_shared ph
  at_target ph is p s wrote e = subst is_shared is (spares.target s (subst (λ q. W q s) e wrote))

  own_out : (c : List ℕ) → shows v.now t.stage ≡ Leaf needs.inode t.meta c → ((p : Path) (s : Seen) → MayBe v p s → Own needs.inode t.stage p s) → Harmless W (Own needs.inode t.stage)
  own_out c is own = spares.own needs.inode (leaf_file v.now t.stage needs.inode t.meta c is).0 own

  firm_out : (ph : Phase) → t.phase ≡ ph → Meets (firm_in ph t needs.inode) (here_in ph t needs.inode) v → Harmless W (firm_in ph t needs.inode)
  firm_out Clear is now p s wrote = spares.leads now.firm p s wrote
  firm_out Create is now p s wrote = spares.leads now.firm p s wrote
  firm_out Append is now p s wrote = (spares.leads (λ p s may. (now.firm p s may).0) p s wrote, own_out _ (now.here t.stage refl) (λ p s may. (now.firm p s may).1) p s wrote)
  firm_out SyncFile is now p s wrote = (spares.leads (λ p s may. (now.firm p s may).0) p s wrote, own_out _ (now.here t.stage refl) (λ p s may. (now.firm p s may).1) p s wrote)
  firm_out Look is now p s wrote = (
    spares.leads (λ p s may. (now.firm p s may).0) p s wrote,
    own_out _ (now.here t.stage refl) (λ p s may. (now.firm p s may).1) p s wrote,
    λ m b e is. absurd (not_stage p s wrote e),
  )
  firm_out Replace is now p s wrote = (
    spares.leads (λ p s may. (now.firm p s may).0) p s wrote,
    own_out _ ((now.here t.stage).0 refl) (λ p s may. (now.firm p s may).1) p s wrote,
    λ m b e is. absurd (not_stage p s wrote e),
  )
  firm_out SyncFolder is now p s wrote = (spares.leads (λ p s may. (now.firm p s may).0) p s wrote, λ m b e is_file. absurd (at_target SyncFolder is p s wrote e))
  firm_out Ended is now p s wrote = (spares.leads (λ p s may. (now.firm p s may).0) p s wrote, λ e. absurd (at_target Ended is p s wrote e))

  here_out : (ph : Phase) → t.phase ≡ ph → Meets (firm_in ph t needs.inode) (here_in ph t needs.inode) v → Harmless W (here_in ph t needs.inode)
  here_out Clear is now p s wrote = ((λ e. absurd (not_stage p s wrote e)), (λ in_. spares.parents p s in_ ((now.here p).1 in_) wrote))
  here_out Create is now p s wrote = ((λ e. absurd (not_stage p s wrote e)), (λ in_. spares.parents p s in_ ((now.here p).1 in_) wrote))
  here_out Replace is now p s wrote = ((λ e. absurd (not_stage p s wrote e)), (λ e. absurd (at_target Replace is p s wrote e)))
  here_out SyncFolder is now p s wrote = ((λ e. absurd (at_target SyncFolder is p s wrote e)), λ e. absurd (not_stage p s wrote e))
  here_out ph is now p s wrote = λ e. absurd (not_stage p s wrote e)

  -- The facts of the task stay true.
  pub staged_kept : (w : View) → Writes W v w → Needs t w
  staged_kept w writes = record {
    placed = needs.placed;
    inode = needs.inode;
    meets = meets_kept W (FirmOf t needs.inode) (HereOf t needs.inode) v w writes (firm_out t.phase refl needs.meets) (here_out t.phase refl needs.meets) needs.meets;
  }

-- what the target may show once the task is done
pub ended_lasts : (t : Staged) (v : View) → Needs t v → t.phase ≡ Ended → (s : Seen) → MayBe v t.at s → IsFileWith t.meta t.bytes s
ended_lasts t v needs is s may = (subst (λ ph. firm_in ph t needs.inode t.at s) is (needs.meets.firm t.at s may)).1 refl
