-- What the task that puts a copy begins with, what it writes for all others, and that its facts stay true under what others may
-- write.
use Rattle.std.proofs.Common.{◌≡◌, ◌≢◌, ◌⊎◌, inl, inr, ⊎_elim, ℕ, true, refl, sym, ◌∙◌, subst, List, Some}
use Rattle.ost_types.specs.declared.meta.Meta.{Meta}
use Rattle.ost_types.specs.Path.{Path, is_in}
use Rattle.fs_trait.specs.View.{View}
use Rattle.fs_trait.specs.Image.{reads}
use Rattle.fs_trait.specs.Seen.{Seen, shows, MayBe, IsDirectory, NotDirectory}
use Rattle.fs_trait.specs.Change.{Writes}
use Rattle.staging.specs.Steps as staging
use Rattle.file_copy.specs.declared.putting.PutPhase.{PutPhase}
use Rattle.file_copy.specs.declared.putting.PutPhase.TheVariants as phase
use Rattle.file_copy.specs.Comparing as compare
use Rattle.file_copy.specs.Putting.{Putting, begun}
use Rattle.file_copy.specs.PutSteps.{IsCopy, IsPlaced, Needs, WritesOf, needs_in, writes_in}
use Rattle.file_copy.proofs.CopyLemmas.{at_stage, reads_kept}
use Rattle.file_copy.proofs.Stable as copy
use Rattle.file_copy.proofs.Stable.{copy_kept, copy_new, compare_kept}

-- what a new one needs: a regular file, a staging path and a target apart from it and from each other, and no folder at the
-- staging path
pub put_new : (from stage at : Path) (meta : Meta) (v : View) (bytes : List ℕ) → IsPlaced from stage at → ((p : Path) → is_in p at ≡ true → IsDirectory (shows v.now p)) → from ≢ stage
    → reads v.now from ≡ Some bytes → staging.IsPlaced stage → NotDirectory (shows v.now stage) → ((p : Path) → is_in p stage ≡ true → IsDirectory (shows v.now p)) → Needs (begun from stage at meta) v
put_new from stage at meta v bytes placed home apart source staging leaf parents = record {
  made = record { target = refl; source = refl };
  placed = placed;
  home = home;
  meets = (tt, copy_new from stage meta v bytes apart source staging leaf parents);
}

-- where a write of the next step lies: at the staging path, or at the target, where it is the whole copy
pub put_lies : (t : Putting) (v : View) (p : Path) (s : Seen) → WritesOf t v p s → (p ≡ t.copying.stage) ⊎ ((p ≡ t.at) × IsCopy t.copying v s)
put_lies t v p s a = by t.phase a
  where
    by : (ph : PutPhase) → writes_in ph t v p s → (p ≡ t.copying.stage) ⊎ ((p ≡ t.at) × IsCopy t.copying v s)
    by phase.Compare a = absurd a
    by phase.Copy a = inl (at_stage t.copying v p s a)
    by phase.Replace (inl a) = inr (a.0, a.1)
    by phase.Replace (inr a) = inl a.0
    by phase.Ended a = absurd a

-- after a step a crash leaves at the target what it might leave there before, or the whole copy
pub target_may : (t : Putting) (v w : View) → Needs t v → Writes (WritesOf t v) v w → (s : Seen) → MayBe w t.at s → MayBe v t.at s ⊎ IsCopy t.copying v s
target_may t v w needs writes s may =
    ⊎_elim (λ old. inl old) (λ a. ⊎_elim (λ e. absurd (needs.placed.apart (sym e))) (λ c. inr c.1) (put_lies t v t.at s a)) (writes.only t.at s may)

-- The writes of others spare the task: what it copies and has staged, and its target once it is there, and leave folders where
-- folders are above the target.
pub record Spares (W : Path → Seen → Type 0) (t : Putting) (v : View) : Type 0 where
  pub copying : copy.Spares W t.copying v
  pub target : (s : Seen) → W t.at s → ⊥
  pub home : (p : Path) (s : Seen) → is_in p t.at ≡ true → IsDirectory (shows v.now p) → W p s → IsDirectory s

module _ (W : Path → Seen → Type 0) (t : Putting) (v : View) (spares : Spares W t v) (needs : Needs t v) (w : View) (writes : Writes W v w) where
  comparing_kept : compare.Needs t.comparing v.now → compare.Needs t.comparing w.now
  comparing_kept knows = compare_kept W t.comparing v
      (subst (λ p. (s : Seen) → W p s → ⊥) (sym needs.made.target) spares.target)
      (subst (λ p. (s : Seen) → W p s → ⊥) (sym needs.made.source) spares.copying.source) knows w writes

  meets_kept : (ph : PutPhase) → needs_in ph t v → needs_in ph t w
  meets_kept phase.Compare was = (comparing_kept was.0, copy_kept W t.copying v spares.copying was.1 w writes)
  meets_kept phase.Copy was = copy_kept W t.copying v spares.copying was w writes
  meets_kept phase.Replace was = (copy_kept W t.copying v spares.copying was.0 w writes, was.1)
  meets_kept phase.Ended same = (
    same.0,
    reads_kept W v w t.at writes spares.target ∙ same.1,
    reads_kept W v w t.copying.from writes spares.copying.source ∙ same.2,
  )

  home_kept : ((p : Path) → is_in p t.at ≡ true → IsDirectory (shows v.now p)) → (p : Path) → is_in p t.at ≡ true → IsDirectory (shows w.now p)
  home_kept home p in_ = ⊎_elim (λ e. subst IsDirectory (sym e) (home p in_)) (λ wrote. spares.home p (shows w.now p) in_ (home p in_) wrote) (writes.now p)

  -- The facts of the task stay true.
  pub put_kept : Needs t w
  put_kept = record { made = needs.made; placed = needs.placed; home = home_kept needs.home; meets = meets_kept t.phase needs.meets }
