-- What stays of a task from step to step.
use Rattle.std.proofs.Common.{◌≡◌, ℕ, refl, sym, ◌∙◌, ap, subst, List, Option, Some, Ok}
use Rattle.ost_types.specs.declared.meta.Meta.{Meta}
use Rattle.fs_trait.specs.declared.task.StepResult.{StepResult}
use Rattle.fs_trait.specs.declared.task.StepResult.TheVariants.{More, Done}
use Rattle.fs_trait.specs.View.{View}
use Rattle.fs_trait.specs.Image.{Told}
use Rattle.fs_trait.specs.Seen.{Leaf}
use Rattle.staging.specs.Draft as draft
use Rattle.staging.specs.Draft.{Draft}
use Rattle.obj_store.specs.declared.source.Source.{Source}
use Rattle.obj_store.specs.declared.source.Source.TheVariants.{File, Link}
use Rattle.obj_store.specs.declared.phase.Put.{Put}
use Rattle.obj_store.specs.declared.phase.Phase.{Phase}
use Rattle.obj_store.specs.declared.phase.Phase.TheVariants as phase
use Rattle.obj_store.specs.Putting.{Putting, Follows, IsStepped, shown}
use Rattle.obj_store.proofs.PutLemmas.{Same, next_same}

-- in terms of the views of one file system
pub told_once : (P : View → Type 0) (view : Option View) → Told view P → (x : View) → view ≡ Some x → P x
told_once P view t x is = let e : t.0 ≡ x = cc (t.1, is) in subst P e t.2

-- each way in which a step goes on
module _ (P : Phase → Phase → Source → Source → Type 0) (looked : (d e : Draft) → draft.IsStepped {T = Unit {0}} d (Ok More) e → P phase.Look phase.Stage (File d) (File e))
    (passed : (m : Meta) (target : List ℕ) → P phase.Look phase.Folder (Link m target) (Link m target)) (staged : (d e : Draft) → draft.IsStepped {T = Unit {0}} d (Ok More) e → P phase.Stage phase.Stage (File d) (File e))
    (synced : (d e : Draft) → draft.IsStepped {T = Unit {0}} d (Ok (Done tt)) e → P phase.Stage phase.Folder (File d) (File e)) (made : (s : Source) → P phase.Folder phase.Link s s)
    (linked : (put : Put) (d : Draft) → P phase.Link (phase.Unlink put) (File d) (File d)) where
  from_look : (next : Phase) (old new : Source) → Follows phase.Look next old new → P phase.Look next old new
  from_look phase.Look old new f = absurd f
  from_look phase.Stage (File d) (File e) f = looked d e f
  from_look phase.Stage (File d) (Link m l) f = absurd f
  from_look phase.Stage (Link m l) new f = absurd f
  from_look phase.Folder (Link m l) new f = subst (P phase.Look phase.Folder (Link m l)) (sym f) (passed m l)
  from_look phase.Folder (File d) new f = absurd f
  from_look phase.Link old new f = absurd f
  from_look (phase.Unlink put) old new f = absurd f
  from_look (phase.Ended put) old new f = absurd f

  from_stage : (next : Phase) (old new : Source) → Follows phase.Stage next old new → P phase.Stage next old new
  from_stage phase.Look old new f = absurd f
  from_stage phase.Stage (File d) (File e) f = staged d e f
  from_stage phase.Stage (File d) (Link m l) f = absurd f
  from_stage phase.Stage (Link m l) new f = absurd f
  from_stage phase.Folder (File d) (File e) f = synced d e f
  from_stage phase.Folder (File d) (Link m l) f = absurd f
  from_stage phase.Folder (Link m l) new f = absurd f
  from_stage phase.Link old new f = absurd f
  from_stage (phase.Unlink put) old new f = absurd f
  from_stage (phase.Ended put) old new f = absurd f

  from_folder : (next : Phase) (old new : Source) → Follows phase.Folder next old new → P phase.Folder next old new
  from_folder phase.Look old new f = absurd f
  from_folder phase.Stage old new f = absurd f
  from_folder phase.Folder old new f = absurd f
  from_folder phase.Link old new f = subst (P phase.Folder phase.Link old) (sym f) (made old)
  from_folder (phase.Unlink put) old new f = absurd f
  from_folder (phase.Ended put) old new f = absurd f

  from_link : (next : Phase) (old new : Source) → Follows phase.Link next old new → P phase.Link next old new
  from_link phase.Look old new f = absurd f
  from_link phase.Stage old new f = absurd f
  from_link phase.Folder old new f = absurd f
  from_link phase.Link old new f = absurd f
  from_link (phase.Unlink put) (File d) new f = subst (P phase.Link (phase.Unlink put) (File d)) (sym f) (linked put d)
  from_link (phase.Unlink put) (Link m l) new f = absurd f
  from_link (phase.Ended put) old new f = absurd f

  from_last : (last next : Phase) (old new : Source) → Follows last next old new → P last next old new
  from_last phase.Look next old new f = from_look next old new f
  from_last phase.Stage next old new f = from_stage next old new f
  from_last phase.Folder next old new f = from_folder next old new f
  from_last phase.Link next old new f = from_link next old new f
  from_last (phase.Unlink put) next old new f = absurd f
  from_last (phase.Ended put) next old new f = absurd f

-- who puts what stays
pub record IsSame (t u : Putting) : Type 0 where
  pub actor : u.actor ≡ t.actor
  pub name : u.name ≡ t.name
  pub shown : shown 0 u.source ≡ shown 0 t.source

same_draft : {T : Type 0} (d e : Draft) (r : StepResult T) → draft.IsStepped d (Ok r) e → Same d e
same_draft d e More s = subst (Same d) (sym s.0) (next_same d d.phase)
same_draft d e (Done x) s = subst (Same d) (sym s.0) (next_same d d.phase)

draft_shown : (d e : Draft) → Same d e → shown 0 (File e) ≡ shown 0 (File d)
draft_shown d e s = ap (λ m. Leaf 0 m e.bytes) s.meta ∙ ap (Leaf 0 d.meta) s.bytes

pub same_more : (u new : Putting) → IsStepped u (Ok More) new → IsSame u new
same_more u new s = record {
  actor = ap (λ (x : Putting). x.actor) s.0;
  name = ap (λ (x : Putting). x.name) s.0;
  shown = from_last (λ last next old now. shown 0 now ≡ shown 0 old)
      (λ d e st. draft_shown d e (same_draft {T = Unit {0}} d e More st)) (λ m l. refl) (λ d e st. draft_shown d e (same_draft {T = Unit {0}} d e More st))
      (λ d e st. draft_shown d e (same_draft {T = Unit {0}} d e (Done tt) st)) (λ s. refl) (λ put d. refl)
      u.phase new.phase u.source new.source s.1;
}
