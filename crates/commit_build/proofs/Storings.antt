-- A step that goes on and may have written at an object's path stored that object, or changed nothing.
use Rattle.std.proofs.Common.{◌≡◌, ◌⊎◌, inl, inr, ℕ, refl, sym, ◌∙◌, ap, subst, List, Option, Some, None}
use Rattle.ost_types.specs.declared.object.ObjName.{ObjName}
use Rattle.fs_trait.specs.View.{View}
use Rattle.fs_trait.specs.Seen.{Seen}
use Rattle.repo_layout.specs.RefFile.{IsSum}
use Rattle.repo_model.specs.Objects.{path_of}
use Rattle.repo_model.proofs.Named.{IsSum-named}
use Rattle.obj_store.specs.declared.phase.Put.{Put}
use Rattle.obj_store.specs.declared.phase.Put.TheVariants.{Stored, Present}
use Rattle.obj_store.specs.declared.phase.Phase.TheVariants as at
use Rattle.obj_store.specs.Putting.{Putting}
use Rattle.obj_store.specs.Steps as put
use Rattle.obj_store.proofs.PlaceLemmas.{one_name}
use Rattle.commit_build.specs.declared.phase.Phase.{Phase}
use Rattle.commit_build.specs.declared.phase.Phase.TheVariants as phase
use Rattle.commit_build.specs.Committing.{Committing, Follows, IsEnd}
use Rattle.commit_build.specs.Steps.{CameOf, Needs, WritesOf, came_in, writes_in}
use Rattle.commit_build.proofs.Counted.{calm_off, puts_link}
use Rattle.commit_build.proofs.MetSteps.{IsCalm, Met, met_commit, met_put}
use Rattle.commit_build.proofs.PutSteps.{needs_as}

-- what is written at an object's path is the object that is put
at_own : (q : Putting) (v : View) → put.Needs q v → (name : ObjName) (s : Seen) → IsSum name.csum → put.WritesOf q v (path_of name) s → name ≡ q.name
at_own q v has name s sum wrote =
    let link = puts_link q v has name s wrote in
    one_name name q.name sum (IsSum-named q.name has.made.bytes has.made.object.named) (subst (λ ph. put.writes_in ph q v (path_of name) s) link wrote).0

module _ (objects most : ℕ) (v w : View) (name : ObjName) (s : Seen) (sum : IsSum name.csum) where
  abbrev Stores : Option (ObjName × Put) → Type 0
  Stores met = (w ≡ v) ⊎ (met ≡ Some (name, Stored))

  met_stored : (q : Putting) (met : Option (ObjName × Put)) → Met q.name q.phase met → CameOf objects most met q v w → q.phase ≡ at.Link → name ≡ q.name → Stores met
  met_stored q None says came link same = absurd (says link)
  met_stored q (Some (n, Stored)) says came link same = inr (ap (λ (x : ObjName). Some (x, Stored)) (says ∙ sym same))
  met_stored q (Some (n, Present)) says came link same = inl came.1

  put_stored : (q : Putting) (met : Option (ObjName × Put)) → put.Needs q v → Met q.name q.phase met → CameOf objects most met q v w → put.WritesOf q v (path_of name) s → Stores met
  put_stored q met has says came wrote = met_stored q met says came (puts_link q v has name s wrote) (at_own q v has name s sum wrote)

  module _ (t : Committing) (needs : Needs t v) (new : Phase) (count : ℕ) (met : Option (ObjName × Put)) where
    follow_stored : (ph : Phase) → t.phase ≡ ph → Follows t ph new count met → came_in objects most ph met v w → writes_in ph v (path_of name) s → Stores met
    follow_stored (phase.Put q) is f came wrote = put_stored q met (needs_as t v needs (phase.Put q) is).0 (met_put t q new count met f) came wrote
    follow_stored (phase.PutCommit q) is f came wrote = put_stored q met (needs_as t v needs (phase.PutCommit q) is).0 (met_commit t q new count met f) came wrote
    follow_stored phase.Check is f came wrote = absurd wrote
    follow_stored phase.Make is f came wrote = absurd wrote
    follow_stored (phase.Made c) is f came wrote = absurd wrote
    follow_stored phase.SyncObjects is f came wrote = absurd wrote
    follow_stored phase.MakeCommit is f came wrote = absurd wrote
    follow_stored (phase.SyncCommit c) is f came wrote = absurd wrote
    follow_stored (phase.Unmark c) is f came wrote = absurd (calm_off (phase.Unmark c) tt v name s wrote)
    follow_stored (phase.SyncState c) is f came wrote = absurd wrote
    follow_stored (phase.Ended c) is f came wrote = absurd wrote

    pub step_stored : Follows t t.phase new count met → came_in objects most t.phase met v w → WritesOf t v (path_of name) s → Stores met
    step_stored f came wrote = follow_stored t.phase refl f came wrote

end_calm : (ph : Phase) (commit : List ℕ) → IsEnd ph commit → IsCalm ph
end_calm (phase.SyncState c) commit e = tt
end_calm (phase.Ended c) commit e = tt
end_calm phase.Check commit e = absurd e
end_calm phase.Make commit e = absurd e
end_calm (phase.Made c) commit e = absurd e
end_calm (phase.Put q) commit e = absurd e
end_calm phase.SyncObjects commit e = absurd e
end_calm phase.MakeCommit commit e = absurd e
end_calm (phase.PutCommit q) commit e = absurd e
end_calm (phase.SyncCommit c) commit e = absurd e
end_calm (phase.Unmark c) commit e = absurd e

-- the step with which all is done writes at none
pub end_off : (ph : Phase) (commit : List ℕ) → IsEnd ph commit → (v : View) (name : ObjName) (s : Seen) → writes_in ph v (path_of name) s → ⊥
end_off ph commit e v name s wrote = calm_off ph (end_calm ph commit e) v name s wrote
