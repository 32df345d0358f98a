-- What a step of the build met is from then on among the objects that the build stored or found.
use Rattle.std.proofs.Common.{◌≡◌, ℕ, ◌<◌, refl, sym, ◌∙◌, ap, subst, inl, inr, arith, Option, Some, None}
use Rattle.ost_types.specs.declared.object.ObjName.{ObjName}
use Rattle.tree_build.specs.Objects.{Object}
use Rattle.obj_store.specs.declared.phase.Put.{Put}
use Rattle.obj_store.specs.declared.phase.Phase as putting
use Rattle.obj_store.specs.declared.phase.Phase.TheVariants as at
use Rattle.obj_store.specs.Putting.{Putting, put_in}
use Rattle.commit_build.specs.declared.phase.Phase.{Phase}
use Rattle.commit_build.specs.declared.phase.Phase.TheVariants as phase
use Rattle.commit_build.specs.Advancing.{newly}
use Rattle.commit_build.specs.Committing.{Committing, IsMade, Follows, PutsLast, met_of}
use Rattle.commit_build.specs.Steps.{count_in}
use Rattle.commit_build.specs.Whole.{its_commit}
use Rattle.commit_build.proofs.MetSteps.{Met, IsCalm, met_put, met_commit, met_calm}
use Rattle.commit_build.proofs.PutSteps.{kept_as}
use Rattle.commit_build.proofs.Stable.{IsSeenTo, relied_in}
use Rattle.commit_command.specs.Kinds.{BuildSteps}
use Rattle.commit_command.specs.Facts.{Has}

newly_none : (before : Option Put) → newly before None ≡ None
newly_none None = refl
newly_none (Some put) = refl

none_some : (x : ObjName × Put) → None ≡ Some x → ⊥
none_some x is = cc

none_met : {P : Type 0} (last : putting.Phase) (x name : ObjName) (end : Put) → met_of x (newly (put_in last) None) ≡ Some (name, end) → P
none_met last x name end is = absurd (none_some (name, end) (sym (ap (met_of x) (newly_none (put_in last))) ∙ is))

-- a put that says what came of its object has seen to it
seen_of : (last next : putting.Phase) (x name : ObjName) (end : Put) → met_of x (newly (put_in last) (put_in next)) ≡ Some (name, end) → IsSeenTo next
seen_of last (at.Unlink k) x name end is = tt
seen_of last (at.Ended k) x name end is = tt
seen_of last at.Look x name end is = none_met last x name end is
seen_of last at.Stage x name end is = none_met last x name end is
seen_of last at.Folder x name end is = none_met last x name end is
seen_of last at.Link x name end is = none_met last x name end is

seen_counts : (ph : putting.Phase) (made n : ℕ) → IsSeenTo ph → n < made → n < count_in ph made
seen_counts (at.Unlink k) made n seen less = less
seen_counts (at.Ended k) made n seen less = less
seen_counts at.Look made n seen less = absurd seen
seen_counts at.Stage made n seen less = absurd seen
seen_counts at.Folder made n seen less = absurd seen
seen_counts at.Link made n seen less = absurd seen

-- an object of this name is relied on
abbrev Goes : Committing → Phase → ObjName → Type 0
Goes u ph name = (o : Object) × relied_in ph u o × (o.name ≡ name)

module _ (t : Committing) (made : IsMade t) (count : ℕ) (met : Option (ObjName × Put)) (name : ObjName) (end : Put) (is : met ≡ Some (name, end)) where
  -- the task after a step to this phase
  abbrev at_phase : Phase → Committing
  at_phase ph = record t { made = count; phase = ph; met = met }

  calm : {P : Type 0} (old new : Phase) → IsCalm old → Follows t old new count met → P
  calm old new quiet f = absurd (none_some (name, end) (sym (met_calm t old new count met quiet f) ∙ is))

  -- the object that is put has the name that was met
  last_goes : (p : Putting) (new : Phase) → Follows t (phase.Put p) new count met → (last : PutsLast t.actor t.items t.made p) → last.object.name ≡ name
  last_goes p new f last = let k : name ≡ p.name = subst (Met p.name p.phase) is (met_put t p new count met f) in sym last.puts.name ∙ sym k

  put_goes : (p : Putting) → t.phase ≡ phase.Put p → (new : Phase) → Follows t (phase.Put p) new count met → Goes (at_phase new) new name
  put_goes p here (phase.Put q) f =
      let last = (kept_as t made (phase.Put p) here).1 in
      let seen = seen_of p.phase q.phase p.name name end (sym f.2 ∙ is) in
      (last.object, (last.last.number, seen_counts q.phase count last.last.number seen (omega (arith, f.0, last.last.is)), last.last.object), last_goes p (phase.Put q) f last)
  put_goes p here phase.Make f =
      let last = (kept_as t made (phase.Put p) here).1 in
      (last.object, (last.last.number, omega (arith, f.0, last.last.is), last.last.object), last_goes p phase.Make f last)
  put_goes p here phase.Check f = absurd f
  put_goes p here (phase.Made b) f = absurd f
  put_goes p here phase.SyncObjects f = absurd f
  put_goes p here phase.MakeCommit f = absurd f
  put_goes p here (phase.PutCommit b) f = absurd f
  put_goes p here (phase.SyncCommit b) f = absurd f
  put_goes p here (phase.Unmark b) f = absurd f
  put_goes p here (phase.SyncState b) f = absurd f
  put_goes p here (phase.Ended b) f = absurd f

  commit_goes : (p : Putting) → t.phase ≡ phase.PutCommit p → (new : Phase) → Follows t (phase.PutCommit p) new count met → (its_commit t).name ≡ name
  commit_goes p here new f =
      let k : name ≡ p.name = subst (Met p.name p.phase) is (met_commit t p new count met f) in
      sym (kept_as t made (phase.PutCommit p) here).2.name ∙ sym k

  put_commit_goes : (p : Putting) → t.phase ≡ phase.PutCommit p → (new : Phase) → Follows t (phase.PutCommit p) new count met → Goes (at_phase new) new name
  put_commit_goes p here (phase.PutCommit q) f = (its_commit t, inr (refl, seen_of p.phase q.phase p.name name end (sym f.2 ∙ is)), commit_goes p here (phase.PutCommit q) f)
  put_commit_goes p here (phase.SyncCommit b) f = (its_commit t, inr refl, commit_goes p here (phase.SyncCommit b) f)
  put_commit_goes p here phase.Check f = absurd f
  put_commit_goes p here phase.Make f = absurd f
  put_commit_goes p here (phase.Made b) f = absurd f
  put_commit_goes p here (phase.Put b) f = absurd f
  put_commit_goes p here phase.SyncObjects f = absurd f
  put_commit_goes p here phase.MakeCommit f = absurd f
  put_commit_goes p here (phase.Unmark b) f = absurd f
  put_commit_goes p here (phase.SyncState b) f = absurd f
  put_commit_goes p here (phase.Ended b) f = absurd f

  met_goes : (old new : Phase) → t.phase ≡ old → Follows t old new count met → Goes (at_phase new) new name
  met_goes (phase.Put p) new here f = put_goes p here new f
  met_goes (phase.PutCommit p) new here f = put_commit_goes p here new f
  met_goes phase.Check new here f = calm phase.Check new tt f
  met_goes phase.Make new here f = calm phase.Make new tt f
  met_goes (phase.Made c) new here f = calm (phase.Made c) new tt f
  met_goes phase.SyncObjects new here f = calm phase.SyncObjects new tt f
  met_goes phase.MakeCommit new here f = calm phase.MakeCommit new tt f
  met_goes (phase.SyncCommit sum) new here f = calm (phase.SyncCommit sum) new tt f
  met_goes (phase.Unmark sum) new here f = calm (phase.Unmark sum) new tt f
  met_goes (phase.SyncState sum) new here f = calm (phase.SyncState sum) new tt f
  met_goes (phase.Ended sum) new here f = calm (phase.Ended sum) new tt f

pub met_has : (objects : ℕ) (old new : Committing) → IsMade old → BuildSteps objects old None new → (name : ObjName) (end : Put) → new.met ≡ Some (name, end) → Has new name
met_has objects old new made (inl s) name end is =
    subst (λ (x : Committing). Goes x new.phase name) (sym s.0.0) (met_goes old made new.made new.met name end is old.phase new.phase refl s.0.1)
met_has objects old new made (inr s) name end is =
    let n : None ≡ Some (name, end) = sym (ap (λ (x : Committing). x.met) s.1.0) ∙ is in cc
