-- Each object on which the build relies after a step, it relied on before, or the step was one of putting it.
use Rattle.std.proofs.Common.{◌≡◌, ◌⊎◌, inl, inr, ⊎_elim, ℕ, ◌<◌, ◌+◌, suc, zero, pred, refl, sym, ◌∙◌, ap, subst, arith, List, Option, Some, Ok}
use Rattle.ost_types.specs.declared.object.ObjName.{ObjName}
use Rattle.fs_trait.specs.declared.task.StepResult.TheVariants.{More}
use Rattle.tree_build.specs.Objects.{Object, work}
use Rattle.tree_build.specs.Building.{IsNumber}
use Rattle.obj_store.specs.declared.source.Source.{Source}
use Rattle.obj_store.specs.declared.phase.Put.{Put}
use Rattle.obj_store.specs.declared.phase.Phase as putting
use Rattle.obj_store.specs.declared.phase.Phase.TheVariants as at
use Rattle.obj_store.specs.Putting as put
use Rattle.obj_store.specs.Putting.{Putting}
use Rattle.commit_build.specs.declared.phase.Phase.{Phase}
use Rattle.commit_build.specs.declared.phase.Phase.TheVariants as phase
use Rattle.commit_build.specs.Committing.{Committing, IsMade, IsMadeLast, Follows, IsEnd, storing_in, named_by}
use Rattle.commit_build.specs.Steps.{count_in}
use Rattle.commit_build.specs.Whole.{its_commit, IsOfCommit}
use Rattle.commit_build.proofs.PutSteps.{kept_as, last_or_before, one_object}
use Rattle.commit_build.proofs.Stable.{AreFirst, IsSeenTo, relied_in}

-- it was relied on before, or is being put
abbrev pub Had : Committing → Phase → Object → Type 0
Had t old o = relied_in old t o ⊎ (storing_in old ≡ Some o.name)

-- a put that goes on, was about its object
pub goes_on : (old new : putting.Phase) (s u : Source) (name : ObjName) → put.Follows old new s u → named_by (put.need_in old) name ≡ Some name
goes_on at.Look new s u name f = refl
goes_on at.Stage new s u name f = refl
goes_on at.Folder new s u name f = refl
goes_on at.Link new s u name f = refl
goes_on (at.Unlink k) new s u name f = absurd f
goes_on (at.Ended k) new s u name f = absurd f

-- one that ends was so, or the object's path was seen to before
ended : (old : putting.Phase) (s : Source) (end : Put) (name : ObjName) → put.IsLast old s end → (named_by (put.need_in old) name ≡ Some name) ⊎ IsSeenTo old
ended at.Look s end name last = inl refl
ended at.Stage s end name last = absurd last
ended at.Folder s end name last = absurd last
ended at.Link s end name last = inl refl
ended (at.Unlink k) s end name last = inr tt
ended (at.Ended k) s end name last = inr tt

seen_count : (ph : putting.Phase) (made n : ℕ) → IsSeenTo ph → n < made → n < count_in ph made
seen_count (at.Unlink k) made n seen less = less
seen_count (at.Ended k) made n seen less = less
seen_count at.Look made n seen less = absurd seen
seen_count at.Stage made n seen less = absurd seen
seen_count at.Folder made n seen less = absurd seen
seen_count at.Link made n seen less = absurd seen

pred_less : (made n : ℕ) → n < pred made → n < made
pred_less zero n less = less
pred_less (suc made) n less = omega (arith, less)

after_one : (n count made : ℕ) → count ≡ made + 1 → n < pred count → n < made
after_one n zero made e less = absurd (omega (arith, less))
after_one n (suc count) made e less = omega (arith, e, less)

pub before_count : (ph : putting.Phase) (made n : ℕ) → n < pred made → n < count_in ph made
before_count (at.Unlink k) made n less = pred_less made n less
before_count (at.Ended k) made n less = pred_less made n less
before_count at.Look made n less = less
before_count at.Stage made n less = less
before_count at.Folder made n less = less
before_count at.Link made n less = less

pub within_made : (ph : putting.Phase) (made n : ℕ) → n < count_in ph made → n < made
within_made (at.Unlink k) made n less = less
within_made (at.Ended k) made n less = less
within_made at.Look made n less = pred_less made n less
within_made at.Stage made n less = pred_less made n less
within_made at.Folder made n less = pred_less made n less
within_made at.Link made n less = pred_less made n less

module _ (t : Committing) (made : IsMade t) where
  -- an object of the tree so far: one before the last, or the one that is put
  module _ (p : Putting) (is : t.phase ≡ phase.Put p) where
    last_is : (o : Object) → IsMadeLast t.items t.made o → (n : ℕ) (x : Object) → t.made ≡ n + 1 → IsNumber (work t.items) n x → x ≡ o
    last_is o l n x e number = one_object (work t.items) n l.number x o (omega (arith, e, l.is)) number l.object

    put_name : (n : ℕ) (x : Object) → t.made ≡ n + 1 → IsNumber (work t.items) n x → p.name ≡ x.name
    put_name n x e number =
        let k = (kept_as t made (phase.Put p) is).1 in
        k.puts.name ∙ sym (ap (λ (y : Object). y.name) (last_is k.object k.last n x e number))

    first_had : named_by (put.need_in p.phase) p.name ≡ Some p.name → (o : Object) → AreFirst t t.made o → Had t (phase.Put p) o
    first_had about o r = ⊎_elim
        (λ less. inl (r.0, before_count p.phase t.made r.0 less, r.2))
        (λ e. inr (about ∙ ap Some (put_name r.0 o e r.2)))
        (last_or_before r.0 t.made r.1)

  commit_had : (p : Putting) → t.phase ≡ phase.PutCommit p → named_by (put.need_in p.phase) p.name ≡ Some p.name → (o : Object) → o ≡ its_commit t → Had t (phase.PutCommit p) o
  commit_had p is about o e = inr (about ∙ ap Some ((kept_as t made (phase.PutCommit p) is).2.name ∙ sym (ap (λ (y : Object). y.name) e)))

  put_had : (p q : Putting) → t.phase ≡ phase.Put p → put.IsStepped p (Ok More) q → (o : Object) → AreFirst t (count_in q.phase t.made) o → Had t (phase.Put p) o
  put_had p q is stepped o r = first_had p is (goes_on p.phase q.phase p.source q.source p.name stepped.1) o (r.0, within_made q.phase t.made r.0 r.1, r.2)

  put_ended : (p : Putting) → t.phase ≡ phase.Put p → (end : Put) → put.IsLast p.phase p.source end → (o : Object) → AreFirst t t.made o → Had t (phase.Put p) o
  put_ended p is end last o r = ⊎_elim
      (λ about. first_had p is about o r)
      (λ seen. inl (r.0, seen_count p.phase t.made r.0 seen r.1, r.2))
      (ended p.phase p.source end p.name last)

  commit_ended : (p : Putting) → t.phase ≡ phase.PutCommit p → (end : Put) → put.IsLast p.phase p.source end → (o : Object) → IsOfCommit t o → Had t (phase.PutCommit p) o
  commit_ended p is end last o (inl n) = inl (inl n)
  commit_ended p is end last o (inr e) = ⊎_elim
      (λ about. commit_had p is about o e)
      (λ seen. inl (inr (e, seen)))
      (ended p.phase p.source end p.name last)

  made_had : (c : _) (p : Putting) → t.phase ≡ phase.Made c → put.IsNew t.actor c.name c.bytes p → (o : Object) → AreFirst t (count_in p.phase t.made) o → Had t (phase.Made c) o
  made_had c p is new o r = inl (r.0, subst (λ (q : Putting). r.0 < count_in q.phase t.made) new.is r.1, r.2)

  new_had : (p : Putting) → put.IsNew t.actor (its_commit t).name (its_commit t).bytes p → (o : Object) → (((n : ℕ) × IsNumber (work t.items) n o) ⊎ ((o ≡ its_commit t) × IsSeenTo p.phase)) → Had t phase.MakeCommit o
  new_had p new o (inl n) = inl n
  new_had p new o (inr c) = absurd (subst (λ (q : Putting). IsSeenTo q.phase) new.is c.1)

  pub relied_next : (old new : Phase) (count : ℕ) (met : Option (ObjName × Put)) → t.phase ≡ old → Follows t old new count met → (o : Object) → relied_in new (record t { made = count; phase = new; met = met }) o → Had t old o
  relied_next phase.Check phase.Check count met is f o r = absurd f
  relied_next phase.Check phase.Make count met is f o r = absurd (omega (arith, r.1, f.0, kept_as t made phase.Check is))
  relied_next phase.Check (phase.Made b) count met is f o r = absurd f
  relied_next phase.Check (phase.Put b) count met is f o r = absurd f
  relied_next phase.Check phase.SyncObjects count met is f o r = absurd f
  relied_next phase.Check phase.MakeCommit count met is f o r = absurd f
  relied_next phase.Check (phase.PutCommit b) count met is f o r = absurd f
  relied_next phase.Check (phase.SyncCommit b) count met is f o r = absurd f
  relied_next phase.Check (phase.Unmark b) count met is f o r = absurd f
  relied_next phase.Check (phase.SyncState b) count met is f o r = absurd f
  relied_next phase.Check (phase.Ended b) count met is f o r = absurd f
  relied_next phase.Make phase.Check count met is f o r = absurd f
  relied_next phase.Make phase.Make count met is f o r = absurd f
  relied_next phase.Make (phase.Made b) count met is f o r = inl (r.0, after_one r.0 count t.made f.0 r.1, r.2)
  relied_next phase.Make (phase.Put b) count met is f o r = absurd f
  relied_next phase.Make phase.SyncObjects count met is f o r = inl (r.0, subst (λ k. r.0 < k) f.0 r.1, r.2)
  relied_next phase.Make phase.MakeCommit count met is f o r = absurd f
  relied_next phase.Make (phase.PutCommit b) count met is f o r = absurd f
  relied_next phase.Make (phase.SyncCommit b) count met is f o r = absurd f
  relied_next phase.Make (phase.Unmark b) count met is f o r = absurd f
  relied_next phase.Make (phase.SyncState b) count met is f o r = absurd f
  relied_next phase.Make (phase.Ended b) count met is f o r = absurd f
  relied_next (phase.Made a) phase.Check count met is f o r = absurd f
  relied_next (phase.Made a) phase.Make count met is f o r = absurd f
  relied_next (phase.Made a) (phase.Made b) count met is f o r = absurd f
  relied_next (phase.Made a) (phase.Put b) count met is f o r = made_had a b is f.2 o (subst (λ k. AreFirst t (count_in b.phase k) o) f.0 r)
  relied_next (phase.Made a) phase.SyncObjects count met is f o r = absurd f
  relied_next (phase.Made a) phase.MakeCommit count met is f o r = absurd f
  relied_next (phase.Made a) (phase.PutCommit b) count met is f o r = absurd f
  relied_next (phase.Made a) (phase.SyncCommit b) count met is f o r = absurd f
  relied_next (phase.Made a) (phase.Unmark b) count met is f o r = absurd f
  relied_next (phase.Made a) (phase.SyncState b) count met is f o r = absurd f
  relied_next (phase.Made a) (phase.Ended b) count met is f o r = absurd f
  relied_next (phase.Put a) phase.Check count met is f o r = absurd f
  relied_next (phase.Put a) phase.Make count met is f o r = put_ended a is f.1.0 f.1.1 o (subst (λ k. AreFirst t k o) f.0 r)
  relied_next (phase.Put a) (phase.Made b) count met is f o r = absurd f
  relied_next (phase.Put a) (phase.Put b) count met is f o r = put_had a b is f.1 o (subst (λ k. AreFirst t (count_in b.phase k) o) f.0 r)
  relied_next (phase.Put a) phase.SyncObjects count met is f o r = absurd f
  relied_next (phase.Put a) phase.MakeCommit count met is f o r = absurd f
  relied_next (phase.Put a) (phase.PutCommit b) count met is f o r = absurd f
  relied_next (phase.Put a) (phase.SyncCommit b) count met is f o r = absurd f
  relied_next (phase.Put a) (phase.Unmark b) count met is f o r = absurd f
  relied_next (phase.Put a) (phase.SyncState b) count met is f o r = absurd f
  relied_next (phase.Put a) (phase.Ended b) count met is f o r = absurd f
  relied_next phase.SyncObjects phase.Check count met is f o r = absurd f
  relied_next phase.SyncObjects phase.Make count met is f o r = absurd f
  relied_next phase.SyncObjects (phase.Made b) count met is f o r = absurd f
  relied_next phase.SyncObjects (phase.Put b) count met is f o r = absurd f
  relied_next phase.SyncObjects phase.SyncObjects count met is f o r = absurd f
  relied_next phase.SyncObjects phase.MakeCommit count met is f o r = inl (r.0, subst (λ k. r.0 < k) (sym (kept_as t made phase.SyncObjects is).1) r.1.0, r.1)
  relied_next phase.SyncObjects (phase.PutCommit b) count met is f o r = absurd f
  relied_next phase.SyncObjects (phase.SyncCommit b) count met is f o r = absurd f
  relied_next phase.SyncObjects (phase.Unmark b) count met is f o r = absurd f
  relied_next phase.SyncObjects (phase.SyncState b) count met is f o r = absurd f
  relied_next phase.SyncObjects (phase.Ended b) count met is f o r = absurd f
  relied_next phase.MakeCommit phase.Check count met is f o r = absurd f
  relied_next phase.MakeCommit phase.Make count met is f o r = absurd f
  relied_next phase.MakeCommit (phase.Made b) count met is f o r = absurd f
  relied_next phase.MakeCommit (phase.Put b) count met is f o r = absurd f
  relied_next phase.MakeCommit phase.SyncObjects count met is f o r = absurd f
  relied_next phase.MakeCommit phase.MakeCommit count met is f o r = absurd f
  relied_next phase.MakeCommit (phase.PutCommit b) count met is f o r = new_had b f.2 o r
  relied_next phase.MakeCommit (phase.SyncCommit b) count met is f o r = absurd f
  relied_next phase.MakeCommit (phase.Unmark b) count met is f o r = absurd f
  relied_next phase.MakeCommit (phase.SyncState b) count met is f o r = absurd f
  relied_next phase.MakeCommit (phase.Ended b) count met is f o r = absurd f
  relied_next (phase.PutCommit a) phase.Check count met is f o r = absurd f
  relied_next (phase.PutCommit a) phase.Make count met is f o r = absurd f
  relied_next (phase.PutCommit a) (phase.Made b) count met is f o r = absurd f
  relied_next (phase.PutCommit a) (phase.Put b) count met is f o r = absurd f
  relied_next (phase.PutCommit a) phase.SyncObjects count met is f o r = absurd f
  relied_next (phase.PutCommit a) phase.MakeCommit count met is f o r = absurd f
  relied_next (phase.PutCommit a) (phase.PutCommit b) count met is f o r = ⊎_elim (λ n. inl (inl n)) (λ c. commit_had a is (goes_on a.phase b.phase a.source b.source a.name f.1.1) o c.0) r
  relied_next (phase.PutCommit a) (phase.SyncCommit b) count met is f o r = commit_ended a is f.2.0 f.2.1 o r
  relied_next (phase.PutCommit a) (phase.Unmark b) count met is f o r = absurd f
  relied_next (phase.PutCommit a) (phase.SyncState b) count met is f o r = absurd f
  relied_next (phase.PutCommit a) (phase.Ended b) count met is f o r = absurd f
  relied_next (phase.SyncCommit a) phase.Check count met is f o r = absurd f
  relied_next (phase.SyncCommit a) phase.Make count met is f o r = absurd f
  relied_next (phase.SyncCommit a) (phase.Made b) count met is f o r = absurd f
  relied_next (phase.SyncCommit a) (phase.Put b) count met is f o r = absurd f
  relied_next (phase.SyncCommit a) phase.SyncObjects count met is f o r = absurd f
  relied_next (phase.SyncCommit a) phase.MakeCommit count met is f o r = absurd f
  relied_next (phase.SyncCommit a) (phase.PutCommit b) count met is f o r = absurd f
  relied_next (phase.SyncCommit a) (phase.SyncCommit b) count met is f o r = absurd f
  relied_next (phase.SyncCommit a) (phase.Unmark b) count met is f o r = inl r
  relied_next (phase.SyncCommit a) (phase.SyncState b) count met is f o r = absurd f
  relied_next (phase.SyncCommit a) (phase.Ended b) count met is f o r = absurd f
  relied_next (phase.Unmark a) phase.Check count met is f o r = absurd f
  relied_next (phase.Unmark a) phase.Make count met is f o r = absurd f
  relied_next (phase.Unmark a) (phase.Made b) count met is f o r = absurd f
  relied_next (phase.Unmark a) (phase.Put b) count met is f o r = absurd f
  relied_next (phase.Unmark a) phase.SyncObjects count met is f o r = absurd f
  relied_next (phase.Unmark a) phase.MakeCommit count met is f o r = absurd f
  relied_next (phase.Unmark a) (phase.PutCommit b) count met is f o r = absurd f
  relied_next (phase.Unmark a) (phase.SyncCommit b) count met is f o r = absurd f
  relied_next (phase.Unmark a) (phase.Unmark b) count met is f o r = absurd f
  relied_next (phase.Unmark a) (phase.SyncState b) count met is f o r = inl r
  relied_next (phase.Unmark a) (phase.Ended b) count met is f o r = absurd f
  relied_next (phase.SyncState a) phase.Check count met is f o r = absurd f
  relied_next (phase.SyncState a) phase.Make count met is f o r = absurd f
  relied_next (phase.SyncState a) (phase.Made b) count met is f o r = absurd f
  relied_next (phase.SyncState a) (phase.Put b) count met is f o r = absurd f
  relied_next (phase.SyncState a) phase.SyncObjects count met is f o r = absurd f
  relied_next (phase.SyncState a) phase.MakeCommit count met is f o r = absurd f
  relied_next (phase.SyncState a) (phase.PutCommit b) count met is f o r = absurd f
  relied_next (phase.SyncState a) (phase.SyncCommit b) count met is f o r = absurd f
  relied_next (phase.SyncState a) (phase.Unmark b) count met is f o r = absurd f
  relied_next (phase.SyncState a) (phase.SyncState b) count met is f o r = absurd f
  relied_next (phase.SyncState a) (phase.Ended b) count met is f o r = absurd f
  relied_next (phase.Ended a) phase.Check count met is f o r = absurd f
  relied_next (phase.Ended a) phase.Make count met is f o r = absurd f
  relied_next (phase.Ended a) (phase.Made b) count met is f o r = absurd f
  relied_next (phase.Ended a) (phase.Put b) count met is f o r = absurd f
  relied_next (phase.Ended a) phase.SyncObjects count met is f o r = absurd f
  relied_next (phase.Ended a) phase.MakeCommit count met is f o r = absurd f
  relied_next (phase.Ended a) (phase.PutCommit b) count met is f o r = absurd f
  relied_next (phase.Ended a) (phase.SyncCommit b) count met is f o r = absurd f
  relied_next (phase.Ended a) (phase.Unmark b) count met is f o r = absurd f
  relied_next (phase.Ended a) (phase.SyncState b) count met is f o r = absurd f
  relied_next (phase.Ended a) (phase.Ended b) count met is f o r = absurd f

-- the last step
module _ (t : Committing) where
  pub relied_end : (old : Phase) (commit : List ℕ) → IsEnd old commit → (o : Object) → IsOfCommit t o → Had t old o
  relied_end (phase.SyncState sum) commit end o of = inl of
  relied_end (phase.Ended sum) commit end o of = inl of
  relied_end phase.Check commit end o of = absurd end
  relied_end phase.Make commit end o of = absurd end
  relied_end (phase.Made c) commit end o of = absurd end
  relied_end (phase.Put p) commit end o of = absurd end
  relied_end phase.SyncObjects commit end o of = absurd end
  relied_end phase.MakeCommit commit end o of = absurd end
  relied_end (phase.PutCommit p) commit end o of = absurd end
  relied_end (phase.SyncCommit sum) commit end o of = absurd end
  relied_end (phase.Unmark sum) commit end o of = absurd end
