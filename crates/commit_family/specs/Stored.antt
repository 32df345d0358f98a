-- What the last step of a commit stored stands at its path.
use Rattle.std.proofs.Common.{◌≡◌, ◌≢◌, inl, inr, ⊎_elim, ℕ, refl, sym, subst, Option, Some, None}
use Rattle.ost_types.specs.declared.object.ObjName.{ObjName}
use Rattle.fs_trait.specs.declared.types.Value.TheVariants.{Absent}
use Rattle.fs_trait.specs.View.{View}
use Rattle.repo_layout.specs.RefFile.{IsSum}
use Rattle.repo_model.specs.Objects.{path_of}
use Rattle.repo_model.proofs.Named.{IsSum-named}
use Rattle.obj_store.specs.declared.phase.Put.{Put}
use Rattle.tree_build.specs.Objects.{Object}
use Rattle.store_check.specs.Listing.{IsThere}
use Rattle.commit_build.specs.declared.phase.Phase.{Phase}
use Rattle.commit_build.specs.declared.phase.Phase.TheVariants as phase
use Rattle.commit_build.specs.Committing.{Committing}
use Rattle.commit_build.specs.Whole.{its_commit, IsOfCommit}
use Rattle.commit_build.proofs.Named.{work_sum}
use Rattle.commit_build.proofs.Stable.{relied_in}
use Rattle.rely_guarantee.specs.Books.{Books}
use Rattle.commit_command.specs.declared.naming.Naming.{Naming}
use Rattle.commit_command.specs.declared.command.CommitCommand.{CommitCommand}
use Rattle.commit_command.specs.Facts.{commit_facts}
use Rattle.commit_command.specs.Held.{behind_by}
use Rattle.commit_command.specs.Kinds.{met_in}
use Rattle.commit_command.proofs.Holding.{held_of}

-- the objects of a commit have whole sums
sum_of_object : (t : Committing) (o : Object) → IsOfCommit t o → IsSum o.name.csum
sum_of_object t o of = ⊎_elim
    (λ n. work_sum t.items n.0 o n.1)
    (λ e. subst (λ (x : Object). IsSum x.name.csum) (sym e) (IsSum-named (its_commit t).name (its_commit t).bytes refl))
    of

relied_of : (t : Committing) (ph : Phase) (o : Object) → relied_in ph t o → IsOfCommit t o
relied_of t phase.Check o r = absurd r
relied_of t phase.Make o r = inl (r.0, r.2)
relied_of t (phase.Made c) o r = inl (r.0, r.2)
relied_of t (phase.Put p) o r = inl (r.0, r.2)
relied_of t phase.SyncObjects o r = inl (r.0, r.2)
relied_of t phase.MakeCommit o r = inl r
relied_of t (phase.PutCommit p) o r = ⊎_elim (λ n. inl n) (λ c. inr c.0) r
relied_of t (phase.SyncCommit sum) o r = r
relied_of t (phase.Unmark sum) o r = r
relied_of t (phase.SyncState sum) o r = r
relied_of t (phase.Ended sum) o r = r

behind_of : (change : Option Naming) (t : Committing) (o : Object) → behind_by change t o → IsOfCommit t o
behind_of None t o r = relied_of t t.phase o r
behind_of (Some n) t o r = r

pub commit_there : (lane : ℕ) (t : CommitCommand) (v : View) (b : Books) (name : ObjName) (put : Put) → commit_facts lane t v b → met_in t.change t.build ≡ Some (name, put) → IsThere v.now name
commit_there lane t v b name put f met =
    let held = held_of lane t v b f in
    let m = held.met name put met in
    record {
      sum = subst (λ (n : ObjName). IsSum n.csum) m.2 (sum_of_object t.build m.0 (behind_of t.change t.build m.0 m.1));
      there = subst (λ (n : ObjName). v.now.at (path_of n) ≢ Absent) m.2 (held.there m.0 m.1);
    }
