-- Where the view is told, and stands as the system keeps it, nothing that stands there refuses a commit.
use Rattle.std.proofs.Common.{◌≡◌, inl, inr, ℕ, refl, sym, subst, arith, List, take, Option, Some, None}
use Rattle.std.proofs.lemmas.List.{length-take}
use Rattle.std.proofs.lemmas.List.Elements.{All-take}
use Rattle.ost_types.specs.Csum.{hex_of, IsHexDigit}
use Rattle.ost_types.proofs.HexSums.{IsHexSum-hex_of}
use Rattle.ost_types.specs.declared.object.ObjName.{ObjName}
use Rattle.fs_trait.specs.declared.types.FsErr.{FsErr}
use Rattle.fs_trait.specs.declared.types.FsErr.TheVariants.{Failed, NoMemory, Exists, Missing, NotFolder, NotEmpty}
use Rattle.fs_trait.specs.View.{View}
use Rattle.fs_trait.specs.Image.{IsTree}
use Rattle.fs_trait.specs.Effect.{OfNone}
use Rattle.fs_trait.specs.Seen.{Seen, Vacant, Directory, Symlink, Leaf, shows}
use Rattle.fs_trait.proofs.Effects.{may_now}
use Rattle.repo_layout.specs.Paths.{objects_folder_path}
use Rattle.repo_layout.specs.RefFile.{IsSum}
use Rattle.layout_rules.specs.declared.many.Many.TheVariants.{Objects}
use Rattle.layout_rules.specs.declared.rule.Rule.TheVariants.{FolderOrNothing}
use Rattle.layout_rules.specs.Checks.{IsFor}
use Rattle.layout_rules.specs.InLayout.{SuitsSeen}
use Rattle.obj_store.specs.declared.phase.Phase as putting
use Rattle.obj_store.specs.declared.phase.Phase.TheVariants as at
use Rattle.obj_store.specs.Putting.{Putting}
use Rattle.obj_store.specs.Steps as put
use Rattle.obj_store.specs.Steps.{IsLeaf}
use Rattle.tree_build.specs.Objects.{Object}
use Rattle.commit_build.specs.declared.phase.Phase.{Phase}
use Rattle.commit_build.specs.declared.phase.Phase.TheVariants as phase
use Rattle.commit_build.specs.Committing.{Committing, Puts, commit_in}
use Rattle.commit_build.specs.Steps.{Needs, refuses_in}
use Rattle.commit_build.specs.Whole.{its_commit, IsOfCommit}
use Rattle.commit_build.proofs.PutSteps.{kept_as}
use Rattle.commit_build.proofs.Wholes.{of_commit_sum}
use Rattle.rely_guarantee.specs.declared.books.Entry.{Entry}
use Rattle.rely_guarantee.specs.declared.books.Pending.{Pending}
use Rattle.rely_guarantee.specs.State.{SystemState}
use Rattle.rely_guarantee.specs.Books.{Books}
use Rattle.rely_guarantee.specs.SystemInvariant.{Stands}
use Rattle.ref_command.proofs.Refusals.{change_refused}
use Rattle.commit_command.specs.declared.naming.Naming.{Naming}
use Rattle.commit_command.specs.declared.command.CommitCommand.{CommitCommand}
use Rattle.commit_command.specs.Kinds.{refuses_at, refuses_by, commit_refuses}
use Rattle.commit_command.specs.Facts.{facts_by, commit_facts}

module _ (v : View) (no_leaf_there : (sum : List ℕ) → IsSum sum → IsLeaf (shows v.now (objects_folder_path sum)) → ⊥) where
  put_refused : (t : Putting) (ph : putting.Phase) → IsSum t.name.csum → (e : FsErr) → put.refuses_in ph t v e → OfNone e
  put_refused t at.Look is Failed why = tt
  put_refused t at.Look is NoMemory why = tt
  put_refused t at.Look is Exists why = absurd why
  put_refused t at.Look is Missing why = absurd why
  put_refused t at.Look is NotFolder why = absurd why
  put_refused t at.Look is NotEmpty why = absurd why
  put_refused t at.Stage is Failed why = tt
  put_refused t at.Stage is NoMemory why = tt
  put_refused t at.Stage is Exists why = absurd why
  put_refused t at.Stage is Missing why = absurd why
  put_refused t at.Stage is NotFolder why = absurd why
  put_refused t at.Stage is NotEmpty why = absurd why
  put_refused t at.Folder is Failed why = tt
  put_refused t at.Folder is NoMemory why = tt
  put_refused t at.Folder is Exists why = absurd why
  put_refused t at.Folder is Missing why = absurd why
  put_refused t at.Folder is NotFolder why = absurd (no_leaf_there t.name.csum is why)
  put_refused t at.Folder is NotEmpty why = absurd why
  put_refused t at.Link is Failed why = tt
  put_refused t at.Link is NoMemory why = tt
  put_refused t at.Link is Exists why = absurd why
  put_refused t at.Link is Missing why = absurd why
  put_refused t at.Link is NotFolder why = absurd why
  put_refused t at.Link is NotEmpty why = absurd why
  put_refused t (at.Unlink k) is Failed why = tt
  put_refused t (at.Unlink k) is NoMemory why = tt
  put_refused t (at.Unlink k) is Exists why = absurd why
  put_refused t (at.Unlink k) is Missing why = absurd why
  put_refused t (at.Unlink k) is NotFolder why = absurd why
  put_refused t (at.Unlink k) is NotEmpty why = absurd why
  put_refused t (at.Ended k) is Failed why = tt
  put_refused t (at.Ended k) is NoMemory why = tt
  put_refused t (at.Ended k) is Exists why = absurd why
  put_refused t (at.Ended k) is Missing why = absurd why
  put_refused t (at.Ended k) is NotFolder why = absurd why
  put_refused t (at.Ended k) is NotEmpty why = absurd why

  put_of : (t : Committing) (o : Object) → IsOfCommit t o → (p : Putting) → Puts t.actor o p → (e : FsErr) → put.Refuses p v e → OfNone e
  put_of t o of p puts e why = put_refused p p.phase (subst (λ (n : ObjName). IsSum n.csum) (sym puts.name) (of_commit_sum t o of)) e why

  refused : (t : Committing) → Needs t v → (ph : Phase) → t.phase ≡ ph → (e : FsErr) → refuses_in ph v e → OfNone e
  refused t needs phase.Check is Failed why = tt
  refused t needs phase.Check is NoMemory why = tt
  refused t needs phase.Check is Exists why = absurd why
  refused t needs phase.Check is Missing why = absurd why
  refused t needs phase.Check is NotFolder why = absurd why
  refused t needs phase.Check is NotEmpty why = absurd why
  refused t needs phase.Make is Failed why = tt
  refused t needs phase.Make is NoMemory why = tt
  refused t needs phase.Make is Exists why = absurd why
  refused t needs phase.Make is Missing why = absurd why
  refused t needs phase.Make is NotFolder why = absurd why
  refused t needs phase.Make is NotEmpty why = absurd why
  refused t needs (phase.Made c) is Failed why = tt
  refused t needs (phase.Made c) is NoMemory why = tt
  refused t needs (phase.Made c) is Exists why = absurd why
  refused t needs (phase.Made c) is Missing why = absurd why
  refused t needs (phase.Made c) is NotFolder why = absurd why
  refused t needs (phase.Made c) is NotEmpty why = absurd why
  refused t needs (phase.Put p) is Failed why = tt
  refused t needs (phase.Put p) is NoMemory why = tt
  refused t needs (phase.Put p) is Exists why = put_of t (kept_as t needs.made (phase.Put p) is).1.object (inl ((kept_as t needs.made (phase.Put p) is).1.last.number, (kept_as t needs.made (phase.Put p) is).1.last.object)) p (kept_as t needs.made (phase.Put p) is).1.puts Exists why
  refused t needs (phase.Put p) is Missing why = put_of t (kept_as t needs.made (phase.Put p) is).1.object (inl ((kept_as t needs.made (phase.Put p) is).1.last.number, (kept_as t needs.made (phase.Put p) is).1.last.object)) p (kept_as t needs.made (phase.Put p) is).1.puts Missing why
  refused t needs (phase.Put p) is NotFolder why = put_of t (kept_as t needs.made (phase.Put p) is).1.object (inl ((kept_as t needs.made (phase.Put p) is).1.last.number, (kept_as t needs.made (phase.Put p) is).1.last.object)) p (kept_as t needs.made (phase.Put p) is).1.puts NotFolder why
  refused t needs (phase.Put p) is NotEmpty why = put_of t (kept_as t needs.made (phase.Put p) is).1.object (inl ((kept_as t needs.made (phase.Put p) is).1.last.number, (kept_as t needs.made (phase.Put p) is).1.last.object)) p (kept_as t needs.made (phase.Put p) is).1.puts NotEmpty why
  refused t needs phase.SyncObjects is Failed why = tt
  refused t needs phase.SyncObjects is NoMemory why = tt
  refused t needs phase.SyncObjects is Exists why = absurd why
  refused t needs phase.SyncObjects is Missing why = absurd why
  refused t needs phase.SyncObjects is NotFolder why = absurd why
  refused t needs phase.SyncObjects is NotEmpty why = absurd why
  refused t needs phase.MakeCommit is Failed why = tt
  refused t needs phase.MakeCommit is NoMemory why = tt
  refused t needs phase.MakeCommit is Exists why = absurd why
  refused t needs phase.MakeCommit is Missing why = absurd why
  refused t needs phase.MakeCommit is NotFolder why = absurd why
  refused t needs phase.MakeCommit is NotEmpty why = absurd why
  refused t needs (phase.PutCommit p) is Failed why = tt
  refused t needs (phase.PutCommit p) is NoMemory why = tt
  refused t needs (phase.PutCommit p) is Exists why = put_of t (its_commit t) (inr refl) p (kept_as t needs.made (phase.PutCommit p) is).2 Exists why
  refused t needs (phase.PutCommit p) is Missing why = put_of t (its_commit t) (inr refl) p (kept_as t needs.made (phase.PutCommit p) is).2 Missing why
  refused t needs (phase.PutCommit p) is NotFolder why = put_of t (its_commit t) (inr refl) p (kept_as t needs.made (phase.PutCommit p) is).2 NotFolder why
  refused t needs (phase.PutCommit p) is NotEmpty why = put_of t (its_commit t) (inr refl) p (kept_as t needs.made (phase.PutCommit p) is).2 NotEmpty why
  refused t needs (phase.SyncCommit c) is Failed why = tt
  refused t needs (phase.SyncCommit c) is NoMemory why = tt
  refused t needs (phase.SyncCommit c) is Exists why = absurd why
  refused t needs (phase.SyncCommit c) is Missing why = absurd why
  refused t needs (phase.SyncCommit c) is NotFolder why = absurd why
  refused t needs (phase.SyncCommit c) is NotEmpty why = absurd why
  refused t needs (phase.Unmark c) is Failed why = tt
  refused t needs (phase.Unmark c) is NoMemory why = tt
  refused t needs (phase.Unmark c) is Exists why = absurd why
  refused t needs (phase.Unmark c) is Missing why = absurd why
  refused t needs (phase.Unmark c) is NotFolder why = absurd why
  refused t needs (phase.Unmark c) is NotEmpty why = absurd why
  refused t needs (phase.SyncState c) is Failed why = tt
  refused t needs (phase.SyncState c) is NoMemory why = tt
  refused t needs (phase.SyncState c) is Exists why = absurd why
  refused t needs (phase.SyncState c) is Missing why = absurd why
  refused t needs (phase.SyncState c) is NotFolder why = absurd why
  refused t needs (phase.SyncState c) is NotEmpty why = absurd why
  refused t needs (phase.Ended c) is Failed why = tt
  refused t needs (phase.Ended c) is NoMemory why = tt
  refused t needs (phase.Ended c) is Exists why = absurd why
  refused t needs (phase.Ended c) is Missing why = absurd why
  refused t needs (phase.Ended c) is NotFolder why = absurd why
  refused t needs (phase.Ended c) is NotEmpty why = absurd why

  refused_at : (c : Option (List ℕ)) (t : CommitCommand) → Needs t.build v → (e : FsErr) → refuses_at c t v e → OfNone e
  refused_at None t needs e why = refused t.build needs t.build.phase refl e why
  refused_at (Some commit) t needs e why = why

-- a folder of objects is a folder, or nothing stands there
is_folder_of : (sum : List ℕ) → IsSum sum → IsFor FolderOrNothing (objects_folder_path sum)
unfolding objects_folder_path
is_folder_of sum is =
    let hex = IsHexSum-hex_of sum is.whole is.bytes in
    inr (Objects, (refl, (take 2 (hex_of sum), record { two = omega (arith, length-take 2 (hex_of sum), hex.whole); digits = All-take IsHexDigit 2 (hex_of sum) hex.digits }, refl)))

leaf_unsuited : (s : Seen) → SuitsSeen FolderOrNothing s → IsLeaf s → ⊥
leaf_unsuited (Symlink m l) suits leaf = suits
leaf_unsuited (Leaf n m b) suits leaf = suits
leaf_unsuited Vacant suits leaf = leaf
leaf_unsuited (Directory m) suits leaf = leaf

no_leaf : (start : SystemState) (entries : List Entry) (pending : Option Pending) (v : View) → Stands start entries pending v → (sum : List ℕ) → IsSum sum → IsLeaf (shows v.now (objects_folder_path sum)) → ⊥
no_leaf start entries pending v stands sum is leaf =
    leaf_unsuited _ (stands.kinds (objects_folder_path sum) _ (may_now v (objects_folder_path sum)) FolderOrNothing (is_folder_of sum is)) leaf

refused_by : (o : Option Naming) (start : SystemState) (entries : List Entry) (pending : Option Pending) (lane : ℕ) (v : View) (b : Books) (t : CommitCommand) (e : FsErr) → IsTree v.now → Stands start entries pending v → facts_by o lane t v b → refuses_by o t v e
    → OfNone e
refused_by None start entries pending lane v b t e tree stands f why = refused_at v (no_leaf start entries pending v stands) (commit_in t.build.phase) t f.needs e why
refused_by (Some n) start entries pending lane v b t e tree stands f why = change_refused start entries pending v n.work.task e tree stands f.ref.needs why

pub refused_of : (start : SystemState) (entries : List Entry) (pending : Option Pending) (lane : ℕ) (v : View) (b : Books) (t : CommitCommand) (e : FsErr) → IsTree v.now → Stands start entries pending v → commit_facts lane t v b → commit_refuses t v e
    → OfNone e
refused_of start entries pending lane v b t e tree stands f why = refused_by t.change start entries pending lane v b t e tree stands f why
