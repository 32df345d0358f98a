-- How a run of steps begins and ends.
use Rattle.std.proofs.Common.{◌≡◌, inl, inr, ⊎_elim, ℕ, ◌≤◌, ◌+◌, arith, refl, sym, ◌∙◌, ap, subst, List, ◌∷◌, Ok, Err}
use Rattle.std.specs.Prelude.{Result}
use Rattle.ost_types.specs.declared.object.ObjName.{ObjName}
use Rattle.ost_types.specs.declared.limits.Limits.{Limits}
use Rattle.fs_trait.specs.declared.types.FsErr.{FsErr}
use Rattle.fs_trait.specs.declared.types.FsErr.TheVariants.{Failed, Exists, Missing, NotFolder, NotEmpty, NoMemory}
use Rattle.fs_trait.specs.declared.task.StepResult.TheVariants.{Done}
use Rattle.fs_trait.specs.View.{View}
use Rattle.fs_trait.specs.Seen.{Seen, Vacant, Directory, Symlink, Leaf, seen, shows, IsDirectory}
use Rattle.fs_trait.specs.Change.{Writes}
use Rattle.fs_trait.proofs.Effects.{may_now}
use Rattle.repo_layout.specs.Paths.{objects_folder_path}
use Rattle.repo_model.specs.Objects.{path_of}
use Rattle.tree_build.specs.Items.{IsTree, IsLeastBad}
use Rattle.tree_build.specs.Objects.{Object, work}
use Rattle.tree_build.specs.Building.{IsNumber}
use Rattle.obj_store.specs.Putting.{Putting}
use Rattle.obj_store.specs.declared.phase.Phase as putting
use Rattle.obj_store.specs.declared.phase.Phase.TheVariants as at
use Rattle.obj_store.specs.Steps as put
use Rattle.obj_store.specs.Steps.{IsLeaf}
use Rattle.commit_build.specs.declared.refusal.BuildRefusal.{BuildRefusal}
use Rattle.commit_build.specs.declared.refusal.BuildRefusal.TheVariants.{BadTree, TooMany}
use Rattle.commit_build.specs.declared.phase.Phase.{Phase}
use Rattle.commit_build.specs.declared.phase.Phase.TheVariants as phase
use Rattle.commit_build.specs.Committing.{Committing, IsMade, IsStepped, IsEnd, Links}
use Rattle.commit_build.specs.Steps.{Needs, needs_in, WritesOf, Tells, FullAt, IsThere, IsSure, Refuses, refuses_in}
use Rattle.commit_build.specs.Whole.{its_commit, IsOfCommit, Written, MayBegin, HasNoRoom, Ends, Stops}
use Rattle.commit_build.proofs.Mild.{stage_folder, object_folder, mark_folder}
use Rattle.commit_build.proofs.PutSteps.{needs_as, kept_as}
use Rattle.commit_build.proofs.Wholes.{IsSame, Runs, writes_on, of_work, same_commit, ended_sum, its_tree, has_whole}
use Rattle.commit_build.proofs.Counted.{Counts, more_of_put, more_of_commit}

-- a task may begin
pub needs_new : (t : Committing) (v : View) → MayBegin t v.now → Needs t v
needs_new t v may = record { made = may.made; homes = may.homes; meets = subst (λ f. needs_in f t v) (sym may.new) tt }

-- what is known of a run
pub record Known (t : Committing) (v : View) (first : ℕ) (u : Committing) (w : View) (count : ℕ) : Type 0 where
  pub runs : Runs t v u w
  pub counts : Counts t v first w count

-- at the last step all objects of the commit are there
sure_now : (w : View) (name : ObjName) → IsSure w name → IsThere w.now name
sure_now w name sure gone = sure.there (shows w.now (path_of name)) (may_now w (path_of name)) (ap (λ z. seen w.now z) gone)

-- why a put ends early
abbrev Stopped : Putting → View → FsErr → Type 0
Stopped q w Failed = Unit {0}
Stopped q w NoMemory = Unit {0}
Stopped q w NotFolder = IsLeaf (shows w.now (objects_folder_path q.name.csum))
Stopped q w e = ⊥

stopped : (q : Putting) (w : View) (ph : putting.Phase) (e : FsErr) → put.refuses_in ph q w e → Stopped q w e
stopped q w at.Look Failed r = tt
stopped q w at.Look NoMemory r = tt
stopped q w at.Look NotFolder r = absurd r
stopped q w at.Look Exists r = absurd r
stopped q w at.Look Missing r = absurd r
stopped q w at.Look NotEmpty r = absurd r
stopped q w at.Stage Failed r = tt
stopped q w at.Stage NoMemory r = tt
stopped q w at.Stage NotFolder r = absurd r
stopped q w at.Stage Exists r = absurd r
stopped q w at.Stage Missing r = absurd r
stopped q w at.Stage NotEmpty r = absurd r
stopped q w at.Folder Failed r = tt
stopped q w at.Folder NoMemory r = tt
stopped q w at.Folder NotFolder r = r
stopped q w at.Folder Exists r = absurd r
stopped q w at.Folder Missing r = absurd r
stopped q w at.Folder NotEmpty r = absurd r
stopped q w at.Link Failed r = tt
stopped q w at.Link NoMemory r = tt
stopped q w at.Link NotFolder r = absurd r
stopped q w at.Link Exists r = absurd r
stopped q w at.Link Missing r = absurd r
stopped q w at.Link NotEmpty r = absurd r
stopped q w (at.Unlink k) Failed r = tt
stopped q w (at.Unlink k) NoMemory r = tt
stopped q w (at.Unlink k) NotFolder r = absurd r
stopped q w (at.Unlink k) Exists r = absurd r
stopped q w (at.Unlink k) Missing r = absurd r
stopped q w (at.Unlink k) NotEmpty r = absurd r
stopped q w (at.Ended k) Failed r = tt
stopped q w (at.Ended k) NoMemory r = tt
stopped q w (at.Ended k) NotFolder r = absurd r
stopped q w (at.Ended k) Exists r = absurd r
stopped q w (at.Ended k) Missing r = absurd r
stopped q w (at.Ended k) NotEmpty r = absurd r

directory_leaf : (s : Seen) → IsDirectory s → IsLeaf s → ⊥
directory_leaf Vacant is leaf = is
directory_leaf (Directory m) is leaf = leaf
directory_leaf (Symlink m l) is leaf = is
directory_leaf (Leaf n m b) is leaf = is

module _ (t : Committing) (v : View) (u : Committing) (w : View) (needs : Needs u w) (runs : Runs t v u w) where
  tree_of : (ph : Phase) → u.phase ≡ ph → Links ph → IsTree t.items
  tree_of (phase.Put p) is links = subst IsTree runs.same.items (kept_as u needs.made (phase.Put p) is).0
  tree_of (phase.PutCommit p) is links = subst IsTree runs.same.items (kept_as u needs.made (phase.PutCommit p) is).0
  tree_of phase.Check is links = absurd links
  tree_of phase.Make is links = absurd links
  tree_of (phase.Made c) is links = absurd links
  tree_of phase.SyncObjects is links = absurd links
  tree_of phase.MakeCommit is links = absurd links
  tree_of (phase.SyncCommit sum) is links = absurd links
  tree_of (phase.Unmark sum) is links = absurd links
  tree_of (phase.SyncState sum) is links = absurd links
  tree_of (phase.Ended sum) is links = absurd links

  objects_there : (ph : Phase) → u.phase ≡ ph → (sum : List ℕ) → IsEnd ph sum → (o : Object) → IsOfCommit t o → IsThere w.now o.name
  objects_there (phase.SyncState s) is sum end o (inl n) = sure_now w o.name ((needs_as u w needs (phase.SyncState s) is).0.each n.0 o (subst (λ i. IsNumber (work i) n.0 o) (sym runs.same.items) n.1))
  objects_there (phase.SyncState s) is sum end o (inr e) =
      let name = (kept_as u needs.made (phase.SyncState s) is).1.name ∙ ap (λ (z : Object). z.name) (same_commit t v u w needs runs ∙ sym e) in
      sure_now w o.name (subst (IsSure w) name (needs_as u w needs (phase.SyncState s) is).1)
  objects_there (phase.Ended s) is sum end o (inl n) = sure_now w o.name ((needs_as u w needs (phase.Ended s) is).0.each n.0 o (subst (λ i. IsNumber (work i) n.0 o) (sym runs.same.items) n.1))
  objects_there (phase.Ended s) is sum end o (inr e) =
      let name = (kept_as u needs.made (phase.Ended s) is).1.name ∙ ap (λ (z : Object). z.name) (same_commit t v u w needs runs ∙ sym e) in
      sure_now w o.name (subst (IsSure w) name (needs_as u w needs (phase.Ended s) is).1)
  objects_there phase.Check is sum end o of = absurd end
  objects_there phase.Make is sum end o of = absurd end
  objects_there (phase.Made c) is sum end o of = absurd end
  objects_there (phase.Put q) is sum end o of = absurd end
  objects_there phase.SyncObjects is sum end o of = absurd end
  objects_there phase.MakeCommit is sum end o of = absurd end
  objects_there (phase.PutCommit q) is sum end o of = absurd end
  objects_there (phase.SyncCommit s) is sum end o of = absurd end
  objects_there (phase.Unmark s) is sum end o of = absurd end

  -- why it ends early
  folder_write : (sum : List ℕ) (s : Seen) → Written t v (objects_folder_path sum) s → IsDirectory s
  folder_write sum s (inl a) = absurd (stage_folder t.actor sum (sym a.0))
  folder_write sum s (inr (inl a)) = a.3
  folder_write sum s (inr (inr (inl a))) = absurd (object_folder a.0.name sum (sym a.2))
  folder_write sum s (inr (inr (inr a))) = absurd (mark_folder (its_commit t).name.csum sum (sym a.0))

  leaf_before : (o : Object) → IsOfCommit t o → (q : Putting) → q.name ≡ o.name → IsLeaf (shows w.now (objects_folder_path q.name.csum)) → Stops t v.now NotFolder
  leaf_before o of q same leaf =
      let here = subst (λ (n : ObjName). IsLeaf (shows w.now (objects_folder_path n.csum))) same leaf in (
        o,
        of,
        ⊎_elim
            (λ still. subst IsLeaf still here)
            (λ wrote. absurd (directory_leaf _ (folder_write o.name.csum _ wrote) here))
            (runs.writes.now (objects_folder_path o.name.csum)),
      )

  as_stopped : (o : Object) → IsOfCommit t o → (q : Putting) → q.name ≡ o.name → (e : FsErr) → Stopped q w e → Stops t v.now e
  as_stopped o of q same Failed r = tt
  as_stopped o of q same NoMemory r = tt
  as_stopped o of q same NotFolder r = leaf_before o of q same r
  as_stopped o of q same Exists r = absurd r
  as_stopped o of q same Missing r = absurd r
  as_stopped o of q same NotEmpty r = absurd r

  put_early : (q : Putting) (e : FsErr) → refuses_in (phase.Put q) w e → Stopped q w e
  put_early q Failed r = tt
  put_early q NoMemory r = tt
  put_early q NotFolder r = stopped q w q.phase NotFolder r
  put_early q Exists r = stopped q w q.phase Exists r
  put_early q Missing r = stopped q w q.phase Missing r
  put_early q NotEmpty r = stopped q w q.phase NotEmpty r

  commit_early : (q : Putting) (e : FsErr) → refuses_in (phase.PutCommit q) w e → Stopped q w e
  commit_early q Failed r = tt
  commit_early q NoMemory r = tt
  commit_early q NotFolder r = stopped q w q.phase NotFolder r
  commit_early q Exists r = stopped q w q.phase Exists r
  commit_early q Missing r = stopped q w q.phase Missing r
  commit_early q NotEmpty r = stopped q w q.phase NotEmpty r

  early : (ph : Phase) → u.phase ≡ ph → (e : FsErr) → refuses_in ph w e → Stops t v.now e
  early (phase.Put q) is e r =
      let last = (kept_as u needs.made (phase.Put q) is).1 in
      as_stopped last.object (of_work t v u w needs runs last.last.number last.object last.last.object) q last.puts.name e (put_early q e r)
  early (phase.PutCommit q) is e r =
      as_stopped _ (inr (same_commit t v u w needs runs)) q (kept_as u needs.made (phase.PutCommit q) is).2.name e (commit_early q e r)
  early phase.Check is Failed r = tt
  early phase.Check is NoMemory r = tt
  early phase.Check is NotFolder r = absurd r
  early phase.Check is Exists r = absurd r
  early phase.Check is Missing r = absurd r
  early phase.Check is NotEmpty r = absurd r
  early phase.Make is Failed r = tt
  early phase.Make is NoMemory r = tt
  early phase.Make is NotFolder r = absurd r
  early phase.Make is Exists r = absurd r
  early phase.Make is Missing r = absurd r
  early phase.Make is NotEmpty r = absurd r
  early (phase.Made c) is Failed r = tt
  early (phase.Made c) is NoMemory r = tt
  early (phase.Made c) is NotFolder r = absurd r
  early (phase.Made c) is Exists r = absurd r
  early (phase.Made c) is Missing r = absurd r
  early (phase.Made c) is NotEmpty r = absurd r
  early phase.SyncObjects is Failed r = tt
  early phase.SyncObjects is NoMemory r = tt
  early phase.SyncObjects is NotFolder r = absurd r
  early phase.SyncObjects is Exists r = absurd r
  early phase.SyncObjects is Missing r = absurd r
  early phase.SyncObjects is NotEmpty r = absurd r
  early phase.MakeCommit is Failed r = tt
  early phase.MakeCommit is NoMemory r = tt
  early phase.MakeCommit is NotFolder r = absurd r
  early phase.MakeCommit is Exists r = absurd r
  early phase.MakeCommit is Missing r = absurd r
  early phase.MakeCommit is NotEmpty r = absurd r
  early (phase.SyncCommit sum) is Failed r = tt
  early (phase.SyncCommit sum) is NoMemory r = tt
  early (phase.SyncCommit sum) is NotFolder r = absurd r
  early (phase.SyncCommit sum) is Exists r = absurd r
  early (phase.SyncCommit sum) is Missing r = absurd r
  early (phase.SyncCommit sum) is NotEmpty r = absurd r
  early (phase.Unmark sum) is Failed r = tt
  early (phase.Unmark sum) is NoMemory r = tt
  early (phase.Unmark sum) is NotFolder r = absurd r
  early (phase.Unmark sum) is Exists r = absurd r
  early (phase.Unmark sum) is Missing r = absurd r
  early (phase.Unmark sum) is NotEmpty r = absurd r
  early (phase.SyncState sum) is Failed r = tt
  early (phase.SyncState sum) is NoMemory r = tt
  early (phase.SyncState sum) is NotFolder r = absurd r
  early (phase.SyncState sum) is Exists r = absurd r
  early (phase.SyncState sum) is Missing r = absurd r
  early (phase.SyncState sum) is NotEmpty r = absurd r
  early (phase.Ended sum) is Failed r = tt
  early (phase.Ended sum) is NoMemory r = tt
  early (phase.Ended sum) is NotFolder r = absurd r
  early (phase.Ended sum) is Exists r = absurd r
  early (phase.Ended sum) is Missing r = absurd r
  early (phase.Ended sum) is NotEmpty r = absurd r

  pub stops : (e : FsErr) → Refuses u w e → Stops t v.now e
  stops e r = early u.phase refl e r

  module _ (first count : ℕ) (so_far : Counts t v first w count) where
    full : (ph : Phase) → u.phase ≡ ph → Links ph → FullAt ph w → u.limits.objects ≤ count → HasNoRoom t first v.now
    full (phase.Put p) is links gone many = record {
      names = p.name ∷ so_far.names;
      lacked = more_of_put t v first u w count needs runs so_far u.phase refl p is gone;
      full = (let before = so_far.is in let bound = ap (λ (l : Limits). l.objects) runs.same.limits in omega (arith, before, bound, many));
    }
    full (phase.PutCommit p) is links gone many = record {
      names = p.name ∷ so_far.names;
      lacked = more_of_commit t v first u w count needs runs so_far u.phase refl p is gone;
      full = (let before = so_far.is in let bound = ap (λ (l : Limits). l.objects) runs.same.limits in omega (arith, before, bound, many));
    }
    full phase.Check is links gone many = absurd links
    full phase.Make is links gone many = absurd links
    full (phase.Made c) is links gone many = absurd links
    full phase.SyncObjects is links gone many = absurd links
    full phase.MakeCommit is links gone many = absurd links
    full (phase.SyncCommit sum) is links gone many = absurd links
    full (phase.Unmark sum) is links gone many = absurd links
    full (phase.SyncState sum) is links gone many = absurd links
    full (phase.Ended sum) is links gone many = absurd links

    module _ (made : IsMade t) (x : View) (step : Writes (WritesOf u w) w x) where
      -- how it ends
      pub ends : (new : Committing) (answer : Result (List ℕ) BuildRefusal) → IsStepped {E = FsErr} count u (Ok (Done answer)) new → Tells count u new w x (Done answer) → Needs new x → Ends t first answer v x
      ends new (Ok sum) stepped tells next =
          let is : new.phase ≡ phase.Ended sum = ap (λ (y : Committing). y.phase) stepped.0 in
          let same : IsSame t new = record {
            actor = ap (λ (y : Committing). y.actor) stepped.0 ∙ runs.same.actor;
            items = ap (λ (y : Committing). y.items) stepped.0 ∙ runs.same.items;
            limits = ap (λ (y : Committing). y.limits) stepped.0 ∙ runs.same.limits;
            message = ap (λ (y : Committing). y.message) stepped.0 ∙ runs.same.message;
          } in
          let writes = writes_on t v u w needs runs x step in (
            ended_sum t v new x next same sum is writes,
            its_tree t v new x next same sum is writes,
            record {
              names = so_far.names;
              lacked = so_far.lacked;
              all = λ name l. so_far.all name l (subst (λ n. IsThere w.now n) l.is (objects_there u.phase refl sum stepped.1 l.object l.of));
              room = so_far.room;
            },
            has_whole t v new x next same sum is writes made,
          )
      ends new (Err (BadTree p)) stepped tells next = (subst (λ i. IsLeastBad i p) runs.same.items stepped.1.1, tells.1 ∙ runs.early stepped.1.0)
      ends new (Err (TooMany n)) stepped tells next = (
        stepped.1.2 ∙ ap (λ (l : Limits). l.objects + 1) runs.same.limits,
        tree_of u.phase refl stepped.1.0,
        full u.phase refl stepped.1.0 tells.0 stepped.1.1,
      )
