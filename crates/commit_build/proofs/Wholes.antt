-- A run of steps, from the beginning.
use Rattle.std.proofs.Common.{◌≡◌, ◌≢◌, ◌⊎◌, inl, inr, ⊎_elim, ℕ, true, false, refl, sym, ◌∙◌, ap, subst, List, Some, None, Ok}
use Rattle.ost_types.specs.declared.object.Kind.{Kind}
use Rattle.ost_types.specs.declared.object.ObjName.{ObjName}
use Rattle.ost_types.specs.Path.{Path}
use Rattle.fs_trait.specs.declared.types.Value.{Value}
use Rattle.fs_trait.specs.declared.types.Value.TheVariants as value
use Rattle.fs_trait.specs.declared.task.StepResult.TheVariants.{More}
use Rattle.fs_trait.specs.View.{Disk, View}
use Rattle.fs_trait.specs.Image.{Image, EachImage}
use Rattle.fs_trait.specs.Seen.{Seen, Vacant, seen, shows, MayBe, IsDirectory}
use Rattle.fs_trait.specs.Change.{Writes}
use Rattle.fs_trait.proofs.Kept.{then_writes, weaker}
use Rattle.fs_trait.proofs.Claims.{Image-may, Image-under, Image-folder}
use Rattle.repo_layout.specs.Paths.{objects_folder_path, stage_path, mark_path}
use Rattle.repo_layout.specs.Refs.{is_leaf}
use Rattle.repo_layout.specs.RefFile.{IsSum}
use Rattle.repo_model.specs.Objects.{Stores, object_in, path_of}
use Rattle.repo_model.proofs.Named.{IsSum-named}
use Rattle.repo_model.proofs.Stored.{stores_map}
use Rattle.ost_objects.specs.Object.{IsNamed}
use Rattle.tree_build.specs.Items.{IsTree}
use Rattle.tree_build.specs.Objects.{Object, work}
use Rattle.tree_build.specs.Building.{IsNumber}
use Rattle.tree_build.specs.Commits.{HasTree, CommitsTree}
use Rattle.tree_build.proofs.Shown.{complete, shows_same}
use Rattle.obj_store.specs.Putting.{Putting, IsObject}
use Rattle.obj_store.specs.Steps as put
use Rattle.obj_store.proofs.PlaceLemmas.{one_name}
use Rattle.obj_store.proofs.Stable.{put_lies}
use Rattle.commit_build.specs.declared.phase.Phase.{Phase}
use Rattle.commit_build.specs.declared.phase.Phase.TheVariants as phase
use Rattle.commit_build.specs.Committing.{Committing, IsMade, IsStepped, Follows, Puts, ReadsBack, commit_of, parts_of, named_commit}
use Rattle.commit_build.specs.Steps.{Needs, WritesOf, writes_in, IsThere, IsSure, AreSure, NotLeaf}
use Rattle.commit_build.specs.Whole.{its_commit, IsOfCommit, Written, Leaves, IsRight, HasWhole}
use Rattle.commit_build.proofs.Named.{work_named, work_plain}
use Rattle.commit_build.proofs.Mild.{Mild, mild_put, mild_mark, sure_kept, stage_object, stage_folder, mark_object, mark_folder, object_folder}
use Rattle.commit_build.proofs.Synced.{object_under}
use Rattle.commit_build.proofs.PutSteps.{needs_as, kept_as}

-- who commits what stays
pub record IsSame (t u : Committing) : Type 0 where
  pub actor : u.actor ≡ t.actor
  pub items : u.items ≡ t.items
  pub limits : u.limits ≡ t.limits
  pub message : u.message ≡ t.message

pub IsSame-refl : (t : Committing) → IsSame t t
IsSame-refl t = record { actor = refl; items = refl; limits = refl; message = refl }

pub IsSame-trans : (t u x : Committing) → IsSame t u → IsSame u x → IsSame t x
IsSame-trans t u x a b = record { actor = b.actor ∙ a.actor; items = b.items ∙ a.items; limits = b.limits ∙ a.limits; message = b.message ∙ a.message }

pub same_more : (E : Type 0) (count : ℕ) (u new : Committing) → IsStepped {E = E} count u (Ok More) new → IsSame u new
same_more E count u new s = record {
  actor = ap (λ (x : Committing). x.actor) s.0;
  items = ap (λ (x : Committing). x.items) s.0;
  limits = ap (λ (x : Committing). x.limits) s.0;
  message = ap (λ (x : Committing). x.message) s.0;
}

-- an object that is sure to be there is there in each image
pub sure_image : (w : View) (name : ObjName) → IsSure w name → (d : Disk) → Image w d → MayBe w (path_of name) (shows d (path_of name)) × (shows d (path_of name) ≢ Vacant)
sure_image w name sure d i =
    let may = subst (λ q. MayBe w q (shows d q)) (sym (object_under name)) (Image-under w d i (objects_folder_path name.csum) _ (Image-folder w d i (objects_folder_path name.csum) sure.above)) in
    (may, sure.there _ may)

pub sure_there : (w : View) (name : ObjName) → IsSure w name → (d : Disk) → Image w d → IsThere d name
sure_there w name sure d i gone = (sure_image w name sure d i).1 (ap (seen d) gone)

leaf_shown : (d : Disk) (z : Value) → is_leaf z ≡ true → NotLeaf (seen d z) → ⊥
leaf_shown d value.Absent leaf none = let n : false ≡ true = leaf in cc
leaf_shown d (value.Folder m) leaf none = let n : false ≡ true = leaf in cc
leaf_shown d (value.Link m t) leaf none = none
leaf_shown d (value.File n) leaf none = none

directory_there : (s : Seen) → IsDirectory s → s ≢ Vacant
directory_there s is e = subst IsDirectory e is

object_there : (k : Kind) (s : Seen) (b : List ℕ) → object_in k s ≡ Some b → s ≢ Vacant
object_there k s b is e = let n : None ≡ Some b = sym (ap (object_in k) e) ∙ is in cc

pub of_commit_named : (t : Committing) (o : Object) → IsOfCommit t o → IsNamed o.name o.bytes
of_commit_named t o (inl n) = work_named t.items n.0 o n.1
of_commit_named t o (inr e) = subst (λ (x : Object). IsNamed x.name x.bytes) (sym e) refl

pub of_commit_sum : (t : Committing) (o : Object) → IsOfCommit t o → IsSum o.name.csum
of_commit_sum t o of = IsSum-named o.name o.bytes (of_commit_named t o of)

module _ (t : Committing) (v : View) where
  commit_sum : IsSum (its_commit t).name.csum
  commit_sum = of_commit_sum t (its_commit t) (inr refl)

  -- what is written at an object's path
  at_object : (name : ObjName) → IsSum name.csum → (s : Seen) → Written t v (path_of name) s
      → (o : Object) × IsOfCommit t o × (o.name ≡ name) × (object_in name.kind s ≡ Some o.bytes) × (shows v.now (path_of name) ≡ Vacant)
  at_object name is s (inl a) = absurd (stage_object t.actor name (sym a.0))
  at_object name is s (inr (inl a)) = absurd (object_folder name a.0.name.csum a.2)
  at_object name is s (inr (inr (inl a))) =
      let same : a.0.name ≡ name = sym (one_name name a.0.name is (of_commit_sum t a.0 a.1) a.2) in
      (a.0, a.1, same, subst (λ (n : ObjName). object_in n.kind s ≡ Some a.0.bytes) same a.3, a.4)
  at_object name is s (inr (inr (inr a))) = absurd (mark_object (its_commit t).name.csum name (sym a.0))

  -- at a folder of objects
  pub at_folder : (sum : List ℕ) (s : Seen) → Written t v (objects_folder_path sum) s → shows v.now (objects_folder_path sum) ≡ Vacant
  at_folder sum s (inl a) = absurd (stage_folder t.actor sum (sym a.0))
  at_folder sum s (inr (inl a)) = a.4
  at_folder sum s (inr (inr (inl a))) = a.4
  at_folder sum s (inr (inr (inr a))) = absurd (mark_folder (its_commit t).name.csum sum (sym a.0))

  pub folder_vacant : (w : View) → Writes (Written t v) v w → (sum : List ℕ) → shows w.now (objects_folder_path sum) ≡ Vacant → shows v.now (objects_folder_path sum) ≡ Vacant
  folder_vacant w writes sum vacant = ⊎_elim (λ same. sym same ∙ vacant) (λ a. at_folder sum _ a) (writes.now (objects_folder_path sum))

  pub object_vacant : (w : View) → Writes (Written t v) v w → (name : ObjName) → IsSum name.csum → shows w.now (path_of name) ≡ Vacant → shows v.now (path_of name) ≡ Vacant
  object_vacant w writes name is vacant = ⊎_elim (λ same. sym same ∙ vacant) (λ a. (at_object name is _ a).4) (writes.now (path_of name))

  -- What is known so far.
  pub record Runs (u : Committing) (w : View) : Type 0 where
    pub same : IsSame t u
    pub early : u.phase ≡ phase.Check → w ≡ v
    pub writes : Writes (Written t v) v w
    pub children : (s : Seen) → MayBe w (path_of (its_commit t).name) s → MayBe v (path_of (its_commit t).name) s ⊎ AreSure t.items w

  pub runs_from : Runs t v
  runs_from = record {
    same = IsSame-refl t;
    early = λ is. refl;
    writes = record { only = λ p s may. inl may; now = λ p. inl refl };
    children = λ s may. inl may;
  }

  -- each image of each moment
  pub leaves_each : (w : View) → Writes (Written t v) v w → ((s : Seen) → MayBe w (path_of (its_commit t).name) s → MayBe v (path_of (its_commit t).name) s ⊎ AreSure t.items w) → EachImage w (Leaves t v)
  leaves_each w writes children d i = record {
    each = λ p. ⊎_elim (λ may. ⊎_elim (λ was. inr (inl was)) (λ wrote. inr (inr wrote)) (writes.only p _ may)) (λ none. inl none) (Image-may w d i p);
    objects = λ name is. ⊎_elim
        (λ may. ⊎_elim
        (λ was. inr (inl was))
        (λ wrote. let at = at_object name is _ wrote in
        inr (inr (at.0, at.1, at.2, record { there = at.3; named = subst (λ n. IsNamed n at.0.bytes) at.2 (of_commit_named t at.0 at.1) })))
        (writes.only (path_of name) _ may))
        (λ none. inl none)
        (Image-may w d i (path_of name));
    children = ⊎_elim
        (λ may. ⊎_elim (λ was. inr (inl was)) (λ sure. inr (inr (λ n o number. sure_there w o.name (sure.each n o number) d i))) (children _ may))
        (λ none. inl none)
        (Image-may w d i (path_of (its_commit t).name));
  }

  module _ (u : Committing) (w : View) (needs : Needs u w) (runs : Runs u w) where
    pub same_commit : commit_of u.items u.message ≡ its_commit t
    same_commit = ap (λ i. commit_of i u.message) runs.same.items ∙ ap (commit_of t.items) runs.same.message

    pub of_work : (n : ℕ) (o : Object) → IsNumber (work u.items) n o → IsOfCommit t o
    of_work n o number = inl (n, subst (λ i. IsNumber (work i) n o) runs.same.items number)

    -- a step of a put writes what all may write
    put_part : (o : Object) → IsOfCommit t o → (q : Putting) → put.Needs q w → Puts u.actor o q → (p : Path) (s : Seen) → put.WritesOf q w p s → Written t v p s
    put_part o of q has puts p s wrote =
        let lies = put_lies q w has p s wrote in
        let actor : q.actor ≡ t.actor = puts.by ∙ runs.same.actor in
        let sum : q.name.csum ≡ o.name.csum = ap (λ (n : ObjName). n.csum) puts.name in
        ⊎_elim
        (λ a. inl (a.0 ∙ ap stage_path actor, a.1))
        (λ b. ⊎_elim
        (λ a. let at : p ≡ objects_folder_path o.name.csum = a.0 ∙ ap objects_folder_path sum in
        inr (inl (o, of, at, a.1, subst (λ x. shows v.now x ≡ Vacant) (sym at) (folder_vacant w runs.writes o.name.csum (subst (λ x. shows w.now x ≡ Vacant) at a.2)))))
        (λ a. let at : p ≡ path_of o.name = a.0 ∙ ap path_of puts.name in
        let is : object_in q.name.kind s ≡ Some o.bytes = a.1 o.bytes (subst (λ n. IsObject n o.bytes q.source) (sym puts.name) puts.object) in
        inr (inr (inl (
          o,
          of,
          at,
          subst (λ (n : ObjName). object_in n.kind s ≡ Some o.bytes) puts.name is,
          subst (λ x. shows v.now x ≡ Vacant) (sym at) (object_vacant w runs.writes o.name (of_commit_sum t o of) (subst (λ x. shows w.now x ≡ Vacant) at a.3)),
        ))))
        b)
        lies.place

    part : (ph : Phase) → u.phase ≡ ph → (p : Path) (s : Seen) → writes_in ph w p s → Written t v p s
    part phase.Check is p s a = absurd a
    part phase.Make is p s a = absurd a
    part (phase.Made c) is p s a = absurd a
    part (phase.Put q) is p s a =
        let last = (kept_as u needs.made (phase.Put q) is).1 in
        put_part last.object (of_work last.last.number last.object last.last.object) q (needs_as u w needs (phase.Put q) is).0 last.puts p s a
    part phase.SyncObjects is p s a = absurd a
    part phase.MakeCommit is p s a = absurd a
    part (phase.PutCommit q) is p s a =
        put_part (commit_of u.items u.message) (inr same_commit) q (needs_as u w needs (phase.PutCommit q) is).0 (kept_as u needs.made (phase.PutCommit q) is).2 p s a
    part (phase.SyncCommit sum) is p s a = absurd a
    part (phase.Unmark sum) is p s a =
        let name = (kept_as u needs.made (phase.Unmark sum) is).1.name in
        inr (inr (inr (a.0 ∙ ap mark_path (ap (λ (n : ObjName). n.csum) name ∙ ap (λ (o : Object). o.name.csum) same_commit), a.1)))
    part (phase.SyncState sum) is p s a = absurd a
    part (phase.Ended sum) is p s a = absurd a

    pub mild : (ph : Phase) → u.phase ≡ ph → (p : Path) (s : Seen) → writes_in ph w p s → Mild u.actor p s
    mild phase.Check is p s a = absurd a
    mild phase.Make is p s a = absurd a
    mild (phase.Made c) is p s a = absurd a
    mild (phase.Put q) is p s a = mild_put u.actor q w (kept_as u needs.made (phase.Put q) is).1.puts.by (needs_as u w needs (phase.Put q) is).0 p s a
    mild phase.SyncObjects is p s a = absurd a
    mild phase.MakeCommit is p s a = absurd a
    mild (phase.PutCommit q) is p s a = mild_put u.actor q w (kept_as u needs.made (phase.PutCommit q) is).2.by (needs_as u w needs (phase.PutCommit q) is).0 p s a
    mild (phase.SyncCommit sum) is p s a = absurd a
    mild (phase.Unmark sum) is p s a = mild_mark u.actor p s sum a.0
    mild (phase.SyncState sum) is p s a = absurd a
    mild (phase.Ended sum) is p s a = absurd a

    module _ (x : View) (step : Writes (WritesOf u w) w x) where
      pub writes_on : Writes (Written t v) v x
      writes_on = weaker _ (Written t v) v x (λ p s both. ⊎_elim (λ a. a) (part u.phase refl p s) both) (then_writes (Written t v) (WritesOf u w) v w x runs.writes step)

      sure_on : AreSure t.items w → AreSure t.items x
      sure_on sure = record { each = λ n o number. sure_kept u.actor (WritesOf u w) (mild u.phase refl) w x step o.name (sure.each n o number) }

      -- the commit is written only where all objects of its tree are sure
      commit_part : (ph : Phase) → u.phase ≡ ph → (s : Seen) → writes_in ph w (path_of (its_commit t).name) s → AreSure t.items w
      commit_part phase.Check is s a = absurd a
      commit_part phase.Make is s a = absurd a
      commit_part (phase.Made c) is s a = absurd a
      commit_part (phase.Put q) is s a =
          let last = (kept_as u needs.made (phase.Put q) is).1 in
          let of = of_work last.last.number last.object last.last.object in
          let lies = put_lies q w (needs_as u w needs (phase.Put q) is).0 (path_of (its_commit t).name) s a in
          absurd (⊎_elim
          (λ b. stage_object q.actor (its_commit t).name (sym b.0))
          (λ c. ⊎_elim
          (λ b. object_folder (its_commit t).name q.name.csum b.0)
          (λ b. work_plain t.items last.last.number last.object (subst (λ i. IsNumber (work i) last.last.number last.object) runs.same.items last.last.object)
          (ap (λ (n : ObjName). n.kind) (sym (one_name (its_commit t).name last.object.name commit_sum (of_commit_sum t last.object of) (b.0 ∙ ap path_of last.puts.name)))))
          c)
          lies.place)
      commit_part phase.SyncObjects is s a = absurd a
      commit_part phase.MakeCommit is s a = absurd a
      commit_part (phase.PutCommit q) is s a = subst (λ i. AreSure i w) runs.same.items (needs_as u w needs (phase.PutCommit q) is).1
      commit_part (phase.SyncCommit sum) is s a = absurd a
      commit_part (phase.Unmark sum) is s a = absurd (mark_object sum (its_commit t).name (sym a.0))
      commit_part (phase.SyncState sum) is s a = absurd a
      commit_part (phase.Ended sum) is s a = absurd a

      pub children_on : (s : Seen) → MayBe x (path_of (its_commit t).name) s → MayBe v (path_of (its_commit t).name) s ⊎ AreSure t.items x
      children_on s may = ⊎_elim
          (λ was. ⊎_elim (λ old. inl old) (λ sure. inr (sure_on sure)) (runs.children s was))
          (λ wrote. inr (sure_on (commit_part u.phase refl s wrote)))
          (step.only (path_of (its_commit t).name) s may)

      pub each_image : EachImage x (Leaves t v)
      each_image = leaves_each x writes_on children_on

      not_check : (last next : Phase) (made : ℕ) → (met : _) → Follows u last next made met → next ≡ phase.Check → ⊥
      not_check last next made met follows e = no_check last (subst (λ n. Follows u last n made met) e follows)
        where
          no_check : (last : Phase) → Follows u last phase.Check made met → ⊥
          no_check phase.Check f = f
          no_check phase.Make f = f
          no_check (phase.Made c) f = f
          no_check (phase.Put q) f = f
          no_check phase.SyncObjects f = f
          no_check phase.MakeCommit f = f
          no_check (phase.PutCommit q) f = f
          no_check (phase.SyncCommit sum) f = f
          no_check (phase.Unmark sum) f = f
          no_check (phase.SyncState sum) f = f
          no_check (phase.Ended sum) f = f

      pub goes : (E : Type 0) (count : ℕ) (new : Committing) → IsStepped {E = E} count u (Ok More) new → Runs new x
      goes E count new s = record {
        same = IsSame-trans t u new runs.same (same_more E count u new s);
        early = λ is. absurd (not_check u.phase new.phase new.made new.met s.1 is);
        writes = writes_on;
        children = children_on;
      }

  -- once it ended, each crash leaves the commit
  module _ (u : Committing) (x : View) (needs : Needs u x) (same : IsSame t u) (sum : List ℕ) (is : u.phase ≡ phase.Ended sum) (writes : Writes (Written t v) v x) where
    ended_commit : commit_of u.items u.message ≡ its_commit t
    ended_commit = ap (λ i. commit_of i u.message) same.items ∙ ap (commit_of t.items) same.message

    ended_name : named_commit sum ≡ (its_commit t).name
    ended_name = (kept_as u needs.made (phase.Ended sum) is).1.name ∙ ap (λ (o : Object). o.name) ended_commit

    pub ended_sum : sum ≡ (its_commit t).name.csum
    ended_sum = ap (λ (n : ObjName). n.csum) ended_name

    pub is_sure : (o : Object) → IsOfCommit t o → IsSure x o.name
    is_sure o (inl n) = (needs_as u x needs (phase.Ended sum) is).0.each n.0 o (subst (λ i. IsNumber (work i) n.0 o) (sym same.items) n.1)
    is_sure o (inr e) = subst (IsSure x) (ended_name ∙ ap (λ (o : Object). o.name) (sym e)) (needs_as u x needs (phase.Ended sum) is).1

    its_reads : ReadsBack t.items t.message
    its_reads = subst (λ m. ReadsBack t.items m) same.message (subst (λ i. ReadsBack i u.message) same.items (kept_as u needs.made (phase.Ended sum) is).1.reads)

    pub its_tree : IsTree t.items
    its_tree = subst IsTree same.items (kept_as u needs.made (phase.Ended sum) is).0

    -- an object of the commit is on each disk that a crash leaves
    module _ (right : IsRight t v) (d : Disk) (i : Image x d) where
      has_object : (o : Object) → IsOfCommit t o → Stores d o.name o.bytes
      has_object o of =
          let here = sure_image x o.name (is_sure o of) d i in
          record {
            there = ⊎_elim
                (λ was. right.each o of _ was here.1)
                (λ wrote. let at = at_object o.name (of_commit_sum t o of) _ wrote in at.3 ∙ ap Some (right.alone at.0 o at.1 of at.2))
                (writes.only (path_of o.name) _ here.0);
            named = of_commit_named t o of;
          }

      no_leaf_there : MayBe x (mark_path (its_commit t).name.csum) (shows d (mark_path (its_commit t).name.csum)) ⊎ (shows d (mark_path (its_commit t).name.csum) ≡ Vacant) → NotLeaf (shows d (mark_path (its_commit t).name.csum))
      no_leaf_there (inl may) = subst (λ c. NotLeaf (shows d (mark_path c))) ended_sum ((needs_as u x needs (phase.Ended sum) is).2.each _ (subst (λ c. MayBe x (mark_path c) (shows d (mark_path c))) (sym ended_sum) may))
      no_leaf_there (inr none) = subst NotLeaf (sym none) tt

      has_tree : IsMade t → HasTree (Stores d) t.limits t.items
      has_tree made = record {
        one = stores_map d;
        ordered = made.items;
        typed = made.typed;
        tree = its_tree;
        makeable = made.makeable;
        objects = λ o among. has_object o (inl (among.0, (among.1, among.2)));
      }

      commits_tree : CommitsTree (Stores d) t.items (its_commit t).name.csum
      commits_tree = record {
        parts = parts_of t.items t.message;
        here = record { bytes = (its_commit t).bytes; stored = has_object (its_commit t) (inr refl); reads = its_reads };
        tree = refl;
        meta = refl;
      }

    pub has_whole : IsMade t → IsRight t v → EachImage x (HasWhole t)
    has_whole made right d i = record {
      objects = has_object right d i;
      complete = complete (Stores d) t.limits t.items (its_commit t).name.csum (has_tree right d i made) (commits_tree right d i);
      shown = shows_same (Stores d) t.limits t.items (its_commit t).name.csum (has_tree right d i made) (commits_tree right d i);
      unmarked = λ marked. leaf_shown d (d.at (mark_path (its_commit t).name.csum)) marked (no_leaf_there right d i (Image-may x d i (mark_path (its_commit t).name.csum)));
    }
