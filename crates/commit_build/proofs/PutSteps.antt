-- The steps in which an object of the tree, or the commit, is put.
use Rattle.std.proofs.Common.{◌≡◌, ◌⊎◌, inl, inr, ⊎_elim, ℕ, ◌<◌, ◌+◌, suc, zero, pred, arith, Bool, refl, sym, ◌∙◌, ap, subst, List, [], ◌∷◌, length, Option, Some, Ok}
use Rattle.std.specs.Prelude.{slice_index_or}
use Rattle.ost_types.specs.declared.object.ObjName.{ObjName}
use Rattle.ost_types.specs.Path.{Path}
use Rattle.fs_trait.specs.declared.task.StepResult.TheVariants.{More}
use Rattle.fs_trait.specs.View.{View}
use Rattle.fs_trait.specs.Seen.{Seen}
use Rattle.fs_trait.specs.Change.{Writes}
use Rattle.repo_model.specs.Objects.{object_in}
use Rattle.tree_build.specs.Objects.{Object, work}
use Rattle.tree_build.specs.Building.{IsNumber}
use Rattle.obj_store.specs.declared.source.Source.{Source}
use Rattle.obj_store.specs.declared.phase.Put.{Put}
use Rattle.obj_store.specs.declared.phase.Phase as putting
use Rattle.obj_store.specs.declared.phase.Phase.TheVariants as at
use Rattle.obj_store.specs.Putting as put
use Rattle.obj_store.specs.Putting.{Putting, IsObject, IsLast, Follows, shown, put_in}
use Rattle.obj_store.specs.Steps as putting_steps
use Rattle.obj_store.proofs.Runs.{same_more}
use Rattle.commit_build.specs.declared.phase.Phase.{Phase}
use Rattle.commit_build.specs.declared.phase.Phase.TheVariants as phase
use Rattle.commit_build.specs.Advancing.{CameOf, newly}
use Rattle.commit_build.specs.Committing.{Committing, IsMade, kept_in, Puts, commit_of, named_commit}
use Rattle.commit_build.specs.Steps.{Needs, needs_in, HasHomes, IsThere, IsSure, AreThere, AreSure, count_in, once_seen_to}
use Rattle.commit_build.proofs.Mild.{Mild, mild_put, homes_kept, there_kept, sure_kept}
use Rattle.commit_build.proofs.Advances.{came_there}

-- the parts of what a task needs and keeps at its phase
pub needs_as : (t : Committing) (v : View) → Needs t v → (ph : Phase) → t.phase ≡ ph → needs_in ph t v
needs_as t v needs ph is = subst (λ f. needs_in f t v) is needs.meets

pub kept_as : (t : Committing) → IsMade t → (ph : Phase) → t.phase ≡ ph → kept_in ph t
kept_as t made ph is = subst (λ f. kept_in f t) is made.kept

-- the same task at another phase, with other facts of the last step
pub made_at : (t u : Committing) → IsMade t → u.actor ≡ t.actor → u.items ≡ t.items → u.limits ≡ t.limits → u.message ≡ t.message → u.made ≡ t.made → kept_in u.phase u → IsMade u
made_at t u made actor items limits message count kept = record {
  actor = rw actor made.actor;
  items = rw items made.items;
  typed = rw items made.typed;
  bound = rw limits made.bound;
  makeable = rw (limits, items) made.makeable;
  small = rw (items, message) made.small;
  made = rw (items, count) made.made;
  kept = kept;
}

-- who puts what stays
pub puts_on : (actor : ℕ) (o : Object) (p q : Putting) → put.IsStepped p (Ok More) q → Puts actor o p → Puts actor o q
puts_on actor o p q stepped puts =
    let same = same_more p q stepped in
    record {
      by = same.actor ∙ puts.by;
      name = same.name ∙ puts.name;
      object = record { is = ap (object_in o.name.kind) same.shown ∙ puts.object.is; named = puts.object.named };
    }

-- one number: the object that was made last, or one before
pub last_or_before : (n made : ℕ) → n < made → (n < pred made) ⊎ (made ≡ n + 1)
last_or_before n zero less = absurd (omega (arith, less))
last_or_before n (suc made) less = by_cases n made less
  where
    by_cases : (n made : ℕ) → n < suc made → (n < made) ⊎ (suc made ≡ n + 1)
    by_cases zero zero less = inr (omega arith)
    by_cases zero (suc made) less = inl (omega arith)
    by_cases (suc n) zero less = absurd (omega (arith, less))
    by_cases (suc n) (suc made) less = ⊎_elim (λ a. inl (omega (arith, a))) (λ b. inr (omega (arith, b))) (by_cases n made (omega (arith, less)))

same_default : (xs : List Object) (n : ℕ) (x y : Object) → n < length xs → slice_index_or xs n x ≡ slice_index_or xs n y
same_default [] n x y less = absurd (omega (arith, less))
same_default (z ∷ xs) zero x y less = refl
same_default (z ∷ xs) (suc n) x y less = same_default xs n x y (omega (arith, less))

pub one_object : (xs : List Object) (n m : ℕ) (x y : Object) → n ≡ m → IsNumber xs n x → IsNumber xs m y → x ≡ y
one_object xs n m x y same a b =
    sym a.1 ∙ same_default xs n x y a.0 ∙ ap (λ k. slice_index_or xs k y) same ∙ b.1

module _ (actor : ℕ) (p : Putting) (v w : View) (same : p.actor ≡ actor) (needs : putting_steps.Needs p v) (writes : Writes (putting_steps.WritesOf p v) v w) (full : Bool) (made : ℕ) where
  mild : (q : Path) (s : Seen) → putting_steps.WritesOf p v q s → Mild actor q s
  mild = mild_put actor p v same needs

  pub put_homes : HasHomes actor v.now → HasHomes actor w.now
  put_homes = homes_kept actor (putting_steps.WritesOf p v) mild v w writes

  pub put_there : (name : ObjName) → IsThere v.now name → IsThere w.now name
  put_there = there_kept actor (putting_steps.WritesOf p v) mild v w writes

  pub put_sure : (name : ObjName) → IsSure v name → IsSure w name
  put_sure = sure_kept actor (putting_steps.WritesOf p v) mild v w writes

  -- which numbers count after a step that goes on
  further_split : (old new : Source) (last next : putting.Phase) → Follows last next old new → CameOf full (newly (put_in last) (put_in next)) p v w
      → (n : ℕ) → n < count_in next made → (n < count_in last made) ⊎ ((made ≡ n + 1) × IsThere w.now p.name)
  further_split old new at.Look at.Look follows came n less = inl less
  further_split old new at.Look at.Stage follows came n less = inl less
  further_split old new at.Look at.Folder follows came n less = inl less
  further_split old new at.Look at.Link follows came n less = inl less
  further_split old new at.Look (at.Unlink k) follows came n less = absurd follows
  further_split old new at.Look (at.Ended k) follows came n less = absurd follows
  further_split old new at.Stage at.Look follows came n less = inl less
  further_split old new at.Stage at.Stage follows came n less = inl less
  further_split old new at.Stage at.Folder follows came n less = inl less
  further_split old new at.Stage at.Link follows came n less = inl less
  further_split old new at.Stage (at.Unlink k) follows came n less = absurd follows
  further_split old new at.Stage (at.Ended k) follows came n less = absurd follows
  further_split old new at.Folder at.Look follows came n less = inl less
  further_split old new at.Folder at.Stage follows came n less = inl less
  further_split old new at.Folder at.Folder follows came n less = inl less
  further_split old new at.Folder at.Link follows came n less = inl less
  further_split old new at.Folder (at.Unlink k) follows came n less = absurd follows
  further_split old new at.Folder (at.Ended k) follows came n less = absurd follows
  further_split old new at.Link at.Look follows came n less = inl less
  further_split old new at.Link at.Stage follows came n less = inl less
  further_split old new at.Link at.Folder follows came n less = inl less
  further_split old new at.Link at.Link follows came n less = inl less
  further_split old new at.Link (at.Unlink k) follows came n less = ⊎_elim (λ before. inl before) (λ last. inr (last, came_there p v w k needs.made came.0)) (last_or_before n made less)
  further_split old new at.Link (at.Ended k) follows came n less = absurd follows
  further_split old new (at.Unlink e) at.Look follows came n less = absurd follows
  further_split old new (at.Unlink e) at.Stage follows came n less = absurd follows
  further_split old new (at.Unlink e) at.Folder follows came n less = absurd follows
  further_split old new (at.Unlink e) at.Link follows came n less = absurd follows
  further_split old new (at.Unlink e) (at.Unlink k) follows came n less = absurd follows
  further_split old new (at.Unlink e) (at.Ended k) follows came n less = absurd follows
  further_split old new (at.Ended e) at.Look follows came n less = absurd follows
  further_split old new (at.Ended e) at.Stage follows came n less = absurd follows
  further_split old new (at.Ended e) at.Folder follows came n less = absurd follows
  further_split old new (at.Ended e) at.Link follows came n less = absurd follows
  further_split old new (at.Ended e) (at.Unlink k) follows came n less = absurd follows
  further_split old new (at.Ended e) (at.Ended k) follows came n less = absurd follows

  -- and after the last
  over_split : (e : Put) (last : putting.Phase) → IsLast last p.source e → CameOf full (newly (put_in last) (Some e)) p v w
      → (n : ℕ) → n < made → (n < count_in last made) ⊎ ((made ≡ n + 1) × IsThere w.now p.name)
  over_split e at.Look end came n less = ⊎_elim (λ before. inl before) (λ last. inr (last, came_there p v w e needs.made came.0)) (last_or_before n made less)
  over_split e at.Stage end came n less = absurd end
  over_split e at.Folder end came n less = absurd end
  over_split e at.Link end came n less = ⊎_elim (λ before. inl before) (λ last. inr (last, came_there p v w e needs.made came.0)) (last_or_before n made less)
  over_split e (at.Unlink k) end came n less = inl less
  over_split e (at.Ended k) end came n less = inl less

  -- the same of one object
  once_further : (old new : Source) (last next : putting.Phase) → Follows last next old new → CameOf full (newly (put_in last) (put_in next)) p v w → once_seen_to next (IsThere w.now p.name)
  once_further old new at.Look at.Look follows came = tt
  once_further old new at.Look at.Stage follows came = tt
  once_further old new at.Look at.Folder follows came = tt
  once_further old new at.Look at.Link follows came = tt
  once_further old new at.Look (at.Unlink k) follows came = absurd follows
  once_further old new at.Look (at.Ended k) follows came = absurd follows
  once_further old new at.Stage at.Look follows came = tt
  once_further old new at.Stage at.Stage follows came = tt
  once_further old new at.Stage at.Folder follows came = tt
  once_further old new at.Stage at.Link follows came = tt
  once_further old new at.Stage (at.Unlink k) follows came = absurd follows
  once_further old new at.Stage (at.Ended k) follows came = absurd follows
  once_further old new at.Folder at.Look follows came = tt
  once_further old new at.Folder at.Stage follows came = tt
  once_further old new at.Folder at.Folder follows came = tt
  once_further old new at.Folder at.Link follows came = tt
  once_further old new at.Folder (at.Unlink k) follows came = absurd follows
  once_further old new at.Folder (at.Ended k) follows came = absurd follows
  once_further old new at.Link at.Look follows came = tt
  once_further old new at.Link at.Stage follows came = tt
  once_further old new at.Link at.Folder follows came = tt
  once_further old new at.Link at.Link follows came = tt
  once_further old new at.Link (at.Unlink k) follows came = came_there p v w k needs.made came.0
  once_further old new at.Link (at.Ended k) follows came = absurd follows
  once_further old new (at.Unlink e) at.Look follows came = tt
  once_further old new (at.Unlink e) at.Stage follows came = tt
  once_further old new (at.Unlink e) at.Folder follows came = tt
  once_further old new (at.Unlink e) at.Link follows came = tt
  once_further old new (at.Unlink e) (at.Unlink k) follows came = absurd follows
  once_further old new (at.Unlink e) (at.Ended k) follows came = absurd follows
  once_further old new (at.Ended e) at.Look follows came = tt
  once_further old new (at.Ended e) at.Stage follows came = tt
  once_further old new (at.Ended e) at.Folder follows came = tt
  once_further old new (at.Ended e) at.Link follows came = tt
  once_further old new (at.Ended e) (at.Unlink k) follows came = absurd follows
  once_further old new (at.Ended e) (at.Ended k) follows came = absurd follows

  once_over : (e : Put) (last : putting.Phase) → IsLast last p.source e → CameOf full (newly (put_in last) (Some e)) p v w → once_seen_to last (IsThere v.now p.name) → IsThere w.now p.name
  once_over e at.Look end came once = came_there p v w e needs.made came.0
  once_over e at.Stage end came once = absurd end
  once_over e at.Folder end came once = absurd end
  once_over e at.Link end came once = came_there p v w e needs.made came.0
  once_over e (at.Unlink k) end came once = put_there p.name once
  once_over e (at.Ended k) end came once = put_there p.name once

-- An object of the tree is put.
module _ (t : Committing) (v w : View) (needs : Needs t v) (p : Putting) (is : t.phase ≡ phase.Put p) (writes : Writes (putting_steps.WritesOf p v) v w) (full : Bool) where
  meets : needs_in (phase.Put p) t v
  meets = needs_as t v needs (phase.Put p) is

  kept : kept_in (phase.Put p) t
  kept = kept_as t needs.made (phase.Put p) is

  homes : HasHomes t.actor w.now
  homes = put_homes t.actor p v w kept.1.puts.by meets.0 writes full t.made needs.homes

  upto : (count : ℕ) → ((n : ℕ) → n < count → (n < count_in p.phase t.made) ⊎ ((t.made ≡ n + 1) × IsThere w.now p.name)) → AreThere t.items count w.now
  upto count split = record {
    each = λ n o less number.
        ⊎_elim
        (λ before. put_there t.actor p v w kept.1.puts.by meets.0 writes full t.made o.name (meets.1.each n o before number))
        (λ last.
        let number_is : kept.1.last.number ≡ n = (let is = kept.1.last.is in let also = last.0 in omega (arith, is, also)) in
        let same = one_object (work t.items) kept.1.last.number n kept.1.object o number_is kept.1.last.object number in
        subst (IsThere w.now) (kept.1.puts.name ∙ ap (λ (x : Object). x.name) same) last.1)
        (split n less);
  }

  pub put_more : (q : Putting) (m : Option (ObjName × Put)) → put.IsStepped p (Ok More) q → CameOf full (newly (put_in p.phase) (put_in q.phase)) p v w → putting_steps.Needs q w
      → Needs (record t { phase = phase.Put q; met = m }) w
  put_more q m stepped came next = record {
    made = record {
      actor = needs.made.actor;
      items = needs.made.items;
      typed = needs.made.typed;
      bound = needs.made.bound;
      makeable = needs.made.makeable;
      small = needs.made.small;
      made = needs.made.made;
      kept = (kept.0, record { object = kept.1.object; last = kept.1.last; puts = puts_on t.actor kept.1.object p q stepped kept.1.puts });
    };
    homes = homes;
    meets = (next, upto (count_in q.phase t.made) (further_split t.actor p v w kept.1.puts.by meets.0 writes full t.made p.source q.source p.phase q.phase stepped.1 came));
  }

  pub put_over : (e : Put) (m : Option (ObjName × Put)) → IsLast p.phase p.source e → CameOf full (newly (put_in p.phase) (Some e)) p v w
      → Needs (record t { phase = phase.Make; met = m }) w
  put_over e m end came = record {
    made = record {
      actor = needs.made.actor;
      items = needs.made.items;
      typed = needs.made.typed;
      bound = needs.made.bound;
      makeable = needs.made.makeable;
      small = needs.made.small;
      made = needs.made.made;
      kept = kept.0;
    };
    homes = homes;
    meets = upto t.made (over_split t.actor p v w kept.1.puts.by meets.0 writes full t.made e p.phase end came);
  }

-- The commit is put.
module _ (t : Committing) (v w : View) (needs : Needs t v) (p : Putting) (is : t.phase ≡ phase.PutCommit p) (writes : Writes (putting_steps.WritesOf p v) v w) (full : Bool) where
  commit_meets : needs_in (phase.PutCommit p) t v
  commit_meets = needs_as t v needs (phase.PutCommit p) is

  commit_kept : kept_in (phase.PutCommit p) t
  commit_kept = kept_as t needs.made (phase.PutCommit p) is

  commit_homes : HasHomes t.actor w.now
  commit_homes = put_homes t.actor p v w commit_kept.2.by commit_meets.0 writes full t.made needs.homes

  still_sure : AreSure t.items w
  still_sure = record { each = λ n o number. put_sure t.actor p v w commit_kept.2.by commit_meets.0 writes full t.made o.name (commit_meets.1.each n o number) }

  pub commit_more : (q : Putting) (m : Option (ObjName × Put)) → put.IsStepped p (Ok More) q → CameOf full (newly (put_in p.phase) (put_in q.phase)) p v w → putting_steps.Needs q w
      → Needs (record t { phase = phase.PutCommit q; met = m }) w
  commit_more q m stepped came next = record {
    made = record {
      actor = needs.made.actor;
      items = needs.made.items;
      typed = needs.made.typed;
      bound = needs.made.bound;
      makeable = needs.made.makeable;
      small = needs.made.small;
      made = needs.made.made;
      kept = (commit_kept.0, commit_kept.1, puts_on t.actor (commit_of t.items t.message) p q stepped commit_kept.2, commit_kept.3);
    };
    homes = commit_homes;
    meets =
        let there = once_further t.actor p v w commit_kept.2.by commit_meets.0 writes full t.made p.source q.source p.phase q.phase stepped.1 came in
        let named = (same_more p q stepped).name in
        (next, still_sure, subst (λ o. once_seen_to q.phase (IsThere w.now o)) (sym named) there);
  }

  pub commit_over : (e : Put) (m : Option (ObjName × Put)) → IsLast p.phase p.source e → CameOf full (newly (put_in p.phase) (Some e)) p v w
      → Needs (record t { phase = phase.SyncCommit p.name.csum; met = m }) w
  commit_over e m end came =
      let name : named_commit p.name.csum ≡ (commit_of t.items t.message).name = ap (λ (o : ObjName). named_commit o.csum) commit_kept.2.name in
      let there = once_over t.actor p v w commit_kept.2.by commit_meets.0 writes full t.made e p.phase end came commit_meets.2 in
      record {
        made = record {
          actor = needs.made.actor;
          items = needs.made.items;
          typed = needs.made.typed;
          bound = needs.made.bound;
          makeable = needs.made.makeable;
          small = needs.made.small;
          made = needs.made.made;
          kept = (commit_kept.0, record { all = commit_kept.1; name = name; reads = commit_kept.3 });
        };
        homes = commit_homes;
        meets = (still_sure, subst (IsThere w.now) (commit_kept.2.name ∙ sym name) there);
      }
