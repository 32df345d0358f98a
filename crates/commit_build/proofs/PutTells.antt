-- What the steps in which an object is put leave and tell.
use Rattle.std.proofs.Common.{◌≡◌, ℕ, ◌<◌, Bool, false, sym, ◌∙◌, ap, subst, List, Option, Some, None, Ok}
use Rattle.ost_types.specs.declared.object.ObjName.{ObjName}
use Rattle.fs_trait.specs.declared.types.FsErr.{FsErr}
use Rattle.fs_trait.specs.declared.types.FsErr.TheVariants.{Failed, Exists, Missing, NotFolder, NotEmpty, NoMemory}
use Rattle.fs_trait.specs.declared.task.StepResult.TheVariants.{More, Done}
use Rattle.fs_trait.specs.View.{View}
use Rattle.fs_trait.specs.Change.{Writes}
use Rattle.obj_store.specs.declared.phase.Put.{Put}
use Rattle.obj_store.specs.declared.phase.Put.TheVariants.{Stored, Present}
use Rattle.obj_store.specs.Putting as put
use Rattle.obj_store.specs.Putting.{Putting, IsLast, put_in}
use Rattle.obj_store.specs.Steps as putting_steps
use Rattle.commit_build.specs.declared.phase.Phase.{Phase}
use Rattle.commit_build.specs.declared.phase.Phase.TheVariants as phase
use Rattle.commit_build.specs.Advancing as advancing
use Rattle.commit_build.specs.Advancing.{newly}
use Rattle.commit_build.specs.Committing.{Committing, met_of}
use Rattle.commit_build.specs.Steps.{Needs, CameOf, came_in, refuses_in}
use Rattle.commit_build.proofs.PutSteps.{put_more, put_over, commit_more, commit_over}
use Rattle.commit_build.proofs.WorkSteps.{again}

-- in the words of a commit
pub came_told : (full : Bool) (count most : ℕ) → (full ≡ false → count < most) → (end : Option Put) (p : Putting) (v w : View)
    → advancing.CameOf full end p v w → CameOf count most (met_of p.name end) p v w
came_told full count most room None p v w came = tt
came_told full count most room (Some Stored) p v w came = (came.0, room came.1)
came_told full count most room (Some Present) p v w came = came.0

pub put_refuses : (p : Putting) (v : View) (e : FsErr) → putting_steps.Refuses p v e → refuses_in (phase.Put p) v e
put_refuses p v Failed r = tt
put_refuses p v NoMemory r = tt
put_refuses p v Exists r = r
put_refuses p v Missing r = r
put_refuses p v NotFolder r = r
put_refuses p v NotEmpty r = r

pub commit_refuses : (p : Putting) (v : View) (e : FsErr) → putting_steps.Refuses p v e → refuses_in (phase.PutCommit p) v e
commit_refuses p v Failed r = tt
commit_refuses p v NoMemory r = tt
commit_refuses p v Exists r = r
commit_refuses p v Missing r = r
commit_refuses p v NotFolder r = r
commit_refuses p v NotEmpty r = r

module _ (t : Committing) (v w : View) (needs : Needs t v) (p : Putting) (full : Bool) (writes : Writes (putting_steps.WritesOf p v) v w) where
  pub put_further : t.phase ≡ phase.Put p → (q : Putting) (m : Option (ObjName × Put)) (end : Option Put)
      → put.IsStepped p (Ok More) q × (end ≡ newly (put_in p.phase) (put_in q.phase)) → advancing.CameOf full end p v w → putting_steps.Needs q w
      → Needs (record t { phase = phase.Put q; met = m }) w
  put_further is q m end stepped came next = put_more t v w needs p is writes full q m stepped.0 (subst (λ e. advancing.CameOf full e p v w) stepped.1 came) next

  pub put_ended : t.phase ≡ phase.Put p → (q : Putting) (m : Option (ObjName × Put)) (end : Option Put)
      → ((e : Put) × put.IsStepped p (Ok (Done e)) q × (end ≡ newly (put_in p.phase) (Some e))) → advancing.CameOf full end p v w
      → Needs (record t { phase = phase.Make; met = m }) w
  put_ended is q m end stepped came = put_over t v w needs p is writes full stepped.0 m stepped.1.1 (subst (λ e. advancing.CameOf full e p v w) stepped.2 came)

  pub commit_further : t.phase ≡ phase.PutCommit p → (q : Putting) (m : Option (ObjName × Put)) (end : Option Put)
      → put.IsStepped p (Ok More) q × (end ≡ newly (put_in p.phase) (put_in q.phase)) → advancing.CameOf full end p v w → putting_steps.Needs q w
      → Needs (record t { phase = phase.PutCommit q; met = m }) w
  commit_further is q m end stepped came next = commit_more t v w needs p is writes full q m stepped.0 (subst (λ e. advancing.CameOf full e p v w) stepped.1 came) next

  pub commit_ended : t.phase ≡ phase.PutCommit p → (q : Putting) (m : Option (ObjName × Put)) (end : Option Put) (sum : List ℕ) → sum ≡ p.name.csum
      → ((e : Put) × put.IsStepped p (Ok (Done e)) q × (end ≡ newly (put_in p.phase) (Some e))) → advancing.CameOf full end p v w
      → Needs (record t { phase = phase.SyncCommit sum; met = m }) w
  commit_ended is q m end sum same stepped came =
      subst (λ s. Needs (record t { phase = phase.SyncCommit s; met = m }) w) (sym same)
      (commit_over t v w needs p is writes full stepped.0 m stepped.1.1 (subst (λ e. advancing.CameOf full e p v w) stepped.2 came))

-- there was no room: nothing changed
pub full_after : (t : Committing) (v w : View) → Needs t v → (f : Phase) → t.phase ≡ f → w ≡ v → Needs (record t { phase = f; met = None }) w
full_after t v w needs f is same = subst (λ x. Needs (record t { phase = f; met = None }) x) (sym same) (subst (λ g. Needs (record t { phase = g; met = None }) v) is (again t v needs None))

-- in terms of the task's phase
pub put_tells : (t : Committing) (p : Putting) → t.phase ≡ phase.Put p → (full : Bool) (count : ℕ) → (full ≡ false → count < t.limits.objects) → (end : Option Put) (name : ObjName) (m : Option (ObjName × Put))
    → m ≡ met_of name end → name ≡ p.name → (v w : View) → advancing.CameOf full end p v w → came_in count t.limits.objects t.phase m v w
put_tells t p is full count room end name m met same v w came =
    subst (λ f. came_in count t.limits.objects f m v w) (sym is)
    (subst (λ x. CameOf count t.limits.objects x p v w) (sym (met ∙ ap (λ n. met_of n end) same)) (came_told full count t.limits.objects room end p v w came))

pub commit_tells : (t : Committing) (p : Putting) → t.phase ≡ phase.PutCommit p → (full : Bool) (count : ℕ) → (full ≡ false → count < t.limits.objects) → (end : Option Put) (name : ObjName) (m : Option (ObjName × Put))
    → m ≡ met_of name end → name ≡ p.name → (v w : View) → advancing.CameOf full end p v w → came_in count t.limits.objects t.phase m v w
commit_tells t p is full count room end name m met same v w came =
    subst (λ f. came_in count t.limits.objects f m v w) (sym is)
    (subst (λ x. CameOf count t.limits.objects x p v w) (sym (met ∙ ap (λ n. met_of n end) same)) (came_told full count t.limits.objects room end p v w came))
