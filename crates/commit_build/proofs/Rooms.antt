-- Where the store is full, no step writes at an object's path.
use Rattle.std.proofs.Common.{◌≡◌, ◌<◌, ℕ, Bool, false, refl, sym, subst, Option}
use Rattle.ost_types.specs.declared.object.ObjName.{ObjName}
use Rattle.fs_trait.specs.View.{View}
use Rattle.fs_trait.specs.Image.{Told}
use Rattle.fs_trait.specs.Seen.{Seen}
use Rattle.fs_trait.specs.Change.{Writes}
use Rattle.fs_trait.proofs.Kept.{weaker}
use Rattle.repo_model.specs.Objects.{path_of}
use Rattle.obj_store.specs.Putting.{Putting}
use Rattle.commit_build.specs.declared.phase.Phase.{Phase}
use Rattle.commit_build.specs.declared.phase.Phase.TheVariants as phase
use Rattle.commit_build.specs.Advancing as advancing
use Rattle.commit_build.specs.Committing.{Committing, Links}
use Rattle.commit_build.specs.Steps.{Needs, WritesIn, WritesOf, writes_in}
use Rattle.commit_build.proofs.Counted.{calm_off, puts_link}
use Rattle.commit_build.proofs.PutSteps.{needs_as}

module _ (t : Committing) (count : ℕ) (v w : View) where
  module _ (q : Putting) (full : Bool) (room : full ≡ false → count < t.limits.objects) where
    pub few_put : t.phase ≡ phase.Put q → Writes (advancing.WritesIn full q v) v w → Writes (WritesIn count t v) v w
    few_put is writes = weaker (advancing.WritesIn full q v) (WritesIn count t v) v w
        (λ p s a. (subst (λ ph. writes_in ph v p s) (sym is) a.0, λ links. room (a.1 (subst Links is links)))) writes

    pub few_commit : t.phase ≡ phase.PutCommit q → Writes (advancing.WritesIn full q v) v w → Writes (WritesIn count t v) v w
    few_commit is writes = weaker (advancing.WritesIn full q v) (WritesIn count t v) v w
        (λ p s a. (subst (λ ph. writes_in ph v p s) (sym is) a.0, λ links. room (a.1 (subst Links is links)))) writes

  pub few_calm : (Links t.phase → ⊥) → Writes (WritesOf t v) v w → Writes (WritesIn count t v) v w
  few_calm calm writes = weaker (WritesOf t v) (WritesIn count t v) v w (λ p s a. (a, λ links. absurd (calm links))) writes

-- so it is of a view that is told
module _ (t : Committing) (count : ℕ) (v : View) (view : Option View) where
  pub told_put : (q : Putting) (full : Bool) → (full ≡ false → count < t.limits.objects) → t.phase ≡ phase.Put q → Told view (λ w. Writes (advancing.WritesIn full q v) v w) → Told view (λ w. Writes (WritesIn count t v) v w)
  told_put q full room is told = (told.0, told.1, few_put t count v told.0 q full room is told.2)

  pub told_commit : (q : Putting) (full : Bool) → (full ≡ false → count < t.limits.objects) → t.phase ≡ phase.PutCommit q → Told view (λ w. Writes (advancing.WritesIn full q v) v w) → Told view (λ w. Writes (WritesIn count t v) v w)
  told_commit q full room is told = (told.0, told.1, few_commit t count v told.0 q full room is told.2)

  pub told_calm : (ph : Phase) → t.phase ≡ ph → (Links ph → ⊥) → Told view (λ w. Writes (WritesOf t v) v w) → Told view (λ w. Writes (WritesIn count t v) v w)
  told_calm ph is calm told = (told.0, told.1, few_calm t count v told.0 (λ links. calm (subst Links is links)) told.2)

links_in : (t : Committing) (v : View) → Needs t v → (ph : Phase) → t.phase ≡ ph → (name : ObjName) (s : Seen) → writes_in ph v (path_of name) s → Links ph
links_in t v needs (phase.Put q) is name s a = puts_link q v (needs_as t v needs (phase.Put q) is).0 name s a
links_in t v needs (phase.PutCommit q) is name s a = puts_link q v (needs_as t v needs (phase.PutCommit q) is).0 name s a
links_in t v needs phase.Check is name s a = absurd a
links_in t v needs phase.Make is name s a = absurd a
links_in t v needs (phase.Made c) is name s a = absurd a
links_in t v needs phase.SyncObjects is name s a = absurd a
links_in t v needs phase.MakeCommit is name s a = absurd a
links_in t v needs (phase.SyncCommit sum) is name s a = absurd a
links_in t v needs (phase.Unmark sum) is name s a = absurd (calm_off (phase.Unmark sum) tt v name s a)
links_in t v needs (phase.SyncState sum) is name s a = absurd a
links_in t v needs (phase.Ended sum) is name s a = absurd a

-- what may write there has room
pub room_there : (t : Committing) (count : ℕ) (v : View) → Needs t v → (name : ObjName) (s : Seen) → WritesIn count t v (path_of name) s → count < t.limits.objects
room_there t count v needs name s wrote = wrote.1 (links_in t v needs t.phase refl name s wrote.0)
