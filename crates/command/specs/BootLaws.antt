-- What a family proves of its steps, as far as what boots goes.
use Rattle.std.proofs.Common.{◌≡◌, ℕ, false, true, List, Option, Some, None, IsSome, Contains, sym, ◌∙◌, subst}
use Rattle.ost_types.specs.declared.limits.Limits.{Limits}
use Rattle.ost_types.specs.Path.{Path}
use Rattle.fs_trait.specs.declared.task.StepResult.TheVariants as turn
use Rattle.fs_trait.specs.Change.{Writes}
use Rattle.fs_trait.specs.Image.{IsTree}
use Rattle.fs_trait.specs.View.{Disk, View}
use Rattle.fs_trait.specs.Seen.{Seen}
use Rattle.repo_layout.specs.Place.{place}
use Rattle.boot_model.specs.declared.item.DepId.{DepId}
use Rattle.boot_read.specs.declared.row.BootRow.{BootRow}
use Rattle.durable_list.specs.Standing.{IsOnTheWay, ListStands, ListsSwap, ids_of}
use Rattle.durable_list.proofs.Unwritten.{on_the_way}
use Rattle.durable_deployments.specs.Standing as deployment
use Rattle.durable_deployments.proofs.Unwritten as deployment_places
use Rattle.rely_guarantee.specs.declared.event.Event.{Event}
use Rattle.rely_guarantee.specs.Books.{Books, listed_in}
use Rattle.rely_guarantee.specs.Laws.{IsBy, Holds, Publish, MakeDurable}
use Rattle.rely_guarantee.specs.Rely.{IsBoot}
use Rattle.rely_guarantee.specs.State.{list_in}
use Rattle.command.specs.ChangeLaws.{ChangeLaws}
use Rattle.command.specs.Doing.{Doing}
use Rattle.command.specs.MayBoot.{Boots, BootsEither, MayBoot, Relists}
use Rattle.command.specs.Meaning.{Meaning}
use Rattle.command.specs.Since.{Since}
use Rattle.command.specs.Tasks.{TaskSpec}

-- What is known of a task of a command where this actor takes a step of it for this lane.
pub record IsTaken {T W A : Type 0} (k : TaskSpec T) (d : Doing T W A) (since : Since) (c : W) (actor lane : ℕ) (t : T) (v : View) (b : Books) : Type 0 where
  pub after : d.pursues since c t
  pub by : IsBy (k.kind t) actor lane
  pub holds : Holds (k.kind t) lane b
  pub facts : k.facts lane t v b

-- Behind the step that publishes the change, where one list of whole deployments stood, one of two does: that one, or the list that the
-- change tells.
pub record IsRelisted (limits : Limits) (e : Event) (rows : List BootRow) (w : View) : Type 0 where
  pub after : List BootRow
  pub ids : list_in e ≡ Some (ids_of after)
  pub boots : BootsEither limits rows after w

-- No step writes where a list that may boot or one of its deployments is read, nor on the way there, but the one that publishes another
-- list: from then on one of both boots. The step that makes it durable leaves that one.
pub record BootLaws {T W A : Type 0} (k : TaskSpec T) (d : Doing T W A) : Type 0 where
  pub list : (since : Since) (c : W) (actor lane : ℕ) (t : T) (v : View) (b : Books) (base : Disk) (rows : List BootRow) (p : Path) (s : Seen) → IsTaken k d since c actor lane t v b → ¬ (Relists (k.kind t)) → MayBoot b v base rows → k.writes actor t v p s → IsOnTheWay base rows p → ⊥
  pub deployments : (since : Since) (c : W) (actor lane : ℕ) (t : T) (v : View) (b : Books) (base : Disk) (rows : List BootRow) (row : BootRow) (p : Path) (s : Seen) → IsTaken k d since c actor lane t v b → MayBoot b v base rows → Contains rows row → k.writes actor t v p s → deployment.IsOnTheWay row.id row.bootcsum p → ⊥
  pub publishes : (since : Since) (c : W) (lane : ℕ) (t : T) (v w : View) (b : Books) (e : Event) (rows : List BootRow) → k.kind t ≡ Publish e → IsSome (list_in e) → IsTaken k d since c lane lane t v b → IsTree v.now → Writes (k.writes lane t v) v w → listed_in b ≡ ids_of rows → Boots since.limits rows v → IsRelisted since.limits e rows w
  pub settles : (since : Since) (c : W) (lane : ℕ) (t new : T) (v w : View) (b : Books) (e : Event) (link : Path) (old come : Disk) (before after : List BootRow) → k.kind t ≡ MakeDurable e → list_in e ≡ Some (ids_of after) → IsTaken k d since c lane lane t v b → Writes (k.writes lane t v) v w → k.leaves t (turn.Done tt) new v w → listed_in b ≡ ids_of before → ListsSwap link old come before after v → ListStands after w

-- no command changes which deployments boot
abbrev pub ChangesNoList : {W A : Type 0} → Meaning W A → Type 0
ChangesNoList {W} m = (since : Since) (c : W) (e : Event) → m.changes since c e → list_in e ≡ None

pub no_list : (o : Option (List DepId)) → o ≡ None → ¬ (IsSome o)
no_list o none some = let z : false ≡ true = subst IsSome none some in cc

-- so of tasks that write nothing there at all, of such commands
pub no_boots : {T W A : Type 0} (k : TaskSpec T) (m : Meaning W A) (d : Doing T W A) → ChangeLaws k m d → ChangesNoList m
    → ((actor lane : ℕ) (t : T) (v : View) (b : Books) (p : Path) (s : Seen) → IsBy (k.kind t) actor lane → k.facts lane t v b → k.writes actor t v p s → ¬ (IsBoot (place p))) → BootLaws k d
no_boots k m d changes unlisted never = record {
  list = λ since c actor lane t v b base rows p s taken not may writes way. never actor lane t v b p s taken.by taken.facts writes (on_the_way base rows p way);
  deployments = λ since c actor lane t v b base rows row p s taken may among writes way. never actor lane t v b p s taken.by taken.facts writes (deployment_places.on_the_way row.id row.bootcsum p way);
  publishes = λ since c lane t v w b e rows kind some taken tree wrote listed boots. absurd (no_list (list_in e) (unlisted since c e (changes.shown since c t e taken.after kind)) some);
  settles = λ since c lane t new v w b e link old come before after kind is taken wrote leaves listed lists. absurd (let z : None ≡ Some (ids_of after) = sym (unlisted since c e (changes.settled since c t e taken.after kind)) ∙ is in cc);
}
