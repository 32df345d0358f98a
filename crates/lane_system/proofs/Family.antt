-- The laws of the file system and of the family of commands, each as one value.
use Rattle.std.proofs.Common.{◌≡◌, ◌≢◌, ◌≤◌, ℕ, Some}
use Rattle.ost_types.specs.Path.{Name}
use Rattle.fs_trait.specs.declared.task.StepResult.{StepResult}
use Rattle.fs_trait.specs.declared.task.StepResult.TheVariants as turn
use Rattle.fs_trait.specs.Seen.{Vacant, shows}
use Rattle.fs_trait.specs.Image.{IsTree}
use Rattle.fs_trait.specs.View.{View}
use Rattle.repo_layout.specs.BootPaths.{checkout_path}
use Rattle.rely_guarantee.specs.Books.{Books}
use Rattle.rely_guarantee.specs.Laws.{Claim, Laws}
use Rattle.rely_guarantee.proofs.Sounds.{IsFs}
use Rattle.command.specs.Laws.{CommandLaws}
use Rattle.command.specs.Doing.{Doing}
use Rattle.command.specs.Meaning.{Meaning}
use Rattle.command.specs.Tasks.{TaskSpec}
use Rattle.lane_system.specs.Family.{Family, FsSpec, family}
use Rattle.lane_system.proofs.Learning.{laws_on}

pub record FsLaws {F : Type 0} (f : FsSpec F) : Type 0 where
  pub is : IsFs f.view f.clock f.was
  pub tree : (g : F) (v : View) → f.view g ≡ Some v → IsTree v.now
  pub counts_now : (g : F) (t : ℕ) (v : View) → t ≤ f.clock g → f.view g ≡ Some v → f.was g t v

-- where a checkout is claimed nothing stood, and its folder stands
abbrev pub ClaimsIn : {T W A : Type 0} → Family T W A → Type 0
ClaimsIn {T} c = (lane : ℕ) (t new : T) (v w : View) (b : Books) (name : Name) → c.tasks.kind t ≡ Claim name → c.tasks.facts lane t v b → c.tasks.leaves t turn.More new v w → (shows v.now (checkout_path name) ≡ Vacant) × (shows w.now (checkout_path name) ≢ Vacant)

pub record FamilyLaws {T W A : Type 0} (c : Family T W A) : Type 1 where
  pub needs : ℕ → T → View → Type 0
  pub stepped : T → StepResult (Unit {0}) → T → Type 0
  pub leaves : T → StepResult (Unit {0}) → T → View → View → Type 0
  pub tasks : Laws c.tasks.kind needs c.tasks.writes stepped leaves c.tasks.facts
  pub claims : ClaimsIn c
  pub commands : CommandLaws c.tasks c.means c.doing

-- so of a family that implements the trait
pub laws_of : {T W A : Type 0} (k : TaskSpec T) (m : Meaning W A) (d : Doing T W A) (needs : ℕ → T → View → Type 0) → Laws k.kind needs k.writes k.stepped k.leaves k.facts → CommandLaws k m d → FamilyLaws (family k m d)
laws_of k m d needs tasks commands = record {
  needs = needs;
  stepped = k.stepped;
  leaves = k.leaves;
  tasks = tasks;
  claims = λ lane t new v w b name is facts leaves. tasks.claims lane t leaves.0 v w b name is leaves.3 facts leaves.1;
  commands = laws_on k m d commands;
}
