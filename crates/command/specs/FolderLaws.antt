-- What a family proves of the folders of checkouts that its tasks make.
use Rattle.std.specs.Prelude.{◌≡◌, ◌≢◌, ◌⊎◌, ℕ, Some}
use Rattle.ost_types.specs.Path.{Name}
use Rattle.fs_trait.specs.declared.task.StepResult.TheVariants as turn
use Rattle.fs_trait.specs.View.{View}
use Rattle.fs_trait.specs.Seen.{Seen, Vacant, shows}
use Rattle.repo_layout.specs.BootPaths.{checkout_path}
use Rattle.rely_guarantee.specs.Books.{Books}
use Rattle.rely_guarantee.specs.Laws.{Claim}
use Rattle.command.specs.Doing.{Doing, IsAnswer}
use Rattle.command.specs.Meaning.{Meaning}
use Rattle.command.specs.Since.{Since}
use Rattle.command.specs.Tasks.{TaskSpec}

pub record FolderLaws {T W A : Type 0} (k : TaskSpec T) (m : Meaning W A) (d : Doing T W A) : Type 0 where
  -- a step that may write at a checkout's path claims it
  pub claims : (actor lane : ℕ) (t : T) (v : View) (b : Books) (name : Name) (s : Seen) → k.facts lane t v b → k.writes actor t v (checkout_path name) s → k.kind t ≡ Claim name
  -- what is claimed is a checkout that the command makes
  pub claimed : (since : Since) (c : W) (t : T) (name : Name) → d.pursues since c t → k.kind t ≡ Claim name → m.claims c name
  -- what is told to stand in its way stands there, and the task hasn't made it
  pub finds : (since : Since) (lane : ℕ) (c : W) (t new : T) (v w : View) (b : Books) (a : A) (name : Name) → d.pursues since c t → k.facts lane t v b → k.leaves t (turn.Done tt) new v w → d.answer new ≡ Some a → m.finds a c name → (shows v.now (checkout_path name) ≢ Vacant) × (d.made t name → ⊥)
  -- from the claim on the task has made it
  pub made : (t new : T) (v w : View) (name : Name) → k.leaves t turn.More new v w → k.kind t ≡ Claim name → d.made new name
  pub goes_on : (t new : T) (v w : View) (name : Name) → k.leaves t turn.More new v w → d.made t name → d.made new name
  -- it makes it by a claim alone
  pub begun : (lane : ℕ) (t : T) (name : Name) → d.begins lane t → d.made t name → ⊥
  pub by_claim : (t new : T) (v w : View) (name : Name) → k.leaves t turn.More new v w → d.made new name → (k.kind t ≡ Claim name) ⊎ d.made t name
  -- that it was made is answered by a task that has made it, and never by the books alone
  pub ends : (since : Since) (lane : ℕ) (c : W) (t new : T) (v w : View) (b : Books) (a : A) (name : Name) → d.pursues since c t → k.facts lane t v b → k.leaves t (turn.Done tt) new v w → d.answer new ≡ Some a → m.checks_out a c name → d.made t name
  pub late : (since : Since) (c : W) (a : A) (name : Name) → IsAnswer m since c a → m.checks_out a c name → ⊥
