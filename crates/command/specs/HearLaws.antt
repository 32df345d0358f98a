-- What a family proves of what its tasks are told.
use Rattle.std.specs.Prelude.{◌≡◌, ◌≤◌, ℕ}
use Rattle.ost_types.specs.Path.{Name}
use Rattle.fs_trait.specs.View.{View}
use Rattle.rely_guarantee.specs.Books.{Books}
use Rattle.rely_guarantee.specs.Laws.{Holds}
use Rattle.command.specs.declared.told.Told.{Told}
use Rattle.command.specs.Doing.{Doing}
use Rattle.command.specs.Since.{Since}
use Rattle.command.specs.Tasks.{TaskSpec}

pub record HearLaws {T W A : Type 0} (k : TaskSpec T) (d : Doing T W A) : Type 0 where
  -- what is known of a task goes on to be
  pub facts : (told : Told) (lane : ℕ) (t : T) (v : View) (b : Books) → k.facts lane t v b → k.facts lane (d.hears told t) v b
  pub holds : (told : Told) (lane : ℕ) (t : T) (b : Books) → Holds (k.kind t) lane b → Holds (k.kind (d.hears told t)) lane b
  pub pursues : (told : Told) (since : Since) (c : W) (t : T) → d.pursues since c t → d.pursues since c (d.hears told t)
  pub left : (told : Told) (t : T) → d.left (d.hears told t) ≤ d.left t
  pub made : (told : Told) (t : T) (name : Name) → d.made t name → d.made (d.hears told t) name
  pub unmade : (told : Told) (t : T) (name : Name) → d.made (d.hears told t) name → d.made t name
  -- one that is told again what it was told before is as it was
  pub back : (told : Told) (t : T) → d.hears (d.heard t) (d.hears told t) ≡ t
