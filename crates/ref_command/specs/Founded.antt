-- What is known of the commit that a ref is to name.
use Rattle.std.specs.Prelude.{ℕ, List, Option, Some, None}
use Rattle.fs_trait.specs.View.{View}
use Rattle.fs_trait.specs.Seen.{shows}
use Rattle.repo_layout.specs.Paths.{mark_path}
use Rattle.layout_rules.specs.InLayout.{IsSuited}
use Rattle.rely_guarantee.specs.Lasting.{IsFinishedNow, StaysFinished}
use Rattle.ref_command.specs.declared.look_up.Found.{Found}

-- before it is looked up, that nothing but a mark stands where one may; once it was found whole, that it is so now
abbrev pub IsKnownBy : Option Found → List ℕ → View → Type 0
IsKnownBy None commit v = IsSuited (mark_path commit) (shows v.now (mark_path commit))
IsKnownBy (Some found) commit v = IsFinishedNow v commit

-- what a ref is set to lasts
abbrev pub IsFounded : Option (List ℕ) → View → Type 0
IsFounded None v = Unit {0}
IsFounded (Some commit) v = StaysFinished v commit
