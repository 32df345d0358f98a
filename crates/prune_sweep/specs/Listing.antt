-- How far the names of a store are listed, as plain data.
use Rattle.std.specs.Prelude.{◌≡◌, ◌+◌, ◌<◌, ℕ, List, Result, Ok, Err}
use Rattle.ost_types.specs.declared.object.ObjName.{ObjName}
use Rattle.fs_trait.specs.declared.task.StepResult.{StepResult}
use Rattle.fs_trait.specs.declared.task.StepResult.TheVariants as turn
use Rattle.fs_trait.specs.declared.types.FsErr.{FsErr}

pub record Listed : Type 0 where
  pub names : List ObjName
  -- the folders of sums that begin with a lesser byte than this are listed
  pub first : ℕ

-- Each step lists one folder more, and at the end there is none.
abbrev pub IsListed : Listed → Result (StepResult (Unit {0})) FsErr → Listed → Type 0
IsListed old (Ok turn.More) new = (new.first ≡ old.first + 1) × (old.first < 256)
IsListed old (Ok (turn.Done x)) new = (new ≡ old) × (old.first ≡ 256)
IsListed old (Err e) new = new ≡ old
