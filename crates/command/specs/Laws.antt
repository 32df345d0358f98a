-- What each family of commands proves.
use Rattle.command.specs.Doing.{Doing}
use Rattle.command.specs.Meaning.{Meaning}
use Rattle.command.specs.Tasks.{TaskSpec}
use Rattle.command.specs.StepLaws.{StepLaws}
use Rattle.command.specs.LockLaws.{LockLaws}
use Rattle.command.specs.HearLaws.{HearLaws}
use Rattle.command.specs.LearnLaws.{LearnLaws}
use Rattle.command.specs.ChangeLaws.{ChangeLaws}
use Rattle.command.specs.AnswerLaws.{AnswerLaws}
use Rattle.command.specs.StoreLaws.{StoreLaws}
use Rattle.command.specs.RemoveLaws.{RemoveLaws}
use Rattle.command.specs.BootLaws.{BootLaws}
use Rattle.command.specs.FolderLaws.{FolderLaws}

pub record CommandLaws {T W A : Type 0} (k : TaskSpec T) (m : Meaning W A) (d : Doing T W A) : Type 0 where
  pub steps : StepLaws k d
  pub locks : LockLaws k d
  pub hears : HearLaws k d
  pub learns : LearnLaws k d
  pub changes : ChangeLaws k m d
  pub answers : AnswerLaws k m d
  pub store : StoreLaws k m d
  pub removes : RemoveLaws k
  pub boots : BootLaws k d
  pub folders : FolderLaws k m d
