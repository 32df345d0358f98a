-- What the answers of commands say.
use Rattle.std.specs.Prelude.{◌≡◌, ◌≢◌, ◌<◌, ℕ, List, Option, None}
use Rattle.fs_trait.specs.View.{View}
use Rattle.repo_layout.specs.RefName.{IsRefName}
use Rattle.ref_room.specs.Clash.{IsLeastClash}
use Rattle.ref_store.specs.Steps.{HasValue}
use Rattle.ref_command.specs.declared.answer.RefAnswer.{RefAnswer}
use Rattle.ref_command.specs.declared.answer.RefAnswer.TheVariants as answer
use Rattle.rely_guarantee.specs.Laws.{MakeDurable}
use Rattle.ref_command.specs.declared.command.RefCommand.{RefCommand}
use Rattle.ref_command.specs.declared.command.RefCommand.TheVariants.{Parse, Reset, Change}
use Rattle.ref_command.specs.declared.look_up.Found.TheVariants.{Missing, Partial, Whole}
use Rattle.ref_command.specs.Found.{IsFound}
use Rattle.ref_command.specs.Kinds.{event, ref_kind}
use Rattle.ref_command.specs.Commands.{removal}

-- the name and the value that the command's ref was to have
abbrev pub IsOf : RefCommand → List ℕ → Option (List ℕ) → Type 0
IsOf (Change work) name seen = (work.task.name ≡ name) × (work.task.seen ≡ seen)
IsOf t name seen = ⊥

-- the step settled the change of the command's ref
abbrev pub MakesDurable : RefCommand → Type 0
MakesDurable (Change work) = ref_kind work ≡ MakeDurable (event work.task)
MakesDurable t = ⊥

-- what is known of a command that begins
abbrev pub Begins : ℕ → RefCommand → Type 0
Begins lane (Parse look) = Unit {0}
Begins lane (Reset look plan) = (plan.lane ≡ lane) × (lane < 16) × IsRefName plan.name × (look.found ≡ None) × (look.commit ≡ plan.commit)
Begins lane (Change work) = (name : List ℕ) × (seen : List ℕ) × (work ≡ removal lane name seen) × (lane < 16) × IsRefName name

-- Over the view before the last step: what was found of the commit; the ref's value, which isn't the one
-- that it was to have; the least ref that can't stand beside it; or, at the end of a change, that the step settled it.
abbrev pub Says : RefAnswer → RefCommand → View → View → Type 0
Says (answer.Commit commit) t v w = IsFound v.now commit Whole
Says (answer.NoCommit commit) t v w = IsFound v.now commit Missing
Says (answer.Partial commit) t v w = IsFound v.now commit Partial
Says (answer.RefMoved seen now) t v w = (name : List ℕ) × IsOf t name seen × HasValue v.now name now × (now ≢ seen)
Says (answer.RefClash other) t v w = (name : List ℕ) × (seen : Option (List ℕ)) × IsOf t name seen × IsLeastClash v.now name other
Says answer.Changed t v w = MakesDurable t
Says answer.NoRef t v w = ⊥
