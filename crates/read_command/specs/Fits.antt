-- Which answers a command may give, whatever the disk is.
use Rattle.std.specs.Prelude.{◌≡◌, ℕ, List, Option, Some, None}
use Rattle.read_command.specs.declared.answer.ReadAnswer.{ReadAnswer}
use Rattle.read_command.specs.declared.answer.ReadAnswer.TheVariants as answer
use Rattle.read_command.specs.declared.look.Ask.{Ask}
use Rattle.read_command.specs.declared.look.Ask.TheVariants as ask
use Rattle.read_command.specs.Asked.{Asked}

-- one of its own about the commit and the path that were asked for
abbrev pub Fits : Ask → List ℕ → ReadAnswer → Type 0
Fits a commit (answer.NoCommit named) = named ≡ commit
Fits a commit (answer.Partial named) = named ≡ commit
Fits a commit (answer.Lacking path) = Unit {0}
Fits (ask.Cat path) commit (answer.Content bytes) = Unit {0}
Fits (ask.Cat path) commit (answer.NoPath there) = there ≡ path
Fits (ask.Cat path) commit (answer.NotFile there) = there ≡ path
Fits (ask.Ls path) commit (answer.Ls rows) = Unit {0}
Fits (ask.Ls path) commit (answer.NoPath there) = there ≡ path
Fits ask.Log commit (answer.Log rows) = Unit {0}
Fits a commit said = ⊥

-- after its end nothing is asked of it
abbrev pub IsFitting : Option Asked → ReadAnswer → Type 0
IsFitting None said = Unit {0}
IsFitting (Some q) said = Fits q.ask q.commit said
