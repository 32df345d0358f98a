-- The first step of a command.
use Rattle.std.specs.Prelude.{◌≡◌, ◌+◌, ◌*◌, ℕ, [], length}
use Rattle.fs_trait.specs.View.{Disk}
use Rattle.tree_read.specs.Reading.{unread}
use Rattle.ref_command.specs.declared.look_up.Found.TheVariants.{Whole}
use Rattle.ref_command.specs.Found.{IsFound}
use Rattle.read_command.specs.declared.cat.Place.TheVariants as place
use Rattle.read_command.specs.declared.command.ReadCommand.{ReadCommand}
use Rattle.read_command.specs.declared.command.ReadCommand.TheVariants.{Cat, Ls, Log, Ended}
use Rattle.read_command.specs.declared.look.Ask.{Ask}
use Rattle.read_command.specs.declared.look.Ask.TheVariants as ask
use Rattle.read_command.specs.declared.look.Look as look
use Rattle.read_command.specs.Answers.{SaysStopped}
use Rattle.read_command.specs.Fits.{Fits}

-- at most so many steps go on
abbrev pub ask_left : Ask → ℕ → ℕ
ask_left (ask.Cat path) paths = length path + 4
ask_left (ask.Ls path) paths = 2 * paths + 4
ask_left ask.Log paths = 18446744073709551617

abbrev pub look_left : look.Look → ℕ
look_left l = ask_left l.ask l.limits.paths

-- what was asked begins
abbrev pub BeginsBy : Ask → look.Look → ReadCommand → Type 0
BeginsBy (ask.Cat path) l (Cat c) = c ≡ record { alloc = l.alloc; limits = l.limits; commit = l.commit; path = path; place = place.Commit }
BeginsBy (ask.Ls path) l (Ls s) = s ≡ record { alloc = l.alloc; path = path; task = unread l.commit l.limits }
BeginsBy ask.Log l (Log g) = (g.limits ≡ l.limits) × (g.commit ≡ l.commit) × (g.rows.items ≡ []) × (g.next ≡ l.commit)
BeginsBy a l t = ⊥

abbrev pub Begins : look.Look → ReadCommand → Type 0
Begins l t = BeginsBy l.ask l t

abbrev pub IsLookStepped : look.Look → ReadCommand → Type 0
IsLookStepped l (Ended a) = Fits l.ask l.commit a
IsLookStepped l t = Begins l t

-- a commit that isn't whole is answered; else what was asked begins
abbrev pub LookTells : Disk → look.Look → ReadCommand → Type 0
LookTells d l (Ended a) = SaysStopped d l.commit a
LookTells d l t = Begins l t × IsFound d l.commit Whole
