-- A script's command as one of its family.
use Rattle.rely_guarantee.specs.declared.either.Either.TheVariants.{Left, Right}
use Rattle.list_family.specs.declared.words.ListWords.TheVariants as list
use Rattle.read_command.specs.declared.look.Ask.TheVariants as ask
use Rattle.read_family.specs.declared.words.ReadWords.{ReadWords}
use Rattle.ref_family.specs.declared.words.RefWords.TheVariants as ref
use Rattle.script.specs.declared.command.Command.{Command}
use Rattle.script.specs.declared.command.Command.TheVariants.{Refs, Status, RevParse, Log, Ls, Cat, Checkout, Reset, DropRef, Commit, Prune, Cleanup}
use Rattle.commands.specs.Family.{Words}

abbrev pub reads : ReadWords → Words
reads words = Left (Right words)

abbrev pub words_of : Command → Words
words_of (RevParse rev) = Left (Left (ref.RevParse rev))
words_of (Reset branch commit) = Left (Left (ref.Reset branch commit))
words_of (DropRef branch) = Left (Left (ref.DropRef branch))
words_of (Log rev) = reads (record { rev = rev; ask = ask.Log })
words_of (Ls rev path) = reads (record { rev = rev; ask = ask.Ls path })
words_of (Cat rev path) = reads (record { rev = rev; ask = ask.Cat path })
words_of (Commit branch tree subject body time) = Right (Left (record { branch = branch; tree = tree; subject = subject; body = body; time = time }))
words_of (Checkout rev name) = Right (Right (Left (Left (record { rev = rev; name = name }))))
words_of Cleanup = Right (Right (Left (Right (record {}))))
words_of Refs = Right (Right (Right (Left list.Refs)))
words_of Status = Right (Right (Right (Left list.Status)))
words_of (Prune depth) = Right (Right (Right (Right (record { depth = depth }))))
