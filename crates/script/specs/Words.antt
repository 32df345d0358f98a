-- A command as words: its keyword, as it is written, and its fields.
use Rattle.std.specs.Prelude.{◌≡◌, ◌≤◌, ◌^◌, ℕ, List, [], ◌∷◌, codes, Some, slice_get, Result, Ok, Err}
use Rattle.ost_types.specs.Csum.{hex_of}
use Rattle.ost_types.specs.Path.{Path}
use Rattle.repo_layout.specs.RefName.{IsRefName}
use Rattle.repo_layout.specs.RefFile.{IsSum}
use Rattle.ost_forms.specs.declared.tree_item.TreeItem.{TreeItem}
use Rattle.script.specs.Field.{IsField, IsNameField, IsNumber, IsPathField, IsTextField}
use Rattle.script.specs.declared.command.Rev.{Rev}
use Rattle.script.specs.declared.command.Rev.TheVariants.{Ref, Commit}
use Rattle.script.specs.declared.command.Command.{Command}
use Rattle.script.specs.declared.command.Command.TheVariants.{Refs, Status, RevParse, Log, Ls, Cat, Checkout, Reset, DropRef, Prune, Cleanup, Commit as CommitTree}
use Rattle.script.specs.declared.command.CommitLine.{CommitLine}
use Rattle.script.specs.declared.command.Written.{Written}
use Rattle.script.specs.declared.command.Written.TheVariants as written
use Rattle.script.specs.declared.words.Keyword.{Keyword}
use Rattle.script.specs.declared.words.Keyword.TheVariants as word
use Rattle.script.specs.declared.fault.ScriptFault.{ScriptFault}
use Rattle.script.specs.declared.fault.ScriptFault.TheVariants.{BadLine, UnknownTree, NoMemory}

-- the field of a ref's name
pub record IsBranch (field : List ℕ) (name : List ℕ) : Type 0 where
  pub spelled : IsField field name
  pub ref : IsRefName name

-- the field of a commit's 64 digits
pub record IsCommit (field : List ℕ) (sum : List ℕ) : Type 0 where
  pub spelled : IsField field (hex_of sum)
  pub whole : IsSum sum

-- the field of either
abbrev pub IsRev : List ℕ → Rev → Type 0
IsRev field (Ref name) = IsBranch field name
IsRev field (Commit sum) = IsCommit field sum

abbrev pub spelled : Keyword → List ℕ
spelled word.Refs = codes "refs"
spelled word.Status = codes "status"
spelled word.RevParse = codes "rev-parse"
spelled word.Log = codes "log"
spelled word.Ls = codes "ls"
spelled word.Cat = codes "cat"
spelled word.Checkout = codes "checkout"
spelled word.Reset = codes "reset"
spelled word.DropRef = codes "drop"
spelled word.Prune = codes "prune"
spelled word.Cleanup = codes "cleanup"
spelled word.Commit = codes "commit"

abbrev pub keyword_of : Command → Keyword
keyword_of Refs = word.Refs
keyword_of Status = word.Status
keyword_of (RevParse rev) = word.RevParse
keyword_of (Log rev) = word.Log
keyword_of (Ls rev path) = word.Ls
keyword_of (Cat rev path) = word.Cat
keyword_of (Checkout rev name) = word.Checkout
keyword_of (Reset branch commit) = word.Reset
keyword_of (DropRef branch) = word.DropRef
keyword_of (Prune depth) = word.Prune
keyword_of Cleanup = word.Cleanup
keyword_of (CommitTree branch tree subject body time) = word.Commit

-- REV PATH
abbrev pub AreRevPath : List (List ℕ) → Rev → Path → Type 0
AreRevPath fields rev path = (f g : List ℕ) × (fields ≡ f ∷ g ∷ []) × IsRev f rev × IsPathField g path

-- REV NAME
abbrev pub AreRevName : List (List ℕ) → Rev → List ℕ → Type 0
AreRevName fields rev name = (f g : List ℕ) × (fields ≡ f ∷ g ∷ []) × IsRev f rev × IsNameField g name

abbrev pub HasFields : Command → List (List ℕ) → Type 0
HasFields Refs fields = fields ≡ []
HasFields Status fields = fields ≡ []
HasFields (RevParse rev) fields = (f : List ℕ) × (fields ≡ f ∷ []) × IsRev f rev
HasFields (Log rev) fields = (f : List ℕ) × (fields ≡ f ∷ []) × IsRev f rev
HasFields (Ls rev path) fields = AreRevPath fields rev path
HasFields (Cat rev path) fields = AreRevPath fields rev path
HasFields (Checkout rev name) fields = AreRevName fields rev name
HasFields (Reset branch commit) fields = (f g : List ℕ) × (fields ≡ f ∷ g ∷ []) × IsBranch f branch × IsCommit g commit
HasFields (DropRef branch) fields = (f : List ℕ) × (fields ≡ f ∷ []) × IsBranch f branch
HasFields (Prune depth) fields = (f : List ℕ) × (fields ≡ f ∷ []) × IsNumber (2 ^ 32) f depth
HasFields Cleanup fields = fields ≡ []
HasFields (CommitTree branch tree subject body time) fields = ⊥

-- BRANCH TREE SUBJECT BODY TIME
pub record IsCommitLineAt (b n s m t : List ℕ) (line : CommitLine) : Type 0 where
  pub branch : IsBranch b line.branch
  pub tree : IsNumber (2 ^ 32) n line.tree
  pub subject : IsTextField s line.subject
  pub body : IsTextField m line.body
  pub time : IsNumber (2 ^ 64) t line.time

-- the fields of a commit
abbrev pub IsCommitLine : List (List ℕ) → CommitLine → Type 0
IsCommitLine fields line = (b n s m t : List ℕ) × (fields ≡ b ∷ n ∷ s ∷ m ∷ t ∷ []) × IsCommitLineAt b n s m t line

-- the words of a command that stands for itself
pub record IsCommand (words : List (List ℕ)) (command : Command) : Type 0 where
  pub fields : List (List ℕ)
  pub line : words ≡ spelled (keyword_of command) ∷ fields
  pub has : HasFields command fields

-- the words of any command
abbrev pub IsWritten : List (List ℕ) → Written → Type 0
IsWritten words (written.Command command) = IsCommand words command
IsWritten words (written.Commit line) = (fields : List (List ℕ)) × (words ≡ spelled word.Commit ∷ fields) × IsCommitLine fields line

-- the command that is written, where trees have numbers from 0
abbrev pub Resolves : List (List TreeItem) → Written → Command → Type 0
Resolves trees (written.Command command) c = c ≡ command
Resolves trees (written.Commit line) (CommitTree branch tree subject body time) =
    (branch ≡ line.branch) × (slice_get trees line.tree ≡ Some tree.items) × (subject ≡ line.subject) × (body ≡ line.body) × (time ≡ line.time)
Resolves trees (written.Commit line) c = ⊥

-- a commit of a tree whose number is none of so many
abbrev pub IsUnknown : ℕ → Written → ℕ → Type 0
IsUnknown count (written.Command command) n = ⊥
IsUnknown count (written.Commit line) n = (n ≡ line.tree) × (count ≤ n)

abbrev pub AreNoCommand : List (List ℕ) → Type 0
AreNoCommand words = (w : Written) → ¬ (IsWritten words w)

-- A command is one lane; words that are none are a bad first line, and there is no tree to commit.
abbrev pub ReadsWords : List (List ℕ) → Result (List (List Command)) ScriptFault → Type 0
ReadsWords words (Ok lanes) = (command : Command) × (lanes ≡ (command ∷ []) ∷ []) × IsCommand words command
ReadsWords words (Err (BadLine n)) = (n ≡ 1) × AreNoCommand words
ReadsWords words (Err (UnknownTree n)) = (w : Written) × IsWritten words w × IsUnknown 0 w n
ReadsWords words (Err NoMemory) = Unit {0}
ReadsWords words (Err e) = ⊥
