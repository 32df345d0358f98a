-- What each answer says of a disk.
use Rattle.std.specs.Prelude.{◌≡◌, ◌⊎◌, ◌++◌, ℕ, List, []}
use Rattle.ost_types.specs.declared.limits.Limits.{Limits}
use Rattle.ost_types.specs.declared.node.NodeName.{NodeName}
use Rattle.ost_types.specs.declared.node.NodeName.TheVariants.{Leaf}
use Rattle.ost_types.specs.declared.object.Kind.TheVariants as kind
use Rattle.ost_types.specs.declared.object.ObjName.{ObjName}
use Rattle.ost_types.specs.Path.{Path}
use Rattle.ost_forms.specs.declared.body.Body.TheVariants.{Regular}
use Rattle.ost_forms.specs.Commit.{CommitParts}
use Rattle.fs_trait.specs.View.{Disk}
use Rattle.repo_layout.specs.RefFile.{IsSum}
use Rattle.repo_model.specs.Objects.{Store, Stores, Has, path_of}
use Rattle.repo_model.specs.Trees.{HasCommit, Names, Shows, TreeShows, name_of}
use Rattle.tree_read.specs.Looks.{IsAbsent, IsDamaged}
use Rattle.tree_read.specs.Order.{FirstAbsent, FirstDamaged}
use Rattle.tree_read.specs.Whole.{AtCommitOr}
use Rattle.ref_command.specs.declared.look_up.Found.TheVariants.{Missing, Partial}
use Rattle.ref_command.specs.Found.{IsFound}
use Rattle.script.specs.declared.rows.LogRow.{LogRow}
use Rattle.read_command.specs.declared.answer.ReadAnswer.{ReadAnswer}
use Rattle.read_command.specs.declared.answer.ReadAnswer.TheVariants as answer
use Rattle.read_command.specs.declared.look.Ask.{Ask}
use Rattle.read_command.specs.declared.look.Ask.TheVariants as ask
use Rattle.read_command.specs.Chains.{IsChain, IsLog}
use Rattle.read_command.specs.Files.{HasBody, IsNoFile}
use Rattle.read_command.specs.Listing.{IsListing}

-- Nothing is shown at the path, nor named there, and not for want of an object: the commit is there, and so are the entries of
-- each folder above the path.
pub record IsNowhere (S : Store) (content : ℕ) (commit : List ℕ) (path : Path) : Type 0 where
  pub parts : CommitParts
  pub here : HasCommit S commit parts
  pub above : (p rest : Path) (o : ObjName) → path ≡ p ++ rest → Names S parts.tree parts.meta p o → o.kind ≡ kind.DirTree → Has S content o
  pub unnamed : (o : ObjName) → Names S parts.tree parts.meta path o → ⊥
  pub none : (n : NodeName) → Shows S parts.tree parts.meta path n → ⊥

-- the object is the commit itself, or its tree names it
abbrev pub IsOfCommit : Store → List ℕ → ObjName → Type 0
IsOfCommit S commit o = (o ≡ name_of kind.Commit commit) ⊎ ((c : CommitParts) × HasCommit S commit c × (p : Path) × Names S c.tree c.meta p o)

-- Of `cat`: the path shows a file that holds the bytes; nothing; a folder or a link; or an object on the way is missing or damaged.
abbrev pub SaysCat : Disk → ℕ → List ℕ → Path → ReadAnswer → Type 0
SaysCat d content commit path (answer.Content bytes) = (sum : List ℕ) × TreeShows (Stores d) commit path (Leaf sum) × HasBody (Stores d) content sum (Regular bytes)
SaysCat d content commit path (answer.NoPath p) = (p ≡ path) × IsNowhere (Stores d) content commit path
SaysCat d content commit path (answer.NotFile p) = (p ≡ path) × (n : NodeName) × TreeShows (Stores d) commit path n × IsNoFile (Stores d) content n
SaysCat d content commit path (answer.Lacking p) = (o : ObjName) × (p ≡ path_of o) × IsOfCommit (Stores d) commit o × (IsAbsent d o ⊎ IsDamaged d content o)
SaysCat d content commit path a = ⊥

-- the first object of the commit, in the order of its paths, that isn't there
abbrev pub IsFirstAbsent : Disk → Limits → List ℕ → ObjName → Type 0
IsFirstAbsent d limits commit o = AtCommitOr d commit ((o ≡ name_of kind.Commit commit) × IsAbsent d o) (λ tree meta. FirstAbsent d limits tree meta o)

-- and the first that something else than it stands for
abbrev pub IsFirstDamaged : Disk → Limits → List ℕ → ObjName → Type 0
IsFirstDamaged d limits commit o = AtCommitOr d commit ((o ≡ name_of kind.Commit commit) × IsDamaged d limits.content o) (λ tree meta. FirstDamaged d limits tree meta o)

-- Of `ls`: the rows are those of the path and of all below it; nothing is at the path; or the first object of the commit that is
-- missing or damaged.
abbrev pub SaysLs : Disk → Limits → List ℕ → Path → ReadAnswer → Type 0
SaysLs d limits commit path (answer.Ls rows) = IsListing (Stores d) limits commit path rows.items
SaysLs d limits commit path (answer.NoPath p) = (p ≡ path) × IsNowhere (Stores d) limits.content commit path
SaysLs d limits commit path (answer.Lacking p) = (o : ObjName) × (p ≡ path_of o) × (IsFirstAbsent d limits commit o ⊎ IsFirstDamaged d limits commit o)
SaysLs d limits commit path a = ⊥

-- the commit itself isn't there, or a commit of its log is damaged
abbrev pub IsLackingNext : Disk → ℕ → List ℕ → ObjName → Type 0
IsLackingNext d content commit o =
    (rows : List LogRow) × (next : List ℕ) × IsSum next × IsChain (Stores d) commit rows next × (o ≡ name_of kind.Commit next) × (((rows ≡ []) × IsAbsent d o) ⊎ IsDamaged d content o)

-- Of `log`: the rows are the commit's log; or a commit of it is damaged, or the commit itself isn't there.
abbrev pub SaysLog : Disk → ℕ → List ℕ → ReadAnswer → Type 0
SaysLog d content commit (answer.Log rows) = IsLog d commit rows.items
SaysLog d content commit (answer.Lacking p) = (o : ObjName) × (p ≡ path_of o) × IsLackingNext d content commit o
SaysLog d content commit a = ⊥

abbrev pub SaysOf : Disk → Limits → List ℕ → Ask → ReadAnswer → Type 0
SaysOf d limits commit (ask.Cat path) a = SaysCat d limits.content commit path a
SaysOf d limits commit (ask.Ls path) a = SaysLs d limits commit path a
SaysOf d limits commit ask.Log a = SaysLog d limits.content commit a

-- Of each: the commit isn't there, or has a mark.
abbrev pub SaysStopped : Disk → List ℕ → ReadAnswer → Type 0
SaysStopped d commit (answer.NoCommit c) = (c ≡ commit) × IsFound d commit Missing
SaysStopped d commit (answer.Partial c) = (c ≡ commit) × IsFound d commit Partial
SaysStopped d commit a = ⊥

abbrev pub Says : Disk → Limits → List ℕ → Ask → ReadAnswer → Type 0
Says d limits commit a said = SaysStopped d commit said ⊎ SaysOf d limits commit a said
