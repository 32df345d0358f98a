-- What `cat` knows of a store, and what its steps tell and do.
use Rattle.std.specs.Prelude.{◌≡◌, ◌≢◌, ◌⊎◌, ◌<◌, ◌≤◌, ◌+◌, ◌-◌, ℕ, List, [], ◌∷◌, ◌++◌, length, take, Option, Some, None}
use Rattle.ost_types.specs.declared.node.NodeName.TheVariants.{Leaf}
use Rattle.ost_types.specs.Path.{Name, Path}
use Rattle.ost_forms.specs.declared.body.Body.{Body}
use Rattle.ost_forms.specs.declared.body.Body.TheVariants.{Regular, Symlink}
use Rattle.ost_forms.specs.Commit.{CommitParts}
use Rattle.ost_forms.specs.DirTree.{Entries}
use Rattle.fs_trait.specs.View.{Disk}
use Rattle.repo_model.specs.Objects.{Store, Stores}
use Rattle.repo_model.specs.Trees.{HasCommit, HasFile, HasFolder, TreeShows}
use Rattle.read_command.specs.declared.answer.ReadAnswer.{ReadAnswer}
use Rattle.read_command.specs.declared.answer.ReadAnswer.TheVariants as answer
use Rattle.read_command.specs.declared.cat.Cat.{Cat}
use Rattle.read_command.specs.declared.cat.Place.{Place}
use Rattle.read_command.specs.declared.cat.Place.TheVariants.{Commit, Folder, File}
use Rattle.read_command.specs.declared.look.Ask.TheVariants as ask
use Rattle.read_command.specs.Answers.{SaysCat}
use Rattle.read_command.specs.Entering.{HasNone}
use Rattle.read_command.specs.Fits.{Fits}
use Rattle.read_command.specs.Ways.{Way}

-- the folder is the one at so many names of the path
pub record HasCome (S : Store) (commit : List ℕ) (path : Path) (tree meta : List ℕ) (depth : ℕ) : Type 0 where
  pub deep : depth ≤ length path
  pub parts : CommitParts
  pub here : HasCommit S commit parts
  pub way : Way S parts.tree parts.meta (take depth path) tree meta

abbrev pub KnowsAt : Place → Store → Cat → Type 0
KnowsAt Commit S c = Unit {0}
KnowsAt (Folder tree meta depth) S c = HasCome S c.commit c.path tree meta depth
KnowsAt (File sum) S c = TreeShows S c.commit c.path (Leaf sum)

abbrev pub CatKnows : Store → Cat → Type 0
CatKnows S c = KnowsAt c.place S c

abbrev pub CatTells : Disk → Cat → Cat → Option ReadAnswer → Type 0
CatTells d old new None = CatKnows (Stores d) new
CatTells d old new (Some a) = SaysCat d old.limits.content old.commit old.path a

-- at most so many steps go on, where the path has so many names
abbrev pub cat_left : Place → ℕ → ℕ
cat_left Commit names = names + 3
cat_left (Folder tree meta depth) names = (names - depth) + 2
cat_left (File sum) names = 1

abbrev pub IsCatStepped : Cat → Cat → Option ReadAnswer → Type 0
IsCatStepped old new None = (new ≡ record old { place = new.place }) × (cat_left new.place (length old.path) < cat_left old.place (length old.path))
IsCatStepped old new (Some a) = Fits (ask.Cat old.path) old.commit a

-- the next name of the path, and what comes behind it
pub record Splits (path : Path) (depth : ℕ) (x : Name) (rest : Path) : Type 0 where
  pub cut : path ≡ take depth path ++ x ∷ rest
  pub more : take (depth + 1) path ≡ take depth path ++ x ∷ []

-- it goes on by the next name, to a folder or to a file that is the last
abbrev pub EntersBy : Entries → ℕ → Cat → Cat → Name → Path → Type 0
EntersBy e depth old new x rest =
    ((t : List ℕ) × (m : List ℕ) × HasFolder e x t m × (new ≡ record old { place = Folder t m (depth + 1) }))
    ⊎ ((sum : List ℕ) × HasFile e x sum × (rest ≡ []) × (new ≡ record old { place = File sum }))

-- Each answer of going on with these entries.
abbrev pub Enters : Entries → ℕ → Cat → Cat → Option ReadAnswer → Type 0
Enters e depth old new None = (x : Name) × (rest : Path) × Splits old.path depth x rest × EntersBy e depth old new x rest
Enters e depth old new (Some (answer.NoPath p)) =
    (p ≡ old.path) × (x : Name) × (rest : Path) × Splits old.path depth x rest × (HasNone e x ⊎ ((sum : List ℕ) × HasFile e x sum × (rest ≢ [])))
Enters e depth old new (Some a) = ⊥

-- what is told of a leaf at the path
abbrev pub TellsBody : Path → Body → ReadAnswer → Type 0
TellsBody path (Regular bytes) a = a ≡ answer.Content bytes
TellsBody path (Symlink target) a = a ≡ answer.NotFile path
