-- What each step of putting a copy needs, writes and is refused for.
use Rattle.std.specs.Prelude.{◌≡◌, ◌≢◌, ℕ, true, List, Some}
use Rattle.ost_types.specs.Path.{Name, Path, is_in, under}
use Rattle.fs_trait.specs.declared.types.FsErr.{FsErr}
use Rattle.fs_trait.specs.declared.types.FsErr.TheVariants.{Failed, NoMemory, Exists}
use Rattle.fs_trait.specs.declared.types.Value.TheVariants.{File}
use Rattle.fs_trait.specs.View.{View}
use Rattle.fs_trait.specs.Image.{reads}
use Rattle.fs_trait.specs.Seen.{Seen, Leaf, shows, IsDirectory}
use Rattle.fs_trait.specs.Change.{Moves}
use Rattle.staging.specs.declared.phase.Phase.TheVariants as staging
use Rattle.file_copy.specs.declared.putting.PutPhase.{PutPhase}
use Rattle.file_copy.specs.declared.putting.PutPhase.TheVariants.{Compare, Copy, Replace, Ended}
use Rattle.file_copy.specs.Comparing as compare
use Rattle.file_copy.specs.Comparing.{AreSame}
use Rattle.file_copy.specs.Copying.{Copying}
use Rattle.file_copy.specs.CopySteps as copy
use Rattle.file_copy.specs.Putting.{IsMade, Putting}

-- the staged copy, with its attributes and all the bytes that are copied
abbrev pub IsCopy : Copying → View → Seen → Type 0
IsCopy c v s = (n : ℕ) × (b : List ℕ) × (s ≡ Leaf n c.meta b) × (reads v.now c.from ≡ Some b) × (v.now.at c.stage ≡ File n)

-- what the next step may write
abbrev pub writes_in : PutPhase → Putting → View → Path → Seen → Type 0
writes_in Compare t v p s = ⊥
writes_in Copy t v p s = copy.WritesOf t.copying v p s
writes_in Replace t v p s = Moves t.copying.stage t.at (IsCopy t.copying v) p s
writes_in Ended t v p s = ⊥

abbrev pub WritesOf : Putting → View → Path → Seen → Type 0
WritesOf t v = writes_in t.phase t v

-- the target is a name in a folder, and neither the staging path nor where the bytes come from
pub record IsPlaced (from stage at : Path) : Type 0 where
  pub inside : (f : Path) × (x : Name) × (at ≡ under f x)
  pub apart : stage ≢ at
  pub other : from ≢ at

abbrev pub needs_in : PutPhase → Putting → View → Type 0
needs_in Compare t v = compare.Needs t.comparing v.now × copy.Needs t.copying v
needs_in Copy t v = copy.Needs t.copying v
needs_in Replace t v = copy.Needs t.copying v × (t.copying.phase ≡ staging.Ended)
needs_in Ended t v = AreSame v.now t.at t.copying.from

-- What the next step needs: the folder of the target is there, and what the comparison and the copying need.
pub record Needs (t : Putting) (v : View) : Type 0 where
  pub made : IsMade t
  pub placed : IsPlaced t.copying.from t.copying.stage t.at
  pub home : (p : Path) → is_in p t.at ≡ true → IsDirectory (shows v.now p)
  pub meets : needs_in t.phase t v

-- Why a step isn't done: the call failed or wanted for memory, or a folder stands where the copy is to go.
abbrev pub refuses_in : PutPhase → Putting → View → FsErr → Type 0
refuses_in ph t v Failed = Unit {0}
refuses_in ph t v NoMemory = Unit {0}
refuses_in Replace t v Exists = IsDirectory (shows v.now t.at)
refuses_in ph t v e = ⊥

abbrev pub Refuses : Putting → View → FsErr → Type 0
Refuses t = refuses_in t.phase t
