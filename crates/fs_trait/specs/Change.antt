-- What a change writes, and what a task needs of the view.
use Rattle.std.specs.Prelude.{◌≡◌, ◌⊎◌, ◌≤◌, ℕ, IsTrue, List, Option, Some}
use Rattle.ost_types.specs.declared.meta.Meta.{Meta}
use Rattle.ost_types.specs.Path.{Path, is_below}
use Rattle.fs_trait.specs.declared.types.Value.TheVariants.{File}
use Rattle.fs_trait.specs.View.{Disk, View}
use Rattle.fs_trait.specs.Image.{Holds, Image}
use Rattle.fs_trait.specs.Effect.{IsFresh}
use Rattle.fs_trait.specs.Seen.{Seen, Vacant, Leaf, shows, MayBe, IsDirectory}

-- The change writes nothing but what W names: all that a path may show it might show before, or it is written there.
pub record Writes (W : Path → Seen → Type 0) (old new : View) : Type 0 where
  pub only : (p : Path) (s : Seen) → MayBe new p s → MayBe old p s ⊎ W p s
  pub now : (p : Path) → (shows new.now p ≡ shows old.now p) ⊎ W p (shows new.now p)

-- no write: a sync, a read
abbrev pub Nothing : Path → Seen → Type 0
Nothing p s = ⊥

-- one of these at a path
abbrev pub At : Path → (Seen → Type 0) → Path → Seen → Type 0
At at S p s = (p ≡ at) × S s

abbrev pub Moves : Path → Path → (Seen → Type 0) → Path → Seen → Type 0
Moves from to S p s = ((p ≡ to) × S s) ⊎ ((p ≡ from) × (s ≡ Vacant))

-- a file of this inode, with any bytes
abbrev pub OfInode : ℕ → Meta → Seen → Type 0
OfInode n m s = (b : List ℕ) × (s ≡ Leaf n m b)

-- other bytes, at each name of an inode
abbrev pub Extends : View → ℕ → Path → Seen → Type 0
Extends v n p s = Holds v p (File n) × OfInode n (v.now.meta n) s

abbrev pub Both : (Path → Seen → Type 0) → (Path → Seen → Type 0) → Path → Seen → Type 0
Both W X p s = W p s ⊎ X p s

-- What is needed of the view: of all that a crash may leave, and of what is there now.
pub record Meets (Firm Here : Path → Seen → Type 0) (v : View) : Type 0 where
  pub firm : (p : Path) (s : Seen) → MayBe v p s → Firm p s
  pub here : (p : Path) → Here p (shows v.now p)

-- whatever is written meets the claim
abbrev pub Harmless : (Path → Seen → Type 0) → (Path → Seen → Type 0) → Type 0
Harmless W Claim = (p : Path) (s : Seen) → W p s → Claim p s

-- no claim
abbrev pub Any : Path → Seen → Type 0
Any p s = Unit {0}

-- claims: on one path; that folders lead to a path; that an inode stands nowhere else; that an inode has these bytes there
abbrev pub Says : Path → (Seen → Type 0) → Path → Seen → Type 0
Says q S p s = p ≡ q → S s

abbrev pub LeadsTo : Path → Path → Seen → Type 0
LeadsTo folder p s = IsTrue (is_below p folder) → IsDirectory s

abbrev pub Own : ℕ → Path → Path → Seen → Type 0
Own n q p s = (m : Meta) (b : List ℕ) → s ≡ Leaf n m b → p ≡ q

abbrev pub Fixed : Path → ℕ → List ℕ → Path → Seen → Type 0
Fixed q n c p s = (m : Meta) (b : List ℕ) → p ≡ q → s ≡ Leaf n m b → b ≡ c

-- where a file that is written comes from: it is new, or stands at a path already
abbrev pub IsNewFile : View → Seen → Type 0
IsNewFile v s = (n : ℕ) × (m : Meta) × (b : List ℕ) × (s ≡ Leaf n m b) × IsFresh n v

abbrev pub IsFileOf : View → Path → Seen → Type 0
IsFileOf v from s = (n : ℕ) × (m : Meta) × (b : List ℕ) × (s ≡ Leaf n m b) × (v.now.at from ≡ File n)

-- At most one changing call: a crash since t may have left what it may have left before, or what it may leave now.
pub record Passes (before now : ℕ) (past since : ℕ → Disk → Type 0) (view : Option View) : Type 0 where
  pub later : before ≤ now
  pub nothing_else : (t : ℕ) (d : Disk) → since t d → past t d ⊎ ((w : View) × (view ≡ Some w) × Image w d)

abbrev pub Left : (ℕ → View → Type 0) → ℕ → Disk → Type 0
Left was t d = (v : View) × was t v × Image v d
