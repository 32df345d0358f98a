-- What every view of a running system keeps of the store.
use Rattle.std.specs.Prelude.{◌≡◌, ◌≢◌, ◌⊎◌, ℕ, List, Contains, Some}
use Rattle.std.specs.List.Sorted.{IsStrictlySortedBy}
use Rattle.ost_types.specs.declared.limits.Limits.{Limits}
use Rattle.ost_types.specs.declared.object.Kind.TheVariants.{Commit}
use Rattle.ost_types.specs.declared.object.ObjName.{ObjName}
use Rattle.ost_objects.specs.Object.{IsNamed, HasForm}
use Rattle.fs_trait.specs.View.{View}
use Rattle.fs_trait.specs.Seen.{Seen, Vacant, MayBe}
use Rattle.repo_layout.specs.Paths.{config_path, mark_path, ref_path}
use Rattle.repo_layout.specs.RefFile.{IsSum}
use Rattle.repo_model.specs.Objects.{Store, object_in, path_of}
use Rattle.repo_model.specs.Trees.{name_of}
use Rattle.repo_model.specs.Whole.{Complete}
use Rattle.obj_store.specs.Listing.{name_cmp}
use Rattle.tree_build.specs.Objects.{Object}
use Rattle.rely_guarantee.specs.Disks.{IsLeaf, Says}
use Rattle.rely_guarantee.specs.Lasting.{AlwaysStores, IsSafe, StaysFinished}
use Rattle.rely_guarantee.specs.State.{RefOf}
use Rattle.durable_store.specs.Brought.{AreBrought, IsHeldUp, MakeUp}

-- What is shown is the object of that name, and reads as its kind, where content of a file has at most so many bytes.
pub record IsSoundSeen (content : ℕ) (name : ObjName) (s : Seen) : Type 0 where
  pub bytes : List ℕ
  pub holds : object_in name.kind s ≡ Some bytes
  pub named : IsNamed name bytes
  pub formed : HasForm name.kind content bytes

-- The names, each once and ascending, of all objects at whose paths a crash may leave something; and maybe of others.
pub record AreListed (names : List ObjName) (v : View) : Type 0 where
  pub ascending : IsStrictlySortedBy name_cmp names
  pub sums : (name : ObjName) → Contains names name → IsSum name.csum
  pub all : (name : ObjName) → IsSum name.csum → (s : Seen) → MayBe v (path_of name) s → s ≢ Vacant → Contains names name

-- each crash leaves a mark of the commit,
abbrev pub IsAlwaysMarked : View → List ℕ → Type 0
IsAlwaysMarked v commit = (s : Seen) → MayBe v (mark_path commit) s → IsLeaf s

-- and none leaves its object
abbrev pub IsNeverThere : View → List ℕ → Type 0
IsNeverThere v commit = (s : Seen) → MayBe v (path_of (name_of Commit commit)) s → s ≡ Vacant

-- Brought bytes make up the commit, and no crash leaves an object of its tree away.
pub record IsSealed (limits : Limits) (brings : Store) (v : View) (commit : List ℕ) : Type 0 where
  pub objects : List Object
  pub brought : AreBrought brings objects
  pub is : MakeUp limits objects commit
  pub safe : (o : Object) → Contains objects o → o.name.kind ≢ Commit → IsSafe v o.name

-- the objects other than commits that each crash leaves, and these bytes as the commit
abbrev pub Below : View → List ℕ → List ℕ → Store
Below v commit bytes name b = ((name.kind ≢ Commit) × AlwaysStores v name b) ⊎ ((name ≡ name_of Commit commit) × (b ≡ bytes))

-- Where a crash leaves the commit at all it has these bytes, and with them it is whole in objects that each crash leaves.
pub record IsWholeIfThere (limits : Limits) (v : View) (commit : List ℕ) : Type 0 where
  pub bytes : List ℕ
  pub only : (s : Seen) → MayBe v (path_of (name_of Commit commit)) s → s ≢ Vacant → object_in Commit s ≡ Some bytes
  pub named : IsNamed (name_of Commit commit) bytes
  pub whole : Complete (Below v commit bytes) limits commit

-- Brought bytes make up the commit, and it is held up.
pub record IsHeld (limits : Limits) (brings : Store) (v : View) (commit : List ℕ) : Type 0 where
  pub objects : List Object
  pub brought : AreBrought brings objects
  pub is : MakeUp limits objects commit
  pub held : IsHeldUp v objects commit

-- Wherever a crash leaves the commit without a mark, all that it names is there: it is whole in objects that each crash leaves, or
-- is made up of brought bytes and held up. The commit itself needn't be there.
abbrev pub IsKeptWhole : Limits → Store → View → List ℕ → Type 0
IsKeptWhole limits brings v commit = IsAlwaysMarked v commit ⊎ IsNeverThere v commit ⊎ IsWholeIfThere limits v commit ⊎ IsHeld limits brings v commit

-- Whatever a crash leaves of the store is sound: each object is what its name says, and has one of these names; each commit without a
-- mark is whole; each ref names a commit that lasts; and of the configuration this is so.
pub record StoreStands (limits : Limits) (brings : Store) (config : Seen → Type 0) (names : List ObjName) (v : View) : Type 0 where
  pub objects : (name : ObjName) → IsSum name.csum → (s : Seen) → MayBe v (path_of name) s → s ≢ Vacant → IsSoundSeen limits.content name s
  pub listed : AreListed names v
  pub commits : (commit : List ℕ) → IsSum commit → IsKeptWhole limits brings v commit
  pub founded : (name commit : List ℕ) (s : Seen) → MayBe v (ref_path name) s → Says (RefOf name) (Some commit) s → StaysFinished v commit
  pub settled : (s : Seen) → MayBe v config_path s → config s
