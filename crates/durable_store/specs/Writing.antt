-- What a step may write of the store.
use Rattle.std.specs.Prelude.{◌≡◌, ◌≢◌, ◌⊎◌, ◌+◌, ℕ, List, length, Contains, Some}
use Rattle.ost_types.specs.declared.limits.Limits.{Limits}
use Rattle.ost_types.specs.declared.object.Kind.TheVariants.{Commit}
use Rattle.ost_types.specs.declared.object.ObjName.{ObjName}
use Rattle.ost_types.specs.Path.{Path}
use Rattle.fs_trait.specs.View.{View}
use Rattle.fs_trait.specs.Seen.{Seen, Vacant, MayBe}
use Rattle.repo_layout.specs.Paths.{config_path, mark_path, ref_path}
use Rattle.repo_layout.specs.RefFile.{IsSum}
use Rattle.repo_model.specs.Objects.{Store, path_of}
use Rattle.repo_model.specs.Trees.{name_of}
use Rattle.rely_guarantee.specs.Disks.{IsLeaf, Says}
use Rattle.rely_guarantee.specs.Lasting.{StaysFinished}
use Rattle.rely_guarantee.specs.State.{RefOf}
use Rattle.durable_store.specs.Standing.{IsAlwaysMarked, IsSealed, IsSoundSeen, IsWholeIfThere}

-- Neither the commit's object is written, nor does a mark of it go.
pub record SparesCommit (W : Path → Seen → Type 0) (commit : List ℕ) : Type 0 where
  pub object : (s : Seen) → W (path_of (name_of Commit commit)) s → ⊥
  pub mark : (s : Seen) → W (mark_path commit) s → IsLeaf s

-- The commit is marked, and the mark stays.
pub record StaysMarked (v : View) (W : Path → Seen → Type 0) (commit : List ℕ) : Type 0 where
  pub marked : IsAlwaysMarked v commit
  pub mark : (s : Seen) → W (mark_path commit) s → IsLeaf s

-- The commit is whole where it is at all, and its object isn't written.
pub record StaysWhole (limits : Limits) (v : View) (W : Path → Seen → Type 0) (commit : List ℕ) : Type 0 where
  pub whole : IsWholeIfThere limits v commit
  pub object : (s : Seen) → W (path_of (name_of Commit commit)) s → ⊥

-- the commit's object comes, and its mark goes, only where its tree is sealed; or the one while the mark stays, and the other from a commit
-- that is whole
abbrev pub KeepsCommit : Limits → Store → View → (Path → Seen → Type 0) → List ℕ → Type 0
KeepsCommit limits brings v W commit = IsSealed limits brings v commit ⊎ SparesCommit W commit ⊎ StaysMarked v W commit ⊎ StaysWhole limits v W commit

-- No object is written, or only the one of this name.
abbrev pub StoresAtMostOne : (Path → Seen → Type 0) → Type 0
StoresAtMostOne W =
    ((name : ObjName) → IsSum name.csum → (s : Seen) → W (path_of name) s → ⊥)
    ⊎ ((one : ObjName) × IsSum one.csum × ((name : ObjName) → IsSum name.csum → (s : Seen) → W (path_of name) s → name ≡ one))

-- Over this view the writes keep what a store keeps: an object comes whole; so each commit; a ref comes to name only a commit that lasts; and
-- the configuration isn't written.
pub record KeepsStore (limits : Limits) (brings : Store) (v : View) (W : Path → Seen → Type 0) : Type 0 where
  pub objects : (name : ObjName) → IsSum name.csum → (s : Seen) → W (path_of name) s → IsSoundSeen limits.content name s
  pub one : StoresAtMostOne W
  pub commits : (commit : List ℕ) → IsSum commit → KeepsCommit limits brings v W commit
  pub refs : (name commit : List ℕ) (s : Seen) → W (ref_path name) s → Says (RefOf name) (Some commit) s → StaysFinished v commit
  pub config : (s : Seen) → W config_path s → ⊥

-- one name more
abbrev pub IsOneMore : List ObjName → List ObjName → Type 0
IsOneMore names next = length next ≡ length names + 1

-- So: of an object at whose path the step writes, where a crash may leave now what none left before.
pub record Adds (W : Path → Seen → Type 0) (w : View) (names next : List ObjName) : Type 0 where
  pub name : ObjName
  pub sum : IsSum name.csum
  pub shown : Seen
  pub written : W (path_of name) shown
  pub may : MayBe w (path_of name) shown
  pub there : shown ≢ Vacant
  pub new : Contains names name → ⊥
  pub longer : IsOneMore names next

abbrev pub Grows : (Path → Seen → Type 0) → View → List ObjName → List ObjName → Type 0
Grows W w names next = (next ≡ names) ⊎ Adds W w names next

-- No object, mark or ref is written, nor the configuration.
pub record IsApart (W : Path → Seen → Type 0) : Type 0 where
  pub objects : (name : ObjName) → IsSum name.csum → (s : Seen) → W (path_of name) s → ⊥
  pub marks : (commit : List ℕ) → IsSum commit → (s : Seen) → W (mark_path commit) s → ⊥
  pub refs : (name : List ℕ) (s : Seen) → W (ref_path name) s → ⊥
  pub config : (s : Seen) → W config_path s → ⊥
