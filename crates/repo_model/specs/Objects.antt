-- The objects of a repository on a disk, by what their paths show (OSTree manual, "Anatomy of an OSTree repository"; the bare mode
-- keeps a file's object as the file itself).
use Rattle.std.specs.Prelude.{◌≡◌, ℕ, true, List, [], Option, Some, None}
use Rattle.ost_types.specs.declared.object.Kind.{Kind}
use Rattle.ost_types.specs.declared.object.Kind.TheVariants.{File}
use Rattle.ost_types.specs.declared.object.ObjName.{ObjName}
use Rattle.ost_forms.specs.declared.body.Body.TheVariants.{Regular, Symlink}
use Rattle.ost_forms.specs.Stream.{content_form}
use Rattle.ost_objects.specs.Object.{IsNamed, HasForm}
use Rattle.fs_trait.specs.View.{Disk}
use Rattle.fs_trait.specs.Seen.{Seen, Vacant, Directory, Symlink as SeenLink, Leaf, shows}
use Rattle.repo_layout.specs.Paths.{object_path, mark_path}
use Rattle.repo_layout.specs.Refs.{is_leaf}

-- The bytes of what is shown as an object of the kind: a file's object is its content stream. A folder holds no bytes, nor does a
-- link under the name of another object than a file.
abbrev pub object_in : Kind → Seen → Option (List ℕ)
object_in k Vacant = None
object_in k (Directory m) = Some []
object_in File (SeenLink m target) = content_form m (Symlink target)
object_in k (SeenLink m target) = Some []
object_in File (Leaf n m bytes) = content_form m (Regular bytes)
object_in k (Leaf n m bytes) = Some bytes

-- where an object stands
abbrev pub path_of : ObjName → List (List ℕ)
path_of name = object_path name.kind name.csum

-- the bytes of the object at its path, named so or not
abbrev pub object_at : Disk → ObjName → Option (List ℕ)
object_at d name = object_in name.kind (shows d (path_of name))

-- Objects by their names. On a disk, those at whose paths stand bytes that have the name.
abbrev pub Store : Type 1
Store = ObjName → List ℕ → Type 0

pub record Stores (d : Disk) (name : ObjName) (bytes : List ℕ) : Type 0 where
  pub there : object_at d name ≡ Some bytes
  pub named : IsNamed name bytes

-- a store that has at most one object of each name
pub record IsMap (S : Store) : Type 0 where
  pub one : (name : ObjName) (b c : List ℕ) → S name b → S name c → b ≡ c

-- The object is in the store and reads as its kind, where content of a file has at most so many bytes.
pub record Has (S : Store) (content : ℕ) (name : ObjName) : Type 0 where
  pub bytes : List ℕ
  pub stored : S name bytes
  pub formed : HasForm name.kind content bytes

-- the commits whose objects may be missing: those with a mark
abbrev pub Marked : Disk → List ℕ → Type 0
Marked d commit = is_leaf (d.at (mark_path commit)) ≡ true
