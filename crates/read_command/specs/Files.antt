-- What the object of a file holds.
use Rattle.std.specs.Prelude.{ℕ, List, Ok}
use Rattle.ost_types.specs.declared.meta.Meta.{Meta}
use Rattle.ost_types.specs.declared.node.NodeName.{NodeName}
use Rattle.ost_types.specs.declared.node.NodeName.TheVariants.{Folder, Leaf}
use Rattle.ost_types.specs.declared.object.Kind.TheVariants.{File}
use Rattle.ost_forms.specs.declared.body.Body.{Body}
use Rattle.ost_forms.specs.declared.body.Body.TheVariants.{Symlink}
use Rattle.ost_forms.specs.Stream.{ReadsFile}
use Rattle.repo_model.specs.Objects.{Store}
use Rattle.repo_model.specs.Trees.{name_of}

-- The store has the object of this name, which reads as a file that holds this, where content has at most so many bytes.
pub record HasBody (S : Store) (content : ℕ) (sum : List ℕ) (body : Body) : Type 0 where
  pub bytes : List ℕ
  pub stored : S (name_of File sum) bytes
  pub meta : Meta
  pub reads : ReadsFile content bytes (Ok (record { meta = meta; body = body }))

-- no regular file: a folder, or a symbolic link
abbrev pub IsNoFile : Store → ℕ → NodeName → Type 0
IsNoFile S content (Folder m) = Unit {0}
IsNoFile S content (Leaf sum) = (target : List ℕ) × HasBody S content sum (Symlink target)
