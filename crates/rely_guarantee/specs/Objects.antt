-- What stands under the name of an object.
use Rattle.std.specs.Prelude.{◌≡◌, ℕ, List, Some}
use Rattle.ost_types.specs.declared.object.Kind.{Kind}
use Rattle.ost_objects.specs.Object.{IsNamed}
use Rattle.fs_trait.specs.Seen.{Seen, NotDirectory}
use Rattle.repo_model.specs.Objects.{object_in}
use Rattle.repo_model.specs.Trees.{name_of}

-- No folder, and bytes of that name.
pub record IsObjectSeen (kind : Kind) (sum : List ℕ) (s : Seen) : Type 0 where
  pub bytes : List ℕ
  pub holds : object_in kind s ≡ Some bytes
  pub named : IsNamed (name_of kind sum) bytes
  pub leaf : NotDirectory s
