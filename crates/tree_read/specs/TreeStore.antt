-- A store by which the trees of a disk are walked.
use Rattle.std.specs.Prelude.{◌≡◌, ℕ, List}
use Rattle.ost_types.specs.declared.object.Kind.TheVariants as kind
use Rattle.ost_types.specs.declared.object.ObjName.{ObjName}
use Rattle.fs_trait.specs.View.{Disk}
use Rattle.repo_model.specs.Objects.{Store, Stores, IsMap}
use Rattle.repo_model.proofs.Stored.{stores_map}

-- It has one object of each name, and of commits and folders all that the disk has; what it has of files is its own.
pub record IsTreeStore (d : Disk) (S : Store) : Type 0 where
  pub one_each : IsMap S
  pub folders : (o : ObjName) (b : List ℕ) → (o.kind ≡ kind.File → ⊥) → Stores d o b → S o b

pub own_store : (d : Disk) → IsTreeStore d (Stores d)
own_store d = record { one_each = stores_map d; folders = λ o b is s. s }
