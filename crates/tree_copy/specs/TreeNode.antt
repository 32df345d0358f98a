-- How a node of the map is made, or its copy begun.
use Rattle.std.specs.Prelude.{◌≡◌, ℕ, [], Option, Some, None, Result, Ok, Err, IfOk}
use Rattle.ost_types.specs.declared.meta.Meta.{Meta}
use Rattle.ost_types.specs.declared.node.NodeName.{NodeName}
use Rattle.ost_types.specs.declared.node.NodeName.TheVariants.{Folder, Leaf}
use Rattle.ost_types.specs.Path.{Path}
use Rattle.fs_trait.specs.declared.types.FsErr.{FsErr}
use Rattle.fs_trait.specs.declared.types.FsErr.TheVariants.{Missing}
use Rattle.fs_trait.specs.declared.types.Value.{Value}
use Rattle.fs_trait.specs.declared.types.Value.TheVariants as value
use Rattle.fs_trait.specs.View.{Disk, View, named}
use Rattle.fs_trait.specs.Effect.{Changed, Next, no_new}
use Rattle.fs_trait.specs.Seen.{shows}
use Rattle.checkout.specs.CheckoutFolder.{leaf_path}
use Rattle.checkout.specs.CheckoutSteps.{value_of}
use Rattle.file_copy.specs.Pieces.{Gives}
use Rattle.file_copy.specs.Copying as copy
use Rattle.file_copy.specs.Copying.{Copying}
use Rattle.tree_copy.specs.TreeFolder.{IsSource}

-- the object of a leaf is there
abbrev pub HasSource : NodeName → Disk → Type 0
HasSource (Folder m) d = Unit {0}
HasSource (Leaf sum) d = IsSource (shows d (leaf_path sum))

-- where the bytes of a node come from
abbrev pub source_of : NodeName → Path
source_of (Folder m) = []
source_of (Leaf sum) = leaf_path sum

-- What making a value came to: a folder and a link are made; of a file nothing is made, and its copy is to begin.
abbrev pub begins_as : Value → Path → Path → View → Result (Option Copying) FsErr → Option View → Type 0
begins_as (value.File n) from at v r view = (view ≡ Some v) × Gives (Some (copy.begun from at (v.now.meta n))) r
begins_as z from at v r view = Changed (no_new at v.now) v (named at z v) r view × IfOk r (λ o. o ≡ None)

abbrev pub Begins : NodeName → Path → View → Result (Option Copying) FsErr → Option View → Type 0
Begins node at v r view = begins_as (value_of node v.now) (source_of node) at v r view

-- what is copied at all, told or not
abbrev pub IsBegun : NodeName → Path → Option Copying → Type 0
IsBegun node at None = Unit {0}
IsBegun (Folder m) at (Some c) = ⊥
IsBegun (Leaf sum) at (Some c) = (m : Meta) × (c ≡ copy.begun (leaf_path sum) at m)

-- how that moves the clock
abbrev pub TakesNode : Option Copying → ℕ → ℕ → Type 0
TakesNode None before now = Next before now
TakesNode (Some c) before now = now ≡ before

-- an error comes only where this isn't so, and is `Missing`
abbrev pub OnlyMissing : {T : Type 0} → Result T FsErr → Type 0 → Type 0
OnlyMissing (Ok x) P = Unit {0}
OnlyMissing (Err e) P = (e ≡ Missing) × (P → ⊥)
