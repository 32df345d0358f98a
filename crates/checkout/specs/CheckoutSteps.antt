-- What each step of a checkout needs, writes and tells.
use Rattle.std.specs.Prelude.{◌≡◌, ◌≢◌, ◌++◌, ℕ, true, [], take, Option, Some, Err}
use Rattle.ost_types.specs.declared.meta.Meta.{Meta}
use Rattle.ost_types.specs.declared.node.NodeName.{NodeName}
use Rattle.ost_types.specs.declared.node.NodeName.TheVariants.{Folder, Leaf}
use Rattle.ost_types.specs.Path.{Path, is_in}
use Rattle.ost_types.specs.PathMap.{node_at}
use Rattle.fs_trait.specs.declared.types.FsErr.{FsErr}
use Rattle.fs_trait.specs.declared.types.FsErr.TheVariants.{Failed, NoMemory}
use Rattle.fs_trait.specs.declared.types.Value.{Value}
use Rattle.fs_trait.specs.declared.types.Value.TheVariants as value
use Rattle.fs_trait.specs.declared.task.StepResult.{StepResult}
use Rattle.fs_trait.specs.declared.task.StepResult.TheVariants.{Done}
use Rattle.fs_trait.specs.View.{Disk, View}
use Rattle.fs_trait.specs.Effect.{no_new, no_link}
use Rattle.fs_trait.specs.Seen.{Seen, Vacant, Directory, shows, MayShow, IsDirectory}
use Rattle.checkout.specs.CheckoutFolder.{leaf_path, IsCheckout, HasLeaves}
use Rattle.checkout.specs.CheckoutWork.{Checkout, Answer, IsNumber}
use Rattle.checkout.specs.declared.checkout_phase.CheckoutPhase.{CheckoutPhase}
use Rattle.checkout.specs.declared.checkout_phase.CheckoutPhase.TheVariants.{Begin, Make, Ended, Refused}

-- what a node of the map is on a disk: a folder with its attributes, or the leaf at the path of its object
abbrev pub value_of : NodeName → Disk → Value
value_of (Folder m) d = value.Folder m
value_of (Leaf sum) d = d.at (leaf_path sum)

-- why it can't be made at a path
abbrev pub no_make : NodeName → Path → Disk → Option FsErr
no_make (Folder m) at d = no_new at d
no_make (Leaf sum) at d = no_link (leaf_path sum) at d

-- What is made of the pair of the map with this number, where nothing stood.
abbrev pub Makes : ℕ → Checkout → View → Path → Seen → Type 0
Makes n t v p s = (e : Path × NodeName) × IsNumber t.tree n e × (p ≡ t.into ++ e.0) × (shows v.now p ≡ Vacant) × MayShow v (value_of e.1 v.now) s

-- what the next step may write: the first one the folder itself, each other one the next pair of the map
abbrev pub writes_in : CheckoutPhase → Checkout → View → Path → Seen → Type 0
writes_in Begin t v p s = (m : Meta) × (node_at t.tree [] ≡ Some (Folder m)) × (p ≡ t.into) × (shows v.now p ≡ Vacant) × (s ≡ Directory m)
writes_in (Make n) t v p s = Makes n t v p s
writes_in Ended t v p s = ⊥
writes_in Refused t v p s = ⊥

abbrev pub WritesOf : Checkout → View → Path → Seen → Type 0
WritesOf t v = writes_in t.phase t v

-- the folder above it is there
abbrev pub HasHome : Path → Disk → Type 0
HasHome into d = (p : Path) → is_in p into ≡ true → IsDirectory (shows d p)

-- Before that pair of the map is made, the folder is the pairs before it; the objects are there.
pub record Ready (n : ℕ) (t : Checkout) (d : Disk) : Type 0 where
  pub home : HasHome t.into d
  pub made : IsCheckout d t.into (take n t.tree)
  pub leaves : HasLeaves d t.tree

-- What the next step needs of what reads see.
abbrev pub needs_in : CheckoutPhase → Checkout → Disk → Type 0
needs_in Begin t d = HasHome t.into d × HasLeaves d t.tree
needs_in (Make n) t d = Ready n t d
needs_in Ended t d = IsCheckout d t.into t.tree
needs_in Refused t d = Unit {0}

abbrev pub Needs : Checkout → Disk → Type 0
Needs t d = needs_in t.phase t d

-- What the first step tells of the view before it: it is refused exactly where something stands at the folder's path, and then
-- nothing is changed, nor by a step after the last one.
abbrev pub tells_in : CheckoutPhase → Path → View → View → StepResult Answer → Type 0
tells_in Begin into v w (Done (Err e)) = (shows v.now into ≢ Vacant) × (w ≡ v)
tells_in Begin into v w turn = shows v.now into ≡ Vacant
tells_in (Make n) into v w turn = Unit {0}
tells_in ph into v w turn = w ≡ v

abbrev pub Tells : Checkout → View → View → StepResult Answer → Type 0
Tells t v w turn = tells_in t.phase t.into v w turn

-- Why a step isn't done: the call failed or wanted for memory.
abbrev pub Refuses : FsErr → Type 0
Refuses Failed = Unit {0}
Refuses NoMemory = Unit {0}
Refuses e = ⊥
