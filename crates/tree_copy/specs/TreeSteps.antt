-- What each step of a copy of a tree needs, writes and tells.
use Rattle.std.specs.Prelude.{◌≡◌, ◌≢◌, ◌++◌, ℕ, List, [], take, Option, Some, Result, Err, OnOk, IfOk, IfErr, IsErrOf}
use Rattle.ost_types.specs.declared.meta.Meta.{Meta}
use Rattle.ost_types.specs.declared.node.NodeName.{NodeName}
use Rattle.ost_types.specs.declared.node.NodeName.TheVariants.{Folder, Leaf}
use Rattle.ost_types.specs.Path.{Path}
use Rattle.ost_types.specs.PathMap.{node_at}
use Rattle.fs_trait.specs.declared.types.FsErr.{FsErr}
use Rattle.fs_trait.specs.declared.types.FsErr.TheVariants.{NoMemory}
use Rattle.fs_trait.specs.declared.types.Value.{Value}
use Rattle.fs_trait.specs.declared.types.Value.TheVariants as value
use Rattle.fs_trait.specs.declared.task.StepResult.{StepResult}
use Rattle.fs_trait.specs.declared.task.StepResult.TheVariants.{Done}
use Rattle.fs_trait.specs.View.{Disk, View}
use Rattle.fs_trait.specs.Image.{Told}
use Rattle.fs_trait.specs.Effect.{OfNone}
use Rattle.fs_trait.specs.Seen.{Seen, Vacant, Directory, Symlink, Leaf as SeenLeaf, shows}
use Rattle.fs_trait.specs.Change.{Writes}
use Rattle.file_copy.specs.Copying.{Copying}
use Rattle.file_copy.specs.CopySteps as copy
use Rattle.checkout.specs.CheckoutFolder.{leaf_path}
use Rattle.checkout.specs.CheckoutWork.{Answer, IsNumber}
use Rattle.checkout.specs.CheckoutSteps.{HasHome, value_of}
use Rattle.tree_copy.specs.declared.phase.TreePhase.{TreePhase}
use Rattle.tree_copy.specs.declared.phase.TreePhase.TheVariants.{Begin, Make, Copy, Ended, Refused}
use Rattle.tree_copy.specs.TreeFolder.{HasSources, IsCopy, Stands}
use Rattle.tree_copy.specs.TreeWork.{TreeCopying}

-- what is made at once of a value: a folder or a link
abbrev pub IsMadeOf : Value → Seen → Type 0
IsMadeOf (value.Folder m) s = s ≡ Directory m
IsMadeOf (value.Link m target) s = s ≡ Symlink m target
IsMadeOf z s = ⊥

-- What is made of the node of the map with this number, where nothing stood; of a file nothing.
abbrev pub Makes : ℕ → TreeCopying → View → Path → Seen → Type 0
Makes n t v p s = (e : Path × NodeName) × IsNumber t.tree n e × (p ≡ t.into ++ e.0) × (shows v.now p ≡ Vacant) × IsMadeOf (value_of e.1 v.now) s

-- What the next step may write: the first one the folder itself, each other one the next node of the map, or what the copy of its
-- file does at its path.
abbrev pub writes_in : TreePhase → TreeCopying → View → Path → Seen → Type 0
writes_in Begin t v p s = (m : Meta) × (node_at t.tree [] ≡ Some (Folder m)) × (p ≡ t.into) × (shows v.now p ≡ Vacant) × (s ≡ Directory m)
writes_in (Make n) t v p s = Makes n t v p s
writes_in (Copy n c) t v p s = copy.WritesOf c v p s
writes_in Ended t v p s = ⊥
writes_in Refused t v p s = ⊥

abbrev pub WritesOf : TreeCopying → View → Path → Seen → Type 0
WritesOf t v = writes_in t.phase t v

-- Before that node of the map is made, the folder is a copy of the nodes before it; the objects are there.
pub record Ready (n : ℕ) (t : TreeCopying) (d : Disk) : Type 0 where
  pub home : HasHome t.into d
  pub made : IsCopy d t.into (take n t.tree)
  pub sources : HasSources d t.tree

-- the copy is one of a leaf of the map: from its object's path to its own
pub record IsOfLeaf (c : Copying) (t : TreeCopying) : Type 0 where
  pub path : Path
  pub sum : List ℕ
  pub listed : node_at t.tree path ≡ Some (Leaf sum)
  pub from : c.from ≡ leaf_path sum
  pub stage : c.stage ≡ t.into ++ path

-- While its file is copied, that is so at all other paths; and what the copy needs, with the attributes of the object.
pub record Copies (n : ℕ) (c : Copying) (t : TreeCopying) (v : View) : Type 0 where
  pub leaf : IsOfLeaf c t
  pub home : HasHome t.into v.now
  pub others : (p : Path) → t.into ++ p ≢ c.stage → Stands v.now t.into p (node_at (take n t.tree) p)
  pub sources : HasSources v.now t.tree
  pub apart : (p : Path) (sum : List ℕ) → node_at t.tree p ≡ Some (Leaf sum) → leaf_path sum ≢ c.stage
  pub source : (k : ℕ) × (b : List ℕ) × (shows v.now c.from ≡ SeenLeaf k c.meta b)
  pub copy : copy.Needs c v

-- What the next step needs.
abbrev pub needs_in : TreePhase → TreeCopying → View → Type 0
needs_in Begin t v = HasHome t.into v.now × HasSources v.now t.tree
needs_in (Make n) t v = Ready n t v.now
needs_in (Copy n c) t v = Copies n c t v
needs_in Ended t v = IsCopy v.now t.into t.tree
needs_in Refused t v = Unit {0}

abbrev pub Needs : TreeCopying → View → Type 0
Needs t v = needs_in t.phase t v

-- What the first step tells of the view before it: it is refused exactly where something stands at the folder's path, and then
-- nothing is changed, nor by a step after the last one.
abbrev pub tells_in : TreePhase → Path → View → View → StepResult Answer → Type 0
tells_in Begin into v w (Done (Err e)) = (shows v.now into ≢ Vacant) × (w ≡ v)
tells_in Begin into v w turn = shows v.now into ≡ Vacant
tells_in (Make n) into v w turn = Unit {0}
tells_in (Copy n c) into v w turn = Unit {0}
tells_in ph into v w turn = w ≡ v

abbrev pub Tells : TreeCopying → View → View → StepResult Answer → Type 0
Tells t v w turn = tells_in t.phase t.into v w turn

-- What a step says of a view that is told: what it wrote, what the next one has, what was told of the path, why it wasn't done, and
-- that one which wanted for memory changed nothing.
pub record IsToldStep (old new : TreeCopying) (v : View) (r : Result (StepResult Answer) FsErr) (view : Option View) : Type 0 where
  pub writes : Told view (λ w. Writes (WritesOf old v) v w)
  pub after : OnOk r (Told view (λ w. Needs new w))
  pub tells : IfOk r (λ turn. Told view (λ w. Tells old v w turn))
  pub fails : IfErr r OfNone
  pub unchanged : IsErrOf r NoMemory → view ≡ Some v
