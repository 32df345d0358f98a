-- What a look at the path of a node tells.
use Rattle.std.specs.Prelude.{◌≡◌, ◌≢◌, ◌⊎◌, ◌++◌, Bool, true, false, List, ◌∷◌, Contains, Option, Some, None, IfSome, Result, Ok, Err}
use Rattle.std.specs.List.{AllByRecursion}
use Rattle.ost_types.specs.declared.node.NodeName.{NodeName}
use Rattle.ost_types.specs.declared.node.NodeName.TheVariants.{Folder, Leaf}
use Rattle.ost_types.specs.Path.{Name, Path, IsPath, under}
use Rattle.ost_types.specs.PathMap.{Nodes, node_at}
use Rattle.fs_trait.specs.declared.types.FsErr.{FsErr}
use Rattle.fs_trait.specs.Effect.{OfNone}
use Rattle.fs_trait.specs.View.{Disk}
use Rattle.fs_trait.specs.Seen.{Seen, Vacant, Directory, shows}
use Rattle.repo_layout.specs.Place.{IsOutsideEtc}
use Rattle.checkout.specs.CheckoutFolder.{IsLeaf, leaf_path}
use Rattle.checkout_compare.specs.Compare.{AreEmptyAlike, HasFar}
use Rattle.checkout_compare.specs.Order.{IsUpTo}
use Rattle.checkout_compare.specs.declared.look.Looked.{Looked}
use Rattle.checkout_compare.specs.declared.look.Looked.TheVariants.{Other, Same}

-- by what its object's path shows, a leaf stands here, or an empty file of its own in its place
abbrev pub IsLeafOf : Seen → Seen → Type 0
IsLeafOf object here = (IsLeaf here × (here ≡ object)) ⊎ AreEmptyAlike here object

-- the node stands at this path of the disk
abbrev pub IsAs : Disk → Path → NodeName → Type 0
IsAs d at (Folder m) = shows d at ≡ Directory m
IsAs d at (Leaf sum) = IsLeafOf (shows d (leaf_path sum)) (shows d at)

-- a path outside `etc` that is none of the tree
abbrev pub IsNew : Nodes → Path → Type 0
IsNew tree p = IsOutsideEtc p × (node_at tree p ≡ None)

-- at which something stands
pub record IsExtra (d : Disk) (into : Path) (tree : Nodes) (p : Path) : Type 0 where
  pub new : IsNew tree p
  pub there : shows d (into ++ p) ≢ Vacant

-- each of the names in the folder has a path within the bounds, or one of them hasn't
abbrev pub AllFit : Path → List Name → Bool → Type 0
AllFit f names true = AllByRecursion (λ x. IsPath (under f x)) names
AllFit f names false = (x : Name) × Contains names x × ¬ (IsPath (under f x))

-- the path of the first of the names that is new
pub record IsFirst (tree : Nodes) (f : Path) (names : List Name) (p : Path) : Type 0 where
  pub front : List Name
  pub name : Name
  pub rest : List Name
  pub all : names ≡ front ++ name ∷ rest
  pub is : p ≡ under f name
  pub new : IsNew tree p
  pub earlier : AllByRecursion (λ x. ¬ (IsNew tree (under f x))) front

abbrev pub IsFirstNew : Nodes → Path → List Name → Option Path → Type 0
IsFirstNew tree f names None = AllByRecursion (λ x. ¬ (IsNew tree (under f x))) names
IsFirstNew tree f names (Some p) = IsFirst tree f names p

-- No name in the folder has a path past the bounds, and this is the least path directly in it that is none of the tree.
pub record IsInside (d : Disk) (into : Path) (tree : Nodes) (f : Path) (least : Option Path) : Type 0 where
  pub near : ¬ (HasFar d (into ++ f))
  pub there : IfSome least (IsExtra d into tree)
  pub up_to : (x : Name) → IsExtra d into tree (under f x) → IsUpTo least (under f x)

abbrev pub LooksInside : Disk → Path → Nodes → Path → Result Looked FsErr → Type 0
LooksInside d into tree f (Ok Other) = HasFar d (into ++ f)
LooksInside d into tree f (Ok (Same least)) = IsInside d into tree f least
LooksInside d into tree f (Err e) = OfNone e

-- the path is past the bounds, the node doesn't stand there, or a folder with a name whose path is past them does
abbrev pub IsOther : Disk → Path → Path → NodeName → Type 0
IsOther d into p n = ¬ (IsPath (into ++ p)) ⊎ ¬ (IsAs d (into ++ p) n) ⊎ HasFar d (into ++ p)

abbrev pub Looks : Disk → Path → Nodes → Path → NodeName → Result Looked FsErr → Type 0
Looks d into tree p n (Ok Other) = IsOther d into p n
Looks d into tree p n (Ok (Same least)) = IsAs d (into ++ p) n × IsInside d into tree p least
Looks d into tree p n (Err e) = OfNone e
