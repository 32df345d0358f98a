-- What a look at one path finds, and what it leaves.
use Rattle.std.proofs.Common.{◌≡◌, ◌≢◌, inl, inr, refl, Option, None}
use Rattle.ost_types.specs.Path.{Path}
use Rattle.fs_trait.specs.declared.types.Value.{Value}
use Rattle.fs_trait.specs.declared.types.Value.TheVariants.{Absent, Folder, Link, File}
use Rattle.fs_trait.specs.declared.types.FsErr.{FsErr}
use Rattle.fs_trait.specs.declared.types.FsErr.TheVariants.{Failed, Exists, Missing, NotFolder, NotEmpty, NoMemory}
use Rattle.fs_trait.specs.View.{Disk, View, named}
use Rattle.fs_trait.specs.Image.{IsTree, Told}
use Rattle.fs_trait.specs.Effect.{Fails, no_leaf, unless_leaf}
use Rattle.fs_trait.specs.Seen.{Vacant, seen, shows, IsDirectory}
use Rattle.fs_trait.proofs.Ways.{way-there}
use Rattle.ref_room.specs.declared.stands.Stands.TheVariants as stand
use Rattle.ref_room.specs.Stands.{stands}
use Rattle.checkout.specs.RemoveSteps.{IsLeaf, MayTake}

pub looked_nothing : (d : Disk) (z : Value) → stands z ≡ stand.Nothing → seen d z ≡ Vacant
looked_nothing d Absent e = refl
looked_nothing d (Folder m) e = let n : stand.Folder ≡ stand.Nothing = e in cc
looked_nothing d (Link m t) e = let n : stand.Leaf ≡ stand.Nothing = e in cc
looked_nothing d (File n) e = let n : stand.Leaf ≡ stand.Nothing = e in cc

pub looked_folder : (d : Disk) (z : Value) → stands z ≡ stand.Folder → IsDirectory (seen d z)
looked_folder d Absent e = let n : stand.Nothing ≡ stand.Folder = e in cc
looked_folder d (Folder m) e = tt
looked_folder d (Link m t) e = let n : stand.Leaf ≡ stand.Folder = e in cc
looked_folder d (File n) e = let n : stand.Leaf ≡ stand.Folder = e in cc

pub looked_leaf : (d : Disk) (z : Value) → stands z ≡ stand.Leaf → IsLeaf (seen d z)
looked_leaf d Absent e = let n : stand.Nothing ≡ stand.Leaf = e in cc
looked_leaf d (Folder m) e = let n : stand.Folder ≡ stand.Leaf = e in cc
looked_leaf d (Link m t) e = tt
looked_leaf d (File n) e = tt

leaf_value : (d : Disk) (z : Value) → IsLeaf (seen d z) → (z ≢ Absent) × (unless_leaf z ≡ None)
leaf_value d Absent leaf = absurd leaf
leaf_value d (Folder m) leaf = absurd leaf
leaf_value d (Link m t) leaf = (λ e. let n : Link m t ≡ Absent = e in cc, refl)
leaf_value d (File i) leaf = (λ e. let n : File i ≡ Absent = e in cc, refl)

pub no_leaf-free : (d : Disk) (p : Path) → IsTree d → IsLeaf (shows d p) → no_leaf p d ≡ None
unfolding no_leaf
no_leaf-free d p tree leaf = let there = leaf_value d (d.at p) leaf in rw (way-there d tree p there.0) there.1

-- an unlink that failed
pub err_leaves : (p : Path) (v : View) → IsLeaf (shows v.now p) → (refusal : Option FsErr) (e : FsErr) (view : Option View) → Fails refusal v (named p Absent v) e view → Told view (MayTake p v)
err_leaves p v leaf refusal Failed view (inl same) = (v, same, inl refl)
err_leaves p v leaf refusal Failed view (inr done) = (named p Absent v, done.1, inr (leaf, refl))
err_leaves p v leaf refusal NoMemory view same = (v, same, inl refl)
err_leaves p v leaf refusal Exists view is = (v, is.1, inl refl)
err_leaves p v leaf refusal Missing view is = (v, is.1, inl refl)
err_leaves p v leaf refusal NotFolder view is = (v, is.1, inl refl)
err_leaves p v leaf refusal NotEmpty view is = (v, is.1, inl refl)
