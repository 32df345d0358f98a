-- What a step leaves, and what it writes by that.
use Rattle.std.proofs.Common.{◌≡◌, inl, inr, refl, sym, subst, Option}
use Rattle.ost_types.specs.Path.{Path}
use Rattle.fs_trait.specs.declared.types.FsErr.{FsErr}
use Rattle.fs_trait.specs.declared.types.FsErr.TheVariants.{Failed, Exists, Missing, NotFolder, NotEmpty, NoMemory}
use Rattle.fs_trait.specs.declared.types.Value.TheVariants.{Absent}
use Rattle.fs_trait.specs.View.{View, named}
use Rattle.fs_trait.specs.Image.{Told}
use Rattle.fs_trait.specs.Seen.{MayShow}
use Rattle.fs_trait.specs.Change.{Writes, At}
use Rattle.fs_trait.specs.Effect.{Fails}
use Rattle.fs_trait.proofs.Kept.{weaker, same_view}
use Rattle.fs_trait.proofs.Effects.{named-writes}
use Rattle.checkout.specs.Remove.{Removing, IsMade, Looks, act}
use Rattle.checkout.specs.RemoveSteps.{Goes, Leaves, MayTake, WritesOf}
use Rattle.checkout.proofs.RemoveNeeds.{goes_leaf}

pub writes_gone : (t : Removing) (v : View) (p : Path) → Goes t v.now p → Writes (WritesOf t v) v (named p Absent v)
writes_gone t v p goes = weaker (At p (MayShow v Absent)) (WritesOf t v) v (named p Absent v) (λ q s a. (subst (Goes t v.now) (sym a.0) goes, a.1)) (named-writes v p Absent)

pub leaves_writes : (t : Removing) (v w : View) → Leaves t v w → Writes (WritesOf t v) v w
leaves_writes t v w (inl same) = subst (Writes (WritesOf t v) v) (sym same) (same_view (WritesOf t v) v)
leaves_writes t v w (inr (p, goes, is)) = subst (Writes (WritesOf t v) v) (sym is) (writes_gone t v p goes)

pub told_writes : (t : Removing) (v : View) (view : Option View) → Told view (Leaves t v) → Told view (λ w. Writes (WritesOf t v) v w)
told_writes t v view told = (told.0, told.1, leaves_writes t v told.0 told.2)

-- by a look at a path
take_leaves : (t : Removing) (v w : View) (p : Path) → IsMade t → act t ≡ Looks p → MayTake p v w → Leaves t v w
take_leaves t v w p made is (inl same) = inl same
take_leaves t v w p made is (inr (leaf, gone)) = inr (p, goes_leaf t v.now p made is leaf, gone)

pub told_leaves : (t : Removing) (v : View) (p : Path) → IsMade t → act t ≡ Looks p → (view : Option View) → Told view (MayTake p v) → Told view (Leaves t v)
told_leaves t v p made is view told = (told.0, told.1, take_leaves t v told.0 p made is told.2)

-- by a call that failed
pub err_leaves : (t : Removing) (v : View) (p : Path) → Goes t v.now p → (refusal : Option FsErr) (e : FsErr) (view : Option View) → Fails refusal v (named p Absent v) e view → Told view (Leaves t v)
err_leaves t v p goes refusal Failed view (inl same) = (v, same, inl refl)
err_leaves t v p goes refusal Failed view (inr done) = (named p Absent v, done.1, inr (p, goes, refl))
err_leaves t v p goes refusal NoMemory view same = (v, same, inl refl)
err_leaves t v p goes refusal Exists view is = (v, is.1, inl refl)
err_leaves t v p goes refusal Missing view is = (v, is.1, inl refl)
err_leaves t v p goes refusal NotFolder view is = (v, is.1, inl refl)
err_leaves t v p goes refusal NotEmpty view is = (v, is.1, inl refl)
