-- What an actor may write, as far as what the others hold goes, and what an act keeps for them.
use Rattle.std.specs.Prelude.{◌≡◌, ◌≢◌, ◌⊎◌, ℕ, List, [], ◌∷◌, Contains, IsTrue, Some}
use Rattle.ost_types.specs.declared.meta.Meta.{Meta}
use Rattle.ost_types.specs.declared.object.Kind as object
use Rattle.ost_types.specs.declared.object.Kind.TheVariants.{Commit}
use Rattle.ost_types.specs.Path.{Name, Path, under, is_below}
use Rattle.fs_trait.specs.declared.types.Value.TheVariants.{Absent, File}
use Rattle.fs_trait.specs.View.{View}
use Rattle.fs_trait.specs.Image.{Holds}
use Rattle.fs_trait.specs.Effect.{IsFresh}
use Rattle.fs_trait.specs.Seen.{Seen, Vacant, Leaf, shows, IsDirectory, NotDirectory}
use Rattle.fs_trait.specs.Change.{Writes}
use Rattle.repo_layout.specs.BootPaths.{checkout_path}
use Rattle.repo_layout.specs.Paths.{object_path, ref_path}
use Rattle.repo_layout.specs.Place.{Place, Config, Stage, Ref, ObjectsFolder, Object, Mark, Summary, Deployment, Etc, Origin, Staged, BootLink, BootLinkStage, BootFolder, Loader, LoaderStage, LoaderFolder, KernelCopy, Checkout, Other, place}
use Rattle.layout_rules.specs.InLayout.{InLayout}
use Rattle.rely_guarantee.specs.declared.books.Claim.{Claim}
use Rattle.rely_guarantee.specs.declared.books.Pin.{Pin}
use Rattle.rely_guarantee.specs.Disks.{IsLeaf}
use Rattle.rely_guarantee.specs.Books.{Books, Free, Spared, listed_in}
use Rattle.rely_guarantee.specs.Removing.{Comes, Goes}

-- no other lane has pinned the object
abbrev pub NotPinned : List Pin → ℕ → object.Kind → List ℕ → Type 0
NotPinned pins lane kind sum = (p : Pin) → Contains pins p → p.object.kind ≡ kind → p.object.csum ≡ sum → p.lane ≡ lane

-- what boots, what is deployed, and what is no place of the layout
abbrev pub IsBoot : Place → Type 0
IsBoot (Deployment os commit serial rest) = Unit {0}
IsBoot (Etc os commit serial rest) = Unit {0}
IsBoot (Origin os commit serial) = Unit {0}
IsBoot Staged = Unit {0}
IsBoot (BootLink version) = Unit {0}
IsBoot BootLinkStage = Unit {0}
IsBoot (BootFolder version sub rest) = Unit {0}
IsBoot Loader = Unit {0}
IsBoot LoaderStage = Unit {0}
IsBoot (LoaderFolder version rest) = Unit {0}
IsBoot (KernelCopy os bootcsum rest) = Unit {0}
IsBoot (Other p) = Unit {0}
IsBoot x = ⊥

-- What this actor, for this lane, may write at a place. What boots and what is deployed is for the lane alone that works on the list of
-- deployments, and the two links by which another list boots are a change that is published. Where no command writes, nobody may.
abbrev pub may_at : Books → ℕ → ℕ → Place → Seen → Type 0
may_at b actor lane (Stage a) s = a ≡ actor
may_at b actor lane (Ref name) s = Free b.turn lane × Free b.exclusive lane
may_at b actor lane (ObjectsFolder digits) s = IsDirectory s
may_at b actor lane (Object kind sum) s = Free b.exclusive lane × NotDirectory s × (s ≡ Vacant → NotPinned b.pins lane kind sum)
may_at b actor lane (Mark commit) s = NotDirectory s
may_at b actor lane Summary s = Free b.turn lane × Free b.exclusive lane
may_at b actor lane (Deployment os commit serial rest) s = Free b.sysroot lane
may_at b actor lane (Etc os commit serial rest) s = Free b.sysroot lane
may_at b actor lane (Origin os commit serial) s = Free b.sysroot lane
may_at b actor lane Staged s = ⊥
may_at b actor lane (BootLink version) s = Free b.sysroot lane × Free b.turn lane × Free b.exclusive lane
may_at b actor lane BootLinkStage s = Free b.sysroot lane
may_at b actor lane (BootFolder version sub rest) s = Free b.sysroot lane
may_at b actor lane Loader s = Free b.sysroot lane × Free b.turn lane × Free b.exclusive lane
may_at b actor lane LoaderStage s = Free b.sysroot lane
may_at b actor lane (LoaderFolder version rest) s = Free b.sysroot lane
may_at b actor lane (KernelCopy os bootcsum rest) s = Free b.sysroot lane
may_at b actor lane (Checkout name []) s = IsDirectory s
may_at b actor lane (Checkout name (x ∷ rest)) s = Contains b.claims (record { lane = lane; name = name })
may_at b actor lane Config s = ⊥
may_at b actor lane (Other p) s = ⊥

-- not in another's staging folder
abbrev pub NotOthers : ℕ → Place → Type 0
NotOthers actor x = (a : ℕ) → x ≡ Stage a → a ≡ actor

-- an actor's own tree, where folders may go with what is in them
abbrev pub OwnTree : ℕ → Place → Type 0
OwnTree actor (Stage a) = a ≡ actor
OwnTree actor x = ⊥

-- nothing stands in the folder
abbrev pub IsEmpty : View → Path → Type 0
IsEmpty v p = (x : Name) → v.now.at (under p x) ≡ Absent

-- no ref stands at the folder or below it
abbrev pub HasNoRefs : View → Path → Type 0
HasNoRefs v p = (name : List ℕ) → IsTrue (is_below p (ref_path name)) → IsLeaf (shows v.now (ref_path name)) → ⊥

-- What this actor, for this lane, may write over this view: something that may be at such a place, and suits the layout; an object
-- only where nothing stands, and whole, so nobody writes over one, and in its place nothing but where it is removed; a mark only where
-- its commit isn't, and no other lane removes; a checkout's folder only where nothing stands; no file but a new one, or one that stands
-- at a path that is no other's staging path; and nothing in a folder's place, but where nothing, or no ref, is in the folder.
pub record Guarantee (b : Books) (v : View) (actor lane : ℕ) (p : Path) (s : Seen) : Type 0 where
  pub at : may_at b actor lane (place p) s
  pub fits : InLayout p s
  pub objects : (kind : object.Kind) (sum : List ℕ) → place p ≡ Object kind sum → Comes v p kind sum s ⊎ Goes b v lane kind sum s
  pub marks : (commit : List ℕ) → place p ≡ Mark commit → s ≢ Vacant → Free b.exclusive lane × (shows v.now (object_path Commit commit) ≡ Vacant)
  pub checkouts : (name : Name) → place p ≡ Checkout name [] → shows v.now p ≡ Vacant
  pub comes : (n : ℕ) (m : Meta) (bytes : List ℕ) → s ≡ Leaf n m bytes → IsFresh n v ⊎ ((q : Path) × Holds v q (File n) × NotOthers actor (place q))
  pub folders : IsDirectory s ⊎ NotDirectory (shows v.now p) ⊎ OwnTree actor (place p) ⊎ IsEmpty v p ⊎ HasNoRefs v p

-- An act of this actor for this lane: its writes, and all that others hold stays; a checkout is claimed only where nothing stands; and while
-- another lane works on the list of deployments no other list comes to last.
pub record Interference (actor lane : ℕ) (v : View) (b : Books) (w : View) (b' : Books) : Type 0 where
  pub writes : Writes (Guarantee b v actor lane) v w
  pub books : Spared actor lane b b'
  pub claims : (c : Claim) → Contains b'.claims c → Contains b.claims c ⊎ (shows v.now (checkout_path c.name) ≡ Vacant)
  pub listed : (x : ℕ) → x ≢ lane → b.sysroot ≡ Some x → listed_in b' ≡ listed_in b
