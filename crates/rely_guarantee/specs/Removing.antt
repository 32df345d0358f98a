-- Which objects may go and come, and which ones others keep from going.
use Rattle.std.specs.Prelude.{◌≡◌, ◌≢◌, ◌⊎◌, ℕ, List, Contains, take, drop}
use Rattle.ost_types.specs.declared.object.Kind as object
use Rattle.ost_types.specs.declared.object.Kind.TheVariants.{Commit}
use Rattle.ost_types.specs.declared.object.ObjName.{ObjName}
use Rattle.ost_types.specs.Path.{Path}
use Rattle.fs_trait.specs.View.{View}
use Rattle.fs_trait.specs.Seen.{Seen, Vacant, shows, MayBe}
use Rattle.repo_model.specs.Objects.{Stores}
use Rattle.repo_model.specs.Trees.{name_of}
use Rattle.reach.specs.Reach.{ObjNames, Reach}
use Rattle.rely_guarantee.specs.declared.books.Pin.{Pin}
use Rattle.rely_guarantee.specs.Books.{Books, listed_in}
use Rattle.rely_guarantee.specs.Disks.{path_of, Says}
use Rattle.rely_guarantee.specs.Objects.{IsObjectSeen}
use Rattle.rely_guarantee.specs.State.{Topic, Said, IsDeployedCommit, commits_of}

-- the lane has pinned the object
abbrev pub IsPinned : ℕ → Books → ObjNames
IsPinned lane b o = Contains b.pins (record { lane = lane; object = o })

-- another lane has
abbrev pub IsOthersPin : List Pin → ℕ → ObjNames
IsOthersPin pins lane o = (p : Pin) × Contains pins p × (p.lane ≢ lane) × (p.object ≡ o)

-- a commit that a path of the state names, or may name after a crash
abbrev pub IsOfState : View → ObjNames
IsOfState v o = (t : Topic) × (value : Said) × (s : Seen) × MayBe v (path_of t) s × Says t value s × (commit : List ℕ) × Contains (commits_of value) commit × (o ≡ name_of Commit commit)

-- the commit of a deployment that boots
abbrev pub IsListed : Books → ObjNames
IsListed b o = IsDeployedCommit (listed_in b) o

-- what no act for this lane takes
abbrev pub IsRoot : Books → View → ℕ → ObjNames
IsRoot b v lane o = IsOthersPin b.pins lane o ⊎ IsOfState v o ⊎ IsListed b o

-- nor what is reached from there in the store as it is
abbrev pub IsGuarded : Books → View → ℕ → ObjNames
IsGuarded b v lane = Reach (Stores v.now) (IsRoot b v lane)

-- what is removed next, if anything
abbrev pub next_of : Books → List ObjName
next_of b = take 1 (drop b.gone b.doomed)

-- An object goes only where it is the next that is removed, and nothing that others rely on leads to it.
abbrev pub Goes : Books → View → ℕ → object.Kind → List ℕ → Seen → Type 0
Goes b v lane kind sum s = (s ≡ Vacant) × Contains (next_of b) (name_of kind sum) × ¬ (IsGuarded b v lane (name_of kind sum))

-- One comes only where nothing stands, and whole.
abbrev pub Comes : View → Path → object.Kind → List ℕ → Seen → Type 0
Comes v p kind sum s = (shows v.now p ≡ Vacant) × IsObjectSeen kind sum s
