-- What is so for a prune while others act.
use Rattle.std.specs.Prelude.{◌≡◌, ◌≢◌, ◌⊎◌, ℕ, List, Contains, take, Some}
use Rattle.ost_types.specs.declared.object.Kind.TheVariants.{Commit}
use Rattle.ost_types.specs.declared.object.ObjName.{ObjName}
use Rattle.ost_types.specs.Path.{Path}
use Rattle.fs_trait.specs.Seen.{IsDirectory, shows}
use Rattle.fs_trait.specs.View.{Disk, View}
use Rattle.repo_layout.specs.declared.folder.Folder.TheVariants.{State}
use Rattle.repo_layout.specs.Paths.{folder_path, mark_path, ref_path}
use Rattle.repo_layout.specs.RefFile.{IsSum}
use Rattle.repo_model.specs.Trees.{name_of}
use Rattle.reach.specs.Reach.{ObjNames}
use Rattle.store_check.specs.Listing.{AreBelow, IsThere}
use Rattle.rely_guarantee.specs.declared.books.Pin.{Pin}
use Rattle.rely_guarantee.specs.Books.{Books}
use Rattle.rely_guarantee.specs.Disks.{Says}
use Rattle.rely_guarantee.specs.Removing.{IsListed, IsOfState}
use Rattle.rely_guarantee.specs.State.{RefOf}
use Rattle.durable_store.specs.Free.{ObjectPathsFree}
use Rattle.durable_store.specs.Removals.{AreKept, Except, IsSettled}
use Rattle.durable_store.specs.Standing.{IsNeverThere}
use Rattle.prune_mark.specs.Lasting.{ShowSameObjects}
use Rattle.prune_mark.specs.Marking.{Knows}
use Rattle.prune_sweep.specs.declared.part.Part.{Part}
use Rattle.prune_sweep.specs.declared.part.Part.TheVariants as part
use Rattle.prune_sweep.specs.Planned.{IsPlanned}
use Rattle.prune_sweep.specs.Sweeping.{IsFresh, IsSoFar, Sweeping}
use Rattle.prune_sweep.specs.Swept.{IsSwept}
use Rattle.prune_command.specs.declared.command.PruneCommand.{PruneCommand}
use Rattle.prune_command.specs.declared.known.Known.{Known}
use Rattle.prune_command.specs.declared.phase.Phase.{Phase}
use Rattle.prune_command.specs.declared.phase.Phase.TheVariants as phase
use Rattle.prune_command.specs.Learned.{from_of}

-- the commit of a ref that reads see
abbrev pub IsOfRef : Disk → ObjNames
IsOfRef d o = (name : List ℕ) × (commit : List ℕ) × Says (RefOf name) (Some commit) (shows d (ref_path name)) × (o ≡ name_of Commit commit)

-- Where it begins: each commit that a ref names, or may name after a crash, which each is one that a ref names now; those of the
-- deployments that boot; and whatever other lanes have pinned.
pub record AreRootsOf (roots others : List ObjName) (lane : ℕ) (v : View) (b : Books) : Type 0 where
  pub all : (o : ObjName) → IsOfState v o → Contains roots o
  pub listed : (o : ObjName) → IsListed b o → Contains roots o
  pub right : (o : ObjName) → Contains roots o → IsOfRef v.now o ⊎ IsListed b o
  pub held : (p : Pin) → Contains b.pins p → p.lane ≢ lane → Contains others p.object

-- The lane has both locks, and knows where it begins.
pub record HasBegun (k : Known) (lane : ℕ) (v : View) (b : Books) : Type 0 where
  pub exclusive : b.exclusive ≡ Some lane
  pub turn : b.turn ≡ Some lane
  pub roots : AreRootsOf k.roots k.held lane v b
  pub leaves : ObjectPathsFree v.now
  pub state : IsDirectory (shows v.now (folder_path State))

-- these are marks of commits that no crash leaves
abbrev pub AreNever : View → List Path → Type 0
AreNever v marks = (p : Path) → Contains marks p → (commit : List ℕ) × IsSum commit × (p ≡ mark_path commit) × IsNeverThere v commit

-- so it is behind the sync of all that comes behind the commits
abbrev pub IsBehind : Part → Sweeping → View → Type 0
IsBehind part.Object r v = IsSettled (Except r.removed) v × AreNever v r.marks
IsBehind part.Mark r v = IsSettled (Except r.removed) v × AreNever v r.marks
IsBehind part.End r v = IsSettled (Except r.removed) v × AreNever v r.marks
IsBehind x r v = Unit {0}

-- While objects go: what was planned, and how far it is done.
pub record IsGoing (k : Known) (depth lane : ℕ) (r : Sweeping) (v : View) (b : Books) : Type 0 where
  pub planned : Disk
  pub plan : IsPlanned planned (from_of k) depth k.held r
  pub swept : IsSwept planned r.removed r.gone v.now
  pub fewer : (o : ObjName) → IsThere v.now o → IsThere planned o
  pub either : (o : ObjName) → IsThere planned o → IsThere v.now o ⊎ Contains (take r.gone r.removed) o
  pub doomed : b.doomed ≡ r.removed
  pub gone : b.gone ≡ r.gone
  pub kept : AreKept (Except r.removed) b v lane
  pub behind : IsBehind r.part r v

-- What is to go was planned, and no object came or went since.
pub record IsToGo (k : Known) (depth : ℕ) (r : Sweeping) (v : View) : Type 0 where
  pub planned : Disk
  pub plan : IsPlanned planned (from_of k) depth k.held r
  pub same : ShowSameObjects planned v.now
  pub fresh : IsFresh r

abbrev pub SweepKnows : Part → Known → ℕ → ℕ → Sweeping → View → Books → Type 0
SweepKnows part.Begin k depth lane r v b = IsToGo k depth r v
SweepKnows part.Over k depth lane r v b = ⊥
SweepKnows x k depth lane r v b = IsGoing k depth lane r v b

abbrev pub KnownIn : Phase → PruneCommand → ℕ → View → Books → Type 0
KnownIn phase.Waiting t lane v b = Unit {0}
KnownIn phase.Unlearned t lane v b = (b.exclusive ≡ Some lane) × (b.turn ≡ Some lane)
KnownIn (phase.Listing l) t lane v b = HasBegun t.known lane v b × AreBelow v.now l.first l.names
KnownIn (phase.Marking m) t lane v b = HasBegun t.known lane v b × Knows v.now (from_of t.known) m.marking × (m.marking.depth ≡ t.depth)
KnownIn (phase.Sweeping r) t lane v b = HasBegun t.known lane v b × IsSoFar r × SweepKnows r.part t.known t.depth lane r v b
KnownIn (phase.Over a) t lane v b = ⊥

pub record Facts (lane : ℕ) (t : PruneCommand) (v : View) (b : Books) : Type 0 where
  pub mine : t.lane ≡ lane
  pub known : KnownIn t.phase t lane v b

abbrev pub prune_facts : ℕ → PruneCommand → View → Books → Type 0
prune_facts lane t v b = Facts lane t v b
