-- What is known stays so while others act.
use Rattle.std.proofs.Common.{◌≡◌, ◌≢◌, ◌⊎◌, ⊎_elim, inl, inr, ℕ, List, [], Contains, Some, None, Option, refl, sym, ◌∙◌, ap, subst, arith}
use Rattle.ost_types.specs.declared.object.ObjName.{ObjName}
use Rattle.ost_types.specs.Path.{Path}
use Rattle.ost_types.proofs.Paths.{is_below-self}
use Rattle.fs_trait.specs.Change.{Writes}
use Rattle.fs_trait.specs.Seen.{IsDirectory, MayBe, NotDirectory, Seen, seen, shows}
use Rattle.fs_trait.specs.View.{Disk, View}
use Rattle.fs_trait.proofs.Facts.{vacant_absent}
use Rattle.repo_layout.specs.declared.folder.Folder.TheVariants.{State}
use Rattle.repo_layout.specs.Paths.{folder_path, ref_path}
use Rattle.repo_layout.specs.Place.{Ref}
use Rattle.repo_layout.specs.RefFile.{IsSum}
use Rattle.repo_layout.proofs.Places.{place-ref}
use Rattle.repo_model.specs.Objects.{path_of}
use Rattle.layout_rules.proofs.Layouts.{fixed_other}
use Rattle.store_check.specs.Listing.{IsThere}
use Rattle.rely_guarantee.specs.declared.books.Pin.{Pin}
use Rattle.rely_guarantee.specs.Books.{Books, Free, Keeps, listed_in}
use Rattle.rely_guarantee.specs.Disks.{Says}
use Rattle.rely_guarantee.specs.Rely.{Guarantee, Interference}
use Rattle.rely_guarantee.specs.Removing.{IsListed, IsOfState}
use Rattle.rely_guarantee.specs.State.{RefOf, IsDeployedCommit}
use Rattle.rely_guarantee.proofs.Mays.{at_place, not_other}
use Rattle.durable_store.specs.Removals.{AreKept, Except, IsSettled}
use Rattle.durable_store.proofs.Kept.{object_still, others_kept, others_never, others_settled}
use Rattle.prune_mark.specs.Lasting.{ShowSameObjects}
use Rattle.prune_mark.proofs.Lasting.{known_last}
use Rattle.prune_sweep.specs.declared.part.Part.{Part}
use Rattle.prune_sweep.specs.declared.part.Part.TheVariants as part
use Rattle.prune_sweep.specs.Sweeping.{Sweeping}
use Rattle.prune_sweep.proofs.Below.{below_lasts}
use Rattle.prune_sweep.proofs.Going.{swept_lasts}
use Rattle.durable_store.specs.Free.{ObjectPathsFree}
use Rattle.prune_command.specs.declared.command.PruneCommand.{PruneCommand}
use Rattle.prune_command.specs.declared.known.Known.{Known}
use Rattle.prune_command.specs.declared.phase.Phase.{Phase}
use Rattle.prune_command.specs.declared.phase.Phase.TheVariants as phase
use Rattle.prune_command.specs.Learned.{from_of}
use Rattle.prune_command.specs.Facts.{AreNever, AreRootsOf, Facts, HasBegun, IsBehind, IsGoing, IsOfRef, KnownIn, SweepKnows}

-- ---- from one view and its books to others

-- no ref comes or changes
pub record SparesRefs (v w : View) : Type 0 where
  pub may : (name commit : List ℕ) (s : Seen) → Says (RefOf name) (Some commit) s → MayBe w (ref_path name) s → MayBe v (ref_path name) s
  pub now : (name : List ℕ) → shows w.now (ref_path name) ≡ shows v.now (ref_path name)

pub roots_on : (roots others : List ObjName) (lane : ℕ) (v w : View) (b b' : Books) → SparesRefs v w → listed_in b' ≡ listed_in b → ((p : Pin) → p.lane ≢ lane → Contains b'.pins p → Contains b.pins p) → AreRootsOf roots others lane v b → AreRootsOf roots others lane w b'
roots_on roots others lane v w b b' refs begin pins was = record {
  all = all;
  listed = λ o has. was.listed o (subst (λ ids. IsDeployedCommit ids o) begin has);
  right = λ o has. ⊎_elim
      (λ at. inl (at.0, at.1, subst (Says (RefOf at.0) (Some at.1)) (sym (refs.now at.0)) at.2, at.3))
      (λ listed. inr (subst (λ ids. IsDeployedCommit ids o) (sym begin) listed))
      (was.right o has);
  held = λ p has other. was.held p (pins p other has) other;
}
  where
    all : (o : ObjName) → IsOfState w o → Contains roots o
    all o (RefOf name, None, s, may, says, commit, among, is) = absurd (omega (arith, among.1))
    all o (RefOf name, Some c, s, may, says, commit, among, is) = was.all o (RefOf name, Some c, s, refs.may name c s says may, says, commit, among, is)

pub begun_on : (k : Known) (lane : ℕ) (v w : View) (b b' : Books) → b'.exclusive ≡ Some lane → b'.turn ≡ Some lane → SparesRefs v w → listed_in b' ≡ listed_in b → ((p : Pin) → p.lane ≢ lane → Contains b'.pins p → Contains b.pins p)
    → (ObjectPathsFree v.now → ObjectPathsFree w.now) → (IsDirectory (shows v.now (folder_path State)) → IsDirectory (shows w.now (folder_path State))) → HasBegun k lane v b → HasBegun k lane w b'
begun_on k lane v w b b' exclusive turn refs begin pins leaves state was = record {
  exclusive = exclusive;
  turn = turn;
  roots = roots_on k.roots k.held lane v w b b' refs begin pins was.roots;
  leaves = leaves was.leaves;
  state = state was.state;
}

spares_same : (v : View) → SparesRefs v v
spares_same v = record { may = λ name commit s says may. may; now = λ name. refl }

-- what the lane gains is no harm
pub begun_gains : (k : Known) (lane : ℕ) (v : View) (b b' : Books) → Keeps lane b b' → HasBegun k lane v b → HasBegun k lane v b'
begun_gains k lane v b b' keeps was = begun_on k lane v v b b' (keeps.exclusive was.exclusive) (keeps.turn was.turn) (spares_same v) keeps.listed keeps.pinned (λ l. l) (λ s. s) was

pub there_from : (d e : Disk) (o : ObjName) → shows e (path_of o) ≡ shows d (path_of o) → IsThere e o → IsThere d o
there_from d e o same there = record { sum = there.sum; there = λ absent. there.there (vacant_absent e (path_of o) (same ∙ ap (seen d) absent)) }

-- the deployments are those that they were
pub listed_before : (lane : ℕ) (b b' : Books) (o : ObjName) → Keeps lane b b' → IsListed b' o → IsListed b o
listed_before lane b b' o keeps = subst (λ ids. IsDeployedCommit ids o) keeps.listed

-- what is kept goes on to be, where nobody else pins anything
pub kept_pins : (doomed : List ObjName) (v : View) (b b' : Books) (lane : ℕ) → Keeps lane b b' → AreKept (Except doomed) b v lane → AreKept (Except doomed) b' v lane
kept_pins doomed v b b' lane keeps kept = record {
  roots = λ o. ⊎_elim (λ pin. kept.roots o (inl (pin.0, keeps.pinned pin.0 pin.2 pin.1, pin.2, pin.3)))
      (λ root. kept.roots o (inr (⊎_elim inl (λ listed. inr (listed_before lane b b' o keeps listed)) root)));
  closed = kept.closed;
}

pub going_gains : (k : Known) (depth lane : ℕ) (r : Sweeping) (v : View) (b b' : Books) → Keeps lane b b' → (b'.doomed ≡ b.doomed) × (b'.gone ≡ b.gone) → IsGoing k depth lane r v b → IsGoing k depth lane r v b'
going_gains k depth lane r v b b' keeps same was = record {
  planned = was.planned;
  plan = was.plan;
  swept = was.swept;
  fewer = was.fewer;
  either = was.either;
  doomed = same.0 ∙ was.doomed;
  gone = same.1 ∙ was.gone;
  kept = kept_pins r.removed v b b' lane keeps was.kept;
  behind = was.behind;
}

sweep_gains : (x : Part) (k : Known) (depth lane : ℕ) (r : Sweeping) (v : View) (b b' : Books) → Keeps lane b b' → (b'.doomed ≡ b.doomed) × (b'.gone ≡ b.gone) → SweepKnows x k depth lane r v b → SweepKnows x k depth lane r v b'
sweep_gains part.Begin k depth lane r v b b' keeps same was = was
sweep_gains part.Commit k depth lane r v b b' keeps same was = going_gains k depth lane r v b b' keeps same was
sweep_gains part.Barrier k depth lane r v b b' keeps same was = going_gains k depth lane r v b b' keeps same was
sweep_gains part.Object k depth lane r v b b' keeps same was = going_gains k depth lane r v b b' keeps same was
sweep_gains part.Mark k depth lane r v b b' keeps same was = going_gains k depth lane r v b b' keeps same was
sweep_gains part.End k depth lane r v b b' keeps same was = going_gains k depth lane r v b b' keeps same was
sweep_gains part.Over k depth lane r v b b' keeps same was = was

known_gains : (p : Phase) (t : PruneCommand) (lane : ℕ) (v : View) (b b' : Books) → Keeps lane b b' → (b'.doomed ≡ b.doomed) × (b'.gone ≡ b.gone) → KnownIn p t lane v b → KnownIn p t lane v b'
known_gains phase.Waiting t lane v b b' keeps same was = tt
known_gains phase.Unlearned t lane v b b' keeps same was = (keeps.exclusive was.0, keeps.turn was.1)
known_gains (phase.Listing l) t lane v b b' keeps same was = (begun_gains t.known lane v b b' keeps was.0, was.1)
known_gains (phase.Marking m) t lane v b b' keeps same was = (begun_gains t.known lane v b b' keeps was.0, was.1, was.2)
known_gains (phase.Sweeping r) t lane v b b' keeps same was = (begun_gains t.known lane v b b' keeps was.0, was.1, sweep_gains r.part t.known t.depth lane r v b b' keeps same was.2)
known_gains (phase.Over a) t lane v b b' keeps same was = was

pub facts_gain : (lane : ℕ) (t : PruneCommand) (v : View) (b b' : Books) → Keeps lane b b' → (b'.doomed ≡ b.doomed) × (b'.gone ≡ b.gone) → Facts lane t v b → Facts lane t v b'
facts_gain lane t v b b' keeps same f = record { mine = f.mine; known = known_gains t.phase t lane v b b' keeps same f.known }

-- ---- over the acts of others

module _ (actor lane mine : ℕ) (v w : View) (b b' : Books) (other : mine ≢ lane) (alone : b.exclusive ≡ Some mine) (does : Interference actor lane v b w b') where
  not_free : Free b.exclusive lane → ⊥
  not_free free = other (free mine alone)

  same_objects : ShowSameObjects v.now w.now
  same_objects o sum = object_still (Except []) b b' v w actor lane mine other alone does.writes o sum

  others_refs : SparesRefs v w
  others_refs = record {
    may = λ name commit s says may. ⊎_elim (λ was. was) (λ m. absurd (not_free (at_place b v actor lane (ref_path name) s (Ref name) (place-ref name) m).1)) (does.writes.only (ref_path name) s may);
    now = λ name. ⊎_elim (λ same. same) (λ m. absurd (not_free (at_place b v actor lane (ref_path name) (shows w.now (ref_path name)) (Ref name) (place-ref name) m).1)) (does.writes.now (ref_path name));
  }

  state_still : IsDirectory (shows v.now (folder_path State)) → IsDirectory (shows w.now (folder_path State))
  state_still is = ⊎_elim
      (λ same. subst IsDirectory (sym same) is)
      (λ m. absurd (not_other b v actor lane (folder_path State) (shows w.now (folder_path State)) (fixed_other State (folder_path State) (is_below-self (folder_path State))) m))
      (does.writes.now (folder_path State))

  others_pins : (p : Pin) → p.lane ≢ mine → Contains b'.pins p → Contains b.pins p
  others_pins p apart has = ⊎_elim (λ was. was) (λ new. absurd (not_free new.1)) (does.books.pinned p has)

  begun_kept : (k : Known) → HasBegun k mine v b → HasBegun k mine w b'
  begun_kept k was = begun_on k mine v w b b' (does.books.exclusive mine other was.exclusive) (does.books.turn mine other was.turn) others_refs (does.books.listed mine other was.exclusive) others_pins
      (λ leaves o sum. subst NotDirectory (sym (same_objects o sum)) (leaves o sum)) state_still was

  never_kept : (marks : List Path) → AreNever v marks → AreNever w marks
  never_kept marks never p has = let n = never p has in (n.0, n.1, n.2, others_never (Except []) b b' v w actor lane mine other alone does.writes n.0 n.1 n.3)

  late_kept : (r : Sweeping) → IsSettled (Except r.removed) v × AreNever v r.marks → IsSettled (Except r.removed) w × AreNever w r.marks
  late_kept r was = (others_settled (Except r.removed) b b' v w actor lane mine other alone does.writes was.0, never_kept r.marks was.1)

  behind_kept : (x : Part) (r : Sweeping) → IsBehind x r v → IsBehind x r w
  behind_kept part.Begin r was = tt
  behind_kept part.Commit r was = tt
  behind_kept part.Barrier r was = tt
  behind_kept part.Object r was = late_kept r was
  behind_kept part.Mark r was = late_kept r was
  behind_kept part.End r was = late_kept r was
  behind_kept part.Over r was = tt

  going_kept : (k : Known) (depth : ℕ) (r : Sweeping) → IsGoing k depth mine r v b → IsGoing k depth mine r w b'
  going_kept k depth r was = record {
    planned = was.planned;
    plan = was.plan;
    swept = swept_lasts was.planned r.removed r.gone v.now w.now same_objects was.swept;
    fewer = λ o there. was.fewer o (there_from v.now w.now o (same_objects o there.sum) there);
    either = λ o there. ⊎_elim (λ now. inl (there_from w.now v.now o (sym (same_objects o now.sum)) now)) (λ gone. inr gone) (was.either o there);
    doomed = (does.books.doomed mine other alone).0 ∙ was.doomed;
    gone = (does.books.doomed mine other alone).1 ∙ was.gone;
    kept = others_kept (Except r.removed) b b' v w actor lane mine other alone does.writes does.books was.kept;
    behind = behind_kept r.part r was.behind;
  }

  sweep_kept : (x : Part) (k : Known) (depth : ℕ) (r : Sweeping) → SweepKnows x k depth mine r v b → SweepKnows x k depth mine r w b'
  sweep_kept part.Begin k depth r was = record { planned = was.planned; plan = was.plan; same = λ o sum. same_objects o sum ∙ was.same o sum; fresh = was.fresh }
  sweep_kept part.Commit k depth r was = going_kept k depth r was
  sweep_kept part.Barrier k depth r was = going_kept k depth r was
  sweep_kept part.Object k depth r was = going_kept k depth r was
  sweep_kept part.Mark k depth r was = going_kept k depth r was
  sweep_kept part.End k depth r was = going_kept k depth r was
  sweep_kept part.Over k depth r was = was

known_kept : (p : Phase) (t : PruneCommand) (actor lane mine : ℕ) (v w : View) (b b' : Books) → mine ≢ lane → Interference actor lane v b w b' → KnownIn p t mine v b → KnownIn p t mine w b'
known_kept phase.Waiting t actor lane mine v w b b' other does was = tt
known_kept phase.Unlearned t actor lane mine v w b b' other does was = (does.books.exclusive mine other was.0, does.books.turn mine other was.1)
known_kept (phase.Listing l) t actor lane mine v w b b' other does was =
    (begun_kept actor lane mine v w b b' other was.0.exclusive does t.known was.0, below_lasts v.now w.now l.first l.names (same_objects actor lane mine v w b b' other was.0.exclusive does) was.1)
known_kept (phase.Marking m) t actor lane mine v w b b' other does was =
    (begun_kept actor lane mine v w b b' other was.0.exclusive does t.known was.0, known_last v.now w.now (same_objects actor lane mine v w b b' other was.0.exclusive does) (from_of t.known) m.marking was.1, was.2)
known_kept (phase.Sweeping r) t actor lane mine v w b b' other does was =
    (begun_kept actor lane mine v w b b' other was.0.exclusive does t.known was.0, was.1, sweep_kept actor lane mine v w b b' other was.0.exclusive does r.part t.known t.depth r was.2)
known_kept (phase.Over a) t actor lane mine v w b b' other does was = was

pub facts_kept : (actor lane mine : ℕ) (t : PruneCommand) (v w : View) (b b' : Books) → mine ≢ lane → Interference actor lane v b w b' → Facts mine t v b → Facts mine t w b'
facts_kept actor lane mine t v w b b' other does f = record { mine = f.mine; known = known_kept t.phase t actor lane mine v w b b' other does f.known }
