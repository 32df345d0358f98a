-- What a prune is told behind the step that takes the locks.
use Rattle.std.proofs.Common.{◌≡◌, ◌≢◌, ◌⊎◌, inl, inr, ⊎_elim, ◌≤◌, ℕ, zero, suc, Bool, true, false, not, nat_eq, List, [], ◌∷◌, map, Contains, Option, Some, None, refl, sym, ◌∙◌, ap, subst, arith}
use Rattle.std.specs.List.{filter}
use Rattle.std.proofs.lemmas.Bool.Decides.{nat_tests}
use Rattle.std.proofs.lemmas.List.Elements.{Contains-append_left, Contains-append_right, Contains-append_cases}
use Rattle.ost_types.specs.declared.object.ObjName.{ObjName}
use Rattle.ost_types.proofs.Paths.{is_below-self}
use Rattle.fs_trait.specs.Seen.{IsDirectory, MayBe, Seen, shows}
use Rattle.fs_trait.specs.View.{View}
use Rattle.fs_trait.proofs.Effects.{may_now}
use Rattle.repo_layout.specs.declared.folder.Folder.TheVariants as folder
use Rattle.repo_layout.specs.Paths.{folder_path, ref_path}
use Rattle.store_check.proofs.Gathering.{none_below}
use Rattle.boot_model.specs.declared.item.DepId.{DepId}
use Rattle.rely_guarantee.specs.declared.books.Entry.{Entry}
use Rattle.rely_guarantee.specs.declared.books.Pending.{Pending}
use Rattle.rely_guarantee.specs.declared.books.Pin.{Pin}
use Rattle.rely_guarantee.specs.Books.{Books, listed_in}
use Rattle.rely_guarantee.specs.Disks.{Says}
use Rattle.rely_guarantee.specs.Laws.{Holds, NotPending}
use Rattle.rely_guarantee.specs.Pinning.{is_others, without}
use Rattle.rely_guarantee.specs.Removing.{IsListed, IsOfState}
use Rattle.rely_guarantee.specs.State.{RefOf, Said, State, after, commits_of, events_of, SystemState}
use Rattle.rely_guarantee.specs.SystemInvariant.{Stands}
use Rattle.rely_guarantee.proofs.States.{says_one}
use Rattle.ref_book.specs.declared.book.RefBook.{RefBook}
use Rattle.ref_book.specs.Tracks.{Lists, Tracks}
use Rattle.prune_command.specs.declared.command.PruneCommand.{PruneCommand}
use Rattle.prune_command.specs.declared.known.Known.{Known}
use Rattle.prune_command.specs.declared.phase.Phase.{Phase}
use Rattle.prune_command.specs.declared.phase.Phase.TheVariants as phase
use Rattle.prune_command.specs.Commands.{Learns, kind_in, prune_kind, prune_learns, prune_left}
use Rattle.prune_command.specs.Facts.{AreRootsOf, IsOfRef, KnownIn, prune_facts}
use Rattle.prune_command.specs.Learned.{AreOfState, commit_of, deployed_of, object_of}
use Rattle.prune_command.specs.Phases.{phase_left}
use Rattle.command.specs.LearnLaws.{IsLearnt}

-- ---- lists

module _ {X : Type 0} where
  later_in : (xs : List X) (y x : X) → Contains xs x → Contains (y ∷ xs) x
  later_in xs y x has = (let less = has.1 in (suc has.0, omega (arith, less), has.2))

  filter_in : (test : X → Bool) (xs : List X) (x : X) → test x ≡ true → Contains xs x → Contains (filter test xs) x
  filter_in test [] x is has = has
  filter_in test (y ∷ xs) x is (zero, less, e) = rw (ap test e ∙ is) (0, omega arith, e)
  filter_in test (y ∷ xs) x is (suc k, less, e) = by (test y) refl (filter_in test xs x is (k, omega (arith, less), e))
    where
      by : (t : Bool) → test y ≡ t → Contains (filter test xs) x → Contains (filter test (y ∷ xs)) x
      by true at rest = rw at (later_in (filter test xs) y x rest)
      by false at rest = rw at rest

module _ {X Y : Type 0} (f : X → Y) where
  map_in : (xs : List X) (x : X) → Contains xs x → Contains (map f xs) (f x)
  map_in [] x (k, less, is) = absurd (omega (arith, less))
  map_in (y ∷ xs) x (zero, less, is) = (0, omega arith, ap f is)
  map_in (y ∷ xs) x (suc k, less, is) =
      let rest = map_in xs x (k, omega (arith, less), is) in
      let at = rest.1 in
      (suc rest.0, omega (arith, at), rest.2)

  -- each element of it comes of one
  map_of : (xs : List X) (y : Y) → Contains (map f xs) y → (x : X) × Contains xs x × (y ≡ f x)
  map_of [] y (k, less, is) = absurd (omega (arith, less))
  map_of (x ∷ xs) y (zero, less, is) = (x, (0, omega arith, refl), sym is)
  map_of (x ∷ xs) y (suc k, less, is) =
      let rest = map_of xs y (k, omega (arith, less), is) in
      let at = rest.1.1 in
      (rest.0, (suc rest.1.0, omega (arith, at), rest.1.2), rest.2)

others_test : (a b : ℕ) → a ≢ b → not (nat_eq a b) ≡ true
others_test a b other = by (nat_eq a b) refl
  where
    by : (t : Bool) → nat_eq a b ≡ t → not (nat_eq a b) ≡ true
    by true is = absurd (other (let e : a ≡ b = grind (arith, nat_tests) in e))
    by false is = ap not is

-- ---- where it begins

some_commit : (value : Said) (commit : List ℕ) → Contains (commits_of value) commit → value ≡ Some commit
some_commit None commit (k, less, is) = absurd (omega (arith, less))
some_commit (Some c) commit (zero, less, is) = ap Some is
some_commit (Some c) commit (suc k, less, is) = absurd (omega (arith, less))

module _ (start : SystemState) (entries : List Entry) (refs : RefBook) (lane : ℕ) (v : View) (b : Books) (stands : Stands start entries None v) (tracks : Tracks refs (after (events_of entries) start).refs) where
  abbrev now : State
  now = (after (events_of entries) start).refs

  -- each path of the state may say nothing else
  says_now : (name : List ℕ) (s : Seen) → MayBe v (ref_path name) s → Says (RefOf name) (now (RefOf name)) s
  says_now name s may = ⊎_elim (λ says. says) (λ shown. absurd shown) (stands.known.each (RefOf name) s may)

  learnt_roots : (k : Known) (ids : List DepId) (pins : List Pin) → AreOfState refs ids k.roots → k.held ≡ map object_of (without lane pins) → pins ≡ b.pins → ids ≡ listed_in b → AreRootsOf k.roots k.held lane v b
  learnt_roots k ids pins are held pins_are ids_are = record { all = all; listed = listed; right = right; held = others }
    where
      rows : List (List ℕ × List ℕ)
      rows = are.0

      lists : Lists rows now
      lists = are.1 now tracks

      all : (o : ObjName) → IsOfState v o → Contains k.roots o
      all o (RefOf name, value, s, may, says, commit, among, is) =
          let value_is : now (RefOf name) ≡ Some commit = says_one (RefOf name) (now (RefOf name)) value s (says_now name s may) says ∙ some_commit value commit among in
          let row = (lists.refs name commit).1 value_is in
          subst (λ l. Contains l o) (sym are.2) (Contains-append_left (map commit_of rows) (map deployed_of ids) o (subst (Contains (map commit_of rows)) (sym is) (map_in commit_of rows (name, commit) row)))

      listed : (o : ObjName) → IsListed b o → Contains k.roots o
      listed o one = subst (λ l. Contains l o) (sym are.2) (Contains-append_right (map commit_of rows) (map deployed_of ids) o
          (subst (Contains (map deployed_of ids)) (sym one.2) (map_in deployed_of ids one.0 (subst (λ (l : List DepId). Contains l one.0) (sym ids_are) one.1))))

      deployed : (o : ObjName) → Contains (map deployed_of ids) o → IsListed b o
      deployed o has = let from = map_of deployed_of ids o has in (from.0, subst (λ (l : List DepId). Contains l from.0) ids_are from.1, from.2)

      named : (o : ObjName) → Contains (map commit_of rows) o → IsOfRef v.now o
      named o has =
          let from = map_of commit_of rows o has in
          let name = from.0.0 in
          let commit = from.0.1 in
          let value_is = (lists.refs name commit).0 from.1 in
          (name, commit, subst (λ (x : Said). Says (RefOf name) x (shows v.now (ref_path name))) value_is (says_now name (shows v.now (ref_path name)) (may_now v (ref_path name))), from.2)

      right : (o : ObjName) → Contains k.roots o → IsOfRef v.now o ⊎ IsListed b o
      right o has = ⊎_elim (λ by. inl (named o by)) (λ by. inr (deployed o by)) (Contains-append_cases (map commit_of rows) (map deployed_of ids) o (subst (λ l. Contains l o) are.2 has))

      others : (p : Pin) → Contains b.pins p → p.lane ≢ lane → Contains k.held p.object
      others p has other = subst (λ l. Contains l p.object) (sym held)
          (map_in object_of (without lane pins) p (filter_in (is_others lane) pins p (others_test p.lane lane other) (subst (λ l. Contains l p) (sym pins_are) has)))

state_folder : (start : SystemState) (entries : List Entry) (pending : Option Pending) (v : View) → Stands start entries pending v → IsDirectory (shows v.now (folder_path folder.State))
state_folder start entries pending v stands = stands.folders folder.State (folder_path folder.State) _ (may_now v (folder_path folder.State)) (is_below-self (folder_path folder.State))

-- ---- by the phase

abbrev first_phase : Phase
first_phase = phase.Listing (record { names = []; first = 0 })

learns_same : (p : Phase) (refs : RefBook) (ids : List DepId) (pins : List Pin) (t new : PruneCommand) (A : PruneCommand → Type 0) → A t
    → ((k : Known) → p ≡ phase.Unlearned → AreOfState refs ids k.roots → k.held ≡ map object_of (without t.lane pins) → A (record t { known = k; phase = first_phase })) → Learns refs ids pins t p new → A new
learns_same phase.Waiting refs ids pins t new A same told is = subst A (sym is) same
learns_same phase.Unlearned refs ids pins t new A same told is = ⊎_elim
    (λ e. subst A (sym e) same)
    (λ k. subst A (sym k.3) (told k.0 refl k.1 k.2))
    is
learns_same (phase.Listing l) refs ids pins t new A same told is = subst A (sym is) same
learns_same (phase.Marking m) refs ids pins t new A same told is = subst A (sym is) same
learns_same (phase.Sweeping r) refs ids pins t new A same told is = subst A (sym is) same
learns_same (phase.Over a) refs ids pins t new A same told is = subst A (sym is) same

-- what the next step is to the system stays,
pub learn_kind : (refs : RefBook) (ids : List DepId) (pins : List Pin) (t new : PruneCommand) → prune_learns refs ids pins t new → prune_kind new ≡ prune_kind t
learn_kind refs ids pins t new learns = learns_same t.phase refs ids pins t new (λ x. prune_kind x ≡ prune_kind t) refl
    (λ k at are held. sym (ap (λ p. kind_in p t) at))
    learns

-- and no more steps are left
pub learn_left : (refs : RefBook) (ids : List DepId) (pins : List Pin) (t new : PruneCommand) → prune_learns refs ids pins t new → prune_left new ≤ prune_left t
learn_left refs ids pins t new learns = learns_same t.phase refs ids pins t new (λ x. prune_left x ≤ prune_left t) (omega arith)
    (λ k at are held. (let is = ap phase_left at in omega (arith, is)))
    learns

-- it knows where it begins
pub learn_facts : (start : SystemState) (entries : List Entry) (pending : Option Pending) (refs : RefBook) (ids : List DepId) (pins : List Pin) (lane : ℕ) (t new : PruneCommand) (v : View) (b : Books) → IsLearnt start entries pending refs ids pins lane v b
    → prune_learns refs ids pins t new → Holds (prune_kind t) lane b → prune_facts lane t v b → prune_facts lane new v b
learn_facts start entries pending refs ids pins lane t new v b told learns holds f = learns_same t.phase refs ids pins t new (λ x. prune_facts lane x v b) f
    (λ k at are held.
    let known : KnownIn phase.Unlearned t lane v b = subst (λ p. KnownIn p t lane v b) at f.known in
    let none : NotPending lane b = subst (λ p. Holds (kind_in p t) lane b) at holds in
    let clear = told.clear known.0 none in
    let stands = subst (λ (x : Option Pending). Stands start entries x v) clear told.stands in
    record {
      mine = f.mine;
      known = (
        record {
          exclusive = known.0;
          turn = known.1;
          roots = learnt_roots start entries refs lane v b stands told.tracks k ids pins are (held ∙ ap (λ n. map object_of (without n pins)) f.mine) told.pins_are told.listed;
          leaves = told.free;
          state = state_folder start entries pending v told.stands;
        },
        none_below v.now [] refl,
      );
    })
    learns
