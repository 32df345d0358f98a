-- A system at its beginning.
use Rattle.std.proofs.Common.{◌≡◌, ◌≢◌, inl, inr, ◌≤◌, ℕ, suc, refl, sym, ◌∙◌, ap, subst, arith, List, [], ◌∷◌, ◌++◌, length, Contains, Option, Some, None}
use Rattle.ost_types.specs.declared.limits.Limits.{Limits}
use Rattle.ost_types.specs.Path.{Name, Path}
use Rattle.ost_types.proofs.Paths.{is_below-self}
use Rattle.fs_trait.specs.Seen.{Always, NotDirectory, Seen, Vacant, shows}
use Rattle.fs_trait.specs.View.{View}
use Rattle.repo_layout.specs.Paths.{stage_path}
use Rattle.fs_trait.specs.Change.{Left}
use Rattle.fs_trait.specs.Image.{IsTree}
use Rattle.boot_read.specs.declared.row.BootRow.{BootRow}
use Rattle.durable_list.specs.Standing.{ids_of}
use Rattle.durable_list.proofs.Standing as list
use Rattle.durable_deployments.specs.Bounds.{AreBounded}
use Rattle.durable_deployments.proofs.Standing as deployments
use Rattle.rely_guarantee.specs.declared.books.Entry.{Entry}
use Rattle.rely_guarantee.specs.declared.books.Pending.{Pending}
use Rattle.rely_guarantee.specs.declared.event.Event.{Event}
use Rattle.rely_guarantee.specs.State.{State, SystemState, events_of, opening_state}
use Rattle.command.specs.MayBoot.{coming_of}
use Rattle.sys_open.specs.LeftOver.{HasBoundedDeployments}
use Rattle.sys_open.specs.Opening.{IsGoodSince}
use Rattle.sys_open.proofs.Goods.{can_go_of}
use Rattle.lane_system.specs.Booting.{AreRowsBehind, BootsOne, BootsStill, MayBootBy, MayBootNow}
use Rattle.rely_guarantee.specs.declared.books.Base.{Base}
use Rattle.rely_guarantee.specs.declared.kind.Halt.TheVariants as halt
use Rattle.rely_guarantee.specs.declared.books.Pin.{Pin}
use Rattle.rely_guarantee.specs.declared.books.Share.{Share}
use Rattle.rely_guarantee.specs.SystemInvariant.{SystemInvariant}
use Rattle.ref_book.specs.declared.book.RefBook.{RefBook}
use Rattle.ref_book.specs.Tracks.{Tracks}
use Rattle.sys_open.specs.Opened.{IsOpened, KeepsRows}
use Rattle.durable_store.specs.Full.{HasAsMany}
use Rattle.lane_system.specs.declared.lane.Lane.{Lane}
use Rattle.lane_system.specs.declared.lane.Reply.{Reply}
use Rattle.lane_system.specs.Causes.{AreCausedIn}
use Rattle.lane_system.specs.Family.{Family, FsSpec}
use Rattle.lane_system.specs.Folders.{HasItself}
use Rattle.lane_system.specs.Kept.{AreHomes, AreIdle, DiskKept, Kept, RunsIn}
use Rattle.lane_system.specs.Lanes.{IsAt, IsTo, count_of}
use Rattle.lane_system.specs.Preserves.{Stands}
use Rattle.lane_system.specs.States.{now_of}
use Rattle.lane_system.specs.Storing.{AreStored}

pub none_some : {X P : Type 0} (o : Option X) (x : X) → o ≡ None → o ≡ Some x → P
none_some o x none is = absurd (let z : None ≡ Some x = sym none ∙ is in cc)

pub none_at : {X P : Type 0} (xs : List X) (n : ℕ) (x : X) → xs ≡ [] → IsAt xs n x → P
none_at xs n x none at = absurd (omega (arith, at.0, ap length none))

count_none : {T W A : Type 0} (lanes : List (Lane T W A)) → ((a : ℕ) (l : Lane T W A) → IsAt lanes a l → l.replies.items ≡ []) → count_of lanes ≡ 0
count_none [] each = refl
count_none (l ∷ rest) each = omega (arith, ap length (each 0 l (omega arith, refl)), count_none rest (λ a x at. each (suc a) x (omega (arith, at.0), at.1)))

-- where a repository was opened no folder stands where an actor stages
pub homes_of : {F : Type 0} (view : F → Option View) (clock : F → ℕ) (was : F → ℕ → View → Type 0) (fs : F) (opened : ℕ) (refs : List (List ℕ × List ℕ)) → IsOpened view clock was fs opened refs → AreHomes (view fs)
homes_of view clock was fs opened refs is actor w few told = subst NotDirectory (sym (is.staging w told actor few (stage_path actor) (is_below-self (stage_path actor)))) tt

module _ {F T W A : Type 0} (f : FsSpec F) (c : Family T W A) (limits : Limits) (base : Base F) (refs : RefBook) (lanes : List (Lane T W A))
    (history : base.books.history.items ≡ []) (pending : base.books.pending ≡ None) (idle : AreIdle c.means limits lanes) where
  no_reply : (a n : ℕ) (r : Reply A) → IsTo lanes a n r → ⊥
  no_reply a n r to = none_at to.0.replies.items n r (idle a to.0 to.1).replies to.2

  no_folder : (name : Name) (a n : ℕ) → HasItself c.means c.doing lanes name a n → ⊥
  no_folder name a n (inl (r, words, to, is, said)) = no_reply a n r to
  no_folder name a n (inr (r, runs, made)) = none_some runs.0.task r (idle a runs.0 runs.1).task runs.3

  no_replies : count_of lanes ≡ 0
  no_replies = count_none lanes (λ a l at. (idle a l at).replies)

  pub kept_first : SystemInvariant f.view f.clock f.spare f.was base → Tracks refs (now_of base.books).refs → length lanes ≤ 8 → AreHomes (f.view base.fs) → DiskKept limits (f.view base.fs) base.books → (base.books.turn ≡ None) × (base.books.exclusive ≡ None) × (base.books.shared.items ≡ []) × (base.books.sysroot ≡ None) → base.books.pins.items ≡ [] → base.books.halted ≡ None → Kept f c limits base refs lanes 0
  kept_first sound tracks few homes disk locks pins live = record {
    sound = sound;
    tracks = tracks;
    few = few;
    homes = homes;
    disk = disk;
    each = λ a l at. (let i = idle a l at in record {
      is = i.is;
      runs = λ live. subst (RunsIn c a (f.view base.fs) base.books) (sym i.task) (λ p is. none_some base.books.pending p pending is);
      started = λ r is. none_some l.task r i.task is;
      replies = λ n r is. none_at l.replies.items n r i.replies is;
      in_order = λ n m r q is too lt. none_at l.replies.items n r i.replies is;
      halts = λ n r is. none_at l.replies.items n r i.replies is;
    });
    locked = λ live. record { turn = λ a is. none_some base.books.turn a locks.0 is; sysroot = λ a is. none_some base.books.sysroot a locks.3 is };
    ordered = record { alone = λ a is. none_some base.books.exclusive a locks.1 is; unshared = λ y has. absurd (no_share y (subst (λ (xs : List Share). Contains xs y) locks.2 has)) };
    pins = λ live p has. absurd (empty p (subst (λ (xs : List Pin). Contains xs p) pins has));
    explained = λ strayed. absurd (let z : None ≡ Some halt.Strayed = sym live ∙ strayed in cc);
    accounted = record {
      made = λ k e at. none_at base.books.history.items k e history at;
      shown = λ p is. none_some base.books.pending p pending is;
      untaken = λ a n r to. absurd (no_reply a n r to);
      over = λ a n b m r q to too lt. absurd (no_reply a n r to);
      going = λ p is live. none_some base.books.pending p pending is;
      numbered = record {
        below = λ a n r to. absurd (no_reply a n r to);
        each = λ k lt. absurd (omega (arith, lt, no_replies));
        once = λ a n b m r q to too same. absurd (no_reply a n r to);
      };
      count = sym no_replies;
      fewer = omega (arith, ap length history);
    };
  }
    where
      empty : (p : Pin) → Contains [] p → ⊥
      empty p (k, lt, e) = omega (arith, lt)

      no_share : (y : Share) → Contains [] y → ⊥
      no_share y (k, lt, e) = omega (arith, lt)

  -- no call has failed since
  pub caused_first : (before : ℕ) → f.faults base.fs ≡ before → base.books.halted ≡ None → AreCausedIn before (f.faults base.fs) base.books.halted lanes
  caused_first before same live = record {
    later = omega (arith, same);
    halts = λ is. absurd (let z : None ≡ Some halt.Failed = sym live ∙ is in cc);
    each = λ a n r to is. absurd (no_reply a n r to);
  }

  pub stands_first : (objects before : ℕ) → f.faults base.fs ≡ before → base.books.halted ≡ None → (v : View) → AreStored f c.means (record { base = base; lanes = lanes; limits = limits; objects = objects }) v → HasAsMany v.now objects → Stands f c before v (record { base = base; lanes = lanes; limits = limits; objects = objects }) v
  stands_first objects before same live v stored many = record {
    lasts = record { right = λ name is. is; each = λ k e words at is. none_at base.books.history.items k e history at };
    caused = caused_first before same live;
    good = stored;
    inside = record { unrefused = λ a n r to is. no_reply a n r to; seen = λ alone a n r to is. no_reply a n r to };
    folders = record {
      made = λ name there. inl there;
      taken = λ a n r words name to is found. absurd (no_reply a n r to);
      clear = record {
        stood = λ name there. there;
        free = λ name a n is. absurd (no_folder name a n is);
        one = λ name a n b k is too. absurd (no_folder name a n is);
      };
    };
    counted = many;
    said = λ a n r words to is. absurd (no_reply a n r to);
    stays = λ a n r words to is. absurd (no_reply a n r to);
    remains = λ over a n r words to is last. absurd (no_reply a n r to);
    founded = record {
      stays = λ commit still is. is;
      each = λ k e at. none_at base.books.history.items k e history at;
      shown = λ p is. none_some base.books.pending p pending is;
      present = record { finished = λ a n r commit to lacks still is. no_reply a n r to; set = λ a n r commit to lacks k e at lt still is. no_reply a n r to };
    };
  }

-- ---- what boots

front_none : (past rest : List Event) → past ++ rest ≡ [] → past ≡ []
front_none [] rest split = refl
front_none (e ∷ past) rest split = cc

-- what stands at the opening is within the bounds of paths in each crash
pub bounded_first : (v : View) → ((p : Path) → Always v p (shows v.now p)) → HasBoundedDeployments v.now → AreBounded v
bounded_first v settled bounded p s lies may some = bounded p lies (subst (λ (x : Seen). x ≢ Vacant) ((settled p).each s may) some)

module _ {F : Type 0} (f : FsSpec F) (limits within : Limits) (refs : State) (rows : List BootRow) (base : Base F) (history : base.books.history.items ≡ []) (pending : base.books.pending ≡ None) (start : base.books.start.deployments.items ≡ ids_of rows)
    (v : View) (told : f.view base.fs ≡ Some v) (tree : IsTree v.now) (settled : (p : Path) → Always v p (shows v.now p)) (keeps : KeepsRows f.view f.was base.fs base.books.opened limits rows) where
  abbrev begin : SystemState
  begin = opening_state base.books.start

  pub boots_first : MayBootNow limits rows base.books v
  boots_first =
      let one : BootsOne limits rows begin [] v = record {
        rows = rows;
        are = record { listed = start; same = λ none. refl };
        boots = record {
          list = list.stands_begins rows v settled (keeps.now v told);
          deployments = λ row among. deployments.stands_begins v tree settled limits row.id row.bootcsum (keeps.whole v told row among);
        };
      } in
      subst (λ (o : Option Pending). MayBootBy limits rows begin (events_of base.books.history.items) (coming_of o) v) (sym pending)
      (subst (λ (h : List Entry). MayBootBy limits rows begin (events_of h) None v) (sym history) one)

  -- and each crash leaves it
  pub still_first : {T W A : Type 0} (lanes : List (Lane T W A)) (objects : ℕ) → SystemInvariant f.view f.clock f.spare f.was base → HasBoundedDeployments v.now → IsGoodSince (Left (f.was base.fs)) base.books.opened within refs
      → BootsStill f rows (record { base = base; lanes = lanes; limits = limits; objects = objects }) v
  still_first lanes objects sound bounded good = record {
    listed = start;
    now = boots_first;
    since = λ t d from left.
        let fits = (sound.crash v told).each t d from left in
        let none : fits.past ≡ [] = front_none fits.past fits.rest (fits.split ∙ rw (history, pending) refl) in
        record {
          fits = fits;
          rows = rows;
          are = keeps.since v told t d from left;
          listed = subst (λ (l : List Event). AreRowsBehind rows begin l rows) (sym none) (record { listed = start; same = λ nothing. refl });
          whole = keeps.whole_since v told t d from left;
        };
    left_over = record {
      bounded = bounded_first v settled bounded;
      since = λ t d from left. can_go_of within d (good t d from left).0;
    };
  }
