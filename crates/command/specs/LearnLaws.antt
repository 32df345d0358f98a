-- What a family proves of what its tasks are told behind their steps.
use Rattle.std.proofs.Common.{◌≡◌, ◌≤◌, ℕ, List, Option, Some, None, sym, ap, subst, arith}
use Rattle.ost_types.specs.Path.{Name}
use Rattle.fs_trait.specs.View.{View}
use Rattle.boot_model.specs.declared.item.DepId.{DepId}
use Rattle.boot_read.specs.declared.row.BootRow.{BootRow}
use Rattle.durable_list.specs.Standing.{ListStands, ids_of}
use Rattle.durable_deployments.specs.Bounds.{AreBounded}
use Rattle.rely_guarantee.specs.declared.books.Entry.{Entry}
use Rattle.rely_guarantee.specs.declared.books.Pending.{Pending}
use Rattle.rely_guarantee.specs.declared.books.Pin.{Pin}
use Rattle.rely_guarantee.specs.Books.{Books, listed_in}
use Rattle.rely_guarantee.specs.Laws.{Holds, NotPending}
use Rattle.rely_guarantee.specs.State.{after, events_of, SystemState}
use Rattle.rely_guarantee.specs.SystemInvariant.{IsRelistedByHolder, Stands}
use Rattle.ref_book.specs.declared.book.RefBook.{RefBook}
use Rattle.ref_book.specs.Tracks.{Tracks}
use Rattle.durable_store.specs.Free.{ObjectPathsFree}
use Rattle.command.specs.Doing.{Doing}
use Rattle.command.specs.MayBoot.{coming_in}
use Rattle.command.specs.Since.{Since}
use Rattle.command.specs.Tasks.{TaskSpec}

-- What a lane's task is told is so: these are the refs after all changes that last, the deployments that boot, and all pins; nothing is shown
-- where the lane has the lock of those that remove and shows nothing itself; what stands where deployments and what boots them may is within the
-- bounds of paths; and the list that boots stands, where no other one is published, as only the lane that works on the list does.
pub record IsLearnt (start : SystemState) (entries : List Entry) (pending : Option Pending) (refs : RefBook) (ids : List DepId) (pins : List Pin) (lane : ℕ) (v : View) (b : Books) : Type 0 where
  pub stands : Stands start entries pending v
  pub tracks : Tracks refs (after (events_of entries) start).refs
  pub listed : ids ≡ listed_in b
  pub pins_are : pins ≡ b.pins
  pub free : ObjectPathsFree v.now
  pub clear : b.exclusive ≡ Some lane → NotPending lane b → pending ≡ None
  pub bounded : AreBounded v
  pub boots : coming_in b ≡ None → (rows : List BootRow) × (listed_in b ≡ ids_of rows) × ListStands rows v
  pub relists : IsRelistedByHolder b

pub record LearnLaws {T W A : Type 0} (k : TaskSpec T) (d : Doing T W A) : Type 0 where
  -- what the next step is to the system stays, and what the task is after, and has done
  pub kind : (refs : RefBook) (ids : List DepId) (pins : List Pin) (t new : T) → d.learns refs ids pins t new → k.kind new ≡ k.kind t
  pub pursues : (refs : RefBook) (ids : List DepId) (pins : List Pin) (since : Since) (c : W) (t new : T) → d.learns refs ids pins t new → d.pursues since c t → d.pursues since c new
  pub left : (refs : RefBook) (ids : List DepId) (pins : List Pin) (t new : T) → d.learns refs ids pins t new → d.left new ≤ d.left t
  pub met : (refs : RefBook) (ids : List DepId) (pins : List Pin) (t new : T) → d.learns refs ids pins t new → d.met new ≡ d.met t
  pub made : (refs : RefBook) (ids : List DepId) (pins : List Pin) (t new : T) (name : Name) → d.learns refs ids pins t new → d.made t name → d.made new name
  pub unmade : (refs : RefBook) (ids : List DepId) (pins : List Pin) (t new : T) (name : Name) → d.learns refs ids pins t new → d.made new name → d.made t name
  -- it has its facts, where what it is told is so
  pub facts : (start : SystemState) (entries : List Entry) (pending : Option Pending) (refs : RefBook) (ids : List DepId) (pins : List Pin) (lane : ℕ) (t new : T) (v : View) (b : Books) → IsLearnt start entries pending refs ids pins lane v b → d.learns refs ids pins t new → Holds (k.kind t) lane b → k.facts lane t v b → k.facts lane new v b

-- a task that learns nothing is as it was
abbrev pub learns_nothing : {T : Type 0} → RefBook → List DepId → List Pin → T → T → Type 0
learns_nothing refs ids pins t new = new ≡ t

-- and then the laws hold
pub no_learning : {T W A : Type 0} (k : TaskSpec T) (d : Doing T W A) → ((refs : RefBook) (ids : List DepId) (pins : List Pin) (t new : T) → d.learns refs ids pins t new → new ≡ t) → LearnLaws k d
no_learning {T} k d same = record {
  kind = λ refs ids pins t new is. ap k.kind (same refs ids pins t new is);
  pursues = λ refs ids pins since c t new is after. subst (d.pursues since c) (sym (same refs ids pins t new is)) after;
  left = λ refs ids pins t new is. omega (arith, ap d.left (same refs ids pins t new is));
  met = λ refs ids pins t new is. ap d.met (same refs ids pins t new is);
  made = λ refs ids pins t new name is made. subst (λ (x : T). d.made x name) (sym (same refs ids pins t new is)) made;
  unmade = λ refs ids pins t new name is made. subst (λ (x : T). d.made x name) (same refs ids pins t new is) made;
  facts = λ start entries pending refs ids pins lane t new v b told is holds facts. subst (λ (x : T). k.facts lane x v b) (sym (same refs ids pins t new is)) facts;
}
