-- What the commands that run are after, what they have pinned, and what each holds of its objects.
use Rattle.std.specs.Prelude.{◌≡◌, ℕ, Option, Some, None}
use Rattle.fs_trait.specs.View.{View}
use Rattle.rely_guarantee.specs.Books.{books_of}
use Rattle.lane_system.specs.declared.lane.Running.{Running}
use Rattle.lane_system.specs.Family.{Family}
use Rattle.lane_system.specs.Lanes.{IsCommand, IsRunning}
use Rattle.lane_system.specs.Pins.{AreInWork}
use Rattle.lane_system.specs.Replies.{IsTold}
use Rattle.lane_system.specs.States.{since_in}
use Rattle.lane_system.specs.System.{System}

-- Each task that runs is one of its lane's next command, in the state at whose moment it began. While no changing call has failed, each pin
-- belongs to a lane whose command runs, and is in the work of that command; and where the file system tells its view, each task holds what
-- it has stored or found so far.
pub record Held {F T W A : Type 0} (view : F → Option View) (c : Family T W A) (s : System F T W A) : Type 0 where
  pub after : (lane number : ℕ) (r : Running T) (words : W) → IsRunning s.lanes lane number r → IsCommand s.lanes lane number words → c.doing.pursues (since_in s.limits s.base.books r.start) words r.work
  pub pins : s.base.books.halted ≡ None → AreInWork (IsTold view) c.means s.limits s.base.books s.lanes
  pub holds : s.base.books.halted ≡ None → (v : View) → view s.base.fs ≡ Some v → (lane number : ℕ) (r : Running T) → IsRunning s.lanes lane number r → c.doing.holds lane r.work v (books_of s.base.books)
