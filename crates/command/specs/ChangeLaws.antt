-- What a family proves of the change that a command makes.
use Rattle.std.specs.Prelude.{◌≡◌, ℕ, List, [], ◌++◌, Some}
use Rattle.ost_types.specs.declared.object.ObjName.{ObjName}
use Rattle.fs_trait.specs.declared.task.StepResult.TheVariants as turn
use Rattle.fs_trait.specs.View.{Disk, View}
use Rattle.rely_guarantee.specs.declared.event.Event.{Event}
use Rattle.rely_guarantee.specs.declared.event.Event.TheVariants.{SetRef, DropRef, Pruned, SetDeployments}
use Rattle.rely_guarantee.specs.Books.{Books}
use Rattle.rely_guarantee.specs.Lasting.{IsRight, Stays, StaysFinished, StaysOn}
use Rattle.rely_guarantee.specs.Laws.{Publish, MakeDurable, IsMakeDurable}
use Rattle.command.specs.Doing.{Doing}
use Rattle.command.specs.Meaning.{Meaning}
use Rattle.command.specs.Removed.{AreAmong}
use Rattle.command.specs.Since.{Since}
use Rattle.command.specs.Tasks.{TaskSpec}

-- if the change sets its ref to a commit, each crash leaves that one, without a mark
abbrev pub Founds : View → Event → Type 0
Founds v (SetRef name seen commit) = StaysFinished v commit
Founds v (DropRef name seen) = Unit {0}
Founds v (Pruned depth roots held removed) = Unit {0}
Founds v (SetDeployments change list) = Unit {0}

-- what was right at the opening is so now
abbrev pub IsRightSince : View → View → Type 0
IsRightSince opening v = (name : ObjName) → IsRight opening name → IsRight v name

pub record ChangeLaws {T W A : Type 0} (k : TaskSpec T) (m : Meaning W A) (d : Doing T W A) : Type 0 where
  -- what a step shows and makes last is the command's change; a ref is set to a commit that lasts
  pub shown : (since : Since) (c : W) (t : T) (e : Event) → d.pursues since c t → k.kind t ≡ Publish e → m.changes since c e
  pub settled : (since : Since) (c : W) (t : T) (e : Event) → d.pursues since c t → k.kind t ≡ MakeDurable e → m.changes since c e
  pub founds : (lane : ℕ) (t : T) (v : View) (b : Books) (e : Event) → k.facts lane t v b → k.kind t ≡ Publish e → Founds v e
  -- the answer of the last step says so exactly where that step made the change last
  pub makes : (since : Since) (c : W) (t new : T) (a : A) → d.pursues since c t → k.stepped t (turn.Done tt) new → d.answer new ≡ Some a → IsMakeDurable (k.kind t) → m.makes a c
  pub makes_not : (since : Since) (c : W) (t new : T) (a : A) → d.pursues since c t → k.stepped t (turn.Done tt) new → d.answer new ≡ Some a → (IsMakeDurable (k.kind t) → ⊥) → m.makes a c → ⊥
  -- and what it says of that change is so
  pub tells : (since : Since) (c : W) (t new : T) (a : A) (e : Event) → d.pursues since c t → k.stepped t (turn.Done tt) new → d.answer new ≡ Some a → k.kind t ≡ MakeDurable e → m.tells a e
  -- what a change that lasts leaves in the store stands, and stays so while the store's objects do, but for those that are removed
  pub kept : (since : Since) (opening : View) (lane : ℕ) (c : W) (t new : T) (v w : View) (b : Books) → IsRightSince opening v → d.pursues since c t → k.facts lane t v b → k.leaves t (turn.Done tt) new v w → IsMakeDurable (k.kind t) → m.keeps since opening [] c w
  pub keeps : (since : Since) (opening : View) (out removed : List ObjName) (c : W) (v w : View) → IsRightSince opening v → Stays removed v w → m.keeps since opening out c v → m.keeps since opening (removed ++ out) c w
  pub keeps_on : (since : Since) (opening : View) (out removed : List ObjName) (c : W) (v : View) (disk : Disk) → StaysOn removed v disk → m.keeps since opening out c v → m.keeps_on since opening (removed ++ out) c disk
  -- so it is where more was removed
  pub keeps_wider : (since : Since) (opening : View) (out more : List ObjName) (c : W) (v : View) → AreAmong out more → m.keeps since opening out c v → m.keeps since opening more c v
  pub keeps_on_wider : (since : Since) (opening : View) (out more : List ObjName) (c : W) (disk : Disk) → AreAmong out more → m.keeps_on since opening out c disk → m.keeps_on since opening more c disk
