-- What a family proves of its answers.
use Rattle.std.specs.Prelude.{◌≡◌, ◌≢◌, ◌≤◌, ◌++◌, ℕ, List, [], Contains, Some, IsSome}
use Rattle.ost_types.specs.declared.object.ObjName.{ObjName}
use Rattle.fs_trait.specs.declared.task.StepResult.TheVariants as turn
use Rattle.fs_trait.specs.View.{View}
use Rattle.repo_layout.specs.RefFile.{IsSum}
use Rattle.store_check.specs.Good.{IsGoodStore}
use Rattle.rely_guarantee.specs.declared.books.Claim.{Claim}
use Rattle.rely_guarantee.specs.Books.{Books, listed_in}
use Rattle.rely_guarantee.specs.Lasting.{StaysFinished}
use Rattle.rely_guarantee.specs.Rely.{Interference}
use Rattle.rely_guarantee.specs.State.{SystemState}
use Rattle.command.specs.declared.told.Told.{Told}
use Rattle.command.specs.CommitFiles.{CommitsAreFiles}
use Rattle.command.specs.Doing.{Doing, IsAnswer}
use Rattle.command.specs.Meaning.{Meaning}
use Rattle.command.specs.Removed.{AreAmong, RemovesOnly}
use Rattle.command.specs.Removing.{IsAlone}
use Rattle.command.specs.Sees.{Sees, listed_behind}
use Rattle.command.specs.Since.{Since, placed}
use Rattle.command.specs.Sound.{IsSoundStore}
use Rattle.command.specs.Tasks.{TaskSpec}

-- the lane has no checkout claimed, as at the end of its command
abbrev pub HasNoClaims : ℕ → Books → Type 0
HasNoClaims lane b = (c : Claim) → Contains b.claims c → c.lane ≢ lane

pub record AnswerLaws {T W A : Type 0} (k : TaskSpec T) (m : Meaning W A) (d : Doing T W A) : Type 0 where
  -- the last step has an answer, and what it says is so; and what it shows, where the store is sound, with the deployments before that step
  pub answers : (since : Since) (c : W) (t new : T) → d.pursues since c t → k.stepped t (turn.Done tt) new → IsSome (d.answer new)
  pub says : (since : Since) (p : SystemState) (c : W) (t new : T) (a : A) → d.pursues since c t → k.stepped t (turn.Done tt) new → d.answer new ≡ Some a → m.says (placed since p) a c
  pub shows : (since : Since) (p : SystemState) (lane : ℕ) (c : W) (t new : T) (v w : View) (b : Books) (a : A) → p.deployments ≡ listed_in b → d.pursues since c t → k.facts lane t v b → k.leaves t (turn.Done tt) new v w → d.answer new ≡ Some a → IsSoundStore since.limits v.now → m.shows (placed since p) v a c
  -- so is what it shows behind that step; an answer by the state alone shows nothing there
  pub remains : (since : Since) (p : SystemState) (lane : ℕ) (c : W) (t new : T) (v w : View) (b : Books) (a : A) → p.deployments ≡ listed_behind (k.kind t) b → d.pursues since c t → k.facts lane t v b → k.leaves t (turn.Done tt) new v w → d.answer new ≡ Some a → m.remains (placed since p) w a c
  pub remains_at_once : (since : Since) (c : W) (a : A) (v : View) → IsAnswer m since c a → m.remains since v a c
  -- and so is what it says where the view is told: the last step sees a state
  pub knows : (since : Since) (p : SystemState) (lane : ℕ) (c : W) (t new : T) (v w : View) (b : Books) (a : A) → d.pursues since c t → k.facts lane t v b → k.leaves t (turn.Done tt) new v w → d.answer new ≡ Some a → Sees (k.kind t) lane b v w p.refs → m.knows (placed since p) a c
  -- that a commit isn't there is told by a step that nobody else's removal goes on beside
  pub lacks_alone : (since : Since) (lane : ℕ) (c : W) (t new : T) (v w : View) (b : Books) (a : A) (commit : List ℕ) → d.pursues since c t → k.facts lane t v b → k.leaves t (turn.Done tt) new v w → d.answer new ≡ Some a → m.lacks a commit → IsSum commit → IsAlone (k.kind t)
  -- no answer tells of a commit that lasts that it isn't there, where commits are files; none that an object isn't there as its name says,
  -- where the store is good; and none that the store is full which isn't, by the count that the task was told before that step
  pub lacks : (since : Since) (v : View) (a : A) (c : W) (commit : List ℕ) → CommitsAreFiles v.now → m.shows since v a c → m.lacks a commit → StaysFinished v commit → ⊥
  pub outside : (since : Since) (v : View) (a : A) (c : W) → IsGoodStore since.limits v.now → m.shows since v a c → m.outside a → ⊥
  pub full : (told : Told) (since : Since) (c : W) (t new : T) (a : A) → d.pursues since c t → k.stepped (d.hears told t) (turn.Done tt) new → d.answer new ≡ Some a → m.full a → since.limits.objects ≤ told.objects
  -- what it leaves stands, where the store is sound, and stays so while anyone acts, but for what that removes; so it is where more was removed
  pub left : (since : Since) (actor lane : ℕ) (c : W) (t new : T) (v w : View) (b b' : Books) (a : A) → d.pursues since c t → k.facts lane t v b → k.leaves t (turn.Done tt) new v w → d.answer new ≡ Some a → Interference actor lane v b w b' → HasNoClaims lane b' → IsSoundStore since.limits v.now → m.stays since [] a c w b'
  pub stays : (since : Since) (actor lane : ℕ) (out removed : List ObjName) (a : A) (c : W) (v w : View) (b b' : Books) → Interference actor lane v b w b' → RemovesOnly removed v w → m.stays since out a c v b → m.stays since (removed ++ out) a c w b'
  pub stays_wider : (since : Since) (out more : List ObjName) (a : A) (c : W) (v : View) (b : Books) → AreAmong out more → m.stays since out a c v b → m.stays since more a c v b
