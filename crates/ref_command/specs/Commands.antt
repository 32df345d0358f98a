-- The commands that look a commit up or change a ref, as tasks, and what they answer.
use Rattle.std.specs.Prelude.{◌≡◌, ℕ, false, List, Option, Some, None, Ok, Err}
use Rattle.ost_types.specs.Path.{Path}
use Rattle.fs_trait.specs.declared.task.StepResult.{StepResult}
use Rattle.fs_trait.specs.declared.task.StepResult.TheVariants as turn
use Rattle.fs_trait.specs.declared.types.FsErr.{FsErr}
use Rattle.fs_trait.specs.Effect.{OfNone}
use Rattle.fs_trait.specs.Image.{IsTree}
use Rattle.fs_trait.specs.View.{View, all_synced}
use Rattle.fs_trait.specs.Seen.{Seen}
use Rattle.ref_store.specs.declared.phase.Phase.TheVariants as phase
use Rattle.ref_store.specs.declared.refusal.RefRefusal.TheVariants as refusal
use Rattle.ref_store.specs.Change as store
use Rattle.ref_command.specs.declared.answer.RefAnswer.{RefAnswer}
use Rattle.ref_command.specs.declared.answer.RefAnswer.TheVariants as answer
use Rattle.rely_guarantee.specs.declared.kind.Wants.{Wants}
use Rattle.rely_guarantee.specs.Books.{Books}
use Rattle.rely_guarantee.specs.Laws.{Kind, Quiet, Take}
use Rattle.ref_command.specs.declared.work.RefWork.{RefWork}
use Rattle.ref_command.specs.declared.look_up.LookUp.{LookUp}
use Rattle.ref_command.specs.declared.plan.Plan.{Plan}
use Rattle.ref_command.specs.declared.command.RefCommand.{RefCommand}
use Rattle.ref_command.specs.declared.command.RefCommand.TheVariants.{Parse, Reset, Change}
use Rattle.ref_command.specs.declared.look_up.Found.{Found}
use Rattle.ref_command.specs.declared.look_up.Found.TheVariants.{Missing, Partial, Whole}
use Rattle.ref_command.specs.Found.{commit_name, IsFound}
use Rattle.ref_command.specs.Founded.{IsFounded, IsKnownBy}
use Rattle.ref_command.specs.Kinds.{Answer, ref_kind, ref_needs, ref_writes, ref_stepped, ref_leaves, ref_refuses}
use Rattle.ref_command.specs.Facts.{ref_facts}
use Rattle.ref_command.specs.Pins.{IsPinnedBy, IsPinnedFor}

-- a pin of the commit, and nothing else
abbrev pub pin_wants : List ℕ → Wants
pin_wants commit = record { exclusive = false; turn = false; shared = false; sysroot = false; hold = None; pin = Some (commit_name commit) }

-- a look-up pins the commit; behind it all is made to last
abbrev pub found_kind : Option Found → List ℕ → Kind
found_kind None commit = Take (pin_wants commit)
found_kind (Some found) commit = Quiet

-- the change at its beginning
abbrev pub planned : Plan → RefWork
planned p = record { task = record { actor = p.lane; name = p.name; seen = p.seen; value = Some p.commit; phase = phase.Look }; answer = None }

abbrev pub command_kind : RefCommand → Kind
command_kind (Parse look) = Take (pin_wants look.commit)
command_kind (Reset look plan) = found_kind look.found look.commit
command_kind (Change work) = ref_kind work

abbrev pub command_needs : ℕ → RefCommand → View → Type 0
command_needs actor (Parse look) v = Unit {0}
command_needs actor (Reset look plan) v = Unit {0}
command_needs actor (Change work) v = ref_needs actor work v

abbrev pub command_writes : ℕ → RefCommand → View → Path → Seen → Type 0
command_writes actor (Parse look) v p s = ⊥
command_writes actor (Reset look plan) v p s = ⊥
command_writes actor (Change work) v p s = ref_writes actor work v p s

-- a commit that isn't whole ends the command
abbrev pub IsStop : Found → Type 0
IsStop Whole = ⊥
IsStop found = Unit {0}

abbrev pub reset_stepped : Option Found → LookUp → Plan → StepResult (Unit {0}) → RefCommand → Type 0
reset_stepped None look plan turn.More (Reset new next) = (new ≡ record look { found = Some Whole }) × (next ≡ plan)
reset_stepped None look plan (turn.Done x) (Reset new next) = (found : Found) × IsStop found × (new ≡ record look { found = Some found }) × (next ≡ plan)
reset_stepped (Some found) look plan turn.More (Change work) = work ≡ planned plan
reset_stepped found look plan u new = ⊥

abbrev pub command_stepped : RefCommand → StepResult (Unit {0}) → RefCommand → Type 0
command_stepped (Parse look) (turn.Done x) (Parse new) = (found : Found) × (new ≡ record look { found = Some found })
command_stepped (Reset look plan) u new = reset_stepped look.found look plan u new
command_stepped (Change work) u (Change new) = ref_stepped work u new
command_stepped old u new = ⊥

-- what a look-up found, on a disk that is a tree, and nothing is changed by it
abbrev pub Finds : LookUp → LookUp → Found → View → View → Type 0
Finds look new found v w = (w ≡ v) × (new ≡ record look { found = Some found }) × IsFound v.now look.commit found × IsTree v.now

abbrev pub reset_leaves : Option Found → LookUp → Plan → StepResult (Unit {0}) → RefCommand → View → View → Type 0
reset_leaves None look plan turn.More (Reset new next) v w = Finds look new Whole v w × (next ≡ plan)
reset_leaves None look plan (turn.Done x) (Reset new next) v w = (found : Found) × IsStop found × Finds look new found v w × (next ≡ plan)
reset_leaves (Some found) look plan turn.More (Change work) v w = (work ≡ planned plan) × (w ≡ all_synced v)
reset_leaves found look plan u new v w = ⊥

abbrev pub command_leaves : RefCommand → StepResult (Unit {0}) → RefCommand → View → View → Type 0
command_leaves (Parse look) (turn.Done x) (Parse new) v w = (found : Found) × Finds look new found v w
command_leaves (Reset look plan) u new v w = reset_leaves look.found look plan u new v w
command_leaves (Change work) u (Change new) v w = ref_leaves work u new v w
command_leaves old u new v w = ⊥

abbrev pub command_refuses : RefCommand → View → FsErr → Type 0
command_refuses (Parse look) v e = OfNone e
command_refuses (Reset look plan) v e = OfNone e
command_refuses (Change work) v e = ref_refuses work v e

-- Before a reset changes its ref: what the change will need; what is known of its commit; and that this is pinned, once it was looked up.
pub record Resetting (lane : ℕ) (look : LookUp) (plan : Plan) (v : View) (b : Books) : Type 0 where
  pub change : ref_facts lane (planned plan) v b
  pub same : look.commit ≡ plan.commit
  pub commit : IsKnownBy look.found plan.commit v
  pub pinned : IsPinnedBy look.found lane b plan.commit

-- While a ref is changed: what the change needs; and that the commit that it is to name lasts and is pinned.
pub record Changing (lane : ℕ) (work : RefWork) (v : View) (b : Books) : Type 0 where
  pub ref : ref_facts lane work v b
  pub founded : IsFounded work.task.value v
  pub pinned : IsPinnedFor work.task.value lane b

abbrev pub command_facts : ℕ → RefCommand → View → Books → Type 0
command_facts lane (Parse look) v b = Unit {0}
command_facts lane (Reset look plan) v b = Resetting lane look plan v b
command_facts lane (Change work) v b = Changing lane work v b

-- a reset at its beginning, and a removal
abbrev pub IsReset : ℕ → List ℕ → Option (List ℕ) → List ℕ → RefCommand → Type 0
IsReset lane name seen commit (Reset look plan) = (look.commit ≡ commit) × (look.found ≡ None) × (plan.lane ≡ lane) × (plan.name ≡ name) × (plan.seen ≡ seen) × (plan.commit ≡ commit)
IsReset lane name seen commit t = ⊥

abbrev pub removal : ℕ → List ℕ → List ℕ → RefWork
removal lane name seen = record { task = record { actor = lane; name = name; seen = Some seen; value = None; phase = phase.Look }; answer = None }

abbrev pub IsDrop : ℕ → List ℕ → List ℕ → RefCommand → Type 0
IsDrop lane name seen t = t ≡ Change (removal lane name seen)

-- what a command answers, once it is done
abbrev pub parse_answer : Option Found → List ℕ → Option RefAnswer
parse_answer None commit = None
parse_answer (Some Missing) commit = Some (answer.NoCommit commit)
parse_answer (Some Partial) commit = Some (answer.Partial commit)
parse_answer (Some Whole) commit = Some (answer.Commit commit)

abbrev pub reset_answer : Option Found → List ℕ → Option RefAnswer
reset_answer (Some Missing) commit = Some (answer.NoCommit commit)
reset_answer (Some Partial) commit = Some (answer.Partial commit)
reset_answer found commit = None

abbrev pub change_answer : Answer → Option RefAnswer
change_answer None = None
change_answer (Some (Ok x)) = Some answer.Changed
change_answer (Some (Err (refusal.RefClash other))) = Some (answer.RefClash other)
change_answer (Some (Err (refusal.RefMoved seen now))) = Some (answer.RefMoved seen now)
change_answer (Some (Err refusal.NoRef)) = Some answer.NoRef

abbrev pub answer_of : RefCommand → Option RefAnswer
answer_of (Parse look) = parse_answer look.found look.commit
answer_of (Reset look plan) = reset_answer look.found look.commit
answer_of (Change work) = change_answer work.answer

-- at most so many steps are left
abbrev pub reset_left : Option Found → ℕ
reset_left None = 340282366920938463463374607431768211455
reset_left (Some found) = 340282366920938463463374607431768211454

abbrev pub command_left : RefCommand → ℕ
command_left (Parse look) = 1
command_left (Reset look plan) = reset_left look.found
command_left (Change work) = store.left work.task
