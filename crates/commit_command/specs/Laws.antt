-- The laws of a commit as a task.
use Rattle.std.proofs.Common.{◌≡◌, ◌≢◌, inl, inr, ⊎_elim, ◌<◌, ℕ, Bool, true, false, refl, sym, ◌∙◌, ap, subst, List, Option, Some, None, is_some, Ok}
use Rattle.ost_types.specs.declared.object.ObjName.{ObjName}
use Rattle.ost_types.specs.Path.{Path, is_below}
use Rattle.fs_trait.specs.declared.types.FsErr.{FsErr}
use Rattle.fs_trait.specs.declared.task.Need.{Need}
use Rattle.fs_trait.specs.declared.task.Need.TheVariants as need
use Rattle.fs_trait.specs.declared.task.StepResult.TheVariants as turn
use Rattle.fs_trait.specs.View.{View}
use Rattle.fs_trait.specs.Seen.{Seen, NotDirectory}
use Rattle.fs_trait.specs.Change.{Writes, LeadsTo}
use Rattle.fs_trait.proofs.Kept.{meets_kept}
use Rattle.repo_layout.specs.declared.folder.Folder.{Folder}
use Rattle.repo_layout.specs.declared.folder.Folder.TheVariants as folder
use Rattle.repo_layout.specs.Paths.{folder_path, heads, stage_path}
use Rattle.repo_layout.specs.Place.{Stage, ObjectsFolder, Other, place}
use Rattle.repo_layout.proofs.Places.{place-objects_folder}
use Rattle.ref_store.specs.Change as store
use Rattle.ref_store.specs.Steps.{HereOfStage}
use Rattle.layout_rules.proofs.Layouts.{fixed_other}
use Rattle.rely_guarantee.specs.Books.{Books, Agrees, Granted, Keeps}
use Rattle.rely_guarantee.specs.Rely.{Interference}
use Rattle.rely_guarantee.specs.Laws.{Kind, Quiet, Store, Take, Claim, Publish, Published, Remove, MakeDurable, Laws, IsBy, IsBefore, IsClaim, IsLastly, Chain, Owned, Stood, StepObligation}
use Rattle.tree_build.specs.Objects as tree
use Rattle.commit_build.specs.declared.phase.Phase.{Phase}
use Rattle.commit_build.specs.declared.phase.Phase.TheVariants as phase
use Rattle.commit_build.specs.Committing.{Committing, IsMade, Follows, storing_in, named_by, commit_in, named_commit}
use Rattle.commit_build.specs.Steps.{Needs, WritesOf, NeverMarked, IsSure}
use Rattle.commit_build.specs.Whole.{its_commit}
use Rattle.commit_build.proofs.Stable.{Lies, Relies, relied_in, commit_lies}
use Rattle.commit_build.proofs.PutSteps.{needs_as, kept_as}
use Rattle.commit_build.proofs.Wholes.{IsSame, same_more}
use Rattle.obj_store.specs.declared.phase.Put.{Put}
use Rattle.obj_store.specs.Putting as put
use Rattle.commit_build.specs.declared.message.Message.{Message}
use Rattle.commit_build.specs.declared.refusal.BuildRefusal.{BuildRefusal}
use Rattle.ref_command.specs.declared.work.RefWork.{RefWork}
use Rattle.ref_command.specs.Kinds.{event, ref_kind, ref_leaves}
use Rattle.ref_command.specs.Facts.{Facts}
use Rattle.ref_command.specs.Kept.{facts_gain, stage_folder}
use Rattle.ref_command.specs.Laws.{no_claim, ref_laws}
use Rattle.commit_command.specs.declared.naming.Naming.{Naming}
use Rattle.commit_command.specs.declared.command.CommitCommand.{CommitCommand}
use Rattle.commit_command.specs.Kinds.{put_wants, build_kind, kind_by, commit_kind, planned, needs_by, commit_needs, writes_by, commit_writes, BuildSteps, Builds, built, stepped_at, stepped_by, commit_stepped, leaves_at, leaves_by, commit_leaves}
use Rattle.commit_command.specs.Facts.{Pinned, Building, Changing, facts_by, commit_facts}
use Rattle.commit_command.specs.Lying.{OfBuild, build_place, stage_place}
use Rattle.commit_command.specs.Kept.{lasts_own, building_kept, changing_kept, building_gain, changing_gain}
use Rattle.commit_command.specs.Relying.{Had, goes_on, relied_next, relied_end}
use Rattle.commit_command.specs.Meeting.{met_has}
use Rattle.commit_command.specs.Duties.{build_duty}

ready_by : (o : Option Naming) (actor lane : ℕ) (t : CommitCommand) (v : View) (b : Books) → facts_by o lane t v b → needs_by o actor t v
ready_by None actor lane t v b f = f.needs
ready_by (Some n) actor lane t v b f = f.ref.needs

kept_by : (o : Option Naming) (actor lane mine : ℕ) (t : CommitCommand) (v w : View) (b b' : Books) → mine ≢ actor → mine ≢ lane → Interference actor lane v b w b' → facts_by o mine t v b → facts_by o mine t w b'
kept_by None actor lane mine t v w b b' not other does f = building_kept b v actor lane mine not other t f w b' does
kept_by (Some n) actor lane mine t v w b b' not other does f = changing_kept b v actor lane mine not other t n f w b' does

gains_by : (o : Option Naming) (lane : ℕ) (t : CommitCommand) (v : View) (b b' : Books) → Keeps lane b b' → facts_by o lane t v b → facts_by o lane t v b'
gains_by None lane t v b b' keeps f = building_gain lane t v b b' keeps f
gains_by (Some n) lane t v b b' keeps f = changing_gain lane t n v b b' keeps f

-- ---- what a step owes
-- what each way to end owes, all of them owe
duty_each : (k : Kind) (actor lane : ℕ) (v : View) (b : Books) (W : Path → Seen → Type 0) (D : RefWork → View → Type 0) (E : View → Type 0) → RefWork
    → ((n : RefWork) → StepObligation k actor lane v b W (D n)) → ((w : View) → E w → (n : RefWork) × D n w) → StepObligation k actor lane v b W E
duty_each Quiet actor lane v b W D E work duty some = duty work
duty_each Store actor lane v b W D E work duty some = duty work
duty_each (Take wants) actor lane v b W D E work duty some = duty work
duty_each (Claim name) actor lane v b W D E work duty some = duty work
duty_each (Publish e) actor lane v b W D E work duty some = duty work
duty_each (Published e owed) actor lane v b W D E work duty some = duty work
duty_each (Remove e owed) actor lane v b W D E work duty some = duty work
duty_each (MakeDurable e) actor lane v b W D E work duty some = ((duty work).0, λ w ends. let n = some w ends in (duty n.0).1 w n.1)

duty_by : (o : Option Naming) (actor lane : ℕ) (t new : CommitCommand) (v : View) (b : Books) → Agrees b → IsBy (kind_by o t) actor lane → Stood (kind_by o t) actor lane b → facts_by o lane t v b
    → StepObligation (kind_by o t) actor lane v b (writes_by o actor t v) (leaves_by o t (turn.Done tt) new v)
duty_by None actor lane t new v b agrees by stood f = build_duty b v lane t f actor (storing_in t.build.phase) refl agrees stood (leaves_by None t (turn.Done tt) new v)
duty_by (Some n) actor lane t new v b agrees by stood f = duty_each (ref_kind n.work) actor lane v b (writes_by (Some n) actor t v)
    (λ x w. ref_leaves n.work (turn.Done tt) x v w) (leaves_by (Some n) t (turn.Done tt) new v) n.work
    (λ x. ref_laws.duty actor lane n.work x v b agrees by stood f.ref)
    (λ w l. (l.0, l.2))

-- ---- which kind of step follows which
before_build : (pinned : Bool) (o : Option ObjName) → IsBefore (build_kind pinned o)
before_build pinned None = tt
before_build pinned (Some name) = tt

build_chain : (pinned : Bool) (o : Option ObjName) (next : Kind) → IsBefore next → Chain (build_kind pinned o) next
build_chain pinned None next before = before
build_chain pinned (Some name) next before = before

build_last : (pinned : Bool) (o : Option ObjName) → IsLastly (build_kind pinned o)
build_last pinned None = tt
build_last pinned (Some name) = tt

-- a step of the build leaves the change out
chain_at : (c : Option (List ℕ)) (t new : CommitCommand) → t.change ≡ None → stepped_at c t turn.More new → IsBefore (commit_kind new)
chain_at None t new none step =
    subst (λ (x : CommitCommand). IsBefore (commit_kind x)) (sym step.0)
    (subst (λ o. IsBefore (kind_by o (built t new.build t.refusal))) (sym none) (before_build _ (storing_in new.build.phase)))
chain_at (Some commit) t new none step = subst (λ (x : CommitCommand). IsBefore (commit_kind x)) (sym step) tt

chain_by : (o : Option Naming) (t new : CommitCommand) → t.change ≡ o → stepped_by o t turn.More new → Chain (kind_by o t) (commit_kind new)
chain_by None t new is step = build_chain t.pinned (storing_in t.build.phase) (commit_kind new) (chain_at (commit_in t.build.phase) t new is step)
chain_by (Some n) t new is step = subst (λ (x : CommitCommand). Chain (ref_kind n.work) (commit_kind x)) (sym step.1) (ref_laws.chain n.work step.0 step.2)

last_at : (c : Option (List ℕ)) (t new : CommitCommand) → stepped_at c t (turn.Done tt) new → IsLastly (build_kind t.pinned (storing_in t.build.phase))
last_at None t new step = build_last t.pinned (storing_in t.build.phase)
last_at (Some commit) t new step = absurd step

last_by : (o : Option Naming) (t new : CommitCommand) → stepped_by o t (turn.Done tt) new → IsLastly (kind_by o t)
last_by None t new step = last_at (commit_in t.build.phase) t new step
last_by (Some n) t new step = ref_laws.last n.work step.0 step.2

-- ---- the next step's facts
-- what is being put goes on to be put, under its name
pub named_same : (n : Need) (a name : ObjName) → named_by n a ≡ Some name → a ≡ name
named_same need.Shared a name is = cc
named_same need.Nothing a name is = (let n : None ≡ Some name = is in cc)
named_same need.Pin a name is = (let n : None ≡ Some name = is in cc)
named_same need.Exclusive a name is = (let n : None ≡ Some name = is in cc)
named_same need.RefLock a name is = (let n : None ≡ Some name = is in cc)
named_same need.Sysroot a name is = (let n : None ≡ Some name = is in cc)
named_same need.Hold a name is = (let n : None ≡ Some name = is in cc)
named_same need.RefLockAtPlace a name is = (let n : None ≡ Some name = is in cc)
named_same need.End a name is = (let n : None ≡ Some name = is in cc)

put_on : (a q : put.Putting) → put.IsStepped a (Ok turn.More) q → (name : ObjName) → named_by (put.need_in q.phase) q.name ≡ Some name → named_by (put.need_in a.phase) a.name ≡ Some name
put_on a q stepped name is =
    goes_on a.phase q.phase a.source q.source a.name stepped.1
    ∙ ap Some (sym (ap (λ (x : put.Putting). x.name) stepped.0) ∙ named_same (put.need_in q.phase) q.name name is)

same_put : (t : Committing) (old new : Phase) (count : ℕ) (met : Option (ObjName × Put)) → Follows t old new count met → is_some (storing_in old) ≡ true → (name : ObjName) → storing_in new ≡ Some name → storing_in old ≡ Some name
same_put t old phase.Check count met f some name is = (let n : None ≡ Some name = is in cc)
same_put t old phase.Make count met f some name is = (let n : None ≡ Some name = is in cc)
same_put t old (phase.Made d) count met f some name is = (let n : None ≡ Some name = is in cc)
same_put t phase.Check (phase.Put q) count met f some name is = absurd f
same_put t phase.Make (phase.Put q) count met f some name is = absurd f
same_put t (phase.Made c) (phase.Put q) count met f some name is = (let n : false ≡ true = some in cc)
same_put t (phase.Put a) (phase.Put q) count met f some name is = put_on a q f.1 name is
same_put t phase.SyncObjects (phase.Put q) count met f some name is = absurd f
same_put t phase.MakeCommit (phase.Put q) count met f some name is = absurd f
same_put t (phase.PutCommit a) (phase.Put q) count met f some name is = absurd f
same_put t (phase.SyncCommit c) (phase.Put q) count met f some name is = absurd f
same_put t (phase.Unmark c) (phase.Put q) count met f some name is = absurd f
same_put t (phase.SyncState c) (phase.Put q) count met f some name is = absurd f
same_put t (phase.Ended c) (phase.Put q) count met f some name is = absurd f
same_put t old phase.SyncObjects count met f some name is = (let n : None ≡ Some name = is in cc)
same_put t old phase.MakeCommit count met f some name is = (let n : None ≡ Some name = is in cc)
same_put t phase.Check (phase.PutCommit q) count met f some name is = absurd f
same_put t phase.Make (phase.PutCommit q) count met f some name is = absurd f
same_put t (phase.Made c) (phase.PutCommit q) count met f some name is = absurd f
same_put t (phase.Put a) (phase.PutCommit q) count met f some name is = absurd f
same_put t phase.SyncObjects (phase.PutCommit q) count met f some name is = absurd f
same_put t phase.MakeCommit (phase.PutCommit q) count met f some name is = (let n : false ≡ true = some in cc)
same_put t (phase.PutCommit a) (phase.PutCommit q) count met f some name is = put_on a q f.1 name is
same_put t (phase.SyncCommit c) (phase.PutCommit q) count met f some name is = absurd f
same_put t (phase.Unmark c) (phase.PutCommit q) count met f some name is = absurd f
same_put t (phase.SyncState c) (phase.PutCommit q) count met f some name is = absurd f
same_put t (phase.Ended c) (phase.PutCommit q) count met f some name is = absurd f
same_put t old (phase.SyncCommit d) count met f some name is = (let n : None ≡ Some name = is in cc)
same_put t old (phase.Unmark d) count met f some name is = (let n : None ≡ Some name = is in cc)
same_put t old (phase.SyncState d) count met f some name is = (let n : None ≡ Some name = is in cc)
same_put t old (phase.Ended d) count met f some name is = (let n : None ≡ Some name = is in cc)

pinned_now : (pinned : Bool) (actor lane : ℕ) (b : Books) (name : ObjName) → Granted (put_wants pinned name) actor lane b → (pinned ≡ true → Pinned lane b name) → Pinned lane b name
pinned_now true actor lane b name stood held = held refl
pinned_now false actor lane b name stood held = stood.pin name refl

-- the object that is being put is pinned in the step that looks for it, and was from then on
pinned_by : (o : Option ObjName) (actor lane : ℕ) (t : CommitCommand) (v : View) (b : Books) → Building lane t v b → storing_in t.build.phase ≡ o → Stood (build_kind t.pinned o) actor lane b
    → (name : ObjName) → storing_in t.build.phase ≡ Some name → Pinned lane b name
pinned_by None actor lane t v b f is stood name put = (let n : None ≡ Some name = sym is ∙ put in cc)
pinned_by (Some x) actor lane t v b f is stood name put =
    let e : Some x ≡ Some name = sym is ∙ put in
    let same : x ≡ name = cc in
    subst (Pinned lane b) same (pinned_now t.pinned actor lane b x stood (λ was. f.held was x is))

-- who commits what stays
same_of : (objects : ℕ) (old new : Committing) → BuildSteps objects old None new → IsSame old new
same_of objects old new (inl s) = same_more FsErr objects old new s.0
same_of objects old new (inr s) = record {
  actor = ap (λ (x : Committing). x.actor) s.1.0;
  items = ap (λ (x : Committing). x.items) s.1.0;
  limits = ap (λ (x : Committing). x.limits) s.1.0;
  message = ap (λ (x : Committing). x.message) s.1.0;
}

had_of : (objects : ℕ) (old new : Committing) → IsMade old → BuildSteps objects old None new → (o : tree.Object) → Relies new o → Had old old.phase o
had_of objects old new made (inl s) o r = relied_next old made old.phase new.phase new.made new.met refl s.0.1 o (subst (λ (x : Committing). relied_in new.phase x o) s.0.0 r)
had_of objects old new made (inr s) o r = relied_end old old.phase s.0 s.1.1 o (subst (λ (x : Committing). Relies x o) s.1.0 r)

put_of : (objects : ℕ) (old new : Committing) → BuildSteps objects old None new → is_some (storing_in old.phase) ≡ true → (name : ObjName) → storing_in new.phase ≡ Some name → storing_in old.phase ≡ Some name
put_of objects old new (inl s) some name is = same_put old old.phase new.phase new.made new.met s.0.1 some name is
put_of objects old new (inr s) some name is =
    let n : None ≡ Some name = sym (ap (λ (x : Committing). storing_in x.phase) s.1.0) ∙ is in cc

-- the build brings no folder to the staging path
pub no_folder_staged : (t : Committing) (v : View) → t.actor < 16 → (p : Path) (s : Seen) → Lies t v p s → p ≡ stage_path t.actor → NotDirectory s
no_folder_staged t v few p s l e = ⊎_elim
    (λ a. a.1)
    (λ more. ⊎_elim
    (λ a. (let n : Stage t.actor ≡ ObjectsFolder _ = sym (stage_place t.actor few) ∙ sym (ap place e) ∙ ap place a.2 ∙ place-objects_folder a.0.name.csum in cc))
    (λ rest. ⊎_elim (λ a. a.6) (λ a. subst NotDirectory (sym a.1) tt) rest)
    more)
    l.place

-- so the change of the ref finds what it needs
change_next : (lane : ℕ) (t : CommitCommand) (commit : List ℕ) (v w : View) (b b' : Books) → Needs t.build v → Writes (WritesOf t.build v) v w → Keeps lane b b' → Facts lane (planned t commit).work.task v b → Facts lane (planned t commit).work.task w b'
change_next lane t commit v w b b' needs writes keeps f = record {
  needs = record {
    named = f.needs.named;
    actor = f.needs.actor;
    made = f.needs.made;
    meets = meets_kept (WritesOf t.build v) (LeadsTo heads) (HereOfStage t.build.actor) v w writes
        (λ p s wrote below. absurd (no_fixed folder.Heads p s below wrote))
        (λ p s wrote. ((λ e. no_folder_staged t.build v needs.made.actor p s (commit_lies t.build v needs p s wrote) e), λ in_. absurd (no_fixed folder.Tmp p s (stage_folder t.build.actor p in_) wrote)))
        f.needs.meets;
  };
  mine = f.mine;
  runs = tt;
  turn = tt;
  seen = λ goes. let n : false ≡ true = goes in cc;
}
  where
    no_fixed : (f : Folder) (p : Path) (s : Seen) → is_below p (folder_path f) ≡ true → WritesOf t.build v p s → ⊥
    no_fixed f p s below wrote = let n : OfBuild t.build.actor (Other p) = subst (OfBuild t.build.actor) (fixed_other f p below) (build_place t.build v needs.made.actor p s (commit_lies t.build v needs p s wrote)) in n

planned_same : (t : CommitCommand) (new : Committing) (refusal : Option BuildRefusal) (commit : List ℕ) → IsSame t.build new → planned (built t new refusal) commit ≡ planned t commit
planned_same t new refusal commit same = ap2 same.actor (ap (λ (m : Message). m.parent) same.message)
  where
    ap2 : new.actor ≡ t.build.actor → new.message.parent ≡ t.build.message.parent → planned (built t new refusal) commit ≡ planned t commit
    ap2 actor parent = rw (actor, parent) refl

building_next : (actor lane : ℕ) (t : CommitCommand) (new : Committing) (v w : View) (b b' : Books) → Stood (build_kind t.pinned (storing_in t.build.phase)) actor lane b → Building lane t v b
    → BuildSteps t.objects t.build None new → Builds t.objects t.build new v w → Keeps lane b b' → Building lane (built t new t.refusal) w b'
building_next actor lane t new v w b b' stood f step l keeps =
    let same = same_of t.objects t.build new step in
    let now = pinned_by (storing_in t.build.phase) actor lane t v b f refl stood in
    record {
      needs = l.needs;
      mine = same.actor ∙ f.mine;
      met = λ name put is. met_has t.objects t.build new f.needs.made step name put is;
      pins = λ o r. keeps.pins (record { lane = lane; object = o.name }) refl (⊎_elim (λ was. f.pins o was) (λ put. now o.name put) (had_of t.objects t.build new f.needs.made step o r));
      held = λ some name is. keeps.pins (record { lane = lane; object = name }) refl (now name (put_of t.objects t.build new step some name is));
      change = λ commit. subst (λ (x : Naming). Facts lane x.work.task w b') (sym (planned_same t new t.refusal commit same)) (change_next lane t commit v w b b' f.needs l.writes keeps (f.change commit));
    }

-- all is done: the commit lasts
pub commit_phase : (ph : Phase) (commit : List ℕ) → commit_in ph ≡ Some commit → ph ≡ phase.Ended commit
commit_phase (phase.Ended c) commit is = let e : c ≡ commit = cc in ap phase.Ended e
commit_phase phase.Check commit is = (let n : None ≡ Some commit = is in cc)
commit_phase phase.Make commit is = (let n : None ≡ Some commit = is in cc)
commit_phase (phase.Made c) commit is = (let n : None ≡ Some commit = is in cc)
commit_phase (phase.Put p) commit is = (let n : None ≡ Some commit = is in cc)
commit_phase phase.SyncObjects commit is = (let n : None ≡ Some commit = is in cc)
commit_phase phase.MakeCommit commit is = (let n : None ≡ Some commit = is in cc)
commit_phase (phase.PutCommit p) commit is = (let n : None ≡ Some commit = is in cc)
commit_phase (phase.SyncCommit c) commit is = (let n : None ≡ Some commit = is in cc)
commit_phase (phase.Unmark c) commit is = (let n : None ≡ Some commit = is in cc)
commit_phase (phase.SyncState c) commit is = (let n : None ≡ Some commit = is in cc)

changing_first : (lane : ℕ) (t : CommitCommand) (commit : List ℕ) (v : View) (b b' : Books) → t.build.phase ≡ phase.Ended commit → Building lane t v b → Keeps lane b b'
    → Changing lane (record t { change = Some (planned t commit) }) (planned t commit) v b'
changing_first lane t commit v b b' is f keeps =
    let kept = kept_as t.build f.needs.made (phase.Ended commit) is in
    let has = needs_as t.build v f.needs (phase.Ended commit) is in
    let name : named_commit commit ≡ (its_commit t.build).name = kept.1.name in
    let sum : commit ≡ (its_commit t.build).name.csum = ap (λ (n : ObjName). n.csum) name in
    record {
      ref = facts_gain lane (planned t commit).work.task v b b' keeps (f.change commit);
      of = record { commit = sum; name = refl; seen = refl; value = refl };
      tree = kept.0;
      lasts = record { tree = has.0; commit = subst (IsSure v) name has.1; unmarked = subst (λ c. NeverMarked c v) sum has.2 };
      pins = λ o of. keeps.pins (record { lane = lane; object = o.name }) refl (f.pins o (subst (λ ph. relied_in ph t.build o) (sym is) of));
    }

next_at : (c : Option (List ℕ)) (actor lane : ℕ) (t new : CommitCommand) (v w : View) (b b' : Books) → commit_in t.build.phase ≡ c → t.change ≡ None → Stood (build_kind t.pinned (storing_in t.build.phase)) actor lane b → Building lane t v b
    → leaves_at c t turn.More new v w → Keeps lane b b' → commit_facts lane new w b'
next_at None actor lane t new v w b b' is none stood f l keeps =
    subst (λ (x : CommitCommand). commit_facts lane x w b') (sym l.0.0)
    (subst (λ o. facts_by o lane (built t new.build t.refusal) w b') (sym none) (building_next actor lane t new.build v w b b' stood f l.0.1 l.1 keeps))
next_at (Some commit) actor lane t new v w b b' is none stood f l keeps =
    subst (λ (x : CommitCommand). commit_facts lane x w b') (sym l.0)
    (subst (λ (x : View). Changing lane (record t { change = Some (planned t commit) }) (planned t commit) x b') (sym l.1)
    (changing_first lane t commit v b b' (commit_phase t.build.phase commit is) f keeps))

changing_next : (actor lane : ℕ) (t : CommitCommand) (n : Naming) (next : RefWork) (v w : View) (b b' : Books) → Stood (ref_kind n.work) actor lane b → Changing lane t n v b → ref_leaves n.work turn.More next v w → Keeps lane b b' → Owned (ref_kind n.work) lane b b'
    → Changing lane (record t { change = Some (record n { work = next }) }) (record n { work = next }) w b'
changing_next actor lane t n next v w b b' stood f l keeps own = record {
  ref = ref_laws.next actor lane n.work next v w b b' stood f.ref l keeps own;
  of = record {
    commit = f.of.commit;
    name = ap (λ (x : store.Change). x.name) l.stepped.0 ∙ f.of.name;
    seen = ap (λ (x : store.Change). x.seen) l.stepped.0 ∙ f.of.seen;
    value = ap (λ (x : store.Change). x.value) l.stepped.0 ∙ f.of.value;
  };
  tree = f.tree;
  lasts = lasts_own n.work.task v f.ref.needs t.build w l.writes f.lasts;
  pins = λ o of. keeps.pins (record { lane = lane; object = o.name }) refl (f.pins o of);
}

next_by : (o : Option Naming) (actor lane : ℕ) (t new : CommitCommand) (v w : View) (b b' : Books) → t.change ≡ o → Stood (kind_by o t) actor lane b → facts_by o lane t v b → leaves_by o t turn.More new v w → Keeps lane b b' → Owned (kind_by o t) lane b b'
    → commit_facts lane new w b'
next_by None actor lane t new v w b b' is stood f l keeps own = next_at (commit_in t.build.phase) actor lane t new v w b b' refl is stood f l keeps
next_by (Some n) actor lane t new v w b b' is stood f l keeps own =
    subst (λ (x : CommitCommand). commit_facts lane x w b') (sym l.1) (changing_next actor lane t n l.0 v w b b' stood f l.2 keeps own)

build_claim : (pinned : Bool) (o : Option ObjName) → IsClaim (build_kind pinned o) → ⊥
build_claim pinned None is = is
build_claim pinned (Some name) is = is

claim_by : (o : Option Naming) (t : CommitCommand) → IsClaim (kind_by o t) → ⊥
claim_by None t is = build_claim t.pinned (storing_in t.build.phase) is
claim_by (Some n) t is = no_claim (store.progress_in n.work.task.phase) (event n.work.task) is

-- no step makes the folder of a checkout
pub no_commit_claim : (t : CommitCommand) → IsClaim (commit_kind t) → ⊥
no_commit_claim t is = claim_by t.change t is

pub commit_laws : Laws commit_kind commit_needs commit_writes commit_stepped commit_leaves commit_facts
commit_laws = record {
  ready = λ actor lane t v b by f. ready_by t.change actor lane t v b f;
  kept = λ actor lane mine t v w b b' not other does holds f. kept_by t.change actor lane mine t v w b b' not other does f;
  gains = λ lane t v b b' keeps same f. gains_by t.change lane t v b b' keeps f;
  duty = λ actor lane t new v b agrees by stood f. duty_by t.change actor lane t new v b agrees by stood f;
  chain = λ t new step. chain_by t.change t new refl step;
  last = λ t new step. last_by t.change t new step;
  next = λ actor lane t new v w b b' stood f leaves keeps own. next_by t.change actor lane t new v w b b' refl stood f leaves keeps own;
  claims = λ lane t new v w b name is step f leaves. absurd (no_commit_claim t (subst IsClaim (sym is) tt));
}
