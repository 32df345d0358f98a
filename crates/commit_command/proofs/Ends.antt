-- What the last step's answer says, and that each other step leaves fewer.
use Rattle.std.proofs.Common.{◌≡◌, inl, inr, ◌<◌, ℕ, refl, sym, ◌∙◌, ap, subst, arith, List, Option, Some, None, Ok, Err}
use Rattle.std.specs.Prelude.{IsSome}
use Rattle.ost_types.specs.declared.object.ObjName.{ObjName}
use Rattle.fs_trait.specs.declared.types.Value.TheVariants.{Absent}
use Rattle.fs_trait.specs.declared.task.StepResult.TheVariants as turn
use Rattle.fs_trait.specs.View.{View}
use Rattle.repo_model.specs.Objects.{path_of}
use Rattle.ref_room.proofs.Names.{length-ref_path}
use Rattle.ref_room.specs.Clash.{IsLeastClash}
use Rattle.ref_store.specs.declared.refusal.RefRefusal.TheVariants as refusal
use Rattle.ref_store.specs.Change as store
use Rattle.ref_store.specs.Steps.{HasValue}
use Rattle.rely_guarantee.specs.declared.event.Event.{Event}
use Rattle.rely_guarantee.specs.declared.event.Event.TheVariants.{SetRef}
use Rattle.rely_guarantee.specs.Books.{Books}
use Rattle.rely_guarantee.specs.Laws.{Quiet, Take, Publish, MakeDurable}
use Rattle.commit_build.specs.declared.phase.Phase.{Phase}
use Rattle.commit_build.specs.declared.phase.Phase.TheVariants as phase
use Rattle.commit_build.specs.declared.refusal.BuildRefusal.{BuildRefusal}
use Rattle.commit_build.specs.declared.refusal.BuildRefusal.TheVariants as built
use Rattle.commit_build.specs.Committing as build
use Rattle.commit_build.specs.Committing.{Committing, IsMade, IsEnd, Links, commit_in, storing_in}
use Rattle.commit_build.specs.Steps.{FullAt}
use Rattle.commit_build.specs.Whole.{its_commit}
use Rattle.commit_build.proofs.PutSteps.{kept_as}
use Rattle.ref_command.specs.declared.work.RefWork.{RefWork}
use Rattle.ref_command.specs.Kinds.{Answer, event, leaves_in, stepped_in}
use Rattle.ref_command.proofs.Ends.{makes_durable_in}
use Rattle.ref_command.proofs.Steps.{kind_shows}
use Rattle.commit_command.specs.declared.answer.CommitAnswer.{CommitAnswer}
use Rattle.commit_command.specs.declared.answer.CommitAnswer.TheVariants as answer
use Rattle.commit_command.specs.declared.naming.Naming.{Naming}
use Rattle.commit_command.specs.declared.command.CommitCommand.{CommitCommand}
use Rattle.commit_command.specs.Kinds as kinds
use Rattle.commit_command.specs.Kinds.{planned, build_kind, kind_by, commit_kind, BuildSteps, stepped_at, stepped_by, commit_stepped, leaves_at, leaves_by, commit_leaves, commit_left, left_by}
use Rattle.commit_command.specs.Facts.{IsChange, Changing, facts_by, commit_facts}
use Rattle.commit_command.specs.Answers.{built_answer, change_answer, answer_by, answer_of, IsLacking, Says, ShowsLasting}

-- where there was no room, the object isn't there
lacking : (t : Committing) (v : View) → IsMade t → (ph : Phase) → t.phase ≡ ph → Links ph → FullAt ph v → IsLacking t.items t.message v.now
lacking t v made (phase.Put p) is links full =
    let last = (kept_as t made (phase.Put p) is).1 in
    (last.object, inl (last.last.number, last.last.object), subst (λ (n : ObjName). v.now.at (path_of n) ≡ Absent) last.puts.name full)
lacking t v made (phase.PutCommit p) is links full =
    (its_commit t, inr refl, subst (λ (n : ObjName). v.now.at (path_of n) ≡ Absent) (kept_as t made (phase.PutCommit p) is).2.name full)
lacking t v made phase.Check is links full = absurd links
lacking t v made phase.Make is links full = absurd links
lacking t v made (phase.Made c) is links full = absurd links
lacking t v made phase.SyncObjects is links full = absurd links
lacking t v made phase.MakeCommit is links full = absurd links
lacking t v made (phase.SyncCommit sum) is links full = absurd links
lacking t v made (phase.Unmark sum) is links full = absurd links
lacking t v made (phase.SyncState sum) is links full = absurd links
lacking t v made (phase.Ended sum) is links full = absurd links

built_says : (r : BuildRefusal) (t : CommitCommand) (new : Committing) (v w : View) (a : CommitAnswer) → IsMade t.build → BuildSteps t.objects t.build (Some r) new → FullAt t.build.phase v → w ≡ v → built_answer (Some r) ≡ Some a → Says a t v w
built_says (built.BadTree path) t new v w a made step full same e = let k : answer.BadTree path ≡ a = cc in subst (λ x. Says x t v w) k (step.1.1, same)
built_says (built.TooMany number) t new v w a made step full same e =
    let k : answer.TooMany number ≡ a = cc in
    subst (λ x. Says x t v w) k (step.1.1, step.1.2, lacking t.build v made t.build.phase refl step.1.0 full, same)

says_at : (c : Option (List ℕ)) (t new : CommitCommand) (v w : View) (a : CommitAnswer) → t.change ≡ None → IsMade t.build → leaves_at c t (turn.Done tt) new v w → answer_of new ≡ Some a → Says a t v w
says_at None t new v w a none made l e =
    let at : built_answer (Some l.0) ≡ Some a =
    ap (λ o. answer_by o (kinds.built t new.build (Some l.0))) (sym none) ∙ sym (ap answer_of l.1) ∙ e
    in
    built_says l.0 t new.build v w a made l.2 l.3.0 l.3.1 at
says_at (Some commit) t new v w a none made l e = absurd l

-- the event of the change
event_is : (t : CommitCommand) (n : Naming) → IsChange t n → event n.work.task ≡ SetRef t.name t.build.message.parent (its_commit t.build).name.csum
event_is t n of = rw (of.value, of.name, of.seen, of.commit) refl

change_says : (r : Answer) (lane : ℕ) (t : CommitCommand) (n : Naming) (next : RefWork) (v w : View) (b : Books) (a : CommitAnswer) → t.change ≡ Some n → Changing lane t n v b → leaves_in (turn.Done tt) r n.work.task next.task v w → change_answer n.commit r ≡ Some a → Says a t v w
change_says None lane t n next v w b a is f l e = absurd l
change_says (Some (Ok x)) lane t n next v w b a is f l e =
    let k : answer.Commit n.commit ≡ a = cc in
    let settles : commit_kind t ≡ MakeDurable (event n.work.task) = ap (λ o. kind_by o t) is ∙ makes_durable_in n.work.task.phase (event n.work.task) l.stepped.1 f.ref.runs in
    let named : MakeDurable (event n.work.task) ≡ MakeDurable (SetRef t.name t.build.message.parent n.commit) = ap MakeDurable (event_is t n f.of ∙ ap (SetRef t.name t.build.message.parent) (sym f.of.commit)) in
    subst (λ y. Says y t v w) k (f.of.commit, f.tree, f.lasts, settles ∙ named)
change_says (Some (Err (refusal.RefMoved seen now))) lane t n next v w b a is f l e =
    let k : answer.RefMoved seen now ≡ a = cc in
    let old = l.tells.1 ∙ f.of.seen in
    subst (λ y. Says y t v w) k (old, subst (λ name. HasValue v.now name now) f.of.name l.tells.2, l.tells.3)
change_says (Some (Err (refusal.RefClash other))) lane t n next v w b a is f l e =
    let k : answer.RefClash other ≡ a = cc in
    subst (λ y. Says y t v w) k (subst (λ name. IsLeastClash v.now name other) f.of.name l.tells.1)
change_says (Some (Err refusal.NoRef)) lane t n next v w b a is f l e = absurd l.tells

says_by : (o : Option Naming) (lane : ℕ) (t new : CommitCommand) (v w : View) (b : Books) (a : CommitAnswer) → t.change ≡ o → facts_by o lane t v b → leaves_by o t (turn.Done tt) new v w → answer_of new ≡ Some a → Says a t v w
says_by None lane t new v w b a is f l e = says_at (commit_in t.build.phase) t new v w a is f.needs.made l e
says_by (Some n) lane t new v w b a is f l e = change_says l.0.answer lane t n l.0 v w b a is f l.2 (sym (ap answer_of l.1) ∙ e)

pub says_of : (lane : ℕ) (t new : CommitCommand) (v w : View) (b : Books) (a : CommitAnswer) → commit_facts lane t v b → commit_leaves t (turn.Done tt) new v w → answer_of new ≡ Some a → Says a t v w
says_of lane t new v w b a f l e = says_by t.change lane t new v w b a refl f l e

-- the change that is published
shown_by : (o : Option Naming) (lane : ℕ) (t : CommitCommand) (v : View) (b : Books) (e : Event) → facts_by o lane t v b → kind_by o t ≡ Publish e → ShowsLasting e t v
shown_by None lane t v b e f is = absurd (no_publish t.pinned (storing_in t.build.phase) e is)
  where
    no_publish : (pinned : _) (o : Option ObjName) (e : Event) → build_kind pinned o ≡ Publish e → ⊥
    no_publish pinned None e is = (let n : Quiet ≡ Publish e = is in cc)
    no_publish pinned (Some name) e is = (let n : Take (kinds.put_wants pinned name) ≡ Publish e = is in cc)
shown_by (Some n) lane t v b e f is = (sym (kind_shows (store.progress_in n.work.task.phase) (event n.work.task) e is) ∙ event_is t n f.of, f.tree, f.lasts)

pub shown_of : (lane : ℕ) (t : CommitCommand) (v : View) (b : Books) (e : Event) → commit_facts lane t v b → commit_kind t ≡ Publish e → ShowsLasting e t v
shown_of lane t v b e f is = shown_by t.change lane t v b e f is

-- one that is done has an answer
built_some : (r : BuildRefusal) → IsSome (built_answer (Some r))
built_some (built.BadTree path) = refl
built_some (built.TooMany number) = refl

change_some : (r : Answer) (commit : List ℕ) (old new : store.Change) → stepped_in (turn.Done tt) r old new → IsSome (change_answer commit r)
change_some None commit old new l = absurd l
change_some (Some (Ok x)) commit old new l = refl
change_some (Some (Err (refusal.RefMoved seen now))) commit old new l = refl
change_some (Some (Err (refusal.RefClash other))) commit old new l = refl
change_some (Some (Err refusal.NoRef)) commit old new l = refl

some_at : (c : Option (List ℕ)) (t new : CommitCommand) → t.change ≡ None → stepped_at c t (turn.Done tt) new → IsSome (answer_of new)
some_at None t new none l =
    subst (λ (x : CommitCommand). IsSome (answer_of x)) (sym l.1)
    (subst (λ o. IsSome (answer_by o (kinds.built t new.build (Some l.0)))) (sym none) (built_some l.0))
some_at (Some commit) t new none l = absurd l

some_by : (o : Option Naming) (t new : CommitCommand) → t.change ≡ o → stepped_by o t (turn.Done tt) new → IsSome (answer_of new)
some_by None t new is l = some_at (commit_in t.build.phase) t new is l
some_by (Some n) t new is l = subst (λ (x : CommitCommand). IsSome (answer_of x)) (sym l.1) (change_some l.0.answer n.commit n.work.task l.0.task l.2)

pub answered : (t new : CommitCommand) → commit_stepped t (turn.Done tt) new → IsSome (answer_of new)
answered t new step = some_by t.change t new refl step

-- each step leaves fewer
planned_left : (t : CommitCommand) (commit : List ℕ) → store.left (planned t commit).work.task < 170141183460469231731687303715884106752
planned_left t commit = omega (arith, length-ref_path t.name, t.parts)

last_left : (ph : Phase) (n : ℕ) (commit : List ℕ) → commit_in ph ≡ None → IsEnd ph commit → build.left_in ph n ≡ 1
last_left (phase.SyncState sum) n commit none end = refl
last_left (phase.Ended sum) n commit none end = let k : Some sum ≡ None = none in cc
last_left phase.Check n commit none end = absurd end
last_left phase.Make n commit none end = absurd end
last_left (phase.Made c) n commit none end = absurd end
last_left (phase.Put p) n commit none end = absurd end
last_left phase.SyncObjects n commit none end = absurd end
last_left phase.MakeCommit n commit none end = absurd end
last_left (phase.PutCommit p) n commit none end = absurd end
last_left (phase.SyncCommit sum) n commit none end = absurd end
last_left (phase.Unmark sum) n commit none end = absurd end

build_falls : (objects : ℕ) (old new : Committing) → commit_in old.phase ≡ None → BuildSteps objects old None new → build.left new < build.left old
build_falls objects old new none (inl goes) = goes.1
build_falls objects old new none (inr end) =
    let now : build.left new ≡ 0 = ap build.left end.1.0 in
    let last : build.left old ≡ 1 = last_left old.phase _ end.0 none end.1.1 in
    omega (arith, now, last)

falls_at : (c : Option (List ℕ)) (t new : CommitCommand) → commit_in t.build.phase ≡ c → t.change ≡ None → stepped_at c t turn.More new → commit_left new < left_by None t
falls_at None t new is none step =
    let now : commit_left new ≡ left_by None (kinds.built t new.build t.refusal) = ap commit_left step.0 ∙ ap (λ o. left_by o (kinds.built t new.build t.refusal)) none in
    omega (arith, now, build_falls t.objects t.build new.build is step.1)
falls_at (Some commit) t new is none step =
    let now : commit_left new ≡ store.left (planned t commit).work.task = ap commit_left step in
    omega (arith, now, planned_left t commit)

falls_by : (o : Option Naming) (t new : CommitCommand) → t.change ≡ o → stepped_by o t turn.More new → commit_left new < left_by o t
falls_by None t new is step = falls_at (commit_in t.build.phase) t new refl is step
falls_by (Some n) t new is step = subst (λ (x : CommitCommand). commit_left x < store.left n.work.task) (sym step.1) step.2.1

pub falls_of : (t new : CommitCommand) → commit_stepped t turn.More new → commit_left new < commit_left t
falls_of t new step = falls_by t.change t new refl step

-- the count that a commit is told is no matter to its facts
counted_by : (o : Option Naming) (lane objects : ℕ) (t : CommitCommand) (v : View) (b : Books) → facts_by o lane t v b → facts_by o lane (record t { objects = objects }) v b
counted_by None lane objects t v b f = record { needs = f.needs; mine = f.mine; met = f.met; pins = f.pins; held = f.held; change = f.change }
counted_by (Some n) lane objects t v b f = record {
  ref = f.ref;
  of = record { commit = f.of.commit; name = f.of.name; seen = f.of.seen; value = f.of.value };
  tree = f.tree;
  lasts = f.lasts;
  pins = f.pins;
}

pub counted : (lane objects : ℕ) (t : CommitCommand) (v : View) (b : Books) → commit_facts lane t v b → commit_facts lane (record t { objects = objects }) v b
counted lane objects t v b f = counted_by t.change lane objects t v b f

kind_counted : (o : Option Naming) (objects : ℕ) (t : CommitCommand) → kind_by o (record t { objects = objects }) ≡ kind_by o t
kind_counted None objects t = refl
kind_counted (Some n) objects t = refl

pub same_kind : (objects : ℕ) (t : CommitCommand) → commit_kind (record t { objects = objects }) ≡ commit_kind t
same_kind objects t = kind_counted t.change objects t

left_counted : (o : Option Naming) (objects : ℕ) (t : CommitCommand) → left_by o (record t { objects = objects }) ≡ left_by o t
left_counted None objects t = refl
left_counted (Some n) objects t = refl

pub same_left : (objects : ℕ) (t : CommitCommand) → commit_left (record t { objects = objects }) ≡ commit_left t
same_left objects t = left_counted t.change objects t

answer_counted : (o : Option Naming) (objects : ℕ) (t : CommitCommand) → answer_by o (record t { objects = objects }) ≡ answer_by o t
answer_counted None objects t = refl
answer_counted (Some n) objects t = refl

pub same_answer : (objects : ℕ) (t : CommitCommand) → answer_of (record t { objects = objects }) ≡ answer_of t
same_answer objects t = answer_counted t.change objects t
