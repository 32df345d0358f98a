-- What a change of a ref tells of the state that its last step sees.
use Rattle.std.proofs.Common.{◌≡◌, inl, ⊎_elim, ℕ, true, false, refl, sym, ◌∙◌, ap, subst, List, ◌∷◌, ◌++◌, append_assoc, Option, Some, None, Ok, Err, IsSome}
use Rattle.ost_types.specs.Path.{Name, Path}
use Rattle.fs_trait.specs.declared.task.StepResult.TheVariants as turn
use Rattle.fs_trait.specs.declared.types.Value.{Value}
use Rattle.fs_trait.specs.declared.types.Value.TheVariants.{Absent, Folder, Link, File}
use Rattle.fs_trait.specs.View.{Disk, View}
use Rattle.fs_trait.specs.Image.{IsTree}
use Rattle.fs_trait.specs.Seen.{seen, shows}
use Rattle.fs_trait.proofs.Claims.{reads_shows}
use Rattle.repo_layout.specs.Paths.{heads, ref_path}
use Rattle.repo_layout.specs.RefName.{parts_of}
use Rattle.repo_layout.specs.Refs.{is_leaf}
use Rattle.layout_rules.proofs.Sanes.{ref_of}
use Rattle.ref_room.specs.Clash.{IsAbove, IsClash, IsLeastClash}
use Rattle.ref_room.proofs.Disks.{below_absent, leaf_no_folder}
use Rattle.ref_store.specs.declared.phase.Phase.{Phase}
use Rattle.ref_store.specs.declared.phase.Phase.TheVariants as phase
use Rattle.ref_store.specs.declared.refusal.RefRefusal.TheVariants as refusal
use Rattle.ref_store.specs.Change.{Change as Changing, IsRefusing, made_in}
use Rattle.ref_store.specs.Steps.{HasValue, MakesRoom, awaits}
use Rattle.ref_command.specs.declared.answer.RefAnswer.{RefAnswer}
use Rattle.ref_command.specs.declared.answer.RefAnswer.TheVariants as answer
use Rattle.ref_command.specs.declared.work.RefWork.{RefWork}
use Rattle.ref_command.specs.declared.look_up.LookUp.{LookUp}
use Rattle.ref_command.specs.declared.look_up.Found.{Found}
use Rattle.ref_command.specs.declared.look_up.Found.TheVariants.{Missing, Partial, Whole}
use Rattle.ref_command.specs.declared.plan.Plan.{Plan}
use Rattle.ref_command.specs.declared.command.RefCommand.{RefCommand}
use Rattle.ref_command.specs.declared.command.RefCommand.TheVariants as task
use Rattle.ref_command.specs.Commands.{IsStop, answer_of, change_answer, command_facts, command_kind, command_leaves, reset_answer, reset_leaves}
use Rattle.ref_command.specs.Duties.{says_had}
use Rattle.ref_command.specs.Facts.{Facts, turn_in}
use Rattle.ref_command.specs.Kinds.{Answer as Came, event, kind_in, leaves_in, ref_kind}
use Rattle.ref_command.proofs.Ends.{makes_durable_in}
use Rattle.rely_guarantee.specs.declared.event.Event.{Event}
use Rattle.rely_guarantee.specs.declared.event.Event.TheVariants as event
use Rattle.rely_guarantee.specs.Books.{Books}
use Rattle.rely_guarantee.specs.Disks.{IsLeaf, Logical, Says}
use Rattle.rely_guarantee.specs.Laws.{MakeDurable}
use Rattle.rely_guarantee.specs.State.{State, Topic, RefOf, Said, gives, target, SystemState}
use Rattle.rely_guarantee.proofs.States.{says_one}
use Rattle.command.specs.Sees.{IsState, Sees}
use Rattle.command.specs.Since.{Since, placed}
use Rattle.ref_family.specs.declared.words.RefWords.{RefWords}
use Rattle.ref_family.specs.declared.words.RefWords.TheVariants as words
use Rattle.ref_family.specs.Family.{IsChanging, ref_pursues}
use Rattle.ref_family.specs.Knows.{ClashIn, HasMoved, HasStayed, IsFreeIn, LeastClashIn, drop_knows, ref_knows, reset_knows}

leaf_none : (d : Disk) (z : Value) → is_leaf z ≡ false → IsLeaf (seen d z) → ⊥
leaf_none d Absent e leaf = leaf
leaf_none d (Folder m) e leaf = leaf
leaf_none d (Link m t) e leaf = let n : true ≡ false = e in cc
leaf_none d (File n) e leaf = let n : true ≡ false = e in cc

none_leaf : {P : Type 0} (d : Disk) (z : Value) → is_leaf z ≡ true → (IsLeaf (seen d z) → ⊥) → P
none_leaf d Absent e none = let n : false ≡ true = e in cc
none_leaf d (Folder m) e none = let n : false ≡ true = e in cc
none_leaf d (Link m t) e none = absurd (none tt)
none_leaf d (File n) e none = absurd (none tt)

bytes_leaf : (d : Disk) (z : Value) (name commit : List ℕ) → Says (RefOf name) (Some commit) (seen d z) → is_leaf z ≡ true
bytes_leaf d Absent name commit says = cc
bytes_leaf d (Folder m) name commit says = cc
bytes_leaf d (Link m t) name commit says = refl
bytes_leaf d (File n) name commit says = refl

path_above : (a b : List ℕ) (x : Name) (rest : Path) → parts_of b ≡ parts_of a ++ x ∷ rest → ref_path b ≡ ref_path a ++ x ∷ rest
unfolding ref_path
path_above a b x rest e = ap (λ q. heads ++ q) e ∙ sym (append_assoc heads (parts_of a) (x ∷ rest))

-- no leaf stands below a leaf
leaf_alone : (d : Disk) → IsTree d → (a b : List ℕ) → IsAbove a b → is_leaf (d.at (ref_path a)) ≡ true → is_leaf (d.at (ref_path b)) ≡ true → ⊥
leaf_alone d tree a b above up low =
    let none : d.at (ref_path b) ≡ Absent = subst (λ q. d.at q ≡ Absent) (sym (path_above a b above.0 above.1 above.2)) (below_absent d tree (ref_path a) above.0 above.1 (leaf_no_folder (d.at (ref_path a)) up)) in
    let n : false ≡ true = sym (ap is_leaf none) ∙ low in
    cc

module _ (d : Disk) (state : State) (sees : IsState d state) where
  logical : Logical d state
  logical = sees.logical

  value_says : (name : List ℕ) (said : Said) → HasValue d name said → Says (RefOf name) said (shows d (ref_path name))
  value_says name None has = leaf_none d (d.at (ref_path name)) has
  value_says name (Some commit) has = (has.sum, sym (reads_shows d (ref_path name)) ∙ has.file)

  value_is : (name : List ℕ) (now : Said) → HasValue d name now → now ≡ state (RefOf name)
  value_is name now has = says_one (RefOf name) now (state (RefOf name)) (shows d (ref_path name)) (value_says name now has) (logical (RefOf name))

  leaf_there : (name : List ℕ) (said : Said) → is_leaf (d.at (ref_path name)) ≡ true → Says (RefOf name) said (shows d (ref_path name)) → IsSome said
  leaf_there name None leaf says = none_leaf d (d.at (ref_path name)) leaf says
  leaf_there name (Some commit) leaf says = refl

  there_leaf : (name : List ℕ) (said : Said) → IsSome said → Says (RefOf name) said (shows d (ref_path name)) → is_leaf (d.at (ref_path name)) ≡ true
  there_leaf name None some says = let z : false ≡ true = some in cc
  there_leaf name (Some commit) some says = bytes_leaf d (d.at (ref_path name)) name commit says

  clash_in : (name other : List ℕ) → IsClash d name other → ClashIn state name other
  clash_in name other is = record { there = leaf_there other (state (RefOf other)) is.leaf (logical (RefOf other)); clashes = is.clashes }

  clash_of : (name other : List ℕ) → ClashIn state name other → IsClash d name other
  clash_of name other is =
      let leaf = there_leaf other (state (RefOf other)) is.there (logical (RefOf other)) in
      record { named = (ref_of d sees.sane other leaf).0; leaf = leaf; clashes = is.clashes }

  least_in : (name other : List ℕ) → IsLeastClash d name other → LeastClashIn state name other
  least_in name other is = record { clash = clash_in name other is.clash; least = λ third c. is.least third (clash_of name third c) }

  -- a leaf stands at a ref's path, so none stands below it or above it
  apart : (name : List ℕ) → IsSome (state (RefOf name)) → IsFreeIn state name
  apart name some other clash =
      let here : is_leaf (d.at (ref_path name)) ≡ true = there_leaf name (state (RefOf name)) some (logical (RefOf name)) in
      let there : is_leaf (d.at (ref_path other)) ≡ true = there_leaf other (state (RefOf other)) clash.there (logical (RefOf other)) in
      ⊎_elim (λ above. leaf_alone d sees.tree name other above here there) (λ below. leaf_alone d sees.tree other name below there here) clash.clashes

makes_value : (ph : Phase) (t : Changing) → MakesRoom ph → made_in ph t → IsSome t.value
makes_value (phase.Clear c) t makes made = made.1
makes_value (phase.Walk w) t makes made = made.1
makes_value phase.Look t makes made = absurd makes
makes_value (phase.Put f) t makes made = absurd makes
makes_value phase.Unlink t makes made = absurd makes
makes_value phase.SyncFolder t makes made = absurd makes
makes_value phase.Ended t makes made = absurd makes

-- and the ref is to have its value there
awaits_room : (ph : Phase) → MakesRoom ph → awaits ph ≡ true
awaits_room (phase.Clear c) makes = refl
awaits_room (phase.Walk w) makes = refl
awaits_room phase.Look makes = absurd makes
awaits_room (phase.Put f) makes = absurd makes
awaits_room phase.Unlink makes = absurd makes
awaits_room phase.SyncFolder makes = absurd makes
awaits_room phase.Ended makes = absurd makes

one_lane : (turn : Option ℕ) (a b : ℕ) → turn ≡ Some a → turn ≡ Some b → a ≡ b
one_lane turn a b x y = let e : Some a ≡ Some b = sym x ∙ y in cc

-- a change is refused by a step that has the ref lock
sees_refused : (ph : Phase) (e : Event) (lane : ℕ) (b : Books) (v w : View) (p : State) → IsRefusing ph → turn_in (kind_in ph e) lane b → Sees (kind_in ph e) lane b v w p → IsState v.now p
sees_refused phase.Look e lane b v w p may has sees = sees (inl refl)
sees_refused (phase.Clear c) e lane b v w p may has sees = sees (inl has)
sees_refused (phase.Walk x) e lane b v w p may has sees = sees (inl has)
sees_refused (phase.Put f) e lane b v w p may has sees = absurd may
sees_refused phase.Unlink e lane b v w p may has sees = absurd may
sees_refused phase.SyncFolder e lane b v w p may has sees = absurd may
sees_refused phase.Ended e lane b v w p may has sees = absurd may

module _ (lane : ℕ) (s p : State) (branch : List ℕ) (value : Option (List ℕ)) (work new : RefWork) (v w : View) (b : Books) (f : Facts lane work.task v b) (is : IsChanging branch (s (RefOf branch)) value work.task) (sees : Sees (ref_kind work) lane b v w p) where
  pub moved : (seen now : Option (List ℕ)) → leaves_in (turn.Done tt) (Some (Err (refusal.RefMoved seen now))) work.task new.task v w → HasMoved s p branch seen now
  moved seen now l = (
    l.tells.1 ∙ is.1,
    value_is v.now p (sees_refused work.task.phase (event work.task) lane b v w p l.may f.turn sees) work.task.name now l.tells.2 ∙ ap (λ n. p (RefOf n)) is.0,
    l.tells.3,
  )

  -- while room is made for the ref it has the value that it was to have
  stayed : MakesRoom work.task.phase → IsState v.now p → HasStayed s p branch
  stayed makes saw =
      let had : Says (RefOf work.task.name) work.task.seen (shows v.now (ref_path work.task.name)) = says_had work.task.name work.task.seen (shows v.now (ref_path work.task.name)) (f.seen (awaits_room work.task.phase makes)) in
      let value : work.task.seen ≡ p (RefOf work.task.name) = says_one (RefOf work.task.name) work.task.seen (p (RefOf work.task.name)) (shows v.now (ref_path work.task.name)) had (saw.logical (RefOf work.task.name)) in
      ap (λ n. p (RefOf n)) (sym is.0) ∙ sym value ∙ is.1

  pub clashing : (other : List ℕ) → leaves_in (turn.Done tt) (Some (Err (refusal.RefClash other))) work.task new.task v w → LeastClashIn p branch other × HasStayed s p branch × IsSome value
  clashing other l =
      let saw = sees_refused work.task.phase (event work.task) lane b v w p l.may f.turn sees in (
        subst (λ n. LeastClashIn p n other) is.0 (least_in v.now p saw work.task.name other l.tells.1),
        stayed l.tells.0 saw,
        subst IsSome is.2 (makes_value work.task.phase work.task l.tells.0 f.needs.made),
      )

  -- a ref that was set is there, so that no other clashes with it
  pub set_free : (commit : List ℕ) → event work.task ≡ event.SetRef branch (s (RefOf branch)) commit → kind_in work.task.phase (event work.task) ≡ MakeDurable (event work.task) → IsFreeIn p branch
  set_free commit sets settles =
      let saw : IsState w.now p × ((t : Topic) → target (event work.task) ≡ Some t → p t ≡ gives (event work.task)) = subst (λ k. Sees k lane b v w p) settles sees in
      let there : p (RefOf branch) ≡ Some commit = subst (λ (e : Event). (t : Topic) → target e ≡ Some t → p t ≡ gives e) sets saw.1 (RefOf branch) refl in
      apart w.now p saw.0 branch (subst IsSome (sym there) refl)

  reset_tells : (commit : List ℕ) (r : Came) (a : RefAnswer) → event work.task ≡ event.SetRef branch (s (RefOf branch)) commit → leaves_in (turn.Done tt) r work.task new.task v w → change_answer r ≡ Some a → reset_knows s p branch a
  reset_tells commit None a sets l e = absurd l
  reset_tells commit (Some (Ok x)) a sets l e =
      let k : answer.Changed ≡ a = cc in
      subst (reset_knows s p branch) k (set_free commit sets (makes_durable_in work.task.phase (event work.task) l.stepped.1 f.runs))
  reset_tells commit (Some (Err (refusal.RefMoved seen now))) a sets l e =
      let k : answer.RefMoved seen now ≡ a = cc in
      subst (reset_knows s p branch) k (moved seen now l)
  reset_tells commit (Some (Err (refusal.RefClash other))) a sets l e =
      let k : answer.RefClash other ≡ a = cc in
      let c = clashing other l in
      subst (reset_knows s p branch) k (c.0, c.1)
  reset_tells commit (Some (Err refusal.NoRef)) a sets l e = absurd l.tells

  drop_tells : (r : Came) (a : RefAnswer) → value ≡ None → IsSome (s (RefOf branch)) → leaves_in (turn.Done tt) r work.task new.task v w → change_answer r ≡ Some a → drop_knows s p branch a
  drop_tells None a none had l e = absurd l
  drop_tells (Some (Ok x)) a none had l e =
      let k : answer.Changed ≡ a = cc in
      subst (drop_knows s p branch) k tt
  drop_tells (Some (Err (refusal.RefMoved seen now))) a none had l e =
      let k : answer.RefMoved seen now ≡ a = cc in
      let m = moved seen now l in
      subst (drop_knows s p branch) k (m, subst IsSome (sym m.0) had)
  drop_tells (Some (Err (refusal.RefClash other))) a none had l e =
      let z : false ≡ true = subst IsSome none (clashing other l).2 in
      cc
  drop_tells (Some (Err refusal.NoRef)) a none had l e = absurd l.tells

stop_tells : (s p : State) (branch commit : List ℕ) (found : Found) (a : RefAnswer) → IsStop found → reset_answer (Some found) commit ≡ Some a → reset_knows s p branch a
stop_tells s p branch commit Missing a stop e =
    let k : answer.NoCommit commit ≡ a = cc in
    subst (reset_knows s p branch) k tt
stop_tells s p branch commit Partial a stop e =
    let k : answer.Partial commit ≡ a = cc in
    subst (reset_knows s p branch) k tt
stop_tells s p branch commit Whole a stop e = absurd stop

stopped_tells : (s p : State) (branch : List ℕ) (o : Option Found) (look : LookUp) (plan : Plan) (new : RefCommand) (v w : View) (a : RefAnswer) → reset_leaves o look plan (turn.Done tt) new v w → answer_of new ≡ Some a → reset_knows s p branch a
stopped_tells s p branch None look plan (task.Reset next k) v w a l e = stop_tells s p branch look.commit l.0 a l.1 (sym (ap (λ (x : LookUp). reset_answer x.found x.commit) l.2.1) ∙ e)
stopped_tells s p branch None look plan (task.Parse next) v w a l e = absurd l
stopped_tells s p branch None look plan (task.Change work) v w a l e = absurd l
stopped_tells s p branch (Some found) look plan new v w a l e = absurd l

pub ref_tells : ((s : State) (branch commit : List ℕ) (work : RefWork) → ref_pursues s (words.Reset branch commit) (task.Change work) → event work.task ≡ event.SetRef branch (s (RefOf branch)) commit)
    → (lane : ℕ) (since : Since) (p : SystemState) (c : RefWords) (t new : RefCommand) (v w : View) (b : Books) (a : RefAnswer) → ref_pursues since.start.refs c t → command_facts lane t v b → command_leaves t (turn.Done tt) new v w → answer_of new ≡ Some a → Sees (command_kind t) lane b v w p.refs → ref_knows (placed since p) a c
ref_tells sets lane since p (words.RevParse rev) t new v w b a is f l e sees = tt
ref_tells sets lane since p (words.Reset branch commit) (task.Parse look) new v w b a is f l e sees = absurd is
ref_tells sets lane since p (words.Reset branch commit) (task.Reset look plan) new v w b a is f l e sees = stopped_tells since.start.refs p.refs branch look.found look plan new v w a l e
ref_tells sets lane since p (words.Reset branch commit) (task.Change work) (task.Change new) v w b a is f l e sees = reset_tells lane since.start.refs p.refs branch (Some commit) work new v w b f.ref is sees commit new.answer a (sets since.start.refs branch commit work is) l e
ref_tells sets lane since p (words.Reset branch commit) (task.Change work) (task.Parse look) v w b a is f l e sees = absurd l
ref_tells sets lane since p (words.Reset branch commit) (task.Change work) (task.Reset look plan) v w b a is f l e sees = absurd l
ref_tells sets lane since p (words.DropRef branch) (task.Parse look) new v w b a is f l e sees = absurd is
ref_tells sets lane since p (words.DropRef branch) (task.Reset look plan) new v w b a is f l e sees = absurd is
ref_tells sets lane since p (words.DropRef branch) (task.Change work) (task.Change new) v w b a is f l e sees = drop_tells lane since.start.refs p.refs branch None work new v w b f.ref is.0 sees new.answer a refl is.1 l e
ref_tells sets lane since p (words.DropRef branch) (task.Change work) (task.Parse look) v w b a is f l e sees = absurd l
ref_tells sets lane since p (words.DropRef branch) (task.Change work) (task.Reset look plan) v w b a is f l e sees = absurd l
