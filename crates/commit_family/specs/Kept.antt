-- A commit that was made lasts, and goes on to.
use Rattle.std.proofs.Common.{inr, inl, ⊎_elim, ℕ, refl, subst, List, ◌++◌, [], Contains, Option, Some, None}
use Rattle.std.proofs.lemmas.List.Elements.{Contains-append_left, Contains-append_right}
use Rattle.ost_types.specs.declared.limits.Limits.{Limits}
use Rattle.ost_types.specs.declared.object.ObjName.{ObjName}
use Rattle.ost_types.specs.Path.{Path}
use Rattle.ost_forms.specs.declared.tree_item.TreeItem.{TreeItem}
use Rattle.fs_trait.specs.declared.task.StepResult.TheVariants as turn
use Rattle.fs_trait.specs.Seen.{Seen, Vacant, Directory, Symlink, Leaf, MayBe}
use Rattle.fs_trait.specs.View.{Disk, View}
use Rattle.repo_model.specs.Objects.{path_of}
use Rattle.staged_file.specs.declared.phase.Phase as staged
use Rattle.staged_file.specs.declared.phase.Phase.TheVariants as file
use Rattle.staged_file.specs.Staged as staging
use Rattle.staged_file.specs.Steps as staged_steps
use Rattle.ref_store.specs.declared.phase.Phase.{Phase}
use Rattle.ref_store.specs.declared.phase.Phase.TheVariants as phase
use Rattle.ref_store.specs.Change.{Change}
use Rattle.ref_store.specs.Steps.{writes_in}
use Rattle.rely_guarantee.specs.declared.event.Event.{Event}
use Rattle.rely_guarantee.specs.Books.{Books}
use Rattle.rely_guarantee.specs.Disks.{IsLeaf}
use Rattle.rely_guarantee.specs.Lasting as rely
use Rattle.rely_guarantee.specs.Lasting.{IsSafe, Stays, StaysOn}
use Rattle.rely_guarantee.specs.Laws.{IsMakeDurable}
use Rattle.ref_command.specs.declared.work.RefWork.{RefWork}
use Rattle.ref_command.specs.Kinds.{Answer as Came, event, kind_in, leaves_in, put_kind}
use Rattle.tree_build.specs.Items.{AreItems, AreTyped, IsTree}
use Rattle.tree_build.specs.Makeable.{AreMakeable}
use Rattle.tree_build.specs.Objects.{Object}
use Rattle.commit_build.specs.declared.message.Message.{Message}
use Rattle.commit_build.specs.Committing.{ReadsBack, commit_of, storing_in}
use Rattle.commit_build.specs.Steps.{AreSure, IsSure, NeverMarked, NotLeaf}
use Rattle.commit_durability.specs.Lasting.{AreRight, IsCommit, IsOf, LastsIn, sum_of}
use Rattle.commit_durability.proofs.Lasting.{lasts_made, lasts_stays}
use Rattle.commit_command.specs.declared.naming.Naming.{Naming}
use Rattle.commit_command.specs.declared.command.CommitCommand.{CommitCommand}
use Rattle.commit_command.specs.Facts.{Changing, commit_facts, facts_by}
use Rattle.commit_command.specs.Kinds.{commit_kind, commit_leaves, kind_by, leaves_by}
use Rattle.command.specs.ChangeLaws.{IsRightSince}
use Rattle.command.specs.Removed.{AreAmong}
use Rattle.command.specs.Since.{Since}
use Rattle.commit_family.specs.declared.words.CommitWords.{CommitWords}
use Rattle.commit_family.specs.Commits.{message_in}
use Rattle.commit_family.specs.Family.{commit_keeps, commit_keeps_on}
use Rattle.commit_family.specs.OnDisk.{stands_but}
use Rattle.commit_family.specs.Pursues.{Commits, ReadsIn}
use Rattle.commit_family.specs.Removed.{AreSpared, LastsBut, StandsBut}
use Rattle.commit_family.specs.Steps.{build_not}

-- the step that makes a change durable writes nothing,
put_still : (ph : staged.Phase) (s : staging.Staged) (e : Event) (v : View) (p : Path) (x : Seen) → IsMakeDurable (put_kind ph e) → staged_steps.writes_in ph s v p x → ⊥
put_still file.SyncFolder s e v p x settles wrote = wrote
put_still file.Clear s e v p x settles wrote = settles
put_still file.Create s e v p x settles wrote = settles
put_still file.Append s e v p x settles wrote = settles
put_still file.SyncFile s e v p x settles wrote = settles
put_still file.Look s e v p x settles wrote = settles
put_still file.Replace s e v p x settles wrote = settles
put_still file.Ended s e v p x settles wrote = settles

change_still : (ph : Phase) (t : Change) (e : Event) (v : View) (p : Path) (x : Seen) → IsMakeDurable (kind_in ph e) → writes_in ph t v p x → ⊥
change_still phase.SyncFolder t e v p x settles wrote = wrote
change_still (phase.Put f) t e v p x settles wrote = put_still f.phase f e v p x settles wrote
change_still phase.Look t e v p x settles wrote = settles
change_still (phase.Clear c) t e v p x settles wrote = settles
change_still (phase.Walk y) t e v p x settles wrote = settles
change_still phase.Unlink t e v p x settles wrote = settles
change_still phase.Ended t e v p x settles wrote = settles

-- so that the store's objects stay
still_stays : (v w : View) → ((p : Path) (s : Seen) → MayBe w p s → MayBe v p s) → Stays [] v w
still_stays v w was = record {
  safe = λ name still safe. record { sum = safe.sum; there = λ s may. safe.there s (was (path_of name) s may); above = λ p s may. safe.above p s (was p s may) };
  same = λ name still safe s may. was (path_of name) s may;
  right = λ name right. record { sum = right.sum; each = λ s may. right.each s (was (path_of name) s may) };
  unmarked = λ commit still safe none. record { each = λ s may leaf. none.each s (was _ s may) leaf };
}

leaves_still : (n : Naming) (next : RefWork) (r : Came) (v w : View) → IsMakeDurable (kind_in n.work.task.phase (event n.work.task)) → leaves_in (turn.Done tt) r n.work.task next.task v w → Stays [] v w
leaves_still n next None v w settles l = absurd l
leaves_still n next (Some came) v w settles l = still_stays v w (λ p s may. ⊎_elim (λ was. was) (λ wrote. absurd (change_still n.work.task.phase n.work.task (event n.work.task) v p s settles wrote)) (l.writes.only p s may))

-- the commit lasts before that step, and so behind it
module _ (limits : Limits) (branch : List ℕ) (tree : List TreeItem) (message : Message) (opening : View) (lane : ℕ) (t : CommitCommand) (v w : View) (b : Books) (same : IsRightSince opening v) (is : Commits limits branch tree message t) where
  is_commit : IsTree tree → ReadsBack tree message → IsCommit limits tree message
  is_commit whole reads = record {
    items = subst AreItems is.items is.made.items;
    typed = subst AreTyped is.items is.made.typed;
    whole = whole;
    makeable = subst (AreMakeable limits) is.items (subst (λ l. AreMakeable l t.build.items) is.bounds is.made.makeable);
    reads = reads;
  }

  lasting : (n : Naming) → Changing lane t n v b → ReadsBack tree message → AreRight opening tree message → LastsIn limits tree message v
  lasting n f reads right = lasts_made limits tree message v
      (is_commit (subst IsTree is.items f.tree) reads)
      (subst (λ i. AreSure i v) is.items f.lasts.tree)
      (subst (λ m. IsSure v (commit_of tree m).name) is.says (subst (λ i. IsSure v (commit_of i t.build.message).name) is.items f.lasts.commit))
      (subst (λ m. NeverMarked (sum_of tree m) v) is.says (subst (λ i. NeverMarked (sum_of i t.build.message) v) is.items f.lasts.unmarked))
      (λ o of. same o.name (right o of))

  kept_by : (o : Option Naming) (new : CommitCommand) → facts_by o lane t v b → ReadsIn tree message o → leaves_by o t (turn.Done tt) new v w → IsMakeDurable (kind_by o t) → AreRight opening tree message → LastsIn limits tree message w
  kept_by None new f reads l settles right = absurd (build_not t.pinned (storing_in t.build.phase) settles)
  kept_by (Some n) new f reads l settles right = lasts_stays limits tree message v w (leaves_still n l.0 l.0.answer v w settles l.2) (lasting n f reads right)

  pub commits_kept : (new : CommitCommand) → commit_facts lane t v b → commit_leaves t (turn.Done tt) new v w → IsMakeDurable (commit_kind t) → AreRight opening tree message → LastsIn limits tree message w
  commits_kept new f l settles right = kept_by t.change new f is.reads l settles right

-- behind that step nothing of it has been removed yet
pub lasts_whole : (limits : Limits) (tree : List TreeItem) (message : Message) (v : View) → LastsIn limits tree message v → LastsBut [] limits tree message v
lasts_whole limits tree message v lasts = record { safe = λ o of still. lasts.safe o of; right = lasts.right; unmarked = λ still. lasts.unmarked; whole = λ spared. lasts }

-- over each further act, but for what that removes
not_leaf : (s : Seen) → (IsLeaf s → ⊥) → NotLeaf s
not_leaf Vacant none = tt
not_leaf (Directory m) none = tt
not_leaf (Symlink m target) none = none tt
not_leaf (Leaf n m bytes) none = none tt

module _ (limits : Limits) (tree : List TreeItem) (message : Message) (out removed : List ObjName) (v w : View) (stays : Stays removed v w) (lasts : LastsBut out limits tree message v) where
  safe : (o : Object) → IsOf tree message o → ¬ (Contains (removed ++ out) o.name) → IsSafe w o.name
  safe o of still = stays.safe o.name (λ has. still (Contains-append_left removed out o.name has)) (lasts.safe o of (λ has. still (Contains-append_right removed out o.name has)))

  right : AreRight w tree message
  right o of = stays.right o.name (lasts.right o of)

  unmarked : ¬ (Contains (removed ++ out) (commit_of tree message).name) → rely.NeverMarked (sum_of tree message) w
  unmarked still =
      let it = (commit_of tree message).name in
      let before = λ (has : Contains out it). still (Contains-append_right removed out it has) in
      stays.unmarked (sum_of tree message) (λ has. still (Contains-append_left removed out it has)) (lasts.safe (commit_of tree message) (inr refl) before) (lasts.unmarked before)

  sure : (o : Object) → IsSafe w o.name → IsSure w o.name
  sure o is = record { there = is.there; above = is.above }

  never : rely.NeverMarked (sum_of tree message) w → NeverMarked (sum_of tree message) w
  never none = record { each = λ s may. not_leaf s (none.each s may) }

  whole : AreSpared (removed ++ out) tree message → LastsIn limits tree message w
  whole spared = lasts_made limits tree message w (lasts.whole (λ o of has. spared o of (Contains-append_right removed out o.name has))).commit
      (record { each = λ n o number. sure o (safe o (inl (n, number)) (spared o (inl (n, number)))) })
      (sure (commit_of tree message) (safe (commit_of tree message) (inr refl) (spared (commit_of tree message) (inr refl))))
      (never (unmarked (spared (commit_of tree message) (inr refl))))
      right

  lasts_but : LastsBut (removed ++ out) limits tree message w
  lasts_but = record { safe = safe; right = right; unmarked = unmarked; whole = whole }

pub commits_keep : (since : Since) (opening : View) (out removed : List ObjName) (c : CommitWords) (v w : View) → Stays removed v w → commit_keeps since opening out c v → commit_keeps since opening (removed ++ out) c w
commits_keep since opening out removed c v w stays kept = λ right. lasts_but since.limits c.tree.items (message_in since.start.refs c) out removed v w stays (kept right)

-- and on each disk that a crash left since
pub commits_keep_on : (since : Since) (opening : View) (out removed : List ObjName) (c : CommitWords) (v : View) (disk : Disk) → StaysOn removed v disk → commit_keeps since opening out c v → commit_keeps_on since opening (removed ++ out) c disk
commits_keep_on since opening out removed c v disk on kept = λ right. stands_but since.limits c.tree.items (message_in since.start.refs c) out removed v disk on (kept right)

-- so it is where more was removed
module _ (limits : Limits) (tree : List TreeItem) (message : Message) (out more : List ObjName) (among : AreAmong out more) where
  lasts_wider : (v : View) → LastsBut out limits tree message v → LastsBut more limits tree message v
  lasts_wider v l = record {
    safe = λ o of still. l.safe o of (λ has. still (among o.name has));
    right = l.right;
    unmarked = λ still. l.unmarked (λ has. still (among (commit_of tree message).name has));
    whole = λ spared. l.whole (λ o of has. spared o of (among o.name has));
  }

  stands_wider : (d : Disk) → StandsBut out limits tree message d → StandsBut more limits tree message d
  stands_wider d l = record {
    there = λ o of still. l.there o of (λ has. still (among o.name has));
    unmarked = λ still. l.unmarked (λ has. still (among (commit_of tree message).name has));
    whole = λ spared. l.whole (λ o of has. spared o of (among o.name has));
  }

pub commits_wider : (since : Since) (opening : View) (out more : List ObjName) (c : CommitWords) (v : View) → AreAmong out more → commit_keeps since opening out c v → commit_keeps since opening more c v
commits_wider since opening out more c v among kept = λ right. lasts_wider since.limits c.tree.items (message_in since.start.refs c) out more among v (kept right)

pub commits_on_wider : (since : Since) (opening : View) (out more : List ObjName) (c : CommitWords) (disk : Disk) → AreAmong out more → commit_keeps_on since opening out c disk → commit_keeps_on since opening more c disk
commits_on_wider since opening out more c disk among kept = λ right. stands_wider since.limits c.tree.items (message_in since.start.refs c) out more among disk (kept right)
