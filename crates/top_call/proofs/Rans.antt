-- What a run of lanes leaves, where the file system tells its view.
use Rattle.std.proofs.Common.{◌≡◌, ◌≤◌, ◌∙◌, ◌+◌, inl, inr, ℕ, suc, arith, List, [], ◌∷◌, length, ap, Option, Some, Result, Ok, Err, IfOk, IfSome, map, refl, sym, subst}
use Rattle.std.proofs.lemmas.List.{length-map}
use Rattle.fs_trait.specs.Image.{IsTree, Told}
use Rattle.fs_trait.specs.View.{Disk, View}
use Rattle.rely_guarantee.specs.Books.{books_of}
use Rattle.rely_guarantee.specs.Opening.{IsOpening}
use Rattle.rely_guarantee.specs.State.{first, opening_state}
use Rattle.rely_guarantee.specs.Disks.{Logical}
use Rattle.rely_guarantee.specs.declared.books.Entry.{Entry}
use Rattle.rely_guarantee.specs.declared.books.Pending.{Pending}
use Rattle.rely_guarantee.specs.declared.event.Event.{Event}
use Rattle.ost_types.specs.declared.limits.Limits.{Limits}
use Rattle.ost_types.specs.Path.{Name, Path}
use Rattle.script.specs.declared.answer.Reply.{Reply}
use Rattle.script.specs.declared.command.Command.{Command}
use Rattle.script.specs.declared.command.Lane as script
use Rattle.lane_system.specs.Family.{FsSpec}
use Rattle.repo_model.specs.Objects.{Stores}
use Rattle.durable_store.specs.Known.{KeepsKnown, KnownBytes}
use Rattle.boot_read.specs.Rows.{AreRowsOf}
use Rattle.durable_list.specs.Standing.{KeepsList}
use Rattle.durable_deployments.specs.Standing.{KeepsDeployments}
use Rattle.lane_system.specs.Booting.{BootsStill, KeepsBoots}
use Rattle.lane_system.proofs.Unlisted.{boots_same, none_relisted}
use Rattle.commands.proofs.Lists.{no_lists}
use Rattle.lane_system.specs.Known.{AreKnown}
use Rattle.lane_system.specs.Lanes.{IsAt}
use Rattle.lane_system.specs.Preserves.{Stands}
use Rattle.lane_system.specs.Inside.{NoExternalChangeIn}
use Rattle.lane_system.specs.Removals.{swept_in}
use Rattle.lane_system.specs.Replied.{Replied}
use Rattle.lane_system.specs.Replies.{IsTold}
use Rattle.lane_system.specs.Said.{RepliesHeldAtAPointIn}
use Rattle.lane_system.specs.Storing.{WasBrought}
use Rattle.lane_system.specs.Folders.{IsMade, IsNamed}
use Rattle.lane_system.specs.System.{System}
use Rattle.commands.specs.Answers.{reply_of}
use Rattle.commands.specs.Family.{Answer, Lane, Task, Words, doing, means, program}
use Rattle.commands.specs.Faults.{IsFailure}
use Rattle.commands.specs.Lanes.{replies_of, words_in}
use Rattle.commands.specs.Words.{words_of}
use Rattle.commands.proofs.Rows.{from_row}
use Rattle.commands.proofs.Telling.{failure_of}
use Rattle.sys_open.specs.Damages.{IsGood}
use Rattle.sys_open.specs.Opened.{Opened}
use Rattle.sys_open.specs.Opening.{Begins}
use Rattle.sys_open.specs.declared.fault.OpenFault.TheVariants as opening
use Rattle.top_call.specs.declared.fault.TopFault.{TopFault}
use Rattle.top_call.specs.declared.fault.TopFault.TheVariants.{Usage, Script, Input, Open, NoMemory}
use Rattle.top_call.specs.declared.lanes.LanesEnd.{LanesEnd}
use Rattle.top_call.specs.Answered.{Answered, AnsweredBy}
use Rattle.top_call.specs.Complete.{AreCausedBy}
use Rattle.top_call.specs.Headline.{Headline}
use Rattle.top_call.specs.RanOn.{RanOn}
use Rattle.top_call.specs.Top.{AreStandard, IsStop, IsStopped, Ran, RanBy, event_of}
use Rattle.top_call.specs.Words.{IsLine, commands_of}
use Rattle.top_call.proofs.Checkouts.{clear_in, folders_before}
use Rattle.top_call.proofs.Lefts.{left_good}
use Rattle.top_call.proofs.Openings.{finished_opened}
use Rattle.top_call.proofs.Plain.{plain}
use Rattle.top_call.proofs.Standing.{told_as}

map_map : {X Y Z : Type 0} (g : Y → Z) (f : X → Y) (xs : List X) → map g (map f xs) ≡ map (λ x. g (f x)) xs
map_map g f [] = refl
map_map g f (x ∷ xs) = ap (λ ys. g (f x) ∷ ys) (map_map g f xs)

pub same_refs : (o : Option View) (refs : List (List ℕ × List ℕ)) (v : View) → Told o (Begins refs v) → Logical v.now (first refs)
same_refs o refs v told = told.2.same

-- what is so of each element at its place is so of the images
same_images : {X Y : Type 0} (f g : X → Y) (xs : List X) → ((i : ℕ) (x : X) → IsAt xs i x → f x ≡ g x) → map f xs ≡ map g xs
same_images f g [] each = refl
same_images f g (x ∷ xs) each = ap (λ y. y ∷ map f xs) (each 0 x (omega arith, refl)) ∙ ap (λ ys. g x ∷ ys) (same_images f g xs (λ i z at. each (suc i) z (omega (arith, at.0), at.1)))

-- each lane has as many replies as commands
pub counts_same : (lanes : List Lane) → ((i : ℕ) (lane : Lane) → IsAt lanes i lane → length lane.replies.items ≡ length lane.words.items) → map (λ lane. length lane.replies.items) lanes ≡ map (λ row. length row) (words_in lanes)
counts_same lanes ended = same_images (λ (l : Lane). length l.replies.items) (λ l. length l.words.items) lanes ended ∙ sym (map_map (λ row. length row) (λ (l : Lane). l.words.items) lanes)

-- so there are as many replies as commands of the script
ended_as : (lanes : List Lane) (commands : List (List Command)) → words_in lanes ≡ map (λ row. map words_of row) commands → ((i : ℕ) (lane : Lane) → IsAt lanes i lane → length lane.replies.items ≡ length lane.words.items)
    → map (λ row. length row) (replies_of lanes) ≡ map (λ row. length row) commands
ended_as lanes commands words ended =
    map_map (λ (row : List Reply). length row) (λ (l : Lane). map reply_of l.replies.items) lanes
    ∙ same_images (λ (l : Lane). length (map reply_of l.replies.items)) (λ l. length l.replies.items) lanes (λ i l at. length-map l.replies.items reply_of)
    ∙ counts_same lanes ended
    ∙ ap (map (λ row. length row)) words
    ∙ map_map (λ (row : List Words). length row) (λ row. map words_of row) commands
    ∙ same_images (λ row. length (map words_of row)) (λ row. length row) commands (λ i row at. length-map row words_of)

scripted : (scripts : List script.Lane) → map (λ lane. map words_of lane.commands.items) scripts ≡ map (λ row. map words_of row) (commands_of scripts)
scripted scripts = sym (map_map (λ row. map words_of row) (λ (lane : script.Lane). lane.commands.items) scripts)

-- a checkout that runs is one of a command
named_of : (lanes : List Lane) (d : Disk) (name : Name) → IsMade means doing lanes d name → IsNamed means lanes d name
named_of lanes d name (inl there) = inl there
named_of lanes d name (inr (lane, number, by)) = inr (lane, number, by.0)

module _ {F : Type 0} (f : FsSpec F) (opened : Opened F) (limits : Limits) (v : View) (before : ℕ) (commands : List (List Command)) (good : IsGood limits v.now) (within : opened.limits ≡ limits) (barrier : opened.clock ≡ before + 1) (begins : Told (f.view opened.fs) (Begins opened.refs v)) (tree : IsTree begins.0.now)
    (holds : KeepsKnown (f.was opened.fs) (Stores v.now) opened.clock begins.0) (listed : AreRowsOf v.now opened.rows) where
  module _ (own : List (List Words)) (scripted_as : own ≡ map (λ row. map words_of row) commands) (fs : F) (history : List Entry) (pending : Option Pending) (replies : List (List Reply)) (is : RanOn f opened own fs history pending replies) where
    abbrev s : System F Task Words Answer
    s = is.system

    same : s.limits ≡ limits
    same = is.limits ∙ within

    moment : s.base.books.opened ≡ before + 1
    moment = is.opening ∙ barrier

    stood : Told (f.view s.base.fs) (λ w. Stands f program (f.faults opened.fs) begins.0 s w)
    stood = is.stands begins.0 begins.1

    holds_since : Told (f.view s.base.fs) (λ w. AreKnown f means v.now s w)
    holds_since = is.known v.now begins.0 begins.1 holds

    boots_since : Told (f.view s.base.fs) (λ w. BootsStill f opened.rows s w)
    boots_since = is.boots begins.0 begins.1

    -- no command changes the list
    keeps_boots : (w : View) → BootsStill f opened.rows s w → KeepsBoots (f.was s.base.fs) s.limits opened.rows s.base.books.opened w
    keeps_boots w boots = boots_same f opened.rows s w boots (none_relisted (IsTold f.view) means s.limits (opening_state s.base.books.start) s.base.books.history.items s.base.books.pending s.lanes is.replied no_lists)

    ran_there : (w : View) → f.view s.base.fs ≡ Some w → Stands f program (f.faults opened.fs) begins.0 s w → AreKnown f means v.now s w → BootsStill f opened.rows s w → Ran s.limits f.view f.clock f.was v before commands s.base.fs s.base.books.history.items (event_of s.base.books.pending) (replies_of s.lanes) w
    ran_there w told stands knows boots = record {
      good = subst (λ l. IsGood l v.now) (sym same) good;
      start = opening_state s.base.books.start;
      state = subst (λ refs. Logical v.now (first refs)) (sym is.start) begins.2.same;
      headline = subst (λ n. Headline f.clock f.was n (opening_state s.base.books.start) s.base.fs s.base.books.history.items (event_of s.base.books.pending) w) moment (plain f.clock f.was s.base w (is.headline w told));
      lanes = s.lanes;
      each = is.words ∙ scripted_as;
      given = refl;
      by = s.base.books.pending;
      shown = refl;
      replied = is.replied;
      ended = ended_as s.lanes commands (is.words ∙ scripted_as) is.ended;
      begun = begins.0;
      opens = begins.2.keeps;
      opened = subst (λ refs. IsOpening (first refs) begins.0) (sym is.start) begins.2.opening;
      swept = swept_in s.base.books;
      whole = is.swept is.ended;
      kept = stands.lasts;
      stored = λ t d from left. left_good f s w opened.rows stands.good (keeps_boots w boots) t d (subst (λ n. n ≤ t) (sym moment) from) left;
      inside = subst (λ n. NoExternalChangeIn means (f.was s.base.fs) n (WasBrought means s) s.lanes) moment stands.inside;
      said = subst (λ n. RepliesHeldAtAPointIn means (f.was s.base.fs) n s.limits (opening_state s.base.books.start) s.base.books.history.items s.base.books.pending s.lanes) moment stands.said;
      known = subst (λ n. KeepsKnown (f.was s.base.fs) (KnownBytes v.now (WasBrought means s)) n w) moment knows;
      present = record {
        finished = λ lane number r commit to absent unremoved finished. stands.founded.present.finished lane number r commit to absent unremoved (finished_opened (first opened.refs) begins.0 begins.2.opening tree commit finished.0 finished.1);
        set = stands.founded.present.set;
      };
      books = books_of s.base.books;
      stays = stands.stays;
      remains = stands.remains (λ lane has. omega (arith, has.2, is.ended lane has.0 has.1));
      folders = folders_before s.lanes v.now begins.0.now w.now begins.2.keeps (record { made = λ name there. named_of s.lanes begins.0.now name (stands.folders.made name there); taken = stands.folders.taken; clear = clear_in s.lanes begins.0.now w.now stands.folders.clear });
      rows = opened.rows;
      listed = listed;
      list = is.deployments;
      boots = subst (λ n. KeepsList (f.was s.base.fs) opened.rows n w) moment (keeps_boots w boots).list;
      deployments = subst (λ n. KeepsDeployments (f.was s.base.fs) s.limits opened.rows n w) moment (keeps_boots w boots).deployments;
      crashes = λ t d from left. boots.since t d (subst (λ n. n ≤ t) (sym moment) from) left;
    }

    pub ran_on : Told (f.view fs) (Ran limits f.view f.clock f.was v before commands fs history (event_of pending) replies)
    ran_on =
        subst (λ l. Told (f.view fs) (Ran l f.view f.clock f.was v before commands fs history (event_of pending) replies)) same
        (subst (λ g. Told (f.view g) (Ran s.limits f.view f.clock f.was v before commands g history (event_of pending) replies)) (sym is.disk)
        (subst (λ h. Told (f.view s.base.fs) (Ran s.limits f.view f.clock f.was v before commands s.base.fs h (event_of pending) replies)) (sym is.changes)
        (subst (λ p. Told (f.view s.base.fs) (Ran s.limits f.view f.clock f.was v before commands s.base.fs s.base.books.history.items (event_of p) replies)) (sym is.change)
        (subst (λ r. Told (f.view s.base.fs) (Ran s.limits f.view f.clock f.was v before commands s.base.fs s.base.books.history.items (event_of s.base.books.pending) r)) (sym is.given)
        (stood.0, stood.1, ran_there stood.0 stood.1 stood.2 (told_as (f.view s.base.fs) _ stood.0 stood.1 holds_since) (told_as (f.view s.base.fs) _ stood.0 stood.1 boots_since))))))

-- so it is of any file system what was answered, and what calls that failed are told of
module _ {F : Type 0} (f : FsSpec F) (opened : Opened F) (own : List (List Words)) (fs : F) (history : List Entry) (pending : Option Pending) (replies : List (List Reply)) (is : RanOn f opened own fs history pending replies) where
  abbrev at_end : System F Task Words Answer
  at_end = is.system

  pub caused_on : AreCausedBy (f.faults opened.fs) (f.faults fs) replies
  caused_on =
      subst (λ g. AreCausedBy (f.faults opened.fs) (f.faults g) replies) (sym is.disk)
      (subst (λ r. AreCausedBy (f.faults opened.fs) (f.faults at_end.base.fs) r) (sym is.given)
      (λ lane number r to failed. (let own = from_row at_end.lanes lane number r to in
      is.caused.each lane number own.0 own.1 (failure_of own.0.answer (subst (λ (x : Reply). IsFailure x.answer) own.2 failed)))))

  pub answered_on : (limits : Limits) (commands : List (List Command)) → own ≡ map (λ row. map words_of row) commands → opened.limits ≡ limits → Answered limits f.view f.faults f.refused commands fs history (event_of pending) replies
  answered_on limits commands scripted_as within =
      subst (λ g. Answered limits f.view f.faults f.refused commands g history (event_of pending) replies) (sym is.disk)
      (subst (λ h. Answered limits f.view f.faults f.refused commands at_end.base.fs h (event_of pending) replies) (sym is.changes)
      (subst (λ p. Answered limits f.view f.faults f.refused commands at_end.base.fs at_end.base.books.history.items (event_of p) replies) (sym is.change)
      (subst (λ r. Answered limits f.view f.faults f.refused commands at_end.base.fs at_end.base.books.history.items (event_of at_end.base.books.pending) r) (sym is.given)
      (record {
        start = opening_state at_end.base.books.start;
        lanes = at_end.lanes;
        each = is.words ∙ scripted_as;
        given = refl;
        by = at_end.base.books.pending;
        shown = refl;
        replied = subst (λ l. Replied (IsTold f.view) means l (opening_state at_end.base.books.start) at_end.base.books.history.items at_end.base.books.pending at_end.lanes) (is.limits ∙ within) is.replied;
        ended = ended_as at_end.lanes commands (is.words ∙ scripted_as) is.ended;
        halted = at_end.base.books.halted;
        ends = is.ends;
      }))))

pub answered : {F : Type 0} (f : FsSpec F) (opened : Opened F) (limits : Limits) (scripts : List script.Lane) (r : Result (LanesEnd F) (F × TopFault)) → opened.limits ≡ limits
    → IfOk r (λ p. RanOn f opened (map (λ lane. map words_of lane.commands.items) scripts) p.fs p.history.items p.pending (map (λ replies. replies.items) p.replies.items))
    → IfOk r (λ p. Answered limits f.view f.faults f.refused (commands_of scripts) p.fs p.history.items (event_of p.pending) (map (λ replies. replies.items) p.replies.items))
answered f opened limits scripts (Err e) within is = tt
answered f opened limits scripts (Ok p) within is =
    answered_on f opened (map (λ lane. map words_of lane.commands.items) scripts) p.fs p.history.items p.pending (map (λ replies. replies.items) p.replies.items) is limits (commands_of scripts) (scripted scripts) within

pub ran : {F : Type 0} (f : FsSpec F) (opened : Opened F) (limits : Limits) (v : View) (before : ℕ) (scripts : List script.Lane) (r : Result (LanesEnd F) (F × TopFault)) → IsGood limits v.now → opened.limits ≡ limits → opened.clock ≡ before + 1
    → (begins : Told (f.view opened.fs) (Begins opened.refs v)) → IsTree begins.0.now → KeepsKnown (f.was opened.fs) (Stores v.now) opened.clock begins.0 → AreRowsOf v.now opened.rows
    → IfOk r (λ p. RanOn f opened (map (λ lane. map words_of lane.commands.items) scripts) p.fs p.history.items p.pending (map (λ replies. replies.items) p.replies.items))
    → IfOk r (λ p. Told (f.view p.fs) (Ran limits f.view f.clock f.was v before (commands_of scripts) p.fs p.history.items (event_of p.pending) (map (λ replies. replies.items) p.replies.items)))
ran f opened limits v before scripts (Err e) good within barrier begins tree holds listed is = tt
ran f opened limits v before scripts (Ok p) good within barrier begins tree holds listed is =
    ran_on f opened limits v before (commands_of scripts) good within barrier begins tree holds listed (map (λ lane. map words_of lane.commands.items) scripts) (scripted scripts) p.fs p.history.items p.pending (map (λ replies. replies.items) p.replies.items) is

pub caused : {F : Type 0} (f : FsSpec F) (opened : Opened F) (scripts : List script.Lane) (r : Result (LanesEnd F) (F × TopFault))
    → IfOk r (λ p. RanOn f opened (map (λ lane. map words_of lane.commands.items) scripts) p.fs p.history.items p.pending (map (λ replies. replies.items) p.replies.items))
    → IfOk r (λ p. AreCausedBy (f.faults opened.fs) (f.faults p.fs) (map (λ replies. replies.items) p.replies.items))
caused f opened scripts (Err e) is = tt
caused f opened scripts (Ok p) is = caused_on f opened (map (λ lane. map words_of lane.commands.items) scripts) p.fs p.history.items p.pending (map (λ replies. replies.items) p.replies.items) is

-- the same by the words that the lanes are of
pub by_words : {F : Type 0} (left : Option (List ℕ)) (words : List (List ℕ)) (limits : Limits) (view : F → Option View) (clock : F → ℕ) (was : F → ℕ → View → Type 0) (v : View) (before : ℕ) (commands : List (List Command)) (fs fs' : F) (h h' : List Entry) (p p' : Option Event) (r r' : List (List Reply))
    → AreStandard limits → IsLine left words commands → fs' ≡ fs → h' ≡ h → p' ≡ p → r' ≡ r → Told (view fs) (Ran limits view clock was v before commands fs h p r) → Told (view fs') (RanBy left words view clock was v before fs' h' p' r')
by_words left words limits view clock was v before commands fs fs' h h' p p' r r' standard line fs-is h-is p-is r-is told =
    subst (λ x. Told (view x) (RanBy left words view clock was v before x h' p' r')) (sym fs-is)
    (subst (λ x. Told (view fs) (RanBy left words view clock was v before fs x p' r')) (sym h-is)
    (subst (λ x. Told (view fs) (RanBy left words view clock was v before fs h x r')) (sym p-is)
    (subst (λ x. Told (view fs) (RanBy left words view clock was v before fs h p x)) (sym r-is) (told.0, told.1, (limits, commands, standard, line, told.2)))))

pub answered_by_words : {F : Type 0} (left : Option (List ℕ)) (words : List (List ℕ)) (limits : Limits) (view : F → Option View) (faults : F → ℕ) (refused : F → Option Path) (commands : List (List Command)) (fs fs' : F) (h h' : List Entry) (p p' : Option Event) (r r' : List (List Reply))
    → AreStandard limits → IsLine left words commands → fs' ≡ fs → h' ≡ h → p' ≡ p → r' ≡ r → Answered limits view faults refused commands fs h p r → AnsweredBy left words view faults refused fs' h' p' r'
answered_by_words left words limits view faults refused commands fs fs' h h' p p' r r' standard line fs-is h-is p-is r-is answers =
    subst (λ x. AnsweredBy left words view faults refused x h' p' r') (sym fs-is)
    (subst (λ x. AnsweredBy left words view faults refused fs x p' r') (sym h-is)
    (subst (λ x. AnsweredBy left words view faults refused fs h x r') (sym p-is)
    (subst (λ x. AnsweredBy left words view faults refused fs h p x) (sym r-is) (limits, commands, standard, line, answers))))

-- a fault that is told within these bounds
stopped : (limits : Limits) (d : Disk) → AreStandard limits → (fault : TopFault) → IsStop limits d fault → IsStopped d fault
stopped limits d standard Usage stop = tt
stopped limits d standard (Script e) stop = tt
stopped limits d standard Input stop = tt
stopped limits d standard NoMemory stop = tt
stopped limits d standard (Open opening.NoMemory) stop = absurd stop
stopped limits d standard (Open opening.Disk) stop = (limits, standard, tt)
stopped limits d standard (Open (opening.Damaged p why)) stop = (limits, standard, stop)
stopped limits d standard (Open (opening.Outside p)) stop = absurd stop

pub stop_at : (told : Option TopFault) (fault : TopFault) (limits : Limits) (d : Disk) → told ≡ Some fault → AreStandard limits → IsStop limits d fault → IfSome told (IsStopped d)
stop_at told fault limits d is standard stop = subst (λ o. IfSome o (IsStopped d)) (sym is) (stopped limits d standard fault stop)
