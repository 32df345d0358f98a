-- What a command that reads answers, by its last step.
use Rattle.std.proofs.Common.{◌≡◌, ⊎_elim, ℕ, true, false, refl, sym, ◌∙◌, ap, subst, List, Option, Some, None, IsSome}
use Rattle.ost_types.specs.declared.limits.Limits.{Limits}
use Rattle.ost_types.specs.declared.object.Kind.TheVariants.{Commit}
use Rattle.fs_trait.specs.declared.task.StepResult.TheVariants as turn
use Rattle.fs_trait.specs.Image.{reads}
use Rattle.fs_trait.specs.View.{Disk, View}
use Rattle.repo_layout.specs.Paths.{object_path}
use Rattle.store_check.specs.Good.{IsGoodStore}
use Rattle.rely_guarantee.specs.Books.{Books}
use Rattle.rely_guarantee.specs.State.{SystemState}
use Rattle.rely_guarantee.specs.Lasting.{StaysFinished}
use Rattle.ref_command.specs.declared.look_up.Found.TheVariants.{Missing, Partial}
use Rattle.ref_command.specs.Found.{IsFound}
use Rattle.read_command.specs.declared.answer.ReadAnswer.{ReadAnswer}
use Rattle.read_command.specs.declared.answer.ReadAnswer.TheVariants as answer
use Rattle.read_command.specs.declared.command.ReadCommand.{ReadCommand}
use Rattle.read_command.specs.declared.look.Ask.{Ask}
use Rattle.read_command.specs.declared.look.Ask.TheVariants as ask
use Rattle.read_command.specs.Answers.{SaysOf}
use Rattle.read_command.specs.Asked.{Answers, Asked, asked}
use Rattle.read_command.specs.Commands.{answer_of, read_facts, read_leaves, read_stepped}
use Rattle.read_command.specs.Fits.{Fits, IsFitting}
use Rattle.read_command.specs.Founded.{IsFinishedOf}
use Rattle.read_command.proofs.Ends.{finished_of, says_of}
use Rattle.command.specs.CommitFiles.{CommitsAreFiles, commit_read, no_mark_read}
use Rattle.command.specs.Since.{Since, placed}
use Rattle.read_family.specs.declared.reply.ReadReply.{ReadReply}
use Rattle.read_family.specs.declared.reply.ReadReply.TheVariants.{NoRef, Read}
use Rattle.read_family.specs.declared.words.ReadWords.{ReadWords}
use Rattle.read_family.specs.Family.{read_lacks, read_outside, read_pursues, read_reply, read_says, read_shows}
use Rattle.read_family.specs.Endings.{ends_unread, log_said}
use Rattle.read_family.specs.Lackings.{lacking_never}

-- the last step has an answer, of the reader
pub has_answer : (t new : ReadCommand) → read_stepped t (turn.Done tt) new → IsSome (read_reply (answer_of new))
has_answer t new step = subst (λ x. IsSome (read_reply (answer_of x))) (sym step.1) refl

inner : (o : Option ReadAnswer) (a : ReadAnswer) → read_reply o ≡ Some (Read a) → o ≡ Some a
inner None a is = cc
inner (Some x) a is = cc

outer : (o : Option ReadAnswer) → read_reply o ≡ Some NoRef → ⊥
outer None is = cc
outer (Some x) is = cc

fitting : (t new : ReadCommand) (q : Asked) (a : ReadAnswer) → asked t ≡ Some q → read_stepped t (turn.Done tt) new → answer_of new ≡ Some a → Fits q.ask q.commit a
fitting t new q a is step given =
    let same : step.0 ≡ a = (let e : Some step.0 ≡ Some a = sym (ap answer_of step.1) ∙ given in cc) in
    subst (Fits q.ask q.commit) same (subst (λ o. IsFitting o step.0) is step.2)

pub ends_say : (since : Since) (p : SystemState) (c : ReadWords) (t new : ReadCommand) (a : ReadReply) → read_pursues since c t → read_stepped t (turn.Done tt) new → read_reply (answer_of new) ≡ Some a → read_says (placed since p) a c
ends_say since p c t new NoRef is step given = absurd (outer (answer_of new) given)
ends_say since p c t new (Read a) is step given =
    (is.0, is.1, fitting t new (record { limits = since.limits; commit = is.0; ask = c.ask }) a is.2 step (inner (answer_of new) a given))

pub ends_publish : (since : Since) (lane : ℕ) (c : ReadWords) (t new : ReadCommand) (v w : View) (b : Books) (a : ReadReply) → read_pursues since c t → read_facts lane t v b → read_leaves t (turn.Done tt) new v w → read_reply (answer_of new) ≡ Some a → read_shows since v a c
ends_publish since lane c t new v w b NoRef is f leaves given = tt
ends_publish since lane c t new v w b (Read a) is f leaves given =
    let at = inner (answer_of new) a given in (
      is.0,
      is.1,
      subst (λ o. Answers v.now o a) is.2 (says_of lane t new v w b a f leaves at).1,
      λ read. subst (λ o. IsFinishedOf o v) is.2 (finished_of lane t new v w b a f leaves at read),
    )

none_not : {A : Type 0} (o : Option A) → o ≡ None → IsSome o → ⊥
none_not o none some = let n : false ≡ true = subst IsSome none some in cc

missing_said : {P : Type 0} (d : Disk) (limits : Limits) (commit : List ℕ) (a : Ask) (sum : List ℕ) → SaysOf d limits commit a (answer.NoCommit sum) → P
missing_said d limits commit ask.Log sum says = absurd says
missing_said d limits commit (ask.Ls path) sum says = absurd says
missing_said d limits commit (ask.Cat path) sum says = absurd says

partial_said : {P : Type 0} (d : Disk) (limits : Limits) (commit : List ℕ) (a : Ask) (sum : List ℕ) → SaysOf d limits commit a (answer.Partial sum) → P
partial_said d limits commit ask.Log sum says = absurd says
partial_said d limits commit (ask.Ls path) sum says = absurd says
partial_said d limits commit (ask.Cat path) sum says = absurd says

-- a commit that lasts is found whole, where commits are files
pub lacks_none : (since : Since) (v : View) (a : ReadReply) (c : ReadWords) (commit : List ℕ) → CommitsAreFiles v.now → read_shows since v a c → read_lacks a commit → StaysFinished v commit → ⊥
lacks_none since v (Read (answer.NoCommit sum)) c commit files seen is finished =
    let missing : IsFound v.now sum Missing = ⊎_elim (λ stopped. subst (λ x. IsFound v.now x Missing) (sym stopped.0) stopped.1) (λ other. missing_said v.now since.limits seen.0 c.ask sum other) seen.2 in
    let there : IsFound v.now commit Missing = subst (λ x. IsFound v.now x Missing) is missing in
    none_not (reads v.now (object_path Commit commit)) there (commit_read v commit files finished)
lacks_none since v (Read (answer.Partial sum)) c commit files seen is finished =
    let partial : IsFound v.now sum Partial = ⊎_elim (λ stopped. subst (λ x. IsFound v.now x Partial) (sym stopped.0) stopped.1) (λ other. partial_said v.now since.limits seen.0 c.ask sum other) seen.2 in
    let there : IsFound v.now commit Partial = subst (λ x. IsFound v.now x Partial) is partial in
    no_mark_read v commit finished there.1
lacks_none since v NoRef c commit files seen is finished = is
lacks_none since v (Read (answer.Content bytes)) c commit files seen is finished = is
lacks_none since v (Read (answer.Ls rows)) c commit files seen is finished = is
lacks_none since v (Read (answer.Log rows)) c commit files seen is finished =
    let log = log_said v.now since.limits seen.0 c.ask rows seen.2 in
    none_not (reads v.now (object_path Commit commit)) (ends_unread v.now seen.0 commit rows.items log is finished.there.sum) (commit_read v commit files finished)
lacks_none since v (Read (answer.NoPath path)) c commit files seen is finished = is
lacks_none since v (Read (answer.NotFile path)) c commit files seen is finished = is
lacks_none since v (Read (answer.Lacking path)) c commit files seen is finished = is

-- in a good store no object of a commit that is finished is missing or damaged
pub outside_none : (since : Since) (v : View) (a : ReadReply) (c : ReadWords) → IsGoodStore since.limits v.now → read_shows since v a c → read_outside a → ⊥
outside_none since v (Read (answer.Lacking path)) c good seen is =
    lacking_never since.limits v (record { limits = since.limits; commit = seen.0; ask = c.ask }) path refl good.sound good.whole (seen.3 tt) seen.2
outside_none since v NoRef c good seen is = is
outside_none since v (Read (answer.NoCommit sum)) c good seen is = is
outside_none since v (Read (answer.Partial sum)) c good seen is = is
outside_none since v (Read (answer.Content bytes)) c good seen is = is
outside_none since v (Read (answer.Ls rows)) c good seen is = is
outside_none since v (Read (answer.Log rows)) c good seen is = is
outside_none since v (Read (answer.NoPath path)) c good seen is = is
outside_none since v (Read (answer.NotFile path)) c good seen is = is
