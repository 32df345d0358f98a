-- What a checkout answers, by its last step.
use Rattle.std.proofs.Common.{◌≡◌, ◌≢◌, ℕ, true, false, refl, sym, ◌∙◌, ap, subst, List, Option, Some, None, IsSome, inr, []}
use Rattle.ost_types.specs.declared.object.Kind.TheVariants.{Commit, File}
use Rattle.ost_types.specs.declared.object.ObjName.{ObjName}
use Rattle.ost_types.specs.Path.{Name}
use Rattle.fs_trait.specs.declared.task.StepResult.TheVariants as turn
use Rattle.fs_trait.specs.Image.{reads}
use Rattle.fs_trait.specs.Seen.{Vacant, seen, shows}
use Rattle.fs_trait.specs.View.{Disk, View}
use Rattle.repo_layout.specs.BootPaths.{checkout_path}
use Rattle.repo_layout.specs.Paths.{object_path}
use Rattle.repo_layout.specs.RefFile.{IsSum}
use Rattle.repo_model.specs.Objects.{path_of}
use Rattle.repo_model.specs.Trees.{name_of}
use Rattle.tree_walk.specs.Standing.{IsLeaf}
use Rattle.store_check.specs.Good.{IsGoodStore}
use Rattle.store_check.specs.Listing.{IsThere}
use Rattle.rely_guarantee.specs.Books.{Books}
use Rattle.rely_guarantee.specs.Lasting.{StaysFinished}
use Rattle.rely_guarantee.specs.State.{SystemState}
use Rattle.ref_command.specs.declared.look_up.Found.TheVariants.{Missing, Partial}
use Rattle.ref_command.specs.Found.{IsFound}
use Rattle.read_command.specs.declared.look.Ask.TheVariants as ask
use Rattle.read_family.specs.Lackings.{lacking_never}
use Rattle.checkout_command.specs.declared.answer.CheckoutAnswer.{CheckoutAnswer}
use Rattle.checkout_command.specs.declared.answer.CheckoutAnswer.TheVariants as answer
use Rattle.checkout_command.specs.declared.command.CheckoutCommand.{CheckoutCommand}
use Rattle.checkout_command.specs.Asked.{Answers, Asked, IsRightFor, asked}
use Rattle.checkout_command.specs.Commands.{HasMade, answer_of, checkout_facts, checkout_leaves, checkout_stepped}
use Rattle.checkout_command.specs.Fits.{Fits, IsFitting}
use Rattle.checkout_command.specs.Founded.{IsFinishedOf}
use Rattle.checkout_command.proofs.Ends.{finished_of, made_not, says_of}
use Rattle.command.specs.CommitFiles.{CommitsAreFiles, commit_read, no_mark_read}
use Rattle.command.specs.Since.{Since, placed}
use Rattle.command.specs.Sound.{IsSoundStore}
use Rattle.checkout_family.specs.declared.reply.CheckoutReply.{CheckoutReply}
use Rattle.checkout_family.specs.declared.reply.CheckoutReply.TheVariants.{NoRef, Tried}
use Rattle.checkout_family.specs.declared.words.CheckoutWords.{CheckoutWords}
use Rattle.checkout_family.specs.Family.{checkout_finds, checkout_lacks, checkout_outside, checkout_pursues, checkout_reply, checkout_says, checkout_shows}

-- the last step has an answer, of the checkout
pub has_answer : (t new : CheckoutCommand) → checkout_stepped t (turn.Done tt) new → IsSome (checkout_reply (answer_of new))
has_answer t new step = subst (λ x. IsSome (checkout_reply (answer_of x))) (sym step.1) refl

pub inner : (o : Option CheckoutAnswer) (a : CheckoutAnswer) → checkout_reply o ≡ Some (Tried a) → o ≡ Some a
inner None a is = cc
inner (Some x) a is = cc

outer : (o : Option CheckoutAnswer) → checkout_reply o ≡ Some NoRef → ⊥
outer None is = cc
outer (Some x) is = cc

fitting : (t new : CheckoutCommand) (q : Asked) (a : CheckoutAnswer) → asked t ≡ Some q → checkout_stepped t (turn.Done tt) new → answer_of new ≡ Some a → Fits q.commit q.name a
fitting t new q a is step given =
    let same : step.0 ≡ a = (let e : Some step.0 ≡ Some a = sym (ap answer_of step.1) ∙ given in cc) in
    subst (Fits q.commit q.name) same (subst (λ o. IsFitting o step.0) is step.2)

pub ends_say : (since : Since) (p : SystemState) (c : CheckoutWords) (t new : CheckoutCommand) (a : CheckoutReply) → checkout_pursues since c t → checkout_stepped t (turn.Done tt) new → checkout_reply (answer_of new) ≡ Some a → checkout_says (placed since p) a c
ends_say since p c t new NoRef is step given = absurd (outer (answer_of new) given)
ends_say since p c t new (Tried a) is step given =
    (is.0, is.1, fitting t new (record { limits = since.limits; commit = is.0; name = c.name }) a is.2 step (inner (answer_of new) a given))

leaf_there : (d : Disk) (o : ObjName) → IsSum o.csum → IsLeaf (shows d (path_of o)) → IsThere d o
leaf_there d o sum leaf = record { sum = sum; there = λ none. subst IsLeaf (ap (λ x. seen d x) none) leaf }

-- in a sound store the files are right
pub right_for : (t : CheckoutCommand) (q : Asked) (d : Disk) → asked t ≡ Some q → IsSoundStore q.limits d → IsRightFor (asked t) d
right_for t q d is sound = subst (λ o. IsRightFor o d) (sym is) (λ sum is_sum leaf. sound (name_of File sum) (leaf_there d (name_of File sum) is_sum leaf))

pub ends_publish : (since : Since) (lane : ℕ) (c : CheckoutWords) (t new : CheckoutCommand) (v w : View) (b : Books) (a : CheckoutReply) → checkout_pursues since c t → checkout_facts lane t v b → checkout_leaves t (turn.Done tt) new v w → checkout_reply (answer_of new) ≡ Some a → IsSoundStore since.limits v.now → checkout_shows since v a c
ends_publish since lane c t new v w b NoRef is f leaves given sound = tt
ends_publish since lane c t new v w b (Tried a) is f leaves given sound =
    let at = inner (answer_of new) a given in (
      is.0,
      is.1,
      subst (λ o. Answers v.now o a) is.2 ((says_of lane t new v w b a f leaves at).1 (λ of_files. right_for t (record { limits = since.limits; commit = is.0; name = c.name }) v.now is.2 sound)),
      λ of. subst (λ o. IsFinishedOf o v) is.2 (finished_of lane t new v w b a f leaves at of),
    )

none_not : {A : Type 0} (o : Option A) → o ≡ None → IsSome o → ⊥
none_not o none some = let n : false ≡ true = subst IsSome none some in cc

-- a commit that lasts is found whole, where commits are files
pub lacks_none : (since : Since) (v : View) (a : CheckoutReply) (c : CheckoutWords) (commit : List ℕ) → CommitsAreFiles v.now → checkout_shows since v a c → checkout_lacks a commit → StaysFinished v commit → ⊥
lacks_none since v (Tried (answer.NoCommit sum)) c commit files seen is finished =
    let there : IsFound v.now commit Missing = subst (λ x. IsFound v.now x Missing) (sym seen.2.0 ∙ is) seen.2.1 in
    none_not (reads v.now (object_path Commit commit)) there (commit_read v commit files finished)
lacks_none since v (Tried (answer.Partial sum)) c commit files seen is finished =
    let there : IsFound v.now commit Partial = subst (λ x. IsFound v.now x Partial) (sym seen.2.0 ∙ is) seen.2.1 in
    no_mark_read v commit finished there.1
lacks_none since v NoRef c commit files seen is finished = is
lacks_none since v (Tried answer.Done) c commit files seen is finished = is
lacks_none since v (Tried (answer.DestExists path)) c commit files seen is finished = is
lacks_none since v (Tried (answer.Lacking path)) c commit files seen is finished = is

-- in a good store no object of a commit that is finished is missing or damaged
pub outside_none : (since : Since) (v : View) (a : CheckoutReply) (c : CheckoutWords) → IsGoodStore since.limits v.now → checkout_shows since v a c → checkout_outside a → ⊥
outside_none since v (Tried (answer.Lacking path)) c good seen is =
    lacking_never since.limits v (record { limits = since.limits; commit = seen.0; ask = ask.Ls [] }) path refl good.sound good.whole (seen.3 tt) (inr seen.2)
outside_none since v NoRef c good seen is = is
outside_none since v (Tried answer.Done) c good seen is = is
outside_none since v (Tried (answer.NoCommit sum)) c good seen is = is
outside_none since v (Tried (answer.Partial sum)) c good seen is = is
outside_none since v (Tried (answer.DestExists path)) c good seen is = is

-- what is told to stand in the way stands there, and the checkout hasn't made it
module _ (since : Since) (lane : ℕ) (c : CheckoutWords) (t new : CheckoutCommand) (v w : View) (b : Books) (name : Name) (is : checkout_pursues since c t) (f : checkout_facts lane t v b) (leaves : checkout_leaves t (turn.Done tt) new v w) where
  stands : (path : List (List ℕ)) → checkout_reply (answer_of new) ≡ Some (Tried (answer.DestExists path)) → c.name ≡ name → shows v.now (checkout_path name) ≢ Vacant
  stands path given own =
      let said = (says_of lane t new v w b (answer.DestExists path) f leaves (inner (answer_of new) (answer.DestExists path) given)).1 (λ no. absurd no) in
      let at = subst (λ o. Answers v.now o (answer.DestExists path)) is.2 said in
      subst (λ p. shows v.now p ≢ Vacant) (at.0 ∙ ap checkout_path own) at.1

  pub found : (a : CheckoutReply) → checkout_reply (answer_of new) ≡ Some a → checkout_finds a c name → (shows v.now (checkout_path name) ≢ Vacant) × (HasMade t name → ⊥)
  found (Tried (answer.DestExists path)) given own = (stands path given own, made_not t new v w path name leaves (inner (answer_of new) (answer.DestExists path) given))
  found NoRef given finds = absurd finds
  found (Tried answer.Done) given finds = absurd finds
  found (Tried (answer.NoCommit sum)) given finds = absurd finds
  found (Tried (answer.Partial sum)) given finds = absurd finds
  found (Tried (answer.Lacking path)) given finds = absurd finds
