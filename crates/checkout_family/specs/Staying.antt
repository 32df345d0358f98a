-- The folder of a checkout that is done stays its commit's tree, whoever acts.
use Rattle.std.proofs.Common.{◌≡◌, ◌≢◌, ⊎_elim, ℕ, List, [], ◌++◌, Contains, Some, sym, ◌∙◌, ap, subst}
use Rattle.std.proofs.lemmas.List.Elements.{Contains-append_left, Contains-append_right}
use Rattle.ost_types.specs.declared.limits.Limits.{Limits}
use Rattle.ost_types.specs.declared.object.ObjName.{ObjName}
use Rattle.ost_types.specs.Path.{Name}
use Rattle.fs_trait.specs.declared.task.StepResult.TheVariants as turn
use Rattle.fs_trait.specs.Seen.{Vacant, shows}
use Rattle.fs_trait.specs.View.{View}
use Rattle.repo_layout.specs.BootPaths.{checkout_path}
use Rattle.repo_model.specs.Objects.{path_of}
use Rattle.repo_model.proofs.Stored.{stores_same}
use Rattle.rely_guarantee.specs.Books.{Books, IsClaimed, Unclaimed}
use Rattle.rely_guarantee.specs.Rely.{Interference}
use Rattle.rely_guarantee.proofs.Claiming.{checkout_stays as folder_stays}
use Rattle.checkout_command.specs.declared.answer.CheckoutAnswer.TheVariants as answer
use Rattle.checkout_command.specs.declared.command.CheckoutCommand.{CheckoutCommand}
use Rattle.checkout_command.specs.Answers.{IsCheckedOut}
use Rattle.checkout_command.specs.Asked.{Answers}
use Rattle.checkout_command.specs.Commands.{answer_of, checkout_facts, checkout_leaves}
use Rattle.checkout_command.proofs.Ends.{IsClaimedOf, claimed_of, says_of}
use Rattle.command.specs.AnswerLaws.{HasNoClaims}
use Rattle.command.specs.Removed.{AreAmong, RemovesOnly}
use Rattle.command.specs.Since.{Since}
use Rattle.command.specs.Sound.{IsSoundStore}
use Rattle.checkout_family.specs.declared.reply.CheckoutReply.{CheckoutReply}
use Rattle.checkout_family.specs.declared.reply.CheckoutReply.TheVariants.{NoRef, Tried}
use Rattle.checkout_family.specs.declared.words.CheckoutWords.{CheckoutWords}
use Rattle.checkout_family.specs.Answering.{inner, right_for}
use Rattle.checkout_family.specs.Family.{checkout_pursues, checkout_reply, checkout_stays}
use Rattle.checkout_family.specs.Folder.{StaysTree}
use Rattle.checkout_family.specs.Kept.{spared_before, tree_on, tree_stands, unremoved_same}

-- ---- when it is done

-- what was the lane's alone is nobody's, once the lane has no claims
given_up : (actor lane : ℕ) (v w : View) (b b' : Books) (name : Name) → Interference actor lane v b w b' → HasNoClaims lane b' → shows v.now (checkout_path name) ≢ Vacant → IsClaimed name lane b → Unclaimed name b'
given_up actor lane v w b b' name does gone there claimed c has is =
    let was : Contains b.claims c = ⊎_elim (λ x. x) (λ none. absurd (there (sym (ap (λ n. shows v.now (checkout_path n)) is) ∙ none))) (does.claims c has) in
    gone c has (claimed.alone c was is)

tree_left : (limits : Limits) (actor lane : ℕ) (v w : View) (b b' : Books) (commit : List ℕ) (name : Name) → Interference actor lane v b w b' → HasNoClaims lane b' → IsClaimed name lane b → w ≡ v → IsCheckedOut v.now limits commit name → StaysTree limits [] commit name w b'
tree_left limits actor lane v w b b' commit name does gone claimed same is = record {
  free = given_up actor lane v w b b' name does gone (tree_stands v.now limits commit name is) claimed;
  made = v.now;
  tree = is;
  same = λ rest. ap (λ (u : View). shows u.now (checkout_path name ++ rest)) same;
  objects = λ o bytes still stored. ap (λ (u : View). shows u.now (path_of o)) same;
  now = λ spared. subst (λ (u : View). IsCheckedOut u.now limits commit name) (sym same) is;
}

module _ (since : Since) (actor lane : ℕ) (c : CheckoutWords) (t new : CheckoutCommand) (v w : View) (b b' : Books) (is : checkout_pursues since c t) (f : checkout_facts lane t v b) (leaves : checkout_leaves t (turn.Done tt) new v w) (does : Interference actor lane v b w b') (gone : HasNoClaims lane b') (sound : IsSoundStore since.limits v.now) where
  done_left : answer_of new ≡ Some answer.Done → StaysTree since.limits [] is.0 c.name w b'
  done_left given =
      let said = says_of lane t new v w b answer.Done f leaves given in
      tree_left since.limits actor lane v w b b' is.0 c.name does gone
      (subst (λ o. IsClaimedOf o lane b) is.2 (claimed_of lane t new v w b f leaves given))
      said.0
      (subst (λ o. Answers v.now o answer.Done) is.2 (said.1 (λ of_files. right_for t (record { limits = since.limits; commit = is.0; name = c.name }) v.now is.2 sound)))

  pub ends_leave : (a : CheckoutReply) → checkout_reply (answer_of new) ≡ Some a → checkout_stays since [] a c w b'
  ends_leave (Tried answer.Done) given = (is.0, is.1, done_left (inner (answer_of new) answer.Done given))
  ends_leave NoRef given = tt
  ends_leave (Tried (answer.NoCommit sum)) given = tt
  ends_leave (Tried (answer.Partial sum)) given = tt
  ends_leave (Tried (answer.DestExists path)) given = tt
  ends_leave (Tried (answer.Lacking path)) given = tt

-- ---- from then on

tree_stays : (limits : Limits) (actor lane : ℕ) (out removed : List ObjName) (commit : List ℕ) (name : Name) (v w : View) (b b' : Books) → Interference actor lane v b w b' → RemovesOnly removed v w → StaysTree limits out commit name v b → StaysTree limits (removed ++ out) commit name w b'
tree_stays limits actor lane out removed commit name v w b b' does only is =
    let there : shows v.now (checkout_path name) ≢ Vacant = λ none. tree_stands is.made limits commit name is.tree (sym (is.same []) ∙ none) in
    let on = folder_stays actor lane v w b b' name does there is.free in
    record {
      free = on.0;
      made = is.made;
      tree = is.tree;
      same = λ rest. on.1 rest ∙ is.same rest;
      objects = λ o bytes still stored.
          let before = is.objects o bytes (λ has. still (Contains-append_right removed out o has)) stored in
          unremoved_same b v w actor lane does.writes removed only o bytes (λ has. still (Contains-append_left removed out o has)) (stores_same is.made v.now o bytes before stored) ∙ before;
      now = λ spared. tree_on b v w actor lane does.writes removed only commit out spared limits name (is.now (spared_before b v w actor lane does.writes removed only commit out spared)) on.1;
    }

pub checkouts_stay : (since : Since) (actor lane : ℕ) (out removed : List ObjName) (a : CheckoutReply) (c : CheckoutWords) (v w : View) (b b' : Books) → Interference actor lane v b w b' → RemovesOnly removed v w → checkout_stays since out a c v b → checkout_stays since (removed ++ out) a c w b'
checkouts_stay since actor lane out removed (Tried answer.Done) c v w b b' does only is = (is.0, is.1, tree_stays since.limits actor lane out removed is.0 c.name v w b b' does only is.2)
checkouts_stay since actor lane out removed NoRef c v w b b' does only is = tt
checkouts_stay since actor lane out removed (Tried (answer.NoCommit sum)) c v w b b' does only is = tt
checkouts_stay since actor lane out removed (Tried (answer.Partial sum)) c v w b b' does only is = tt
checkouts_stay since actor lane out removed (Tried (answer.DestExists path)) c v w b b' does only is = tt
checkouts_stay since actor lane out removed (Tried (answer.Lacking path)) c v w b b' does only is = tt

-- so it is where more was removed
tree_wider : (limits : Limits) (out more : List ObjName) (commit : List ℕ) (name : Name) (v : View) (b : Books) → AreAmong out more → StaysTree limits out commit name v b → StaysTree limits more commit name v b
tree_wider limits out more commit name v b among is = record {
  free = is.free;
  made = is.made;
  tree = is.tree;
  same = is.same;
  objects = λ o bytes still. is.objects o bytes (λ has. still (among o has));
  now = λ spared. is.now (λ o has. spared o (among o has));
}

pub checkouts_wider : (since : Since) (out more : List ObjName) (a : CheckoutReply) (c : CheckoutWords) (v : View) (b : Books) → AreAmong out more → checkout_stays since out a c v b → checkout_stays since more a c v b
checkouts_wider since out more (Tried answer.Done) c v b among is = (is.0, is.1, tree_wider since.limits out more is.0 c.name v b among is.2)
checkouts_wider since out more NoRef c v b among is = tt
checkouts_wider since out more (Tried (answer.NoCommit sum)) c v b among is = tt
checkouts_wider since out more (Tried (answer.Partial sum)) c v b among is = tt
checkouts_wider since out more (Tried (answer.DestExists path)) c v b among is = tt
checkouts_wider since out more (Tried (answer.Lacking path)) c v b among is = tt
