-- That a folder was made is answered by who has made it, and never by the books alone.
use Rattle.std.proofs.Common.{◌≡◌, ℕ, List, [], Some, None, sym, subst}
use Rattle.ost_types.specs.declared.object.Kind.TheVariants.{Commit}
use Rattle.ost_types.specs.Path.{Name}
use Rattle.fs_trait.specs.declared.task.StepResult.TheVariants as turn
use Rattle.fs_trait.specs.declared.types.Value.TheVariants.{Absent}
use Rattle.fs_trait.specs.View.{View, settled}
use Rattle.repo_model.specs.Objects.{Stores}
use Rattle.repo_model.specs.Trees.{name_of}
use Rattle.checkout_command.specs.declared.answer.CheckoutAnswer.TheVariants as answer
use Rattle.checkout_command.specs.declared.command.CheckoutCommand.{CheckoutCommand}
use Rattle.checkout_command.specs.Asked.{HasName}
use Rattle.checkout_command.specs.Commands.{HasMade, answer_of, checkout_leaves}
use Rattle.checkout_family.specs.Claimed.{done_made}
use Rattle.command.specs.Doing.{IsAnswer}
use Rattle.command.specs.Since.{Since}
use Rattle.checkout_family.specs.declared.reply.CheckoutReply.{CheckoutReply}
use Rattle.checkout_family.specs.declared.reply.CheckoutReply.TheVariants.{NoRef, Tried}
use Rattle.checkout_family.specs.declared.words.CheckoutWords.{CheckoutWords}
use Rattle.checkout_family.specs.Answering.{inner}
use Rattle.checkout_family.specs.Family.{checkout_makes, checkout_means, checkout_pursues, checkout_reply}

module _ (since : Since) (c : CheckoutWords) (t new : CheckoutCommand) (v w : View) (is : checkout_pursues since c t) (leaves : checkout_leaves t (turn.Done tt) new v w) where
  pub ends_made : (a : CheckoutReply) → checkout_reply (answer_of new) ≡ Some a → (name : Name) → checkout_makes a c name → HasMade t name
  ends_made (Tried answer.Done) given name own = done_made t new v w name leaves (inner (answer_of new) answer.Done given) (subst (HasName name) (sym is.2) own)
  ends_made (Tried (answer.NoCommit sum)) given name own = absurd own
  ends_made (Tried (answer.Partial sum)) given name own = absurd own
  ends_made (Tried (answer.DestExists path)) given name own = absurd own
  ends_made (Tried (answer.Lacking path)) given name own = absurd own
  ends_made NoRef given name own = absurd own

-- a view on which nothing stands, and no object
abbrev nothing : View
nothing = settled (record { at = λ p. Absent; meta = λ n. record { uid = 0; gid = 0; mode = 0; xattrs = [] }; bytes = λ n. [] })

none_stored : (sum bytes : List ℕ) → Stores nothing.now (name_of Commit sum) bytes → ⊥
none_stored sum bytes stored = let no : None ≡ Some bytes = stored.there in cc

pub late_none : (since : Since) (c : CheckoutWords) (a : CheckoutReply) (name : Name) → IsAnswer checkout_means since c a → checkout_makes a c name → ⊥
late_none since c (Tried answer.Done) name is own =
    let seen = is.5 nothing in
    let here = seen.2.whole.here in
    none_stored seen.0 here.bytes here.stored
late_none since c (Tried (answer.NoCommit sum)) name is own = own
late_none since c (Tried (answer.Partial sum)) name is own = own
late_none since c (Tried (answer.DestExists path)) name is own = own
late_none since c (Tried (answer.Lacking path)) name is own = own
late_none since c NoRef name is own = own
