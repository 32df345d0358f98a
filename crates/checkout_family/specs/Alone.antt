-- Only the step that pins the commit tells that it isn't there.
use Rattle.std.proofs.Common.{◌≡◌, inr, ℕ, refl, sym, ◌∙◌, ap, subst, List, Option, Some}
use Rattle.fs_trait.specs.declared.task.StepResult.TheVariants as turn
use Rattle.fs_trait.specs.View.{Disk, View}
use Rattle.rely_guarantee.specs.Laws.{Take}
use Rattle.ref_command.specs.Commands.{pin_wants}
use Rattle.checkout_command.specs.declared.answer.CheckoutAnswer.{CheckoutAnswer}
use Rattle.checkout_command.specs.declared.answer.CheckoutAnswer.TheVariants as answer
use Rattle.checkout_command.specs.declared.command.CheckoutCommand.{CheckoutCommand}
use Rattle.checkout_command.specs.declared.command.CheckoutCommand.TheVariants as command
use Rattle.checkout_command.specs.declared.make.Make.{Make}
use Rattle.checkout_command.specs.Reads.{Reads}
use Rattle.checkout_command.specs.Commands.{Tells, answer_of, checkout_kind, checkout_leaves}
use Rattle.command.specs.Removing.{IsAlone}
use Rattle.checkout_family.specs.declared.reply.CheckoutReply.{CheckoutReply}
use Rattle.checkout_family.specs.declared.reply.CheckoutReply.TheVariants.{Tried}
use Rattle.checkout_family.specs.Family.{checkout_lacks, checkout_reply}

pin_alone : (commit : List ℕ) → IsAlone (Take (pin_wants commit))
pin_alone commit = inr (inr (inr refl))

read_lacks : (s : Reads) (d : Disk) (a : CheckoutAnswer) (commit : List ℕ) → Tells (command.Read s) d a → checkout_lacks (Tried a) commit → ⊥
read_lacks s d answer.Done commit told lacks = lacks
read_lacks s d (answer.NoCommit sum) commit told lacks = told
read_lacks s d (answer.Partial sum) commit told lacks = told
read_lacks s d (answer.DestExists path) commit told lacks = lacks
read_lacks s d (answer.Lacking path) commit told lacks = lacks

make_lacks : (m : Make) (d : Disk) (a : CheckoutAnswer) (commit : List ℕ) → Tells (command.Make m) d a → checkout_lacks (Tried a) commit → ⊥
make_lacks m d answer.Done commit told lacks = lacks
make_lacks m d (answer.NoCommit sum) commit told lacks = told
make_lacks m d (answer.Partial sum) commit told lacks = told
make_lacks m d (answer.DestExists path) commit told lacks = lacks
make_lacks m d (answer.Lacking path) commit told lacks = lacks

ended_never : (x : CheckoutAnswer) (d : Disk) (a : CheckoutAnswer) → Tells (command.Ended x) d a → ⊥
ended_never x d answer.Done told = told
ended_never x d (answer.NoCommit sum) told = told
ended_never x d (answer.Partial sum) told = told
ended_never x d (answer.DestExists path) told = told
ended_never x d (answer.Lacking path) told = told

told_alone : (t : CheckoutCommand) (d : Disk) (a : CheckoutAnswer) (commit : List ℕ) → Tells t d a → checkout_lacks (Tried a) commit → IsAlone (checkout_kind t)
told_alone (command.Look r) d a commit told lacks = pin_alone r.commit
told_alone (command.Read s) d a commit told lacks = absurd (read_lacks s d a commit told lacks)
told_alone (command.Make m) d a commit told lacks = absurd (make_lacks m d a commit told lacks)
told_alone (command.Ended x) d a commit told lacks = absurd (ended_never x d a told)

replied : (o : Option CheckoutAnswer) (x : CheckoutAnswer) (a : CheckoutReply) → o ≡ Some x → checkout_reply o ≡ Some a → Tried x ≡ a
replied o x a is given = let e : Some (Tried x) ≡ Some a = sym (ap checkout_reply is) ∙ given in cc

pub checkouts_alone : (t new : CheckoutCommand) (v w : View) (a : CheckoutReply) (commit : List ℕ) → checkout_leaves t (turn.Done tt) new v w → checkout_reply (answer_of new) ≡ Some a → checkout_lacks a commit → IsAlone (checkout_kind t)
checkouts_alone t new v w a commit leaves given lacks =
    let same : Tried leaves.1 ≡ a = replied (answer_of new) leaves.1 a (ap answer_of leaves.2) given in
    told_alone t v.now leaves.1 commit leaves.3 (subst (λ x. checkout_lacks x commit) (sym same) lacks)
