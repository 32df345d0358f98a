-- A folder is made by the step that claims it, and is answered to be made by who has made it.
use Rattle.std.proofs.Common.{◌≡◌, ◌⊎◌, inl, inr, refl, sym, ◌∙◌, ap, subst, Some}
use Rattle.ost_types.specs.Path.{Name}
use Rattle.fs_trait.specs.declared.task.StepResult.TheVariants as turn
use Rattle.fs_trait.specs.View.{View}
use Rattle.rely_guarantee.specs.Laws.{Claim}
use Rattle.checkout_command.specs.declared.answer.CheckoutAnswer.TheVariants as answer
use Rattle.checkout_command.specs.declared.command.CheckoutCommand.{CheckoutCommand}
use Rattle.checkout_command.specs.declared.command.CheckoutCommand.TheVariants as command
use Rattle.checkout_command.specs.declared.made.Made.{Made}
use Rattle.checkout_command.specs.declared.made.Made.TheVariants as made
use Rattle.checkout_command.specs.declared.make.Make.{Make}
use Rattle.checkout_command.specs.Asked.{HasName, asked}
use Rattle.checkout_command.specs.Commands.{HasMade, IsNew, Tells, answer_of, checkout_kind, checkout_leaves}
use Rattle.checkout_command.specs.MakeSteps.{make_kind}

-- a command at its beginning has made none
pub not_begun : (t : CheckoutCommand) (name : Name) → IsNew t → HasMade t name → ⊥
not_begun (command.Look r) name new has = has
not_begun (command.Read s) name new has = has
not_begun (command.Make m) name new has = new
not_begun (command.Ended a) name new has = has

claim_or : (k : Made) (m : Make) (name : Name) → k ≡ m.made → m.request.name ≡ name → (make_kind k m.request.name ≡ Claim name) ⊎ HasMade (command.Make m) name
claim_or made.Nothing m name is of = inl (ap Claim of)
claim_or made.Part m name is of = inr ((λ none. (let no : made.Part ≡ made.Nothing = is ∙ none in cc)), of)
claim_or made.All m name is of = inr ((λ none. (let no : made.All ≡ made.Nothing = is ∙ none in cc)), of)

-- nothing is made before the step that claims it
pub made_by_claim : (t new : CheckoutCommand) (v w : View) (name : Name) → checkout_leaves t turn.More new v w → HasMade new name → (checkout_kind t ≡ Claim name) ⊎ HasMade t name
made_by_claim (command.Make m) (command.Make n) v w name makes has = claim_or m.made m name refl (sym (ap (λ r. r.name) makes.request) ∙ has.1)
made_by_claim (command.Read s) (command.Make n) v w name goes has = absurd (has.0 goes.1.made)
made_by_claim (command.Read s) (command.Read n) v w name goes has = absurd has
made_by_claim (command.Read s) (command.Look r) v w name goes has = absurd has
made_by_claim (command.Read s) (command.Ended a) v w name goes has = absurd has
made_by_claim (command.Make m) (command.Read n) v w name goes has = absurd has
made_by_claim (command.Make m) (command.Look r) v w name goes has = absurd has
made_by_claim (command.Make m) (command.Ended a) v w name goes has = absurd has
made_by_claim (command.Look r) (command.Make n) v w name goes has = absurd goes
made_by_claim (command.Look r) (command.Read s) v w name goes has = absurd has
made_by_claim (command.Look r) (command.Look x) v w name goes has = absurd has
made_by_claim (command.Look r) (command.Ended a) v w name goes has = absurd has
made_by_claim (command.Ended a) (command.Make n) v w name goes has = absurd goes
made_by_claim (command.Ended a) (command.Read s) v w name goes has = absurd has
made_by_claim (command.Ended a) (command.Look r) v w name goes has = absurd has
made_by_claim (command.Ended a) (command.Ended x) v w name goes has = absurd has

all_made : (m : Make) (name : Name) → m.made ≡ made.All → m.request.name ≡ name → HasMade (command.Make m) name
all_made m name all of = ((λ none. (let no : made.All ≡ made.Nothing = sym all ∙ none in cc)), of)

done_by : (t : CheckoutCommand) (v : View) (name : Name) → Tells t v.now answer.Done → HasName name (asked t) → HasMade t name
done_by (command.Make m) v name tells of = all_made m name tells of
done_by (command.Look r) v name tells of = absurd tells
done_by (command.Read s) v name tells of = absurd tells
done_by (command.Ended a) v name tells of = absurd tells

-- who answers that the folder is the tree has made it
pub done_made : (t new : CheckoutCommand) (v w : View) (name : Name) → checkout_leaves t (turn.Done tt) new v w → answer_of new ≡ Some answer.Done → HasName name (asked t) → HasMade t name
done_made t new v w name leaves is of =
    let e : Some leaves.1 ≡ Some answer.Done = sym (ap answer_of leaves.2) ∙ is in
    let same : leaves.1 ≡ answer.Done = cc in
    done_by t v name (subst (Tells t v.now) same leaves.3) of
