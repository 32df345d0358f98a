-- What the last step leaves.
use Rattle.std.proofs.Common.{◌≡◌, ℕ, refl, sym, ◌∙◌, subst, IsSome}
use Rattle.fs_trait.specs.declared.task.StepResult.TheVariants as turn
use Rattle.fs_trait.specs.View.{View}
use Rattle.rely_guarantee.specs.Books.{Books, listed_in}
use Rattle.rely_guarantee.specs.State.{SystemState}
use Rattle.clean_command.specs.declared.command.CleanCommand.{CleanCommand}
use Rattle.clean_command.specs.Commands.{IsCleaned, clean_answer, clean_kind, clean_leaves, clean_stepped}
use Rattle.clean_command.specs.Facts.{clean_facts}
use Rattle.clean_command.proofs.Ends.{answer_of, cleaned_of}
use Rattle.command.specs.Sees.{listed_behind, same_behind}
use Rattle.clean_family.specs.Kinds.{settles_none}

pub has_answer : (t new : CleanCommand) → clean_stepped t (turn.Done tt) new → IsSome (clean_answer new)
has_answer t new step = subst IsSome (sym (answer_of t new step)) refl

module _ (p : SystemState) (lane : ℕ) (t new : CleanCommand) (v w : View) (b : Books) (f : clean_facts lane t v b) (leaves : clean_leaves t (turn.Done tt) new v w) where
  cleaned_behind : p.deployments ≡ listed_in b → IsCleaned w.now p.deployments
  cleaned_behind listed = subst (IsCleaned w.now) (sym listed) (cleaned_of lane t new v w b f leaves).1

  -- it changes nothing, so that it was so before
  pub cleaned_before : p.deployments ≡ listed_in b → IsCleaned v.now p.deployments
  cleaned_before listed = subst (λ (u : View). IsCleaned u.now p.deployments) (cleaned_of lane t new v w b f leaves).0 (cleaned_behind listed)

  -- nor does another list last from then on
  pub cleaned_remains : p.deployments ≡ listed_behind (clean_kind t) b → IsCleaned w.now p.deployments
  cleaned_remains listed = cleaned_behind (listed ∙ same_behind (clean_kind t) b (λ e kind. absurd (settles_none t e kind)))
