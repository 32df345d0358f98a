use Rattle.std.proofs.Common.{inl, inr, ⊎_elim, [], ◌∷◌, ◌++◌, arith, sym}
use Rattle.std.specs.Prelude.{Contains}
use Rattle.std.proofs.lemmas.List.Elements.{Contains-append_left, Contains-push, Contains-push_cases}
use Rattle.repo_model.specs.Objects.{Stores}
use Rattle.reach.proofs.Exact.{split_step}
use Rattle.reach.proofs.pruning.removed_objects.Goals as goal

pub returns-clause-none : goal.returns-clause-none
returns-clause-none c = λ d. record {
  stays = λ o b has. has;
  either = λ o b has. inl has;
  was = λ o r. absurd (omega (arith, r.1));
  apart = λ o r has. omega (arith, r.1);
}

pub returns-clause-next : goal.returns-clause-next
returns-clause-next c = λ before old new removed one split is_in fewer either gone.
    split_step (Stores before) (Stores old) (Stores new) (Contains removed) (Contains (removed ++ one ∷ [])) one split is_in
    (λ o r. Contains-append_left removed (one ∷ []) o r) (Contains-push removed one)
    (λ o r. ⊎_elim (λ was. inl was) (λ e. inr (sym e)) (Contains-push_cases removed one o r)) fewer either gone
