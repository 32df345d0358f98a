-- What the steps are to the system: the first takes the lock on the list of deployments, and each further one is quiet.
use Rattle.std.proofs.Common.{◌≡◌, ◌⊎◌, inl, inr, ⊎_elim, ℕ, refl, sym, ◌∙◌, ap, subst, None, Some}
use Rattle.ost_types.specs.declared.object.ObjName.{ObjName}
use Rattle.ost_types.specs.Path.{Name}
use Rattle.fs_trait.specs.declared.task.StepResult.TheVariants as turn
use Rattle.rely_guarantee.specs.declared.event.Event.{Event}
use Rattle.rely_guarantee.specs.declared.kind.Wants.{Wants}
use Rattle.rely_guarantee.specs.Books.{Books}
use Rattle.rely_guarantee.specs.Laws.{Kind, Quiet, Take, Claim, Publish, MakeDurable, Holds, IsMakeDurable, NotPending}
use Rattle.clean_command.specs.declared.command.CleanCommand.{CleanCommand}
use Rattle.clean_command.specs.declared.phase.Phase.{Phase}
use Rattle.clean_command.specs.declared.phase.Phase.TheVariants as phase
use Rattle.clean_command.specs.Commands.{Follows, IsNew, clean_kind, clean_stepped, clean_wants, kind_in}
use Rattle.clean_command.specs.Following.{follow_cases}
use Rattle.command.specs.LockLaws.{AsksInOrder, AsksList, AsksListAlone}
use Rattle.command.specs.Removing.{IsRemoving}

quiet_or_takes : (p : Phase) → (kind_in p ≡ Quiet) ⊎ (kind_in p ≡ Take clean_wants)
quiet_or_takes phase.Waiting = inr refl
quiet_or_takes phase.Unlearned = inl refl
quiet_or_takes (phase.Looking l) = inl refl
quiet_or_takes (phase.Cleaning c) = inl refl
quiet_or_takes phase.Over = inl refl

-- what is so of no such kind isn't of a step
module _ (t : CleanCommand) where
  never : (P : Kind → Type 0) → ¬ (P Quiet) → ¬ (P (Take clean_wants)) → ¬ (P (clean_kind t))
  never P quiet takes is = ⊎_elim (λ e. quiet (subst P e is)) (λ e. takes (subst P e is)) (quiet_or_takes t.phase)

  pub publishes_none : (e : Event) → clean_kind t ≡ Publish e → ⊥
  publishes_none e = never (λ k. k ≡ Publish e) (λ no. cc) (λ no. cc)

  pub settles_none : (e : Event) → clean_kind t ≡ MakeDurable e → ⊥
  settles_none e = never (λ k. k ≡ MakeDurable e) (λ no. cc) (λ no. cc)

  pub never_settles : ¬ (IsMakeDurable (clean_kind t))
  never_settles = never IsMakeDurable (λ no. no) (λ no. no)

  pub never_removes : ¬ (IsRemoving (clean_kind t))
  never_removes = never IsRemoving (λ no. no) (λ no. no)

  pub claims_none : (name : Name) → clean_kind t ≡ Claim name → ⊥
  claims_none name = never (λ k. k ≡ Claim name) (λ no. cc) (λ no. cc)

  -- ---- the lock

  wants_list : (wants : Wants) → clean_kind t ≡ Take wants → clean_wants ≡ wants
  wants_list wants is = ⊎_elim
      (λ quiet. absurd (let no : Quiet ≡ Take wants = sym quiet ∙ is in cc))
      (λ takes. let same : Take clean_wants ≡ Take wants = sym takes ∙ is in cc)
      (quiet_or_takes t.phase)

  pub asks_list_alone : (wants : Wants) → clean_kind t ≡ Take wants → AsksInOrder wants ⊎ AsksListAlone wants
  asks_list_alone wants is = inr (subst AsksListAlone (wants_list wants is) (refl, refl, refl, refl, refl))

  pub pins_none : (wants : Wants) (name : ObjName) → clean_kind t ≡ Take wants → wants.pin ≡ Some name → ⊥
  pins_none wants name is pin = let no : None ≡ Some name = ap (λ (x : Wants). x.pin) (wants_list wants is) ∙ pin in cc

pub begun_holds : (lane : ℕ) (t : CleanCommand) (b : Books) → IsNew t → NotPending lane b → Holds (clean_kind t) lane b
begun_holds lane t b new none = subst (λ p. Holds (kind_in p) lane b) (sym new) none

-- each step behind the first is quiet
quiet_behind : (p n : Phase) → Follows p n → kind_in n ≡ Quiet
quiet_behind = follow_cases (λ p n. kind_in n ≡ Quiet) refl (λ l n is. refl) (λ c n step. refl)

pub asks_first : (t new : CleanCommand) → clean_stepped t turn.More new → ¬ (AsksList (clean_kind new))
asks_first t new step (wants, is, on) = let no : Quiet ≡ Take wants = sym (quiet_behind t.phase new.phase step.1) ∙ is in cc
