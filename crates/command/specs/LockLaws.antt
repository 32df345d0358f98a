-- What a family proves of the locks that its tasks ask for: of these alone it is known that every run ends.
use Rattle.std.proofs.Common.{◌≡◌, ◌⊎◌, inl, ◌<◌, ℕ, false, true, Option, None, sym, ◌∙◌, ap}
use Rattle.fs_trait.specs.declared.task.StepResult.TheVariants as turn
use Rattle.rely_guarantee.specs.declared.kind.Wants.{Wants}
use Rattle.rely_guarantee.specs.Laws.{Kind, Take}
use Rattle.command.specs.declared.told.Told.{Told}
use Rattle.command.specs.Doing.{Doing}
use Rattle.command.specs.Since.{Since}
use Rattle.command.specs.Tasks.{TaskSpec}

-- No lock is asked for but that of the refs, that of those that store, and, together with that of the refs, that of those that remove.
abbrev pub AsksInOrder : Wants → Type 0
AsksInOrder wants = (wants.exclusive ≡ true → wants.turn ≡ true) × (wants.sysroot ≡ false) × (wants.hold ≡ None)

-- so of a task that never asks for the lock of those that remove
pub asks_in_order : (wants : Wants) → (wants.exclusive ≡ false) × (wants.sysroot ≡ false) × (wants.hold ≡ None) → AsksInOrder wants
asks_in_order wants never = ((λ is. absurd (let z : false ≡ true = sym never.0 ∙ is in cc)), never.1, never.2)

-- no lock is asked for but that of the list of deployments
abbrev pub AsksListAlone : Wants → Type 0
AsksListAlone wants = (wants.exclusive ≡ false) × (wants.turn ≡ false) × (wants.shared ≡ false) × (wants.hold ≡ None) × (wants.pin ≡ None)

-- a step of this kind asks for the lock on the list of deployments
abbrev pub AsksList : Kind → Type 0
AsksList k = (wants : Wants) × (k ≡ Take wants) × (wants.sysroot ≡ true)

-- The lock on the list of deployments comes before all others: it is asked for by a command's first step or never, so that who has another
-- lock doesn't wait for it.
pub record LockLaws {T W A : Type 0} (k : TaskSpec T) (d : Doing T W A) : Type 0 where
  -- no step takes a lock but these
  pub asks : (since : Since) (c : W) (t : T) (wants : Wants) → d.pursues since c t → k.kind t ≡ Take wants → AsksInOrder wants ⊎ AsksListAlone wants
  pub first : (t new : T) → k.stepped t turn.More new → ¬ (AsksList (k.kind new))
  -- nor by what it is told
  pub heard : (told : Told) (t : T) → AsksList (k.kind (d.hears told t)) → AsksList (k.kind t)

-- of tasks that never work on the list
pub in_order : {T W A : Type 0} (k : TaskSpec T) (d : Doing T W A) → ((t : T) (wants : Wants) → k.kind t ≡ Take wants → AsksInOrder wants) → LockLaws k d
in_order {T} k d light = record {
  asks = λ since c t wants after is. inl (light t wants is);
  first = λ t new step asks. none new asks;
  heard = λ told t asks. absurd (none (d.hears told t) asks);
}
  where
    none : (t : T) → ¬ (AsksList (k.kind t))
    none t (wants, is, on) = let off = (light t wants is).1 in let z : false ≡ true = sym off ∙ on in cc
