-- How a removal begins, what it is told, and how it ends.
use Rattle.std.specs.Global.{Vec}
use Rattle.std.proofs.Common.{◌≡◌, ◌⊎◌, inl, inr, ⊎_elim, ◌<◌, ℕ, suc, List, Some, refl, sym, ◌∙◌, ap, subst, arith}
use Rattle.fs_trait.specs.declared.task.StepResult.TheVariants as turn
use Rattle.fs_trait.specs.View.{View}
use Rattle.boot_model.specs.declared.item.DepId.{DepId}
use Rattle.deploy_clean.specs.Unlisted.{IsClean}
use Rattle.durable_deployments.specs.Bounds.{AreBounded}
use Rattle.rely_guarantee.specs.Books.{Books, listed_in}
use Rattle.clean_command.specs.declared.answer.CleanAnswer.TheVariants.{Cleaned}
use Rattle.clean_command.specs.declared.command.CleanCommand.{CleanCommand}
use Rattle.clean_command.specs.declared.phase.Phase.{Phase}
use Rattle.clean_command.specs.declared.phase.Phase.TheVariants as phase
use Rattle.clean_command.specs.Commands.{Follows, IsCleaned, IsNew, Learns, Tells, clean_answer, clean_kind, clean_leaves, clean_left, clean_stepped, kind_in, left_in}
use Rattle.clean_command.specs.Facts.{Facts, KnownIn}
use Rattle.clean_command.specs.Following.{follow_cases}

pub begins_of : (lane : ℕ) (t : CleanCommand) (v : View) (b : Books) → IsNew t → t.lane ≡ lane → Facts lane t v b
begins_of lane t v b new mine = record { mine = mine; known = subst (λ p. KnownIn p lane v b) (sym new) tt }

-- ---- what it is told

-- it waited for it, and has a copy of it
record HasLearnt (ids : List DepId) (t new : CleanCommand) : Type 0 where
  waited : t.phase ≡ phase.Unlearned
  copy : Vec DepId
  whole : copy.items ≡ ids
  next : new ≡ record t { phase = phase.Looking copy }

learns_or_not : (ids : List DepId) (t new : CleanCommand) (p : Phase) → t.phase ≡ p → Learns ids t p new → (new ≡ t) ⊎ HasLearnt ids t new
learns_or_not ids t new phase.Unlearned is learns = ⊎_elim
    (λ same. inl same)
    (λ told. inr (record { waited = is; copy = told.0; whole = told.1; next = told.2 }))
    learns
learns_or_not ids t new phase.Waiting is learns = inl learns
learns_or_not ids t new (phase.Looking l) is learns = inl learns
learns_or_not ids t new (phase.Cleaning c) is learns = inl learns
learns_or_not ids t new phase.Over is learns = inl learns

pub learnt : (ids : List DepId) (t new : CleanCommand) (l : Vec DepId) → t.phase ≡ phase.Unlearned → l.items ≡ ids → new ≡ record t { phase = phase.Looking l } → Learns ids t t.phase new
learnt ids t new l waits whole next = subst (λ p. Learns ids t p new) (sym waits) (inr (l, whole, next))

module _ (ids : List DepId) (t new : CleanCommand) (learns : Learns ids t t.phase new) where
  told : (new ≡ t) ⊎ HasLearnt ids t new
  told = learns_or_not ids t new t.phase refl learns

  pub learn_kind : clean_kind new ≡ clean_kind t
  learn_kind = ⊎_elim (λ same. ap clean_kind same) (λ has. ap clean_kind has.next ∙ sym (ap kind_in has.waited)) told

  pub learn_left : clean_left new ≡ clean_left t
  learn_left = ⊎_elim (λ same. ap clean_left same) (λ has. ap clean_left has.next ∙ sym (ap (λ p. left_in p t.room) has.waited)) told

  pub learn_facts : (lane : ℕ) (v : View) (b : Books) → listed_in b ≡ ids → AreBounded v → Facts lane t v b → Facts lane new v b
  learn_facts lane v b listed bounded f = ⊎_elim
      (λ same. subst (λ x. Facts lane x v b) (sym same) f)
      (λ has. subst (λ x. Facts lane x v b) (sym has.next) (record {
        mine = f.mine;
        known = record { sysroot = subst (λ p. KnownIn p lane v b) has.waited f.known; listed = listed ∙ sym has.whole; bounded = bounded };
      }))
      told

-- ---- its steps, and its end

fewer_left : (room rest : ℕ) → room ≡ suc rest → (p n : Phase) → Follows p n → left_in n rest < left_in p room
fewer_left room rest one = follow_cases (λ p n. left_in n rest < left_in p room) (omega (arith, one)) (λ l n is. omega (arith, one)) (λ c n step. omega (arith, one))

pub falls_of : (t new : CleanCommand) → clean_stepped t turn.More new → clean_left new < clean_left t
falls_of t new step = fewer_left t.room new.room step.2 t.phase new.phase step.1

pub answer_of : (t new : CleanCommand) → clean_stepped t (turn.Done tt) new → clean_answer new ≡ Some Cleaned
answer_of t new step = ap clean_answer step.0

tells_in : (p : Phase) (lane : ℕ) (v w : View) (b : Books) → KnownIn p lane v b → Tells p v w → (w ≡ v) × IsCleaned w.now (listed_in b)
tells_in (phase.Looking l) lane v w b known tells = (tells.0, inl tells.1)
tells_in (phase.Cleaning c) lane v w b known tells = (tells.0, inr (subst (IsClean w.now) (sym known.listed) tells.1))
tells_in phase.Waiting lane v w b known tells = absurd tells
tells_in phase.Unlearned lane v w b known tells = absurd tells
tells_in phase.Over lane v w b known tells = absurd tells

pub cleaned_of : (lane : ℕ) (t new : CleanCommand) (v w : View) (b : Books) → Facts lane t v b → clean_leaves t (turn.Done tt) new v w → (w ≡ v) × IsCleaned w.now (listed_in b)
cleaned_of lane t new v w b f leaves = tells_in t.phase lane v w b f.known leaves.1
