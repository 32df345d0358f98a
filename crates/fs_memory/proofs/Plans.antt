-- The plan, an entry at a time.
use Rattle.std.proofs.Common.{◌≡◌, ◌≢◌, ℕ, zero, suc, ◌+◌, ◌<◌, ◌≤◌, List, [], ◌∷◌, length, drop, get_or, Some, None, Bool, true, false, eqb, if◌then◌else◌, refl, ◌∙◌, arith, add-one}
use Rattle.std.proofs.lemmas.Bool.Decides.{Decides-eqb}
use Rattle.std.specs.Bool.{Decides}
use Rattle.std.proofs.Math.Seq.{drop-cons}
use Rattle.fs_memory.specs.declared.plan.FailAt.{FailAt}
use Rattle.fs_memory.specs.Recorded.{planned}

module _ (fs : List FailAt) (n i : ℕ) (d : FailAt) (h : i < length fs) where
  step : planned (drop i fs) n ≡ (if eqb (get_or fs i d).call n then Some (get_or fs i d).done else planned (drop (i + 1) fs) n)
  unfolding planned
  step = let a : drop i fs ≡ get_or fs i d ∷ drop (suc i) fs = drop-cons fs i d h in rw (add-one, a) refl

  pub planned_here : (get_or fs i d).call ≡ n → planned (drop i fs) n ≡ Some (get_or fs i d).done
  planned_here e = step ∙ rw ((Decides-eqb (get_or fs i d).call n).1 e) refl

  pub planned_later : (get_or fs i d).call ≢ n → planned (drop i fs) n ≡ planned (drop (i + 1) fs) n
  planned_later apart = step ∙ go (eqb (get_or fs i d).call n) (Decides-eqb (get_or fs i d).call n)
    where
      go : (b : Bool) → Decides b ((get_or fs i d).call ≡ n) → (if b then Some (get_or fs i d).done else planned (drop (i + 1) fs) n) ≡ planned (drop (i + 1) fs) n
      go true d = absurd (apart (d.0 refl))
      go false d = refl

pub planned_none : (fs : List FailAt) (n i : ℕ) → length fs ≤ i → planned (drop i fs) n ≡ None
unfolding planned
planned_none [] n zero h = refl
planned_none [] n (suc i) h = refl
planned_none (f ∷ fs) n zero h = absurd (omega arith)
planned_none (f ∷ fs) n (suc i) h = planned_none fs n i (omega arith)
