-- Of the record's moments.
use Rattle.std.specs.Prelude.{◌≡◌, ◌≤◌, ◌+◌, ◌-◌, ℕ, List, [], ◌∷◌, length, take, Some, refl}
use Rattle.std.proofs.Common.{sym, ◌∙◌, ap, subst, arith}
use Rattle.fs_trait.specs.View.{View}
use Rattle.fs_trait.specs.Image.{IsTree, Told}
use Rattle.memory_record.specs.declared.change.Change.{Change}
use Rattle.memory_record.specs.Changes.{view_of, Was, SoundSince}

pub take_whole : (cs : List Change) → take (length cs) cs ≡ cs
take_whole [] = refl
take_whole (c ∷ cs) = ap (λ l. c ∷ l) (take_whole cs)

pub was_now : (base : ℕ) (cs : List Change) (t : ℕ) (v : View) → base ≤ length cs → t ≤ length cs - base → Some (view_of cs) ≡ Some v → Was cs (base + t) v
was_now base cs t v begun le is = record { moment = length cs; since = omega (arith, begun, le); until = omega arith; is = let e : view_of cs ≡ v = cc in sym e ∙ ap view_of (sym (take_whole cs)) }

pub was_only_now : (base : ℕ) (cs : List Change) (t : ℕ) (v : View) → base ≤ length cs → length cs - base ≤ t → Was cs (base + t) v → Some (view_of cs) ≡ Some v
was_only_now base cs t v begun le w =
    let m : w.moment ≡ length cs = let s = w.since in let u = w.until in omega (arith, begun, le, s, u) in
    ap Some (sym (w.is ∙ ap (λ k. view_of (take k cs)) m ∙ ap view_of (take_whole cs)))

pub was_bound : (base : ℕ) (cs : List Change) (t : ℕ) (v : View) → Was cs (base + t) v → t ≤ length cs - base
was_bound base cs t v w = let s = w.since in let u = w.until in omega (arith, s, u)

pub told_tree : (base : ℕ) (cs : List Change) (v : View) → base ≤ length cs → SoundSince base cs → Some (view_of cs) ≡ Some v → IsTree v.now
told_tree base cs v begun sound is =
    let e : view_of cs ≡ v = cc in
    subst (λ (w : View). IsTree w.now) (ap view_of (take_whole cs) ∙ e) (sound (length cs) begun (omega arith)).tree

pub told_always : (cs : List Change) → Told (Some (view_of cs)) (λ w. Unit {0})
told_always cs = (view_of cs, refl, tt)
