-- Acts one after the other.
use Rattle.std.proofs.Common.{◌≡◌, ◌⊎◌, inl, inr, ◌+◌, ◌<◌, ℕ, zero, suc, List, [], ◌∷◌, ◌++◌, length, take, get_or, refl, sym, ◌∙◌, ap, subst, arith, append_assoc}
use Rattle.std.proofs.lemmas.List.{append-nil, take_more}
use Rattle.std.specs.List.{repeat}
use Rattle.command.specs.Meaning.{Meaning}
use Rattle.schedule.specs.Schedule.{acts_of}
use Rattle.schedule.specs.declared.turns.Turns.{Turns}
use Rattle.lane_system.specs.declared.ask.Ask.{Ask}
use Rattle.lane_system.specs.declared.ask.Ask.TheVariants.{Blocked, Ended}
use Rattle.lane_system.specs.Booked.{HasCommand}
use Rattle.lane_system.specs.Family.{Family, FsSpec}
use Rattle.lane_system.specs.System.{System}
use Rattle.lane_system.proofs.Chaining.{later_refl, later_then, preserves_nothing, preserves_then}
use Rattle.lane_system.proofs.Family.{FsLaws}
use Rattle.schedule_run.specs.Driven.{ActsAs, ActsOf, Driven}

repeat_add : (m n : ℕ) (xs : List ℕ) → repeat (m + n) xs ≡ repeat m xs ++ repeat n xs
repeat_add zero n xs = ap (λ k. repeat k xs) (omega arith)
repeat_add (suc m) n xs =
    let e : suc m + n ≡ suc (m + n) = omega arith in
    ap (λ k. repeat k xs) e ∙ ap (λ t. xs ++ t) (repeat_add m n xs) ∙ sym (assoc xs (repeat m xs) (repeat n xs))
  where
    assoc : (a b c : List ℕ) → (a ++ b) ++ c ≡ a ++ (b ++ c)
    assoc a b c = simp append_assoc

acts_push : (turns : List Turns) (t : Turns) → acts_of (turns ++ t ∷ []) ≡ acts_of turns ++ repeat t.count (t.actor ∷ [])
acts_push [] t = append-nil (repeat t.count (t.actor ∷ []))
acts_push (u ∷ turns) t = ap (λ x. repeat u.count (u.actor ∷ []) ++ x) (acts_push turns t) ∙ sym (assoc (repeat u.count (u.actor ∷ [])) (acts_of turns) (repeat t.count (t.actor ∷ [])))
  where
    assoc : (a b c : List ℕ) → (a ++ b) ++ c ≡ a ++ (b ++ c)
    assoc a b c = simp append_assoc

module _ {F T W A : Type 0} (f : FsSpec F) (c : Family T W A) (laws : FsLaws f) where
  pub driven_nothing : (s : System F T W A) → Driven f c s s
  driven_nothing s = record {
    commands = refl;
    later = later_refl s;
    preserves = preserves_nothing f c laws s;
  }

  pub driven_then : (a b e : System F T W A) → Driven f c a b → Driven f c b e → Driven f c a e
  driven_then a b e i d = record {
    commands = d.commands ∙ i.commands;
    later = later_then a b e i.later d.later;
    preserves = preserves_then f c laws a b e i.preserves d.preserves;
  }

module _ {F T W A : Type 0} (f : FsSpec F) (m : Meaning W A) where
  -- acts behind acts
  pub acts_then : (xs ys : List ℕ) (a b e : System F T W A) → ActsOf f m xs a b → ActsOf f m ys b e → ActsOf f m (xs ++ ys) a e
  acts_then [] ys a b e first second = subst (λ s. ActsOf f m ys s e) first second
  acts_then (x ∷ xs) ys a b e (next, ask, acted, first) second = (next, ask, acted, acts_then xs ys next b e first second)

  -- an actor that did nothing does nothing again
  stays : (s : System F T W A) (actor : ℕ) (ask : Ask) → ActsAs f m s s actor ask → (n : ℕ) → ActsOf f m (repeat n (actor ∷ [])) s s
  stays s actor ask acted zero = refl
  stays s actor ask acted (suc n) = (s, ask, acted, stays s actor ask acted n)

  blocked_again : (old new : System F T W A) (actor : ℕ) (ask : Ask) → (ask ≡ Blocked) ⊎ (ask ≡ Ended) → ActsAs f m old new actor ask → ActsAs f m new new actor ask
  blocked_again old new actor ask (inl is) acted =
      let there = subst (λ k. ActsAs f m old new actor k) is acted in
      subst (λ k. ActsAs f m new new actor k) (sym is) (subst (λ s. HasCommand s actor) (sym there.1) there.0, refl)
  blocked_again old new actor ask (inr is) acted =
      let there = subst (λ k. ActsAs f m old new actor k) is acted in
      subst (λ k. ActsAs f m new new actor k) (sym is) (subst (λ s. ¬ (HasCommand s actor)) (sym there.1) there.0, refl)

  -- one act more
  pub one_more : (old mid new : System F T W A) (actor : ℕ) (ask : Ask) (n : ℕ) → ActsOf f m (repeat n (actor ∷ [])) old mid → ActsAs f m mid new actor ask → ActsOf f m (repeat (n + 1) (actor ∷ [])) old new
  one_more old mid new actor ask n so acted =
      subst (λ t. ActsOf f m t old new) (sym (repeat_add n 1 (actor ∷ []))) (acts_then (repeat n (actor ∷ [])) (repeat 1 (actor ∷ [])) old mid new so (new, ask, acted, refl))

  -- an act that did nothing stands for all that are left
  pub all_more : (old mid new : System F T W A) (actor : ℕ) (ask : Ask) (n count left : ℕ) → count ≡ n + 1 + left → ActsOf f m (repeat n (actor ∷ [])) old mid
      → ActsAs f m mid new actor ask → (ask ≡ Blocked) ⊎ (ask ≡ Ended) → ActsOf f m (repeat count (actor ∷ [])) old new
  all_more old mid new actor ask n count left are so acted rests =
      subst (λ k. ActsOf f m (repeat k (actor ∷ [])) old new) (sym are)
      (subst (λ t. ActsOf f m t old new) (sym (repeat_add (n + 1) left (actor ∷ [])))
      (acts_then (repeat (n + 1) (actor ∷ [])) (repeat left (actor ∷ [])) old new new (one_more old mid new actor ask n so acted) (stays new actor ask (blocked_again mid new actor ask rests acted) left)))

  -- the turns at the next place
  pub follow_more : (schedule : List Turns) (i : ℕ) (t : Turns) (old mid new : System F T W A) → i < length schedule → t ≡ get_or schedule i t → ActsOf f m (acts_of (take i schedule)) old mid
      → ActsOf f m (repeat t.count (t.actor ∷ [])) mid new → ActsOf f m (acts_of (take (i + 1) schedule)) old new
  follow_more schedule i t old mid new less is so more =
      subst (λ x. ActsOf f m x old new) (sym (ap acts_of (take_more schedule i t less ∙ ap (λ u. take i schedule ++ u ∷ []) (sym is)) ∙ acts_push (take i schedule) t))
      (acts_then (acts_of (take i schedule)) (repeat t.count (t.actor ∷ [])) old mid new so more)
