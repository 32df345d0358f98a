-- How the reachable objects are found: at the beginning, where one is looked into, and at the end.
use Rattle.std.proofs.Common.{◌≡◌, ◌⊎◌, inl, inr, ⊎_elim, ℕ, ◌≤◌, List, arith, sym, subst}
use Rattle.ost_types.specs.declared.object.Kind.TheVariants.{Commit}
use Rattle.ost_types.specs.declared.object.ObjName.{ObjName}
use Rattle.repo_model.specs.Objects.{Store}
use Rattle.repo_model.specs.Trees.{name_of}
use Rattle.reach.specs.Reach.{ObjNames, IsIn, Refers, start, onward}
use Rattle.reach.specs.Lines.{IsParent, Line, Reachable, root, parent}
use Rattle.reach.specs.Marking.{AreDoomed, Distances, LooksInto, LooksUp, Marks, Nears}
use Rattle.reach.specs.Removed.{IsPruned, IsSplit}
use Rattle.reach.proofs.Reaching.{refers_in}

-- ---- commits by their distance

-- At the beginning the roots that are there were found, and all wait.
pub nears_begin : (S : Store) (roots : ObjNames) (depth : ℕ) (found waiting : Distances)
    → ((k : ℕ) (commit : List ℕ) → found k commit → (k ≡ 0) × roots (name_of Commit commit))
    → ((commit : List ℕ) → roots (name_of Commit commit) → IsIn S (name_of Commit commit) → found 0 commit)
    → ((k : ℕ) (commit : List ℕ) → found k commit → waiting k commit) → Nears S roots depth found waiting
nears_begin S roots depth found waiting are all waits = record {
  right = λ k commit is. let w = are k commit is in subst (λ i. Line S roots depth i commit) (sym w.0) (root commit w.1);
  near = all;
  onward = λ k commit next is less of. inl (waits k commit is);
}

pub nears_step : (S : Store) (roots : ObjNames) (depth k : ℕ) (commit : List ℕ) (found waiting found' waiting' : Distances) → Nears S roots depth found waiting → LooksUp S depth k commit found waiting found' waiting' → Nears S roots depth found' waiting'
nears_step S roots depth k commit found waiting found' waiting' n l = record {
  right = λ j c is. ⊎_elim (n.right j c) (λ w. subst (λ i. Line S roots depth i c) (sym w.0) (parent k commit c (n.right k commit l.was) w.1 w.2)) (l.new j c is);
  near = λ c f there. l.stays 0 c (n.near c f there);
  onward = λ j c next is less of. ⊎_elim
      (λ old. ⊎_elim
      (λ waited. ⊎_elim
      (λ e. let w = l.all next (omega (arith, e.0, less)) (subst (λ x. IsParent S x next) e.1 of) in inr (w.0, omega (arith, e.0, w.1), w.2))
      (λ w. inl w)
      (l.waits j c waited))
      (λ w. inr (w.0, w.1, l.stays w.0 next w.2))
      (n.onward j c next old less of))
      (λ w. inl w)
      (l.later j c is less);
}

-- Where none waits that is nearer than the depth, each that is in line was found, no further away.
pub line_found : (S : Store) (roots : ObjNames) (depth : ℕ) (found waiting : Distances) → Nears S roots depth found waiting → ((k : ℕ) (commit : List ℕ) → waiting k commit → depth ≤ k)
    → (k : ℕ) (commit : List ℕ) → Line S roots depth k commit → IsIn S (name_of Commit commit) → (j : ℕ) × (j ≤ k) × found j commit
line_found S roots depth found waiting n none _ commit (root _ f) is_in = (0, omega arith, n.near commit f is_in)
line_found S roots depth found waiting n none _ commit (parent k before _ line near is) is_in =
    let at = line_found S roots depth found waiting n none k before line (is.has.bytes, is.has.stored) in
    ⊎_elim
    (λ waits. absurd (omega (arith, at.1, near, none at.0 before waits)))
    (λ next. (next.0, omega (arith, at.1, next.1), next.2))
    (n.onward at.0 before commit at.2 (omega (arith, at.1, near)) is)

-- ---- all that is named

-- Then the roots that are there and the commits that were found are marked, and each of them that names something waits.
pub marks_begin : (S : Store) (roots : ObjNames) (depth : ℕ) (found waiting : Distances) (marked later : ObjNames) → Nears S roots depth found waiting → ((k : ℕ) (commit : List ℕ) → waiting k commit → depth ≤ k)
    → ((o : ObjName) → marked o → roots o ⊎ ((k : ℕ) × (commit : List ℕ) × found k commit × (o ≡ name_of Commit commit)))
    → ((o : ObjName) → roots o → IsIn S o → marked o) → ((k : ℕ) (commit : List ℕ) → found k commit → marked (name_of Commit commit))
    → ((o next : ObjName) → marked o → Refers S o next → later o) → Marks S roots depth marked later
marks_begin S roots depth found waiting marked later n none are all_roots all_found waits = record {
  right = λ o is. ⊎_elim (λ f. start o (inl f)) (λ w. start o (inr (w.0, w.1, n.right w.0 w.1 w.2, w.3))) (are o is);
  begins = λ o b there. ⊎_elim
      (λ f. all_roots o f there)
      (λ w. let at = line_found S roots depth found waiting n none w.0 w.1 w.2 (subst (IsIn S) w.3 there) in subst marked (sym w.3) (all_found at.0 w.1 at.2))
      b;
  onward = λ o next is refers there. inl (waits o next is refers);
}

pub marks_step : (S : Store) (roots : ObjNames) (depth : ℕ) (marked waiting marked' waiting' : ObjNames) (o : ObjName) → Marks S roots depth marked waiting → LooksInto S o marked waiting marked' waiting' → Marks S roots depth marked' waiting'
marks_step S roots depth marked waiting marked' waiting' o m l = record {
  right = λ x is. ⊎_elim (m.right x) (λ refers. onward o x (m.right o l.was) refers) (l.new x is);
  begins = λ x b is. l.stays x (m.begins x b is);
  onward = λ x next is refers there. ⊎_elim
      (λ old. ⊎_elim
      (λ waited. ⊎_elim (λ e. inr (l.all next (subst (λ (y : ObjName). Refers S y next) e refers) there)) (λ w. inl w) (l.waits x waited))
      (λ k. inr (l.stays next k))
      (m.onward x next old refers there))
      (λ w. inl w)
      (l.later x next is refers);
}

-- Where nothing waits, what is marked is what of the reachable stands in the store.
pub marked_all : (S : Store) (roots : ObjNames) (depth : ℕ) (marked waiting : ObjNames) → Marks S roots depth marked waiting → ((o : ObjName) → waiting o → ⊥) → (o : ObjName) → Reachable S roots depth o → IsIn S o → marked o
marked_all S roots depth marked waiting m none o (start _ f) is_in = m.begins o f is_in
marked_all S roots depth marked waiting m none o (onward p _ reached refers) is_in =
    ⊎_elim (λ waits. absurd (none p waits)) (λ k. k) (m.onward p o (marked_all S roots depth marked waiting m none p reached (refers_in S p o refers)) refers is_in)

-- What of the store isn't marked then is to be removed. The rest has the roots and all that it names, names of absent objects too.
module _ (S : Store) (roots : ObjNames) (depth : ℕ) (marked waiting : ObjNames) (m : Marks S roots depth marked waiting) (none : (o : ObjName) → waiting o → ⊥) (doomed : ObjNames) (are : AreDoomed S marked doomed) where
  pub doomed_out : (o : ObjName) → doomed o → Reachable S roots depth o → ⊥
  doomed_out o d reached = (are.each o d).1 (marked_all S roots depth marked waiting m none o reached (are.each o d).0)

  pub roots_stay : (o : ObjName) → roots o → doomed o → ⊥
  roots_stay o f d = doomed_out o d (start o (inl f))

  pub kept_closed : (o next : ObjName) → (doomed o → ⊥) → Refers S o next → doomed next → ⊥
  kept_closed o next not refers d =
      let here : marked o = ⊎_elim (λ k. k) (λ x. absurd (not x)) (are.all o (refers_in S o next refers)) in
      (are.each next d).1 (⊎_elim (λ waits. absurd (none o waits)) (λ k. k) (m.onward o next here refers (are.each next d).0))

  -- Once it is gone, exactly what wasn't reachable is.
  pub pruned_from : (now : Store) → IsSplit S now doomed → IsPruned S now roots depth doomed
  pruned_from now split = record {
    split = split;
    only = doomed_out;
    all = λ o has. ⊎_elim (λ k. inl (m.right o k)) (λ d. inr d) (are.all o has);
  }
