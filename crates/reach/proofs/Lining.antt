-- Lines of commits, and what is reachable from roots.
use Rattle.std.proofs.Common.{◌≡◌, inl, inr, ⊎_elim, ◌≤◌, ℕ, suc, List, arith, refl, sym, ap, subst}
use Rattle.ost_types.specs.declared.object.Kind.TheVariants.{Commit}
use Rattle.ost_types.specs.declared.object.ObjName.{ObjName}
use Rattle.repo_model.specs.Objects.{Store}
use Rattle.repo_model.specs.Trees.{name_of}
use Rattle.reach.specs.Reach.{ObjNames, Reach, start}
use Rattle.reach.specs.Lines.{Begins, Line, Reachable, root, parent}
use Rattle.reach.proofs.Reaching.{reach_kind, reach_stays, reach_up}

pub line_depth : (S : Store) (roots : ObjNames) (depth k : ℕ) (commit : List ℕ) → Line S roots depth k commit → k ≤ depth
line_depth S roots depth _ commit (root _ f) = omega arith
line_depth S roots depth _ commit (parent k before _ line near is) = omega (arith, near)

-- A line is one wherever its commits and its root are, to any depth that it keeps.
pub line_up : (S T : Store) (roots more : ObjNames) (depth deeper : ℕ) → ((o : ObjName) → roots o → more o) → ((o : ObjName) (b : List ℕ) → S o b → T o b) → (k : ℕ) (commit : List ℕ) → k ≤ deeper → Line S roots depth k commit → Line T more deeper k commit
line_up S T roots more depth deeper begins has _ commit within (root _ f) = root commit (begins (name_of Commit commit) f)
line_up S T roots more depth deeper begins has _ commit within (parent k before _ line near is) =
    parent k before commit (line_up S T roots more depth deeper begins has k before (omega (arith, within)) line) (omega (arith, within)) (record {
      parts = is.parts;
      has = record { bytes = is.has.bytes; stored = has (name_of Commit before) is.has.bytes is.has.stored; reads = is.has.reads };
      is = is.is;
      there = (is.there.0, has (name_of Commit commit) is.there.0 is.there.1);
    })

begins_up : (S T : Store) (roots more : ObjNames) (depth deeper : ℕ) → ((o : ObjName) → roots o → more o) → ((o : ObjName) (b : List ℕ) → S o b → T o b) → depth ≤ deeper → (o : ObjName) → Begins S roots depth o → Begins T more deeper o
begins_up S T roots more depth deeper begins has within o = ⊎_elim
    (λ f. inl (begins o f))
    (λ l. inr (l.0, l.1, line_up S T roots more depth deeper begins has l.0 l.1 (omega (arith, within, line_depth S roots depth l.0 l.1 l.2)) l.2, l.3))

-- More is reachable in a store that has more, from more roots, and to a greater depth.
pub reachable_up : (S T : Store) (roots more : ObjNames) (depth deeper : ℕ) → ((o : ObjName) → roots o → more o) → ((o : ObjName) (b : List ℕ) → S o b → T o b) → depth ≤ deeper → (o : ObjName) → Reachable S roots depth o → Reachable T more deeper o
reachable_up S T roots more depth deeper begins has within =
    reach_up S T (Begins S roots depth) (Begins T more deeper) (begins_up S T roots more depth deeper begins has within) has

-- At depth zero only the roots are begun with.
line_zero : (S : Store) (roots : ObjNames) (k : ℕ) (commit : List ℕ) → Line S roots 0 k commit → roots (name_of Commit commit)
line_zero S roots _ commit (root _ f) = f
line_zero S roots _ commit (parent k before _ line near is) = absurd (omega (arith, near))

pub reachable_zero : (S : Store) (roots : ObjNames) (o : ObjName) → Reachable S roots 0 o → Reach S roots o
reachable_zero S roots = reach_up S S (Begins S roots 0) roots (λ o. ⊎_elim (λ f. f) (λ l. subst roots (sym l.3) (line_zero S roots l.0 l.1 l.2))) (λ o b has. has)

pub reachable_roots : (S : Store) (roots : ObjNames) (depth : ℕ) (o : ObjName) → Reach S roots o → Reachable S roots depth o
reachable_roots S roots depth = reach_up S S roots (Begins S roots depth) (λ o f. inl f) (λ o b has. has)

-- The commits that are reachable are those in line.
pub line_reachable : (S : Store) (roots : ObjNames) (depth k : ℕ) (commit : List ℕ) → Line S roots depth k commit → Reachable S roots depth (name_of Commit commit)
line_reachable S roots depth k commit line = start (name_of Commit commit) (inr (k, commit, line, refl))

same_sum : (a b : List ℕ) → name_of Commit a ≡ name_of Commit b → a ≡ b
same_sum a b e = ap (λ (x : ObjName). x.csum) e

pub reachable_line : (S : Store) (roots : ObjNames) (depth : ℕ) (commit : List ℕ) → Reachable S roots depth (name_of Commit commit) → (k : ℕ) × Line S roots depth k commit
reachable_line S roots depth commit reached = ⊎_elim
    (λ begins. ⊎_elim (λ f. (0, root commit f)) (λ l. (l.0, subst (Line S roots depth l.0) (sym (same_sum commit l.1 l.3)) l.2)) begins)
    (λ other. absurd (other refl))
    (reach_kind S (Begins S roots depth) (name_of Commit commit) reached)

-- A store that lost only what isn't reachable has the same reachable names.
module _ (S T : Store) (roots : ObjNames) (depth : ℕ) (fewer : (o : ObjName) (b : List ℕ) → T o b → S o b) (kept : (o : ObjName) (b : List ℕ) → Reachable S roots depth o → S o b → T o b) where
  line_kept : (k : ℕ) (commit : List ℕ) → Line S roots depth k commit → Line T roots depth k commit
  line_kept _ commit (root _ f) = root commit f
  line_kept _ commit (parent k before _ line near is) =
      let in_line : Reachable S roots depth (name_of Commit before) = line_reachable S roots depth k before line in
      let next : Reachable S roots depth (name_of Commit commit) = line_reachable S roots depth (suc k) commit (parent k before commit line near is) in
      parent k before commit (line_kept k before line) near (record {
        parts = is.parts;
        has = record { bytes = is.has.bytes; stored = kept (name_of Commit before) is.has.bytes in_line is.has.stored; reads = is.has.reads };
        is = is.is;
        there = (is.there.0, kept (name_of Commit commit) is.there.0 next is.there.1);
      })

  pub reachable_kept : (o : ObjName) → Reachable S roots depth o → Reachable T roots depth o
  reachable_kept = reach_stays S T (Begins S roots depth) (Begins T roots depth) (λ o. ⊎_elim (λ f. inl f) (λ l. inr (l.0, l.1, line_kept l.0 l.1 l.2, l.3))) kept

  pub reachable_before : (o : ObjName) → Reachable T roots depth o → Reachable S roots depth o
  reachable_before = reachable_up T S roots roots depth depth (λ o f. f) fewer (omega arith)
