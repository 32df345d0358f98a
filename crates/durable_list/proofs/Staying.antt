-- Runs of acts: each disk that a crash left has the list.
use Rattle.std.proofs.Common.{◌≡◌, ⊎_elim, ℕ, ◌≤◌, sym, ◌∙◌, subst, arith, List, Option, Some}
use Rattle.fs_trait.specs.View.{View}
use Rattle.fs_trait.specs.Image.{Image, IsTree}
use Rattle.fs_trait.specs.Effect.{Elapses}
use Rattle.fs_trait.proofs.Claims.{passes}
use Rattle.boot_read.specs.declared.row.BootRow.{BootRow}
use Rattle.durable_list.specs.Standing.{KeepsList, ListStands, SparesList}
use Rattle.durable_list.proofs.Standing.{stands_left, stands_on}

module _ {F : Type 0} (view : F → Option View) (clock : F → ℕ) (was : F → ℕ → View → Type 0) (only_now : (fs : F) (t : ℕ) (v : View) → clock fs ≤ t → was fs t v → view fs ≡ Some v)
    (tree : (fs : F) (v : View) → view fs ≡ Some v → IsTree v.now) where
  same_told : (fs : F) (u v : View) → view fs ≡ Some u → view fs ≡ Some v → u ≡ v
  same_told fs u v is told = let e : Some u ≡ Some v = sym is ∙ told in cc

  -- from now on
  pub list_begins : (rows : List BootRow) (fs : F) (v : View) (moment : ℕ) → view fs ≡ Some v → clock fs ≤ moment → ListStands rows v → KeepsList (was fs) rows moment v
  list_begins rows fs v moment told late stands = record {
    stands = stands;
    since = λ t d from left.
        let is = same_told fs left.0 v (only_now fs t left.0 (omega (arith, late, from)) left.1) told in
        stands_left v d (tree fs v told) (subst (λ u. Image u d) is left.2) rows stands;
  }

  -- over one act
  pub list_on : (rows : List BootRow) (old new : F) (v w : View) (moment : ℕ) → view new ≡ Some w → Elapses (clock old) (clock new) (was old) (was new) (view new) → SparesList v.now rows v w
      → KeepsList (was old) rows moment v → KeepsList (was new) rows moment w
  list_on rows old new v w moment told time spares keeps = record {
    stands = stands_on rows v w spares keeps.stands;
    since = λ t d from left. ⊎_elim
        (λ before. keeps.since t d from before)
        (λ here. stands_left w d (tree new w told) (subst (λ u. Image u d) (same_told new here.0 w here.1 told) here.2) rows (stands_on rows v w spares keeps.stands))
        ((passes (clock old) (clock new) (was old) (was new) (view new) (only_now new) time).nothing_else t d left);
  }
