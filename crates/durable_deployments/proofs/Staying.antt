-- Runs of acts: on each disk that a crash left the deployments are whole.
use Rattle.std.proofs.Common.{◌≡◌, ⊎_elim, ℕ, ◌≤◌, sym, ◌∙◌, subst, arith, List, Option, Some}
use Rattle.ost_types.specs.declared.limits.Limits.{Limits}
use Rattle.fs_trait.specs.View.{Disk, View}
use Rattle.fs_trait.specs.Image.{Image, IsTree}
use Rattle.fs_trait.specs.Effect.{Elapses}
use Rattle.fs_trait.proofs.Claims.{passes}
use Rattle.boot_read.specs.declared.row.BootRow.{BootRow}
use Rattle.durable_deployments.specs.Standing.{AreSpared, AreStanding, AreWhole, KeepsDeployments}
use Rattle.durable_deployments.proofs.Standing.{stands_left, stands_on}

pub all_left : (limits : Limits) (rows : List BootRow) (v : View) (d : Disk) → IsTree v.now → AreStanding limits rows v → Image v d → AreWhole limits d rows
all_left limits rows v d tree stand i row among = stands_left limits v d row.id row.bootcsum tree (stand row among) i

pub all_on : (limits : Limits) (rows : List BootRow) (v w : View) → AreSpared rows v w → AreStanding limits rows v → AreStanding limits rows w
all_on limits rows v w spared stand row among = stands_on limits v w row.id row.bootcsum (spared row among) (stand row among)

module _ {F : Type 0} (view : F → Option View) (clock : F → ℕ) (was : F → ℕ → View → Type 0) (only_now : (fs : F) (t : ℕ) (v : View) → clock fs ≤ t → was fs t v → view fs ≡ Some v)
    (tree : (fs : F) (v : View) → view fs ≡ Some v → IsTree v.now) where
  same_told : (fs : F) (u v : View) → view fs ≡ Some u → view fs ≡ Some v → u ≡ v
  same_told fs u v is told = let e : Some u ≡ Some v = sym is ∙ told in cc

  -- from now on
  pub deployments_begin : (limits : Limits) (rows : List BootRow) (fs : F) (v : View) (moment : ℕ) → view fs ≡ Some v → clock fs ≤ moment → AreStanding limits rows v → KeepsDeployments (was fs) limits rows moment v
  deployments_begin limits rows fs v moment told late stand = record {
    stands = stand;
    since = λ t d from left.
        let is = same_told fs left.0 v (only_now fs t left.0 (omega (arith, late, from)) left.1) told in
        all_left limits rows v d (tree fs v told) stand (subst (λ u. Image u d) is left.2);
  }

  -- over one act
  pub deployments_on : (limits : Limits) (rows : List BootRow) (old new : F) (v w : View) (moment : ℕ) → view new ≡ Some w → Elapses (clock old) (clock new) (was old) (was new) (view new) → AreSpared rows v w
      → KeepsDeployments (was old) limits rows moment v → KeepsDeployments (was new) limits rows moment w
  deployments_on limits rows old new v w moment told time spared keeps =
      let stand = all_on limits rows v w spared keeps.stands in
      record {
        stands = stand;
        since = λ t d from left. ⊎_elim
            (λ before. keeps.since t d from before)
            (λ here. all_left limits rows w d (tree new w told) stand (subst (λ u. Image u d) (same_told new here.0 w here.1 told) here.2))
            ((passes (clock old) (clock new) (was old) (was new) (view new) (only_now new) time).nothing_else t d left);
      }
