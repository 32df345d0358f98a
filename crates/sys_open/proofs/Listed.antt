-- Calls that only read come last, and leave what was so.
use Rattle.std.proofs.Common.{◌≤◌, ℕ, sym, ◌∙◌, subst, List, Option}
use Rattle.ost_types.specs.declared.limits.Limits.{Limits}
use Rattle.ost_types.specs.declared.object.ObjName.{ObjName}
use Rattle.ost_types.specs.Path.{Name}
use Rattle.fs_trait.specs.View.{Disk, View}
use Rattle.fs_trait.specs.Image.{Told}
use Rattle.fs_trait.specs.Effect.{IsQuiet}
use Rattle.fs_trait.specs.Change.{Left}
use Rattle.boot_read.specs.declared.row.BootRow.{BootRow}
use Rattle.sys_open.specs.Opened.{AreCheckouts, IsListed, IsOpened, KeepsGood, KeepsRows}
use Rattle.sys_open.specs.Opening.{KeepsSince}

module _ (before now : ℕ) (past since : ℕ → View → Type 0) (old view : Option View) (quiet : IsQuiet before now past since old view) where
  pub told_still : (P : View → Type 0) → Told old P → Told view P
  told_still P told = subst (λ x. Told x P) (sym quiet.view) told

  pub keeps_still : (opened : ℕ) (d : Disk) → KeepsSince (Left past) opened d → KeepsSince (Left since) opened d
  keeps_still opened d keeps t e from left = keeps t e from (left.0, quiet.nothing_else t left.0 left.1, left.2)

module _ {F : Type 0} (view : F → Option View) (clock : F → ℕ) (was : F → ℕ → View → Type 0) (fs gs : F) (quiet : IsQuiet (clock fs) (clock gs) (was fs) (was gs) (view fs) (view gs)) where
  left_still : (t : ℕ) (e : Disk) → Left (was gs) t e → Left (was fs) t e
  left_still t e left = (left.0, quiet.nothing_else t left.0 left.1, left.2)

  pub opened_still : (opened : ℕ) (refs : List (List ℕ × List ℕ)) → IsOpened view clock was fs opened refs → IsOpened view clock was gs opened refs
  opened_still opened refs is = record {
    ascending = is.ascending;
    past = subst (λ t. opened ≤ t) (sym quiet.clock) is.past;
    opening = λ w now. is.opening w (sym quiet.view ∙ now);
    staging = λ w now. is.staging w (sym quiet.view ∙ now);
    left_over = λ w now. is.left_over w (sym quiet.view ∙ now);
    bounded = λ w now. is.bounded w (sym quiet.view ∙ now);
    since = λ w now t e from left. is.since w (sym quiet.view ∙ now) t e from (left_still t e left);
  }

  pub listed_still : (names : List ObjName) → IsListed view fs names → IsListed view gs names
  listed_still names is w now = is w (sym quiet.view ∙ now)

  pub good_still : (opened : ℕ) (limits : Limits) (refs : List (List ℕ × List ℕ)) → KeepsGood view was fs opened limits refs → KeepsGood view was gs opened limits refs
  good_still opened limits refs is = record {
    store = λ w now. is.store w (sym quiet.view ∙ now);
    config = λ w now. is.config w (sym quiet.view ∙ now);
    since = λ w now t e from left. is.since w (sym quiet.view ∙ now) t e from (left_still t e left);
  }

  pub rows_still : (opened : ℕ) (limits : Limits) (rows : List BootRow) → KeepsRows view was fs opened limits rows → KeepsRows view was gs opened limits rows
  rows_still opened limits rows is = record {
    now = λ w now. is.now w (sym quiet.view ∙ now);
    whole = λ w now. is.whole w (sym quiet.view ∙ now);
    since = λ w now t e from left. is.since w (sym quiet.view ∙ now) t e from (left_still t e left);
    whole_since = λ w now t e from left. is.whole_since w (sym quiet.view ∙ now) t e from (left_still t e left);
  }

  pub checkouts_still : (names : List Name) → AreCheckouts view fs names → AreCheckouts view gs names
  checkouts_still names is w now = is w (sym quiet.view ∙ now)
