-- Calls that change nothing, one after another.
use Rattle.std.proofs.Common.{◌≡◌, ℕ, ◌∙◌, refl, Option}
use Rattle.fs_trait.specs.View.{View}
use Rattle.fs_trait.specs.Effect.{IsQuiet}

pub IsQuiet-refl : (clock : ℕ) (past : ℕ → View → Type 0) (view : Option View) → IsQuiet clock clock past past view view
IsQuiet-refl clock past view = record { view = refl; clock = refl; nothing_else = λ t w is. is; keeps = λ t w is. is }

pub IsQuiet-trans : (a b c : ℕ) (past then since : ℕ → View → Type 0) (first second third : Option View)
    → IsQuiet a b past then first second → IsQuiet b c then since second third → IsQuiet a c past since first third
IsQuiet-trans a b c past then since first second third p q = record {
  view = q.view ∙ p.view;
  clock = q.clock ∙ p.clock;
  nothing_else = λ t w is. p.nothing_else t w (q.nothing_else t w is);
  keeps = λ t w is. q.keeps t w (p.keeps t w is);
}
