use Rattle.std.proofs.Common.{◌≡◌, Bool, true, false, refl, sym, inl, inr}
use Rattle.std.specs.Prelude.{◌&&◌, not}
use Rattle.std.specs.Str.{is_utf8}
use Rattle.std.proofs.lemmas.Bool.{cases_Bool, and_left}
use Rattle.std.proofs.lemmas.Str.{is_utf8-from_IsUtf8, IsUtf8-from_is_utf8}
use Rattle.gv_core.specs.Text.{no_zero}
use Rattle.gv_core.proofs.text.is_text.Goals as goal

no_zero_then : (u n z : Bool) → u ≡ true → z ≡ not n → not z ≡ (u && n)
no_zero_then true true true e h = absurd cc
no_zero_then true true false e h = refl
no_zero_then true false true e h = refl
no_zero_then true false false e h = absurd cc
no_zero_then false n z e h = absurd cc

pub returns-in-Ok : goal.returns-in-Ok
returns-in-Ok c = no_zero_then (is_utf8 c.args.text.now) (no_zero c.args.text.now) c.has_zero.result (is_utf8-from_IsUtf8 c.args.text.now c.in-Ok.ensures.cases.1) c.has_zero.ensures

pub returns-in-Err : goal.returns-in-Err
returns-in-Err c = elim (cases_Bool (is_utf8 c.args.text.now)) [
  | inl u ↦ absurd (c.in-Err.ensures.cases.0 (IsUtf8-from_is_utf8 c.args.text.now u))
  | inr u ↦ sym (and_left (is_utf8 c.args.text.now) (no_zero c.args.text.now) u)
]
