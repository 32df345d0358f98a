use Rattle.std.proofs.Common.{◌≡◌, ◌∙◌, Bool, true, false, cond, refl}
use Rattle.std.proofs.lemmas.Map.Text.{btree_set_updates_text}
use Rattle.std.specs.String.{string_bytes}
use Rattle.host_files.proofs.changed.Changed.keep.Goals as goal

either : (b x : Bool) → x ≡ true → cond b true x ≡ true
either true x e = refl
either false x e = e

pub returns-in_ok-insert-clause-keeps : goal.returns-in_ok-insert-clause-keeps
returns-in_ok-insert-clause-keeps c = record {
  notes = λ text was. btree_set_updates_text (string_bytes c.in_ok-from_str.field-0) _ _ _ c.in_ok-insert.ensures.updates text ∙ either _ _ was;
  short = λ s. s;
  lost = λ l. l;
}
