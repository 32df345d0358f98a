use Rattle.std.proofs.Common.{◌≡◌, ◌≢◌, ℕ, ◌<◌, get_or}
use Rattle.boot_compare.proofs.texts.take_text.Given as goal

-- no text before this one is it
abbrev pub invariant-loop-index : goal.invariant-loop-index
invariant-loop-index l = record {
  same : l.texts.items ≡ l.fn.texts.items;
  none : (k : ℕ) → k < l.index → get_or l.fn.texts.items k l.fn.text ≢ l.fn.text;
}
