use Rattle.std.proofs.Common.{◌≡◌, ◌∙◌, sym, Bool, true, false, cond, refl}
use Rattle.std.proofs.lemmas.Map.Text.{btree_set_updates_text}
use Rattle.std.proofs.lemmas.Slice.Eq.{bytes_eq-Decides}
use Rattle.host_files.proofs.changed.Changed.forget.Goals as goal

-- what is there no more was the one that was taken out
taken : (b x n : Bool) → n ≡ cond b false x → x ≡ true → n ≡ false → b ≡ true
taken true x n e t f = refl
taken false x n e t f = let never : false ≡ true = sym f ∙ e ∙ t in cc

pub returns-clause-only : goal.returns-clause-only
returns-clause-only c = record {
  gone = c.remove.ensures.updates.1;
  others = λ other was now.
      sym ((bytes_eq-Decides c.args.text.now other).0 (taken _ _ _ (btree_set_updates_text c.args.text.now _ _ _ c.remove.ensures.updates other) was now));
}
