-- The name of a mark, and the commit of it.
use Rattle.std.proofs.Common.{◌≡◌, ℕ, List, ◌++◌, Option, Some, None, sym, ◌∙◌, ap}
use Rattle.std.specs.Prelude.{IfSome}
use Rattle.ost_types.specs.Csum.{hex_of}

pub named_by : (name digits text : List ℕ) (r : Option (List ℕ)) → IfSome r (λ c. hex_of c ≡ digits) → name ≡ digits ++ text → IfSome r (λ c. name ≡ hex_of c ++ text)
named_by name digits text None is e = tt
named_by name digits text (Some c) is e = e ∙ ap (λ d. d ++ text) (sym is)
