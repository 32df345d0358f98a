use Rattle.std.proofs.lemmas.List.Elements.{All-nil}
use Rattle.ost_types.specs.Text.{IsName}
use Rattle.ost_forms.proofs.OrderedNames.{ascending_none}
use Rattle.ost_forms.proofs.items.FileItems.new.Goals as goal

pub invariant_of-result : goal.invariant_of-result
invariant_of-result c = rw c.new.ensures.items (record { sums = All-nil _; names = All-nil IsName; ascending = ascending_none })
