use Rattle.std.proofs.Common.{◌∙◌, inl, subst}
use Rattle.boot_read.specs.Steps.{IsSelected}
use Rattle.boot_read.proofs.list.read_list.Goals as goal

pub returns-in-None-clause-told : goal.returns-in-None-clause-told
returns-in-None-clause-told g c = λ v told. inl (subst (IsSelected v.now) c.in-None.is (c.in_ok-selected.ensures.told v told), c.new.ensures.items)

pub returns-in-Some-clause-told : goal.returns-in-Some-clause-told
returns-in-Some-clause-told g c = λ v told. c.rows_of.ensures.told v (c.selected.ensures.quiet.view ∙ told) (subst (IsSelected v.now) c.in-Some.is (c.in_ok-selected.ensures.told v told))
