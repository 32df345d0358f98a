use Rattle.std.proofs.Common.{refl, ap, length, ◌-◌}
use Rattle.memory_table.proofs.Splitting.{name_text}
use Rattle.memory_table.proofs.parts.split.Goals as goal

pub returns-clause-some : goal.returns-clause-some
returns-clause-some c = λ f x names is.
    let e = c.folder_of-folder.ensures.value f x names is in
    (e, name_text c.args.text.now f x names is (length c.folder_of-folder.result.now) (length c.args.text.now - 1) (ap length e) refl)
