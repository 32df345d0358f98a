use Rattle.std.proofs.Common.{true, cond, ◌∙◌, ap}
use Rattle.std.proofs.lemmas.Map.Text.{is_eq-slice_cmp}
use Rattle.keyfile.specs.Names.{has}
use Rattle.keyfile.proofs.names.add.Goals as goal

pub returns-clause-all : goal.returns-clause-all
returns-clause-all c = λ other.
    c.in_ok-insert.ensures.updates.0 (record { ref_ptr = (0, 0); now = other })
    ∙ ap (λ same. cond same true (has c.args.names.now other)) (is_eq-slice_cmp c.args.name.now other)
