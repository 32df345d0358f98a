use Rattle.std.proofs.Common.{length, false, true, sym, ◌∙◌, ap}
use Rattle.std.specs.Cmp.Lexicographic.{pointwise}
use Rattle.ost_types.specs.Path.{same_name}
use Rattle.tree_build.proofs.Looks.{name_in-empty, name_in-by}
use Rattle.tree_build.proofs.paths.name_in.Goals as goal

pub returns-in_default : goal.returns-in_default
returns-in_default c = sym (name_in-empty c.args.folder.now c.args.path.now (ap length (sym c.names.ensures.value) ∙ c.in_default.ensures.cases))

pub returns-then-eq : goal.returns-then-eq
returns-then-eq c =
    sym (name_in-by c.args.folder.now c.args.path.now c.in-Some.before.now c.in-Some.name.now true (sym c.names.ensures.value ∙ c.in-Some.ensures.cases.0) (sym c.if-eq.true ∙ c.eq.ensures ∙ ap (pointwise same_name c.in-Some.before.now) c.names-2.ensures.value))

pub returns-else-eq : goal.returns-else-eq
returns-else-eq c =
    sym (name_in-by c.args.folder.now c.args.path.now c.in-Some.before.now c.in-Some.name.now false (sym c.names.ensures.value ∙ c.in-Some.ensures.cases.0) (sym c.if-eq.false ∙ c.eq.ensures ∙ ap (pointwise same_name c.in-Some.before.now) c.names-2.ensures.value))
