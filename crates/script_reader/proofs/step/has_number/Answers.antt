use Rattle.std.proofs.Common.{◌^◌, subst}
use Rattle.std.proofs.lemmas.Bool.{eqb-true, eqb-false}
use Rattle.script.specs.Field.{IsNumber}
use Rattle.script_reader.proofs.Values.{gives_some}
use Rattle.script_reader.proofs.OneNode.{number_one}
use Rattle.script_reader.proofs.step.has_number.Goals as goal

pub returns-in-Some-clause-yes : goal.returns-in-Some-clause-yes
returns-in-Some-clause-yes c = λ e. subst (IsNumber (2 ^ 32) c.args.field.now) (eqb-true c.in-Some.number c.args.count e) (gives_some (IsNumber (2 ^ 32) c.args.field.now) _ _ c.in_ok-number.ensures c.in-Some.is)

pub returns-in-Some-clause-no : goal.returns-in-Some-clause-no
returns-in-Some-clause-no c = λ e is. eqb-false c.in-Some.number c.args.count e (number_one _ _ _ (gives_some (IsNumber (2 ^ 32) c.args.field.now) _ _ c.in_ok-number.ensures c.in-Some.is) is)
