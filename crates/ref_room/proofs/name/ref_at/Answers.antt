use Rattle.std.proofs.Common.{◌≡◌, ◌++◌, true, false, sym, ◌∙◌, subst}
use Rattle.std.specs.Prelude.{IfSome}
use Rattle.ref_room.specs.Clash.{below_heads}
use Rattle.ref_room.proofs.Named.{no_name, other_name}
use Rattle.ref_room.proofs.name.ref_at.Goals as goal

pub returns-in_default-clause-none : goal.returns-in_default-clause-none
returns-in_default-clause-none c = λ _. no_name c.args.at.now c.as_slice.result.now (c.as_slice.ensures ∙ c.in_ok-text.ensures) (c.in_ok-name.ensures.none c.in_default.is)

pub returns-clause-none : goal.returns-clause-none
returns-clause-none c = λ _.
    other_name c.args.at.now c.as_slice.result.now c.in-Some.name (c.as_slice.ensures ∙ c.in_ok-text.ensures)
    (subst (λ found. IfSome found (λ name. c.as_slice.result.now ≡ below_heads ++ name)) c.in-Some.is c.in_ok-name.ensures.some)
    (λ e. let n : false ≡ true = sym c.if-branch.false ∙ c.in_ok-is_at.ensures.1 e in cc)
