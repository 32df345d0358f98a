use Rattle.std.proofs.Common.{subst}
use Rattle.std.specs.Prelude.{MatchOption}
use Rattle.repo_layout.specs.Fixed.{number}
use Rattle.boot_read.specs.Steps.{NamesIt, NamesNothing}
use Rattle.boot_read.proofs.Following.{nothing_led}
use Rattle.boot_read.proofs.links.row_at.Goals as goal

pub returns-in-None-clause-told : goal.returns-in-None-clause-told
returns-in-None-clause-told g c = λ v told read.
    nothing_led v.now (number c.args.loader) (number c.args.sub) c.args.text.now.name c.args.text.now.entry read
    (subst (λ o. MatchOption o (NamesNothing (number c.args.loader) c.args.text.now.entry) (NamesIt (number c.args.loader) c.args.text.now.entry)) c.in-None.is c.in_ok-named.ensures)

pub returns-in-Some-clause-told : goal.returns-in-Some-clause-told
returns-in-Some-clause-told g c = λ v told read.
    c.row_by.ensures.told v told read
    (subst (λ o. MatchOption o (NamesNothing (number c.args.loader) c.args.text.now.entry) (NamesIt (number c.args.loader) c.args.text.now.entry)) c.in-Some.is c.in_ok-named.ensures)
