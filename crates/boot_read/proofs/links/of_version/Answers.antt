use Rattle.std.proofs.Common.{subst}
use Rattle.std.specs.Prelude.{MatchOption}
use Rattle.repo_layout.specs.Fixed.{number}
use Rattle.boot_words.specs.Words.{IsNamedLink, NamesNone}
use Rattle.boot_read.proofs.links.of_version.Goals as goal

pub returns-in-None : goal.returns-in-None
returns-in-None c = λ text none. (subst (λ o. MatchOption o (NamesNone text) (IsNamedLink text)) c.in-None.is none) (number c.args.loader)

pub returns-in-Some : goal.returns-in-Some
returns-in-Some c = λ text names. c.this_version.ensures text (subst (λ o. MatchOption o (NamesNone text) (IsNamedLink text)) c.in-Some.is names)
