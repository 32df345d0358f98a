use Rattle.std.proofs.Common.{subst}
use Rattle.std.specs.Prelude.{MatchOption}
use Rattle.boot_words.specs.Words.{LeadsNowhere, LeadsTo}
use Rattle.boot_read.proofs.links.of_stateroot.Goals as goal

pub returns-in-None : goal.returns-in-None
returns-in-None c = λ target none id leads. absurd ((subst (λ o. MatchOption o (LeadsNowhere target) (LeadsTo target)) c.in-None.is none) id leads)

pub returns-in-Some : goal.returns-in-Some
returns-in-Some c = λ target leads. c.this_stateroot.ensures target (subst (λ o. MatchOption o (LeadsNowhere target) (LeadsTo target)) c.in-Some.is leads)
