use Rattle.std.proofs.Common.{MatchOption, subst}
use Rattle.boot_words.specs.Words.{IsNamedLink, NamesNoLink}
use Rattle.boot_words.proofs.Words.{in_either}
use Rattle.boot_words.proofs.word.read_named_link.Goals as goal

pub returns-in-None : goal.returns-in-None
returns-in-None c =
    in_either c.args.text.now c.link_of-in-None.result
    (subst (λ o. MatchOption o (NamesNoLink c.args.text.now 0) (IsNamedLink c.args.text.now)) c.in-None.is c.in_ok-first.ensures) c.link_of-in-None.ensures
