use Rattle.boot_rows.proofs.Short.{few_words_short}
use Rattle.boot_rows.proofs.laws.few_words_are_short.Goals as goal

pub returns : goal.returns
returns c = few_words_short
