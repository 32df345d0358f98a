use Rattle.boot_words.proofs.Words.{led_once, named_once}
use Rattle.boot_words.proofs.laws.texts_are_read_once.Goals as goal

pub returns-clause-link : goal.returns-clause-link
returns-clause-link c = named_once

pub returns-clause-deployment : goal.returns-clause-deployment
returns-clause-deployment c = led_once
