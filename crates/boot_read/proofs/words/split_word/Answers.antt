use Rattle.boot_read.proofs.WordLemmas.{texts_end, texts_more, words_end, words_more}
use Rattle.boot_read.proofs.words.split_word.Goals as goal

pub returns-in-len1-up-clause-words : goal.returns-in-len1-up-clause-words
returns-in-len1-up-clause-words c =
    words_more c.args.text.now c.split_at_blank.result.0.now c.split_at_blank.result.1.now c.split_at_blank.ensures.whole c.split_at_blank.ensures.word c.split_at_blank.ensures.rest

pub returns-in-empty-clause-words : goal.returns-in-empty-clause-words
returns-in-empty-clause-words c =
    words_end c.args.text.now c.split_at_blank.result.0.now c.split_at_blank.result.1.now c.split_at_blank.ensures.whole c.split_at_blank.ensures.word c.in-empty.len_below

pub returns-in-len1-up-clause-texts : goal.returns-in-len1-up-clause-texts
returns-in-len1-up-clause-texts c =
    texts_more c.args.text.now c.split_at_blank.result.0.now c.split_at_blank.result.1.now c.split_at_blank.ensures.whole c.split_at_blank.ensures.rest c.in-len1-up.len_at_least

pub returns-in-empty-clause-texts : goal.returns-in-empty-clause-texts
returns-in-empty-clause-texts c =
    texts_end c.args.text.now c.split_at_blank.result.0.now c.split_at_blank.result.1.now c.split_at_blank.ensures.whole c.in-empty.len_below
