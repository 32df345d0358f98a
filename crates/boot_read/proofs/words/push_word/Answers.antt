use Rattle.std.proofs.Common.{rules, ◌≡◌, ◌++◌, sym, ◌∙◌, ap}
use Rattle.boot_read.proofs.WordLemmas.{alone, kept_word}
use Rattle.boot_read.proofs.words.push_word.Goals as goal

pub returns-then-is_empty : goal.returns-then-is_empty
returns-then-is_empty c =
    let kept : c.args.words.now ≡ c.args.words.now ++ kept_word c.args.word.now = search rules in
    kept ∙ ap (λ w. c.args.words.now ++ w) (sym (alone c.args.word.now c.requires.plain))

pub returns : goal.returns
returns c = rw (alone c.args.word.now c.requires.plain) (search rules)
