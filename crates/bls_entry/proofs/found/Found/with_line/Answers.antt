use Rattle.std.proofs.Common.{◌≢◌, ◌∷◌, ◌∙◌, ap, subst}
use Rattle.std.proofs.lemmas.List.{nil_from_length}
use Rattle.std.proofs.lemmas.List.Elements.{All-tail}
use Rattle.bls_entry.specs.Line.{IsOneLine}
use Rattle.bls_entry.proofs.Followed.{blank_follows, comment_follows}
use Rattle.bls_entry.proofs.found.Found.with_line.Goals as goal

pub returns-in_default : goal.returns-in_default
returns-in_default c = λ before t. blank_follows c.args.self before c.args.line.now (nil_from_length c.args.line.now c.in_default.ensures.cases) t

pub returns-then-first-eq35 : goal.returns-then-first-eq35
returns-then-first-eq35 c = λ before t.
    let cut = c.in-Some.ensures.cases.0 in
    let rest = c.in-Some.field-0-1.now in
    comment_follows c.args.self before c.args.line.now rest (cut ∙ ap (λ b. b ∷ rest) c.if-first-eq35.true) (All-tail (λ b. b ≢ 10) c.in-Some.first.now rest (subst IsOneLine cut c.requires)) t
