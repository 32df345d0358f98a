use Rattle.std.proofs.Common.{◌≡◌, subst}
use Rattle.keyfile.specs.Line.{IsLine, line_text}
use Rattle.keyfile.specs.Line.Line.{Blank, Comment}
use Rattle.keyfile.specs.Said.{said}
use Rattle.keyfile.proofs.Taken.{plain_taken}
use Rattle.keyfile.proofs.reader.Reader.take.Goals as goal

pub returns-in-Blank : goal.returns-in-Blank
returns-in-Blank c = λ before t.
    (Blank, subst (λ line. IsLine (said line) × (c.args.text.now ≡ line_text (said line))) c.in-Blank.is c.in-Some.ensures, plain_taken c.args.self.now before Blank tt tt t)

pub returns-in-Comment : goal.returns-in-Comment
returns-in-Comment c = λ before t.
    let has = subst (λ line. IsLine (said line) × (c.args.text.now ≡ line_text (said line))) c.in-Comment.is c.in-Some.ensures in
    (Comment c.in-Comment.field-0.now, has, plain_taken c.args.self.now before (Comment c.in-Comment.field-0.now) has.0 tt t)
