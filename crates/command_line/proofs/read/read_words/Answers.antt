use Rattle.std.proofs.Common.{map}
use Rattle.std.specs.Prelude.{option_map}
use Rattle.std.specs.String.{string_bytes}
use Rattle.command_line.specs.declared.line.Line.{Line}
use Rattle.command_line.proofs.Lines.{no_words, only_is, read_is}
use Rattle.command_line.proofs.read.read_words.Goals as goal

pub returns-in-Ok-clause-line : goal.returns-in-Ok-clause-line
returns-in-Ok-clause-line c =
    read_is (λ (l : Line). l.helpers) (λ (l : Line). option_map (λ v. v.items) l.schedule) (λ (l : Line). map (λ word. string_bytes word) l.fields.items) (map (λ word. string_bytes word) c.args.words.now)
    c.in-Ok.matches c.line_of.result c.in-Ok.ensures c.line_of.ensures

pub returns-in-Ok-clause-one : goal.returns-in-Ok-clause-one
returns-in-Ok-clause-one c =
    only_is (λ (l : Line). l.helpers) (λ (l : Line). option_map (λ v. v.items) l.schedule) (λ (l : Line). map (λ word. string_bytes word) l.fields.items) (map (λ word. string_bytes word) c.args.words.now)
    c.in-Ok.matches c.line_of.result c.in-Ok.ensures c.line_of.ensures

pub returns-in-Err-clause-line : goal.returns-in-Err-clause-line
returns-in-Err-clause-line c = no_words (map (λ word. string_bytes word) c.args.words.now) c.in-Err.fault c.in-Err.ensures
