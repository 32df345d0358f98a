use Rattle.std.proofs.Common.{◌≡◌, [], ◌∷◌, ◌++◌, Ok, sym, ◌∙◌, ap, subst}
use Rattle.std.specs.Fmt.{decimal}
use Rattle.bls_entry.specs.declared.key.Key.TheVariants.{Title, Version, Options, Linux}
use Rattle.bls_entry.specs.Line.{file_text, line_text}
use Rattle.bls_entry.specs.Entry.{initrd_lines, line_of}
use Rattle.bls_entry.specs.Reading.{Reads}
use Rattle.bls_entry.proofs.Written.{joined, read_back}
use Rattle.bls_entry.proofs.write.write_entry.Goals as goal

pub returns-clause-text : goal.returns-clause-text
unfolding file_text
returns-clause-text c =
    let e = c.args.entry.now in
    joined c.new-text.result c.append_line.new.text c.append_version.new.text c.append_line-2.new.text c.append_line-3.new.text c.append_initrd.new.text
    (line_text (line_of Title e.title)) (line_text (line_of Version (decimal e.version))) (line_text (line_of Options e.options)) (line_text (line_of Linux e.linux)) (file_text (initrd_lines e.initrd))
    c.new-text.ensures
    (c.in_ok-append_line.ensures ∙ ap (λ v. c.new-text.result ++ (line_text (line_of Title v) ++ 10 ∷ [])) c.as_slice.ensures.value)
    c.in_ok-append_version.ensures
    (c.in_ok-append_line-2.ensures ∙ ap (λ v. c.append_version.new.text ++ (line_text (line_of Options v) ++ 10 ∷ [])) c.as_slice-2.ensures.value)
    (c.in_ok-append_line-3.ensures ∙ ap (λ v. c.append_line-2.new.text ++ (line_text (line_of Linux v) ++ 10 ∷ [])) c.as_slice-3.ensures.value)
    c.in_ok-append_initrd.ensures

pub returns-clause-back : goal.returns-clause-back
returns-clause-back c = subst (λ t. Reads t (Ok c.args.entry.now)) (sym (returns-clause-text c)) (read_back c.args.entry.now c.requires)
