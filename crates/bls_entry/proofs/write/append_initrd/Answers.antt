use Rattle.std.proofs.Common.{◌≡◌, ◌∷◌, [], ◌++◌, OnOk, sym, ap, ◌∙◌, subst, append-nil}
use Rattle.bls_entry.specs.declared.key.Key.TheVariants.{Initrd}
use Rattle.bls_entry.specs.Line.{file_text}
use Rattle.bls_entry.specs.Entry.{initrd_lines, line_of}
use Rattle.bls_entry.proofs.write.append_initrd.Goals as goal

pub returns-in-Some : goal.returns-in-Some
unfolding file_text
returns-in-Some c =
    subst (λ i. OnOk c.append_line.result (c.append_line.new.text ≡ c.args.text.now ++ file_text (initrd_lines i))) (sym c.in-Some.is)
    (subst (λ p. OnOk c.append_line.result (c.append_line.new.text ≡ c.args.text.now ++ file_text (line_of Initrd p ∷ []))) c.as_slice.ensures.value c.append_line.ensures)

pub returns-in-None : goal.returns-in-None
unfolding file_text
returns-in-None c = sym (ap (λ i. c.args.text.now ++ file_text (initrd_lines i)) c.in-None.is ∙ append-nil c.args.text.now)
