use Rattle.std.proofs.Common.{◌≡◌, ◌++◌, ◌∷◌, [], true, false, Some, ap, ◌∙◌, sym, subst}
use Rattle.ost_types.specs.Text.{IsText}
use Rattle.ost_forms.proofs.Texts.{text_bytes-of, text_bytes-is, same_push}
use Rattle.ost_forms.proofs.text.text_of.Goals as goal
use Rattle.ost_forms.proofs.text.text_of.Goals.{else-last-eq0-via-then-last-eq0+else-is_text, else-last-eq0-via-else-last-eq0}

pub returns-then-is_text : goal.returns-then-is_text
returns-then-is_text c =
    let is : IsText c.in_ok-last.text.now = c.is_text.ensures.0 c.if-is_text.true in
    let whole : c.in_ok-last.text.now ++ 0 ∷ [] ≡ c.args.bytes.now = ap (λ b. c.in_ok-last.text.now ++ b ∷ []) (sym c.if-last-eq0.true) ∙ sym c.in_ok-last.ensures.cases.0 in
    (is, text_bytes-of _ is ∙ ap Some whole)

pub returns-else-last-eq0 : goal.returns-else-last-eq0
returns-else-last-eq0 c = λ t e.
    let p = text_bytes-is t _ e in
    let same = same_push t c.in_ok-last.text.now 0 c.in_ok-last.last.now (p.1 ∙ c.in_ok-last.ensures.cases.0) in
    elim c.else-last-eq0.branch [
      | else-last-eq0-via-then-last-eq0+else-is_text w ↦ let n : true ≡ false = sym (w.is_text.ensures.1 (subst IsText same.0 p.0)) ∙ w.if-is_text.false in cc
      | else-last-eq0-via-else-last-eq0 w ↦ w.if-last-eq0.false (sym same.1)
    ]
