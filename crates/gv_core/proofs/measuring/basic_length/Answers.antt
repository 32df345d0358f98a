use Rattle.std.proofs.Common.{◌≡◌, length, sym, ap, ap₂, ◌∙◌, rules}
use Rattle.std.specs.Prelude.{option_map}
use Rattle.gv_core.specs.declared.value.Value.{Double, Str, the_lemmas}
use Rattle.gv_core.specs.Kind.{basic}
use Rattle.gv_core.specs.Tree.{view, leaf, str, double}
use Rattle.gv_core.specs.Layout.{layout}
use Rattle.gv_core.proofs.Lengths.{text_length, double_length}
use Rattle.gv_core.proofs.measuring.basic_length.Goals as goal

pub returns-in-Double-kind : goal.returns-in-Double-kind
returns-in-Double-kind c =
    let len : length c.in-Double.bytes ≡ 8 = search rules in
    let seen_as : view (Double c.in-Double.bytes) ≡ leaf (double c.in-Double.bytes) = search (rules, the_lemmas) in
    double_length c.in-Double.bytes len ∙ sym (ap (option_map length) (ap₂ layout (ap view c.in-Double.is ∙ seen_as) (ap basic c.in-Double-kind.is)))

pub returns-in-Text : goal.returns-in-Text
returns-in-Text c =
    let seen_as : view (Str c.in-Str.text) ≡ leaf (str c.in-Str.text) = search (rules, the_lemmas) in
    text_length c.as_slice.result.now c.args.kind c.in-Text.is c.as_slice.ensures.text
    ∙ sym (ap (option_map length) (ap (λ v. layout v (basic c.args.kind)) (ap view c.in-Str.is ∙ seen_as ∙ ap (λ t. leaf (str t)) (sym c.as_slice.ensures.bytes))))
