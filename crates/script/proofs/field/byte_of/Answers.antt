use Rattle.std.proofs.Common.{◌≡◌, [], ◌∷◌, get_or, Ok, refl, sym, ◌∙◌, ap, arith}
use Rattle.hex.specs.Hex.{decode_sized}
use Rattle.hex.proofs.HexLemmas.{decode_sized-encode_lower}
use Rattle.ost_types.specs.Csum.{hex_of}
use Rattle.script.proofs.Spelling.{one}
use Rattle.script.proofs.field.byte_of.Goals as goal

pub returns-in-Ok-clause-none : goal.returns-in-Ok-clause-none
returns-in-Ok-clause-none c = λ none b less e.
    let r = decode_sized-encode_lower (b ∷ []) 1 refl (one b less) in
    let same : Ok c.in-Ok.bytes ≡ Ok (b ∷ []) = sym c.in-Ok.is ∙ c.from_hex.ensures ∙ ap (λ d. decode_sized d 1) e ∙ r in
    let bytes : c.in-Ok.bytes ≡ b ∷ [] = cc in
    c.written_so.ensures.none none (e ∙ ap (λ x. hex_of (get_or x 0 0 ∷ [])) (sym bytes))

pub returns-in-Err-clause-none : goal.returns-in-Err-clause-none
returns-in-Err-clause-none c = λ none b less e.
    let r = decode_sized-encode_lower (b ∷ []) 1 refl (one b less) in
    grind (arith, r, e)
