use Rattle.std.proofs.Common.{◌≡◌, ◌↔◌, ◌-◌, ◌+◌, ℕ, List, [], ◌∷◌, ◌++◌, length, take, Option, Some, None, IsSome, IsNone, true, false, sym, ◌∙◌, ap, subst, arith, length-append}
use Rattle.std.proofs.Math.Seq.{take-append_seam}
use Rattle.ost_types.specs.Csum.{hex_of, IsHexSum}
use Rattle.ost_types.proofs.HexSums.{IsHexSum-hex_of}
use Rattle.repo_layout.specs.RefFile.{IsSum, ref_text}
use Rattle.repo_layout.proofs.ref_file.read_ref.Goals as goal

no_digits : (digits : List ℕ) (r : Option (List ℕ)) → (IsSome r ↔ IsHexSum digits) → IsNone r → ¬ (IsHexSum digits)
no_digits digits None exact none hex = let n : false ≡ true = exact.1 hex in cc
no_digits digits (Some x) exact none hex = let n : true ≡ false = none in cc

front : (bytes commit : List ℕ) → IsSum commit → bytes ≡ ref_text commit → IsHexSum (take (length bytes - 1) bytes)
front bytes commit sum is =
    let l : length (hex_of commit ++ 10 ∷ []) ≡ length (hex_of commit) + 1 = length-append (hex_of commit) (10 ∷ []) in
    let n : length bytes - 1 ≡ length (hex_of commit) = omega (arith, ap length is, l) in
    subst IsHexSum (sym (ap (λ k. take k bytes) n ∙ ap (take (length (hex_of commit))) is ∙ take-append_seam (hex_of commit) (10 ∷ []))) (IsHexSum-hex_of commit sum.whole sum.bytes)

pub returns-in-10-clause-none : goal.returns-in-10-clause-none
returns-in-10-clause-none c = λ none commit sum is. no_digits _ _ c.from_hex.ensures.exact none (front c.args.bytes.now commit sum is)
