-- What the names of places of many names are made of.
use Rattle.std.proofs.Common.{◌≡◌, ◌≢◌, ◌↔◌, ◌≤◌, ◌+◌, ◌-◌, ℕ, Bool, IsTrue, sym, ◌∙◌, ap, subst, arith, List, [], ◌∷◌, ◌++◌, length, take, drop, codes, Option, Some, None, MatchOption, length-append}
use Rattle.std.proofs.Math.Seq.{take-append_seam, drop-append_seam}
use Rattle.std.proofs.lemmas.List.{append_cancel_left, append_cancel_right, take-append-drop}
use Rattle.std.specs.Borrow.{Bor}
use Rattle.ost_types.specs.Csum.{hex_of}
use Rattle.ost_types.proofs.HexSums.{IsHexSum-hex_of}
use Rattle.repo_layout.specs.OsName.{IsOsName}
use Rattle.repo_layout.specs.RefFile.{IsSum}
use Rattle.layout_rules.specs.Many.{IsDashedSum, IsKernelName, IsMarkName, IsSumText, IsVersion, IsVersioned}

pub mark_test : (name digits : List ℕ) (r : Bool) → (IsTrue r ↔ IsSumText digits) → name ≡ digits ++ codes ".commitpartial" → IsTrue r ↔ IsMarkName name
mark_test name digits r test e = (
  λ t. let s = test.0 t in (s.0, s.1, e ∙ ap (λ d. d ++ codes ".commitpartial") s.2),
  λ m. test.1 (m.0, m.1, append_cancel_right digits (hex_of m.0) (codes ".commitpartial") (sym e ∙ m.2)),
)

pub version_test : (name front end version : List ℕ) (r : Bool) → (IsTrue r ↔ IsVersion version) → name ≡ front ++ (version ++ end) → IsTrue r ↔ IsVersioned front end name
version_test name front end version r test e = (
  λ t. (version, test.0 t, e),
  λ m. test.1 (subst IsVersion (sym (append_cancel_right version m.0 end (append_cancel_left front (version ++ end) (m.0 ++ end) (sym e ∙ m.2)))) m.1),
)

pub between_match : (name front end rest : List ℕ) (r : Option (Bor (List ℕ))) → name ≡ front ++ rest → MatchOption r ((x : List ℕ) → rest ≢ x ++ end) (λ x. rest ≡ x.now ++ end) → MatchOption r ((x : List ℕ) → name ≢ front ++ (x ++ end)) (λ x. name ≡ front ++ (x.now ++ end))
between_match name front end rest None e match = λ x is. match x (append_cancel_left front rest (x ++ end) (sym e ∙ is))
between_match name front end rest (Some x) e match = e ∙ ap (λ y. front ++ y) match

-- a stateroot's name, and 65 bytes behind it
digits_behind : (os sum : List ℕ) → IsSum sum → length (os ++ 45 ∷ hex_of sum) ≡ length os + 65
digits_behind os sum is =
    let n : length (hex_of sum) ≡ 64 = (IsHexSum-hex_of sum is.whole is.bytes).whole in
    let l : length (os ++ 45 ∷ hex_of sum) ≡ length os + length (45 ∷ hex_of sum) = length-append os (45 ∷ hex_of sum) in
    omega (arith, n, l)

pub kernel_long : (name : List ℕ) → IsKernelName name → 65 ≤ length name
kernel_long name is = let n = digits_behind is.0 is.2.0 is.2.1 in let e : length name ≡ length (is.0 ++ 45 ∷ hex_of is.2.0) = ap length is.2.2 in omega (arith, e, n)

seam : (name os sum : List ℕ) → IsSum sum → name ≡ os ++ 45 ∷ hex_of sum → length name - 65 ≡ length os
seam name os sum is e = let n = digits_behind os sum is in let l : length name ≡ length (os ++ 45 ∷ hex_of sum) = ap length e in omega (arith, n, l)

pub kernel_front : (name : List ℕ) → IsKernelName name → IsOsName (take (length name - 65) name)
kernel_front name is = subst IsOsName (sym (ap (λ n. take n name) (seam name is.0 is.2.0 is.2.1 is.2.2) ∙ ap (take (length is.0)) is.2.2 ∙ take-append_seam is.0 (45 ∷ hex_of is.2.0))) is.1

pub kernel_back : (name : List ℕ) → IsKernelName name → IsDashedSum (drop (length name - 65) name)
kernel_back name is = (is.2.0, is.2.1, ap (λ n. drop n name) (seam name is.0 is.2.0 is.2.1 is.2.2) ∙ ap (drop (length is.0)) is.2.2 ∙ drop-append_seam is.0 (45 ∷ hex_of is.2.0))

pub kernel_of : (name : List ℕ) (n : ℕ) → IsOsName (take n name) → IsDashedSum (drop n name) → IsKernelName name
kernel_of name n os sum = (take n name, os, (sum.0, sum.1, sym (take-append-drop n name) ∙ ap (λ d. take n name ++ d) sum.2))
