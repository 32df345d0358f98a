-- The path of a ref: its text is the name behind the folder's.
use Rattle.std.proofs.Common.{◌≡◌, ◌==◌, ◌≤◌, ℕ, Bool, true, false, List, [], ◌∷◌, ◌++◌, length, cond, refl, sym, ◌∙◌, ap, arith, length-append}
use Rattle.std.specs.List.{onto_first}
use Rattle.std.proofs.lemmas.Bool.Decides.{nat_tests}
use Rattle.ost_types.specs.Path.{Path, joined, text_of}
use Rattle.repo_layout.specs.RefName.{IsRefName, parts_of}
use Rattle.repo_layout.specs.Paths.{heads, heads_text, ref_path}

joined-onto_first : (x : ℕ) (parts : Path) (t : List ℕ) → joined parts ≡ 47 ∷ t → joined (onto_first x parts) ≡ 47 ∷ x ∷ t
unfolding joined
joined-onto_first x [] t e = cc
joined-onto_first x (part ∷ parts) t e = let rest : part ++ joined parts ≡ t = cc in ap (λ l. 47 ∷ x ∷ l) rest

-- the parts of a name, each behind a `/`, are the name behind one
pub joined-parts_of : (name : List ℕ) → joined (parts_of name) ≡ 47 ∷ name
unfolding joined
joined-parts_of [] = refl
joined-parts_of (x ∷ name) = by (x == 47) refl (joined-parts_of name)
  where
    by : (b : Bool) → (x == 47) ≡ b → joined (parts_of name) ≡ 47 ∷ name → joined (cond b ([] ∷ parts_of name) (onto_first x (parts_of name))) ≡ 47 ∷ x ∷ name
    by true is rest = let e : x ≡ 47 = grind (arith, nat_tests) in ap (λ l. 47 ∷ l) (rest ∙ ap (λ h. h ∷ name) (sym e))
    by false is rest = joined-onto_first x (parts_of name) name rest

heads-joined : (parts : Path) → joined (heads ++ parts) ≡ heads_text ++ joined parts
unfolding joined
heads-joined parts = refl

pub ref_path-text : (name : List ℕ) → text_of (ref_path name) ≡ heads_text ++ 47 ∷ name
unfolding ref_path
ref_path-text name = heads-joined (parts_of name) ∙ ap (λ t. heads_text ++ t) (joined-parts_of name)

pub ref_path-short : (name : List ℕ) → IsRefName name → length (text_of (ref_path name)) ≤ 1024
ref_path-short name is = omega (arith, ap length (ref_path-text name), length-append heads_text (47 ∷ name), is.short)
