-- The name that a path's text has.
use Rattle.std.proofs.Common.{◌≡◌, ◌≢◌, ◌++◌, ℕ, Bool, true, IsTrue, List, take, drop, eqb, sym, ◌∙◌, ap, Option, Some, None, Result, Ok, Err}
use Rattle.std.specs.Prelude.{IfOk, IfSome}
use Rattle.std.specs.Cmp.Lexicographic.{pointwise}
use Rattle.std.proofs.lemmas.List.{take-append-drop}
use Rattle.ost_types.specs.Path.{Path, same_name, same_path, text_of}
use Rattle.ost_types.proofs.Paths.{same_name-Decides, same_path-Decides}
use Rattle.repo_layout.specs.RefName.{IsRefName}
use Rattle.repo_layout.specs.Paths.{ref_path}
use Rattle.repo_layout.proofs.RefPaths.{ref_path-text}
use Rattle.ref_room.specs.Clash.{IsNoRef, below_heads}

pub path_test : (b : Bool) (q p r : Path) → b ≡ pointwise same_name q p → q ≡ r → (IsTrue b → r ≡ p) × (r ≡ p → IsTrue b)
unfolding same_path
path_test b q p r is same =
    let d = same_path-Decides q p in
    (λ yes. sym same ∙ d.0 (sym is ∙ yes), λ e. is ∙ d.1 (same ∙ e))

pub text_parts : (text rest : List ℕ) → pointwise eqb (take 24 text) below_heads ≡ true → rest ≡ drop 24 text → text ≡ below_heads ++ rest
text_parts text rest same is = sym (take-append-drop 24 text) ∙ ap (λ front. front ++ drop 24 text) ((same_name-Decides (take 24 text) below_heads).0 same) ∙ ap (λ r. below_heads ++ r) (sym is)

pub found_in : {E : Type 0} (r : Result (Option (List ℕ)) E) (text rest : List ℕ) → text ≡ below_heads ++ rest → IfOk r (λ n. IfSome n (λ x. x ≡ rest)) → IfOk r (λ n. IfSome n (λ x. text ≡ below_heads ++ x))
found_in (Ok (Some x)) text rest is e = is ∙ ap (λ r. below_heads ++ r) (sym e)
found_in (Ok None) text rest is e = tt
found_in (Err x) text rest is e = tt

-- the text of a ref's path
ref_text_of : (name : List ℕ) → text_of (ref_path name) ≡ below_heads ++ name
ref_text_of name = ref_path-text name

pub no_name : (at : Path) (text : List ℕ) → text ≡ text_of at → ((name : List ℕ) → IsRefName name → text ≢ below_heads ++ name) → IsNoRef at
no_name at text is none other named e = none other named (is ∙ ap text_of (sym e) ∙ ref_text_of other)

same_rest : (a b : List ℕ) → below_heads ++ a ≡ below_heads ++ b → a ≡ b
same_rest a b e = ap (drop 24) e

pub other_name : (at : Path) (text name : List ℕ) → text ≡ text_of at → text ≡ below_heads ++ name → (ref_path name ≡ at → ⊥) → IsNoRef at
other_name at text name is has apart other named e =
    let same = same_rest name other (sym has ∙ is ∙ ap text_of (sym e) ∙ ref_text_of other) in
    apart (ap ref_path same ∙ e)
