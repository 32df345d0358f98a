-- Words are those of one command.
use Rattle.std.proofs.Common.{◌≡◌, ◌^◌, ℕ, List, [], ◌∷◌, refl, sym, ◌∙◌, ap, ap₂, subst}
use Rattle.ost_types.specs.Csum.{hex_of, IsHexSum}
use Rattle.ost_types.specs.Path.{Path}
use Rattle.ost_types.proofs.HexSums.{IsHexSum-hex_of, hex_of-injective}
use Rattle.repo_layout.proofs.KnownPaths.{parsed_same}
use Rattle.script.specs.Field.{IsNameField, IsNumber, IsPathField, IsPathText}
use Rattle.script.specs.Words.{AreRevName, AreRevPath, HasFields, IsBranch, IsCommand, IsCommit, IsRev, keyword_of}
use Rattle.script.specs.declared.command.Rev.{Rev}
use Rattle.script.specs.declared.command.Rev.TheVariants.{Ref, Commit}
use Rattle.script.specs.declared.command.Command.{Command}
use Rattle.script.specs.declared.command.Command.TheVariants.{Refs, Status, RevParse, Log, Ls, Cat, Checkout, Reset, DropRef, Prune, Cleanup, Commit as CommitTree}
use Rattle.script.specs.declared.words.Keyword.{Keyword}
use Rattle.script.specs.declared.words.Keyword.TheVariants as word
use Rattle.script.proofs.Alone.{same_fields, same_keyword}
use Rattle.script.proofs.FieldValues.{field_of_one}
use Rattle.script.proofs.Numbers.{small_one}
use Rattle.script.proofs.Spelling.{field_one}

-- ---- fields

pub branch_one : (field a b : List ℕ) → IsBranch field a → IsBranch field b → a ≡ b
branch_one field a b p q = field_one field a b p.spelled q.spelled

sum_one : (field a b : List ℕ) → IsCommit field a → IsCommit field b → a ≡ b
sum_one field a b p q = hex_of-injective a b p.whole.bytes q.whole.bytes (field_one field (hex_of a) (hex_of b) p.spelled q.spelled)

-- no ref has the digits of a commit for its name
apart : (field name sum : List ℕ) → IsBranch field name → IsCommit field sum → ⊥
apart field name sum p q = p.ref.no_sum (subst IsHexSum (field_one field (hex_of sum) name q.spelled p.spelled) (IsHexSum-hex_of sum q.whole.whole q.whole.bytes))

rev_one : (field : List ℕ) (a b : Rev) → IsRev field a → IsRev field b → a ≡ b
rev_one field (Ref a) (Ref b) p q = ap Ref (branch_one field a b p q)
rev_one field (Ref a) (Commit b) p q = absurd (apart field a b p q)
rev_one field (Commit a) (Ref b) p q = absurd (apart field b a q p)
rev_one field (Commit a) (Commit b) p q = ap Commit (sum_one field a b p q)

pub path_one : (field : List ℕ) (p q : Path) → IsPathField field p → IsPathField field q → p ≡ q
path_one field = field_of_one IsPathText field parsed_same

name_one : (field a b : List ℕ) → IsNameField field a → IsNameField field b → a ≡ b
name_one field a b p q = field_one field a b p.spelled q.spelled

-- ---- commands

first_same : (f g : List ℕ) (fields : List (List ℕ)) → fields ≡ f ∷ [] → fields ≡ g ∷ [] → g ≡ f
first_same f g fields p q = let e : g ∷ [] ≡ f ∷ [] = sym q ∙ p in cc

both_same : (f g h k : List ℕ) (fields : List (List ℕ)) → fields ≡ f ∷ g ∷ [] → fields ≡ h ∷ k ∷ [] → (h ≡ f) × (k ≡ g)
both_same f g h k fields p q = let e : h ∷ k ∷ [] ≡ f ∷ g ∷ [] = sym q ∙ p in (let x : h ≡ f = cc in x, let y : k ≡ g = cc in y)

-- a command with these fields, by its keyword
abbrev Shape : Keyword → List (List ℕ) → Command → Type 0
Shape word.Refs fields c = c ≡ Refs
Shape word.Status fields c = c ≡ Status
Shape word.RevParse fields c = (rev : Rev) × (c ≡ RevParse rev) × HasFields (RevParse rev) fields
Shape word.Log fields c = (rev : Rev) × (c ≡ Log rev) × HasFields (Log rev) fields
Shape word.Ls fields c = (rev : Rev) × (path : Path) × (c ≡ Ls rev path) × HasFields (Ls rev path) fields
Shape word.Cat fields c = (rev : Rev) × (path : Path) × (c ≡ Cat rev path) × HasFields (Cat rev path) fields
Shape word.Checkout fields c = (rev : Rev) × (name : List ℕ) × (c ≡ Checkout rev name) × HasFields (Checkout rev name) fields
Shape word.Reset fields c = (branch commit : List ℕ) × (c ≡ Reset branch commit) × HasFields (Reset branch commit) fields
Shape word.DropRef fields c = (branch : List ℕ) × (c ≡ DropRef branch) × HasFields (DropRef branch) fields
Shape word.Prune fields c = (depth : ℕ) × (c ≡ Prune depth) × HasFields (Prune depth) fields
Shape word.Cleanup fields c = c ≡ Cleanup
Shape word.Commit fields c = ⊥

shape : (c : Command) (fields : List (List ℕ)) → HasFields c fields → Shape (keyword_of c) fields c
shape Refs fields has = refl
shape Status fields has = refl
shape (RevParse rev) fields has = (rev, refl, has)
shape (Log rev) fields has = (rev, refl, has)
shape (Ls rev path) fields has = (rev, path, refl, has)
shape (Cat rev path) fields has = (rev, path, refl, has)
shape (Checkout rev name) fields has = (rev, name, refl, has)
shape (Reset branch commit) fields has = (branch, commit, refl, has)
shape (DropRef branch) fields has = (branch, refl, has)
shape (Prune depth) fields has = (depth, refl, has)
shape Cleanup fields has = refl
shape (CommitTree branch tree subject body time) fields has = has

rev_field_one : (fields : List (List ℕ)) (a b : Rev) → HasFields (RevParse a) fields → HasFields (RevParse b) fields → a ≡ b
rev_field_one fields a b p q = rev_one p.0 a b p.2 (subst (λ f. IsRev f b) (first_same p.0 q.0 fields p.1 q.1) q.2)

rev_path_one : (fields : List (List ℕ)) (a b : Rev) (r s : Path) → AreRevPath fields a r → AreRevPath fields b s → (a ≡ b) × (r ≡ s)
rev_path_one fields a b r s p q =
    let same = both_same p.0 p.1 q.0 q.1 fields p.2 q.2 in
    (rev_one p.0 a b p.3 (subst (λ f. IsRev f b) same.0 q.3), path_one p.1 r s p.4 (subst (λ f. IsPathField f s) same.1 q.4))

rev_name_one : (fields : List (List ℕ)) (a b : Rev) (n m : List ℕ) → AreRevName fields a n → AreRevName fields b m → (a ≡ b) × (n ≡ m)
rev_name_one fields a b n m p q =
    let same = both_same p.0 p.1 q.0 q.1 fields p.2 q.2 in
    (rev_one p.0 a b p.3 (subst (λ f. IsRev f b) same.0 q.3), name_one p.1 n m p.4 (subst (λ f. IsNameField f m) same.1 q.4))

shape_one : (k : Keyword) (fields : List (List ℕ)) (c d : Command) → Shape k fields c → Shape k fields d → c ≡ d
shape_one word.Refs fields c d p q = p ∙ sym q
shape_one word.Status fields c d p q = p ∙ sym q
shape_one word.RevParse fields c d p q = p.1 ∙ ap RevParse (rev_field_one fields p.0 q.0 p.2 q.2) ∙ sym q.1
shape_one word.Log fields c d p q = p.1 ∙ ap Log (rev_field_one fields p.0 q.0 p.2 q.2) ∙ sym q.1
shape_one word.Ls fields c d p q = let same = rev_path_one fields p.0 q.0 p.1 q.1 p.3 q.3 in p.2 ∙ ap₂ Ls same.0 same.1 ∙ sym q.2
shape_one word.Cat fields c d p q = let same = rev_path_one fields p.0 q.0 p.1 q.1 p.3 q.3 in p.2 ∙ ap₂ Cat same.0 same.1 ∙ sym q.2
shape_one word.Checkout fields c d p q = let same = rev_name_one fields p.0 q.0 p.1 q.1 p.3 q.3 in p.2 ∙ ap₂ Checkout same.0 same.1 ∙ sym q.2
shape_one word.Reset fields c d p q =
    let a = p.3 in
    let b = q.3 in
    let same = both_same a.0 a.1 b.0 b.1 fields a.2 b.2 in
    p.2 ∙ ap₂ Reset (branch_one a.0 p.0 q.0 a.3 (subst (λ f. IsBranch f q.0) same.0 b.3)) (sum_one a.1 p.1 q.1 a.4 (subst (λ f. IsCommit f q.1) same.1 b.4)) ∙ sym q.2
shape_one word.DropRef fields c d p q =
    let a = p.2 in
    let b = q.2 in
    p.1 ∙ ap DropRef (branch_one a.0 p.0 q.0 a.2 (subst (λ f. IsBranch f q.0) (first_same a.0 b.0 fields a.1 b.1) b.2)) ∙ sym q.1
shape_one word.Prune fields c d p q =
    let a = p.2 in
    let b = q.2 in
    p.1 ∙ ap Prune (small_one a.0 p.0 q.0 a.2 (subst (λ f. IsNumber (2 ^ 32) f q.0) (first_same a.0 b.0 fields a.1 b.1) b.2)) ∙ sym q.1
shape_one word.Cleanup fields c d p q = p ∙ sym q
shape_one word.Commit fields c d p q = absurd p

pub command_one : (words : List (List ℕ)) (c d : Command) → IsCommand words c → IsCommand words d → c ≡ d
command_one words c d p q =
    let has = shape d p.fields (subst (HasFields d) (sym (same_fields words c d p q)) q.has) in
    shape_one (keyword_of c) p.fields c d (shape c p.fields p.has) (subst (λ k. Shape k p.fields d) (sym (same_keyword words c d p q)) has)
