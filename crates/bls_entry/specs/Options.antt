-- The words of options, and the word that names a deployment.
use Rattle.std.specs.Prelude.{◌≡◌, ◌∷◌, ◌++◌, [], ℕ, Bool, not, List, filter, take, codes}
use Rattle.std.specs.List.{slice_split}
use Rattle.ost_types.specs.Path.{same_name}
use Rattle.bls_entry.specs.Line.{is_blank}

-- the runs of bytes between blanks, none of them empty
abbrev pub words_of : List ℕ → List (List ℕ)
words_of text = filter (λ word. not (same_name word [])) (slice_split is_blank text)

abbrev pub ostree_key : List ℕ
ostree_key = codes "ostree="

-- the word begins `ostree=`
abbrev pub is_ostree : List ℕ → Bool
is_ostree word = same_name (take 7 word) ostree_key

abbrev pub ostree_words : List ℕ → List (List ℕ)
ostree_words options = filter is_ostree (words_of options)

-- one word begins `ostree=`, and this stands behind it
abbrev pub HasOstree : List ℕ → List ℕ → Type 0
HasOstree options value = ostree_words options ≡ (ostree_key ++ value) ∷ []
