-- The words of an entry's options: those of the kernel, and one that names a link.
use Rattle.std.proofs.Common.{◌≡◌, ◌≢◌, not, Bool, true, false, cond, ℕ, List, [], ◌∷◌, ◌++◌, All, take, filter, codes, refl, sym, ◌∙◌, ap}
use Rattle.std.proofs.lemmas.List.Elements.{All-head, All-tail}
use Rattle.std.proofs.lemmas.Slice.Eq.{bytes_eq-Decides}
use Rattle.boot_model.specs.Items.{IsKarg}
use Rattle.bls_entry.specs.Options.{HasOstree, is_ostree, ostree_key, words_of}
use Rattle.boot_read.specs.Entries.{other_words}

not_ostree : (word : List ℕ) → take 7 word ≢ codes "ostree=" → is_ostree word ≡ false
not_ostree word other = by (is_ostree word) refl
  where
    by : (t : Bool) → is_ostree word ≡ t → is_ostree word ≡ false
    by true e = absurd (other ((bytes_eq-Decides (take 7 word) ostree_key).0 e))
    by false e = e

passed : {X : Type 0} (p : X → Bool) (x : X) (xs : List X) → p x ≡ false → filter p (x ∷ xs) ≡ filter p xs
passed p x xs e = ap (λ t. cond t (x ∷ filter p xs) (filter p xs)) e

taken : {X : Type 0} (p : X → Bool) (x : X) (xs : List X) → p x ≡ true → filter p (x ∷ xs) ≡ x ∷ filter p xs
taken p x xs e = ap (λ t. cond t (x ∷ filter p xs) (filter p xs)) e

one_word : (kargs : List (List ℕ)) (value : List ℕ) → All IsKarg kargs → filter is_ostree (kargs ++ (ostree_key ++ value) ∷ []) ≡ (ostree_key ++ value) ∷ []
one_word [] value are = refl
one_word (k ∷ kargs) value are =
    passed is_ostree k (kargs ++ (ostree_key ++ value) ∷ []) (not_ostree k (All-head IsKarg k kargs are).no_deployment) ∙ one_word kargs value (All-tail IsKarg k kargs are)

others : (kargs : List (List ℕ)) (value : List ℕ) → All IsKarg kargs → filter (λ word. not (is_ostree word)) (kargs ++ (ostree_key ++ value) ∷ []) ≡ kargs
others [] value are = refl
others (k ∷ kargs) value are =
    taken (λ word. not (is_ostree word)) k (kargs ++ (ostree_key ++ value) ∷ []) (ap not (not_ostree k (All-head IsKarg k kargs are).no_deployment))
    ∙ ap (λ ws. k ∷ ws) (others kargs value (All-tail IsKarg k kargs are))

module _ (options : List ℕ) (kargs : List (List ℕ)) (value : List ℕ) (are : All IsKarg kargs) (words : words_of options ≡ kargs ++ (ostree_key ++ value) ∷ []) where
  pub has_ostree : HasOstree options value
  has_ostree = ap (filter is_ostree) words ∙ one_word kargs value are

  pub kargs_are : kargs ≡ other_words options
  kargs_are = sym (ap (filter (λ word. not (is_ostree word))) words ∙ others kargs value are)
