-- Six fields, one by one, and lines by their first field.
use Rattle.std.proofs.Common.{◌≡◌, ◌≢◌, ◌≤◌, ◌-◌, inl, inr, ℕ, true, false, List, [], ◌∷◌, length, get_or, map, take, drop, codes, Option, Some, None, MatchOption, refl, sym, ◌∙◌, ap, subst, arith}
use Rattle.ost_types.specs.Path.{same_name}
use Rattle.ost_forms.specs.declared.tree_item.TreeItem.{TreeItem}
use Rattle.script.proofs.Slices.{first_of}
use Rattle.script.specs.Field.{Gives}
use Rattle.script_reader.specs.Nodes.{fields_of, node_word, IsFolder, IsFile, IsLink, IsNode}
use Rattle.script_reader.specs.declared.node.NodeKind.{NodeKind}
use Rattle.script_reader.specs.declared.node.NodeKind.TheVariants.{Folder, File, Link}

pub six_of : {V : Type 0} (now : V → List ℕ) (fs : List V) (a b c d e f : V) → length fs ≡ 6
    → map now fs ≡ now (get_or fs 0 a) ∷ now (get_or fs 1 b) ∷ now (get_or fs 2 c) ∷ now (get_or fs 3 d) ∷ now (get_or fs 4 e) ∷ now (get_or fs 5 f) ∷ []
six_of now (v ∷ w ∷ x ∷ y ∷ z ∷ u ∷ []) a b c d e f l = refl
six_of now [] a b c d e f l = absurd (omega (arith, l))
six_of now (v ∷ []) a b c d e f l = absurd (omega (arith, l))
six_of now (v ∷ w ∷ []) a b c d e f l = absurd (omega (arith, l))
six_of now (v ∷ w ∷ x ∷ []) a b c d e f l = absurd (omega (arith, l))
six_of now (v ∷ w ∷ x ∷ y ∷ []) a b c d e f l = absurd (omega (arith, l))
six_of now (v ∷ w ∷ x ∷ y ∷ z ∷ []) a b c d e f l = absurd (omega (arith, l))
six_of now (v ∷ w ∷ x ∷ y ∷ z ∷ u ∷ t ∷ fs) a b c d e f l = absurd (omega (arith, l))

-- what is said of six fields, as of their list
abbrev pub At6 : {X : Type 0} (R : List ℕ → List ℕ → List ℕ → List ℕ → List ℕ → List ℕ → X → Type 0) (y : X) → List (List ℕ) → Type 0
At6 R y [] = ⊥
At6 R y (a ∷ []) = ⊥
At6 R y (a ∷ b ∷ []) = ⊥
At6 R y (a ∷ b ∷ c ∷ []) = ⊥
At6 R y (a ∷ b ∷ c ∷ d ∷ []) = ⊥
At6 R y (a ∷ b ∷ c ∷ d ∷ e ∷ []) = ⊥
At6 R y (a ∷ b ∷ c ∷ d ∷ e ∷ f ∷ []) = R a b c d e f y
At6 R y (a ∷ b ∷ c ∷ d ∷ e ∷ f ∷ g ∷ more) = ⊥

pub six_gives : {X : Type 0} (R : List ℕ → List ℕ → List ℕ → List ℕ → List ℕ → List ℕ → X → Type 0) (fields : List (List ℕ)) (p u g m x c : List ℕ) (o : Option X) → fields ≡ p ∷ u ∷ g ∷ m ∷ x ∷ c ∷ [] → Gives (R p u g m x c) o
    → Gives (λ y. (p u g m x c : List ℕ) × (fields ≡ p ∷ u ∷ g ∷ m ∷ x ∷ c ∷ []) × R p u g m x c y) o
six_gives R fields p u g m x c None e none = λ y is. none y (subst (At6 R y) (sym is.6 ∙ e) is.7)
six_gives R fields p u g m x c (Some y) e found = (p, u, g, m, x, c, e, found)

-- two lines with other first fields
pub other_head : (a b : List ℕ) (f g l : List (List ℕ)) → (a ≡ b → ⊥) → l ≡ a ∷ f → l ≡ b ∷ g → ⊥
other_head a b f g l other p q = let e : a ∷ f ≡ b ∷ g = sym p ∙ q in let h : a ≡ b = cc in other h

pub same_tail : (a b : List ℕ) (f g l : List (List ℕ)) → l ≡ a ∷ f → l ≡ b ∷ g → f ≡ g
same_tail a b f g l p q = let e : a ∷ f ≡ b ∷ g = sym p ∙ q in cc

pub folder_file : codes "folder" ≡ codes "file" → ⊥
folder_file e = let n : true ≡ false = ap (same_name (codes "folder")) e in cc

pub folder_link : codes "folder" ≡ codes "link" → ⊥
folder_link e = let n : true ≡ false = ap (same_name (codes "folder")) e in cc

pub file_link : codes "file" ≡ codes "link" → ⊥
file_link e = let n : true ≡ false = ap (same_name (codes "file")) e in cc

module _ (line : List ℕ) (fields : List (List ℕ)) (o : Option TreeItem) where
  pub folder_gives : fields_of line ≡ codes "folder" ∷ fields → Gives (IsFolder fields) o → Gives (IsNode line) o
  folder_gives e g = by o g
    where
      none : ((item : TreeItem) → ¬ (IsFolder fields item)) → (item : TreeItem) → ¬ (IsNode line item)
      none g item (fs, inl is) = g item (subst (λ f. IsFolder f item) (same_tail _ _ _ _ _ is.0 e) is.1)
      none g item (fs, inr (inl is)) = other_head _ _ _ _ _ folder_file e is.0
      none g item (fs, inr (inr is)) = other_head _ _ _ _ _ folder_link e is.0

      by : (o : Option TreeItem) → Gives (IsFolder fields) o → Gives (IsNode line) o
      by None g = none g
      by (Some item) g = (fields, inl (e, g))

  pub file_gives : fields_of line ≡ codes "file" ∷ fields → Gives (IsFile fields) o → Gives (IsNode line) o
  file_gives e g = by o g
    where
      none : ((item : TreeItem) → ¬ (IsFile fields item)) → (item : TreeItem) → ¬ (IsNode line item)
      none g item (fs, inl is) = other_head _ _ _ _ _ folder_file is.0 e
      none g item (fs, inr (inl is)) = g item (subst (λ f. IsFile f item) (same_tail _ _ _ _ _ is.0 e) is.1)
      none g item (fs, inr (inr is)) = other_head _ _ _ _ _ file_link e is.0

      by : (o : Option TreeItem) → Gives (IsFile fields) o → Gives (IsNode line) o
      by None g = none g
      by (Some item) g = (fields, inr (inl (e, g)))

  pub link_gives : fields_of line ≡ codes "link" ∷ fields → Gives (IsLink fields) o → Gives (IsNode line) o
  link_gives e g = by o g
    where
      none : ((item : TreeItem) → ¬ (IsLink fields item)) → (item : TreeItem) → ¬ (IsNode line item)
      none g item (fs, inl is) = other_head _ _ _ _ _ folder_link is.0 e
      none g item (fs, inr (inl is)) = other_head _ _ _ _ _ file_link is.0 e
      none g item (fs, inr (inr is)) = g item (subst (λ f. IsLink f item) (same_tail _ _ _ _ _ is.0 e) is.1)

      by : (o : Option TreeItem) → Gives (IsLink fields) o → Gives (IsNode line) o
      by None g = none g
      by (Some item) g = (fields, inr (inr (e, g)))

-- another keyword
pub no_kind : (line word : List ℕ) (fields : List (List ℕ)) → fields_of line ≡ word ∷ fields
    → (word ≡ codes "folder" → ⊥) → (word ≡ codes "file" → ⊥) → (word ≡ codes "link" → ⊥) → (item : TreeItem) → ¬ (IsNode line item)
no_kind line word fields e a b c item (fs, inl is) = other_head _ _ _ _ _ a e is.0
no_kind line word fields e a b c item (fs, inr (inl is)) = other_head _ _ _ _ _ b e is.0
no_kind line word fields e a b c item (fs, inr (inr is)) = other_head _ _ _ _ _ c e is.0

-- a line by its first field
pub line_is : {V : Type 0} (now : V → List ℕ) (line word : List ℕ) (items slice : List V) (d : V) → map now items ≡ fields_of line → slice ≡ items → 1 ≤ length slice
    → now (get_or slice 0 d) ≡ word → fields_of line ≡ word ∷ map now (take (length slice - 1) (drop 1 slice))
line_is now line word items slice d cut same some is =
    sym cut ∙ ap (map now) (sym same) ∙ first_of now slice d some ∙ ap (λ w. w ∷ map now (take (length slice - 1) (drop 1 slice))) is

pub kind_read : (word : List ℕ) (o : Option NodeKind) (k : NodeKind) → MatchOption o ((k : NodeKind) → word ≢ node_word k) (λ k. word ≡ node_word k) → o ≡ Some k → word ≡ node_word k
kind_read word o k holds is = subst (λ o. MatchOption o ((k : NodeKind) → word ≢ node_word k) (λ k. word ≡ node_word k)) is holds

pub no_kind_read : (word line : List ℕ) (fields : List (List ℕ)) (o : Option NodeKind) → MatchOption o ((k : NodeKind) → word ≢ node_word k) (λ k. word ≡ node_word k) → o ≡ None
    → fields_of line ≡ word ∷ fields → (item : TreeItem) → ¬ (IsNode line item)
no_kind_read word line fields o holds is e =
    let none : (k : NodeKind) → word ≢ node_word k = subst (λ o. MatchOption o ((k : NodeKind) → word ≢ node_word k) (λ k. word ≡ node_word k)) is holds in
    no_kind line word fields e (none Folder) (none File) (none Link)
