-- The order of objects by their paths, and by their names.
use Rattle.std.proofs.Common.{◌≡◌, ◌⊎◌, inl, inr, ℕ, zero, suc, ◌-◌, ◌*◌, ◌<◌, List, [], ◌∷◌, ◌++◌, length, take, drop, slice_index, refl, sym, ◌∙◌, ap, subst, arith}
use Rattle.std.proofs.lemmas.List.{length-drop}
use Rattle.std.specs.Cmp.{IsTotalOrder}
use Rattle.std.specs.Cmp.Lexicographic.{slice_cmp}
use Rattle.std.specs.Ordering.{nat_cmp, ordering_reverse, ordering_then}
use Rattle.std.specs.declared.cmp.Ordering.{Ordering}
use Rattle.std.specs.declared.cmp.Ordering.TheVariants.{Less, Equal, Greater}
use Rattle.std.proofs.lemmas.Cmp.{nat_cmp_total, nat_list_cmp_total, lists_total}
use Rattle.std.specs.FinMap.{nat_cmp-IsAntisymmetric, slice_cmp-IsAntisymmetric}
use Rattle.hex.specs.Hex.{IsBytes, lower_digits}
use Rattle.hex.proofs.HexLemmas.{length-encode_with}
use Rattle.ost_types.specs.Csum.{hex_of}
use Rattle.ost_types.specs.Path.{Path, path_cmp}
use Rattle.ost_types.specs.declared.object.Kind.{Kind}
use Rattle.ost_types.specs.declared.object.Kind.TheVariants.{Commit, DirTree, DirMeta, File}
use Rattle.ost_types.specs.declared.object.ObjName.{ObjName}
use Rattle.repo_layout.specs.Paths.{ending, object_path}
use Rattle.repo_layout.specs.RefFile.{IsSum}
use Rattle.repo_model.specs.Objects.{path_of}
use Rattle.repo_model.specs.Trees.{name_of}
use Rattle.obj_store.specs.Listing.{kind_rank, name_cmp, then_by}
use Rattle.store_check.proofs.Digits.{cmp_itself, hex_less, less_cmp}

path_order : IsTotalOrder path_cmp
path_order = lists_total nat_list_cmp_total

pub not_both_less : (p q : Path) → path_cmp p q ≡ Less → path_cmp q p ≡ Less → ⊥
not_both_less p q a b = let c : path_cmp p q ≡ Greater = path_order.antisymm p q ∙ rw b refl in let n : Less ≡ Greater = sym a ∙ c in cc

pub not_less_itself : (p : Path) → path_cmp p p ≡ Less → ⊥
not_less_itself p e = not_both_less p p e e

pub less_trans : (p q r : Path) → path_cmp p q ≡ Less → path_cmp q r ≡ Less → path_cmp p r ≡ Less
less_trans p q r a b = path_order.trans p q r a b

then_less : (o r : Ordering) → ordering_then o r ≡ Less → (o ≡ Less) ⊎ ((o ≡ Equal) × (r ≡ Less))
then_less Less r e = inl refl
then_less Equal r e = inr (refl, e)
then_less Greater r e = let n : Greater ≡ Less = e in cc

then_equal : (o : Ordering) → ordering_then o Equal ≡ o
then_equal Less = refl
then_equal Equal = refl
then_equal Greater = refl

text_next : (x : ℕ) (xs ys : List ℕ) → slice_cmp nat_cmp (x ∷ xs) (x ∷ ys) ≡ slice_cmp nat_cmp xs ys
text_next x xs ys = rw (cmp_itself x) refl

-- a common front decides nothing
common : (p e f : List ℕ) → slice_cmp nat_cmp (p ++ e) (p ++ f) ≡ slice_cmp nat_cmp e f
common [] e f = refl
common (x ∷ p) e f = text_next x (p ++ e) (p ++ f) ∙ common p e f

text_itself : (xs : List ℕ) → slice_cmp nat_cmp xs xs ≡ Equal
text_itself [] = refl
text_itself (x ∷ xs) = text_next x xs xs ∙ text_itself xs

-- texts of one length that differ decide, whatever comes behind them
front_less : (xs ys e f : List ℕ) → length xs ≡ length ys → slice_cmp nat_cmp xs ys ≡ Less → slice_cmp nat_cmp (xs ++ e) (ys ++ f) ≡ Less
front_less [] [] e f long less = let n : Equal ≡ Less = less in cc
front_less [] (y ∷ ys) e f long less = absurd (omega (arith, long))
front_less (x ∷ xs) [] e f long less = absurd (omega (arith, long))
front_less (x ∷ xs) (y ∷ ys) e f long less = elim (then_less (nat_cmp x y) (slice_cmp nat_cmp xs ys) less) [
  | inl first ↦ rw first refl
  | inr rest ↦ rw rest.0 (front_less xs ys e f (omega (arith, long)) rest.1)
]

-- cut at one place, the fronts decide, or else what is behind
cut_less : (n : ℕ) (xs ys : List ℕ) → length xs ≡ length ys → slice_cmp nat_cmp xs ys ≡ Less → (slice_cmp nat_cmp (take n xs) (take n ys) ≡ Less) ⊎ ((take n xs ≡ take n ys) × (slice_cmp nat_cmp (drop n xs) (drop n ys) ≡ Less))
cut_less zero xs ys long less = inr (refl, less)
cut_less (suc n) [] [] long less = let m : Equal ≡ Less = less in cc
cut_less (suc n) [] (y ∷ ys) long less = absurd (omega (arith, long))
cut_less (suc n) (x ∷ xs) [] long less = absurd (omega (arith, long))
cut_less (suc n) (x ∷ xs) (y ∷ ys) long less = elim (then_less (nat_cmp x y) (slice_cmp nat_cmp xs ys) less) [
  | inl first ↦ inl (rw first refl)
  | inr rest ↦
      let same : x ≡ y = nat_cmp-IsAntisymmetric x y rest.0 in
      elim (cut_less n xs ys (omega (arith, long)) rest.1) [
        | inl front ↦ inl (rw rest.0 front)
        | inr back ↦ inr (rw (same, back.0) refl, back.1)
      ]
]

path_at : (a b : List ℕ) (k l : Kind) → path_cmp (object_path k a) (object_path l b)
    ≡ ordering_then (slice_cmp nat_cmp (take 2 (hex_of a)) (take 2 (hex_of b))) (ordering_then (slice_cmp nat_cmp (drop 2 (hex_of a) ++ ending k) (drop 2 (hex_of b) ++ ending l)) Equal)
unfolding object_path
path_at a b k l = refl

module _ (a b : List ℕ) (whole : length a ≡ length b) where
  texts_long : length (hex_of a) ≡ length (hex_of b)
  texts_long = length-encode_with lower_digits a ∙ ap (λ n. 2 * n) whole ∙ sym (length-encode_with lower_digits b)

  -- the object with the lesser sum has the lesser path
  pub path_less : (k l : Kind) → IsBytes b → slice_cmp nat_cmp a b ≡ Less → path_cmp (object_path k a) (object_path l b) ≡ Less
  path_less k l bytes less = path_at a b k l ∙ by (cut_less 2 (hex_of a) (hex_of b) texts_long (hex_less a b bytes less))
    where
      back_long : length (drop 2 (hex_of a)) ≡ length (drop 2 (hex_of b))
      back_long = length-drop 2 (hex_of a) ∙ ap (λ n. n - 2) texts_long ∙ sym (length-drop 2 (hex_of b))

      by : (slice_cmp nat_cmp (take 2 (hex_of a)) (take 2 (hex_of b)) ≡ Less) ⊎ ((take 2 (hex_of a) ≡ take 2 (hex_of b)) × (slice_cmp nat_cmp (drop 2 (hex_of a)) (drop 2 (hex_of b)) ≡ Less))
          → ordering_then (slice_cmp nat_cmp (take 2 (hex_of a)) (take 2 (hex_of b))) (ordering_then (slice_cmp nat_cmp (drop 2 (hex_of a) ++ ending k) (drop 2 (hex_of b) ++ ending l)) Equal) ≡ Less
      by (inl front) = rw front refl
      by (inr back) = rw (back.0, text_itself (take 2 (hex_of b)), front_less (drop 2 (hex_of a)) (drop 2 (hex_of b)) (ending k) (ending l) back_long back.1) refl

-- of one sum, the endings decide
path_same : (s : List ℕ) (k l : Kind) → path_cmp (object_path k s) (object_path l s) ≡ slice_cmp nat_cmp (ending k) (ending l)
path_same s k l = path_at s s k l ∙ rw (text_itself (take 2 (hex_of s)), common (drop 2 (hex_of s)) (ending k) (ending l)) (then_equal (slice_cmp nat_cmp (ending k) (ending l)))

-- endings ascend as kinds do, but for folders' attributes and entries
ending_less : (k l : Kind) → slice_cmp nat_cmp (ending k) (ending l) ≡ Less → (kind_rank k < kind_rank l) ⊎ ((k ≡ DirMeta) × (l ≡ DirTree))
ending_less Commit Commit e = let n : Equal ≡ Less = e in cc
ending_less Commit DirTree e = inl (omega arith)
ending_less Commit DirMeta e = inl (omega arith)
ending_less Commit File e = inl (omega arith)
ending_less DirTree Commit e = let n : Greater ≡ Less = e in cc
ending_less DirTree DirTree e = let n : Equal ≡ Less = e in cc
ending_less DirTree DirMeta e = let n : Greater ≡ Less = e in cc
ending_less DirTree File e = inl (omega arith)
ending_less DirMeta Commit e = let n : Greater ≡ Less = e in cc
ending_less DirMeta DirTree e = inr (refl, refl)
ending_less DirMeta DirMeta e = let n : Equal ≡ Less = e in cc
ending_less DirMeta File e = inl (omega arith)
ending_less File Commit e = let n : Greater ≡ Less = e in cc
ending_less File DirTree e = let n : Greater ≡ Less = e in cc
ending_less File DirMeta e = let n : Greater ≡ Less = e in cc
ending_less File File e = let n : Equal ≡ Less = e in cc

-- a lesser path has a lesser name, or is that of attributes beside entries of the same sum
pub before_cases : (o x : ObjName) → IsSum o.csum → IsSum x.csum → path_cmp (path_of o) (path_of x) ≡ Less → (name_cmp o x ≡ Less) ⊎ ((o.csum ≡ x.csum) × (o.kind ≡ DirMeta) × (x.kind ≡ DirTree))
before_cases o x sum other less = by (slice_cmp nat_cmp o.csum x.csum) refl
  where
    by : (c : Ordering) → slice_cmp nat_cmp o.csum x.csum ≡ c → (then_by c (nat_cmp (kind_rank o.kind) (kind_rank x.kind)) ≡ Less) ⊎ ((o.csum ≡ x.csum) × (o.kind ≡ DirMeta) × (x.kind ≡ DirTree))
    by Less is = inl refl
    by Equal is =
        let e : o.csum ≡ x.csum = slice_cmp-IsAntisymmetric nat_cmp-IsAntisymmetric o.csum x.csum is in
        let ends : slice_cmp nat_cmp (ending o.kind) (ending x.kind) ≡ Less = sym (path_same x.csum o.kind x.kind) ∙ subst (λ s. path_cmp (object_path o.kind s) (path_of x) ≡ Less) e less in
        elim (ending_less o.kind x.kind ends) [
          | inl rank ↦ inl (less_cmp (kind_rank o.kind) (kind_rank x.kind) rank)
          | inr kinds ↦ inr (e, kinds.0, kinds.1)
        ]
    by Greater is =
        let back : slice_cmp nat_cmp x.csum o.csum ≡ Less = nat_list_cmp_total.antisymm x.csum o.csum ∙ rw is refl in
        absurd (not_both_less (path_of o) (path_of x) less (path_less x.csum o.csum (other.whole ∙ sym sum.whole) x.kind o.kind sum.bytes back))

-- attributes come before entries of the same sum
pub attributes_before : (s : List ℕ) → path_cmp (path_of (name_of DirMeta s)) (path_of (name_of DirTree s)) ≡ Less
attributes_before s = path_same s DirMeta DirTree

-- the one with the lesser first byte comes first
pub first_byte_less : (a b : ObjName) → IsSum a.csum → IsSum b.csum → slice_index a.csum 0 < slice_index b.csum 0 → name_cmp a b ≡ Less
first_byte_less a b sum other less = rw (by a.csum b.csum sum other less) refl
  where
    by : (s t : List ℕ) → IsSum s → IsSum t → slice_index s 0 < slice_index t 0 → slice_cmp nat_cmp s t ≡ Less
    by [] t sum other less = absurd (omega (arith, sum.whole))
    by (x ∷ s) [] sum other less = absurd (omega (arith, other.whole))
    by (x ∷ s) (y ∷ t) sum other less = rw (less_cmp x y less) refl

-- two names don't come before each other
pub not_both : (a b : ObjName) → name_cmp a b ≡ Less → name_cmp b a ≡ Less → ⊥
not_both a b less back = by (slice_cmp nat_cmp b.csum a.csum) refl back
  where
    by : (c : Ordering) → slice_cmp nat_cmp b.csum a.csum ≡ c → then_by c (nat_cmp (kind_rank b.kind) (kind_rank a.kind)) ≡ Less → ⊥
    by Less is rank =
        let n : Greater ≡ Less = sym (rw (nat_list_cmp_total.antisymm a.csum b.csum ∙ ap ordering_reverse is) refl) ∙ less in
        cc
    by Equal is rank =
        let e : nat_cmp (kind_rank a.kind) (kind_rank b.kind) ≡ Less = sym (rw (nat_list_cmp_total.antisymm a.csum b.csum ∙ ap ordering_reverse is) refl) ∙ less in
        let r : nat_cmp (kind_rank a.kind) (kind_rank b.kind) ≡ Greater = nat_cmp_total.antisymm (kind_rank a.kind) (kind_rank b.kind) ∙ ap ordering_reverse rank in
        let n : Less ≡ Greater = sym e ∙ r in
        cc
    by Greater is rank = let n : Greater ≡ Less = rank in cc
