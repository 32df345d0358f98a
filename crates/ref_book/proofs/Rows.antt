-- The refs among what a map has are those that its values say.
use Rattle.std.proofs.Common.{◌≡◌, ◌≢◌, ◌⊎◌, inl, inr, ⊎_elim, ◌↔◌, ◌<◌, ℕ, Bool, true, false, refl, sym, ◌∙◌, ap, subst, arith, List, [], ◌∷◌, ◌++◌, map, Option, Some, None, Contains}
use Rattle.std.specs.BTreeMap.{BTreeMap, IsOrdered, get}
use Rattle.std.specs.Map.{lookup, keys_of}
use Rattle.std.specs.List.{AllByRecursion}
use Rattle.std.specs.List.Sorted.{IsStrictlySortedBy}
use Rattle.std.specs.Ordering.{is_eq, eq_by_cmp}
use Rattle.std.specs.declared.cmp.Ordering.TheVariants.{Less}
use Rattle.std.specs.Cmp.Lexicographic.{texts_ties}
use Rattle.std.proofs.lemmas.Cmp.{nat_list_cmp_total, eq_by_cmp_equiv}
use Rattle.std.proofs.lemmas.List.{map-append}
use Rattle.std.proofs.lemmas.List.Elements.{All-contains, All-cons, All-nil, filter_map-append, Contains-append_cases, Contains-append_left, Contains-append_right}
use Rattle.std.proofs.lemmas.Map.Keys.{IsDistinct-from_sorted}
use Rattle.std.proofs.lemmas.Map.Views.{Contains-from_lookup, lookup-from_Contains}
use Rattle.ost_types.proofs.Paths.{same_name-Decides}
use Rattle.rely_guarantee.specs.State.{State, RefOf}
use Rattle.ref_book.specs.Tracks.{Tracks, Lists, said, said_at}
use Rattle.ref_book.specs.Rows.{row, rows_of}
use Rattle.ref_book.specs.declared.book.RefBook.{RefBook}
use Rattle.ref_book.proofs.Keyed.{order}

-- the one of a list of one
one : {X : Type 0} (x y : X) → Contains (x ∷ []) y → x ≡ y
one x y has = All-contains (λ z. x ≡ z) (x ∷ []) y (All-cons (λ z. x ≡ z) x [] refl (All-nil (λ z. x ≡ z))) has

none : {X : Type 0} (y : X) → Contains [] y → ⊥
none y has = omega (arith, has.1)

first_of : {X : Type 0} (x : X) (xs : List X) → Contains (x ∷ xs) x
first_of x xs = (0, omega arith, refl)

module _ (n c : List ℕ) where
  here : (m : List ℕ) (p : Option (List ℕ)) (es : List (List ℕ × Option (List ℕ))) → m ≡ n → p ≡ Some c → Contains (rows_of ((m, p) ∷ es)) (n, c)
  here m None es a b = let z : None ≡ Some c = b in cc
  here m (Some d) es a b =
      let e : d ≡ c = cc in
      subst (λ x. Contains ((x, d) ∷ rows_of es) (n, c)) (sym a) (subst (λ x. Contains ((n, x) ∷ rows_of es) (n, c)) (sym e) (first_of (n, c) (rows_of es)))

  behind : (m : List ℕ) (p : Option (List ℕ)) (es : List (List ℕ × Option (List ℕ))) → Contains (rows_of es) (n, c) → Contains (rows_of ((m, p) ∷ es)) (n, c)
  behind m None es t = t
  behind m (Some d) es t = Contains-append_right ((m, d) ∷ []) (rows_of es) (n, c) t

  in_rows : (es : List (List ℕ × Option (List ℕ))) → Contains es (n, Some c) → Contains (rows_of es) (n, c)
  in_rows [] has = absurd (none _ has)
  in_rows (e ∷ es) has = ⊎_elim
      (λ h. let is = one e (n, Some c) h in here e.0 e.1 es (ap (λ (q : List ℕ × Option (List ℕ)). q.0) is) (ap (λ (q : List ℕ × Option (List ℕ)). q.1) is))
      (λ t. behind e.0 e.1 es (in_rows es t))
      (Contains-append_cases (e ∷ []) es (n, Some c) has)

  from_row : (m : List ℕ) (p : Option (List ℕ)) (es : List (List ℕ × Option (List ℕ))) → (Contains (rows_of es) (n, c) → Contains es (n, Some c)) → Contains (rows_of ((m, p) ∷ es)) (n, c) → Contains ((m, p) ∷ es) (n, Some c)
  from_row m None es rest h = Contains-append_right ((m, None) ∷ []) es (n, Some c) (rest h)
  from_row m (Some d) es rest h = ⊎_elim
      (λ k. subst (λ x. Contains (x ∷ es) (n, Some c)) (sym (ap (λ (q : List ℕ × List ℕ). (q.0, Some q.1)) (one (m, d) (n, c) k))) (first_of (n, Some c) es))
      (λ t. Contains-append_right ((m, Some d) ∷ []) es (n, Some c) (rest t))
      (Contains-append_cases ((m, d) ∷ []) (rows_of es) (n, c) h)

  from_rows : (es : List (List ℕ × Option (List ℕ))) → Contains (rows_of es) (n, c) → Contains es (n, Some c)
  from_rows [] has = absurd (none _ has)
  from_rows (e ∷ es) has = from_row e.0 e.1 es (λ h. from_rows es h) has

-- the rows ascend as the names do
all_rows : (P : List ℕ → Type 0) (es : List (List ℕ × Option (List ℕ))) → AllByRecursion P (keys_of es) → AllByRecursion P (map (λ r. r.0) (rows_of es))
all_rows P [] h = tt
all_rows P ((m, None) ∷ es) h = all_rows P es h.1
all_rows P ((m, Some c) ∷ es) h = (h.0, all_rows P es h.1)

sorted : (es : List (List ℕ × Option (List ℕ))) → IsStrictlySortedBy order (keys_of es) → IsStrictlySortedBy order (map (λ r. r.0) (rows_of es))
unfolding IsStrictlySortedBy
sorted [] h = tt
sorted ((m, None) ∷ es) h = sorted es h.1
sorted ((m, Some c) ∷ es) h = (all_rows (λ k. order m k ≡ Less) es h.0, sorted es h.1)

exact : (a b : List ℕ) → eq_by_cmp order a b ≡ true → a ≡ b
exact a b same = (same_name-Decides a b).0 (texts_ties a b ∙ same)

pub lists : (b : RefBook) (s : State) (rows : List (List ℕ × List ℕ)) → IsOrdered order b.refs → rows ≡ rows_of b.refs.entries → Tracks b s → Lists rows s
lists b s rows ordered is tracks = subst (λ l. Lists l s) (sym is) (record {
  ascending = sorted b.refs.entries ordered;
  refs = λ name commit. (
    (λ has. sym (tracks name) ∙ ap said (lookup-from_Contains (eq_by_cmp_equiv nat_list_cmp_total) name (Some commit) b.refs.entries (IsDistinct-from_sorted order _ ordered) (from_rows name commit b.refs.entries has))),
    (λ says. in_rows name commit b.refs.entries (Contains-from_lookup exact name (Some commit) b.refs.entries (there (said_at b name) (tracks name ∙ says)))),
  );
})
  where
    there : {c : List ℕ} (o : Option (Option (List ℕ))) → said o ≡ Some c → o ≡ Some (Some c)
    there None e = let z : None ≡ Some _ = e in cc
    there (Some x) e = ap Some e

-- one more entry
pub push_row : {B : Type 0} (f : B → List ℕ × Option (List ℕ)) (ys : List B) (y : B) → rows_of (map f (ys ++ y ∷ [])) ≡ rows_of (map f ys) ++ rows_of (f y ∷ [])
push_row f ys y = ap rows_of (map-append f ys (y ∷ [])) ∙ filter_map-append row (map f ys) (f y ∷ [])
