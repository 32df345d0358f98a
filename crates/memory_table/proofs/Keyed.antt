-- Maps whose keys are runs of bytes, read by the bytes.
use Rattle.std.proofs.Common.{◌≡◌, ◌≢◌, ◌↔◌, ℕ, Bool, true, false, if◌then◌else◌, refl, sym, ◌∙◌, ap, subst, List, [], ◌∷◌, map, Option, Some, None, IsSome, All, Contains, Result, Ok, Err, OnOk, OnErr, length, ◌<◌, arith}
use Rattle.std.specs.Global.{Vec}
use Rattle.std.specs.Bool.{Decides}
use Rattle.std.specs.BTreeMap.{BTreeMap, UpdatesBy, keys, btree_map_len}
use Rattle.std.specs.Map.{lookup, keys_of, KeepsOthers}
use Rattle.std.specs.List.Sorted.{IsStrictlySortedBy}
use Rattle.std.specs.List.{AllByRecursion}
use Rattle.std.specs.Ordering.{nat_cmp, is_eq, eq_by_cmp}
use Rattle.std.specs.declared.cmp.Ordering.{Ordering}
use Rattle.std.specs.declared.cmp.Ordering.TheVariants.{Less}
use Rattle.std.specs.Cmp.Lexicographic.{slice_cmp, texts_ties}
use Rattle.std.proofs.lemmas.Cmp.{nat_list_cmp_total, eq_by_cmp_equiv, on_total}
use Rattle.std.proofs.lemmas.Map.Lookups.{map_keys}
use Rattle.std.proofs.lemmas.Map.Views.{All-keys_from_lookup, IsSome-lookup_from_Contains, Contains-keys_from_lookup}
use Rattle.ost_types.specs.Path.{same_name}
use Rattle.ost_types.specs.Text.{IsName}
use Rattle.ost_types.proofs.Paths.{same_name-Decides}
use Rattle.memory_table.specs.Bytes.{at_bytes}

abbrev pub order : List ℕ → List ℕ → Ordering
order = slice_cmp nat_cmp

abbrev pub key_order : Vec ℕ → Vec ℕ → Ordering
key_order a b = order a.items b.items

module _ {V : Type 0} where
  -- what a change at the bytes a leaves at any bytes b
  pub updated : (a : List ℕ) (m n : BTreeMap (Vec ℕ) V) (w : Option V) → UpdatesBy key_order (λ k. order a k.items) m n w → (b : List ℕ) → at_bytes n b ≡ (if same_name a b then w else at_bytes m b)
  unfolding KeepsOthers
  updated a m n w h b = go (same_name a b) (same_name-Decides a b)
    where
      go : (c : Bool) → Decides c (a ≡ b) → at_bytes n b ≡ (if c then w else at_bytes m b)
      go true d = subst (λ l. at_bytes n l ≡ w) (d.0 refl) h.1
      go false d = h.3 (λ k. is_eq (order b k.items)) (λ x y. (eq_by_cmp_equiv nat_list_cmp_total).congr b x.items y.items) (λ k at. apart k.items (same_name b k.items) (same_name-Decides b k.items) (texts_ties b k.items) at)
        where
          apart : (l : List ℕ) (e : Bool) → Decides e (b ≡ l) → e ≡ is_eq (order b l) → is_eq (order a l) ≡ true → is_eq (order b l) ≡ false
          apart l false s t at = sym t
          apart l true s t at = let n : false ≡ true = d.1 ((same_name-Decides a l).0 (texts_ties a l ∙ at) ∙ sym (s.0 refl)) in cc

  -- the same of a key with the bytes a
  pub updated_at : (k a : List ℕ) (m n : BTreeMap (Vec ℕ) V) (w : Option V) → k ≡ a → UpdatesBy key_order (λ q. order k q.items) m n w → (b : List ℕ) → at_bytes n b ≡ (if same_name a b then w else at_bytes m b)
  updated_at k a m n w at h b = updated k m n w h b ∙ ap (λ l. if same_name l b then w else at_bytes m b) at

  pub all_keys : (m : BTreeMap (Vec ℕ) V) (P : List ℕ → Type 0) → ((x : List ℕ) → at_bytes m x ≢ None → P x) → All (λ k. P k.items) (keys m)
  all_keys m P each = All-keys_from_lookup (eq_by_cmp_equiv (on_total (λ (k : Vec ℕ). k.items) nat_list_cmp_total)) (λ k. P k.items) m.entries (λ q some. each q.items (there _ some))
    where
      there : (o : Option V) → IsSome o → o ≢ None
      there None some e = let n : false ≡ true = some in cc
      there (Some v) some e = cc

  keys_read : (es : List (Vec ℕ × V)) → keys_of (map_keys (λ k. k.items) es) ≡ map (λ k. k.items) (keys_of es)
  keys_read [] = refl
  keys_read (e ∷ es) = ap (λ l. e.0.items ∷ l) (keys_read es)

  lookup_read : (x : List ℕ) (es : List (Vec ℕ × V)) → lookup (λ k. is_eq (order x k)) (map_keys (λ k. k.items) es) ≡ lookup (λ k. is_eq (order x k.items)) es
  lookup_read x [] = refl
  lookup_read x (e ∷ es) = ap (λ r. if is_eq (order x e.0.items) then Some e.1 else r) (lookup_read x es)

  -- the keys' bytes are those at which there is something
  pub there : (m : BTreeMap (Vec ℕ) V) (x : List ℕ) → Contains (map (λ k. k.items) (keys m)) x ↔ (at_bytes m x ≢ None)
  there m x = (λ has none. gone _ (lookup_read x m.entries ∙ none) (IsSome-lookup_from_Contains (eq_by_cmp_equiv nat_list_cmp_total) x (map_keys (λ k. k.items) m.entries) (subst (λ l. Contains l x) (sym (keys_read m.entries)) has)), λ some. subst (λ l. Contains l x) (keys_read m.entries) (Contains-keys_from_lookup exact x (map_keys (λ k. k.items) m.entries) (found _ (λ none. some (sym (lookup_read x m.entries) ∙ none)))))
    where
      gone : (o : Option V) → o ≡ None → IsSome o → ⊥
      gone None e some = let n : false ≡ true = some in cc
      gone (Some v) e some = cc

      found : (o : Option V) → o ≢ None → IsSome o
      found None some = absurd (some refl)
      found (Some v) some = refl

      exact : (a b : List ℕ) → eq_by_cmp order a b ≡ true → a ≡ b
      exact a b same = (same_name-Decides a b).0 (texts_ties a b ∙ same)

-- the keys' bytes ascend
pub ascending : (ks : List (Vec ℕ)) → IsStrictlySortedBy key_order ks → IsStrictlySortedBy order (map (λ k. k.items) ks)
unfolding IsStrictlySortedBy
ascending [] sorted = tt
ascending (k ∷ ks) sorted = (all ks sorted.0, ascending ks sorted.1)
  where
    all : (l : List (Vec ℕ)) → AllByRecursion (λ q. key_order k q ≡ Less) l → AllByRecursion (λ q. order k.items q ≡ Less) (map (λ q. q.items) l)
    all [] h = tt
    all (q ∷ l) h = (h.0, all l h.1)

-- a map without entries has nothing
pub no_entries : {V : Type 0} (m : BTreeMap (Vec ℕ) V) (x : List ℕ) → ((0 < btree_map_len m) → ⊥) → at_bytes m x ≡ None
no_entries m x none = ap (lookup _) (go m.entries none)
  where
    go : {E : Type 0} (es : List E) → ((0 < length es) → ⊥) → es ≡ []
    go [] none = refl
    go (e ∷ es) none = absurd (none (omega arith))

-- there is something at names alone
abbrev pub AtNames : {V : Type 0} → BTreeMap (Vec ℕ) V → Type 0
AtNames m = (x : List ℕ) → at_bytes m x ≢ None → ∥ IsName x ∥₁

pub AtNames-updated : {V : Type 0} (m n : BTreeMap (Vec ℕ) V) (a : List ℕ) (w : Option V) → (w ≢ None → IsName a) → ((b : List ℕ) → at_bytes n b ≡ (if same_name a b then w else at_bytes m b)) → AtNames m → AtNames n
AtNames-updated m n a w here is was x some = go (same_name a x) (same_name-Decides a x) (is x)
  where
    go : (c : Bool) → Decides c (a ≡ x) → at_bytes n x ≡ (if c then w else at_bytes m x) → ∥ IsName x ∥₁
    go true d e = ∣ subst IsName (d.0 refl) (here (λ none. some (e ∙ none))) ∣₁
    go false d e = was x (λ none. some (e ∙ none))

pub AtNames-inserted : {V T E : Type 0} (r : Result T E) (m n : BTreeMap (Vec ℕ) V) (k a : List ℕ) (v : V) → k ≡ a → IsName a → OnOk r (UpdatesBy key_order (λ q. order k q.items) m n (Some v)) → OnErr r (n.entries ≡ m.entries) → AtNames m → AtNames n
AtNames-inserted (Ok o) m n k a v at name is kept was = AtNames-updated m n k (Some v) (λ some. subst IsName (sym at) name) (updated k m n (Some v) is) was
AtNames-inserted (Err e) m n k a v at name is kept was = λ x some. was x (λ none. some (ap (lookup _) kept ∙ none))
