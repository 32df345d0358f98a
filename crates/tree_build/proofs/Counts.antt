-- How many objects the items have, and what their types keep.
use Rattle.std.proofs.Common.{◌≡◌, ◌≢◌, ℕ, ◌<◌, ◌≤◌, ◌+◌, ◌-◌, List, [], ◌∷◌, length, get_or, drop, Option, Some, None, refl, sym, ◌∙◌, ap, subst, arith}
use Rattle.std.proofs.lemmas.List.Elements.{All-cons, All-same, All-nil}
use Rattle.std.proofs.lemmas.List.{drop_all}
use Rattle.ost_types.specs.Path.{AreNames}
use Rattle.ost_forms.specs.declared.tree_item.BodySpec.{BodySpec}
use Rattle.ost_forms.specs.declared.tree_item.TreeItem.{TreeItem}
use Rattle.tree_build.specs.Items.{AreTyped, IsWide}
use Rattle.tree_build.specs.Objects.{work}
use Rattle.tree_build.proofs.Works.{work_file, work_folder}
use Rattle.tree_build.proofs.Steps.{drop_before}

pub count_more : (items : List TreeItem) (n : ℕ) (i : TreeItem) (count : ℕ) → 0 < n → n ≤ length items → i ≡ get_or items (n - 1) i → (i.body ≡ None → count ≡ 2) → (i.body ≢ None → count ≡ 1)
    → (length (work (drop (n - 1) items)) ≡ length (work (drop n items)) + count) × (count ≤ 2)
count_more items n i count some within is folder file = go i.body refl
  where
    go : (b : Option BodySpec) → i.body ≡ b → (length (work (drop (n - 1) items)) ≡ length (work (drop n items)) + count) × (count ≤ 2)
    go None e = let l = ap (λ l. length (work l)) (drop_before items n i some within is) ∙ work_folder i (drop n items) e in (omega (arith, l, folder e), omega (arith, folder e))
    go (Some body) e =
        let other : i.body ≢ None = λ n. let z : Some body ≡ None = sym e ∙ n in cc in
        let l = ap (λ l. length (work l)) (drop_before items n i some within is) ∙ work_file i (drop n items) body e in
        (omega (arith, l, file other), omega (arith, file other))

pub typed_more : (items : List TreeItem) (n : ℕ) (i : TreeItem) → 0 < n → n ≤ length items → i ≡ get_or items (n - 1) i → AreNames i.path → IsWide i.meta → AreTyped (drop n items) → AreTyped (drop (n - 1) items)
typed_more items n i some within is names wide typed = record {
  names = All-same (λ (j : TreeItem). AreNames j.path) (drop (n - 1) items) (i ∷ drop n items) (drop_before items n i some within is) (All-cons (λ (j : TreeItem). AreNames j.path) i (drop n items) names typed.names);
  numbers = All-same (λ (j : TreeItem). IsWide j.meta) (drop (n - 1) items) (i ∷ drop n items) (drop_before items n i some within is) (All-cons (λ (j : TreeItem). IsWide j.meta) i (drop n items) wide typed.numbers);
}

none_work : length (work []) ≡ 0
unfolding work
none_work = refl

pub none_left : (items : List TreeItem) (n : ℕ) → length items ≤ n → 0 ≡ length (work (drop n items))
none_left items n all = sym (ap (λ l. length (work l)) (drop_all n items all) ∙ none_work)

pub typed_none : (items : List TreeItem) (n : ℕ) → length items ≤ n → AreTyped (drop n items)
typed_none items n all = subst AreTyped (sym (drop_all n items all)) (record { names = All-nil (λ (j : TreeItem). AreNames j.path); numbers = All-nil (λ (j : TreeItem). IsWide j.meta) })
