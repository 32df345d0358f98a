-- Whether items are in order, from the last one on.
use Rattle.std.proofs.Common.{◌≡◌, ℕ, ◌+◌, ◌-◌, ◌<◌, ◌≤◌, Bool, true, false, List, [], ◌∷◌, length, get_or, drop, Option, Some, None, IsTrue, refl, sym, ◌∙◌, ap, subst, arith}
use Rattle.std.specs.Prelude.{MatchOption}
use Rattle.std.specs.Option.{is_some}
use Rattle.std.specs.List.{AllByRecursion}
use Rattle.std.specs.List.Sorted.{IsStrictlySortedBy}
use Rattle.std.specs.declared.cmp.Ordering.TheVariants.{Less}
use Rattle.std.proofs.lemmas.List.{length-drop, get_or-drop, get_or-map, drop_all, length-map}
use Rattle.std.proofs.lemmas.List.Elements.{All-nil, All-cons}
use Rattle.std.proofs.lemmas.Map.Keys.{Less-from_sorted}
use Rattle.ost_types.specs.Path.{Path, path_cmp, joined, text_of}
use Rattle.ost_forms.specs.declared.tree_item.TreeItem.{TreeItem}
use Rattle.tree_build.specs.Items.{AreItems, FitsBody, IsBefore, IsItem, paths_of}
use Rattle.tree_build.proofs.Orders.{path_order}
use Rattle.tree_build.proofs.Steps.{drop_before}

-- ---- texts

text_short : (p : Path) → (length (text_of p) ≤ 1024 → length (joined p) ≤ 1024) × (length (joined p) ≤ 1024 → length (text_of p) ≤ 1024)
unfolding joined
text_short [] = (λ _. omega arith, λ _. omega arith)
text_short (x ∷ p) = (λ h. h, λ h. h)

pub short_by : (p : Path) (o : Option ℕ) (b : Bool) → b ≡ is_some o → MatchOption o (1024 < length (joined p)) (λ left. 1024 ≡ length (joined p) + left) → length p ≤ 64
    → (IsTrue b → (length p ≤ 64) × (length (text_of p) ≤ 1024)) × ((length p ≤ 64) × (length (text_of p) ≤ 1024) → IsTrue b)
short_by p None b e over few = (λ t. let n : true ≡ false = sym t ∙ e in cc, λ h. let s = (text_short p).0 h.1 in absurd (omega (arith, s, over)))
short_by p (Some left) b e is few = (λ t. (few, (text_short p).1 (omega (arith, is))), λ h. e)

-- ---- one item more

none : AreItems []
unfolding IsStrictlySortedBy
none = record { ascending = tt; few = All-nil (λ i. length i.path ≤ 64); short = All-nil (λ i. length (text_of i.path) ≤ 1024); modes = All-nil (λ i. FitsBody i.meta.mode i.body) }

pub items_none : (items : List TreeItem) (n : ℕ) → length items ≤ n → AreItems (drop n items)
items_none items n all = subst AreItems (sym (drop_all n items all)) none

later : (p q : Path) (rs : List Path) → path_cmp p q ≡ Less → AllByRecursion (λ r. path_cmp q r ≡ Less) rs → AllByRecursion (λ r. path_cmp p r ≡ Less) rs
later p q [] l h = tt
later p q (r ∷ rs) l h = (path_order.trans p q r l h.0, later p q rs l h.1)

above : (p : Path) (js : List TreeItem) → IsStrictlySortedBy path_cmp (paths_of js) → ((j : TreeItem) (rest : List TreeItem) → js ≡ j ∷ rest → path_cmp p j.path ≡ Less) → AllByRecursion (λ q. path_cmp p q ≡ Less) (paths_of js)
unfolding IsStrictlySortedBy
above p [] h first = tt
above p (j ∷ js) h first = let l = first j js refl in (l, later p j.path (paths_of js) l h.0)

first_behind : (items : List TreeItem) (n : ℕ) (j : TreeItem) (rest : List TreeItem) → drop n items ≡ j ∷ rest → (n < length items) × (get_or items n j ≡ j)
first_behind items n j rest e =
    let l : length (drop n items) ≡ length (j ∷ rest) = ap length e in
    let d = length-drop n items in
    let at : get_or (drop n items) 0 j ≡ j = ap (λ xs. get_or xs 0 j) e in
    let z : n + 0 ≡ n = omega arith in
    (omega (arith, l, d), ap (λ k. get_or items k j) (sym z) ∙ sym (get_or-drop n items 0 j) ∙ at)

ascending_more : (i : TreeItem) (js : List TreeItem) → IsStrictlySortedBy path_cmp (paths_of js) → AllByRecursion (λ q. path_cmp i.path q ≡ Less) (paths_of js) → IsStrictlySortedBy path_cmp (paths_of (i ∷ js))
unfolding IsStrictlySortedBy
ascending_more i js h a = (a, h)

pub items_more : (items : List TreeItem) (n : ℕ) (i : TreeItem) → 0 < n → n ≤ length items → i ≡ get_or items (n - 1) i → IsItem i → IsBefore items (n - 1) → AreItems (drop n items) → AreItems (drop (n - 1) items)
items_more items n i some within is item before behind =
    let js = drop n items in
    let up : n - 1 + 1 ≡ n = omega (arith, some) in
    let first : (j : TreeItem) (rest : List TreeItem) → js ≡ j ∷ rest → path_cmp i.path j.path ≡ Less = λ j rest e.
    let f = first_behind items n j rest e in
    let l : path_cmp (get_or items (n - 1) i).path (get_or items (n - 1 + 1) j).path ≡ Less = before (omega (arith, some, f.0)) i j in
    ap (λ (k : TreeItem). path_cmp k.path j.path) is ∙ ap (λ (k : TreeItem). path_cmp (get_or items (n - 1) i).path k.path) (sym (ap (λ m. get_or items m j) up ∙ f.1)) ∙ l in
    subst AreItems (sym (drop_before items n i some within is)) (record {
      ascending = ascending_more i js behind.ascending (above i.path js behind.ascending first);
      few = All-cons (λ j. length j.path ≤ 64) i js item.few behind.few;
      short = All-cons (λ j. length (text_of j.path) ≤ 1024) i js item.short behind.short;
      modes = All-cons (λ j. FitsBody j.meta.mode j.body) i js item.mode behind.modes;
    })

-- ---- each of items in order

pub item_of : (items : List TreeItem) (n : ℕ) (i : TreeItem) → n < length items → i ≡ get_or items n i → AreItems items → IsItem i
item_of items n i less is h = subst IsItem (sym is) (record { few = h.few n i less; short = h.short n i less; mode = h.modes n i less })

pub before_of : (items : List TreeItem) (n : ℕ) → AreItems items → IsBefore items n
before_of items n h less i j =
    let count : length (paths_of items) ≡ length items = length-map items (λ (k : TreeItem). k.path) in
    let l = Less-from_sorted path_cmp (paths_of items) n (n + 1) i.path h.ascending (omega arith) (omega (arith, less, count)) in
    let a : get_or (paths_of items) n i.path ≡ (get_or items n i).path = get_or-map (λ (k : TreeItem). k.path) items n i i.path (omega (arith, less)) in
    let b : get_or (paths_of items) (n + 1) i.path ≡ (get_or items (n + 1) j).path = get_or-map (λ (k : TreeItem). k.path) items (n + 1) j i.path less in
    ap (λ p. path_cmp p (get_or items (n + 1) j).path) (sym a) ∙ ap (λ p. path_cmp (get_or (paths_of items) n i.path) p) (sym b) ∙ l
