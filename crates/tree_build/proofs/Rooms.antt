-- What is left of a room behind some elements of a list.
use Rattle.std.proofs.Common.{◌≡◌, ℕ, ◌+◌, ◌<◌, ◌≤◌, List, ◌∷◌, length, take, get_or, sym, ap, subst, ◌∙◌, arith}
use Rattle.std.specs.Prelude.{All}
use Rattle.std.proofs.lemmas.List.{length-append}
use Rattle.std.proofs.lemmas.List.Elements.{All-more}
use Rattle.std.proofs.lemmas.List.Sums.{sum_by_more, sum_by_more_le}
use Rattle.ost_types.specs.Path.{Name, Path, AreNames, joined}
use Rattle.ost_types.proofs.Joined.{joined-take, joined-take_more}
use Rattle.ost_forms.specs.declared.tree_item.TreeItem.{TreeItem}
use Rattle.tree_build.specs.Items.{AreTyped, IsWide}
use Rattle.tree_build.specs.Brief.{HasText, item_size, tree_size, text_limit}

-- one name more
pub path_more : (p : Path) (n : ℕ) (x : Name) → n < length p → x ≡ get_or p n x → length (joined (take (n + 1) p)) ≡ length (joined (take n p)) + 1 + length x
path_more p n x less is =
    let more = ap length (joined-take_more p n x less is) in
    let one = length-append (joined (take n p)) (47 ∷ x) in
    omega (arith, more, one)

pub path_over : (p : Path) (n : ℕ) (x : Name) (all room : ℕ) → n < length p → x ≡ get_or p n x → all ≡ length (joined (take n p)) + room → room < 1 + length x → all < length (joined p)
path_over p n x all room less is so_far over =
    let more = path_more p n x less is in
    let within = joined-take p (n + 1) in
    omega (arith, more, within, so_far, over)

-- ---- items

pub size_more : (items : List TreeItem) (n : ℕ) (i : TreeItem) → n < length items → i ≡ get_or items n i → tree_size (take (n + 1) items) ≡ tree_size (take n items) + item_size i
size_more items n i less is = sum_by_more item_size items n i less ∙ ap (λ j. tree_size (take n items) + item_size j) (sym is)

pub typed_take : (items : List TreeItem) (n : ℕ) (i : TreeItem) → n < length items → i ≡ get_or items n i → AreNames i.path → IsWide i.meta → AreTyped (take n items) → AreTyped (take (n + 1) items)
typed_take items n i less is names wide typed = record {
  names = All-more (λ (j : TreeItem). AreNames j.path) items n i less typed.names (subst (λ j. AreNames j.path) is names);
  numbers = All-more (λ (j : TreeItem). IsWide j.meta) items n i less typed.numbers (subst (λ j. IsWide j.meta) is wide);
}

pub texts_take : (items : List TreeItem) (n : ℕ) (i : TreeItem) → n < length items → i ≡ get_or items n i → HasText i.body → All (λ j. HasText j.body) (take n items) → All (λ j. HasText j.body) (take (n + 1) items)
texts_take items n i less is text texts = All-more (λ (j : TreeItem). HasText j.body) items n i less texts (subst (λ j. HasText j.body) is text)

-- the item that doesn't fit makes all too large
pub size_over : (items : List TreeItem) (n : ℕ) (i : TreeItem) (room : ℕ) → n < length items → i ≡ get_or items n i → text_limit ≡ tree_size (take n items) + room → room < item_size i → tree_size items ≤ text_limit → ⊥
size_over items n i room less is so_far over le =
    let within = sum_by_more_le item_size items n i less in
    let same : item_size i ≡ item_size (get_or items n i) = ap item_size is in
    omega (arith, within, same, so_far, over, le)
