-- The order of the items is kept.
use Rattle.std.proofs.Common.{◌≡◌, ◌-◌, arith, List, [], ◌∷◌, ◌++◌, length, take, map, refl, sym, ◌∙◌, ap, subst, append-nil, append_assoc, length-append}
use Rattle.std.proofs.lemmas.List.{take_at}
use Rattle.std.specs.List.{AllByRecursion}
use Rattle.std.specs.List.Sorted.{IsStrictlySortedBy}
use Rattle.std.specs.Cmp.{IsTotalOrder}
use Rattle.std.specs.Cmp.Lexicographic.{slice_cmp}
use Rattle.std.specs.Ordering.{nat_cmp, is_eq}
use Rattle.std.specs.declared.cmp.Ordering.{Ordering}
use Rattle.std.specs.declared.cmp.Ordering.TheVariants.{Less, Equal, Greater}
use Rattle.std.proofs.Common.{true, false, ℕ}
use Rattle.std.proofs.lemmas.Cmp.{nat_list_cmp_total, lists_total, eq_by_cmp_equiv}
use Rattle.ost_types.specs.declared.node.NodeName.{NodeName}
use Rattle.ost_types.specs.Path.{Name, Path, path_cmp, under}
use Rattle.ost_types.specs.PathMap.{Nodes, IsAscending, paths_of}
use Rattle.tree_read.specs.declared.item.Named.{Named}
use Rattle.tree_read.specs.declared.item.Named.TheVariants.{Folder, Attributes, File}
use Rattle.tree_read.specs.declared.item.Item.{Item}
use Rattle.tree_read.specs.Children.{Child, IsBefore, AreDescending, item_of}
use Rattle.tree_read.specs.Line.{Reaches, ComesBefore, AreInLine, AreAfter, InLine}
use Rattle.tree_read.specs.Order.{IsShort}

-- ---- the order of paths

pub path_order : IsTotalOrder path_cmp
path_order = lists_total nat_list_cmp_total

equal : (o : Ordering) → is_eq o ≡ true → o ≡ Equal
equal Less e = let n : false ≡ true = e in cc
equal Equal e = refl
equal Greater e = let n : false ≡ true = e in cc

name_itself : (x : Name) → slice_cmp nat_cmp x x ≡ Equal
name_itself x = equal (slice_cmp nat_cmp x x) ((eq_by_cmp_equiv nat_list_cmp_total).refl x)

-- a common front decides nothing
pub common : (f p q : Path) → path_cmp (f ++ p) (f ++ q) ≡ path_cmp p q
common [] p q = refl
common (x ∷ f) p q = rw (name_itself x) (common f p q)

pub less_below : (at : Path) (x : Name) → path_cmp at (under at x) ≡ Less
less_below at x = ap (λ p. path_cmp p (under at x)) (sym (append-nil at)) ∙ common at [] (x ∷ [])

less_by_name : (at : Path) (x y : Name) (r : Path) → IsBefore x y → path_cmp (under at x ++ r) (under at y) ≡ Less
less_by_name at x y r less = ap (λ q. path_cmp q (under at y)) (append_assoc at (x ∷ []) r) ∙ common at (x ∷ r) (y ∷ []) ∙ rw less refl

-- ---- lists

each : {X : Type 0} (P Q : X → Type 0) → ((x : X) → P x → Q x) → (xs : List X) → AllByRecursion P xs → AllByRecursion Q xs
each P Q f [] h = tt
each P Q f (x ∷ xs) h = (f x h.0, each P Q f xs h.1)

pub front : {X : Type 0} (P : X → Type 0) (xs ys : List X) → AllByRecursion P (xs ++ ys) → AllByRecursion P xs
front P [] ys h = tt
front P (x ∷ xs) ys h = (h.0, front P xs ys h.1)

pub back : {X : Type 0} (P : X → Type 0) (xs ys : List X) → AllByRecursion P (xs ++ ys) → AllByRecursion P ys
back P [] ys h = h
back P (x ∷ xs) ys h = back P xs ys h.1

pub both : {X : Type 0} (P : X → Type 0) (xs ys : List X) → AllByRecursion P xs → AllByRecursion P ys → AllByRecursion P (xs ++ ys)
both P [] ys h g = g
both P (x ∷ xs) ys h g = (h.0, both P xs ys h.1 g)

ascending_more : (ps : List Path) (p : Path) → IsAscending ps → AllByRecursion (λ q. path_cmp q p ≡ Less) ps → IsAscending (ps ++ p ∷ [])
unfolding IsStrictlySortedBy
ascending_more [] p a h = (tt, tt)
ascending_more (q ∷ ps) p a h = (both (λ y. path_cmp q y ≡ Less) ps (p ∷ []) a.0 (h.0, tt), ascending_more ps p a.1 h.1)

line_front : (xs ys : List Item) → AreInLine (xs ++ ys) → AreInLine xs
line_front [] ys h = tt
line_front (x ∷ xs) ys h = (front (λ i. ComesBefore i x) xs ys h.0, line_front xs ys h.1)

-- the next item comes before all others
pub next_first : (items : List Item) (next : Item) → AreInLine (items ++ next ∷ []) → AllByRecursion (ComesBefore next) items
next_first [] next h = tt
next_first (x ∷ items) next h = ((back (λ i. ComesBefore i x) items (next ∷ []) h.0).0, next_first items next h.1)

line_both : (xs ys : List Item) → AreInLine xs → AreInLine ys → AllByRecursion (λ j. AllByRecursion (λ i. ComesBefore i j) ys) xs → AreInLine (xs ++ ys)
line_both [] ys h g over = g
line_both (x ∷ xs) ys h g over = (both (λ i. ComesBefore i x) xs ys h.0 over.0, line_both xs ys h.1 g over.1)

pub paths_push : (found : Nodes) (p : Path) (n : NodeName) → paths_of (found ++ (p, n) ∷ []) ≡ paths_of found ++ p ∷ []
paths_push [] p n = refl
paths_push (x ∷ found) p n = ap (λ l. x.0 ∷ l) (paths_push found p n)

-- ---- the next item is taken

pub may_push : (found : Nodes) (items : List Item) (next : Item) → IsAscending (paths_of found) → InLine found (items ++ next ∷ []) → IsAscending (paths_of found ++ next.path ∷ [])
may_push found items next a h = ascending_more (paths_of found) next.path a (back (AreAfter found) items (next ∷ []) h.after).0

pub reaches_nothing : (x : Named) → Reaches x []
reaches_nothing (Folder tree meta) = tt
reaches_nothing (Attributes meta) = refl
reaches_nothing (File sum) = refl

after_next : (found : Nodes) (next i : Item) (n : NodeName) → AreAfter found i → ComesBefore next i → AreAfter (found ++ (next.path, n) ∷ []) i
after_next found next i n h before =
    subst (AllByRecursion (λ q. path_cmp q i.path ≡ Less)) (sym (paths_push found next.path n))
    (both (λ q. path_cmp q i.path ≡ Less) (paths_of found) (next.path ∷ []) h (subst (λ p. path_cmp p i.path ≡ Less) (append-nil next.path) (before [] (reaches_nothing next.named)), tt))

after_each : (found : Nodes) (next : Item) (n : NodeName) (items : List Item) → AllByRecursion (AreAfter found) items → AllByRecursion (ComesBefore next) items → AllByRecursion (AreAfter (found ++ (next.path, n) ∷ [])) items
after_each found next n [] h g = tt
after_each found next n (i ∷ items) h g = (after_next found next i n h.0 g.0, after_each found next n items h.1 g.1)

pub line_taken : (found : Nodes) (items : List Item) (next : Item) (n : NodeName) → InLine found (items ++ next ∷ []) → InLine (found ++ (next.path, n) ∷ []) items
line_taken found items next n h = record {
  line = line_front items (next ∷ []) h.line;
  after = after_each found next n items (front (AreAfter found) items (next ∷ []) h.after) (next_first items next h.line);
  short = front (λ i. IsShort i.path) items (next ∷ []) h.short;
}

-- ---- a folder is replaced by its entries and its attributes

module _ (found : Nodes) (items : List Item) (next : Item) (tree meta : List ℕ) (cs : List Child) (itself : Item) (is : next.named ≡ Folder tree meta) (at_it : itself.path ≡ next.path) (rest_of_it : itself.named ≡ Attributes meta)
    (descending : AreDescending cs) (h : InLine found (items ++ next ∷ [])) (short : AllByRecursion (λ i. IsShort i.path) (map (item_of next.path tree) cs)) where
  whole : (j : Item) → ComesBefore next j → (rest : Path) → path_cmp (next.path ++ rest) j.path ≡ Less
  whole j before rest = before rest (subst (λ x. Reaches x rest) (sym is) tt)

  child_before : (j : Item) (c : Child) → ComesBefore next j → ComesBefore (item_of next.path tree c) j
  child_before j c before rest r = subst (λ p. path_cmp p j.path ≡ Less) (sym (append_assoc next.path (c.name ∷ []) rest)) (whole j before (c.name ∷ rest))

  itself_before : (j : Item) → ComesBefore next j → ComesBefore itself j
  itself_before j before rest r = subst (λ p. path_cmp (p ++ rest) j.path ≡ Less) (sym at_it) (whole j before rest)

  children_before : (j : Item) (ds : List Child) → ComesBefore next j → AllByRecursion (λ i. ComesBefore i j) (map (item_of next.path tree) ds)
  children_before j [] before = tt
  children_before j (c ∷ ds) before = (child_before j c before, children_before j ds before)

  new : List Item
  new = map (item_of next.path tree) cs ++ itself ∷ []

  new_before : (j : Item) → ComesBefore next j → AllByRecursion (λ i. ComesBefore i j) new
  unfolding new
  new_before j before = both (λ i. ComesBefore i j) (map (item_of next.path tree) cs) (itself ∷ []) (children_before j cs before) (itself_before j before, tt)

  -- the attributes come before each entry
  itself_first : (c : Child) → ComesBefore itself (item_of next.path tree c)
  itself_first c rest r =
      let none : rest ≡ [] = subst (λ x. Reaches x rest) rest_of_it r in
      subst (λ p. path_cmp p (under next.path c.name) ≡ Less) (sym (ap (λ f. f ++ rest) at_it ∙ ap (λ r. next.path ++ r) none ∙ append-nil next.path)) (less_below next.path c.name)

  line_of : (ds : List Child) → AreDescending ds → AreInLine (map (item_of next.path tree) ds ++ itself ∷ [])
  line_of [] d = (tt, tt)
  line_of (c ∷ ds) d = (both (λ i. ComesBefore i (item_of next.path tree c)) (map (item_of next.path tree) ds) (itself ∷ []) (lower ds d.0) (itself_first c, tt), line_of ds d.1)
    where
      lower : (es : List Child) → AllByRecursion (λ x. IsBefore x.name c.name) es → AllByRecursion (λ i. ComesBefore i (item_of next.path tree c)) (map (item_of next.path tree) es)
      lower [] b = tt
      lower (x ∷ es) b = ((λ rest r. less_by_name next.path x.name c.name rest b.0), lower es b.1)

  after_child : (c : Child) → AreAfter found next → AreAfter found (item_of next.path tree c)
  after_child c a = each (λ q. path_cmp q next.path ≡ Less) (λ q. path_cmp q (under next.path c.name) ≡ Less) (λ q less. path_order.trans q next.path (under next.path c.name) less (less_below next.path c.name)) (paths_of found) a

  after_children : (ds : List Child) → AreAfter found next → AllByRecursion (AreAfter found) (map (item_of next.path tree) ds)
  after_children [] a = tt
  after_children (c ∷ ds) a = (after_child c a, after_children ds a)

  pub line_opened : InLine found (items ++ (map (item_of next.path tree) cs ++ itself ∷ []))
  unfolding new
  line_opened =
      let next_after : AreAfter found next = (back (AreAfter found) items (next ∷ []) h.after).0 in
      let next_short : IsShort next.path = (back (λ i. IsShort i.path) items (next ∷ []) h.short).0 in
      record {
        line = line_both items new (line_front items (next ∷ []) h.line) (line_of cs descending) (each (ComesBefore next) (λ j. AllByRecursion (λ i. ComesBefore i j) new) new_before items (next_first items next h.line));
        after = both (AreAfter found) items new (front (AreAfter found) items (next ∷ []) h.after)
            (both (AreAfter found) (map (item_of next.path tree) cs) (itself ∷ []) (after_children cs next_after) (subst (λ p. AllByRecursion (λ q. path_cmp q p ≡ Less) (paths_of found)) (sym at_it) next_after, tt));
        short = both (λ i. IsShort i.path) items new (front (λ i. IsShort i.path) items (next ∷ []) h.short)
            (both (λ i. IsShort i.path) (map (item_of next.path tree) cs) (itself ∷ []) short (subst IsShort (sym at_it) next_short, tt));
      }

-- a path below another doesn't come before it
pub not_above : (p rest : Path) → path_cmp (p ++ rest) p ≡ Less → ⊥
not_above p [] less = absurd (let n : Equal ≡ Less = sym (common p [] []) ∙ ap (path_cmp (p ++ [])) (append-nil p) ∙ less in cc)
not_above p (x ∷ rest) less = absurd (let n : Greater ≡ Less = sym (common p (x ∷ rest) []) ∙ ap (path_cmp (p ++ x ∷ rest)) (append-nil p) ∙ less in cc)

-- the root alone
pub line_begins : (root : Item) → root.path ≡ [] → InLine [] (root ∷ [])
line_begins root top = record {
  line = (tt, tt);
  after = (tt, tt);
  short = (subst IsShort (sym top) (omega arith, omega arith), tt);
}

-- the list without its last one
pub without_last : {X : Type 0} (old new rest : List X) (x : X) (n : ℕ) → n ≡ length old → new ≡ take (n - 1) old → old ≡ rest ++ x ∷ [] → new ≡ rest
without_last old new rest x n count is cut =
    is ∙ ap (take (n - 1)) cut ∙ take_at rest (x ∷ []) (n - 1) (omega (arith, count, ap length cut, length-append rest (x ∷ [])))

pub some_last : {X : Type 0} (xs : List X) (x : X) → xs ++ x ∷ [] ≡ [] → ⊥
some_last xs x e = omega (arith, ap length e, length-append xs (x ∷ []))
