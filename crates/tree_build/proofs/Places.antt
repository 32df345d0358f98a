-- Where an item stands, with those behind it, and what is made of them.
use Rattle.std.proofs.Common.{◌≡◌, inl, inr, List, [], ◌∷◌, ◌++◌, Option, Some, None, refl, sym, ◌∙◌, ap, subst, ⊎_elim}
use Rattle.std.specs.List.{filter_map, cons_option}
use Rattle.std.specs.declared.cmp.Ordering.TheVariants.{Less}
use Rattle.std.proofs.lemmas.List.{append_assoc}
use Rattle.ost_types.specs.Path.{Name, path_cmp, under}
use Rattle.ost_forms.specs.declared.tree_item.TreeItem.{TreeItem}
use Rattle.tree_build.specs.Items.{HasFolder as ItemFolder}
use Rattle.tree_build.specs.Objects.{Object, Made, made, made_of, work, objects_of}
use Rattle.tree_build.proofs.Lists.{Among, contained_among, among_left, among_right, all_at}
use Rattle.tree_build.proofs.Works.{work_front, work_first}
use Rattle.tree_build.proofs.Suffixes.{Rises}
use Rattle.tree_build.proofs.Orders.{not_less_same, less_once, folder_first, none_before_root}

-- the item stands among them, and these behind it
pub record Stands (items : List TreeItem) (i : TreeItem) (behind : List TreeItem) : Type 0 where
  pub front : List TreeItem
  pub is : items ≡ front ++ i ∷ behind

pub stands_first : (i : TreeItem) (items : List TreeItem) → Stands (i ∷ items) i items
stands_first i items = record { front = []; is = refl }

pub stands_more : (j i : TreeItem) (items behind : List TreeItem) → Stands items i behind → Stands (j ∷ items) i behind
stands_more j i items behind s = record { front = j ∷ s.front; is = ap (λ r. j ∷ r) s.is }

pub stands_among : (i : TreeItem) (items : List TreeItem) → Among i items → (behind : List TreeItem) × Stands items i behind
stands_among i [] a = absurd a
stands_among i (j ∷ items) (inl e) = (items, record { front = []; is = ap (λ k. k ∷ items) e })
stands_among i (j ∷ items) (inr a) = let w = stands_among i items a in (w.0, stands_more j i items w.0 w.1)

pub among_stands : (items : List TreeItem) (i : TreeItem) (behind : List TreeItem) → Stands items i behind → Among i items
among_stands items i behind s = subst (Among i) (sym s.is) (among_right i s.front (i ∷ behind) (inl refl))

-- what stands behind an item stands among all
pub stands_behind : (items : List TreeItem) (i : TreeItem) (behind : List TreeItem) (j : TreeItem) (last : List TreeItem) → Stands items i behind → Stands behind j last → Stands items j last
stands_behind items i behind j last s t =
    record { front = s.front ++ i ∷ t.front; is = s.is ∙ ap (λ r. s.front ++ i ∷ r) t.is ∙ sym (append_assoc s.front (i ∷ t.front) (j ∷ last)) }

-- ---- what is made

pub made_stands : (items : List TreeItem) (m : Made) → Among m (made items) → (j : TreeItem) × (last : List TreeItem) × Stands items j last × (m ≡ made_of (made last) j)
unfolding made
made_stands [] m a = absurd a
made_stands (i ∷ items) m (inl e) = (i, items, stands_first i items, sym e)
made_stands (i ∷ items) m (inr a) = let w = made_stands items m a in (w.0, w.1, stands_more i w.0 items w.1 w.2, w.3)

made_more : (front : List TreeItem) (i : TreeItem) (items : List TreeItem) → Among (made_of (made items) i) (made (front ++ i ∷ items))
unfolding made
made_more [] i items = inl refl
made_more (j ∷ front) i items = inr (made_more front i items)

pub made_among : (items : List TreeItem) (i : TreeItem) (behind : List TreeItem) → Stands items i behind → Among (made_of (made behind) i) (made items)
made_among items i behind s = subst (λ is. Among (made_of (made behind) i) (made is)) (sym s.is) (made_more s.front i behind)

-- each object of an item is among all
pub work_among : (items : List TreeItem) (i : TreeItem) (behind : List TreeItem) (o : Object) → Stands items i behind → Among o (objects_of (made behind) i) → Among o (work items)
work_among items i behind o s a =
    let w = work_front s.front (i ∷ behind) in
    let e : work items ≡ (work behind ++ objects_of (made behind) i) ++ w.0 = ap work s.is ∙ w.1 ∙ ap (λ r. r ++ w.0) (work_first i behind) in
    subst (Among o) (sym e) (among_left o (work behind ++ objects_of (made behind) i) w.0 (among_right o (work behind) (objects_of (made behind) i) a))

-- ---- filters

pub among_maps : {A B : Type 0} (h : A → Option B) (y : B) (xs : List A) → Among y (filter_map h xs) → (x : A) × Among x xs × (h x ≡ Some y)
among_maps {A = A} {B = B} h y [] a = absurd a
among_maps {A = A} {B = B} h y (x ∷ xs) a = one (h x) refl (among_maps h y xs)
  where
    one : (o : Option B) → h x ≡ o → (Among y (filter_map h xs) → (z : A) × Among z xs × (h z ≡ Some y)) → (z : A) × Among z (x ∷ xs) × (h z ≡ Some y)
    one None e rest = let w = rest (subst (λ o. Among y (cons_option o (filter_map h xs))) e a) in (w.0, inr w.1, w.2)
    one (Some z) e rest = ⊎_elim
        (λ (same : z ≡ y). (x, inl refl, e ∙ ap Some same))
        (λ (t : Among y (filter_map h xs)). let w = rest t in (w.0, inr w.1, w.2)) (subst (λ o. Among y (cons_option o (filter_map h xs))) e a)

pub maps_among : {A B : Type 0} (h : A → Option B) (x : A) (y : B) (xs : List A) → Among x xs → h x ≡ Some y → Among y (filter_map h xs)
maps_among {A = A} {B = B} h x y [] a e = absurd a
maps_among {A = A} {B = B} h x y (z ∷ xs) (inl same) e = subst (λ o. Among y (cons_option o (filter_map h xs))) (sym (ap h same ∙ e)) (inl refl)
maps_among {A = A} {B = B} h x y (z ∷ xs) (inr a) e = one (h z) (maps_among h x y xs a e)
  where
    one : (o : Option B) → Among y (filter_map h xs) → Among y (cons_option o (filter_map h xs))
    one None t = t
    one (Some w) t = inr t

-- ---- at one path stands one item

pub one_at : (items : List TreeItem) (i j : TreeItem) → Rises items → Among i items → Among j items → i.path ≡ j.path → i ≡ j
one_at [] i j r a b same = absurd a
one_at (k ∷ items) i j r (inl e) (inl f) same = sym e ∙ f
one_at (k ∷ items) i j r (inl e) (inr b) same = absurd (not_less_same k.path j.path (ap (λ (t : TreeItem). t.path) e ∙ same) (all_at (λ (t : TreeItem). path_cmp k.path t.path ≡ Less) j items r.0 b))
one_at (k ∷ items) i j r (inr a) (inl f) same = absurd (not_less_same k.path i.path (ap (λ (t : TreeItem). t.path) f ∙ sym same) (all_at (λ (t : TreeItem). path_cmp k.path t.path ≡ Less) i items r.0 a))
one_at (k ∷ items) i j r (inr a) (inr b) same = one_at items i j r.1 a b same

-- what comes after an item stands behind it
after : (front : List TreeItem) (i j : TreeItem) (behind : List TreeItem) → Rises (front ++ i ∷ behind) → Among j (front ++ i ∷ behind) → path_cmp i.path j.path ≡ Less → Among j behind
after [] i j behind r (inl e) less = absurd (not_less_same i.path j.path (ap (λ (k : TreeItem). k.path) e) less)
after [] i j behind r (inr a) less = a
after (k ∷ front) i j behind r (inr a) less = after front i j behind r.1 a less
after (k ∷ front) i j behind r (inl e) less =
    let first : path_cmp k.path i.path ≡ Less = all_at (λ (t : TreeItem). path_cmp k.path t.path ≡ Less) i (front ++ i ∷ behind) r.0 (among_right i front (i ∷ behind) (inl refl)) in
    absurd (less_once i.path k.path (subst (λ (t : TreeItem). path_cmp i.path t.path ≡ Less) (sym e) less) first)

pub stands_after : (items : List TreeItem) → Rises items → (i : TreeItem) (behind : List TreeItem) (j : TreeItem) (x : Name) → Stands items i behind → Among j items → j.path ≡ under i.path x → (last : List TreeItem) × Stands behind j last
stands_after items rises i behind j x s a at =
    stands_among j behind
    (after s.front i j behind (subst Rises s.is rises) (subst (Among j) s.is a) (subst (λ p. path_cmp i.path p ≡ Less) (sym at) (folder_first i.path x)))

-- an item stands at one place
twice : (j : TreeItem) (xs : List TreeItem) (i : TreeItem) (g b : List TreeItem) → Rises (j ∷ xs) → j ≡ i → xs ≡ g ++ i ∷ b → ⊥
twice j xs i g b r e q = not_less_same j.path i.path (ap (λ (t : TreeItem). t.path) e) (all_at (λ (t : TreeItem). path_cmp j.path t.path ≡ Less) i xs r.0 (subst (Among i) (sym q) (among_right i g (i ∷ b) (inl refl))))

heads : (j k : TreeItem) (xs ys : List TreeItem) → j ∷ xs ≡ k ∷ ys → (j ≡ k) × (xs ≡ ys)
heads j k xs ys e = (cc, cc)

no_items : (j : TreeItem) (xs : List TreeItem) → [] ≡ j ∷ xs → ⊥
no_items j xs e = cc

behind_one : (xs : List TreeItem) (i : TreeItem) (f g a b : List TreeItem) → Rises xs → xs ≡ f ++ i ∷ a → xs ≡ g ++ i ∷ b → a ≡ b
behind_one [] i [] g a b r x y = absurd (no_items i a x)
behind_one [] i (k ∷ f) g a b r x y = absurd (no_items k (f ++ i ∷ a) x)
behind_one (j ∷ xs) i [] [] a b r x y = sym (heads j i xs a x).1 ∙ (heads j i xs b y).1
behind_one (j ∷ xs) i (k ∷ f) (l ∷ g) a b r x y = behind_one xs i f g a b r.1 (heads j k xs (f ++ i ∷ a) x).1 (heads j l xs (g ++ i ∷ b) y).1
behind_one (j ∷ xs) i [] (l ∷ g) a b r x y = absurd (twice j xs i g b r (heads j i xs a x).0 (heads j l xs (g ++ i ∷ b) y).1)
behind_one (j ∷ xs) i (k ∷ f) [] a b r x y = absurd (twice j xs i f a r (heads j i xs b y).0 (heads j k xs (f ++ i ∷ a) x).1)

pub stands_once : (items : List TreeItem) → Rises items → (i : TreeItem) (a b : List TreeItem) → Stands items i a → Stands items i b → a ≡ b
stands_once items rises i a b s t = behind_one items i s.front t.front a b rises s.is t.is

-- the root comes first
pub root_first : (i : TreeItem) (items : List TreeItem) → Rises (i ∷ items) → ItemFolder (i ∷ items) [] → (i.path ≡ []) × (i.body ≡ None)
root_first i items r h = go (contained_among h.item (i ∷ items) h.among)
  where
    go : Among h.item (i ∷ items) → (i.path ≡ []) × (i.body ≡ None)
    go (inl e) = (ap (λ (k : TreeItem). k.path) e ∙ h.at, ap (λ (k : TreeItem). k.body) e ∙ h.folder)
    go (inr a) = absurd (none_before_root i.path (subst (λ p. path_cmp i.path p ≡ Less) h.at (all_at (λ (t : TreeItem). path_cmp i.path t.path ≡ Less) h.item items r.0 a)))
