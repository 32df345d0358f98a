-- What is made and lies in no folder that is made: of these a folder's stand together, before all others.
use Rattle.std.proofs.Common.{◌≡◌, ◌≢◌, ◌⊎◌, inl, inr, Bool, true, false, cond, List, [], ◌∷◌, ◌++◌, Option, Some, None, refl, sym, ◌∙◌, ap, subst, ⊎_elim}
use Rattle.std.specs.Prelude.{not}
use Rattle.std.specs.List.{AllByRecursion, filter, cons_option}
use Rattle.std.specs.declared.cmp.Ordering.TheVariants.{Less}
use Rattle.ost_types.specs.Path.{Name, Path, path_cmp, under, is_in, is_below}
use Rattle.ost_types.proofs.Paths.{is_in-under, under-is_in, under-is_below, under-not_folder, same_or_apart}
use Rattle.ost_forms.specs.declared.tree_item.BodySpec.{BodySpec}
use Rattle.ost_forms.specs.declared.tree_item.TreeItem.{TreeItem}
use Rattle.tree_build.specs.Objects.{Made, made, made_of, child_in, children, name_in}
use Rattle.tree_build.specs.Building.{pending, left_by}
use Rattle.tree_build.proofs.Orders.{not_less_same, less_once, none_before_root, above_first, folder_first, between}
use Rattle.tree_build.proofs.Lists.{all_more, all_kept, maps_kept}
use Rattle.tree_build.proofs.Names.{name_in-other}
use Rattle.tree_build.proofs.Suffixes.{Beyond, Rises, FolderAt, IsPlaced, beyond_folder, sides}

abbrev pub AllMade : (Path → Type 0) → List Made → Type 0
AllMade Q ms = AllByRecursion (λ m. Q m.path) ms

all_left_by : (Q : Path → Type 0) (p : Path) (b : Option BodySpec) (ms : List Made) → AllMade Q ms → AllMade Q (left_by p b ms)
all_left_by Q p None ms h = all_kept (λ m. Q m.path) (λ m. Q m.path) (λ m. not (is_in p m.path)) (λ m q t. q) ms h
all_left_by Q p (Some b) ms h = h

-- what holds of each path of the items holds of each that is left
pub all_pending : (Q : Path → Type 0) (items : List TreeItem) → AllByRecursion (λ i. Q i.path) items → AllMade Q (pending items)
unfolding pending
all_pending Q [] h = tt
all_pending Q (i ∷ items) h = (h.0, all_left_by Q i.path i.body (pending items) (all_pending Q items h.1))

abbrev pub MadeRises : List Made → Type 0
MadeRises [] = Unit {0}
MadeRises (m ∷ ms) = AllMade (λ q. path_cmp m.path q ≡ Less) ms × MadeRises ms

rises_one : (m : Made) (ms : List Made) (b : Bool) → AllMade (λ q. path_cmp m.path q ≡ Less) ms → MadeRises ms → MadeRises (cond b (m ∷ ms) ms)
rises_one m ms true a r = (a, r)
rises_one m ms false a r = r

rises_kept : (t : Made → Bool) (ms : List Made) → MadeRises ms → MadeRises (filter t ms)
rises_kept t [] r = tt
rises_kept t (m ∷ ms) r =
    rises_one m (filter t ms) (t m) (all_kept (λ n. path_cmp m.path n.path ≡ Less) (λ n. path_cmp m.path n.path ≡ Less) t (λ n q e. q) ms r.0) (rises_kept t ms r.1)

rises_left_by : (p : Path) (b : Option BodySpec) (ms : List Made) → MadeRises ms → MadeRises (left_by p b ms)
rises_left_by p None ms r = rises_kept (λ m. not (is_in p m.path)) ms r
rises_left_by p (Some b) ms r = r

pub pending_rises : (items : List TreeItem) → Rises items → MadeRises (pending items)
unfolding pending
pending_rises [] r = tt
pending_rises (i ∷ items) r =
    (all_left_by (λ q. path_cmp i.path q ≡ Less) i.path i.body (pending items) (all_pending (λ q. path_cmp i.path q ≡ Less) items r.0), rises_left_by i.path i.body (pending items) (pending_rises items r.1))

-- the path lies in no folder of the items
abbrev pub IsFree : List TreeItem → Path → Type 0
IsFree items p = (g : Path) (y : Name) → p ≡ under g y → FolderAt items g → ⊥

not_true : (b : Bool) → not b ≡ true → b ≡ false
not_true true e = let n : false ≡ true = e in cc
not_true false e = refl

free_head : (i : TreeItem) (items : List TreeItem) → Beyond i.path items → IsFree (i ∷ items) i.path
free_head i items b g y is (inl e) = under-not_folder g y (sym is ∙ e.0)
free_head i items b g y is (inr f) = less_once i.path g (beyond_folder i.path g items b f) (subst (λ q. path_cmp g q ≡ Less) (sym is) (folder_first g y))

-- the same with one more item of this path and body
abbrev IsFreeBy : Path → Option BodySpec → List TreeItem → Path → Type 0
IsFreeBy p b items q = (g : Path) (y : Name) → q ≡ under g y → ((p ≡ g) × (b ≡ None)) ⊎ FolderAt items g → ⊥

free_kept : (p : Path) (b : Option BodySpec) (items : List TreeItem) (q : Path) → IsFree items q → is_in p q ≡ false → IsFreeBy p b items q
free_kept p b items q free out g y is (inl e) =
    let n : true ≡ false = sym (is_in-under p y) ∙ ap (λ h. is_in p (under h y)) e.0 ∙ ap (is_in p) (sym is) ∙ out in
    cc
free_kept p b items q free out g y is (inr f) = free g y is f

free_file : (p : Path) (b : BodySpec) (items : List TreeItem) (q : Path) → IsFree items q → IsFreeBy p (Some b) items q
free_file p b items q free g y is (inl e) = let n : Some b ≡ None = e.1 in cc
free_file p b items q free g y is (inr f) = free g y is f

free_left_by : (p : Path) (b : Option BodySpec) (items : List TreeItem) (ms : List Made) → AllMade (IsFree items) ms → AllMade (IsFreeBy p b items) (left_by p b ms)
free_left_by p None items ms h =
    all_kept (λ m. IsFree items m.path) (λ m. IsFreeBy p None items m.path) (λ m. not (is_in p m.path)) (λ m free t. free_kept p None items m.path free (not_true _ t)) ms h
free_left_by p (Some b) items ms h = all_more (λ m. IsFree items m.path) (λ m. IsFreeBy p (Some b) items m.path) (λ m free. free_file p b items m.path free) ms h

pub pending_free : (items : List TreeItem) → Rises items → AllMade (IsFree items) (pending items)
unfolding pending
pending_free [] r = tt
pending_free (i ∷ items) r = (free_head i items r.0, free_left_by i.path i.body items (pending items) (pending_free items r.1))

-- ---- what lies in a folder is the same among all that is made

none_child : (f : Path) (m : Made) → name_in f m.path ≡ None → child_in f m ≡ None
none_child f m e = rw e refl

children_left_by : (f p : Path) (b : Option BodySpec) (ms : List Made) → p ≢ f → children f (left_by p b ms) ≡ children f ms
children_left_by f p None ms apart =
    maps_kept (child_in f) (λ m. not (is_in p m.path)) (λ m t. none_child f m (name_in-other f p m.path apart (not_false _ t))) ms
  where
    not_false : (b : Bool) → not b ≡ false → b ≡ true
    not_false true e = refl
    not_false false e = let n : true ≡ false = e in cc
children_left_by f p (Some b) ms apart = refl

pub children_same : (f : Path) (items : List TreeItem) → Beyond f items → children f (made items) ≡ children f (pending items)
unfolding pending made
children_same f [] b = refl
children_same f (i ∷ items) b =
    ap (λ r. cons_option (child_in f (made_of (made items) i)) r)
    (children_same f items b.1 ∙ sym (children_left_by f i.path i.body (pending items) (λ e. not_less_same f i.path (sym e) b.0)))

-- ---- what lies in a folder stands together

module _ (front : List TreeItem) (i : TreeItem) (items : List TreeItem) (rises : Rises (front ++ i ∷ items)) where
  abbrev All : List TreeItem
  All = front ++ i ∷ items

  -- a path below the folder that lies in no folder of the items behind it lies directly in it
  pub directly : (o : Path) → IsPlaced All o → IsFree items o → path_cmp i.path o ≡ Less → is_below i.path o ≡ true → is_in i.path o ≡ true
  directly o (inl e) free after below = absurd (none_before_root i.path (subst (λ q. path_cmp i.path q ≡ Less) e after))
  directly o (inr w) free after below =
      let g = w.0 in
      let y = w.1 in
      let in_it : i.path ≡ g → is_in i.path o ≡ true = λ e. ap (is_in i.path) (w.2 ∙ ap (λ h. under h y) (sym e)) ∙ is_in-under i.path y in
      ⊎_elim
      (λ b. ⊎_elim in_it (λ apart.
      let less : path_cmp i.path g ≡ Less = above_first i.path g b apart in
      ⊎_elim (λ (l : path_cmp g i.path ≡ Less). absurd (less_once i.path g less l)) (λ s. ⊎_elim in_it (λ f. absurd (free g y w.2 f)) s) (sides front i items g rises w.3)) (same_or_apart i.path g))
      (λ e. absurd (not_less_same i.path o (e ∙ sym w.2) after))
      (under-is_below i.path g y (subst (λ q. is_below i.path q ≡ true) w.2 below))

  -- so no path behind one that isn't in the folder is
  pub none_behind : (o q : Path) → IsPlaced All o → IsFree items o → path_cmp i.path o ≡ Less → is_in i.path o ≡ false → path_cmp o q ≡ Less → is_in i.path q ≡ false
  none_behind o q placed free after out less = go (is_in i.path q) refl
    where
      go : (b : Bool) → is_in i.path q ≡ b → is_in i.path q ≡ false
      go false e = e
      go true e =
          let w = under-is_in i.path q e in
          let below : is_below i.path o ≡ true = between i.path o w.0 after (subst (λ r. path_cmp o r ≡ Less) w.1 less) in
          let n : true ≡ false = sym (directly o placed free after below) ∙ out in
          cc
