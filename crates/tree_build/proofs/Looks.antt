-- What the tests on two paths say.
use Rattle.std.proofs.Common.{◌≡◌, ◌<◌, ◌≤◌, Bool, true, false, ◌&&◌, cond, [], ◌∷◌, ◌++◌, length, take, Some, None, refl, sym, ◌∙◌, ap, subst, arith}
use Rattle.std.proofs.lemmas.List.{length_push}
use Rattle.std.specs.Cmp.Lexicographic.{pointwise}
use Rattle.ost_types.specs.Path.{Name, Path, same_name, same_path, is_below}
use Rattle.ost_types.proofs.Paths.{same_name-Decides, under-folder}
use Rattle.ost_forms.specs.declared.tree_item.TreeItem.{TreeItem}
use Rattle.tree_build.specs.Items.{GoesOn}
use Rattle.tree_build.specs.Objects.{name_in}
use Rattle.tree_build.proofs.Names.{name_in-split}

pub name_in-empty : (f p : Path) → length p ≡ 0 → name_in f p ≡ None
unfolding name_in
name_in-empty [] [] e = refl
name_in-empty (a ∷ f) [] e = refl
name_in-empty f (x ∷ p) e = absurd (omega (arith, e))

pub name_in-by : (f p g : Path) (x : Name) (b : Bool) → p ≡ g ++ x ∷ [] → b ≡ pointwise same_name g f → name_in f p ≡ cond b (Some x) None
unfolding same_path
name_in-by f p g x b is e = ap (name_in f) is ∙ name_in-split f g x b e

pub below_is : (f q : Path) → is_below f q ≡ pointwise same_name f (take (length f) q)
unfolding is_below
below_is [] q = refl
below_is (a ∷ f) [] = refl
below_is (a ∷ f) (x ∷ q) = ap (λ b. same_name a x && b) (below_is f q)

both : (a b : Bool) → a && b ≡ true → (a ≡ true) × (b ≡ true)
both true true e = (refl, refl)
both true false e = let n : false ≡ true = e in cc
both false b e = let n : false ≡ true = e in cc

below_long : (f q : Path) → is_below f q ≡ true → length q ≤ length f → f ≡ q
unfolding is_below
below_long [] [] e l = refl
below_long [] (x ∷ q) e l = absurd (omega (arith, l))
below_long (a ∷ f) [] e l = let n : false ≡ true = e in cc
below_long (a ∷ f) (x ∷ q) e l =
    let s = both _ _ e in
    let t : a ≡ x = (same_name-Decides a x).0 s.0 in
    cc (t, below_long f q s.1 (omega (arith, l)))

pub on_the_way : (i : TreeItem) (p f : Path) (x : Name) → p ≡ f ++ x ∷ [] → is_below f i.path ≡ true → length f < length i.path → GoesOn i p
on_the_way i p f x is below less = record { folder = f; name = x; is = is; above = below; shut = λ e. absurd (omega (arith, less, ap length e)) }

pub in_the_item : (i : TreeItem) (p f : Path) (x : Name) → p ≡ f ++ x ∷ [] → is_below f i.path ≡ true → i.body ≡ None → GoesOn i p
in_the_item i p f x is below folder = record { folder = f; name = x; is = is; above = below; shut = λ e. folder }

same_folder : (i : TreeItem) (p f : Path) (x : Name) → p ≡ f ++ x ∷ [] → (g : GoesOn i p) → g.folder ≡ f
same_folder i p f x is g = under-folder g.folder f g.name x (sym g.is ∙ is)

pub goes_below : (i : TreeItem) (p f : Path) (x : Name) → p ≡ f ++ x ∷ [] → GoesOn i p → is_below f i.path ≡ true
goes_below i p f x is g = subst (λ h. is_below h i.path ≡ true) (same_folder i p f x is g) g.above

pub goes_folder : (i : TreeItem) (p f : Path) (x : Name) → p ≡ f ++ x ∷ [] → is_below f i.path ≡ true → length i.path ≤ length f → GoesOn i p → i.body ≡ None
goes_folder i p f x is below long g = g.shut (same_folder i p f x is g ∙ below_long f i.path below long)

pub root_goes_nowhere : (i : TreeItem) (p : Path) → length p ≡ 0 → GoesOn i p → ⊥
root_goes_nowhere i p e g = omega (arith, e, ap length g.is, length_push g.folder g.name)

-- what `starts_with` answers
pub starts_is : (f q way : Path) (b : Bool) → way ≡ q → b ≡ pointwise same_name f (take (length f) way) → b ≡ is_below f q
starts_is f q way b same e = e ∙ ap (λ w. pointwise same_name f (take (length f) w)) same ∙ sym (below_is f q)
