-- Names in a folder.
use Rattle.std.proofs.Common.{◌≡◌, ◌≢◌, Bool, true, false, cond, [], ◌∷◌, Option, Some, None, refl, sym, ◌∙◌, ap}
use Rattle.ost_types.specs.Path.{Name, Path, same_name, same_path, under, is_in}
use Rattle.ost_types.proofs.Paths.{same_name-Decides, same_path-Decides, under-is_in, is_in-under, under-folder}
use Rattle.tree_build.specs.Objects.{name_in}

some_if : {A : Type 0} (b : Bool) (o : Option A) (x : A) → cond b o None ≡ Some x → (b ≡ true) × (o ≡ Some x)
some_if true o x e = (refl, e)
some_if false o x e = let n : None ≡ Some x = e in cc

pub under-name_in : (f p : Path) (x : Name) → name_in f p ≡ Some x → p ≡ under f x
unfolding name_in
under-name_in [] [] x e = cc
under-name_in [] (y ∷ []) x e = cc
under-name_in [] (y ∷ z ∷ p) x e = cc
under-name_in (a ∷ f) [] x e = cc
under-name_in (a ∷ f) (y ∷ p) x e =
    let s = some_if (same_name a y) (name_in f p) x e in
    let t : a ≡ y = (same_name-Decides a y).0 s.0 in
    cc (t, under-name_in f p x s.1)

pub name_in-under : (f : Path) (x : Name) → name_in f (under f x) ≡ Some x
unfolding name_in
name_in-under [] x = refl
name_in-under (a ∷ f) x = let t : same_name a a ≡ true = (same_name-Decides a a).1 refl in rw t (name_in-under f x)

none_by : (f p : Path) (o : Option Name) → name_in f p ≡ o → ((x : Name) → p ≡ under f x → ⊥) → name_in f p ≡ None
none_by f p None e never = e
none_by f p (Some x) e never = absurd (never x (under-name_in f p x e))

pub name_in-none : (f p : Path) → ((x : Name) → p ≡ under f x → ⊥) → name_in f p ≡ None
name_in-none f p never = none_by f p (name_in f p) refl never

-- what lies in one folder lies in no other
pub name_in-other : (f g p : Path) → g ≢ f → is_in g p ≡ true → name_in f p ≡ None
name_in-other f g p apart inside =
    let w = under-is_in g p inside in
    name_in-none f p (λ x e. apart (under-folder g f w.0 x (sym w.1 ∙ e)))

pub name_in-outside : (f p : Path) → is_in f p ≡ false → name_in f p ≡ None
name_in-outside f p outside = name_in-none f p (λ x e. let n : true ≡ false = sym (is_in-under f x) ∙ ap (is_in f) (sym e) ∙ outside in cc)

pub name_in-inside : (f p : Path) → is_in f p ≡ true → (x : Name) × (name_in f p ≡ Some x)
name_in-inside f p inside = let w = under-is_in f p inside in (w.0, ap (name_in f) w.1 ∙ name_in-under f w.0)

-- by the names before the last one
pub name_in-split : (f g : Path) (x : Name) (b : Bool) → b ≡ same_path g f → name_in f (under g x) ≡ cond b (Some x) None
name_in-split f g x true e =
    let same : g ≡ f = (same_path-Decides g f).0 (sym e) in
    ap (λ h. name_in f (under h x)) same ∙ name_in-under f x
name_in-split f g x false e =
    name_in-none f (under g x) (λ y is. let s : same_path g f ≡ true = (same_path-Decides g f).1 (under-folder g f x y is) in let n : false ≡ true = e ∙ s in cc)

pub is_in-split : (f g : Path) (x : Name) (b : Bool) → b ≡ same_path g f → is_in f (under g x) ≡ b
is_in-split f g x true e =
    let same : g ≡ f = (same_path-Decides g f).0 (sym e) in
    ap (λ h. is_in f (under h x)) same ∙ is_in-under f x
is_in-split f g x false e = go (is_in f (under g x)) refl
  where
    go : (b : Bool) → is_in f (under g x) ≡ b → is_in f (under g x) ≡ false
    go false i = i
    go true i =
        let w = under-is_in f (under g x) i in
        let s : same_path g f ≡ true = (same_path-Decides g f).1 (under-folder g f x w.0 w.1) in
        let n : false ≡ true = e ∙ s in
        cc
