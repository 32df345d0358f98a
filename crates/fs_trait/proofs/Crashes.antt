-- Any pick of a value for each name is an image.
use Rattle.std.proofs.Common.{◌≡◌, ◌⊎◌, inl, inr, ℕ, Bool, true, false, IsTrue, refl, sym, ◌∙◌, ap, subst, List, [], ◌∷◌, ◌++◌, append_assoc, if◌then◌else◌}
use Rattle.ost_types.specs.Path.{Name, Path, under}
use Rattle.fs_trait.specs.declared.types.Value.{Value}
use Rattle.fs_trait.specs.declared.types.Value.TheVariants.{Absent, Folder, Link, File}
use Rattle.fs_trait.specs.View.{Disk, View}
use Rattle.fs_trait.specs.Image.{is_folder, Holds, Image, masked_from, crashed}
use Rattle.fs_trait.proofs.Images.{not_both}

masked_from-under : (pick : Path → Value) (g rest : Path) (x : Name) → masked_from pick g (rest ++ x ∷ []) ≡ (if is_folder (masked_from pick g rest) then pick (g ++ (rest ++ x ∷ [])) else Absent)
unfolding masked_from
masked_from-under pick g [] x = refl
masked_from-under pick g (a ∷ rest) x = by (is_folder (pick g)) (masked_from-under pick (under g a) rest x)
  where
    by : (b : Bool) → masked_from pick (under g a) (rest ++ x ∷ []) ≡ (if is_folder (masked_from pick (under g a) rest) then pick (under g a ++ (rest ++ x ∷ [])) else Absent)
        → (if b then masked_from pick (under g a) (rest ++ x ∷ []) else Absent) ≡ (if is_folder (if b then masked_from pick (under g a) rest else Absent) then pick (g ++ (a ∷ (rest ++ x ∷ []))) else Absent)
    by true e = subst (λ q. masked_from pick (under g a) (rest ++ x ∷ []) ≡ (if is_folder (masked_from pick (under g a) rest) then pick q else Absent)) (append_assoc g (a ∷ []) (rest ++ x ∷ [])) e
    by false e = refl

pub crashed-under : (pick : Path → Value) (bytes : ℕ → List ℕ) (v : View) (f : Path) (x : Name) → (crashed pick bytes v).at (under f x) ≡ (if is_folder ((crashed pick bytes v).at f) then pick (under f x) else Absent)
unfolding crashed
crashed-under pick bytes v f x = masked_from-under pick [] f x

at_root : (pick : Path → Value) (bytes : ℕ → List ℕ) (v : View) → (crashed pick bytes v).at [] ≡ pick []
unfolding crashed masked_from
at_root pick bytes v = refl

metas : (pick : Path → Value) (bytes : ℕ → List ℕ) (v : View) (n : ℕ) → (crashed pick bytes v).meta n ≡ v.now.meta n
unfolding crashed
metas pick bytes v n = refl

kept : (pick : Path → Value) (bytes : ℕ → List ℕ) (v : View) (n : ℕ) → IsTrue (v.synced n) → (crashed pick bytes v).bytes n ≡ v.now.bytes n
unfolding crashed
kept pick bytes v n is = by (v.synced n) is
  where
    by : (b : Bool) → b ≡ true → (if b then v.now.bytes n else bytes n) ≡ v.now.bytes n
    by true e = refl
    by false e = let t : false ≡ true = e in cc

pub Image-crashed : (pick : Path → Value) (bytes : ℕ → List ℕ) (v : View) → pick [] ≡ v.now.at [] → ((p : Path) → Holds v p (pick p)) → Image v (crashed pick bytes v)
Image-crashed pick bytes v root picks = record {
  root = at_root pick bytes v ∙ root;
  held = λ f x folder. subst (Holds v (under f x)) (sym (crashed-under pick bytes v f x ∙ taken _ _ _ folder)) (picks (under f x));
  gone = λ f x none. crashed-under pick bytes v f x ∙ left_out _ _ _ none;
  meta = metas pick bytes v;
  bytes = kept pick bytes v;
}
  where
    taken : (b : Bool) (y z : Value) → b ≡ true → (if b then y else z) ≡ y
    taken true y z e = refl
    taken false y z e = let n : false ≡ true = e in cc

    left_out : (b : Bool) (y z : Value) → b ≡ false → (if b then y else z) ≡ z
    left_out true y z e = let n : true ≡ false = e in cc
    left_out false y z e = refl
