-- What a function with one value changed answers.
use Rattle.std.proofs.Common.{◌≡◌, ◌≢◌, ◌⊎◌, inl, inr, ℕ, Bool, true, false, refl, sym, ◌∙◌, ap, subst, eqb, if◌then◌else◌, ◌==◌, List, [], ◌∷◌, ◌++◌}
use mathlib.Core.Path.{fun_ext}
use Rattle.std.specs.Bool.{Decides}
use Rattle.std.proofs.lemmas.Bool.Decides.{Decides-eqb}
use Rattle.ost_types.specs.Path.{Path, same_path}
use Rattle.ost_types.proofs.Paths.{same_path-self, same_path-apart, same_or_apart}
use Rattle.fs_trait.specs.declared.types.Value.{Value}
use Rattle.fs_trait.specs.View.{Disk, View, put, put_inode, set_at, set_bytes}
use Rattle.fs_trait.specs.Image.{Among}

module _ {A : Type 0} where
  pub put-here : (p : Path) (x : A) (f : Path → A) → put p x f p ≡ x
  unfolding put
  put-here p x f = rw (same_path-self p) refl

  pub put-apart : (p : Path) (x : A) (f : Path → A) (q : Path) → p ≢ q → put p x f q ≡ f q
  unfolding put
  put-apart p x f q apart = rw (same_path-apart p q apart) refl

  -- put back, it is as it was
  pub put-back : (p : Path) (x y : A) (f : Path → A) → f p ≡ x → put p x (put p y f) ≡ f
  put-back p x y f is = fun_ext (λ q. at q (same_or_apart p q))
    where
      at : (q : Path) → (p ≡ q) ⊎ (p ≢ q) → put p x (put p y f) q ≡ f q
      at q (inl e) = subst (λ r. put p x (put p y f) r ≡ f r) e (put-here p x _ ∙ sym is)
      at q (inr apart) = put-apart p x _ q apart ∙ put-apart p y f q apart

  pub put_inode-here : (n : ℕ) (x : A) (f : ℕ → A) → put_inode n x f n ≡ x
  unfolding put_inode
  put_inode-here n x f = let e : eqb n n ≡ true = (Decides-eqb n n).1 refl in rw e refl

  pub put_inode-apart : (n : ℕ) (x : A) (f : ℕ → A) (m : ℕ) → n ≢ m → put_inode n x f m ≡ f m
  unfolding put_inode
  put_inode-apart n x f m apart = let e : eqb n m ≡ false = differs (eqb n m) (Decides-eqb n m) apart in rw e refl
    where
      differs : {P : Type 0} (b : Bool) → Decides b P → (P → ⊥) → b ≡ false
      differs true d none = absurd (none (d.0 refl))
      differs false d none = refl

pub same_inode : (n m : ℕ) → (n ≡ m) ⊎ (n ≢ m)
same_inode n m = by (eqb n m) (Decides-eqb n m)
  where
    by : (b : Bool) → Decides b (n ≡ m) → (n ≡ m) ⊎ (n ≢ m)
    by true d = inl (d.0 refl)
    by false d = inr (λ e. let t : false ≡ true = d.1 e in cc)

module _ {A : Type 0} where
  pub put_inode-back : (n : ℕ) (x y : A) (f : ℕ → A) → f n ≡ x → put_inode n x (put_inode n y f) ≡ f
  put_inode-back n x y f is = fun_ext (λ m. at m (same_inode n m))
    where
      at : (m : ℕ) → (n ≡ m) ⊎ (n ≢ m) → put_inode n x (put_inode n y f) m ≡ f m
      at m (inl e) = subst (λ r. put_inode n x (put_inode n y f) r ≡ f r) e (put_inode-here n x _ ∙ sym is)
      at m (inr apart) = put_inode-apart n x _ m apart ∙ put_inode-apart n y f m apart

pub Among-push : (xs : List Value) (y x : Value) → Among (xs ++ y ∷ []) x → Among xs x ⊎ (x ≡ y)
Among-push [] y x (inl e) = inr e
Among-push [] y x (inr none) = absurd none
Among-push (z ∷ xs) y x (inl e) = inl (inl e)
Among-push (z ∷ xs) y x (inr more) = deeper (Among-push xs y x more)
  where
    deeper : Among xs x ⊎ (x ≡ y) → Among (z ∷ xs) x ⊎ (x ≡ y)
    deeper (inl m) = inl (inr m)
    deeper (inr e) = inr e
