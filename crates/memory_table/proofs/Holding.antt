-- What a change of the map makes of the function that it holds.
use Rattle.std.proofs.Common.{◌≡◌, ◌≢◌, ◌⊎◌, inl, inr, ℕ, Bool, true, false, ◌&&◌, if◌then◌else◌, refl, sym, ◌∙◌, ap, subst, List, [], ◌∷◌, length, Option, Some, None, Result, Ok, Err, OnOk, IfOk, Contains, ◌↔◌, arith}
use Rattle.std.specs.Bool.{Decides}
use Rattle.std.specs.Global.{Vec}
use Rattle.std.specs.BTreeMap.{BTreeMap}
use Rattle.std.specs.List.Sorted.{IsStrictlySortedBy}
use Rattle.ost_types.specs.Text.{IsName}
use Rattle.std.specs.Cmp.Lexicographic.{slice_cmp}
use Rattle.std.specs.Ordering.{nat_cmp}
use Rattle.ost_types.specs.Path.{Name, Path, AreNames, under, same_name, same_path, is_in}
use Rattle.ost_types.specs.Flat.{flat}
use Rattle.ost_types.proofs.Flats.{flat-injective}
use Rattle.ost_types.proofs.Paths.{same_name-Decides, same_path-Decides, under-not_root, under-folder, under-is_in, is_in-under, root_or_under}
use Rattle.fs_trait.specs.View.{put}
use Rattle.fs_trait.proofs.Puts.{put-here, put-apart}
use Rattle.memory_table.specs.declared.folder.Folder.{Folder}
use Rattle.memory_table.specs.declared.tree.Tree.{Tree}
use Rattle.memory_table.specs.Bytes.{at_bytes, HasSome}
use Rattle.memory_table.specs.Tree.{look, look_in, Holds, HasAny, IsNamesIn}
use Rattle.memory_table.proofs.Splitting.{same_last, last_name, AreNames-folder, no_flat}

same_test : {P Q : Type 0} (a b : Bool) → Decides a P → Decides b Q → (P → Q) → (Q → P) → a ≡ b
same_test true true d e to back = refl
same_test false false d e to back = refl
same_test true false d e to back = let n : false ≡ true = e.1 (to (d.0 refl)) in cc
same_test false true d e to back = let n : false ≡ true = d.1 (back (e.0 refl)) in cc

and-Decides : {P Q : Type 0} (a b : Bool) → Decides a P → Decides b Q → Decides (a && b) (P × Q)
and-Decides true true d e = ((λ h. (d.0 refl, e.0 refl)), λ h. refl)
and-Decides true false d e = ((λ h. let n : false ≡ true = h in cc), λ h. e.1 h.1)
and-Decides false b d e = ((λ h. let n : false ≡ true = h in cc), λ h. d.1 h.0)

module _ {V : Type 0} where
  -- a folder's names taken out
  pub taken : (m n : BTreeMap (Vec ℕ) (Folder V)) (a t x : List ℕ) → at_bytes n t ≡ (if same_name a t then None else at_bytes m t) → look_in x (at_bytes n t) ≡ (if same_name a t then None else look_in x (at_bytes m t))
  taken m n a t x is = ap (look_in x) is ∙ go (same_name a t)
    where
      go : (c : Bool) → look_in x (if c then None else at_bytes m t) ≡ (if c then None else look_in x (at_bytes m t))
      go true = refl
      go false = refl

  -- a folder's names put back, with another value at one
  module _ (old : List ℕ → Name → Option V) (a b : List ℕ) (v : Option V) (before after : Folder V) (mid new : BTreeMap (Vec ℕ) (Folder V)) where
    pub replaced : ((x : Name) → at_bytes before.values x ≡ old a x)
        → ((t : List ℕ) (x : Name) → look_in x (at_bytes mid t) ≡ (if same_name a t then None else old t x))
        → ((x : Name) → at_bytes after.values x ≡ (if same_name b x then v else at_bytes before.values x))
        → ((t : List ℕ) → at_bytes new t ≡ (if same_name a t then Some after else at_bytes mid t))
        → (t : List ℕ) (x : Name) → look_in x (at_bytes new t) ≡ (if same_name a t && same_name b x then v else old t x)
    replaced here rest in_names in_folders t x = ap (look_in x) (in_folders t) ∙ folder (same_name a t) (same_name-Decides a t) (rest t x)
      where
        name : (c : Bool) → a ≡ t → (if c then v else at_bytes before.values x) ≡ (if c then v else old t x)
        name true e = refl
        name false e = here x ∙ ap (λ s. old s x) e

        folder : (c : Bool) → Decides c (a ≡ t) → look_in x (at_bytes mid t) ≡ (if c then None else old t x) → look_in x (if c then Some after else at_bytes mid t) ≡ (if c && same_name b x then v else old t x)
        folder true d e = in_names x ∙ name (same_name b x) (d.0 refl)
        folder false d e = e

  pub Holds-new : (m : Tree V) (v : Option V) → m.root ≡ v → ((t : List ℕ) (x : Name) → look m t x ≡ None) → Holds m (put [] v (λ p. None))
  Holds-new m v root none = record { root = root ∙ sym (put-here [] v (λ p. None)); below = λ f x names. none (flat f) x ∙ sym (put-apart [] v (λ p. None) (under f x) (λ e. under-not_root f x (sym e))) }

  pub Holds-same : (m : Tree V) (g h : Path → Option V) → ((p : Path) → g p ≡ h p) → Holds m g → Holds m h
  Holds-same m g h same holds = record { root = holds.root ∙ same []; below = λ f x names. holds.below f x names ∙ same (under f x) }

  pub Holds-root : (m n : Tree V) (p : Path) (v : Option V) (g : Path → Option V) → p ≡ [] → n.root ≡ v → ((t : List ℕ) (x : Name) → look n t x ≡ look m t x) → Holds m g → Holds n (put p v g)
  Holds-root m n p v g is root same holds = subst (λ q. Holds n (put q v g)) (sym is) (record {
    root = root ∙ sym (put-here [] v g);
    below = λ f x names. same (flat f) x ∙ holds.below f x names ∙ sym (put-apart [] v g (under f x) (λ e. under-not_root f x (sym e)));
  })

  pub Holds-put : (m n : Tree V) (f : Path) (x : Name) (a b : List ℕ) (v : Option V) (g : Path → Option V) → AreNames f → a ≡ flat f → b ≡ x → n.root ≡ m.root
      → ((t : List ℕ) (y : Name) → look n t y ≡ (if same_name a t && same_name b y then v else look m t y)) → Holds m g → Holds n (put (under f x) v g)
  unfolding put
  Holds-put m n f x a b v g nf af bx root all holds = record {
    root = root ∙ holds.root ∙ sym (put-apart (under f x) v g [] (under-not_root f x));
    below = λ h y nh. all (flat h) y ∙ ap (λ c. if c then v else look m (flat h) y) (test h y nh) ∙ both h y (same_path (under f x) (under h y)) (holds.below h y nh);
  }
    where
      both : (h : Path) (y : Name) (c : Bool) → look m (flat h) y ≡ g (under h y) → (if c then v else look m (flat h) y) ≡ (if c then v else g (under h y))
      both h y true e = refl
      both h y false e = e

      test : (h : Path) (y : Name) → AreNames h → same_name a (flat h) && same_name b y ≡ same_path (under f x) (under h y)
      test h y nh = same_test _ _ (and-Decides _ _ (same_name-Decides a (flat h)) (same_name-Decides b y)) (same_path-Decides (under f x) (under h y))
          (λ (e, d). ap (λ k. under k x) (flat-injective f h nf nh (sym af ∙ e)) ∙ ap (under h) (sym bx ∙ d))
          (λ e. let s : f ≡ h = under-folder f h x y e in (af ∙ ap flat s, bx ∙ same_last h x y (ap (λ k. under k x) (sym s) ∙ e)))

  pub Holds-clear : (m n : Tree V) (f : Path) (a : List ℕ) (g : Path → Option V) → AreNames f → a ≡ flat f → n.root ≡ m.root
      → ((t : List ℕ) (y : Name) → look n t y ≡ (if same_name a t then None else look m t y)) → Holds m g → Holds n (λ p. if is_in f p then None else g p)
  unfolding is_in
  Holds-clear m n f a g nf af root all holds = record {
    root = root ∙ holds.root ∙ ap (λ c. if c then None else g []) (sym (not_in f));
    below = λ h y nh. all (flat h) y ∙ ap (λ c. if c then None else look m (flat h) y) (test h y nh) ∙ both h y (is_in f (under h y)) (holds.below h y nh);
  }
    where
      not_in : (f : Path) → is_in f [] ≡ false
      not_in [] = refl
      not_in (z ∷ f) = refl

      both : (h : Path) (y : Name) (c : Bool) → look m (flat h) y ≡ g (under h y) → (if c then None else look m (flat h) y) ≡ (if c then None else g (under h y))
      both h y true e = refl
      both h y false e = e

      test : (h : Path) (y : Name) → AreNames h → same_name a (flat h) ≡ is_in f (under h y)
      test h y nh = same_test _ _ (same_name-Decides a (flat h)) ((λ e. e), (λ e. e))
          (λ e. subst (λ k. is_in f (under k y) ≡ true) (flat-injective f h nf nh (sym af ∙ e)) (is_in-under f y))
          (λ e. let u = under-is_in f (under h y) e in af ∙ ap flat (sym (under-folder h f y u.0 u.1)))

  pub Holds-get : (m : Tree V) (g : Path → Option V) (p : Path) (t a b : List ℕ) (r : Option V) → Holds m g → AreNames p → t ≡ flat p → t ≢ []
      → ((f : Path) (x : Name) → AreNames (under f x) → t ≡ flat (under f x) → (a ≡ flat f) × (b ≡ x)) → r ≡ look m a b → r ≡ g p
  unfolding flat
  Holds-get m g p t a b r holds np tp some parts is = go (root_or_under p)
    where
      go : (p ≡ []) ⊎ ((f : Path) × (x : Name) × (p ≡ under f x)) → r ≡ g p
      go (inl e) = absurd (some (tp ∙ ap flat e))
      go (inr (f, x, e)) =
          let nu = subst AreNames e np in
          let s = parts f x nu (tp ∙ ap flat e) in
          is ∙ ap (λ k. look m k b) s.0 ∙ ap (look m (flat f)) s.1 ∙ holds.below f x (AreNames-folder f x nu) ∙ ap g (sym e)

  -- the names in a folder
  pub in_names : (m : Tree V) (g : Path → Option V) (f : Path) (a : List ℕ) (x : Name) (names : Folder V) → Holds m g → AreNames f → a ≡ flat f → at_bytes m.folders a ≡ Some names → at_bytes names.values x ≡ g (under f x)
  in_names m g f a x names holds nf af is = ap (look_in x) (sym is ∙ ap (at_bytes m.folders) af) ∙ holds.below f x nf

  pub no_names : (m : Tree V) (g : Path → Option V) (f : Path) (a : List ℕ) (x : Name) → Holds m g → AreNames f → a ≡ flat f → at_bytes m.folders a ≡ None → g (under f x) ≡ None
  no_names m g f a x holds nf af is = sym (holds.below f x nf) ∙ ap (look_in x) (ap (at_bytes m.folders) (sym af) ∙ is)

  pub any_there : (m : Tree V) (g : Path → Option V) (f : Path) (a : List ℕ) (names : Folder V) (b : Bool) → Holds m g → AreNames f → a ≡ flat f → at_bytes m.folders a ≡ Some names → HasSome b names.values → HasAny b g f
  any_there m g f a names true holds nf af is (x, some) = (x, λ none. some (in_names m g f a x names holds nf af is ∙ none))
  any_there m g f a names false holds nf af is none = λ x. sym (in_names m g f a x names holds nf af is) ∙ none x

  -- a change at a path that isn't the root
  pub Holds-put_at : (m n : Tree V) (p : Path) (t a b : List ℕ) (v : Option V) (g : Path → Option V) → AreNames p → t ≡ flat p → t ≢ []
      → ((f : Path) (x : Name) → AreNames (under f x) → t ≡ flat (under f x) → (a ≡ flat f) × (b ≡ x))
      → n.root ≡ m.root → ((s : List ℕ) (y : Name) → look n s y ≡ (if same_name a s && same_name b y then v else look m s y)) → Holds m g → Holds n (put p v g)
  unfolding flat
  Holds-put_at m n p t a b v g np tp some parts root all holds = go (root_or_under p)
    where
      go : (p ≡ []) ⊎ ((f : Path) × (x : Name) × (p ≡ under f x)) → Holds n (put p v g)
      go (inl e) = absurd (some (tp ∙ ap flat e))
      go (inr (f, x, e)) =
          let nu = subst AreNames e np in
          let s = parts f x nu (tp ∙ ap flat e) in
          subst (λ q. Holds n (put q v g)) (sym e) (Holds-put m n f x a b v g (AreNames-folder f x nu) s.0 s.1 root all holds)

  pub listed : (m : Tree V) (g : Path → Option V) (f : Path) (a : List ℕ) (names : Folder V) (ns : List Name) → Holds m g → AreNames f → a ≡ flat f → at_bytes m.folders a ≡ Some names → IsStrictlySortedBy (slice_cmp nat_cmp) ns → ((x : Name) → Contains ns x ↔ (at_bytes names.values x ≢ None)) → IsNamesIn g f ns
  listed m g f a names ns holds nf af is sorted exact = record {
    ascending = sorted;
    there = λ x has none. (exact x).0 has (in_names m g f a x names holds nf af is ∙ none);
    all = λ x there. (exact x).1 (λ none. there (sym (in_names m g f a x names holds nf af is) ∙ none));
  }

  pub none_listed : (m : Tree V) (g : Path → Option V) (f : Path) (a : List ℕ) (ns : List Name) → Holds m g → AreNames f → a ≡ flat f → at_bytes m.folders a ≡ None → ns ≡ [] → IsNamesIn g f ns
  unfolding IsStrictlySortedBy
  none_listed m g f a ns holds nf af is empty = subst (IsNamesIn g f) (sym empty) (record {
    ascending = tt;
    there = λ x (k, less, e). absurd (omega (arith, less));
    all = λ x there. absurd (there (no_names m g f a x holds nf af is));
  })

pub name_at : (p : Path) (t a b : List ℕ) → AreNames p → t ≡ flat p → t ≢ [] → ((f : Path) (x : Name) → AreNames (under f x) → t ≡ flat (under f x) → (a ≡ flat f) × (b ≡ x)) → IsName b
unfolding flat
name_at p t a b np tp some parts = go (root_or_under p)
  where
    go : (p ≡ []) ⊎ ((f : Path) × (x : Name) × (p ≡ under f x)) → IsName b
    go (inl e) = absurd (some (tp ∙ ap flat e))
    go (inr (f, x, e)) =
        let s = parts f x (subst AreNames e np) (tp ∙ ap flat e) in
        subst IsName (sym s.1) (last_name p f x np e)

pub root_text : (p : Path) (t : List ℕ) → t ≡ flat p → t ≡ [] → p ≡ []
root_text p t is none = no_flat t p is (ap length none)

pub on_ok : {T E : Type 0} (r : Result T E) (P Q : Type 0) → (P → Q) → OnOk r P → OnOk r Q
on_ok (Ok x) P Q to h = to h
on_ok (Err e) P Q to h = h

pub both_ok : {T E : Type 0} (r : Result T E) (P Q R : T → Type 0) → ((x : T) → P x → Q x → R x) → IfOk r P → IfOk r Q → IfOk r R
both_ok (Ok x) P Q R to p q = to x p q
both_ok (Err e) P Q R to p q = p
