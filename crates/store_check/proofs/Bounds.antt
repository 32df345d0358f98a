-- Bounds on paths, with an entry more.
use Rattle.std.proofs.Common.{◌≡◌, ◌⊎◌, inl, inr, ◌+◌, ◌≤◌, List, [], ◌∷◌, ◌++◌, length, length-append, map, refl, sym, ◌∙◌, ap, subst, arith}
use Rattle.std.specs.Prelude.{Contains}
use Rattle.std.proofs.lemmas.List.{get_or-map, length-map}
use Rattle.std.proofs.lemmas.List.Elements.{Contains-append_left, Contains-append_right}
use Rattle.ost_types.specs.Path.{Name, Path, joined}
use Rattle.store_check.specs.declared.extent.Extent.{Extent}
use Rattle.store_check.specs.Extents.{At, Covers, IsWith}

mapped : {X Y : Type 0} (f : X → Y) (xs : List X) (x : X) → Contains xs x → Contains (map f xs) (f x)
mapped f xs x (k, less, is) = (k, omega (arith, less, length-map xs f), get_or-map f xs k x (f x) less ∙ ap f is)

abbrev pub Nothing : Path → Type 0
Nothing p = ⊥

pub covers_nothing : (P : Path → Type 0) (e : Extent) → ((p : Path) → P p → ⊥) → Covers P e
covers_nothing P e none = record {
  paths = [];
  few = omega arith;
  all = λ p so. absurd (none p so);
  deep = λ p so. absurd (none p so);
  long = λ p so. absurd (none p so);
}

module _ (P Q R : Path → Type 0) (e below with : Extent) (name : Name) (is : IsWith e name below with) (covers : Covers P e) (inside : Covers Q below) (split : (p : Path) → R p → P p ⊎ At name Q p) where
  own : List Path
  own = (name ∷ []) ∷ map (λ (r : Path). name ∷ r) inside.paths

  own_few : length own ≤ 1 + below.paths
  unfolding own
  own_few = omega (arith, inside.few, length-map inside.paths (λ (r : Path). name ∷ r))

  own_all : (rest : Path) → (rest ≡ []) ⊎ Q rest → Contains own (name ∷ rest)
  unfolding own
  own_all rest (inl none) = subst (λ r. Contains own (name ∷ r)) (sym none) (0, omega arith, refl)
  own_all rest (inr so) = Contains-append_right ((name ∷ []) ∷ []) (map (λ (r : Path). name ∷ r) inside.paths) (name ∷ rest) (mapped (λ (r : Path). name ∷ r) inside.paths rest (inside.all rest so))

  own_deep : (rest : Path) → (rest ≡ []) ⊎ Q rest → length (name ∷ rest) ≤ with.names
  own_deep rest (inl none) = omega (arith, ap length none, is.deeper)
  own_deep rest (inr so) = let deep = inside.deep rest so in omega (arith, deep, is.deeper)

  joined_long : (rest : Path) → length (joined (name ∷ rest)) ≡ 1 + (length name + length (joined rest))
  unfolding joined
  joined_long rest = omega (arith, length-append name (joined rest))

  nothing_long : (rest : Path) → rest ≡ [] → length (joined rest) ≡ 0
  unfolding joined
  nothing_long rest none = ap (λ r. length (joined r)) none

  own_long : (rest : Path) → (rest ≡ []) ⊎ Q rest → length (joined (name ∷ rest)) ≤ with.bytes
  own_long rest (inl none) = omega (arith, joined_long rest, nothing_long rest none, is.longer)
  own_long rest (inr so) = let long = inside.long rest so in omega (arith, joined_long rest, long, is.longer)

  pub covers_with : Covers R with
  covers_with = record {
    paths = covers.paths ++ own;
    few = omega (arith, covers.few, own_few, is.paths, length-append covers.paths own);
    all = λ p so. all_by p (split p so);
    deep = λ p so. deep_by p (split p so);
    long = λ p so. long_by p (split p so);
  }
    where
      all_by : (p : Path) → P p ⊎ At name Q p → Contains (covers.paths ++ own) p
      all_by p (inl so) = Contains-append_left covers.paths own p (covers.all p so)
      all_by p (inr at) = Contains-append_right covers.paths own p (subst (Contains own) (sym at.1) (own_all at.0 at.2))

      deep_by : (p : Path) → P p ⊎ At name Q p → length p ≤ with.names
      deep_by p (inl so) = let deep = covers.deep p so in omega (arith, deep, is.names)
      deep_by p (inr at) = subst (λ q. length q ≤ with.names) (sym at.1) (own_deep at.0 at.2)

      long_by : (p : Path) → P p ⊎ At name Q p → length (joined p) ≤ with.bytes
      long_by p (inl so) = let long = covers.long p so in omega (arith, long, is.bytes)
      long_by p (inr at) = subst (λ q. length (joined q) ≤ with.bytes) (sym at.1) (own_long at.0 at.2)

-- bounds on some paths are bounds on others among them
pub covers_fewer : (P Q : Path → Type 0) (e : Extent) → ((p : Path) → Q p → P p) → Covers P e → Covers Q e
covers_fewer P Q e among covers = record {
  paths = covers.paths;
  few = covers.few;
  all = λ p so. covers.all p (among p so);
  deep = λ p so. covers.deep p (among p so);
  long = λ p so. covers.long p (among p so);
}
