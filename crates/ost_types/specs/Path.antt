-- Paths: lists of names, the root's first. A name is its list of bytes.
use Rattle.std.specs.Prelude.{◌≤◌, ℕ, Bool, true, false, ◌&&◌, nat_eq, List, [], ◌∷◌, ◌++◌, length}
use Rattle.std.specs.Cmp.Lexicographic.{pointwise, slice_cmp}
use Rattle.std.specs.Ordering.{nat_cmp}
use Rattle.std.specs.declared.cmp.Ordering.{Ordering}
use Rattle.ost_types.specs.Text.{IsName}

abbrev pub Name : Type 0
Name = List ℕ

abbrev pub Path : Type 0
Path = List Name

-- each is the name of a node
abbrev pub AreNames : Path → Type 0
AreNames [] = Unit {0}
AreNames (x ∷ p) = IsName x × AreNames p

-- each name behind a `/`
unfoldable pub joined : Path → List ℕ
joined [] = []
joined (x ∷ p) = 47 ∷ (x ++ joined p)

-- the text of a path: `/` for the root
abbrev pub text_of : Path → List ℕ
text_of [] = 47 ∷ []
text_of (x ∷ p) = joined (x ∷ p)

-- What the type keeps: names, at most 80 of them, and a text of at most 2,048 bytes.
pub record IsPath (p : Path) : Type 0 where
  pub names : AreNames p
  pub few : length p ≤ 80
  pub short : length (text_of p) ≤ 2048

-- paths in order: as lists of names, and names by their bytes
abbrev pub path_cmp : Path → Path → Ordering
path_cmp = slice_cmp (slice_cmp nat_cmp)

-- whether two names, or two paths, are the same
abbrev pub same_name : Name → Name → Bool
same_name = pointwise nat_eq

unfoldable pub same_path : Path → Path → Bool
same_path = pointwise same_name

-- a name directly in a folder
abbrev pub under : Path → Name → Path
under folder name = folder ++ name ∷ []

-- whether the path is a name directly in the folder
unfoldable pub is_in : Path → Path → Bool
is_in [] [] = false
is_in [] (x ∷ []) = true
is_in [] (x ∷ y ∷ q) = false
is_in (a ∷ f) [] = false
is_in (a ∷ f) (x ∷ q) = same_name a x && is_in f q

-- whether a path is another one or lies below it
unfoldable pub is_below : Path → Path → Bool
is_below [] q = true
is_below (a ∷ p) [] = false
is_below (a ∷ p) (x ∷ q) = same_name a x && is_below p q
