-- Lists of names and of their paths.
use Rattle.std.proofs.Common.{◌≡◌, ◌<◌, ◌≤◌, ◌+◌, ℕ, List, [], ◌∷◌, ◌++◌, length, take, get_or, sym, ◌∙◌, ap, subst, ⊎_elim}
use Rattle.std.proofs.lemmas.List.{map_more, take_all}
use Rattle.ost_types.specs.Path.{Name, Path, IsPath, under}
use Rattle.ref_room.proofs.Lists.{taken_more}
use Rattle.sys_open.specs.Walk.{AreReached, paths_in}

-- one path more
pub more_paths : (f : Path) (names : List Name) (paths : List Path) (i : ℕ) (x : Name) → i < length names → x ≡ get_or names i x → paths ≡ paths_in f (take i names) → paths ++ under f x ∷ [] ≡ paths_in f (take (i + 1) names)
more_paths f names paths i x less is so_far =
    ap (λ l. l ++ under f x ∷ []) so_far ∙ ap (λ y. paths_in f (take i names) ++ under f y ∷ []) is ∙ sym (map_more (under f) names i x less)

pub more_reached : (f : Path) (names : List Name) (i : ℕ) (x : Name) → i < length names → x ≡ get_or names i x → IsPath (under f x) → AreReached f (take i names) → AreReached f (take (i + 1) names)
more_reached f names i x less is path so_far y has = ⊎_elim (so_far y) (λ e. subst (λ z. IsPath (under f z)) (sym e) path) (taken_more names i y x less is has)

pub all_paths : (f : Path) (names : List Name) (paths : List Path) (i : ℕ) → length names ≤ i → paths ≡ paths_in f (take i names) → paths ≡ paths_in f names
all_paths f names paths i le is = is ∙ ap (paths_in f) (take_all i names le)

pub all_reached : (f : Path) (names : List Name) (i : ℕ) → length names ≤ i → AreReached f (take i names) → AreReached f names
all_reached f names i le so_far = subst (AreReached f) (take_all i names le) so_far
