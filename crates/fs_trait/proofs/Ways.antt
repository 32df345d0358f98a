-- In a tree the way to a name in a folder meets folders alone.
use Rattle.std.proofs.Common.{◌≡◌, ◌≢◌, ◌⊎◌, inl, inr, ℕ, Bool, true, false, refl, sym, ◌∙◌, ap, subst, List, [], ◌∷◌, ◌++◌, append_assoc, append-nil, Option, None}
use Rattle.ost_types.specs.Path.{Name, Path, under}
use Rattle.ost_types.proofs.Paths.{root_or_under}
use Rattle.fs_trait.specs.declared.types.Value.{Value}
use Rattle.fs_trait.specs.declared.types.Value.TheVariants.{Absent, Folder, Link, File}
use Rattle.fs_trait.specs.View.{Disk}
use Rattle.fs_trait.specs.Image.{is_folder, IsTree}
use Rattle.fs_trait.specs.Effect.{way, way_from, no_way, or_else}
use Rattle.fs_trait.proofs.Images.{folder_or_not, not_both}

no_way-folder : (x : Value) → is_folder x ≡ true → no_way x ≡ None
no_way-folder (Folder m) e = refl
no_way-folder Absent e = let n : false ≡ true = e in cc
no_way-folder (Link m t) e = let n : false ≡ true = e in cc
no_way-folder (File n) e = let n : false ≡ true = e in cc

module _ (d : Disk) (tree : IsTree d) where
  -- the folder of what is there
  pub folder_of : (f : Path) (x : Name) → d.at (under f x) ≢ Absent → is_folder (d.at f) ≡ true
  folder_of f x there = by (folder_or_not (d.at f))
    where
      by : (is_folder (d.at f) ≡ true) ⊎ (is_folder (d.at f) ≡ false) → is_folder (d.at f) ≡ true
      by (inl folder) = folder
      by (inr none) = absurd (there (tree.folders f x none))

  pub above : (f rest : Path) → is_folder (d.at (f ++ rest)) ≡ true → is_folder (d.at f) ≡ true
  above f [] is = subst (λ q. is_folder (d.at q) ≡ true) (append-nil f) is
  above f (x ∷ rest) is = folder_of f x (λ none. not_both (above (under f x) rest (subst (λ q. is_folder (d.at q) ≡ true) (sym (append_assoc f (x ∷ []) rest)) is)) (ap is_folder none))

  way_from-folder : (f rest : Path) (x : Name) → is_folder (d.at (f ++ rest)) ≡ true → way_from d f (rest ++ x ∷ []) ≡ None
  unfolding way_from
  way_from-folder f [] x is = refl
  way_from-folder f (a ∷ []) x is = let here : is_folder (d.at (under f a)) ≡ true = is in rw (no_way-folder (d.at (under f a)) here) refl
  way_from-folder f (a ∷ b ∷ rest) x is =
      let below : is_folder (d.at (under f a ++ (b ∷ rest))) ≡ true = subst (λ q. is_folder (d.at q) ≡ true) (sym (append_assoc f (a ∷ []) (b ∷ rest))) is in
      rw (no_way-folder (d.at (under f a)) (above (under f a) (b ∷ rest) below), way_from-folder (under f a) (b ∷ rest) x below) refl

  pub way-folder : (f : Path) (x : Name) → is_folder (d.at f) ≡ true → way d (under f x) ≡ None
  way-folder f x is = way_from-folder [] f x is

  pub way-there : (p : Path) → d.at p ≢ Absent → way d p ≡ None
  unfolding way_from
  way-there p there = by (root_or_under p)
    where
      by : (p ≡ []) ⊎ ((f : Path) × (x : Name) × (p ≡ under f x)) → way d p ≡ None
      by (inl e) = subst (λ q. way d q ≡ None) (sym e) refl
      by (inr w) = subst (λ q. way d q ≡ None) (sym w.2) (way-folder w.0 w.1 (folder_of w.0 w.1 (subst (λ q. d.at q ≢ Absent) w.2 there)))
