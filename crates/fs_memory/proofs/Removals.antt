-- A folder without names may go.
use Rattle.std.proofs.Common.{◌≡◌, ◌≢◌, ◌⊎◌, inl, inr, [], sym, ◌∙◌, ap, subst, false}
use Rattle.ost_types.specs.Path.{Name, Path, under}
use Rattle.ost_types.proofs.Paths.{same_or_apart}
use Rattle.fs_trait.specs.declared.types.Value.TheVariants.{Absent}
use Rattle.fs_trait.specs.View.{View, named}
use Rattle.fs_trait.specs.Image.{is_folder, IsTree}
use Rattle.fs_trait.specs.Effect.{HasNames}
use Rattle.fs_trait.proofs.Images.{named-here, named-apart}

pub tree-removed : (v : View) (p : Path) → IsTree v.now → HasNames false p v.now → IsTree (named p Absent v).now
tree-removed v p tree empty = record {
  root = ap is_folder (named-apart v p Absent [] empty.0) ∙ tree.root;
  folders = λ f x none. go f x none (same_or_apart p f) (same_or_apart p (under f x));
}
  where
    go : (f : Path) (x : Name) → is_folder ((named p Absent v).now.at f) ≡ false → (p ≡ f) ⊎ (p ≢ f) → (p ≡ under f x) ⊎ (p ≢ under f x) → (named p Absent v).now.at (under f x) ≡ Absent
    go f x none any (inl e) = subst (λ q. (named p Absent v).now.at q ≡ Absent) e (named-here v p Absent)
    go f x none (inl e) (inr apart) = named-apart v p Absent (under f x) apart ∙ subst (λ q. v.now.at (under q x) ≡ Absent) e (empty.1 x)
    go f x none (inr other) (inr apart) = named-apart v p Absent (under f x) apart ∙ tree.folders f x (ap is_folder (sym (named-apart v p Absent f other)) ∙ none)
