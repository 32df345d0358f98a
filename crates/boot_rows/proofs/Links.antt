-- One version is selected, and the links of a list lie in one folder.
use Rattle.std.proofs.Common.{◌≡◌, ℕ, ◌<◌, ◌++◌, List, [], ◌∷◌, codes, refl, sym, ◌∙◌, arith}
use Rattle.std.specs.Fmt.{decimal}
use Rattle.std.proofs.lemmas.Fmt.{decimal_injective}
use Rattle.std.proofs.lemmas.List.{append_cancel_left}
use Rattle.ost_types.specs.Path.{Path}
use Rattle.fs_trait.specs.Seen.{Symlink, shows}
use Rattle.fs_trait.specs.View.{Disk}
use Rattle.repo_layout.specs.BootPaths.{boot_link_path, loader_path}
use Rattle.boot_model.specs.declared.item.BootItem.{BootItem}
use Rattle.boot_model.specs.Entries.{boot_target, loader_target}
use Rattle.boot_model.specs.Items.{IsAt}
use Rattle.boot_model.specs.Listing.{IsLinkTo, LeadsEach, Selects}
use Rattle.boot_read.specs.Links.{HasSub}
use Rattle.boot_rows.specs.Written.{HasLinks}
use Rattle.boot_rows.proofs.Placed.{member_at}

one_link : (d : Disk) (p : Path) (a b : List ℕ) → IsLinkTo a (shows d p) → IsLinkTo b (shows d p) → a ≡ b
one_link d p a b x y = let one : Symlink x.0 a ≡ Symlink y.0 b = sym x.1 ∙ y.1 in cc

one_digit : (m n : ℕ) → m < 2 → n < 2 → decimal m ≡ decimal n → m ≡ n
one_digit m n small less e = decimal_injective m n (omega (arith, small)) (omega (arith, less)) e

pub one_loader : (d : Disk) (m n : ℕ) → Selects d m → Selects d n → m ≡ n
unfolding loader_target
one_loader d m n p q =
    let same : loader_target m ≡ loader_target n = one_link d loader_path (loader_target m) (loader_target n) p.link q.link in
    one_digit m n p.small q.small (append_cancel_left (codes "loader.") (decimal m) (decimal n) same)

pub one_sub : (d : Disk) (loader s t : ℕ) → HasSub d loader s → HasSub d loader t → s ≡ t
unfolding boot_target
one_sub d loader s t p q =
    let same : boot_target loader s ≡ boot_target loader t = one_link d (boot_link_path loader) (boot_target loader s) (boot_target loader t) p.link q.link in
    let behind : decimal loader ++ (46 ∷ decimal s) ≡ decimal loader ++ (46 ∷ decimal t) = append_cancel_left (codes "boot.") (decimal loader ++ (46 ∷ decimal s)) (decimal loader ++ (46 ∷ decimal t)) same in
    let last : 46 ∷ decimal s ≡ 46 ∷ decimal t = append_cancel_left (decimal loader) (46 ∷ decimal s) (46 ∷ decimal t) behind in
    let digits : decimal s ≡ decimal t = cc in
    one_digit s t p.small q.small digits

module _ (d : Disk) (loader : ℕ) where
  pub sub_at : (items : List BootItem) (leads : LeadsEach d loader items) (i : ℕ) (item : BootItem) (at : IsAt items i item) → HasSub d loader (leads i item at).sub
  sub_at items leads i item at = let l = leads i item at in record { small = l.small; link = l.link }

  pub has_sub : (items : List BootItem) → LeadsEach d loader items → HasLinks d loader items → (sub : ℕ) × HasSub d loader sub
  has_sub [] leads links = links refl
  has_sub (x ∷ items) leads links =
      let m = member_at (x ∷ items) 0 (omega arith) in
      ((leads 0 m.0 m.1).sub, sub_at (x ∷ items) leads 0 m.0 m.1)
