-- Where an entry of the list stands.
use Rattle.std.proofs.Common.{◌≡◌, ◌≢◌, ℕ, zero, suc, ◌<◌, ◌^◌, Bool, true, refl, sym, ◌∙◌, ap, arith, List, codes, All, IsTrue, Option, Some}
use Rattle.std.specs.Fmt.{decimal}
use Rattle.std.proofs.lemmas.Fmt.{decimal_injective}
use Rattle.std.proofs.lemmas.List.{append_cancel_left}
use Rattle.std.proofs.lemmas.List.Elements.{All-from_recursion}
use Rattle.std.proofs.lemmas.Str.{IsUtf8-from_ascii}
use Rattle.std.proofs.lemmas.Str.Ascii.{IsAscii-from_all}
use Rattle.std.proofs.lemmas.Bool.Decides.{nat_tests}
use Rattle.ost_types.specs.declared.meta.Meta.{Meta}
use Rattle.ost_types.specs.Path.{Name, IsPath, same_name, under}
use Rattle.ost_types.specs.Text.{IsName}
use Rattle.ost_types.proofs.Joined.{IsPath-under}
use Rattle.ost_types.proofs.Paths.{same_name-Decides}
use Rattle.fs_trait.specs.declared.types.Value.{Value}
use Rattle.fs_trait.specs.declared.types.Value.TheVariants.{Absent, Folder, Link, File}
use Rattle.fs_trait.specs.declared.types.Node as node
use Rattle.fs_trait.specs.View.{Disk}
use Rattle.fs_trait.specs.Effect.{IsNode}
use Rattle.fs_trait.specs.Seen.{Vacant, Directory, Symlink, Leaf, seen}
use Rattle.repo_layout.specs.BootPaths.{loader_path}
use Rattle.repo_layout.specs.Fixed.{entries_path, number}
use Rattle.repo_layout.specs.RefName.{is_part_byte}
use Rattle.repo_layout.specs.declared.fixed.Version.{Version}
use Rattle.repo_layout.specs.declared.fixed.Fixed.TheVariants.{Entries}
use Rattle.repo_layout.proofs.KnownPaths.{fixed-known}
use Rattle.boot_model.specs.Entries.{loader_target}
use Rattle.boot_model.specs.Listing.{IsLinkTo, Selects}
use Rattle.sys_open.proofs.ManyPaths.{joined_within}

-- ---- paths

small : (b : ℕ) → IsTrue (is_part_byte b) → (b < 128) × (b ≢ 0) × (b ≢ 47)
small b is = (grind (arith, nat_tests), grind (arith, nat_tests), grind (arith, nat_tests))

loader_bytes : All (λ b. IsTrue (is_part_byte b)) (codes "loader")
loader_bytes = All-from_recursion (λ b. IsTrue (is_part_byte b)) (codes "loader") (refl, (refl, (refl, (refl, (refl, (refl, tt))))))

pub loader_is_name : IsName (codes "loader")
loader_is_name = record {
  text = record { utf8 = IsUtf8-from_ascii (codes "loader") (IsAscii-from_all (codes "loader") (λ k d lt. (small _ (loader_bytes k d lt)).0)); no_zero = λ k d lt. (small _ (loader_bytes k d lt)).1 };
  no_slash = λ k d lt. (small _ (loader_bytes k d lt)).2;
  not_empty = λ e. cc;
  not_here = λ e. cc;
  not_above = λ e. cc;
  short = omega arith;
}

pub entry_is_path : (loader : Version) (file : Name) → IsName file → IsPath (under (entries_path (number loader)) file)
entry_is_path loader file is =
    let k = fixed-known (Entries loader) in
    (IsPath-under (entries_path (number loader)) file (record { names = k.names; few = omega (arith, k.few); short = omega (arith, k.short) }) is).0
    (omega (arith, k.few), omega (arith, k.short, joined_within (entries_path (number loader)), is.short))

-- ---- the version

-- a link is told as one
link_node : (d : Disk) (z : Value) (target : List ℕ) (o : Option node.Node) → IsNode d z o → IsLinkTo target (seen d z) → (m : Meta) × (o ≡ Some (node.TheVariants.Link m target))
link_node d Absent target o is to = let e : Vacant ≡ Symlink to.0 target = to.1 in cc
link_node d (Folder m) target o is to = let e : Directory m ≡ Symlink to.0 target = to.1 in cc
link_node d (Link m t) target o is to =
    let e : Symlink m t ≡ Symlink to.0 target = to.1 in
    let same : t ≡ target = cc in
    (m, is ∙ ap (λ x. Some (node.TheVariants.Link m x)) same)
link_node d (File k) target o is to = let e : Leaf k (d.meta k) (d.bytes k) ≡ Symlink to.0 target = to.1 in cc

pub selected_node : (d : Disk) (loader : ℕ) (o : Option node.Node) → IsNode d (d.at loader_path) o → Selects d loader → (m : Meta) × (o ≡ Some (node.TheVariants.Link m (loader_target loader)))
selected_node d loader o is selects = link_node d (d.at loader_path) (loader_target loader) o is selects.link

wide : (n : ℕ) → n < 2 → n < 2 ^ 64
wide n less = omega (arith, less)

same_version : (l m : ℕ) → l < 2 → m < 2 → loader_target l ≡ loader_target m → l ≡ m
unfolding loader_target
same_version l m a b e = decimal_injective l m (wide l a) (wide m b) (append_cancel_left (codes "loader.") (decimal l) (decimal m) e)

pub is_one : (loader : ℕ) → loader < 2 → loader_target loader ≡ loader_target 1 → 1 ≡ loader
is_one loader less e = sym (same_version loader 1 less (omega arith) e)

pub is_zero : (loader : ℕ) → loader < 2 → (loader_target loader ≡ loader_target 1 → ⊥) → 0 ≡ loader
is_zero zero less other = refl
is_zero (suc zero) less other = absurd (other refl)
is_zero (suc (suc n)) less other = absurd (omega (arith, less))

-- ---- comparing

pub link_target : (m n : Meta) (s t : List ℕ) → Some (node.TheVariants.Link m s) ≡ Some (node.TheVariants.Link n t) → s ≡ t
link_target m n s t e = cc

pub same_by : (s t : List ℕ) (b : Bool) → b ≡ same_name s t → b ≡ true → s ≡ t
same_by s t b told is = (same_name-Decides s t).0 (sym told ∙ is)
