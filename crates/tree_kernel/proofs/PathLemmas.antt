-- Paths of a kernel's files are paths.
use Rattle.std.proofs.Common.{◌≡◌, ◌≢◌, ◌≤◌, ◌<◌, ◌*◌, ℕ, IsTrue, List, [], ◌∷◌, length, codes, refl, sym, ap, subst, arith, All, length-append}
use Rattle.std.specs.List.{AllByRecursion}
use Rattle.std.proofs.lemmas.Bool.Decides.{nat_tests}
use Rattle.std.proofs.lemmas.List.Elements.{All-from_recursion}
use Rattle.std.proofs.lemmas.Str.{IsUtf8-from_ascii}
use Rattle.std.proofs.lemmas.Str.Ascii.{IsAscii-from_all}
use Rattle.ost_types.specs.Path.{Name, Path, AreNames, IsPath, joined, under}
use Rattle.ost_types.specs.Text.{IsName}
use Rattle.ost_types.proofs.Joined.{IsPath-from_joined}
use Rattle.repo_layout.specs.RefName.{is_part_byte}
use Rattle.tree_kernel.specs.Boots.{modules_path}

-- ---- names

small : (b : ℕ) → IsTrue (is_part_byte b) → (b < 128) × (b ≢ 0) × (b ≢ 47)
small b is = (grind (arith, nat_tests), grind (arith, nat_tests), grind (arith, nat_tests))

long_name : (x : List ℕ) → All (λ b. IsTrue (is_part_byte b)) x → 2 < length x → length x ≤ 255 → IsName x
long_name x bytes long short = record {
  text = record { utf8 = IsUtf8-from_ascii x (IsAscii-from_all x (λ k d lt. (small _ (bytes k d lt)).0)); no_zero = λ k d lt. (small _ (bytes k d lt)).1 };
  no_slash = λ k d lt. (small _ (bytes k d lt)).2;
  not_empty = λ e. omega (arith, long, ap length e);
  not_here = λ e. omega (arith, long, ap length e);
  not_above = λ e. omega (arith, long, ap length e);
  short = short;
}

word : (x : List ℕ) → AllByRecursion (λ b. IsTrue (is_part_byte b)) x → 2 < length x → length x ≤ 255 → IsName x
word x bytes = long_name x (All-from_recursion (λ b. IsTrue (is_part_byte b)) x bytes)

pub usr_name : IsName (codes "usr")
usr_name = word (codes "usr") (refl, (refl, (refl, tt))) (omega arith) (omega arith)

pub lib_name : IsName (codes "lib")
lib_name = word (codes "lib") (refl, (refl, (refl, tt))) (omega arith) (omega arith)

pub modules_name : IsName (codes "modules")
modules_name = word (codes "modules") (refl, (refl, (refl, (refl, (refl, (refl, (refl, tt))))))) (omega arith) (omega arith)

pub vmlinuz_name : IsName (codes "vmlinuz")
vmlinuz_name = word (codes "vmlinuz") (refl, (refl, (refl, (refl, (refl, (refl, (refl, tt))))))) (omega arith) (omega arith)

pub initramfs_name : IsName (codes "initramfs.img")
initramfs_name = word (codes "initramfs.img") (refl, (refl, (refl, (refl, (refl, (refl, (refl, (refl, (refl, (refl, (refl, (refl, (refl, tt))))))))))))) (omega arith) (omega arith)

-- ---- paths

joined-bound : (p : Path) → AreNames p → length (joined p) ≤ 256 * length p
unfolding joined
joined-bound [] names = omega arith
joined-bound (x ∷ p) names = omega (arith, length-append x (joined p), names.0.short, joined-bound p names.1)

few_names : (p : Path) → AreNames p → length p ≤ 8 → IsPath p
few_names p names few = IsPath-from_joined p names (omega (arith, few)) (omega (arith, joined-bound p names, few))

child_path : (folder f : Path) (name x : Name) → f ≡ folder → x ≡ name → IsPath (under folder name) → IsPath (under f x)
child_path folder f name x at is path = subst (λ g. IsPath (under g x)) (sym at) (subst (λ y. IsPath (under folder y)) (sym is) path)

pub usr_path : (f : Path) (x : Name) → f ≡ [] → x ≡ codes "usr" → IsPath (under f x)
usr_path f x at is = child_path [] f (codes "usr") x at is (few_names _ (usr_name, tt) (omega arith))

pub lib_path : (f : Path) (x : Name) → f ≡ codes "usr" ∷ [] → x ≡ codes "lib" → IsPath (under f x)
lib_path f x at is = child_path (codes "usr" ∷ []) f (codes "lib") x at is (few_names _ (usr_name, (lib_name, tt)) (omega arith))

pub modules_path_is : (f : Path) (x : Name) → f ≡ codes "usr" ∷ codes "lib" ∷ [] → x ≡ codes "modules" → IsPath (under f x)
modules_path_is f x at is = child_path (codes "usr" ∷ codes "lib" ∷ []) f (codes "modules") x at is (few_names _ (usr_name, (lib_name, (modules_name, tt))) (omega arith))

pub kver_path : (f : Path) (kver : Name) → f ≡ modules_path → IsName kver → IsPath (under f kver)
kver_path f kver at name = child_path modules_path f kver kver at refl (few_names _ (usr_name, (lib_name, (modules_name, (name, tt)))) (omega arith))

pub file_path_is : (f : Path) (kver x file : Name) → f ≡ under modules_path kver → x ≡ file → IsName kver → IsName file → IsPath (under f x)
file_path_is f kver x file at is name last = child_path (under modules_path kver) f file x at is (few_names _ (usr_name, (lib_name, (modules_name, (name, (last, tt))))) (omega arith))
