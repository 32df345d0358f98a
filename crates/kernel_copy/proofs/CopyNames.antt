-- The names and paths of the copies are names and paths.
use Rattle.std.proofs.Common.{◌≡◌, ◌≢◌, ◌≤◌, ◌<◌, ◌+◌, ◌*◌, inl, inr, ℕ, IsTrue, List, [], ◌∷◌, ◌++◌, length, codes, refl, ◌∙◌, ap, arith, subst, All, length-append, append_assoc}
use Rattle.std.specs.Prelude.{Result, IfOk}
use Rattle.std.specs.List.{AllByRecursion}
use Rattle.std.proofs.lemmas.Bool.Decides.{nat_tests}
use Rattle.std.proofs.lemmas.List.Elements.{All-append, All-from_recursion, All-weaker}
use Rattle.std.proofs.lemmas.Str.{IsUtf8-from_ascii}
use Rattle.std.proofs.lemmas.Str.Ascii.{IsAscii-from_all}
use Rattle.ost_types.specs.Text.{IsName}
use Rattle.ost_types.specs.Path.{Name, Path, AreNames, IsPath, joined, under}
use Rattle.ost_types.specs.Csum.{hex_of, IsHexDigit, IsHexSum}
use Rattle.ost_types.proofs.Splitting.{AreNames-append}
use Rattle.repo_layout.specs.OsName.{IsOsName}
use Rattle.repo_layout.specs.RefName.{is_part_byte}
use Rattle.repo_layout.specs.declared.folder.Folder.TheVariants.{Kernels}
use Rattle.repo_layout.specs.Paths.{folder_path}
use Rattle.repo_layout.specs.BootPaths.{kernel_folder, kernel_path}
use Rattle.repo_layout.proofs.KnownPaths.{folder-known}
use Rattle.boot_model.specs.Items.{IsKver, is_kver_byte}
use Rattle.kernel_copy.specs.Copies.{initramfs_name, vmlinuz_name}

-- ---- names

abbrev pub IsPlain : List ℕ → Type 0
IsPlain = All (λ b. IsTrue (is_kver_byte b))

small : (b : ℕ) → IsTrue (is_kver_byte b) → (b < 128) × (b ≢ 0) × (b ≢ 47)
small b is = (grind (arith, nat_tests), grind (arith, nat_tests), grind (arith, nat_tests))

part_byte : (b : ℕ) → IsTrue (is_part_byte b) → IsTrue (is_kver_byte b)
part_byte b is = grind (arith, nat_tests)

digit_byte : (b : ℕ) → IsHexDigit b → IsTrue (is_kver_byte b)
digit_byte b (inl h) = grind (arith, nat_tests)
digit_byte b (inr h) = grind (arith, nat_tests)

plain : (x : List ℕ) → AllByRecursion (λ b. IsTrue (is_kver_byte b)) x → IsPlain x
plain x bytes = All-from_recursion (λ b. IsTrue (is_kver_byte b)) x bytes

IsPlain-append : (x y : List ℕ) → IsPlain x → IsPlain y → IsPlain (x ++ y)
IsPlain-append x y h g = All-append (λ b. IsTrue (is_kver_byte b)) x y h g

-- three bytes or more
long_name : (x : List ℕ) → IsPlain x → 2 < length x → length x ≤ 255 → IsName x
long_name x bytes long short = record {
  text = record { utf8 = IsUtf8-from_ascii x (IsAscii-from_all x (λ k d lt. (small _ (bytes k d lt)).0)); no_zero = λ k d lt. (small _ (bytes k d lt)).1 };
  no_slash = λ k d lt. (small _ (bytes k d lt)).2;
  not_empty = λ e. omega (arith, long, ap length e);
  not_here = λ e. omega (arith, long, ap length e);
  not_above = λ e. omega (arith, long, ap length e);
  short = short;
}

pub vmlinuz-name : (kver : Name) → IsKver kver → IsName (vmlinuz_name kver)
vmlinuz-name kver is =
    let n : length (codes "vmlinuz-" ++ kver) ≡ 8 + length kver = length-append (codes "vmlinuz-") kver in
    let front : IsPlain (codes "vmlinuz-") = plain (codes "vmlinuz-") (refl, (refl, (refl, (refl, (refl, (refl, (refl, (refl, tt)))))))) in
    long_name (codes "vmlinuz-" ++ kver) (IsPlain-append (codes "vmlinuz-") kver front is.bytes) (omega (arith, n)) (omega (arith, n, is.short))

pub initramfs-name : (kver : Name) → IsKver kver → IsName (initramfs_name kver)
initramfs-name kver is =
    let n : length (codes "initramfs-" ++ (kver ++ codes ".img")) ≡ 10 + length (kver ++ codes ".img") = length-append (codes "initramfs-") (kver ++ codes ".img") in
    let m : length (kver ++ codes ".img") ≡ length kver + 4 = length-append kver (codes ".img") in
    let front : IsPlain (codes "initramfs-") = plain (codes "initramfs-") (refl, (refl, (refl, (refl, (refl, (refl, (refl, (refl, (refl, (refl, tt)))))))))) in
    let end : IsPlain (codes ".img") = plain (codes ".img") (refl, (refl, (refl, (refl, tt)))) in
    long_name (codes "initramfs-" ++ (kver ++ codes ".img")) (IsPlain-append (codes "initramfs-") (kver ++ codes ".img") front (IsPlain-append kver (codes ".img") is.bytes end)) (omega (arith, n, m)) (omega (arith, n, m, is.short))

pub folder-name : (os bootcsum : List ℕ) → IsOsName os → IsHexSum (hex_of bootcsum) → IsName (kernel_folder os bootcsum)
folder-name os bootcsum root digits =
    let n : length (os ++ (45 ∷ hex_of bootcsum)) ≡ length os + length (45 ∷ hex_of bootcsum) = length-append os (45 ∷ hex_of bootcsum) in
    let end : IsPlain (45 ∷ hex_of bootcsum) = IsPlain-append (45 ∷ []) (hex_of bootcsum) (plain (45 ∷ []) (refl, tt)) (All-weaker IsHexDigit (λ b. IsTrue (is_kver_byte b)) digit_byte (hex_of bootcsum) digits.digits) in
    let front : IsPlain os = All-weaker (λ b. IsTrue (is_part_byte b)) (λ b. IsTrue (is_kver_byte b)) part_byte os root.part.bytes in
    long_name (os ++ (45 ∷ hex_of bootcsum)) (IsPlain-append os (45 ∷ hex_of bootcsum) front end) (omega (arith, n, digits.whole)) (omega (arith, n, digits.whole, root.short))

-- as they are put together
pub folder-text : (os bootcsum o h a b t : List ℕ) → o ≡ os → h ≡ hex_of bootcsum → t ≡ b ++ h → b ≡ a ++ 45 ∷ [] → a ≡ o → t ≡ kernel_folder os bootcsum
folder-text os bootcsum o h a b t root digits third second first =
    third
    ∙ ap (λ x. x ++ h) (second ∙ ap (λ x. x ++ 45 ∷ []) (first ∙ root))
    ∙ append_assoc os (45 ∷ []) h
    ∙ ap (λ x. os ++ (45 ∷ x)) digits

pub vmlinuz-text : (kver k a t : List ℕ) → k ≡ kver → t ≡ a ++ k → a ≡ codes "vmlinuz-" → t ≡ vmlinuz_name kver
vmlinuz-text kver k a t name second first = second ∙ ap (λ x. x ++ k) first ∙ ap (λ x. codes "vmlinuz-" ++ x) name

pub initramfs-text : (kver k a b t : List ℕ) → k ≡ kver → t ≡ b ++ codes ".img" → b ≡ a ++ k → a ≡ codes "initramfs-" → t ≡ initramfs_name kver
initramfs-text kver k a b t name third second first =
    third ∙ ap (λ x. x ++ codes ".img") (second ∙ ap (λ x. x ++ k) first) ∙ append_assoc (codes "initramfs-") k (codes ".img") ∙ ap (λ x. codes "initramfs-" ++ (x ++ codes ".img")) name

-- ---- paths

joined-bound : (p : Path) → AreNames p → length (joined p) ≤ 256 * length p
unfolding joined
joined-bound [] names = omega arith
joined-bound (x ∷ p) names = omega (arith, length-append x (joined p), names.0.short, joined-bound p names.1)

-- a path of a few names
few_names : (x : Name) (p : Path) → AreNames (x ∷ p) → length (x ∷ p) ≤ 4 → IsPath (x ∷ p)
few_names x p names few = record { names = names; few = omega (arith, few); short = omega (arith, joined-bound (x ∷ p) names, few) }

pub kernel_under : (os bootcsum : List ℕ) → kernel_path os bootcsum ≡ under (folder_path Kernels) (kernel_folder os bootcsum)
unfolding kernel_path
kernel_under os bootcsum = refl

pub folder-path : (name : Name) → IsName name → IsPath (under (folder_path Kernels) name)
folder-path name is = few_names _ _ (AreNames-append (folder_path Kernels) (name ∷ []) (folder-known Kernels).names (is, tt)) (omega arith)

pub copy-path : (os bootcsum : List ℕ) (name : Name) → IsPath (kernel_path os bootcsum) → IsName name → IsPath (under (kernel_path os bootcsum) name)
unfolding kernel_path
copy-path os bootcsum name path is = few_names _ _ (AreNames-append (under (folder_path Kernels) (kernel_folder os bootcsum)) (name ∷ []) path.names (is, tt)) (omega arith)

pub if_ok_as : {T E : Type 0} (r : Result T E) (x y : T) → x ≡ y → IfOk r (λ n. n ≡ x) → IfOk r (λ n. n ≡ y)
if_ok_as r x y same is = subst (λ z. IfOk r (λ n. n ≡ z)) same is
