-- The names and paths of a deployment's parts are names and paths.
use Rattle.std.proofs.Common.{◌≡◌, ◌≢◌, ◌≤◌, ◌<◌, ◌+◌, ◌*◌, ◌^◌, inl, inr, ℕ, IsTrue, List, [], ◌∷◌, ◌++◌, length, slice_index, codes, refl, ◌∙◌, ap, subst, arith, All, length-append, append_assoc, append-nil}
use Rattle.std.specs.Prelude.{Result, IfOk}
use Rattle.std.specs.Fmt.{decimal}
use Rattle.std.specs.List.{AllByRecursion}
use Rattle.std.proofs.lemmas.Bool.Decides.{nat_tests}
use Rattle.std.proofs.lemmas.List.Elements.{All-append, All-contains, All-from_get_or, All-from_recursion, All-weaker}
use Rattle.std.proofs.lemmas.Str.{IsUtf8-from_ascii}
use Rattle.std.proofs.lemmas.Str.Ascii.{IsAscii-from_all}
use Rattle.std.proofs.lemmas.Str.Parse.{digit_at}
use Rattle.std.proofs.lemmas.Fmt.{decimal_is_IsNumeral, length-decimal-le}
use Rattle.ost_types.specs.declared.node.NodeName.TheVariants.{Folder}
use Rattle.ost_types.specs.Csum.{hex_of, IsHexDigit, IsHexSum}
use Rattle.ost_types.specs.Text.{IsName}
use Rattle.ost_types.specs.Path.{Name, Path, AreNames, IsPath, joined, under}
use Rattle.ost_types.specs.PathMap.{Nodes}
use Rattle.ost_types.proofs.Splitting.{AreNames-append}
use Rattle.repo_layout.specs.OsName.{IsOsName}
use Rattle.repo_layout.specs.RefName.{is_part_byte}
use Rattle.repo_layout.specs.Paths.{folder_path}
use Rattle.repo_layout.specs.declared.folder.Folder.TheVariants.{Deploy}
use Rattle.repo_layout.proofs.KnownPaths.{folder-known}
use Rattle.boot_model.specs.declared.item.DepId.{DepId}
use Rattle.checkout.specs.CheckoutWork.{IsPlaced}
use Rattle.checkout.proofs.CheckoutMaps.{found_back}
use Rattle.deployment_build.specs.Deployment.{deployments, origin_name}

-- ---- names

abbrev pub IsPlain : List ℕ → Type 0
IsPlain = All (λ b. IsTrue (is_part_byte b))

small : (b : ℕ) → IsTrue (is_part_byte b) → (b < 128) × (b ≢ 0) × (b ≢ 47)
small b is = (grind (arith, nat_tests), grind (arith, nat_tests), grind (arith, nat_tests))

plain_name : (x : List ℕ) → IsPlain x → x ≢ [] → x ≢ 46 ∷ [] → x ≢ 46 ∷ 46 ∷ [] → length x ≤ 255 → IsName x
plain_name x bytes some here above short = record {
  text = record { utf8 = IsUtf8-from_ascii x (IsAscii-from_all x (λ k d lt. (small _ (bytes k d lt)).0)); no_zero = λ k d lt. (small _ (bytes k d lt)).1 };
  no_slash = λ k d lt. (small _ (bytes k d lt)).2;
  not_empty = some;
  not_here = here;
  not_above = above;
  short = short;
}

-- three bytes or more
long_name : (x : List ℕ) → IsPlain x → 2 < length x → length x ≤ 255 → IsName x
long_name x bytes long short = plain_name x bytes (λ e. omega (arith, long, ap length e)) (λ e. omega (arith, long, ap length e)) (λ e. omega (arith, long, ap length e)) short

plain : (x : List ℕ) → AllByRecursion (λ b. IsTrue (is_part_byte b)) x → IsPlain x
plain x bytes = All-from_recursion (λ b. IsTrue (is_part_byte b)) x bytes

digit : (b : ℕ) → IsHexDigit b → IsTrue (is_part_byte b)
digit b (inl h) = grind (arith, nat_tests)
digit b (inr h) = grind (arith, nat_tests)

plain_digits : (x : List ℕ) → All IsHexDigit x → IsPlain x
plain_digits x digits = All-weaker IsHexDigit (λ b. IsTrue (is_part_byte b)) digit x digits

plain_decimal : (n : ℕ) → n < 2 ^ 64 → IsPlain (decimal n)
plain_decimal n less = plain_digits (decimal n) (All-from_get_or IsHexDigit (decimal n) 0 (λ i lt. inl (digit_at (decimal n) i (decimal_is_IsNumeral n less).0.1 lt)))

plain_append : (x y : List ℕ) → IsPlain x → IsPlain y → IsPlain (x ++ y)
plain_append x y h g = All-append (λ b. IsTrue (is_part_byte b)) x y h g

pub etc-name : IsName (codes "etc")
etc-name = long_name (codes "etc") (plain (codes "etc") (refl, (refl, (refl, tt)))) (omega arith) (omega arith)

pub deploy-name : IsName (codes "deploy")
deploy-name = long_name (codes "deploy") (plain (codes "deploy") (refl, (refl, (refl, (refl, (refl, (refl, tt))))))) (omega arith) (omega arith)

pub os-name : (os : Name) → IsOsName os → IsName os
os-name os is = plain_name os is.part.bytes is.part.not_empty (λ e. is.part.no_dot (ap (λ l. slice_index l 0) e)) (λ e. is.part.no_dot (ap (λ l. slice_index l 0) e)) is.part.short

pub origin-name : (id : DepId) → IsHexSum (hex_of id.commit) → id.serial < 2 ^ 32 → IsName (origin_name id)
origin-name id digits less =
    let number : List ℕ = 46 ∷ decimal id.serial in
    let end : List ℕ = number ++ codes ".origin" in
    let m : length end ≡ length number + 7 = length-append number (codes ".origin") in
    let n : length (hex_of id.commit ++ end) ≡ length (hex_of id.commit) + length end = length-append (hex_of id.commit) end in
    let short = length-decimal-le 10 id.serial (omega arith) (omega arith) (omega arith) in
    let front : IsPlain number = plain_append (46 ∷ []) (decimal id.serial) (plain (46 ∷ []) (refl, tt)) (plain_decimal id.serial (omega arith)) in
    let word : IsPlain (codes ".origin") = plain (codes ".origin") (refl, (refl, (refl, (refl, (refl, (refl, (refl, tt))))))) in
    long_name (hex_of id.commit ++ end) (plain_append (hex_of id.commit) end (plain_digits (hex_of id.commit) digits.digits) (plain_append number (codes ".origin") front word))
    (omega (arith, n, digits.whole)) (omega (arith, n, m, digits.whole, short))

-- as it is put together
pub origin-text : (id : DepId) (h n a b c t : List ℕ) → h ≡ hex_of id.commit → n ≡ decimal id.serial → t ≡ c ++ codes ".origin" → c ≡ b ++ n → b ≡ a ++ 46 ∷ [] → a ≡ h → t ≡ origin_name id
origin-text id h n a b c t digits number fourth third second first =
    let three : c ≡ h ++ (46 ∷ n) = third ∙ ap (λ x. x ++ n) (second ∙ ap (λ x. x ++ 46 ∷ []) first) ∙ append_assoc h (46 ∷ []) n in
    fourth
    ∙ ap (λ x. x ++ codes ".origin") three
    ∙ append_assoc h (46 ∷ n) (codes ".origin")
    ∙ ap (λ x. x ++ ((46 ∷ n) ++ codes ".origin")) digits
    ∙ ap (λ x. hex_of id.commit ++ ((46 ∷ x) ++ codes ".origin")) number

-- ---- paths

joined-bound : (p : Path) → AreNames p → length (joined p) ≤ 256 * length p
unfolding joined
joined-bound [] names = omega arith
joined-bound (x ∷ p) names = omega (arith, length-append x (joined p), names.0.short, joined-bound p names.1)

few_names : (x : Name) (p : Path) → AreNames (x ∷ p) → length (x ∷ p) ≤ 7 → IsPath (x ∷ p)
few_names x p names few = record { names = names; few = omega (arith, few); short = omega (arith, joined-bound (x ∷ p) names, few) }

pub stateroot-path : (os : Name) → IsName os → IsPath (under (folder_path Deploy) os)
stateroot-path os name = few_names _ _ (AreNames-append (folder_path Deploy) (os ∷ []) (folder-known Deploy).names (name, tt)) (omega arith)

pub deployments-path : (os : Name) → IsName os → IsPath (deployments os)
deployments-path os name = few_names _ _ (AreNames-append (under (folder_path Deploy) os) (codes "deploy" ∷ []) (stateroot-path os name).names (deploy-name, tt)) (omega arith)

pub deployed-path : (os x : Name) → IsPath (deployments os) → IsName x → IsPath (under (deployments os) x)
deployed-path os x path name = few_names _ _ (AreNames-append (deployments os) (x ∷ []) path.names (name, tt)) (omega arith)

-- a folder into which a map is placed
pub placed-path : (into : Path) (tree : Nodes) → IsPlaced into tree → IsPath into
placed-path into tree placed =
    let root = placed.shape.root in
    subst IsPath (append-nil into) (All-contains (λ e. IsPath (into ++ e.0)) tree ([], Folder root.0) placed.fits (found_back tree [] (Folder root.0) root.1))

pub if_ok_as : {T E : Type 0} (r : Result T E) (x y : T) → x ≡ y → IfOk r (λ n. n ≡ x) → IfOk r (λ n. n ≡ y)
if_ok_as r x y same is = subst (λ z. IfOk r (λ n. n ≡ z)) same is
