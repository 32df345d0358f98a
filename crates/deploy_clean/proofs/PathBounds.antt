-- The paths in the folder of a stateroot's deployments are within the bounds of paths.
use Rattle.std.proofs.Common.{◌≡◌, ◌≢◌, ◌≤◌, ◌<◌, ◌+◌, ℕ, IsTrue, List, [], ◌∷◌, ◌++◌, length, slice_index, codes, refl, ap, subst, arith, All, length-append}
use Rattle.std.proofs.lemmas.Bool.Decides.{nat_tests}
use Rattle.std.proofs.lemmas.List.Elements.{All-from_recursion}
use Rattle.std.proofs.lemmas.Str.{IsUtf8-from_ascii}
use Rattle.std.proofs.lemmas.Str.Ascii.{IsAscii-from_all}
use Rattle.ost_types.specs.Path.{Name, Path, AreNames, IsPath, joined, under}
use Rattle.ost_types.specs.Text.{IsName}
use Rattle.ost_types.proofs.Joined.{IsPath-from_joined, joined-append, text-joined}
use Rattle.ost_types.proofs.Splitting.{AreNames-append}
use Rattle.repo_layout.specs.OsName.{IsOsName}
use Rattle.repo_layout.specs.Paths.{folder_path}
use Rattle.repo_layout.specs.RefName.{is_part_byte}
use Rattle.repo_layout.specs.declared.folder.Folder.TheVariants.{Deploy}
use Rattle.repo_layout.proofs.KnownPaths.{folder-known}
use Rattle.deploy_clean.specs.Unlisted.{deployments}

-- ---- names

small : (b : ℕ) → IsTrue (is_part_byte b) → (b < 128) × (b ≢ 0) × (b ≢ 47)
small b is = (grind (arith, nat_tests), grind (arith, nat_tests), grind (arith, nat_tests))

plain_name : (x : List ℕ) → All (λ b. IsTrue (is_part_byte b)) x → x ≢ [] → slice_index x 0 ≢ 46 → length x ≤ 255 → IsName x
plain_name x bytes some no_dot short = record {
  text = record { utf8 = IsUtf8-from_ascii x (IsAscii-from_all x (λ k d lt. (small _ (bytes k d lt)).0)); no_zero = λ k d lt. (small _ (bytes k d lt)).1 };
  no_slash = λ k d lt. (small _ (bytes k d lt)).2;
  not_empty = some;
  not_here = λ e. no_dot (ap (λ l. slice_index l 0) e);
  not_above = λ e. no_dot (ap (λ l. slice_index l 0) e);
  short = short;
}

pub os_name : (os : Name) → IsOsName os → IsName os
os_name os is = plain_name os is.part.bytes is.part.not_empty is.part.no_dot is.part.short

pub deploy_name : IsName (codes "deploy")
deploy_name = plain_name (codes "deploy") (All-from_recursion (λ b. IsTrue (is_part_byte b)) (codes "deploy") (refl, (refl, (refl, (refl, (refl, (refl, tt)))))))
    (λ e. cc) (λ e. let n : 100 ≡ 46 = e in omega (arith, n)) (omega arith)

-- ---- paths

one_joined : (x : Name) → length (joined (x ∷ [])) ≡ length x + 1
unfolding joined
one_joined x = let n : length (x ++ []) ≡ length x + 0 = length-append x [] in omega (arith, n)

-- names that have room for more
record IsFit (p : Path) (bytes names : ℕ) : Type 0 where
  are : AreNames p
  short : length (joined p) ≤ bytes
  few : length p ≤ names

fit_under : (p : Path) (x : Name) (bytes names : ℕ) → IsFit p bytes names → IsName x → IsFit (under p x) (bytes + 256) (names + 1)
fit_under p x bytes names fit name = record {
  are = AreNames-append p (x ∷ []) fit.are (name, tt);
  short = omega (arith, ap length (joined-append p (x ∷ [])), length-append (joined p) (joined (x ∷ [])), one_joined x, fit.short, name.short);
  few = omega (arith, length-append p (x ∷ []), fit.few);
}

fit_path : (p : Path) (bytes names : ℕ) → bytes ≤ 2048 → names ≤ 80 → IsFit p bytes names → IsPath p
fit_path p bytes names less fewer fit = IsPath-from_joined p fit.are (omega (arith, fit.few, fewer)) (omega (arith, fit.short, less))

stateroots_fit : IsFit (folder_path Deploy) 1024 64
stateroots_fit = let known = folder-known Deploy in record { are = known.names; short = subst (λ t. length t ≤ 1024) (text-joined (folder_path Deploy) (omega arith)) known.short; few = known.few }

stateroot_fit : (os : Name) → IsName os → IsFit (under (folder_path Deploy) os) 1280 65
stateroot_fit os name = fit_under (folder_path Deploy) os 1024 64 stateroots_fit name

deployments_fit : (os : Name) → IsName os → IsFit (deployments os) 1536 66
deployments_fit os name = fit_under (under (folder_path Deploy) os) (codes "deploy") 1280 65 (stateroot_fit os name) deploy_name

pub stateroot_path : (os : Name) → IsName os → IsPath (under (folder_path Deploy) os)
stateroot_path os name = fit_path (under (folder_path Deploy) os) 1280 65 (omega arith) (omega arith) (stateroot_fit os name)

pub deployments_path : (os : Name) → IsName os → IsPath (under (under (folder_path Deploy) os) (codes "deploy"))
deployments_path os name = fit_path (under (under (folder_path Deploy) os) (codes "deploy")) 1536 66 (omega arith) (omega arith) (deployments_fit os name)

pub deployed_path : (os x : Name) → IsName os → IsName x → IsPath (under (deployments os) x)
deployed_path os x name inner = fit_path (under (deployments os) x) 1792 67 (omega arith) (omega arith) (fit_under (deployments os) x 1536 66 (deployments_fit os name) inner)
