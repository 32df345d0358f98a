-- Names and paths of entries and links are names and paths.
use Rattle.std.proofs.Common.{◌≡◌, ◌≢◌, ◌≤◌, ◌<◌, ◌+◌, ◌^◌, inl, inr, ℕ, IsTrue, List, [], ◌∷◌, ◌++◌, length, slice_index, codes, refl, ap, subst, arith, All, length-append}
use Rattle.std.specs.Fmt.{decimal}
use Rattle.std.proofs.lemmas.Bool.Decides.{nat_tests}
use Rattle.std.proofs.lemmas.Fmt.{length-decimal-le, decimal_is_IsNumeral}
use Rattle.std.proofs.lemmas.List.Elements.{All-from_get_or, All-from_recursion, All-weaker}
use Rattle.std.proofs.lemmas.Str.{IsUtf8-from_ascii}
use Rattle.std.proofs.lemmas.Str.Ascii.{IsAscii-from_all}
use Rattle.std.proofs.lemmas.Str.Parse.{digit_at}
use Rattle.ost_types.specs.Csum.{IsHexDigit, IsHexSum}
use Rattle.ost_types.specs.Path.{Name, Path, AreNames, IsPath, joined, under}
use Rattle.ost_types.specs.Text.{IsName}
use Rattle.ost_types.proofs.Joined.{IsPath-from_joined, joined-append, text-joined}
use Rattle.ost_types.proofs.Splitting.{AreNames-append}
use Rattle.repo_layout.specs.BootPaths.{boot_folder_path, loader_folder_path}
use Rattle.repo_layout.specs.Fixed.{entries_path, fixed_path, number}
use Rattle.repo_layout.specs.OsName.{IsOsName}
use Rattle.repo_layout.specs.Paths.{folder_path}
use Rattle.repo_layout.specs.RefName.{is_part_byte}
use Rattle.repo_layout.specs.declared.fixed.Version.{Version}
use Rattle.repo_layout.specs.declared.fixed.Fixed.TheVariants.{Entries, BootFolder}
use Rattle.repo_layout.specs.declared.folder.Folder.TheVariants.{Boot}
use Rattle.repo_layout.proofs.KnownPaths.{IsKnown, fixed-known, folder-known}

-- ---- names

abbrev pub IsPlain : List ℕ → Type 0
IsPlain = All (λ b. IsTrue (is_part_byte b))

small : (b : ℕ) → IsTrue (is_part_byte b) → (b < 128) × (b ≢ 0) × (b ≢ 47)
small b is = (grind (arith, nat_tests), grind (arith, nat_tests), grind (arith, nat_tests))

plain_name : (x : List ℕ) → IsPlain x → x ≢ [] → slice_index x 0 ≢ 46 → length x ≤ 255 → IsName x
plain_name x bytes some no_dot short = record {
  text = record { utf8 = IsUtf8-from_ascii x (IsAscii-from_all x (λ k d lt. (small _ (bytes k d lt)).0)); no_zero = λ k d lt. (small _ (bytes k d lt)).1 };
  no_slash = λ k d lt. (small _ (bytes k d lt)).2;
  not_empty = some;
  not_here = λ e. no_dot (ap (λ l. slice_index l 0) e);
  not_above = λ e. no_dot (ap (λ l. slice_index l 0) e);
  short = short;
}

pub os-name : (os : Name) → IsOsName os → IsName os
os-name os is = plain_name os is.part.bytes is.part.not_empty is.part.no_dot is.part.short

digit_plain : (b : ℕ) → IsHexDigit b → IsTrue (is_part_byte b)
digit_plain b (inl h) = grind (arith, nat_tests)
digit_plain b (inr h) = grind (arith, nat_tests)

digits_plain : (x : List ℕ) → All IsHexDigit x → IsPlain x
digits_plain x digits = All-weaker IsHexDigit (λ b. IsTrue (is_part_byte b)) digit_plain x digits

digit_no_dot : (b : ℕ) → IsHexDigit b → b ≢ 46
digit_no_dot b (inl h) e = omega (arith, h.0, e)
digit_no_dot b (inr h) e = omega (arith, h.0, e)

digits_name : (x : List ℕ) → All IsHexDigit x → 0 < length x → length x ≤ 255 → IsName x
digits_name x digits some short = plain_name x (digits_plain x digits) (λ e. omega (arith, some, ap length e)) (digit_no_dot (slice_index x 0) (digits 0 0 some)) short

pub sum-name : (text : List ℕ) → IsHexSum text → IsName text
sum-name text is = digits_name text is.digits (omega (arith, is.whole)) (omega (arith, is.whole))

pub decimal-name : (n : ℕ) → n < 2 ^ 32 → IsName (decimal n)
decimal-name n less =
    let wide : n < 2 ^ 64 = omega (arith, less) in
    let all = (decimal_is_IsNumeral n wide).0 in
    digits_name (decimal n) (All-from_get_or IsHexDigit (decimal n) 0 (λ i lt. inl (digit_at (decimal n) i all.1 lt))) all.0
    (omega (arith, length-decimal-le 10 n (omega arith) (omega (arith, less)) wide))

pub loader-name : IsName (codes "loader")
loader-name = plain_name (codes "loader") (All-from_recursion (λ b. IsTrue (is_part_byte b)) (codes "loader") (refl, (refl, (refl, (refl, (refl, (refl, tt)))))))
    (λ e. cc) (λ e. let n : 108 ≡ 46 = e in omega (arith, n)) (omega arith)

-- ---- paths

-- names that have room for more
pub record IsFit (p : Path) (bytes names : ℕ) : Type 0 where
  pub are : AreNames p
  pub short : length (joined p) ≤ bytes
  pub few : length p ≤ names

pub fit_path : (p : Path) (bytes names : ℕ) → bytes ≤ 2048 → names ≤ 80 → IsFit p bytes names → IsPath p
fit_path p bytes names less fewer fit = IsPath-from_joined p fit.are (omega (arith, fit.few, fewer)) (omega (arith, fit.short, less))

one_joined : (x : Name) → length (joined (x ∷ [])) ≡ length x + 1
unfolding joined
one_joined x = let n : length (x ++ []) ≡ length x + 0 = length-append x [] in omega (arith, n)

pub fit_under : (p : Path) (x : Name) (bytes names : ℕ) → IsFit p bytes names → IsName x → IsFit (under p x) (bytes + 256) (names + 1)
fit_under p x bytes names fit name = record {
  are = AreNames-append p (x ∷ []) fit.are (name, tt);
  short = omega (arith, ap length (joined-append p (x ∷ [])), length-append (joined p) (joined (x ∷ [])), one_joined x, fit.short, name.short);
  few = omega (arith, length-append p (x ∷ []), fit.few);
}

known_fit : (p : Path) → 0 < length p → IsKnown p → IsFit p 1024 64
known_fit p some known = record { are = known.names; short = subst (λ t. length t ≤ 1024) (text-joined p some) known.short; few = known.few }

some_folder : (loader sub : Version) → 0 < length (fixed_path (BootFolder loader sub))
unfolding boot_folder_path
some_folder loader sub = omega arith

some_entries : (loader : Version) → 0 < length (fixed_path (Entries loader))
unfolding loader_folder_path
some_entries loader = omega arith

pub entries_fit : (loader : Version) → IsFit (entries_path (number loader)) 1024 64
entries_fit loader = known_fit (fixed_path (Entries loader)) (some_entries loader) (fixed-known (Entries loader))

pub entry-path : (loader : Version) (x : Name) → IsName x → IsPath (under (entries_path (number loader)) x)
entry-path loader x name = fit_path (under (entries_path (number loader)) x) 1280 65 (omega arith) (omega arith) (fit_under (entries_path (number loader)) x 1024 64 (entries_fit loader) name)

pub loader-path : IsPath (under (folder_path Boot) (codes "loader"))
loader-path = fit_path (under (folder_path Boot) (codes "loader")) 1280 65 (omega arith) (omega arith) (fit_under (folder_path Boot) (codes "loader") 1024 64 (known_fit (folder_path Boot) (omega arith) (folder-known Boot)) loader-name)

module _ (loader sub : Version) where
  abbrev folder : Path
  folder = fixed_path (BootFolder loader sub)

  folder_fit : IsFit (fixed_path (BootFolder loader sub)) 1024 64
  folder_fit = known_fit (fixed_path (BootFolder loader sub)) (some_folder loader sub) (fixed-known (BootFolder loader sub))

  pub link_path_1 : (x : Name) → IsName x → IsPath (under (fixed_path (BootFolder loader sub)) x)
  link_path_1 x a = fit_path (under folder x) 1280 65 (omega arith) (omega arith) (fit_under folder x 1024 64 folder_fit a)

  pub link_path_2 : (x y : Name) → IsName x → IsName y → IsPath (under (under (fixed_path (BootFolder loader sub)) x) y)
  link_path_2 x y a b = fit_path (under (under folder x) y) 1536 66 (omega arith) (omega arith) (fit_under (under folder x) y 1280 65 (fit_under folder x 1024 64 folder_fit a) b)

  pub link_path_3 : (x y z : Name) → IsName x → IsName y → IsName z → IsPath (under (under (under (fixed_path (BootFolder loader sub)) x) y) z)
  link_path_3 x y z a b c =
      fit_path (under (under (under folder x) y) z) 1792 67 (omega arith) (omega arith)
      (fit_under (under (under folder x) y) z 1536 66 (fit_under (under folder x) y 1280 65 (fit_under folder x 1024 64 folder_fit a) b) c)
