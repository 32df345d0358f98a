-- Names and paths of what is made are names and paths.
use Rattle.std.proofs.Common.{◌≡◌, ◌≢◌, ◌≤◌, ◌<◌, ◌+◌, ◌^◌, inl, inr, ℕ, Bool, ◌&&◌, IsTrue, List, [], ◌∷◌, ◌++◌, length, slice_index, codes, refl, sym, ◌∙◌, ap, subst, arith, All, length-append, append_assoc}
use Rattle.std.specs.Prelude.{nat_lt, Result, IfOk}
use Rattle.std.specs.Fmt.{decimal}
use Rattle.std.specs.List.{AllByRecursion}
use Rattle.std.specs.Str.Parse.{AllDigits, digits_value}
use Rattle.std.proofs.lemmas.Bool.Decides.{nat_tests}
use Rattle.std.proofs.lemmas.Fmt.{length-decimal-le, decimal_is_IsNumeral}
use Rattle.std.proofs.lemmas.List.{append_cancel_left, append_cancel_right}
use Rattle.std.proofs.lemmas.List.Elements.{All-append, All-from_get_or, All-from_recursion, All-weaker}
use Rattle.std.proofs.lemmas.Str.{IsUtf8-from_ascii}
use Rattle.std.proofs.lemmas.Str.Ascii.{IsAscii-from_all}
use Rattle.std.proofs.lemmas.Str.Parse.{digit_at}
use Rattle.ost_types.specs.Text.{IsName, IsText}
use Rattle.ost_types.specs.Path.{Name, Path, AreNames, IsPath, joined, text_of, under}
use Rattle.ost_types.specs.Csum.{hex_of, IsHexDigit, IsHexSum}
use Rattle.ost_types.proofs.Joined.{joined-append}
use Rattle.ost_types.proofs.Splitting.{AreNames-append}
use Rattle.repo_layout.specs.OsName.{IsOsName}
use Rattle.repo_layout.specs.RefName.{IsPart, is_part_byte}
use Rattle.repo_layout.specs.declared.folder.Folder.{Folder}
use Rattle.repo_layout.specs.declared.fixed.Version.{Version}
use Rattle.repo_layout.specs.declared.fixed.Version.TheVariants.{Zero, One}
use Rattle.repo_layout.specs.declared.fixed.Fixed.TheVariants.{LoaderFolder, Entries, BootFolder}
use Rattle.repo_layout.specs.BootPaths.{boot_folder_path, loader_folder_path}
use Rattle.repo_layout.specs.Fixed.{entries_path, fixed_path, number}
use Rattle.repo_layout.specs.Paths.{folder_path}
use Rattle.repo_layout.proofs.KnownPaths.{IsKnown, fixed-known, folder-known}
use Rattle.boot_model.specs.declared.item.DepId.{DepId}
use Rattle.boot_model.specs.Entries.{boot_target, deploy_target, entry_name, loader_target}

-- ---- bytes

-- bytes of a name's part
abbrev pub IsPlain : List ℕ → Type 0
IsPlain = All (λ b. IsTrue (is_part_byte b))

-- bytes of a text in ASCII
abbrev pub is_text_byte : ℕ → Bool
is_text_byte b = nat_lt 0 b && nat_lt b 128

abbrev pub IsPlainText : List ℕ → Type 0
IsPlainText = All (λ b. IsTrue (is_text_byte b))

part_text : (b : ℕ) → IsTrue (is_part_byte b) → IsTrue (is_text_byte b)
part_text b is = grind (arith, nat_tests)

text_small : (b : ℕ) → IsTrue (is_text_byte b) → (b < 128) × (b ≢ 0)
text_small b is = (grind (arith, nat_tests), grind (arith, nat_tests))

part_no_slash : (b : ℕ) → IsTrue (is_part_byte b) → b ≢ 47
part_no_slash b is = grind (arith, nat_tests)

plain_text : (x : List ℕ) → IsPlain x → IsPlainText x
plain_text x is = All-weaker (λ b. IsTrue (is_part_byte b)) (λ b. IsTrue (is_text_byte b)) part_text x is

pub text_of_bytes : (x : List ℕ) → IsPlainText x → IsText x
text_of_bytes x bytes = record {
  utf8 = IsUtf8-from_ascii x (IsAscii-from_all x (λ k d lt. (text_small _ (bytes k d lt)).0));
  no_zero = λ k d lt. (text_small _ (bytes k d lt)).1;
}

plain_name : (x : List ℕ) → IsPlain x → x ≢ [] → x ≢ 46 ∷ [] → x ≢ 46 ∷ 46 ∷ [] → length x ≤ 255 → IsName x
plain_name x bytes some here above short = record {
  text = text_of_bytes x (plain_text x bytes);
  no_slash = λ k d lt. part_no_slash _ (bytes k d lt);
  not_empty = some;
  not_here = here;
  not_above = above;
  short = short;
}

name_of_part : (part : List ℕ) → IsPart part → IsName part
name_of_part part is = plain_name part is.bytes is.not_empty (λ e. is.no_dot (ap (λ l. slice_index l 0) e)) (λ e. is.no_dot (ap (λ l. slice_index l 0) e)) is.short

-- three bytes or more
long_name : (x : List ℕ) → IsPlain x → 2 < length x → length x ≤ 255 → IsName x
long_name x bytes long short = plain_name x bytes (λ e. omega (arith, long, ap length e)) (λ e. omega (arith, long, ap length e)) (λ e. omega (arith, long, ap length e)) short

plain : (x : List ℕ) → AllByRecursion (λ b. IsTrue (is_part_byte b)) x → IsPlain x
plain x bytes = All-from_recursion (λ b. IsTrue (is_part_byte b)) x bytes

written : (x : List ℕ) → AllByRecursion (λ b. IsTrue (is_text_byte b)) x → IsPlainText x
written x bytes = All-from_recursion (λ b. IsTrue (is_text_byte b)) x bytes

word : (x : List ℕ) → AllByRecursion (λ b. IsTrue (is_part_byte b)) x → 2 < length x → length x ≤ 255 → IsName x
word x bytes = long_name x (plain x bytes)

digit : (b : ℕ) → IsHexDigit b → IsTrue (is_part_byte b)
digit b (inl h) = grind (arith, nat_tests)
digit b (inr h) = grind (arith, nat_tests)

IsPlain-digits : (x : List ℕ) → All IsHexDigit x → IsPlain x
IsPlain-digits x digits = All-weaker IsHexDigit (λ b. IsTrue (is_part_byte b)) digit x digits

IsPlain-decimal : (n : ℕ) → n < 2 ^ 64 → IsPlain (decimal n)
IsPlain-decimal n less = IsPlain-digits (decimal n) (All-from_get_or IsHexDigit (decimal n) 0 (λ i lt. inl (digit_at (decimal n) i (decimal_is_IsNumeral n less).0.1 lt)))

IsPlain-append : (x y : List ℕ) → IsPlain x → IsPlain y → IsPlain (x ++ y)
IsPlain-append x y h g = All-append (λ b. IsTrue (is_part_byte b)) x y h g

IsPlainText-append : (x y : List ℕ) → IsPlainText x → IsPlainText y → IsPlainText (x ++ y)
IsPlainText-append x y h g = All-append (λ b. IsTrue (is_text_byte b)) x y h g

-- ---- names

pub entry_name-name : (version : ℕ) → version ≤ 8 → IsName (entry_name version)
unfolding entry_name
entry_name-name version few =
    let d : length (decimal version) ≤ 1 = length-decimal-le 1 version (omega arith) (omega arith) (omega (arith, few)) in
    let front : IsPlain (codes "ostree-") = plain (codes "ostree-") (refl, (refl, (refl, (refl, (refl, (refl, (refl, tt))))))) in
    let end : IsPlain (codes ".conf") = plain (codes ".conf") (refl, (refl, (refl, (refl, (refl, tt))))) in
    let n : length (codes "ostree-" ++ (decimal version ++ codes ".conf")) ≡ 7 + length (decimal version ++ codes ".conf") = length-append (codes "ostree-") (decimal version ++ codes ".conf") in
    let m : length (decimal version ++ codes ".conf") ≡ length (decimal version) + 5 = length-append (decimal version) (codes ".conf") in
    long_name (codes "ostree-" ++ (decimal version ++ codes ".conf")) (IsPlain-append (codes "ostree-") (decimal version ++ codes ".conf") front (IsPlain-append (decimal version) (codes ".conf") (IsPlain-decimal version (omega (arith, few))) end))
    (omega (arith, n, m)) (omega (arith, n, m, d))

-- as it is put together
pub entry_name-text : (version : ℕ) (a b t n : List ℕ) → n ≡ decimal version → t ≡ b ++ codes ".conf" → b ≡ a ++ n → a ≡ codes "ostree-" → t ≡ entry_name version
unfolding entry_name
entry_name-text version a b t n number third second first =
    third ∙ ap (λ x. x ++ codes ".conf") (second ∙ ap (λ x. x ++ n) first) ∙ append_assoc (codes "ostree-") n (codes ".conf") ∙ ap (λ x. codes "ostree-" ++ (x ++ codes ".conf")) number

pub if_ok_as : {T E : Type 0} (r : Result T E) (x y : T) → x ≡ y → IfOk r (λ n. n ≡ x) → IfOk r (λ n. n ≡ y)
if_ok_as r x y same is = subst (λ z. IfOk r (λ n. n ≡ z)) same is

pub os-name : (os : Name) → IsOsName os → IsName os
os-name os is = name_of_part os is.part

pub digits-name : (text : List ℕ) → IsHexSum text → IsName text
digits-name text is = long_name text (IsPlain-digits text is.digits) (omega (arith, is.whole)) (omega (arith, is.whole))

no_dot : (rest : List ℕ) → AllDigits 10 (46 ∷ rest) → ⊥
no_dot rest all = omega (arith, all.0)

pub decimal-name : (n : ℕ) → n < 8 → IsName (decimal n)
decimal-name n less =
    let all = (decimal_is_IsNumeral n (omega (arith, less))).0 in
    plain_name (decimal n) (IsPlain-decimal n (omega (arith, less))) (λ e. omega (arith, all.0, ap length e)) (λ e. no_dot [] (subst (AllDigits 10) e all.1)) (λ e. no_dot (46 ∷ []) (subst (AllDigits 10) e all.1))
    (omega (arith, length-decimal-le 1 n (omega arith) (omega arith) (omega (arith, less))))

pub loader-name : IsName (codes "loader")
loader-name = word (codes "loader") (refl, (refl, (refl, (refl, (refl, (refl, tt)))))) (omega arith) (omega arith)

pub loader_stage-name : IsName (codes "loader.tmp")
loader_stage-name = word (codes "loader.tmp") (refl, (refl, (refl, (refl, (refl, (refl, (refl, (refl, (refl, (refl, tt)))))))))) (omega arith) (omega arith)

pub boot_stage-name : IsName (codes "boot.tmp")
boot_stage-name = word (codes "boot.tmp") (refl, (refl, (refl, (refl, (refl, (refl, (refl, (refl, tt)))))))) (omega arith) (omega arith)

-- ---- texts

number_small : (version : Version) → number version < 2 ^ 64
number_small Zero = omega arith
number_small One = omega arith

pub loader_target-text : (version : Version) → IsText (loader_target (number version))
unfolding loader_target
loader_target-text version =
    text_of_bytes (codes "loader." ++ decimal (number version)) (IsPlainText-append (codes "loader.") (decimal (number version)) (written (codes "loader.") (refl, (refl, (refl, (refl, (refl, (refl, (refl, tt))))))))
    (plain_text (decimal (number version)) (IsPlain-decimal (number version) (number_small version))))

pub boot_target-text : (version sub : Version) → IsText (boot_target (number version) (number sub))
unfolding boot_target
boot_target-text version sub =
    text_of_bytes (codes "boot." ++ (decimal (number version) ++ (46 ∷ decimal (number sub))))
    (IsPlainText-append (codes "boot.") (decimal (number version) ++ (46 ∷ decimal (number sub))) (written (codes "boot.") (refl, (refl, (refl, (refl, (refl, tt))))))
    (IsPlainText-append (decimal (number version)) (46 ∷ decimal (number sub)) (plain_text (decimal (number version)) (IsPlain-decimal (number version) (number_small version)))
    (IsPlainText-append (46 ∷ []) (decimal (number sub)) (written (46 ∷ []) (refl, tt)) (plain_text (decimal (number sub)) (IsPlain-decimal (number sub) (number_small sub))))))

pub deploy_target-text : (id : DepId) → IsOsName id.os → IsHexSum (hex_of id.commit) → id.serial < 2 ^ 64 → IsText (deploy_target id)
unfolding deploy_target
deploy_target-text id os sum less =
    text_of_bytes ((((codes "../../../deploy/" ++ id.os) ++ codes "/deploy/") ++ hex_of id.commit) ++ (46 ∷ decimal id.serial))
    (IsPlainText-append (((codes "../../../deploy/" ++ id.os) ++ codes "/deploy/") ++ hex_of id.commit) (46 ∷ decimal id.serial)
    (IsPlainText-append ((codes "../../../deploy/" ++ id.os) ++ codes "/deploy/") (hex_of id.commit)
    (IsPlainText-append (codes "../../../deploy/" ++ id.os) (codes "/deploy/")
    (IsPlainText-append (codes "../../../deploy/") id.os (written (codes "../../../deploy/") (refl, (refl, (refl, (refl, (refl, (refl, (refl, (refl, (refl, (refl, (refl, (refl, (refl, (refl, (refl, (refl, tt))))))))))))))))) (plain_text id.os os.part.bytes))
    (written (codes "/deploy/") (refl, (refl, (refl, (refl, (refl, (refl, (refl, (refl, tt))))))))))
    (plain_text (hex_of id.commit) (IsPlain-digits (hex_of id.commit) sum.digits)))
    (IsPlainText-append (46 ∷ []) (decimal id.serial) (written (46 ∷ []) (refl, tt)) (plain_text (decimal id.serial) (IsPlain-decimal id.serial less))))

pub deploy_target-some : (id : DepId) → deploy_target id ≢ []
unfolding deploy_target
deploy_target-some id e = cc

pub decimal-injective : (m n : ℕ) → m ≤ 8 → n ≤ 8 → decimal m ≡ decimal n → m ≡ n
decimal-injective m n few less e = sym (decimal_is_IsNumeral m (omega (arith, few))).1 ∙ ap (digits_value 10) e ∙ (decimal_is_IsNumeral n (omega (arith, less))).1

-- one entry's name has one version
pub entry_name-injective : (m n : ℕ) → m ≤ 8 → n ≤ 8 → entry_name m ≡ entry_name n → m ≡ n
unfolding entry_name
entry_name-injective m n few less e =
    let d : decimal m ++ codes ".conf" ≡ decimal n ++ codes ".conf" = append_cancel_left (codes "ostree-") (decimal m ++ codes ".conf") (decimal n ++ codes ".conf") e in
    decimal-injective m n few less (append_cancel_right (decimal m) (decimal n) (codes ".conf") d)

-- ---- paths

-- A path of names, not the root, with room for more.
pub record IsFit (p : Path) (bytes names : ℕ) : Type 0 where
  pub names_are : AreNames p
  pub some : p ≢ []
  pub short : length (joined p) ≤ bytes
  pub few : length p ≤ names

some_text : (p : Path) → p ≢ [] → text_of p ≡ joined p
some_text [] some = absurd (some refl)
some_text (x ∷ p) some = refl

pub fit_path : (p : Path) (bytes names : ℕ) → bytes ≤ 2048 → names ≤ 80 → IsFit p bytes names → IsPath p
fit_path p bytes names less fewer fit = record {
  names = fit.names_are;
  few = omega (arith, fit.few, fewer);
  short = subst (λ t. length t ≤ 2048) (sym (some_text p fit.some)) (omega (arith, fit.short, less));
}

bounds_of : {p : Path} → IsFit p 1024 64 → IsPath p
bounds_of fit = fit_path _ 1024 64 (omega arith) (omega arith) fit

not_root : (p : Path) (x : Name) → p ++ x ∷ [] ≢ []
not_root [] x e = cc
not_root (a ∷ p) x e = cc

one_joined : (x : Name) → length (joined (x ∷ [])) ≡ length x + 1
unfolding joined
one_joined x = let n : length (x ++ []) ≡ length x + 0 = length-append x [] in omega (arith, n)

pub fit_under : (p : Path) (x : Name) (bytes names : ℕ) → IsFit p bytes names → IsName x → IsFit (under p x) (bytes + 256) (names + 1)
fit_under p x bytes names fit name = record {
  names_are = AreNames-append p (x ∷ []) fit.names_are (name, tt);
  some = not_root p x;
  short = omega (arith, ap length (joined-append p (x ∷ [])), length-append (joined p) (joined (x ∷ [])), one_joined x, fit.short, name.short);
  few = omega (arith, length-append p (x ∷ []), fit.few);
}

known_fit : (p : Path) → p ≢ [] → IsKnown p → IsFit p 1024 64
known_fit p some known = record { names_are = known.names; some = some; short = subst (λ t. length t ≤ 1024) (some_text p some) known.short; few = known.few }

folder_some : (version sub : Version) → fixed_path (BootFolder version sub) ≢ []
unfolding boot_folder_path
folder_some version sub e = cc

entries_some : (version : Version) → fixed_path (Entries version) ≢ []
unfolding loader_folder_path
entries_some version e = cc

pub entries_fit : (version : Version) → IsFit (entries_path (number version)) 1024 64
entries_fit version = known_fit (fixed_path (Entries version)) (entries_some version) (fixed-known (Entries version))

pub links_fit : (version sub : Version) → IsFit (fixed_path (BootFolder version sub)) 1024 64
links_fit version sub = known_fit (fixed_path (BootFolder version sub)) (folder_some version sub) (fixed-known (BootFolder version sub))

pub folder_child : (folder : Folder) (x : Name) → folder_path folder ≢ [] → IsName x → IsPath (under (folder_path folder) x)
folder_child folder x some name = fit_path (under (folder_path folder) x) 1280 65 (omega arith) (omega arith) (fit_under (folder_path folder) x 1024 64 (known_fit (folder_path folder) some (folder-known folder)) name)

pub entries_child : (version : Version) (x : Name) → IsName x → IsPath (under (entries_path (number version)) x)
entries_child version x name = fit_path (under (entries_path (number version)) x) 1280 65 (omega arith) (omega arith) (fit_under (entries_path (number version)) x 1024 64 (entries_fit version) name)

module _ (version sub : Version) where
  abbrev top : Path
  top = fixed_path (BootFolder version sub)

  pub links_child : (x : Name) → IsName x → IsPath (under (fixed_path (BootFolder version sub)) x)
  links_child x name = fit_path (under top x) 1280 65 (omega arith) (omega arith) (fit_under top x 1024 64 (links_fit version sub) name)

  pub links_child_2 : (x y : Name) → IsName x → IsName y → IsPath (under (under (fixed_path (BootFolder version sub)) x) y)
  links_child_2 x y name two = fit_path (under (under top x) y) 1536 66 (omega arith) (omega arith) (fit_under (under top x) y 1280 65 (fit_under top x 1024 64 (links_fit version sub) name) two)

  pub links_child_3 : (x y z : Name) → IsName x → IsName y → IsName z → IsPath (under (under (under (fixed_path (BootFolder version sub)) x) y) z)
  links_child_3 x y z name two three =
      fit_path (under (under (under top x) y) z) 1792 67 (omega arith) (omega arith) (fit_under (under (under top x) y) z 1536 66 (fit_under (under top x) y 1280 65 (fit_under top x 1024 64 (links_fit version sub) name) two) three)

-- ---- the folders that are made

pub loader_folder_bounds : (version : Version) → IsPath (loader_folder_path (number version))
unfolding loader_folder_path
loader_folder_bounds version = bounds_of (known_fit (fixed_path (LoaderFolder version)) (λ e. cc) (fixed-known (LoaderFolder version)))

pub entries_bounds : (version : Version) → IsPath (entries_path (number version))
entries_bounds version = bounds_of (entries_fit version)

pub links_bounds : (version sub : Version) → IsPath (fixed_path (BootFolder version sub))
links_bounds version sub = bounds_of (links_fit version sub)
