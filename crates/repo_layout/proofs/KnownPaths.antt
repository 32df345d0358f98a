-- The paths of the layout are those that are read from their texts.
use Rattle.std.proofs.Common.{◌≡◌, ◌+◌, ◌*◌, ◌<◌, ◌≤◌, ◌^◌, inl, inr, ℕ, List, [], ◌∷◌, ◌++◌, length, take, drop, codes, Ok, Err, refl, sym, ◌∙◌, ap, subst, arith, length-append}
use Rattle.std.specs.Fmt.{decimal, digits}
use Rattle.std.proofs.lemmas.Fmt.{length-decimal-le}
use Rattle.std.proofs.lemmas.List.{length-take, length-drop}
use Rattle.std.proofs.lemmas.List.Elements.{All-take, All-drop}
use Rattle.ost_types.specs.Text.{IsName}
use Rattle.ost_types.specs.Path.{Name, Path, AreNames, joined, text_of}
use Rattle.ost_types.specs.Parse.{IsParsed}
use Rattle.ost_types.specs.Csum.{hex_of, IsHexSum, IsHexDigit}
use Rattle.ost_types.specs.declared.path.parse.PathFault.{PathFault}
use Rattle.ost_types.specs.declared.path.parse.PathFault.TheVariants.{Empty, BadName, TooLong, TooDeep, NoMemory}
use Rattle.ost_types.specs.declared.object.Kind.{Kind}
use Rattle.ost_types.specs.declared.object.Kind.TheVariants.{Commit, DirTree, DirMeta, File}
use Rattle.ost_types.proofs.Pieces.{joined-injective}
use Rattle.ost_types.proofs.Splitting.{AreNames-append}
use Rattle.repo_layout.specs.RefName.{IsPart, IsRefName, parts_of}
use Rattle.repo_layout.specs.OsName.{IsOsName}
use Rattle.repo_layout.specs.Paths.{config_path, deploy_path, ending, folder_path, heads, in_repo, mark_path, object_path, objects_folder_path, ref_path, stage_path}
use Rattle.repo_layout.specs.declared.folder.Folder.{Folder}
use Rattle.repo_layout.specs.declared.folder.Folder.TheVariants.{Ostree, Repo, Objects, Refs, Heads, State, Tmp, Deploy, Boot, Kernels, Checkouts}
use Rattle.repo_layout.specs.BootPaths.{boot_folder_path, boot_link_path, loader_folder_path}
use Rattle.repo_layout.specs.Fixed.{fixed_path}
use Rattle.repo_layout.specs.declared.fixed.Fixed.{Fixed}
use Rattle.repo_layout.specs.declared.fixed.Fixed.TheVariants.{LoaderFolder, Entries, BootLink, BootFolder, Summary}
use Rattle.repo_layout.specs.declared.fixed.Version.TheVariants.{Zero, One}
use Rattle.repo_layout.proofs.Plain.{IsPlain, IsPlain-digits, IsPlain-decimal, name_of_part, names_of_parts, IsPlain-append, long_name, plain, word}
use Rattle.repo_layout.proofs.RefPaths.{ref_path-short}

-- Names that `parse` reads.
pub record IsKnown (p : Path) : Type 0 where
  pub names : AreNames p
  pub short : length (text_of p) ≤ 1024
  pub few : length p ≤ 64

pub parsed : (p : Path) (text : List ℕ) → IsKnown p → text ≡ text_of p → IsParsed text (Ok p)
parsed p text known is = (known.names, sym is, subst (λ t. length t ≤ 1024) (sym is) known.short, known.few)

root-alone : (x : Name) (p : Path) → IsName x → text_of [] ≡ text_of (x ∷ p) → ⊥
unfolding joined
root-alone x p is e = none x (joined p) is.not_empty cc
  where
    none : (y t : List ℕ) → (y ≡ [] → ⊥) → [] ≡ y ++ t → ⊥
    none [] t some e = some refl
    none (b ∷ y) t some e = cc

-- one text has one path
pub text_of-injective : (p q : Path) → AreNames p → AreNames q → text_of p ≡ text_of q → p ≡ q
unfolding joined
text_of-injective [] [] h g e = refl
text_of-injective [] (y ∷ q) h g e = absurd (root-alone y q g.0 e)
text_of-injective (x ∷ p) [] h g e = absurd (root-alone x p h.0 (sym e))
text_of-injective (x ∷ p) (y ∷ q) h g e = joined-injective (x ∷ p) (y ∷ q) h g e

pub parsed_same : (text : List ℕ) (p q : Path) → IsParsed text (Ok p) → IsParsed text (Ok q) → p ≡ q
parsed_same text p q a b = text_of-injective p q a.0 b.0 (a.1 ∙ sym b.1)

slash : (p : Path) (text : List ℕ) → text_of p ≡ text → (rest : List ℕ) × (text ≡ 47 ∷ rest)
unfolding joined
slash [] text e = ([], sym e)
slash (x ∷ p) text e = (x ++ joined p, sym e)

-- and no other answer but for memory
pub parsed_only : (text : List ℕ) (p : Path) (f : PathFault) → IsParsed text (Ok p) → IsParsed text (Err f) → f ≡ NoMemory
parsed_only text p Empty a b = absurd (b (slash p text a.1))
parsed_only text p BadName a b = absurd (b.1 p a.0 a.1)
parsed_only text p TooLong a b = absurd (omega (arith, a.2, b.1))
parsed_only text p TooDeep a b = let e : p ≡ b.0.0 = text_of-injective p b.0.0 a.0 b.0.1 (a.1 ∙ sym b.0.2) in absurd (omega (arith, ap length e, a.3, b.0.3))
parsed_only text p NoMemory a b = refl

joined-bound : (p : Path) → AreNames p → length (joined p) ≤ 256 * length p
unfolding joined
joined-bound [] names = omega arith
joined-bound (x ∷ p) names = omega (arith, length-append x (joined p), names.0.short, joined-bound p names.1)

-- a path of at most five names, the first two of them short
known : (b : Name) (p : Path) → IsName b → length b ≤ 6 → AreNames p → length p ≤ 3 → IsKnown (codes "ostree" ∷ b ∷ p)
unfolding joined
known b p name short names few = record {
  names = (word (codes "ostree") (refl, (refl, (refl, (refl, (refl, (refl, tt)))))) (omega arith) (omega arith), (name, names));
  short = omega (arith, length-append b (joined p), short, joined-bound p names, few);
  few = omega (arith, few);
}

known_in_repo : (p : Path) → AreNames p → length p ≤ 3 → IsKnown (in_repo p)
known_in_repo p = known (codes "repo") p (word (codes "repo") (refl, (refl, (refl, (refl, tt)))) (omega arith) (omega arith)) (omega arith)

refs_name : IsName (codes "refs")
refs_name = word (codes "refs") (refl, (refl, (refl, (refl, tt)))) (omega arith) (omega arith)

heads_name : IsName (codes "heads")
heads_name = word (codes "heads") (refl, (refl, (refl, (refl, (refl, tt))))) (omega arith) (omega arith)

objects_name : IsName (codes "objects")
objects_name = word (codes "objects") (refl, (refl, (refl, (refl, (refl, (refl, (refl, tt))))))) (omega arith) (omega arith)

state_name : IsName (codes "state")
state_name = word (codes "state") (refl, (refl, (refl, (refl, (refl, tt))))) (omega arith) (omega arith)

tmp_name : IsName (codes "tmp")
tmp_name = word (codes "tmp") (refl, (refl, (refl, tt))) (omega arith) (omega arith)

deploy_name : IsName (codes "deploy")
deploy_name = word (codes "deploy") (refl, (refl, (refl, (refl, (refl, (refl, tt)))))) (omega arith) (omega arith)

ostree_name : IsName (codes "ostree")
ostree_name = word (codes "ostree") (refl, (refl, (refl, (refl, (refl, (refl, tt)))))) (omega arith) (omega arith)

boot_name : IsName (codes "boot")
boot_name = word (codes "boot") (refl, (refl, (refl, (refl, tt)))) (omega arith) (omega arith)

checkout_name : IsName (codes "checkout")
checkout_name = word (codes "checkout") (refl, (refl, (refl, (refl, (refl, (refl, (refl, (refl, tt)))))))) (omega arith) (omega arith)

config_name : IsName (codes "config")
config_name = word (codes "config") (refl, (refl, (refl, (refl, (refl, (refl, tt)))))) (omega arith) (omega arith)

pub folder-known : (folder : Folder) → IsKnown (folder_path folder)
unfolding joined
folder-known Ostree = record { names = (word (codes "ostree") (refl, (refl, (refl, (refl, (refl, (refl, tt)))))) (omega arith) (omega arith), tt); short = omega arith; few = omega arith }
folder-known Repo = known_in_repo [] tt (omega arith)
folder-known Objects = known_in_repo _ (objects_name, tt) (omega arith)
folder-known Refs = known_in_repo _ (refs_name, tt) (omega arith)
folder-known Heads = known_in_repo _ (refs_name, (heads_name, tt)) (omega arith)
folder-known State = known_in_repo _ (state_name, tt) (omega arith)
folder-known Tmp = known_in_repo _ (tmp_name, tt) (omega arith)
folder-known Deploy = known (codes "deploy") [] deploy_name (omega arith) tt (omega arith)
folder-known Boot = record { names = (boot_name, tt); short = omega arith; few = omega arith }
folder-known Kernels = record { names = (boot_name, (ostree_name, tt)); short = omega arith; few = omega arith }
folder-known Checkouts = record { names = (checkout_name, tt); short = omega arith; few = omega arith }

pub config-known : IsKnown config_path
config-known = known_in_repo _ (config_name, tt) (omega arith)

pub ref-known : (name : List ℕ) → IsRefName name → IsKnown (ref_path name)
unfolding ref_path
ref-known name is = record {
  names = AreNames-append heads (parts_of name) (folder-known Heads).names (names_of_parts (parts_of name) is.parts);
  short = ref_path-short name is;
  few = omega (arith, length-append heads (parts_of name), is.few);
}

-- the folder and the file of an object's digits
first_two : (digits : List ℕ) → IsHexSum digits → IsPart (take 2 digits)
first_two digits is = record {
  bytes = IsPlain-digits _ (All-take IsHexDigit 2 digits is.digits);
  not_empty = λ e. omega (arith, ap length e, length-take 2 digits, is.whole);
  no_dot = λ e. not_dot _ (All-take IsHexDigit 2 digits is.digits 0 0 (omega (arith, length-take 2 digits, is.whole))) e;
  short = omega (arith, length-take 2 digits, is.whole);
}
  where
    not_dot : (b : ℕ) → IsHexDigit b → b ≡ 46 → ⊥
    not_dot b (inl h) e = omega (arith, h, e)
    not_dot b (inr h) e = omega (arith, h, e)

IsPlain-ending : (kind : Kind) → IsPlain (ending kind)
IsPlain-ending Commit = plain (codes ".commit") (refl, (refl, (refl, (refl, (refl, (refl, (refl, tt)))))))
IsPlain-ending DirTree = plain (codes ".dirtree") (refl, (refl, (refl, (refl, (refl, (refl, (refl, (refl, tt))))))))
IsPlain-ending DirMeta = plain (codes ".dirmeta") (refl, (refl, (refl, (refl, (refl, (refl, (refl, (refl, tt))))))))
IsPlain-ending File = plain (codes ".file") (refl, (refl, (refl, (refl, (refl, tt)))))

length-ending : (kind : Kind) → length (ending kind) ≤ 8
length-ending Commit = omega arith
length-ending DirTree = omega arith
length-ending DirMeta = omega arith
length-ending File = omega arith

pub objects_folder-known : (sum : List ℕ) → IsHexSum (hex_of sum) → IsKnown (objects_folder_path sum)
unfolding objects_folder_path
objects_folder-known sum is = known_in_repo _ (objects_name, (name_of_part _ (first_two (hex_of sum) is), tt)) (omega arith)

pub object-known : (kind : Kind) (sum : List ℕ) → IsHexSum (hex_of sum) → IsKnown (object_path kind sum)
unfolding object_path
object-known kind sum is =
    let rest = drop 2 (hex_of sum) in
    let n : length (rest ++ ending kind) ≡ length rest + length (ending kind) = length-append rest (ending kind) in
    let file = long_name (rest ++ ending kind) (IsPlain-append rest (ending kind) (IsPlain-digits rest (All-drop IsHexDigit 2 (hex_of sum) is.digits)) (IsPlain-ending kind))
    (omega (arith, n, length-drop 2 (hex_of sum), is.whole)) (omega (arith, n, length-drop 2 (hex_of sum), is.whole, length-ending kind)) in
    known_in_repo _ (objects_name, (name_of_part _ (first_two (hex_of sum) is), (file, tt))) (omega arith)

pub mark-known : (commit : List ℕ) → IsHexSum (hex_of commit) → IsKnown (mark_path commit)
unfolding mark_path
mark-known commit is =
    let n : length (hex_of commit ++ codes ".commitpartial") ≡ length (hex_of commit) + 14 = length-append (hex_of commit) (codes ".commitpartial") in
    let end : IsPlain (codes ".commitpartial") = plain (codes ".commitpartial") (refl, (refl, (refl, (refl, (refl, (refl, (refl, (refl, (refl, (refl, (refl, (refl, (refl, (refl, tt)))))))))))))) in
    let file : IsName (hex_of commit ++ codes ".commitpartial") = long_name (hex_of commit ++ codes ".commitpartial") (IsPlain-append (hex_of commit) (codes ".commitpartial") (IsPlain-digits (hex_of commit) is.digits) end) (omega (arith, n, is.whole)) (omega (arith, n, is.whole)) in
    known_in_repo _ (state_name, (file, tt)) (omega arith)

pub stage-known : (actor : ℕ) → actor < 16 → IsKnown (stage_path actor)
unfolding stage_path
stage-known actor less =
    let n : length (codes "actor-" ++ decimal actor) ≡ 6 + length (decimal actor) = length-append (codes "actor-") (decimal actor) in
    let short = length-decimal-le 2 actor (omega arith) (omega arith) (omega arith) in
    let front : IsPlain (codes "actor-") = plain (codes "actor-") (refl, (refl, (refl, (refl, (refl, (refl, tt)))))) in
    let folder : IsName (codes "actor-" ++ decimal actor) = long_name (codes "actor-" ++ decimal actor) (IsPlain-append (codes "actor-") (decimal actor) front (IsPlain-decimal actor (omega arith))) (omega (arith, n)) (omega (arith, n, short)) in
    known_in_repo _ (tmp_name, (folder, tt)) (omega arith)

pub deploy-known : (os commit : List ℕ) (serial : ℕ) → IsOsName os → IsHexSum (hex_of commit) → serial < 2 ^ 32 → IsKnown (deploy_path os commit serial)
unfolding deploy_path
deploy-known os commit serial os_is is less =
    let end : List ℕ = 46 ∷ decimal serial in
    let n : length (hex_of commit ++ end) ≡ length (hex_of commit) + length end = length-append (hex_of commit) end in
    let short = length-decimal-le 10 serial (omega arith) (omega arith) (omega arith) in
    let id : IsName (hex_of commit ++ end) = long_name (hex_of commit ++ end) (IsPlain-append (hex_of commit) end (IsPlain-digits (hex_of commit) is.digits) (IsPlain-append (46 ∷ []) (decimal serial) (plain (46 ∷ []) (refl, tt)) (IsPlain-decimal serial (omega arith))))
    (omega (arith, n, is.whole)) (omega (arith, n, is.whole, short)) in
    known (codes "deploy") _ deploy_name (omega arith) (name_of_part os os_is.part, (deploy_name, (id, tt))) (omega arith)

entries_name : IsName (codes "entries")
entries_name = word (codes "entries") (refl, (refl, (refl, (refl, (refl, (refl, (refl, tt))))))) (omega arith) (omega arith)

few_known : (x : Name) (p : Path) → AreNames (x ∷ p) → length p ≤ 3 → IsKnown (x ∷ p)
unfolding joined
few_known x p names few = record {
  names = names;
  short = omega (arith, length-append x (joined p), names.0.short, joined-bound p names.1, few);
  few = omega (arith, few);
}

loader_known : (x : Name) → IsName x → IsKnown (codes "boot" ∷ x ∷ [])
loader_known x name = few_known (codes "boot") (x ∷ []) (boot_name, (name, tt)) (omega arith)

entries_known : (x : Name) → IsName x → IsKnown (codes "boot" ∷ x ∷ codes "entries" ∷ [])
entries_known x name = few_known (codes "boot") (x ∷ codes "entries" ∷ []) (boot_name, (name, (entries_name, tt))) (omega arith)

links_known : (x : Name) → IsName x → IsKnown (codes "ostree" ∷ x ∷ [])
links_known x name = few_known (codes "ostree") (x ∷ []) (ostree_name, (name, tt)) (omega arith)

pub fixed-known : (fixed : Fixed) → IsKnown (fixed_path fixed)
unfolding loader_folder_path boot_link_path boot_folder_path digits
fixed-known (LoaderFolder Zero) = loader_known (codes "loader.0") (word (codes "loader.0") (refl, (refl, (refl, (refl, (refl, (refl, (refl, (refl, tt)))))))) (omega arith) (omega arith))
fixed-known (LoaderFolder One) = loader_known (codes "loader.1") (word (codes "loader.1") (refl, (refl, (refl, (refl, (refl, (refl, (refl, (refl, tt)))))))) (omega arith) (omega arith))
fixed-known (Entries Zero) = entries_known (codes "loader.0") (word (codes "loader.0") (refl, (refl, (refl, (refl, (refl, (refl, (refl, (refl, tt)))))))) (omega arith) (omega arith))
fixed-known (Entries One) = entries_known (codes "loader.1") (word (codes "loader.1") (refl, (refl, (refl, (refl, (refl, (refl, (refl, (refl, tt)))))))) (omega arith) (omega arith))
fixed-known (BootLink Zero) = links_known (codes "boot.0") (word (codes "boot.0") (refl, (refl, (refl, (refl, (refl, (refl, tt)))))) (omega arith) (omega arith))
fixed-known (BootLink One) = links_known (codes "boot.1") (word (codes "boot.1") (refl, (refl, (refl, (refl, (refl, (refl, tt)))))) (omega arith) (omega arith))
fixed-known (BootFolder Zero Zero) = links_known (codes "boot.0.0") (word (codes "boot.0.0") (refl, (refl, (refl, (refl, (refl, (refl, (refl, (refl, tt)))))))) (omega arith) (omega arith))
fixed-known (BootFolder Zero One) = links_known (codes "boot.0.1") (word (codes "boot.0.1") (refl, (refl, (refl, (refl, (refl, (refl, (refl, (refl, tt)))))))) (omega arith) (omega arith))
fixed-known (BootFolder One Zero) = links_known (codes "boot.1.0") (word (codes "boot.1.0") (refl, (refl, (refl, (refl, (refl, (refl, (refl, (refl, tt)))))))) (omega arith) (omega arith))
fixed-known (BootFolder One One) = links_known (codes "boot.1.1") (word (codes "boot.1.1") (refl, (refl, (refl, (refl, (refl, (refl, (refl, (refl, tt)))))))) (omega arith) (omega arith))
fixed-known Summary = known_in_repo (codes "summary" ∷ []) ((word (codes "summary") (refl, (refl, (refl, (refl, (refl, (refl, (refl, tt))))))) (omega arith) (omega arith)), tt) (omega arith)
