-- The entries of a folder, looked through for a name.
use Rattle.std.proofs.Common.{◌≡◌, ◌≢◌, ◌<◌, ◌+◌, ℕ, Bool, true, false, List, [], ◌∷◌, ◌++◌, length, take, get_or, Option, None, MatchOption, sym, ◌∙◌, ap, subst, refl, Contains}
use Rattle.std.specs.List.{AllByRecursion}
use Rattle.std.proofs.lemmas.List.{take_more}
use Rattle.ost_types.proofs.Paths.{same_name-Decides}
use Rattle.ost_types.specs.Path.{Name, same_name}
use Rattle.ost_forms.specs.declared.entry.FileItem.{FileItem}
use Rattle.ost_forms.specs.DirTree.{Entries}
use Rattle.read_command.specs.declared.entry.Entry.{Entry}
use Rattle.read_command.specs.declared.entry.Entry.TheVariants.{Nothing, File, Folder}
use Rattle.read_command.specs.Entering.{IsEntry, IsFolderEntry}

abbrev pub TellsFile : List FileItem → Name → Option (List ℕ) → Type 0
TellsFile files x o = MatchOption o ((i : FileItem) → Contains files i → i.name ≡ x → ⊥) (λ sum. (i : FileItem) × Contains files i × (i.name ≡ x) × (i.file ≡ sum))

pub folder_is : (e : Entries) (x : Name) (y : Entry) → TellsFile e.files x None → IsFolderEntry e.folders x y → IsEntry e x y
folder_is e x Nothing no_file no_folder = record { file = λ sum h. no_file h.item h.among h.name; folder = λ t m h. no_folder h.item h.among h.name }
folder_is e x (Folder t m) no_file (i, among, name, tree, meta) = record { item = i; among = among; name = name; tree_is = tree; meta_is = meta }
folder_is e x (File s) no_file is = absurd is

all_push : {X : Type 0} (P : X → Type 0) (xs : List X) (x : X) → AllByRecursion P xs → P x → AllByRecursion P (xs ++ x ∷ [])
all_push P [] x all p = (p, tt)
all_push P (y ∷ xs) x all p = (all.0, all_push P xs x all.1 p)

-- one element more was looked at
pub all_more : {X : Type 0} (P : X → Type 0) (xs : List X) (i : ℕ) (x : X) → i < length xs → x ≡ get_or xs i x → AllByRecursion P (take i xs) → P x → AllByRecursion P (take (i + 1) xs)
all_more P xs i x less is all p = subst (AllByRecursion P) (sym (take_more xs i x less ∙ ap (λ y. take i xs ++ y ∷ []) (sym is))) (all_push P (take i xs) x all p)

pub differ : (x y : Name) (b : Bool) → b ≡ same_name x y → b ≡ false → x ≢ y
differ x y b is other e = let n : true ≡ false = sym (subst (λ z. same_name x z ≡ true) e ((same_name-Decides x x).1 refl)) ∙ sym is ∙ other in cc
