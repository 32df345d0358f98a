-- The last of two lists in order.
use Rattle.std.proofs.Common.{◌≡◌, inl, inr, List, [], ◌∷◌, ◌++◌, length, drop, map, Option, Some, None, MatchOption, refl, sym, ◌∙◌, ap, subst, arith, length-append}
use Rattle.std.proofs.Math.Logic.{∥∥₁_elim}
use Rattle.std.proofs.lemmas.List.Elements.{Contains-push}
use Rattle.std.proofs.lemmas.List.{map-append}
use Rattle.std.specs.List.{AllByRecursion}
use Rattle.std.specs.List.Sorted.{IsStrictlySortedBy}
use Rattle.std.specs.Cmp.Lexicographic.{slice_cmp}
use Rattle.std.specs.FinMap.{nat_cmp-IsAntisymmetric, slice_cmp-IsAntisymmetric}
use Rattle.std.specs.Ordering.{nat_cmp, is_lt}
use Rattle.std.specs.declared.cmp.Ordering.{Ordering}
use Rattle.std.specs.declared.cmp.Ordering.TheVariants.{Less, Equal, Greater}
use Rattle.std.proofs.Common.{true, false, Contains}
use Rattle.std.proofs.lemmas.Cmp.{nat_list_cmp_total}
use Rattle.ost_types.specs.Path.{Name}
use Rattle.ost_forms.specs.declared.entry.FileItem.{FileItem}
use Rattle.ost_forms.specs.declared.entry.FolderItem.{FolderItem}
use Rattle.ost_forms.specs.DirTree.{AreApart, IsAscending, file_names, folder_names}
use Rattle.tree_read.specs.declared.children.Last.{Last}
use Rattle.tree_read.specs.declared.item.Named.{Named}
use Rattle.tree_read.specs.declared.item.Named.TheVariants as named
use Rattle.tree_read.specs.Children.{Child, IsBefore, file_child, folder_child}
use Rattle.tree_read.specs.Merging.{IsLast}

pub before_then : (x y z : Name) → IsBefore x y → IsBefore y z → IsBefore x z
before_then x y z p q = nat_list_cmp_total.trans x y z p q

pub apart_from : (xs ys : List Name) → ∥ AreApart xs ys ∥₁ → AreApart xs ys
apart_from xs ys h n p q = ∥∥₁_elim h (λ x y. absurd x) (λ a. a n p q)

module _ {X : Type 0} (name : X → Name) where
  pub all_front : (P : X → Type 0) (xs : List X) (x : X) → AllByRecursion P (xs ++ x ∷ []) → AllByRecursion P xs
  all_front P [] x h = tt
  all_front P (y ∷ xs) x h = (h.0, all_front P xs x h.1)

  with_last : (P : X → Type 0) (xs : List X) (x : X) → AllByRecursion P xs → P x → AllByRecursion P (xs ++ x ∷ [])
  with_last P [] x h p = (p, tt)
  with_last P (y ∷ xs) x h p = (h.0, with_last P xs x h.1 p)

  names_front : (P : Name → Type 0) (xs : List X) (x : X) → AllByRecursion P (map name (xs ++ x ∷ [])) → AllByRecursion P (map name xs)
  names_front P [] x h = tt
  names_front P (y ∷ xs) x h = (h.0, names_front P xs x h.1)

  names_last : (P : Name → Type 0) (xs : List X) (x : X) → AllByRecursion P (map name (xs ++ x ∷ [])) → P (name x)
  names_last P [] x h = h.0
  names_last P (y ∷ xs) x h = names_last P xs x h.1

  pub ascending_front : (xs : List X) (x : X) → IsAscending (map name (xs ++ x ∷ [])) → IsAscending (map name xs)
  unfolding IsStrictlySortedBy
  ascending_front [] x h = tt
  ascending_front (y ∷ xs) x h = (names_front (λ z. slice_cmp nat_cmp (name y) z ≡ Less) xs x h.0, ascending_front xs x h.1)

  pub all_before : (xs : List X) (x : X) → IsAscending (map name (xs ++ x ∷ [])) → AllByRecursion (λ i. IsBefore (name i) (name x)) xs
  unfolding IsStrictlySortedBy
  all_before [] x h = tt
  all_before (y ∷ xs) x h = (names_last (λ z. slice_cmp nat_cmp (name y) z ≡ Less) xs x h.0, all_before xs x h.1)

  pub later : (xs : List X) (y z : Name) → AllByRecursion (λ i. IsBefore (name i) y) xs → IsBefore y z → AllByRecursion (λ i. IsBefore (name i) z) xs
  later [] y z h less = tt
  later (x ∷ xs) y z h less = (before_then (name x) y z h.0 less, later xs y z h.1 less)

  pub all_before_later : (xs : List X) (x : X) (z : Name) → IsAscending (map name (xs ++ x ∷ [])) → IsBefore (name x) z → AllByRecursion (λ i. IsBefore (name i) z) (xs ++ x ∷ [])
  all_before_later xs x z h less = with_last (λ i. IsBefore (name i) z) xs x (later xs (name x) z (all_before xs x h) less) less

pub all_last : {X : Type 0} (P : X → Type 0) (xs : List X) (x : X) → AllByRecursion P (xs ++ x ∷ []) → P x
all_last P [] x h = h.0
all_last P (y ∷ xs) x h = all_last P xs x h.1

-- the file is the last
pub file_last : (files rest : List FileItem) (folders : List FolderItem) (i : FileItem) (c : Child) → files ≡ rest ++ i ∷ [] → c ≡ file_child i
    → IsAscending (file_names files) → AllByRecursion (λ j. IsBefore j.name i.name) folders → IsLast files folders c rest folders
file_last files rest folders i c cut is ascending less =
    let here = all_before (λ (j : FileItem). j.name) rest i (subst (λ f. IsAscending (file_names f)) cut ascending) in
    let name : i.name ≡ c.name = ap (λ x. x.name) (sym is) in (
      record {
        files_are = subst (λ n. AllByRecursion (λ (j : FileItem). IsBefore j.name n) rest) name here;
        folders_are = subst (λ n. AllByRecursion (λ (j : FolderItem). IsBefore j.name n) folders) name less;
      },
      inl (i, cut, refl, is),
    )

pub folder_last : (files : List FileItem) (folders rest : List FolderItem) (i : FolderItem) (c : Child) → folders ≡ rest ++ i ∷ [] → c ≡ folder_child i
    → IsAscending (folder_names folders) → AllByRecursion (λ j. IsBefore j.name i.name) files → IsLast files folders c files rest
folder_last files folders rest i c cut is ascending less =
    let here = all_before (λ (j : FolderItem). j.name) rest i (subst (λ f. IsAscending (folder_names f)) cut ascending) in
    let name : i.name ≡ c.name = ap (λ x. x.name) (sym is) in (
      record {
        files_are = subst (λ n. AllByRecursion (λ (j : FileItem). IsBefore j.name n) files) name less;
        folders_are = subst (λ n. AllByRecursion (λ (j : FolderItem). IsBefore j.name n) rest) name here;
      },
      inr (i, cut, refl, is),
    )

-- of two last ones the one that isn't before the other comes after it, where they differ
pub not_before : (x y : Name) → (x ≡ y → ⊥) → is_lt (slice_cmp nat_cmp x y) ≡ false → IsBefore y x
not_before x y differ less = by (slice_cmp nat_cmp x y) refl less
  where
    by : (o : Ordering) → slice_cmp nat_cmp x y ≡ o → is_lt o ≡ false → IsBefore y x
    by Less is less = absurd (let n : true ≡ false = less in cc)
    by Equal is less = absurd (differ (slice_cmp-IsAntisymmetric nat_cmp-IsAntisymmetric x y is))
    by Greater is less = nat_list_cmp_total.antisymm y x ∙ rw is refl

pub is_before : (x y : Name) → is_lt (slice_cmp nat_cmp x y) ≡ true → IsBefore x y
is_before x y less = by (slice_cmp nat_cmp x y) refl less
  where
    by : (o : Ordering) → slice_cmp nat_cmp x y ≡ o → is_lt o ≡ true → IsBefore x y
    by Less is less = is
    by Equal is less = absurd (let n : false ≡ true = less in cc)
    by Greater is less = absurd (let n : false ≡ true = less in cc)

pub lasts_differ : (files fewer : List FileItem) (folders rest : List FolderItem) (i : FileItem) (j : FolderItem) → files ≡ fewer ++ i ∷ [] → folders ≡ rest ++ j ∷ []
    → AreApart (file_names files) (folder_names folders) → j.name ≡ i.name → ⊥
lasts_differ files fewer folders rest i j cut cut' apart same =
    apart i.name
    (subst (λ f. Contains (file_names f) i.name) (sym cut) (subst (λ n. Contains n i.name) (sym (map-append (λ (x : FileItem). x.name) fewer (i ∷ []))) (Contains-push (file_names fewer) i.name)))
    (subst (λ f. Contains (folder_names f) i.name) (sym cut') (subst (λ n. Contains n i.name) (sym (map-append (λ (x : FolderItem). x.name) rest (j ∷ []))) (subst (λ n. Contains (folder_names rest ++ n ∷ []) i.name) (sym same) (Contains-push (folder_names rest) i.name))))

pub child_is : (name : Name) (x : Named) (c : Child) → name ≡ c.name → x ≡ c.named → record { name = name; named = x } ≡ c
child_is name x c e f = ap (λ n. record { name = n; named = x }) e ∙ ap (λ y. record { name = c.name; named = y }) f

pub file_taken : (files rest files' : List FileItem) (folders folders' : List FolderItem) (i : FileItem) (name : Name) (x : Named) → files ≡ rest ++ i ∷ []
    → name ≡ i.name → x ≡ named.File i.file → files' ≡ rest → folders' ≡ folders
    → IsAscending (file_names files) → AllByRecursion (λ j. IsBefore j.name i.name) folders → IsLast files folders (record { name = name; named = x }) files' folders'
file_taken files rest files' folders folders' i name x cut is_name is_named is_files is_folders ascending less =
    subst (λ f. IsLast files folders (record { name = name; named = x }) f folders') (sym is_files)
    (subst (λ f. IsLast files folders (record { name = name; named = x }) rest f) (sym is_folders)
    (file_last files rest folders i (record { name = name; named = x }) cut (child_is name x (file_child i) is_name is_named) ascending less))

pub last_same : {X : Type 0} (xs ys : List X) (x y : X) → xs ++ x ∷ [] ≡ ys ++ y ∷ [] → x ≡ y
last_same [] [] x y e = cc
last_same [] (z ∷ ys) x y e = absurd (omega (arith, ap length e, length-append ys (y ∷ [])))
last_same (z ∷ xs) [] x y e = absurd (omega (arith, ap length e, length-append xs (x ∷ [])))
last_same (z ∷ xs) (w ∷ ys) x y e = last_same xs ys x y (ap (drop 1) e)

abbrev TellsFolder : List FileItem → List FolderItem → Option Last → Type 0
TellsFolder files folders o =
    MatchOption o (folders ≡ []) (λ l. (i : FolderItem) × (folders ≡ l.folders.now ++ i ∷ []) × (l.files.now ≡ files) × (l.name.now ≡ i.name) × (l.named ≡ named.Folder i.tree i.meta))

abbrev TellsLast : List FileItem → List FolderItem → Option Last → Type 0
TellsLast files folders o =
    MatchOption o ((files ≡ []) × (folders ≡ [])) (λ l. IsLast files folders (record { name = l.name.now; named = l.named }) l.files.now l.folders.now)

folder_taken : (files : List FileItem) (folders : List FolderItem) (o : Option Last) → TellsFolder files folders o → (folders ≡ [] → files ≡ []) → IsAscending (folder_names folders)
    → ((rest : List FolderItem) (i : FolderItem) → folders ≡ rest ++ i ∷ [] → AllByRecursion (λ j. IsBefore j.name i.name) files) → TellsLast files folders o
folder_taken files folders None none so ascending less = (so none, none)
folder_taken files folders (Some l) it so ascending less =
    subst (λ f. IsLast files folders (record { name = l.name.now; named = l.named }) f l.folders.now) (sym it.2)
    (folder_last files folders l.folders.now it.0 (record { name = l.name.now; named = l.named }) it.1 (child_is l.name.now l.named (folder_child it.0) it.3 it.4) ascending (less l.folders.now it.0 it.1))

-- there is no file
pub folder_alone : (files : List FileItem) (folders : List FolderItem) (o : Option Last) → TellsFolder files folders o → files ≡ [] → IsAscending (folder_names folders) → TellsLast files folders o
folder_alone files folders o tells none ascending =
    folder_taken files folders o tells (λ e. none) ascending (λ rest i cut. subst (λ f. AllByRecursion (λ (j : FileItem). IsBefore j.name i.name) f) (sym none) tt)

-- the last folder comes after the last file
pub folder_after : (files fewer : List FileItem) (folders rest : List FolderItem) (o : Option Last) (i : FileItem) (j : FolderItem) → TellsFolder files folders o
    → files ≡ fewer ++ i ∷ [] → folders ≡ rest ++ j ∷ [] → IsAscending (file_names files) → IsAscending (folder_names folders) → IsBefore i.name j.name → TellsLast files folders o
folder_after files fewer folders rest o i j tells cut cut' ascending ascending' less =
    folder_taken files folders o tells (λ e. absurd (let n : [] ≡ rest ++ j ∷ [] = sym e ∙ cut' in omega (arith, ap length n, length-append rest (j ∷ [])))) ascending'
    (λ rest' k cut''. let same : j ≡ k = last_same rest rest' j k (sym cut' ∙ cut'') in
    subst (λ f. AllByRecursion (λ (x : FileItem). IsBefore x.name k.name) f) (sym cut)
    (all_before_later (λ (x : FileItem). x.name) fewer i k.name (subst (λ f. IsAscending (file_names f)) cut ascending) (subst (λ y. IsBefore i.name y.name) same less)))

-- the last file comes after all folders
pub folders_before : (folders rest : List FolderItem) (j : FolderItem) (z : Name) → folders ≡ rest ++ j ∷ [] → IsAscending (folder_names folders) → IsBefore j.name z → AllByRecursion (λ x. IsBefore x.name z) folders
folders_before folders rest j z cut ascending less =
    subst (λ f. AllByRecursion (λ (x : FolderItem). IsBefore x.name z) f) (sym cut)
    (all_before_later (λ (x : FolderItem). x.name) rest j z (subst (λ f. IsAscending (folder_names f)) cut ascending) less)

pub none_before : (folders : List FolderItem) (z : Name) → folders ≡ [] → AllByRecursion (λ x. IsBefore x.name z) folders
none_before folders z none = subst (λ f. AllByRecursion (λ (x : FolderItem). IsBefore x.name z) f) (sym none) tt
