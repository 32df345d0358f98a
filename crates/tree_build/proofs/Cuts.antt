-- The loops over what lies in no folder yet.
use Rattle.std.proofs.Common.{◌≡◌, ℕ, zero, suc, ◌<◌, ◌≤◌, ◌+◌, ◌-◌, Bool, true, false, List, [], ◌∷◌, ◌++◌, length, get_or, take, drop, Option, Some, None, refl, sym, ◌∙◌, ap, subst, arith, Bor}
use Rattle.std.specs.Prelude.{All, map, slice_index, is_some, not}
use Rattle.std.specs.Option.{option_copied}
use Rattle.std.specs.List.{cons_option}
use Rattle.std.proofs.lemmas.List.{take-append-drop, drop_more, get_or_default, append-nil}
use Rattle.std.proofs.lemmas.List.Elements.{All-cons, All-same}
use Rattle.ost_types.specs.Path.{Name, Path, is_in}
use Rattle.ost_forms.specs.declared.entry.FileItem.{FileItem}
use Rattle.ost_forms.specs.declared.entry.FolderItem.{FolderItem}
use Rattle.ost_forms.specs.declared.tree_item.TreeItem.{TreeItem}
use Rattle.ost_forms.specs.DirTree.{IsAscending, file_names, folder_names}
use Rattle.tree_build.specs.declared.progress.Done.{Done}
use Rattle.tree_build.specs.Objects.{name_in, children, files_of, folders_of, file_at, folder_at}
use Rattle.tree_build.specs.Building.{path_at, seen, all_seen, IsCut, last_place}
use Rattle.tree_build.proofs.Works.{seen_parts, path_at_is}
use Rattle.tree_build.proofs.Names.{name_in-inside, name_in-outside}
use Rattle.tree_build.proofs.Children.{names_of, some_ascend, files_ascend, folders_ascend, files_more, folders_more}

drop_one : (ds : List Done) (n : ℕ) (a : Done) → 0 < n → n ≤ length ds → a ≡ get_or ds (n - 1) a → drop (n - 1) ds ≡ a ∷ drop n ds
drop_one ds n a some within is = drop_more ds (n - 1) a (omega (arith, some, within)) ∙ ap (λ x. x ∷ drop (n - 1 + 1) ds) (sym is) ∙ ap (λ k. a ∷ drop k ds) (omega (arith, some))

one_place : (ds : List Done) (n : ℕ) (a b : Done) → 0 < n → n ≤ length ds → a ≡ get_or ds (n - 1) a → b ≡ get_or ds (n - 1) b → a ≡ b
one_place ds n a b some within is_a is_b = is_a ∙ get_or_default ds (n - 1) a b (omega (arith, some, within)) ∙ sym is_b

seen_one : (items : List TreeItem) (a : Done) (ds : List Done) → all_seen items (a ∷ ds) ≡ all_seen items ds ++ seen items a ∷ []
seen_one items a ds = seen_parts items (a ∷ []) ds

pub place : (a : Done) (ds : List Done) (k : ℕ) → k < length ds → a ≡ get_or ds k a → slice_index (map (λ (d : Done). d.at) ds) k ≡ a.at
place a [] k l e = absurd (omega (arith, l))
place a (d ∷ ds) zero l e = ap (λ (d : Done). d.at) (sym e)
place a (d ∷ ds) (suc k) l e = place a ds k (omega (arith, l)) e

module _ (items : List TreeItem) (f : Path) (ds : List Done) (n : ℕ) (some : 0 < n) (within : n ≤ length ds) (places : All (λ d. d.at < length items) ds)
    (a : Done) (is_a : a ≡ get_or ds (n - 1) a) (x : TreeItem) (is_x : x ≡ get_or items a.at x) where
  inside : a.at < length items
  inside = subst (λ (d : Done). d.at < length items) (sym is_a) (places (n - 1) a (omega (arith, some, within)))

  pub path_there : path_at items a.at ≡ (get_or items a.at x).path
  path_there = path_at_is items a.at x inside is_x ∙ ap (λ (i : TreeItem). i.path) is_x

  pub files_next : (b : Done) (r : Option FileItem) → b ≡ get_or ds (n - 1) b → r ≡ file_at f (get_or items a.at x).path b.sums
      → files_of (children f (all_seen items (drop n ds))) ++ cons_option r [] ≡ files_of (children f (all_seen items (drop (n - 1) ds)))
  files_next b r is_b is_r =
      ap (λ o. files_of (children f (all_seen items (drop n ds))) ++ cons_option o [])
      (is_r ∙ ap (λ p. file_at f p b.sums) (sym path_there) ∙ ap (λ (d : Done). file_at f (path_at items a.at) d.sums) (sym (one_place ds n a b some within is_a is_b)))
      ∙ sym (files_more f (all_seen items (drop n ds)) (path_at items a.at) a.sums)
      ∙ ap (λ ms. files_of (children f ms)) (sym (ap (all_seen items) (drop_one ds n a some within is_a) ∙ seen_one items a (drop n ds)))

  pub folders_next : (b : Done) (r : Option FolderItem) → b ≡ get_or ds (n - 1) b → r ≡ folder_at f (get_or items a.at x).path b.sums
      → folders_of (children f (all_seen items (drop n ds))) ++ cons_option r [] ≡ folders_of (children f (all_seen items (drop (n - 1) ds)))
  folders_next b r is_b is_r =
      ap (λ o. folders_of (children f (all_seen items (drop n ds))) ++ cons_option o [])
      (is_r ∙ ap (λ p. folder_at f p b.sums) (sym path_there) ∙ ap (λ (d : Done). folder_at f (path_at items a.at) d.sums) (sym (one_place ds n a b some within is_a is_b)))
      ∙ sym (folders_more f (all_seen items (drop n ds)) (path_at items a.at) a.sums)
      ∙ ap (λ ms. folders_of (children f ms)) (sym (ap (all_seen items) (drop_one ds n a some within is_a) ∙ seen_one items a (drop n ds)))

  pub files_some : (fs : List FileItem) (b : Done) (r : Option FileItem) (item : FileItem) → fs ≡ files_of (children f (all_seen items (drop n ds))) → b ≡ get_or ds (n - 1) b → r ≡ file_at f (get_or items a.at x).path b.sums → r ≡ Some item
      → fs ++ item ∷ [] ≡ files_of (children f (all_seen items (drop (n - 1) ds)))
  files_some fs b r item done is_b is_r found =
      ap (λ l. l ++ item ∷ []) done ∙ ap (λ o. files_of (children f (all_seen items (drop n ds))) ++ cons_option o []) (sym found) ∙ files_next b r is_b is_r

  pub files_none : (fs : List FileItem) (b : Done) (r : Option FileItem) → fs ≡ files_of (children f (all_seen items (drop n ds))) → b ≡ get_or ds (n - 1) b → r ≡ file_at f (get_or items a.at x).path b.sums → r ≡ None
      → fs ≡ files_of (children f (all_seen items (drop (n - 1) ds)))
  files_none fs b r done is_b is_r none =
      done ∙ sym (append-nil _) ∙ ap (λ o. files_of (children f (all_seen items (drop n ds))) ++ cons_option o []) (sym none) ∙ files_next b r is_b is_r

  pub folders_some : (fs : List FolderItem) (b : Done) (r : Option FolderItem) (item : FolderItem) → fs ≡ folders_of (children f (all_seen items (drop n ds))) → b ≡ get_or ds (n - 1) b → r ≡ folder_at f (get_or items a.at x).path b.sums → r ≡ Some item
      → fs ++ item ∷ [] ≡ folders_of (children f (all_seen items (drop (n - 1) ds)))
  folders_some fs b r item done is_b is_r found =
      ap (λ l. l ++ item ∷ []) done ∙ ap (λ o. folders_of (children f (all_seen items (drop n ds))) ++ cons_option o []) (sym found) ∙ folders_next b r is_b is_r

  pub folders_none : (fs : List FolderItem) (b : Done) (r : Option FolderItem) → fs ≡ folders_of (children f (all_seen items (drop n ds))) → b ≡ get_or ds (n - 1) b → r ≡ folder_at f (get_or items a.at x).path b.sums → r ≡ None
      → fs ≡ folders_of (children f (all_seen items (drop (n - 1) ds)))
  folders_none fs b r done is_b is_r none =
      done ∙ sym (append-nil _) ∙ ap (λ o. folders_of (children f (all_seen items (drop n ds))) ++ cons_option o []) (sym none) ∙ folders_next b r is_b is_r

  -- where the one before the cut lies elsewhere, the cut is here
  pub cut_here : All (λ d. is_in f (path_at items d.at) ≡ true) (drop n ds) → name_in f (get_or items a.at x).path ≡ None → IsCut items f ds n
  cut_here all none = record { within = within; inside = all; last = λ _. last }
    where
      elsewhere : (b : Bool) → is_in f (path_at items a.at) ≡ b → is_in f (path_at items a.at) ≡ false
      elsewhere false e = e
      elsewhere true e =
          let w = name_in-inside f (path_at items a.at) e in
          let n : None ≡ Some w.0 = sym (ap (name_in f) path_there ∙ none) ∙ w.1 in
          cc

      last : is_in f (path_at items (last_place ds n)) ≡ false
      last = ap (λ k. is_in f (path_at items k)) (place a ds (n - 1) (omega (arith, some, within)) is_a) ∙ elsewhere (is_in f (path_at items a.at)) refl

  -- and else one further
  pub cut_on : All (λ d. is_in f (path_at items d.at) ≡ true) (drop n ds) → (y : Name) → name_in f (get_or items a.at x).path ≡ Some y → All (λ d. is_in f (path_at items d.at) ≡ true) (drop (n - 1) ds)
  cut_on all y found =
      All-same (λ (d : Done). is_in f (path_at items d.at) ≡ true) (drop (n - 1) ds) (a ∷ drop n ds) (drop_one ds n a some within is_a)
      (All-cons (λ (d : Done). is_in f (path_at items d.at) ≡ true) a (drop n ds) (inside_it (is_in f (path_at items a.at)) refl) all)
    where
      inside_it : (b : Bool) → is_in f (path_at items a.at) ≡ b → is_in f (path_at items a.at) ≡ true
      inside_it true e = e
      inside_it false e =
          let n : None ≡ Some y = sym (name_in-outside f (path_at items a.at) e) ∙ ap (name_in f) path_there ∙ found in
          cc

pub none_from : (r : Option (Bor Name)) (b : Bool) (o : Option Name) → is_some r ≡ not b → option_copied r ≡ o → b ≡ true → o ≡ None
none_from None b o e f t = sym f
none_from (Some x) b o e f t = let n : true ≡ false = e ∙ ap not t in cc

pub some_from : (r : Option (Bor Name)) (b : Bool) (o : Option Name) → is_some r ≡ not b → option_copied r ≡ o → b ≡ false → (x : Name) × (o ≡ Some x)
some_from None b o e f t = let n : false ≡ true = e ∙ ap not t in cc
some_from (Some x) b o e f t = (x.now, sym f)

pub itself : (ds : List Done) (n : ℕ) (d : Done) → 0 < n → n ≤ length ds → get_or ds (n - 1) d ≡ get_or ds (n - 1) (get_or ds (n - 1) d)
itself ds n d some within = get_or_default ds (n - 1) d (get_or ds (n - 1) d) (omega (arith, some, within))

-- ---- the names still ascend

rest_ascend : (items : List TreeItem) (f : Path) (ds : List Done) (m : ℕ) → IsAscending (names_of (children f (all_seen items ds))) → IsAscending (names_of (children f (all_seen items (drop m ds))))
rest_ascend items f ds m h =
    some_ascend f (all_seen items (drop m ds)) (all_seen items (take m ds))
    (subst (λ ms. IsAscending (names_of (children f ms))) (ap (all_seen items) (sym (take-append-drop m ds)) ∙ seen_parts items (take m ds) (drop m ds)) h)

pub files_rise : (items : List TreeItem) (f : Path) (ds : List Done) (m : ℕ) → IsAscending (names_of (children f (all_seen items ds))) → IsAscending (file_names (files_of (children f (all_seen items (drop m ds)))))
files_rise items f ds m h = files_ascend (children f (all_seen items (drop m ds))) (rest_ascend items f ds m h)

pub folders_rise : (items : List TreeItem) (f : Path) (ds : List Done) (m : ℕ) → IsAscending (names_of (children f (all_seen items ds))) → IsAscending (folder_names (folders_of (children f (all_seen items (drop m ds)))))
folders_rise items f ds m h = folders_ascend (children f (all_seen items (drop m ds))) (rest_ascend items f ds m h)
