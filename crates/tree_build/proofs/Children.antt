-- What lies in a folder, in the order of the names.
use Rattle.std.proofs.Common.{◌≡◌, List, [], ◌∷◌, ◌++◌, Option, Some, None, refl, sym, ◌∙◌, ap, subst, ⊎_elim}
use Rattle.std.specs.Prelude.{map}
use Rattle.std.specs.List.{AllByRecursion, cons_option}
use Rattle.std.specs.List.Sorted.{IsStrictlySortedBy}
use Rattle.std.specs.Cmp.Lexicographic.{slice_cmp}
use Rattle.std.specs.Ordering.{nat_cmp}
use Rattle.std.specs.declared.cmp.Ordering.TheVariants.{Less, Equal}
use Rattle.std.proofs.lemmas.Cmp.{nat_list_cmp_total, tied_itself}
use Rattle.std.proofs.lemmas.List.{map-append}
use Rattle.std.proofs.lemmas.List.Elements.{filter_map-append}
use Rattle.ost_types.specs.Path.{Name, Path, path_cmp, under}
use Rattle.ost_forms.specs.DirTree.{IsAscending, AreApart, file_names, folder_names}
use Rattle.tree_build.specs.declared.sums.Sums.{Sums}
use Rattle.tree_build.specs.declared.sums.Sums.TheVariants.{File, Folder}
use Rattle.tree_build.specs.Objects.{Made, Child, child_in, children, name_in, file_by, folder_by, files_of, folders_of, file_at, folder_at}
use Rattle.tree_build.proofs.Orders.{names_ascend}
use Rattle.tree_build.proofs.Lists.{Among, contained_among, all_at, all_left}
use Rattle.tree_build.proofs.Names.{under-name_in}
use Rattle.tree_build.proofs.Pendings.{AllMade, MadeRises}

abbrev pub names_of : List Child → List Name
names_of = map (λ c. c.name)

abbrev Behind : Name → List Name → Type 0
Behind x ys = AllByRecursion (λ y. slice_cmp nat_cmp x y ≡ Less) ys

pub ascending_left : (xs ys : List Name) → IsAscending (xs ++ ys) → IsAscending xs
unfolding IsStrictlySortedBy
ascending_left [] ys h = tt
ascending_left (x ∷ xs) ys h = (all_left (λ y. slice_cmp nat_cmp x y ≡ Less) xs ys h.0, ascending_left xs ys h.1)

-- ---- children

child_behind : (f : Path) (x : Name) (ms : List Made) → AllMade (λ q. path_cmp (under f x) q ≡ Less) ms → Behind x (names_of (children f ms))
child_behind f x [] h = tt
child_behind f x (m ∷ ms) h = one (name_in f m.path) refl (child_behind f x ms h.1)
  where
    one : (o : Option Name) → name_in f m.path ≡ o → Behind x (names_of (children f ms)) → Behind x (names_of (children f (m ∷ ms)))
    one None e rest = rw e rest
    one (Some y) e rest = rw e (names_ascend f x y (subst (λ q. path_cmp (under f x) q ≡ Less) (under-name_in f m.path y e) h.0), rest)

pub children_ascend : (f : Path) (ms : List Made) → MadeRises ms → IsAscending (names_of (children f ms))
unfolding IsStrictlySortedBy
children_ascend f [] r = tt
children_ascend f (m ∷ ms) r = one (name_in f m.path) refl (children_ascend f ms r.1)
  where
    one : (o : Option Name) → name_in f m.path ≡ o → IsAscending (names_of (children f ms)) → IsAscending (names_of (children f (m ∷ ms)))
    one None e rest = rw e rest
    one (Some y) e rest = rw e (child_behind f y ms (subst (λ p. AllMade (λ q. path_cmp p q ≡ Less) ms) (under-name_in f m.path y e) r.0), rest)

-- ---- files and folders among them

file_behind : (x : Name) (cs : List Child) → Behind x (names_of cs) → Behind x (file_names (files_of cs))
file_behind x [] h = tt
file_behind x (c ∷ cs) h = one c.sums refl (file_behind x cs h.1)
  where
    one : (s : Sums) → c.sums ≡ s → Behind x (file_names (files_of cs)) → Behind x (file_names (files_of (c ∷ cs)))
    one (File sum) e rest = rw e (h.0, rest)
    one (Folder tree meta) e rest = rw e rest

folder_behind : (x : Name) (cs : List Child) → Behind x (names_of cs) → Behind x (folder_names (folders_of cs))
folder_behind x [] h = tt
folder_behind x (c ∷ cs) h = one c.sums refl (folder_behind x cs h.1)
  where
    one : (s : Sums) → c.sums ≡ s → Behind x (folder_names (folders_of cs)) → Behind x (folder_names (folders_of (c ∷ cs)))
    one (File sum) e rest = rw e rest
    one (Folder tree meta) e rest = rw e (h.0, rest)

pub files_ascend : (cs : List Child) → IsAscending (names_of cs) → IsAscending (file_names (files_of cs))
unfolding IsStrictlySortedBy
files_ascend [] h = tt
files_ascend (c ∷ cs) h = one c.sums refl (files_ascend cs h.1)
  where
    one : (s : Sums) → c.sums ≡ s → IsAscending (file_names (files_of cs)) → IsAscending (file_names (files_of (c ∷ cs)))
    one (File sum) e rest = rw e (file_behind c.name cs h.0, rest)
    one (Folder tree meta) e rest = rw e rest

pub folders_ascend : (cs : List Child) → IsAscending (names_of cs) → IsAscending (folder_names (folders_of cs))
unfolding IsStrictlySortedBy
folders_ascend [] h = tt
folders_ascend (c ∷ cs) h = one c.sums refl (folders_ascend cs h.1)
  where
    one : (s : Sums) → c.sums ≡ s → IsAscending (folder_names (folders_of cs)) → IsAscending (folder_names (folders_of (c ∷ cs)))
    one (File sum) e rest = rw e rest
    one (Folder tree meta) e rest = rw e (folder_behind c.name cs h.0, rest)

not_behind_itself : (x : Name) (ys : List Name) → Behind x ys → Among x ys → ⊥
not_behind_itself x ys b a =
    let l : slice_cmp nat_cmp x x ≡ Less = all_at (λ y. slice_cmp nat_cmp x y ≡ Less) x ys b a in
    let n : Less ≡ Equal = sym l ∙ tied_itself nat_list_cmp_total x in
    cc

apart_among : (cs : List Child) → IsAscending (names_of cs) → (n : Name) → Among n (file_names (files_of cs)) → Among n (folder_names (folders_of cs)) → ⊥
unfolding IsStrictlySortedBy
apart_among [] h n a b = a
apart_among (c ∷ cs) h n a b = one c.sums refl (apart_among cs h.1 n)
  where
    one : (s : Sums) → c.sums ≡ s → (Among n (file_names (files_of cs)) → Among n (folder_names (folders_of cs)) → ⊥) → ⊥
    one (File sum) e rest = ⊎_elim
        (λ (same : c.name ≡ n). not_behind_itself n (folder_names (folders_of cs)) (subst (λ x. Behind x (folder_names (folders_of cs))) same (folder_behind c.name cs h.0)) (rw e at b))
        (λ (t : Among n (file_names (files_of cs))). rest t (rw e at b)) (rw e at a)
    one (Folder tree meta) e rest = ⊎_elim
        (λ (same : c.name ≡ n). not_behind_itself n (file_names (files_of cs)) (subst (λ x. Behind x (file_names (files_of cs))) same (file_behind c.name cs h.0)) (rw e at a))
        (λ (t : Among n (folder_names (folders_of cs))). rest (rw e at a) t) (rw e at b)

pub entries_apart : (cs : List Child) → IsAscending (names_of cs) → AreApart (file_names (files_of cs)) (folder_names (folders_of cs))
entries_apart cs h n a b = apart_among cs h n (contained_among n _ a) (contained_among n _ b)

-- ---- one more, as the loop takes it

pub files_more : (f : Path) (ms : List Made) (p : Path) (s : Sums) → files_of (children f (ms ++ record { path = p; sums = s } ∷ [])) ≡ files_of (children f ms) ++ cons_option (file_at f p s) []
files_more f ms p s =
    ap files_of (filter_map-append (child_in f) ms (record { path = p; sums = s } ∷ []))
    ∙ filter_map-append (λ (c : Child). file_by c.name c.sums) (children f ms) (children f (record { path = p; sums = s } ∷ []))
    ∙ ap (λ r. files_of (children f ms) ++ r) (one (name_in f p) refl)
  where
    one : (o : Option Name) → name_in f p ≡ o → files_of (children f (record { path = p; sums = s } ∷ [])) ≡ cons_option (file_at f p s) []
    one None e = rw e refl
    one (Some x) e = rw e refl

pub folders_more : (f : Path) (ms : List Made) (p : Path) (s : Sums) → folders_of (children f (ms ++ record { path = p; sums = s } ∷ [])) ≡ folders_of (children f ms) ++ cons_option (folder_at f p s) []
folders_more f ms p s =
    ap folders_of (filter_map-append (child_in f) ms (record { path = p; sums = s } ∷ []))
    ∙ filter_map-append (λ (c : Child). folder_by c.name c.sums) (children f ms) (children f (record { path = p; sums = s } ∷ []))
    ∙ ap (λ r. folders_of (children f ms) ++ r) (one (name_in f p) refl)
  where
    one : (o : Option Name) → name_in f p ≡ o → folders_of (children f (record { path = p; sums = s } ∷ [])) ≡ cons_option (folder_at f p s) []
    one None e = rw e refl
    one (Some x) e = rw e refl

-- the names of some of them ascend where those of all do
pub some_ascend : (f : Path) (ms ns : List Made) → IsAscending (names_of (children f (ms ++ ns))) → IsAscending (names_of (children f ms))
some_ascend f ms ns h =
    ascending_left (names_of (children f ms)) (names_of (children f ns))
    (subst IsAscending (ap names_of (filter_map-append (child_in f) ms ns) ∙ map-append (λ (c : Child). c.name) (children f ms) (children f ns)) h)
