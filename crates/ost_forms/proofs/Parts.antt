-- The members of a container of a known type, as they are read from the slices.
use Rattle.std.proofs.Common.{◌≡◌, ℕ, zero, suc, ◌<◌, List, [], ◌∷◌, length, map, get_or, Some, refl, sym, ap, ap₂, ◌∙◌, arith, Bor}
use Rattle.std.proofs.lemmas.Bool.{eqb-true}
use Rattle.std.specs.Int.{w32, to_be_bytes}
use Rattle.gv_core.proofs.Sizes.{bind_some}
use Rattle.gv_core.specs.Measure.{fixed}
use Rattle.gv_core.specs.Container.{container_form}
use Rattle.ost_types.specs.declared.meta.Xattr.{Xattr}
use Rattle.ost_types.specs.declared.meta.Meta.{Meta}
use Rattle.ost_forms.specs.declared.object_type.ObjectType.TheVariants as types
use Rattle.ost_forms.specs.TypeText.{type_text}
use Rattle.ost_forms.specs.Rows.{xattrs_form}
use Rattle.std.specs.Prelude.{option_and_then}
use Rattle.ost_forms.specs.declared.entry.FolderItem.{FolderItem}
use Rattle.ost_forms.specs.DirTree.{Entries, tree_form, files_form, folders_form}
use Rattle.ost_forms.specs.DirMeta.{dirmeta_form}
use Rattle.ost_forms.proofs.Types.{AreSized, members_sized, sized_count, xattr_kinds, file_kinds, folder_kinds, tree_kinds, dirmeta_kinds}

abbrev pub Slice : Type 0
Slice = Bor (List ℕ)

abbrev pub slices : List Slice → List (List ℕ)
slices ps = map (λ b. b.now) ps

-- what stands at a place
abbrev pub IsAt : List Slice → ℕ → Slice → Type 0
IsAt ps i a = a ≡ get_or ps i a

pub slices_cons : (a b : Slice) (ps : List Slice) (rs : List (List ℕ)) → a ≡ b → slices ps ≡ rs → slices (b ∷ ps) ≡ a.now ∷ rs
slices_cons a b ps rs e f = ap₂ (λ (x : List ℕ) (xs : List (List ℕ)). x ∷ xs) (ap (λ s. s.now) (sym e)) f

pub slice_at : (ps : List Slice) (i : ℕ) (a : Slice) → i < length ps → IsAt ps i a → get_or (slices ps) i [] ≡ a.now
slice_at [] i a lt is = absurd (omega (arith, lt))
slice_at (p ∷ ps) zero a lt is = ap (λ s. s.now) (sym is)
slice_at (p ∷ ps) (suc i) a lt is = slice_at ps i a (omega (arith, lt)) is

pub two_are : (ps : List Slice) (a b : Slice) → length ps ≡ 2 → IsAt ps 0 a → IsAt ps 1 b → slices ps ≡ a.now ∷ b.now ∷ []
two_are [] a b n e f = absurd (omega (arith, n))
two_are (x ∷ []) a b n e f = absurd (omega (arith, n))
two_are (x ∷ y ∷ []) a b n e f = slices_cons a x (y ∷ []) _ e (slices_cons b y [] [] f refl)
two_are (x ∷ y ∷ z ∷ ps) a b n e f = absurd (omega (arith, n))

pub four_are : (ps : List Slice) (a b c d : Slice) → length ps ≡ 4 → IsAt ps 0 a → IsAt ps 1 b → IsAt ps 2 c → IsAt ps 3 d → slices ps ≡ a.now ∷ b.now ∷ c.now ∷ d.now ∷ []
four_are [] a b c d n e f g h = absurd (omega (arith, n))
four_are (x ∷ []) a b c d n e f g h = absurd (omega (arith, n))
four_are (x ∷ y ∷ ps) a b c d n e f g h = slices_cons a x (y ∷ ps) _ e (slices_cons b y ps _ f (two_are ps c d (omega (arith, n)) g h))

length-slices : (ps : List Slice) → length (slices ps) ≡ length ps
length-slices [] = refl
length-slices (p ∷ ps) = let e = length-slices ps in omega (arith, e)

pub count_of : (ps : List Slice) (n : ℕ) → length (slices ps) ≡ n → length ps ≡ n
count_of ps n e = sym (length-slices ps) ∙ e

pub xattr_count : (ps : List Slice) (bytes : List ℕ) → container_form (type_text types.Xattr) (slices ps) ≡ Some bytes → length ps ≡ 2
xattr_count ps bytes e = let s = members_sized types.Xattr xattr_kinds (slices ps) bytes refl e in count_of ps 2 (sized_count xattr_kinds (slices ps) s)

pub dirmeta_count : (ps : List Slice) (bytes : List ℕ) → container_form (type_text types.DirMeta) (slices ps) ≡ Some bytes → length ps ≡ 4
dirmeta_count ps bytes e = let s = members_sized types.DirMeta dirmeta_kinds (slices ps) bytes refl e in count_of ps 4 (sized_count dirmeta_kinds (slices ps) s)

pub file_count : (ps : List Slice) (bytes : List ℕ) → container_form (type_text types.File) (slices ps) ≡ Some bytes → length ps ≡ 2
file_count ps bytes e = let s = members_sized types.File file_kinds (slices ps) bytes refl e in count_of ps 2 (sized_count file_kinds (slices ps) s)

pub folder_count : (ps : List Slice) (bytes : List ℕ) → container_form (type_text types.Folder) (slices ps) ≡ Some bytes → length ps ≡ 3
folder_count ps bytes e = let s = members_sized types.Folder folder_kinds (slices ps) bytes refl e in count_of ps 3 (sized_count folder_kinds (slices ps) s)

pub tree_count : (ps : List Slice) (bytes : List ℕ) → container_form (type_text types.DirTree) (slices ps) ≡ Some bytes → length ps ≡ 2
tree_count ps bytes e = let s = members_sized types.DirTree tree_kinds (slices ps) bytes refl e in count_of ps 2 (sized_count tree_kinds (slices ps) s)

-- the first three are numbers
wide_at : (ps : List Slice) → AreSized dirmeta_kinds (slices ps) → (i : ℕ) (a : Slice) → i < 3 → IsAt ps i a → length a.now ≡ 4
unfolding fixed
wide_at [] h i a lt is = absurd h
wide_at (x ∷ []) h i a lt is = absurd h.1
wide_at (x ∷ y ∷ []) h i a lt is = absurd h.1.1
wide_at (x ∷ y ∷ z ∷ ps) h zero a lt is = ap (λ s. length s.now) is ∙ eqb-true _ _ h.0
wide_at (x ∷ y ∷ z ∷ ps) h (suc zero) a lt is = ap (λ s. length s.now) is ∙ eqb-true _ _ h.1.0
wide_at (x ∷ y ∷ z ∷ ps) h (suc (suc zero)) a lt is = ap (λ s. length s.now) is ∙ eqb-true _ _ h.1.1.0
wide_at (x ∷ y ∷ z ∷ ps) h (suc (suc (suc i))) a lt is = absurd (omega (arith, lt))

pub dirmeta_number : (ps : List Slice) (bytes : List ℕ) (i : ℕ) (a : Slice) → container_form (type_text types.DirMeta) (slices ps) ≡ Some bytes → i < 3 → IsAt ps i a → length a.now ≡ 4
dirmeta_number ps bytes i a e lt is = wide_at ps (members_sized types.DirMeta dirmeta_kinds (slices ps) bytes refl e) i a lt is

-- the attributes of each folder that has these members
pub dirmeta_xattrs : (rs : List (List ℕ)) (a b c d bytes : List ℕ) → rs ≡ a ∷ b ∷ c ∷ d ∷ [] → ((qs : List (List ℕ)) → container_form (type_text types.DirMeta) qs ≡ Some bytes → rs ≡ qs)
    → (m : Meta) → dirmeta_form m ≡ Some bytes → (xs : List Xattr) × (xattrs_form xs ≡ Some d)
dirmeta_xattrs rs a b c d bytes is own m e =
    let p = bind_some (xattrs_form m.xattrs) (λ xs. container_form (type_text types.DirMeta) (to_be_bytes w32 m.uid ∷ to_be_bytes w32 m.gid ∷ to_be_bytes w32 m.mode ∷ xs ∷ [])) bytes e in
    let same : p.0 ≡ d = ap (λ rs. get_or rs 3 []) (sym (own _ p.2) ∙ is) in
    (m.xattrs, p.1 ∙ ap Some same)

-- the folder that was read has these bytes
pub dirmeta_found : (m : Meta) (rs : List (List ℕ)) (xs bytes : List ℕ) → rs ≡ to_be_bytes w32 m.uid ∷ to_be_bytes w32 m.gid ∷ to_be_bytes w32 m.mode ∷ xs ∷ [] → xattrs_form m.xattrs ≡ Some xs
    → container_form (type_text types.DirMeta) rs ≡ Some bytes → dirmeta_form m ≡ Some bytes
dirmeta_found m rs xs bytes is e f = rw e (ap (container_form (type_text types.DirMeta)) (sym is) ∙ f)

-- the folders of each tree that has these members
pub tree_folders : (rs : List (List ℕ)) (x bytes : List ℕ) → get_or rs 1 [] ≡ x → ((qs : List (List ℕ)) → container_form (type_text types.DirTree) qs ≡ Some bytes → rs ≡ qs)
    → (t : Entries) → tree_form t ≡ Some bytes → (ds : List FolderItem) × (folders_form ds ≡ Some x)
tree_folders rs x bytes is own t e =
    let p = bind_some (files_form t.files) (λ f. option_and_then (λ d. container_form (type_text types.DirTree) (f ∷ d ∷ [])) (folders_form t.folders)) bytes e in
    let q = bind_some (folders_form t.folders) (λ d. container_form (type_text types.DirTree) (p.0 ∷ d ∷ [])) bytes p.2 in
    let same : q.0 ≡ x = ap (λ rs. get_or rs 1 []) (sym (own _ q.2)) ∙ is in
    (t.folders, q.1 ∙ ap Some same)
