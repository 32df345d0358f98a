-- How long the objects of a tree are at most, by what is in them.
use Rattle.std.proofs.Common.{◌≡◌, ℕ, ◌+◌, ◌*◌, ◌^◌, ◌<◌, ◌≤◌, true, List, [], ◌∷◌, ◌++◌, length, Option, Some, None, refl, ap, ◌∙◌, arith}
use Rattle.std.specs.Prelude.{option_and_then}
use Rattle.std.specs.Int.{w32, to_be_bytes}
use Rattle.std.proofs.lemmas.List.{length-append}
use Rattle.std.proofs.lemmas.List.Sums.{sum_by-cons}
use Rattle.gv_core.specs.Kind.{Kind, array, variant_kind}
use Rattle.gv_core.specs.Measure.{alignment, fixed}
use Rattle.gv_core.specs.Layout.{Part, tuple_of, text_bytes}
use Rattle.gv_core.specs.Container.{each_part, container, container_form}
use Rattle.ost_types.specs.Text.{IsText}
use Rattle.ost_types.specs.declared.meta.Meta.{Meta}
use Rattle.ost_types.specs.declared.meta.Xattr.{Xattr}
use Rattle.ost_forms.specs.declared.body.Body.TheVariants.{Symlink}
use Rattle.ost_forms.specs.declared.entry.FileItem.{FileItem}
use Rattle.ost_forms.specs.declared.entry.FolderItem.{FolderItem}
use Rattle.ost_forms.specs.Rows.{each, xattr_form, xattrs_form}
use Rattle.ost_forms.specs.DirMeta.{dirmeta_form}
use Rattle.ost_forms.specs.DirTree.{file_form, folder_form}
use Rattle.ost_forms.specs.Stream.{header_form, header_of}
use Rattle.ost_forms.proofs.Texts.{text_bytes-of}
use Rattle.tree_build.specs.Brief.{xattr_size, xattrs_size, text_limit}
use Rattle.tree_build.proofs.ObjectKinds.{xattr, file, folder, dirmeta, dirmeta_members, header, header_members, xattr_type, xattrs_type, file_type, folder_type, dirmeta_type, header_type}
use Rattle.tree_build.proofs.Containers.{IsWithin, within_bind, within_more, tuple_within, held, plain, array_within}

form_at : (text : List ℕ) (k : Kind) (rs : List (List ℕ)) → variant_kind text ≡ Some k → container_form text rs ≡ container k rs
form_at text k rs is = ap (option_and_then (λ k. container k rs)) is

-- a tuple of a type that is spelled so
pub tuple_at : (text : List ℕ) (k : Kind) (rs : List (List ℕ)) (ps : List Part) (n : ℕ) → variant_kind text ≡ Some k → container k rs ≡ tuple_of ps → IsWithin (tuple_of ps) n → IsWithin (container_form text rs) n
tuple_at text k rs ps n is e h = record { bytes = h.bytes; is = form_at text k rs is ∙ e ∙ h.is; short = h.short }

-- where a number of four bytes is
abbrev pub number : List ℕ → Part
number r = record { align = 4; fixed = true; bytes = r }

-- ---- rows

-- each has a form; of those so many bytes in an array
pub record AreWithin (rows : Option (List (List ℕ))) (n : ℕ) : Type 0 where
  pub all : List (List ℕ)
  pub is : rows ≡ Some all
  pub short : held all ≤ n

pub within_none : AreWithin (Some []) 0
within_none = record { all = []; is = refl; short = omega arith }

pub within_next : {A : Type 0} (form : A → Option (List ℕ)) (x : A) (xs : List A) (n m : ℕ) → IsWithin (form x) n → AreWithin (each form xs) m → AreWithin (each form (x ∷ xs)) (n + 4 + m)
within_next form x xs n m h r = record { all = h.bytes ∷ r.all; is = rw (h.is, r.is) refl; short = let s = h.short in let t = r.short in omega (arith, s, t) }

pub array_form_within : {A : Type 0} (text : List ℕ) (k : Kind) (form : A → Option (List ℕ)) (xs : List A) (n : ℕ) → variant_kind text ≡ Some (array k) → fixed k ≡ None → alignment k ≡ 1 → AreWithin (each form xs) n → n < 2 ^ 32
    → IsWithin (option_and_then (container_form text) (each form xs)) n
array_form_within text k form xs n is loose plain r lt =
    let w = array_within k r.all n loose plain r.short lt in
    record { bytes = w.bytes; is = ap (option_and_then (container_form text)) r.is ∙ form_at text (array k) r.all is ∙ w.is; short = w.short }

-- ---- attributes

xattr_parts : (n v : List ℕ) → container xattr (n ∷ v ∷ []) ≡ tuple_of (plain n ∷ plain v ∷ [])
unfolding container fixed alignment
xattr_parts n v = refl

xattr_within : (x : Xattr) → length x.name + length x.value ≤ text_limit → IsWithin (xattr_form x) (length x.name + length x.value + 8)
xattr_within x le =
    let w = tuple_within (plain x.name ∷ plain x.value ∷ []) refl (omega arith, (omega arith, tt)) (omega (arith, le)) in
    tuple_at _ xattr (x.name ∷ x.value ∷ []) (plain x.name ∷ plain x.value ∷ []) _ xattr_type (xattr_parts x.name x.value) (within_more _ _ _ w (omega arith))

xattr_rows : (xs : List Xattr) → xattrs_size xs ≤ text_limit → AreWithin (each xattr_form xs) (12 * xattrs_size xs)
xattr_rows [] le = record { all = []; is = refl; short = omega arith }
xattr_rows (x ∷ xs) le =
    let c = sum_by-cons xattr_size x xs in
    let w = xattr_within x (omega (arith, c, le)) in
    let r = xattr_rows xs (omega (arith, c, le)) in
    let n = within_next xattr_form x xs _ _ w r in
    record { all = n.all; is = n.is; short = let s = n.short in omega (arith, s, c) }

xattr_fixed : fixed xattr ≡ None
unfolding fixed
xattr_fixed = refl

xattr_plain : alignment xattr ≡ 1
unfolding alignment
xattr_plain = refl

pub xattrs_within : (xs : List Xattr) → xattrs_size xs ≤ text_limit → IsWithin (xattrs_form xs) (12 * xattrs_size xs)
xattrs_within xs le = array_form_within _ xattr xattr_form xs _ xattrs_type xattr_fixed xattr_plain (xattr_rows xs le) (omega (arith, le))

dirmeta_each : (u g m x : List ℕ) → length u ≡ 4 → length g ≡ 4 → length m ≡ 4 → each_part dirmeta_members (u ∷ g ∷ m ∷ x ∷ []) ≡ Some (number u ∷ number g ∷ number m ∷ plain x ∷ [])
unfolding fixed alignment
dirmeta_each u g m x a b c = rw (a, b, c) refl

dirmeta_parts : (u g m x : List ℕ) → length u ≡ 4 → length g ≡ 4 → length m ≡ 4 → container dirmeta (u ∷ g ∷ m ∷ x ∷ []) ≡ tuple_of (number u ∷ number g ∷ number m ∷ plain x ∷ [])
unfolding container
dirmeta_parts u g m x a b c = ap (option_and_then tuple_of) (dirmeta_each u g m x a b c)

pub dirmeta_within : (m : Meta) → xattrs_size m.xattrs ≤ text_limit → IsWithin (dirmeta_form m) (12 * xattrs_size m.xattrs + 37)
dirmeta_within m le = within_bind (xattrs_form m.xattrs) _ _ _ (xattrs_within m.xattrs le) (λ x short.
    let u = to_be_bytes w32 m.uid in
    let g = to_be_bytes w32 m.gid in
    let b = to_be_bytes w32 m.mode in
    let ps = number u ∷ number g ∷ number b ∷ plain x ∷ [] in
    let w = tuple_within ps refl (omega arith, (omega arith, (omega arith, (omega arith, tt)))) (omega (arith, short, le)) in
    tuple_at _ dirmeta (u ∷ g ∷ b ∷ x ∷ []) ps _ dirmeta_type (dirmeta_parts u g b x refl refl refl) (within_more _ _ _ w (omega (arith, short))))

-- ---- headers

pub text_within : (s : List ℕ) → IsText s → IsWithin (text_bytes s) (length s + 1)
text_within s h = record { bytes = s ++ 0 ∷ []; is = text_bytes-of s h; short = let l = length-append s (0 ∷ []) in omega (arith, l) }

header_each : (u g m r t x : List ℕ) → length u ≡ 4 → length g ≡ 4 → length m ≡ 4 → length r ≡ 4
    → each_part header_members (u ∷ g ∷ m ∷ r ∷ t ∷ x ∷ []) ≡ Some (number u ∷ number g ∷ number m ∷ number r ∷ plain t ∷ plain x ∷ [])
unfolding fixed alignment
header_each u g m r t x a b c d = rw (a, b, c, d) refl

header_parts : (u g m r t x : List ℕ) → length u ≡ 4 → length g ≡ 4 → length m ≡ 4 → length r ≡ 4
    → container header (u ∷ g ∷ m ∷ r ∷ t ∷ x ∷ []) ≡ tuple_of (number u ∷ number g ∷ number m ∷ number r ∷ plain t ∷ plain x ∷ [])
unfolding container
header_parts u g m r t x a b c d = ap (option_and_then tuple_of) (header_each u g m r t x a b c d)

-- of a link to this target; of a regular file, where that is none
pub header_within : (m : Meta) (target : List ℕ) → IsText target → length target + xattrs_size m.xattrs ≤ text_limit → IsWithin (header_form (header_of m (Symlink target))) (length target + 12 * xattrs_size m.xattrs + 54)
header_within m target text le = within_bind (text_bytes target) _ _ _ (text_within target text) (λ t few. within_bind (xattrs_form m.xattrs) _ _ _ (xattrs_within m.xattrs (omega (arith, le))) (λ x short.
    let u = to_be_bytes w32 m.uid in
    let g = to_be_bytes w32 m.gid in
    let b = to_be_bytes w32 m.mode in
    let r = to_be_bytes w32 0 in
    let ps = number u ∷ number g ∷ number b ∷ number r ∷ plain t ∷ plain x ∷ [] in
    let w = tuple_within ps refl (omega arith, (omega arith, (omega arith, (omega arith, (omega arith, (omega arith, tt)))))) (omega (arith, few, short, le)) in
    tuple_at _ header (u ∷ g ∷ b ∷ r ∷ t ∷ x ∷ []) ps _ header_type (header_parts u g b r t x refl refl refl refl) (within_more _ _ _ w (omega (arith, few, short)))))

-- ---- entries

file_parts : (n s : List ℕ) → container file (n ∷ s ∷ []) ≡ tuple_of (plain n ∷ plain s ∷ [])
unfolding container fixed alignment
file_parts n s = refl

folder_parts : (n t m : List ℕ) → container folder (n ∷ t ∷ m ∷ []) ≡ tuple_of (plain n ∷ plain t ∷ plain m ∷ [])
unfolding container fixed alignment
folder_parts n t m = refl

pub file_within : (i : FileItem) → IsText i.name → length i.name ≤ 255 → length i.file ≡ 32 → IsWithin (file_form i) (length i.name + 41)
file_within i text few sum = within_bind (text_bytes i.name) _ _ _ (text_within i.name text) (λ n short.
    let ps = plain n ∷ plain i.file ∷ [] in
    let w = tuple_within ps refl (omega arith, (omega arith, tt)) (omega (arith, short, few, sum)) in
    tuple_at _ file (n ∷ i.file ∷ []) ps _ file_type (file_parts n i.file) (within_more _ _ _ w (omega (arith, short, sum))))

pub folder_within : (i : FolderItem) → IsText i.name → length i.name ≤ 255 → length i.tree ≡ 32 → length i.meta ≡ 32 → IsWithin (folder_form i) (length i.name + 77)
folder_within i text few tree meta = within_bind (text_bytes i.name) _ _ _ (text_within i.name text) (λ n short.
    let ps = plain n ∷ plain i.tree ∷ plain i.meta ∷ [] in
    let w = tuple_within ps refl (omega arith, (omega arith, (omega arith, tt))) (omega (arith, short, few, tree, meta)) in
    tuple_at _ folder (n ∷ i.tree ∷ i.meta ∷ []) ps _ folder_type (folder_parts n i.tree i.meta) (within_more _ _ _ w (omega (arith, short, tree, meta))))
