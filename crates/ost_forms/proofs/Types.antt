-- The types of the objects are type strings, and the members of a tuple have the sizes that its type asks.
use Rattle.std.proofs.Common.{◌≡◌, ℕ, suc, ◌≤◌, Bool, true, false, cond, List, [], ◌∷◌, length, Option, Some, None, refl, sym, ap, ◌∙◌, arith}
use Rattle.std.specs.Prelude.{option_and_then}
use Rattle.std.proofs.lemmas.Bool.{cond-true, le-leb}
use Rattle.gv_core.specs.declared.kind.Basic.TheVariants as b
use Rattle.gv_core.specs.declared.fault.GvFault.{GvFault}
use Rattle.gv_core.specs.declared.fault.GvFault.TheVariants as gv
use Rattle.gv_core.specs.Kind.{Kind, Kinds, basic, variant, array, tuple, entry, no_kinds, kind, spell, kind_depth, kind_of, variant_kind}
use Rattle.gv_core.specs.Spelling.{kind_of-spell}
use Rattle.gv_core.specs.TypeString.{KindFault}
use Rattle.gv_core.specs.Measure.{fixed}
use Rattle.gv_core.specs.Layout.{Part, tuple_of, part}
use Rattle.gv_core.specs.Container.{has_size, each_part, container, container_form}
use Rattle.gv_core.proofs.Sizes.{bind_some, some_is, none_some}
use Rattle.ost_forms.specs.declared.object_type.ObjectType.{ObjectType}
use Rattle.ost_forms.specs.declared.object_type.ObjectType.TheVariants as types
use Rattle.ost_forms.specs.TypeText.{type_text}

abbrev bytes : Kind
bytes = array (basic b.Byte)

abbrev text : Kind
text = basic b.Text

abbrev number : Kind
number = basic b.U32

abbrev pub xattr_kinds : Kinds
xattr_kinds = kind bytes (kind bytes no_kinds)

abbrev pub file_kinds : Kinds
file_kinds = kind text (kind bytes no_kinds)

abbrev pub folder_kinds : Kinds
folder_kinds = kind text (kind bytes (kind bytes no_kinds))

abbrev xattrs : Kind
xattrs = array (tuple xattr_kinds)

abbrev pub files : Kind
files = array (tuple file_kinds)

abbrev folders : Kind
folders = array (tuple folder_kinds)

abbrev pub tree_kinds : Kinds
tree_kinds = kind files (kind folders no_kinds)

abbrev pub dirmeta_kinds : Kinds
dirmeta_kinds = kind number (kind number (kind number (kind xattrs no_kinds)))

abbrev pub header_kinds : Kinds
header_kinds = kind number (kind number (kind number (kind number (kind text (kind xattrs no_kinds)))))

abbrev pub metadata : Kind
metadata = array (entry b.Text variant)

abbrev pub commit_kinds : Kinds
commit_kinds = kind metadata (kind bytes (kind files (kind text (kind text (kind (basic b.U64) (kind bytes (kind bytes no_kinds)))))))

abbrev pub kind_at : ObjectType → Kind
kind_at types.Commit = tuple commit_kinds
kind_at types.Metadata = metadata
kind_at types.Related = files
kind_at types.AloneMetadata = tuple (kind metadata no_kinds)
kind_at types.AloneRelated = tuple (kind files no_kinds)
kind_at types.DirTree = tuple tree_kinds
kind_at types.Files = files
kind_at types.File = tuple file_kinds
kind_at types.Folders = folders
kind_at types.Folder = tuple folder_kinds
kind_at types.DirMeta = tuple dirmeta_kinds
kind_at types.Header = tuple header_kinds
kind_at types.Xattrs = xattrs
kind_at types.Xattr = tuple xattr_kinds

spelled : (t : ObjectType) → spell (kind_at t) ≡ type_text t
unfolding spell
spelled types.Commit = refl
spelled types.Metadata = refl
spelled types.Related = refl
spelled types.AloneMetadata = refl
spelled types.AloneRelated = refl
spelled types.DirTree = refl
spelled types.Files = refl
spelled types.File = refl
spelled types.Folders = refl
spelled types.Folder = refl
spelled types.DirMeta = refl
spelled types.Header = refl
spelled types.Xattrs = refl
spelled types.Xattr = refl

shallow : (t : ObjectType) → kind_depth (kind_at t) ≤ 64
shallow types.Commit = omega arith
shallow types.Metadata = omega arith
shallow types.Related = omega arith
shallow types.AloneMetadata = omega arith
shallow types.AloneRelated = omega arith
shallow types.DirTree = omega arith
shallow types.Files = omega arith
shallow types.File = omega arith
shallow types.Folders = omega arith
shallow types.Folder = omega arith
shallow types.DirMeta = omega arith
shallow types.Header = omega arith
shallow types.Xattrs = omega arith
shallow types.Xattr = omega arith

kind_from : (t : ObjectType) → kind_of (type_text t) ≡ Some (kind_at t)
kind_from t = ap kind_of (sym (spelled t)) ∙ kind_of-spell (kind_at t)

-- no type string of an object is refused
pub never_refused : (t : ObjectType) (e : GvFault) → KindFault e (type_text t) → e ≡ gv.NoMemory
never_refused t gv.BadKind h = absurd (h (kind_at t) (spelled t))
never_refused t gv.TooDeep h =
    let same : kind_at t ≡ h.0 = some_is (kind_at t) h.0 (sym (kind_from t) ∙ ap kind_of (sym h.1.0) ∙ kind_of-spell h.0) in
    absurd (omega (arith, shallow t, h.1.1, ap kind_depth same))
never_refused t gv.NotNormal h = absurd h
never_refused t gv.NoMemory h = refl

good : (k : Kind) → kind_depth k ≤ 64 → variant_kind (spell k) ≡ Some k
unfolding variant_kind
good k le = rw (kind_of-spell k) (cond-true _ _ _ (le-leb _ _ le))

pub type_kind : (t : ObjectType) → variant_kind (type_text t) ≡ Some (kind_at t)
type_kind t = ap variant_kind (sym (spelled t)) ∙ good (kind_at t) (shallow t)

-- one member for each kind, of its size
abbrev pub AreSized : Kinds → List (List ℕ) → Type 0
AreSized no_kinds [] = Unit {0}
AreSized no_kinds (r ∷ rs) = ⊥
AreSized (kind k ks) [] = ⊥
AreSized (kind k ks) (r ∷ rs) = (has_size (fixed k) r ≡ true) × AreSized ks rs

pub if_then : {A : Type 0} (b : Bool) (o : Option A) (x : A) → cond b o None ≡ Some x → (b ≡ true) × (o ≡ Some x)
if_then true o x e = (refl, e)
if_then false o x e = absurd cc

parts_sized : (ks : Kinds) (rs : List (List ℕ)) (ps : List Part) → each_part ks rs ≡ Some ps → AreSized ks rs
parts_sized no_kinds [] ps e = tt
parts_sized no_kinds (r ∷ rs) ps e = none_some ps ⊥ e
parts_sized (kind k ks) [] ps e = none_some ps ⊥ e
parts_sized (kind k ks) (r ∷ rs) ps e =
    let p = if_then (has_size (fixed k) r) (option_and_then (λ ps. Some (part k r ∷ ps)) (each_part ks rs)) ps e in
    let q = bind_some (each_part ks rs) (λ ps. Some (part k r ∷ ps)) ps p.1 in
    (p.0, parts_sized ks rs q.0 q.1)

-- the members of a tuple of one of the types
pub members_sized : (t : ObjectType) (ks : Kinds) (rs : List (List ℕ)) (bytes : List ℕ) → kind_at t ≡ tuple ks → container_form (type_text t) rs ≡ Some bytes → AreSized ks rs
unfolding container
members_sized t ks rs bytes is e =
    let at : container_form (type_text t) rs ≡ container (tuple ks) rs = ap (option_and_then (λ k. container k rs)) (type_kind t) ∙ ap (λ k. container k rs) is in
    let q = bind_some (each_part ks rs) tuple_of bytes (sym at ∙ e) in
    parts_sized ks rs q.0 q.1

abbrev pub count : Kinds → ℕ
count no_kinds = 0
count (kind k ks) = suc (count ks)

pub sized_count : (ks : Kinds) (rs : List (List ℕ)) → AreSized ks rs → length rs ≡ count ks
sized_count no_kinds [] h = refl
sized_count no_kinds (r ∷ rs) h = absurd h
sized_count (kind k ks) [] h = absurd h
sized_count (kind k ks) (r ∷ rs) h = let e = sized_count ks rs h.1 in omega (arith, e)
