-- The front of a regular file without extended attributes is the form of its content stream.
use Rattle.std.proofs.Common.{◌≡◌, ℕ, ◌≤◌, List, [], ◌∷◌, ◌++◌, Some, ap, ◌∙◌, arith, codes}
use Rattle.std.specs.Prelude.{option_and_then}
use Rattle.std.proofs.lemmas.Bool.{cond-true, le-leb}
use Rattle.std.specs.Int.{w32, to_be_bytes}
use Rattle.std.specs.Str.{is_utf8, chars}
use Rattle.gv_core.specs.declared.kind.Basic.TheVariants as b
use Rattle.gv_core.specs.Kind.{Kind, basic, array, tuple, no_kinds, kind, spell, kind_depth, variant_kind}
use Rattle.gv_core.specs.Spelling.{kind_of-spell}
use Rattle.gv_core.specs.Measure.{alignment, fixed}
use Rattle.gv_core.specs.Layout.{offset_size}
use Rattle.gv_core.specs.Container.{container, container_form}
use Rattle.ost_types.specs.declared.meta.Meta.{Meta}
use Rattle.ost_forms.specs.declared.body.Body.TheVariants.{Regular}
use Rattle.ost_forms.specs.Rows.{xattrs_form}
use Rattle.ost_forms.specs.Stream.{header_form, header_of, framed, content_form}
use Rattle.host_files.specs.Header.{header}

abbrev bytes : Kind
bytes = array (basic b.Byte)

abbrev number : Kind
number = basic b.U32

abbrev xattrs : Kind
xattrs = array (tuple (kind bytes (kind bytes no_kinds)))

abbrev whole : Kind
whole = tuple (kind number (kind number (kind number (kind number (kind (basic b.Text) (kind xattrs no_kinds))))))

good : (k : Kind) → kind_depth k ≤ 64 → variant_kind (spell k) ≡ Some k
unfolding variant_kind
good k le = rw (kind_of-spell k) (cond-true _ _ _ (le-leb _ _ le))

xattrs_kind : variant_kind (codes "a(ayay)") ≡ Some xattrs
unfolding spell
xattrs_kind = good xattrs (omega arith)

whole_kind : variant_kind (codes "(uuuusa(ayay))") ≡ Some whole
unfolding spell
whole_kind = good whole (omega arith)

no_xattrs : xattrs_form [] ≡ Some []
unfolding container fixed offset_size alignment
no_xattrs = ap (option_and_then (λ k. container k [])) xattrs_kind

abbrev plain : ℕ → ℕ → ℕ → Meta
plain u g m = record { uid = u; gid = g; mode = m; xattrs = [] }

abbrev members : ℕ → ℕ → ℕ → List ℕ → List (List ℕ)
members u g m xs = to_be_bytes w32 u ∷ to_be_bytes w32 g ∷ to_be_bytes w32 m ∷ to_be_bytes w32 0 ∷ (0 ∷ []) ∷ xs ∷ []

-- the header without its length, behind which the target ends
abbrev inner : ℕ → ℕ → ℕ → List ℕ
inner u g m = to_be_bytes w32 u ++ to_be_bytes w32 g ++ to_be_bytes w32 m ++ to_be_bytes w32 0 ++ 0 ∷ 17 ∷ []

plain_header : (u g m : ℕ) → header_form (header_of (plain u g m) (Regular [])) ≡ Some (inner u g m)
unfolding container fixed offset_size alignment is_utf8 chars
plain_header u g m =
    ap (option_and_then (λ xs. container_form (codes "(uuuusa(ayay))") (members u g m xs))) no_xattrs
    ∙ ap (option_and_then (λ k. container k (members u g m []))) whole_kind

pub plain_form : (u g m : ℕ) → content_form (plain u g m) (Regular []) ≡ Some (header u g m)
plain_form u g m = ap (option_and_then (λ h. framed h [])) (plain_header u g m)
