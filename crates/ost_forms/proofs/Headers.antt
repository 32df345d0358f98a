-- The members of a content stream's header.
use Rattle.std.proofs.Common.{◌≡◌, ℕ, zero, suc, ◌<◌, List, [], ◌∷◌, length, get_or, Some, refl, sym, ap, ◌∙◌, arith}
use Rattle.std.specs.Prelude.{option_and_then}
use Rattle.std.proofs.lemmas.Bool.{eqb-true}
use Rattle.std.specs.Int.{w32, to_be_bytes}
use Rattle.gv_core.proofs.Sizes.{bind_some}
use Rattle.gv_core.specs.Measure.{fixed}
use Rattle.gv_core.specs.Layout.{text_bytes}
use Rattle.gv_core.specs.Container.{container_form}
use Rattle.ost_types.specs.declared.meta.Xattr.{Xattr}
use Rattle.ost_forms.specs.declared.body.Header.{Header}
use Rattle.ost_forms.specs.declared.object_type.ObjectType.TheVariants as types
use Rattle.ost_forms.specs.TypeText.{type_text}
use Rattle.ost_forms.specs.Rows.{xattrs_form}
use Rattle.ost_forms.specs.Stream.{header_form}
use Rattle.ost_forms.proofs.Types.{AreSized, members_sized, sized_count, header_kinds}
use Rattle.ost_forms.proofs.Parts.{Slice, slices, IsAt, slices_cons, four_are, count_of}

pub six_are : (ps : List Slice) (a b c d e f : Slice) → length ps ≡ 6 → IsAt ps 0 a → IsAt ps 1 b → IsAt ps 2 c → IsAt ps 3 d → IsAt ps 4 e → IsAt ps 5 f
    → slices ps ≡ a.now ∷ b.now ∷ c.now ∷ d.now ∷ e.now ∷ f.now ∷ []
six_are [] a b c d e f n p q r s t u = absurd (omega (arith, n))
six_are (x ∷ []) a b c d e f n p q r s t u = absurd (omega (arith, n))
six_are (x ∷ y ∷ ps) a b c d e f n p q r s t u = slices_cons a x (y ∷ ps) _ p (slices_cons b y ps _ q (four_are ps c d e f (omega (arith, n)) r s t u))

pub header_count : (ps : List Slice) (bytes : List ℕ) → container_form (type_text types.Header) (slices ps) ≡ Some bytes → length ps ≡ 6
header_count ps bytes e = let s = members_sized types.Header header_kinds (slices ps) bytes refl e in count_of ps 6 (sized_count header_kinds (slices ps) s)

-- the first four are numbers
wide_at : (ps : List Slice) → AreSized header_kinds (slices ps) → (i : ℕ) (a : Slice) → i < 4 → IsAt ps i a → length a.now ≡ 4
unfolding fixed
wide_at [] h i a lt is = absurd h
wide_at (x ∷ []) h i a lt is = absurd h.1
wide_at (x ∷ y ∷ []) h i a lt is = absurd h.1.1
wide_at (x ∷ y ∷ z ∷ []) h i a lt is = absurd h.1.1.1
wide_at (x ∷ y ∷ z ∷ v ∷ ps) h zero a lt is = ap (λ s. length s.now) is ∙ eqb-true _ _ h.0
wide_at (x ∷ y ∷ z ∷ v ∷ ps) h (suc zero) a lt is = ap (λ s. length s.now) is ∙ eqb-true _ _ h.1.0
wide_at (x ∷ y ∷ z ∷ v ∷ ps) h (suc (suc zero)) a lt is = ap (λ s. length s.now) is ∙ eqb-true _ _ h.1.1.0
wide_at (x ∷ y ∷ z ∷ v ∷ ps) h (suc (suc (suc zero))) a lt is = ap (λ s. length s.now) is ∙ eqb-true _ _ h.1.1.1.0
wide_at (x ∷ y ∷ z ∷ v ∷ ps) h (suc (suc (suc (suc i)))) a lt is = absurd (omega (arith, lt))

pub header_number : (ps : List Slice) (bytes : List ℕ) (i : ℕ) (a : Slice) → container_form (type_text types.Header) (slices ps) ≡ Some bytes → i < 4 → IsAt ps i a → length a.now ≡ 4
header_number ps bytes i a e lt is = wide_at ps (members_sized types.Header header_kinds (slices ps) bytes refl e) i a lt is

-- the attributes of each file whose header has these members
pub header_xattrs : (rs : List (List ℕ)) (x bytes : List ℕ) → get_or rs 5 [] ≡ x → ((qs : List (List ℕ)) → container_form (type_text types.Header) qs ≡ Some bytes → rs ≡ qs)
    → (h : Header) → header_form h ≡ Some bytes → (xs : List Xattr) × (xattrs_form xs ≡ Some x)
header_xattrs rs x bytes is own h e =
    let p = bind_some (text_bytes h.target) (λ t. option_and_then (λ xs. container_form (type_text types.Header) (to_be_bytes w32 h.meta.uid ∷ to_be_bytes w32 h.meta.gid ∷ to_be_bytes w32 h.meta.mode ∷ to_be_bytes w32 h.rdev ∷ t ∷ xs ∷ [])) (xattrs_form h.meta.xattrs)) bytes e in
    let q = bind_some (xattrs_form h.meta.xattrs) (λ xs. container_form (type_text types.Header) (to_be_bytes w32 h.meta.uid ∷ to_be_bytes w32 h.meta.gid ∷ to_be_bytes w32 h.meta.mode ∷ to_be_bytes w32 h.rdev ∷ p.0 ∷ xs ∷ [])) bytes p.2 in
    let same : q.0 ≡ x = ap (λ rs. get_or rs 5 []) (sym (own _ q.2)) ∙ is in
    (h.meta.xattrs, q.1 ∙ ap Some same)

-- the header that was read has these bytes
pub header_found : (h : Header) (rs : List (List ℕ)) (t xs bytes : List ℕ) → rs ≡ to_be_bytes w32 h.meta.uid ∷ to_be_bytes w32 h.meta.gid ∷ to_be_bytes w32 h.meta.mode ∷ to_be_bytes w32 h.rdev ∷ t ∷ xs ∷ []
    → text_bytes h.target ≡ Some t → xattrs_form h.meta.xattrs ≡ Some xs → container_form (type_text types.Header) rs ≡ Some bytes → header_form h ≡ Some bytes
header_found h rs t xs bytes is e f g = rw (e, f) (ap (container_form (type_text types.Header)) (sym is) ∙ g)
