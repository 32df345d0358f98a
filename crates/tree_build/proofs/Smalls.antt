-- Within the bounds no object is too large.
use Rattle.std.proofs.Common.{◌≡◌, ◌≤◌, ◌<◌, ℕ, List, [], ◌∷◌, ◌++◌, length, drop, Option, Some, sym, ◌∙◌, ap, subst, ⊎_elim, arith}
use Rattle.std.proofs.lemmas.List.{length-take, length-drop}
use Rattle.gv_core.proofs.Sizes.{some_is}
use Rattle.ost_types.specs.declared.meta.Meta.{Meta}
use Rattle.ost_types.specs.declared.object.Kind.TheVariants as kinds
use Rattle.ost_forms.specs.declared.body.Body.{Body}
use Rattle.ost_forms.specs.declared.fault.ObjFault.TheVariants as faults
use Rattle.ost_forms.specs.declared.tree_item.TreeItem.{TreeItem}
use Rattle.ost_forms.specs.DirMeta.{object_limit}
use Rattle.ost_forms.specs.Stream.{content_form, header_of, bytes_of, header_size, content_part, header_part}
use Rattle.ost_forms.proofs.Streams.{stream_parts}
use Rattle.ost_objects.specs.Object.{Misreads}
use Rattle.tree_build.specs.Objects as objects
use Rattle.tree_build.specs.Makeable.{IsSmall, IsSmallFile, IsSmallBy, AreSmall}
use Rattle.tree_build.specs.Objects.{made}

pub small_at : (content : ℕ) (front : List TreeItem) (i : TreeItem) (items : List TreeItem) → AreSmall content (front ++ i ∷ items) → IsSmallBy content (made items) i.path i.meta i.body
unfolding AreSmall
small_at content [] i items h = h.0
small_at content (j ∷ front) i items h = small_at content front i items h.1

pub small_bytes : (form : Option (List ℕ)) (h : IsSmall form) → objects.bytes_of form ≡ h.bytes
small_bytes form h = ap objects.bytes_of h.is

pub small_form : (form : Option (List ℕ)) → IsSmall form → form ≡ Some (objects.bytes_of form)
small_form form h = h.is ∙ ap Some (sym (small_bytes form h))

pub small_short : (form : Option (List ℕ)) → IsSmall form → length (objects.bytes_of form) ≤ object_limit
small_short form h = subst (λ b. length b ≤ object_limit) (sym (small_bytes form h)) h.short

pub form_bytes : (form : Option (List ℕ)) (bytes : List ℕ) → form ≡ Some bytes → objects.bytes_of form ≡ bytes
form_bytes form bytes e = ap objects.bytes_of e

pub never_large : (form : Option (List ℕ)) (bytes : List ℕ) (n : ℕ) → IsSmall form → form ≡ Some bytes → n ≡ length bytes → object_limit < n → ⊥
never_large form bytes n h e is large =
    let same : h.bytes ≡ bytes = some_is h.bytes bytes (sym h.is ∙ e) in
    let s : length bytes ≤ object_limit = subst (λ b. length b ≤ object_limit) same h.short in
    omega (arith, s, is, large)

pub file_within : (limit : ℕ) (m : Meta) (body : Body) (bytes : List ℕ) → IsSmallFile limit m body → content_form m body ≡ Some bytes → (header_size bytes ≤ object_limit) × (length (content_part bytes) ≤ limit)
file_within limit m body bytes h e =
    let p = stream_parts (bytes_of body) (header_of m body) bytes e in
    let same : h.header.bytes ≡ header_part bytes = some_is h.header.bytes (header_part bytes) (sym h.header.is ∙ p.0) in
    let s : length (header_part bytes) ≤ object_limit = subst (λ b. length b ≤ object_limit) same h.header.short in
    let size : length (header_part bytes) ≡ header_size bytes = omega (arith, length-take (header_size bytes) (drop 8 bytes), length-drop 8 bytes, p.1.fits) in
    (omega (arith, s, size), subst (λ c. length c ≤ limit) (sym p.1.rest) h.few)

pub file_never_large : (limit : ℕ) (m : Meta) (body : Body) (bytes : List ℕ) (n : ℕ) → IsSmallFile limit m body → content_form m body ≡ Some bytes → Misreads kinds.File limit bytes (faults.TooLarge n) → ⊥
file_never_large limit m body bytes n h e r =
    let w = file_within limit m body bytes h e in
    ⊎_elim (λ (a : (n ≡ header_size bytes) × (object_limit < n)). omega (arith, a.0, a.1, w.0))
    (λ (b : (header_size bytes ≤ object_limit) × (n ≡ length (content_part bytes)) × (limit < n)). omega (arith, b.1, b.2, w.1)) r.1
