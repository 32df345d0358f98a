-- A stream is of one file.
use Rattle.std.proofs.Common.{◌≡◌, ◌<◌, ◌^◌, ℕ, List, Some, Err, refl, sym, ap, subst, ◌∙◌, arith}
use Rattle.std.proofs.Math.Logic.{∥∥₁_elim}
use Rattle.ost_types.specs.declared.meta.Meta.{Meta}
use Rattle.ost_forms.specs.declared.body.Body.{Body}
use Rattle.ost_forms.specs.declared.body.Body.TheVariants.{Regular, Symlink}
use Rattle.ost_forms.specs.declared.body.Header.{Header}
use Rattle.ost_forms.specs.declared.fault.ObjFault.TheVariants.{NotNormal, BadMode}
use Rattle.ost_forms.specs.Stream.{content_form, stream_form, header_of, bytes_of, FitsMode, IsHeader, ReadsFile}
use Rattle.ost_forms.proofs.Streams.{stream_parts}
use Rattle.ost_forms.proofs.Parted.{one_header}

pub one_stream : (h k : Header) (c d bytes : List ℕ) → IsHeader h → IsHeader k → stream_form c h ≡ Some bytes → stream_form d k ≡ Some bytes → (h ≡ k) × (c ≡ d)
one_stream h k c d bytes g f e i =
    let p = stream_parts c h bytes e in
    let q = stream_parts d k bytes i in
    (one_header h k _ g f p.0 q.0, sym p.1.rest ∙ q.1.rest)

header_meta : (m : Meta) (body : Body) → (header_of m body).meta ≡ m
header_meta m (Regular bytes) = refl
header_meta m (Symlink target) = refl

pub header_wide : (m : Meta) (body : Body) → m.uid < 2 ^ 32 → m.gid < 2 ^ 32 → m.mode < 2 ^ 32 → IsHeader (header_of m body)
header_wide m (Regular bytes) uid gid mode = record { uid = uid; gid = gid; mode = mode; rdev = omega arith }
header_wide m (Symlink target) uid gid mode = record { uid = uid; gid = gid; mode = mode; rdev = omega arith }

pub never_odd : (m : Meta) (body : Body) (limit : ℕ) (bytes : List ℕ) → content_form m body ≡ Some bytes → ReadsFile limit bytes (Err NotNormal) → ⊥
never_odd m body limit bytes form r = r.1 (header_of m body) (bytes_of body) form

-- a file's own stream is never refused for its mode
pub never_bad : (m : Meta) (body : Body) (limit : ℕ) (bytes : List ℕ) → IsHeader (header_of m body) → ∥ FitsMode m.mode body ∥₁ → content_form m body ≡ Some bytes → ReadsFile limit bytes (Err BadMode) → ⊥
never_bad m body limit bytes wide fits form r =
    let same = one_stream r.1.0 (header_of m body) r.1.1 (bytes_of body) bytes r.1.2 wide r.1.3 form in
    let meta : r.1.0.meta ≡ m = ap (λ (h : Header). h.meta) same.0 ∙ header_meta m body in
    let is : r.1.0 ≡ header_of r.1.0.meta body = same.0 ∙ ap (λ x. header_of x body) (sym meta) in
    ∥∥₁_elim fits (λ x y. absurd x) (λ f. r.1.4 (body, is, same.1, subst (λ (x : Meta). FitsMode x.mode body) (sym meta) f))

-- a body with no target isn't a link
one_body : (m n : Meta) (a b : Body) → ∥ FitsMode m.mode a ∥₁ → ∥ FitsMode n.mode b ∥₁ → header_of m a ≡ header_of n b → bytes_of a ≡ bytes_of b → (m ≡ n) × (a ≡ b)
one_body m n (Regular x) (Regular y) f g e i = (ap (λ (h : Header). h.meta) e, ap Regular i)
one_body m n (Regular x) (Symlink y) f g e i = let z : ⊥ = ∥∥₁_elim g (λ x y. absurd x) (λ g. g.1 (sym (ap (λ (h : Header). h.target) e))) in absurd z
one_body m n (Symlink x) (Regular y) f g e i = let z : ⊥ = ∥∥₁_elim f (λ x y. absurd x) (λ f. f.1 (ap (λ (h : Header). h.target) e)) in absurd z
one_body m n (Symlink x) (Symlink y) f g e i = (ap (λ (h : Header). h.meta) e, ap Symlink (ap (λ (h : Header). h.target) e))

pub one_content : (m n : Meta) (a b : Body) (bytes : List ℕ) → IsHeader (header_of m a) → IsHeader (header_of n b) → ∥ FitsMode m.mode a ∥₁ → ∥ FitsMode n.mode b ∥₁ → content_form m a ≡ Some bytes → content_form n b ≡ Some bytes → (m ≡ n) × (a ≡ b)
one_content m n a b bytes g h f k e i =
    let same = one_stream (header_of m a) (header_of n b) (bytes_of a) (bytes_of b) bytes g h e i in
    one_body m n a b f k same.0 same.1
