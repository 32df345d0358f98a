-- Which headers and contents are a file's.
use Rattle.std.proofs.Common.{arith, eqb, length, ◌≡◌, ◌≢◌, ℕ, Some, Ok, List, [], ◌∷◌, Bool, true, false, refl, sym, ap, ap₂, subst, ◌∙◌}
use Rattle.std.proofs.lemmas.Bool.{eqb-true}
use Rattle.std.specs.Prelude.{◌↔◌, IsTrue}
use Rattle.ost_types.specs.Mode.{IsFileMode, IsLinkMode}
use Rattle.ost_types.specs.declared.meta.Meta.{Meta}
use Rattle.ost_forms.specs.declared.body.Header.{Header}
use Rattle.ost_forms.specs.declared.body.Body.{Body}
use Rattle.ost_forms.specs.declared.body.Body.TheVariants.{Regular, Symlink}
use Rattle.ost_forms.specs.Stream.{Tells, IsHeader, IsFile, IsWithin, header_of, bytes_of, stream_form, FileParts, ReadsFile}

made : (h : Header) (n : ℕ) (t : List ℕ) → h.rdev ≡ n → h.target ≡ t → h ≡ record { meta = h.meta; rdev = n; target = t }
made h n t r e = ap₂ (λ (n : ℕ) (t : List ℕ). let h : Header = record { meta = h.meta; rdev = n; target = t } in h) r e

pub regular_file : (h : Header) (content : List ℕ) → h.rdev ≡ 0 → h.target ≡ [] → IsFileMode h.meta.mode → IsFile h content
regular_file h content r t m = (Regular content, made h 0 [] r t, refl, m)

pub link_file : (h : Header) (content : List ℕ) → h.rdev ≡ 0 → h.target ≢ [] → IsLinkMode h.meta.mode → content ≡ [] → IsFile h content
link_file h content r t m e = (Symlink h.target, made h 0 h.target r refl, e, (m, t))

pub no_device : (h : Header) (content : List ℕ) → h.rdev ≢ 0 → IsFile h content → ⊥
no_device h content r (Regular bytes, is, e, m) = r (ap (λ h. h.rdev) is)
no_device h content r (Symlink target, is, e, m) = r (ap (λ h. h.rdev) is)

pub no_regular : (h : Header) (content : List ℕ) → h.target ≡ [] → (IsFileMode h.meta.mode → ⊥) → IsFile h content → ⊥
no_regular h content t n (Regular bytes, is, e, m) = n m
no_regular h content t n (Symlink target, is, e, m) = m.1 (sym (ap (λ h. h.target) is) ∙ t)

pub no_link : (h : Header) (content : List ℕ) → h.target ≢ [] → (IsLinkMode h.meta.mode → content ≡ [] → ⊥) → IsFile h content → ⊥
no_link h content t n (Regular bytes, is, e, m) = t (ap (λ h. h.target) is)
no_link h content t n (Symlink target, is, e, m) = n m.0 e

-- a stream that was opened, and is a file's
pub file_read : (h : Header) (content : List ℕ) (limit : ℕ) (bytes : List ℕ) → IsWithin limit bytes → IsHeader h → stream_form content h ≡ Some bytes → IsFile h content → (f : FileParts) × ReadsFile limit bytes (Ok f)
file_read h content limit bytes short wide e is =
    let form : stream_form (bytes_of is.0) (header_of h.meta is.0) ≡ Some bytes = ap₂ (λ (c : List ℕ) (h : Header). stream_form c h) (sym is.2) (sym is.1) ∙ e in
    (record { meta = h.meta; body = is.0 }, (short, form, is.3, subst IsHeader is.1 wide))

pub tells : (P Q : Type 0) (b : Bool) → IsTrue b ↔ Q → (Q → P) → ((Q → ⊥) → P → ⊥) → Tells P b
tells P Q b h holds fails = go b (λ e. h.0 e) (λ q. h.1 q)
  where
    go : (b : Bool) → (IsTrue b → Q) → (Q → IsTrue b) → Tells P b
    go true from to = holds (from refl)
    go false from to = fails (λ q. let z : false ≡ true = to q in absurd cc)

pub empty_from : (l : List ℕ) (b : Bool) → b ≡ eqb (length l) 0 → b ≡ true → l ≡ []
empty_from [] b e t = refl
empty_from (x ∷ l) b e t = let z = eqb-true _ _ (sym e ∙ t) in absurd (omega (arith, z))

pub filled_from : (l : List ℕ) (b : Bool) → b ≡ eqb (length l) 0 → b ≡ false → l ≢ []
filled_from [] b e f is = let z : true ≡ false = sym e ∙ f in absurd cc
filled_from (x ∷ l) b e f is = absurd cc

pub empty_tells : (l : List ℕ) (b : Bool) → b ≡ eqb (length l) 0 → IsTrue b ↔ (l ≡ [])
empty_tells l b e = (λ t. empty_from l b e t, λ is. e ∙ ap (λ l. eqb (length l) 0) is)
