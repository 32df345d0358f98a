-- Bytes that were read as a file are read again, unless memory lacks.
use Rattle.std.proofs.Common.{◌≡◌, ◌<◌, ◌≤◌, arith, ℕ, List, Ok, Err, refl, subst, ⊎_elim}
use Rattle.std.proofs.Math.Logic.{∥∥₁_elim}
use Rattle.ost_types.specs.declared.meta.Meta.{Meta}
use Rattle.ost_types.specs.declared.object.Kind.{Kind}
use Rattle.ost_types.specs.declared.object.Kind.TheVariants as kind
use Rattle.ost_forms.specs.declared.body.Body.{Body}
use Rattle.ost_forms.specs.declared.fault.ObjFault.{ObjFault}
use Rattle.ost_forms.specs.declared.fault.ObjFault.TheVariants.{NotNormal, BadSumLength, BadName, NotSorted, BadMode, TooLarge, NoMemory}
use Rattle.ost_forms.specs.DirMeta.{object_limit}
use Rattle.ost_forms.specs.Stream.{FileParts, ReadsFile, ReadsContent, header_size}
use Rattle.ost_objects.specs.Object.{HasForm}
use Rattle.ost_objects.proofs.Backs.{content_back}

too_much : (n m k : ℕ) → n ≡ m → m ≤ k → k < n → ⊥
too_much n m k e le lt = omega (arith, e, le, lt)

module _ {X : Type 0} (meta : X → Meta) (body : X → Body) (limit : ℕ) (bytes : List ℕ) where
  against : (e : ObjFault) (f : FileParts) → ReadsFile limit bytes (Ok f) → ReadsContent meta body limit bytes (Err e) → (e ≡ NoMemory → ⊥) → ⊥
  against NotNormal f ok reads other = content_back meta body f.meta f.body limit bytes ok.3 ∣ ok.2 ∣₁ ok.1 (Err NotNormal) reads
  against BadMode f ok reads other = content_back meta body f.meta f.body limit bytes ok.3 ∣ ok.2 ∣₁ ok.1 (Err BadMode) reads
  against BadSumLength f ok reads other = reads
  against BadName f ok reads other = reads
  against NotSorted f ok reads other = reads
  against (TooLarge n) f ok reads other =
      let within = ok.0 reads.0 in
      ⊎_elim (λ a. too_much n (header_size bytes) object_limit a.0 within.0 a.1) (λ a. too_much n _ limit a.1 within.1 a.2) reads.1
  against NoMemory f ok reads other = other refl

  none : (e : ObjFault) → HasForm kind.File limit bytes → ReadsContent meta body limit bytes (Err e) → (e ≡ NoMemory → ⊥) → ⊥
  none e formed reads other = ∥∥₁_elim formed (λ x y. absurd x) (λ a. against e a.0 a.1 reads other)

  only_memory : (e : ObjFault) → HasForm kind.File limit bytes → ReadsContent meta body limit bytes (Err e) → e ≡ NoMemory
  only_memory NoMemory formed reads = refl
  only_memory NotNormal formed reads = absurd (none NotNormal formed reads (λ e. let z : NotNormal ≡ NoMemory = e in cc))
  only_memory BadMode formed reads = absurd (none BadMode formed reads (λ e. let z : BadMode ≡ NoMemory = e in cc))
  only_memory BadSumLength formed reads = absurd reads
  only_memory BadName formed reads = absurd reads
  only_memory NotSorted formed reads = absurd reads
  only_memory (TooLarge n) formed reads = absurd (none (TooLarge n) formed reads (λ e. let z : TooLarge n ≡ NoMemory = e in cc))

  pub only_memory_of : (k : Kind) (l : ℕ) → k ≡ kind.File → l ≡ limit → (e : ObjFault) → HasForm k l bytes → ReadsContent meta body limit bytes (Err e) → e ≡ NoMemory
  only_memory_of k l is same e formed reads = only_memory e (subst (λ k. HasForm k limit bytes) is (subst (λ l. HasForm k l bytes) same formed)) reads
