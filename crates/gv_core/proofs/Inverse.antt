-- Reading and writing are inverse.
use Rattle.std.proofs.Common.{◌≡◌, ℕ, Bool, true, false, List, Option, Some, None, refl, sym, ap, ◌∙◌, ◌≤◌, ◌⊎◌, inl, inr, leb, cond}
use Rattle.std.proofs.lemmas.Bool.{cond-true, le-leb, leb-true}
use Rattle.std.specs.Prelude.{option_and_then}
use Rattle.std.proofs.lemmas.Slice.Eq.{bytes_eq-Decides}
use Rattle.gv_core.specs.declared.fault.GvFault.{GvFault}
use Rattle.gv_core.specs.declared.fault.GvFault.TheVariants.{BadKind, TooDeep, NotNormal, NoMemory}
use Rattle.gv_core.specs.Kind.{Kind, variant_kind}
use Rattle.gv_core.specs.Tree.{Tree}
use Rattle.gv_core.specs.Layout.{layout, nests, normal_form}
use Rattle.gv_core.specs.Reading.{parse}
use Rattle.gv_core.specs.Gives.{Fails, same_bytes}
use Rattle.gv_core.proofs.Sizes.{some_is}
use Rattle.gv_core.proofs.Again.{parse_again}
use Rattle.gv_core.proofs.Nesting.{parse_nests}

abbrev laid_out : List ℕ → Tree → Option (List ℕ)
laid_out text v = option_and_then (layout v) (variant_kind text)

-- the value is of the kind that the text spells, and these bytes are its normal form
record NormalOf (text : List ℕ) (v : Tree) (bytes : List ℕ) : Type 0 where
  pub laid : laid_out text v ≡ Some bytes
  pub deep : nests v ≤ 64

normal_if : (b : Bool) (n : ℕ) (o : Option (List ℕ)) (bytes : List ℕ) → leb n 64 ≡ b → cond b o None ≡ Some bytes → (o ≡ Some bytes) × (n ≤ 64)
normal_if true n o bytes t e = (e, leb-true _ _ t)
normal_if false n o bytes t e = absurd cc

normal_of : (text : List ℕ) (v : Tree) (bytes : List ℕ) → normal_form text v ≡ Some bytes → NormalOf text v bytes
normal_of text v bytes e = let p = normal_if (leb (nests v) 64) (nests v) (laid_out text v) bytes refl e in record { laid = p.0; deep = p.1 }

normal_from : (text : List ℕ) (v : Tree) (bytes : List ℕ) → NormalOf text v bytes → normal_form text v ≡ Some bytes
normal_from text v bytes n = cond-true _ _ _ (le-leb _ _ n.deep) ∙ n.laid

laid_at : (text : List ℕ) (k : Kind) (v : Tree) → variant_kind text ≡ Some k → laid_out text v ≡ layout v k
laid_at text k v e = ap (option_and_then (layout v)) e

pub only_read : (text : List ℕ) (k : Kind) (v : Tree) (b : List ℕ) → variant_kind text ≡ Some k → normal_form text v ≡ Some b → parse 64 k b ≡ Some v
only_read text k v b e f = let n = normal_of text v b f in parse_again v 64 k b (sym (laid_at text k v e) ∙ n.laid) n.deep

pub same_true : (o : Option (List ℕ)) (b : List ℕ) → same_bytes o b ≡ true → o ≡ Some b
same_true None b e = absurd cc
same_true (Some x) b e = ap Some ((bytes_eq-Decides x b).0 e)

pub found_again : (text : List ℕ) (k : Kind) (v : Tree) (b : List ℕ) → variant_kind text ≡ Some k → parse 64 k b ≡ Some v → layout v k ≡ Some b → normal_form text v ≡ Some b
found_again text k v b e p l = normal_from text v b (record { laid = laid_at text k v e ∙ l; deep = (parse_nests 64).at k b v p })

pub not_normal : (text : List ℕ) (k : Kind) (v w : Tree) (b : List ℕ) (o : Option (List ℕ)) → variant_kind text ≡ Some k → parse 64 k b ≡ Some v → layout v k ≡ o → same_bytes o b ≡ false → normal_form text w ≡ Some b → ⊥
not_normal text k v w b o e p l s f =
    let n = normal_of text w b f in
    let same : v ≡ w = some_is v w (sym p ∙ only_read text k w b e f) in
    let laid : o ≡ Some b = sym l ∙ ap (λ x. layout x k) same ∙ sym (laid_at text k w e) ∙ n.laid in
    let yes : same_bytes o b ≡ true = ap (λ x. same_bytes x b) laid ∙ (bytes_eq-Decides b b).1 refl in
    let z : true ≡ false = sym yes ∙ s in
    cc

pub one_value : (text : List ℕ) (k : Kind) (v w : Tree) (b : List ℕ) → variant_kind text ≡ Some k → normal_form text v ≡ Some b → normal_form text w ≡ Some b → v ≡ w
one_value text k v w b e f g = some_is v w (sym (only_read text k v b e f) ∙ only_read text k w b e g)

pub fails_some : {A : Type 0} (e : GvFault) (o : Option A) (v : A) → o ≡ Some v → Fails e o → e ≡ NoMemory
fails_some NoMemory o v h f = refl
fails_some NotNormal o v h f = absurd (let z : None ≡ Some v = sym f ∙ h in cc)
fails_some BadKind o v h f = absurd f
fails_some TooDeep o v h f = absurd f

pub fails_cause : (e : GvFault) (text : List ℕ) (k : Kind) (b : List ℕ) → variant_kind text ≡ Some k → Fails e (parse 64 k b) → (e ≡ NoMemory) ⊎ ((e ≡ NotNormal) × ((v : Tree) → normal_form text v ≡ Some b → ⊥))
fails_cause NoMemory text k b e f = inl refl
fails_cause NotNormal text k b e f = inr (refl, λ v n. let z : None ≡ Some v = sym f ∙ only_read text k v b e n in cc)
fails_cause BadKind text k b e f = absurd f
fails_cause TooDeep text k b e f = absurd f
