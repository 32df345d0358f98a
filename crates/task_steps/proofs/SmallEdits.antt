-- Edits of a path of one or two names, each of one letter, in the folder `/etc`.
use Rattle.std.proofs.Common.{◌≡◌, ◌≢◌, ◌⊎◌, ⊎_elim, ◌≤◌, [], ◌∷◌, length, codes, false, refl, sym, subst, arith}
use Rattle.ost_types.specs.Path.{Name, Path, is_below, joined, text_of, under}
use Rattle.host_edit.specs.declared.edit.Edit.{Edit}
use Rattle.host_edit.specs.Edit.{IsFit, IsPlaced, MayEdit, path_of}

abbrev stage_name : Name
stage_name = codes "stage"

abbrev etc_name : Name
etc_name = codes "etc"

outside : is_below (etc_name ∷ []) (stage_name ∷ []) ≡ false
unfolding is_below
outside = refl

aside : is_below (stage_name ∷ []) (etc_name ∷ []) ≡ false
unfolding is_below
aside = refl

placed : IsPlaced (stage_name ∷ []) (etc_name ∷ [])
placed = record { staging = ([], stage_name, refl); outside = outside; aside = aside }

one_short : length (text_of (etc_name ∷ codes "a" ∷ [])) ≤ 1024
unfolding joined
one_short = omega arith

two_short : length (text_of (etc_name ∷ codes "a" ∷ codes "b" ∷ [])) ≤ 1024
unfolding joined
two_short = omega arith

abbrev IsSmall : Path → Type 0
IsSmall p = (p ≢ []) × (length (etc_name ∷ p) ≤ 64) × (length (text_of (etc_name ∷ p)) ≤ 1024)

one_small : IsSmall (codes "a" ∷ [])
one_small = ((λ e. let n : codes "a" ∷ [] ≡ [] = e in cc), omega arith, one_short)

two_small : IsSmall (codes "a" ∷ codes "b" ∷ [])
two_small = ((λ e. let n : codes "a" ∷ codes "b" ∷ [] ≡ [] = e in cc), omega arith, two_short)

pub may_edit : (stage etc root : Path) (e : Edit) → root ≡ [] → stage ≡ under root (codes "stage") → etc ≡ under root (codes "etc") → IsFit e → (path_of e ≡ codes "a" ∷ []) ⊎ (path_of e ≡ codes "a" ∷ codes "b" ∷ []) → MayEdit stage etc e
may_edit stage etc root e none stage_is etc_is fit path =
    let small : IsSmall (path_of e) = ⊎_elim (λ is. subst IsSmall (sym is) one_small) (λ is. subst IsSmall (sym is) two_small) path in
    let may : MayEdit (stage_name ∷ []) (etc_name ∷ []) e = record { some = small.0; few = small.1; short = small.2; fit = fit; placed = placed } in
    subst (λ s. MayEdit s etc e) (sym (subst (λ r. stage ≡ under r (codes "stage")) none stage_is))
    (subst (λ f. MayEdit (stage_name ∷ []) f e) (sym (subst (λ r. etc ≡ under r (codes "etc")) none etc_is)) may)
