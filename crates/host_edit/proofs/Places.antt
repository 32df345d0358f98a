-- Paths: their bounds, their folders, and where the staging path lies.
use Rattle.std.proofs.Common.{◌≡◌, ◌≢◌, ◌⊎◌, inl, inr, ⊎_elim, ℕ, ◌<◌, ◌≤◌, ◌+◌, Bool, true, false, ◌&&◌, [], ◌∷◌, ◌++◌, length, take, get_or, refl, sym, ◌∙◌, ap, subst, arith}
use Rattle.std.proofs.lemmas.List.{take_more}
use Rattle.ost_types.specs.Path.{Name, Path, AreNames, IsPath, is_below, is_in, same_name, text_of, under}
use Rattle.ost_types.proofs.Paths.{is_below-self, is_below-under, root_or_under, same_name-Decides, under-is_in}
use Rattle.ost_types.proofs.Splitting.{AreNames-append}
use Rattle.ref_room.proofs.Names.{IsPath-take}
use Rattle.host_edit.specs.Edit.{MayEdit, path_of}
use Rattle.host_edit.specs.declared.edit.Edit.{Edit}
use Rattle.host_edit.specs.Editing.{IsApart}

-- one name further
pub path_goes_on : (p : Path) (k : ℕ) (x : Name) → IsPath p → k < length p → x ≡ get_or p k x → IsPath (under (take k p) x)
path_goes_on p k x is inside at = subst IsPath (take_more p k x inside ∙ ap (λ y. take k p ++ y ∷ []) (sym at)) (IsPath-take (k + 1) p is)

pub joined_path : (etc p : Path) → AreNames etc → AreNames p → length (etc ++ p) ≤ 64 → length (text_of (etc ++ p)) ≤ 1024 → IsPath (etc ++ p)
joined_path etc p one two few short = record { names = AreNames-append etc p one two; few = omega (arith, few); short = omega (arith, short) }

both_true : (a b : Bool) → a && b ≡ true → (a ≡ true) × (b ≡ true)
both_true true true e = (refl, refl)
both_true true false e = let n : false ≡ true = e in cc
both_true false b e = let n : false ≡ true = e in cc

-- of two paths that lead to one, the first leads to the second, or the other way round
leads_either : (a e r : Path) → is_below a (e ++ r) ≡ true → (is_below a e ≡ true) ⊎ (is_below e a ≡ true)
unfolding is_below
leads_either [] e r b = inl refl
leads_either (x ∷ a) [] r b = inr refl
leads_either (x ∷ a) (y ∷ e) r b =
    let s = both_true _ _ b in
    let back : same_name y x ≡ true = (same_name-Decides y x).1 (sym ((same_name-Decides x y).0 s.0)) in
    ⊎_elim (λ on. inl (rw s.0 on)) (λ up. inr (rw back up)) (leads_either a e r s.1)

pub not_true : (b : Bool) → (b ≡ true → ⊥) → b ≡ false
not_true true none = absurd (none refl)
not_true false none = refl

pub not_both : {b : Bool} → b ≡ true → b ≡ false → ⊥
not_both t f = let n : true ≡ false = sym t ∙ f in cc

back_root : (e p : Path) → e ++ p ≡ [] → p ≡ []
back_root [] p is = is
back_root (x ∷ e) p is = let n : x ∷ (e ++ p) ≡ [] = is in cc

pub not_root : (e p : Path) → p ≢ [] → e ++ p ≢ []
not_root e p some is = some (back_root e p is)

pub apart_begun : (stage etc : Path) (edit : Edit) → MayEdit stage etc edit → IsApart stage (etc ++ path_of edit)
apart_begun stage etc edit may = record {
  inside = ⊎_elim (λ root. absurd (not_root etc (path_of edit) may.some root)) (λ w. w) (root_or_under (etc ++ path_of edit));
  staging = may.placed.staging;
  aside = not_true _ (λ on. ⊎_elim (λ a. not_both a may.placed.aside) (λ b. not_both b may.placed.outside) (leads_either stage etc (path_of edit) on));
}

-- a folder that a path is in is above it
in_below : (f p : Path) → is_in f p ≡ true → is_below f p ≡ true
in_below f p in_ = let x = under-is_in f p in_ in subst (λ q. is_below f q ≡ true) (sym x.1) (is_below-under f f x.0 (is_below-self f))

module _ (stage at : Path) (apart : IsApart stage at) where
  pub stage_not_at : stage ≢ at
  stage_not_at e = not_both (subst (λ q. is_below stage q ≡ true) e (is_below-self stage)) apart.aside

  pub stage_not_above : (p : Path) → p ≡ stage → is_in p at ≡ true → ⊥
  stage_not_above p e in_ = not_both (subst (λ q. is_below q at ≡ true) e (in_below p at in_)) apart.aside
