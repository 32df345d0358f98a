-- The last zero byte is looked for from the end.
use Rattle.std.proofs.Common.{◌≡◌, ℕ, List, [], ◌∷◌, ◌++◌, length, drop, Some, None, refl, sym, ap, ◌∙◌, append_assoc}
use Rattle.std.proofs.lemmas.Bool.{cond-false, ne_eqb}
use Rattle.std.proofs.lemmas.List.{append-nil, drop_at}
use Rattle.gv_core.specs.Reading.{split_last, split_more}
use Rattle.gv_core.proofs.Again.{split_again}

pub record Splitting (bytes left : List ℕ) : Type 0 where
  pub behind : List ℕ
  pub split : bytes ≡ left ++ behind
  pub none : split_last behind ≡ None

pub splitting_init : (bytes : List ℕ) → Splitting bytes bytes
splitting_init bytes = record { behind = []; split = sym (append-nil bytes); none = refl }

pub splitting_next : (bytes left rest : List ℕ) (c : ℕ) → Splitting bytes left → left ≡ rest ++ c ∷ [] → (c ≡ 0 → ⊥) → Splitting bytes rest
splitting_next bytes left rest c s e z = record {
  behind = c ∷ s.behind;
  split = s.split ∙ ap (λ (x : List ℕ). x ++ s.behind) e ∙ append_assoc rest (c ∷ []) s.behind;
  none = ap (split_more c s.behind) s.none ∙ cond-false _ _ _ (ne_eqb c 0 z);
}

pub splitting_found : (bytes left rest : List ℕ) (c : ℕ) → Splitting bytes left → left ≡ rest ++ c ∷ [] → c ≡ 0 → Some (rest, drop (length left) bytes) ≡ split_last bytes
splitting_found bytes left rest c s e z =
    let is : bytes ≡ rest ++ (0 ∷ s.behind) = s.split ∙ ap (λ (x : List ℕ). x ++ s.behind) e ∙ append_assoc rest (c ∷ []) s.behind ∙ ap (λ c. rest ++ (c ∷ s.behind)) z in
    let back : drop (length left) bytes ≡ s.behind = ap (drop (length left)) s.split ∙ drop_at left s.behind (length left) refl in
    ap (λ b. Some (rest, b)) back ∙ sym (ap split_last is ∙ split_again rest s.behind s.none)

pub splitting_end : (bytes left : List ℕ) → Splitting bytes left → left ≡ [] → None ≡ split_last bytes
splitting_end bytes left s e = sym (ap split_last (s.split ∙ ap (λ (x : List ℕ). x ++ s.behind) e) ∙ s.none)
