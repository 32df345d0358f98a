-- Whose the checkouts are, and what stands in them, whoever acts.
use Rattle.std.proofs.Common.{◌≡◌, ◌≢◌, ⊎_elim, ℕ, refl, sym, ◌∙◌, ap, List, [], ◌∷◌, ◌++◌, Contains}
use Rattle.ost_types.specs.Path.{Name, Path}
use Rattle.fs_trait.specs.View.{View}
use Rattle.fs_trait.specs.Seen.{Seen, Vacant, shows}
use Rattle.fs_trait.specs.Change.{Writes}
use Rattle.repo_layout.specs.BootPaths.{checkout_path}
use Rattle.repo_layout.specs.Place.{Checkout}
use Rattle.repo_layout.proofs.Places.{place-checkout}
use Rattle.rely_guarantee.specs.declared.books.Claim.{Claim}
use Rattle.rely_guarantee.specs.Books.{Books, IsClaimed, Keeps, Unclaimed}
use Rattle.rely_guarantee.specs.Rely.{Guarantee, Interference}
use Rattle.rely_guarantee.specs.SystemInvariant.{AreThere}
use Rattle.rely_guarantee.proofs.Lists.{other_or_own}
use Rattle.rely_guarantee.proofs.Mays.{at_place}

-- a checkout's folder that stands goes on to stand
pub folder_stands : (b : Books) (v w : View) (actor lane : ℕ) → Writes (Guarantee b v actor lane) v w → (name : Name) → shows v.now (checkout_path name) ≢ Vacant → shows w.now (checkout_path name) ≢ Vacant
folder_stands b v w actor lane writes name there none = ⊎_elim
    (λ same. there (sym same ∙ none))
    (λ m. there (m.checkouts name (place-checkout name [])))
    (writes.now (checkout_path name))

-- so do those of claims that stay
pub claims_stand : (b : Books) (v w : View) (actor lane : ℕ) → Writes (Guarantee b v actor lane) v w → (old new : List Claim) → ((c : Claim) → Contains new c → Contains old c) → AreThere old v → AreThere new w
claims_stand b v w actor lane writes old new fewer there c has = folder_stands b v w actor lane writes c.name (there c (fewer c has))

-- Where a checkout's folder stands nobody writes at it or below it but who claimed it.
module _ (b : Books) (v : View) (actor lane : ℕ) (name : Name) (there : shows v.now (checkout_path name) ≢ Vacant) where
  only_claimed : (rest : Path) (s : Seen) → Guarantee b v actor lane (checkout_path name ++ rest) s → Contains b.claims (record { lane = lane; name = name })
  only_claimed [] s m = absurd (there (m.checkouts name (place-checkout name [])))
  only_claimed (x ∷ rest) s m = at_place b v actor lane (checkout_path name ++ x ∷ rest) s (Checkout name (x ∷ rest)) (place-checkout name (x ∷ rest)) m

  pub others_spare : (mine : ℕ) → IsClaimed name mine b → mine ≢ lane → (rest : Path) (s : Seen) → Guarantee b v actor lane (checkout_path name ++ rest) s → ⊥
  others_spare mine claimed other rest s m = other (sym (claimed.alone (record { lane = lane; name = name }) (only_claimed rest s m) refl))

  pub none_writes : Unclaimed name b → (rest : Path) (s : Seen) → Guarantee b v actor lane (checkout_path name ++ rest) s → ⊥
  none_writes none rest s m = none (record { lane = lane; name = name }) (only_claimed rest s m) refl

-- a claim that is there after an act was there before, where a folder stood
claim_was : (actor lane : ℕ) (v w : View) (b b' : Books) (name : Name) → Interference actor lane v b w b' → shows v.now (checkout_path name) ≢ Vacant → (c : Claim) → Contains b'.claims c → c.name ≡ name → Contains b.claims c
claim_was actor lane v w b b' name does there c has is =
    ⊎_elim (λ was. was) (λ none. absurd (there (sym (ap (λ n. shows v.now (checkout_path n)) is) ∙ none))) (does.claims c has)

-- What a lane has claimed is its own whoever else acts.
pub claimed_kept : (actor lane mine : ℕ) (v w : View) (b b' : Books) (name : Name) → mine ≢ lane → Interference actor lane v b w b' → shows v.now (checkout_path name) ≢ Vacant → IsClaimed name mine b → IsClaimed name mine b'
claimed_kept actor lane mine v w b b' name other does there claimed = record {
  mine = does.books.claims (record { lane = mine; name = name }) other claimed.mine;
  alone = λ c has is. claimed.alone c (claim_was actor lane v w b b' name does there c has is) is;
}

pub claimed_gains : (lane : ℕ) (b b' : Books) (name : Name) → Keeps lane b b' → IsClaimed name lane b → IsClaimed name lane b'
claimed_gains lane b b' name keeps claimed = record {
  mine = keeps.claims (record { lane = lane; name = name }) claimed.mine;
  alone = λ c has is. other_or_own c.lane lane (λ other. claimed.alone c (keeps.others c other has) is);
}

-- A checkout that is nobody's stays so, and as it is, whoever acts.
pub checkout_stays : (actor lane : ℕ) (v w : View) (b b' : Books) (name : Name) → Interference actor lane v b w b' → shows v.now (checkout_path name) ≢ Vacant → Unclaimed name b
    → Unclaimed name b' × ((rest : Path) → shows w.now (checkout_path name ++ rest) ≡ shows v.now (checkout_path name ++ rest))
checkout_stays actor lane v w b b' name does there none = (
  (λ c has is. none c (claim_was actor lane v w b b' name does there c has is) is),
  λ rest. ⊎_elim (λ same. same) (λ m. absurd (none_writes b v actor lane name there none rest (shows w.now (checkout_path name ++ rest)) m)) (does.writes.now (checkout_path name ++ rest)),
)
