-- What the rows of a list tell of its members.
use Rattle.std.proofs.Common.{◌≡◌, ℕ, ◌+◌, List, [], ◌∷◌, map, refl, ◌∙◌, ap}
use Rattle.std.specs.List.{enumerate_from}
use Rattle.ost_types.specs.Path.{Name}
use Rattle.boot_model.specs.declared.item.BootItem.{BootItem}
use Rattle.boot_read.specs.declared.row.BootRow.{BootRow}
use Rattle.boot_rows.specs.Laws.{TellIds, TellKargs, TellSums}
use Rattle.boot_rows.specs.Rows.{row_of}

-- what a row tells of the member alone
module _ {X : Type 0} (files : ℕ → Name) (items : List BootItem) (told : BootRow → X) (of : BootItem → X) (same : (i : ℕ) (item : BootItem) → told (row_of files items i item) ≡ of item) where
  pub tell : (n : ℕ) (rest : List BootItem) → map told (map (λ (e : ℕ × BootItem). row_of files items e.0 e.1) (enumerate_from n rest)) ≡ map of rest
  tell n [] = refl
  tell n (x ∷ rest) = ap (λ y. y ∷ map told (map (λ (e : ℕ × BootItem). row_of files items e.0 e.1) (enumerate_from (n + 1) rest))) (same n x) ∙ ap (λ l. of x ∷ l) (tell (n + 1) rest)

pub tell_ids : TellIds
tell_ids files items = tell files items (λ (r : BootRow). r.id) (λ (item : BootItem). item.id) (λ i item. refl) 0 items

pub tell_kargs : TellKargs
tell_kargs files items = tell files items (λ (r : BootRow). r.kargs) (λ (item : BootItem). item.kargs) (λ i item. refl) 0 items

pub tell_sums : TellSums
tell_sums files items = tell files items (λ (r : BootRow). r.bootcsum) (λ (item : BootItem). item.kernel.bootcsum) (λ i item. refl) 0 items
