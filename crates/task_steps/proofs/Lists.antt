-- A list of one member that may boot.
use Rattle.std.proofs.Common.{rules, ◌≡◌, ℕ, zero, suc, List, [], ◌∷◌, sym, subst, arith}
use Rattle.std.specs.Prelude.{All, IsTrue}
use Rattle.repo_layout.specs.OsName.{IsOsName}
use Rattle.repo_layout.specs.RefFile.{IsSum}
use Rattle.boot_model.specs.declared.item.BootItem.{BootItem}
use Rattle.boot_model.specs.Items.{AreItems, IsItem, IsKarg, IsKver, is_kver_byte}

one_byte : All (λ b. IsTrue (is_kver_byte b)) (54 ∷ [])
one_byte zero d less = search rules
one_byte (suc n) d less = absurd (omega (arith, less))

-- `6`
pub version : (kver : List ℕ) → kver ≡ 54 ∷ [] → IsKver kver
version kver is = subst IsKver (sym is) (record { not_empty = λ none. (let e : 54 ∷ [] ≡ [] = none in cc); bytes = one_byte; short = omega arith })

no_words : All IsKarg []
no_words i d less = absurd (omega (arith, less))

pub member : (item : BootItem) → IsOsName item.id.os → IsSum item.id.commit → IsSum item.kernel.bootcsum → IsKver item.kernel.kver → item.kargs ≡ [] → IsItem item
member item os commit bootcsum kver none = record { os = os; commit = commit; bootcsum = bootcsum; kver = kver; kargs = subst (All IsKarg) (sym none) no_words }

one_member : (item : BootItem) → IsItem item → All IsItem (item ∷ [])
one_member item is zero d less = is
one_member item is (suc n) d less = absurd (omega (arith, less))

pub list : (item : BootItem) → IsItem item → AreItems (item ∷ [])
list item is = record { few = omega arith; each = one_member item is; differ = λ i j a b one other same. omega (arith, one.0, other.0) }
