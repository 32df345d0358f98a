-- An object more is kept.
use Rattle.std.proofs.Common.{◌≡◌, ◌⊎◌, inl, inr, ℕ, ◌+◌, ◌<◌, ◌≤◌, List, [], ◌∷◌, ◌++◌, length, Contains, sym, ap, subst, arith}
use Rattle.std.proofs.lemmas.List.Elements.{Contains-push_cases}
use Rattle.std.proofs.lemmas.List.Sums.{sum_by-append}
use Rattle.ost_types.specs.declared.object.ObjName.{ObjName}
use Rattle.fs_trait.specs.View.{Disk}
use Rattle.repo_model.specs.Objects.{Stores}
use Rattle.store_check.specs.declared.kept.Kept.{Kept}
use Rattle.store_check.specs.Keeping.{Adds, AreKept, size_of}

none_in : {X : Type 0} (x : X) → Contains {X = X} [] x → ⊥
none_in x (k, less, is) = omega (arith, less)

pub kept_none : (d : Disk) (kept : Kept) → kept.objects.items ≡ [] → kept.room ≡ 67108864 → AreKept d kept
kept_none d kept none room = record {
  each = λ name bytes among. absurd (none_in (name, bytes) (subst (λ l. Contains l (name, bytes)) none among));
  few = omega (arith, ap size_of none, room);
}

-- an object with its name
abbrev NamedBytes : Type 0
NamedBytes = ObjName × List ℕ

module _ (d : Disk) (old new : Kept) (name : ObjName) (bytes : List ℕ) (adds : Adds old new name bytes) (are : AreKept d old) (stored : Stores d name bytes) where
  either : (m n : ℕ) → (m ≤ n) ⊎ (n < m)
  either m n = grind arith

  grown : new.objects.items ≡ old.objects.items ++ (name, bytes) ∷ [] → new.room + length bytes ≡ old.room → AreKept d new
  grown items room = record {
    each = λ other b among. one (other, b) (Contains-push_cases old.objects.items added (other, b) (subst (λ l. Contains l (other, b)) items among));
    few = omega (arith, ap size_of items, sum_by-append (λ (o : NamedBytes). length o.1) old.objects.items (added ∷ []), room, are.few);
  }
    where
      added : NamedBytes
      added = (name, bytes)

      one : (o : NamedBytes) → Contains old.objects.items o ⊎ (added ≡ o) → Stores d o.0 o.1
      one o (inl before) = are.each o.0 o.1 before
      one o (inr same) = subst (λ (p : NamedBytes). Stores d p.0 p.1) same stored

  pub kept_more : AreKept d new
  kept_more = by (either (length bytes) old.room)
    where
      by : (length bytes ≤ old.room) ⊎ (old.room < length bytes) → AreKept d new
      by (inl fits) = let a = adds.fits fits in grown a.0 a.1
      by (inr full) = subst (AreKept d) (sym (adds.full full)) are
