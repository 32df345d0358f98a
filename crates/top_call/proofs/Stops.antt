-- What is told where the repository isn't opened.
use Rattle.std.proofs.Common.{◌≡◌, ◌⊎◌, ⊎_elim, ℕ, refl, sym, subst, List, [], ◌∷◌, Option, Some, None, IfSome}
use Rattle.ost_types.specs.declared.limits.Limits.{Limits}
use Rattle.ost_types.specs.Path.{Path}
use Rattle.fs_trait.specs.Count.{Rose}
use Rattle.fs_trait.specs.View.{Disk}
use Rattle.sys_open.specs.declared.fault.OpenFault.{OpenFault}
use Rattle.sys_open.specs.declared.fault.OpenFault.TheVariants as opening
use Rattle.sys_open.specs.declared.fault.Why.{Why}
use Rattle.sys_open.specs.Opening.{IsToldOf, StaysOnDamage}
use Rattle.top_call.specs.declared.fault.TopFault.{TopFault}
use Rattle.top_call.specs.declared.fault.TopFault.TheVariants.{Usage, Script, Input, Open, NoMemory}
use Rattle.top_call.specs.Top.{IsFaultBy, IsFaultOf, IsOutsideOf, IsStop, StaysOn}
use Rattle.top_call.specs.Words.{IsEarly, IsRefused}

-- what is so of a fault that a step names, and of want of memory, is so of what is told of a refused call
outside_so : (P : TopFault → Type 0) (p : Path) (refused : Option Path) (fault : TopFault) → ((q : Path) → (q ≡ [] → refused ≡ Some q) → P (Open (opening.Outside q))) → P NoMemory → IsOutsideOf p refused fault → P fault
outside_so P (x ∷ p) refused fault named memory is = subst P (sym is) (named (x ∷ p) (λ none. cc))
outside_so P [] None fault named memory is = subst P (sym is) memory
outside_so P [] (Some q) fault named memory is = ⊎_elim (λ a. subst P (sym a) (named q (λ none. refl))) (λ b. subst P (sym b) memory) is

-- so of each fault
fault_so : (P : TopFault → Type 0) (refused : Option Path) (e : OpenFault) (fault : TopFault) → (e ≡ opening.Disk → P (Open opening.Disk)) → ((p : Path) (why : Why) → e ≡ opening.Damaged p why → P (Open (opening.Damaged p why)))
    → ((p q : Path) → e ≡ opening.Outside p → (q ≡ [] → refused ≡ Some q) → P (Open (opening.Outside q))) → P NoMemory → IsFaultOf refused e fault → P fault
fault_so P refused opening.NoMemory fault disk damaged outside memory is = subst P (sym is) memory
fault_so P refused opening.Disk fault disk damaged outside memory is = subst P (sym is) (disk refl)
fault_so P refused (opening.Damaged p why) fault disk damaged outside memory is = subst P (sym is) (damaged p why refl)
fault_so P refused (opening.Outside p) fault disk damaged outside memory is = outside_so P p refused fault (λ q named. outside p q refl named) memory is

module _ (refused : Option Path) (e : OpenFault) (fault : TopFault) (is : IsFaultOf refused e fault) where
  pub told_stop : (limits : Limits) (d : Disk) → IsToldOf limits d e → IsStop limits d fault
  told_stop limits d told = fault_so (IsStop limits d) refused e fault (λ same. tt) (λ p why same. subst (IsToldOf limits d) same told) (λ p q same named. absurd (subst (IsToldOf limits d) same told)) tt is

  pub told_still : (P : Type 0) → StaysOnDamage e P → StaysOn fault P
  told_still P still = fault_so (λ f. StaysOn f P) refused e fault (λ same. tt) (λ p why same. subst (λ x. StaysOnDamage x P) same still) (λ p q same named. tt) tt is

  pub told_late : IsEarly fault → ⊥
  told_late = fault_so (λ f. IsEarly f → ⊥) refused e fault (λ same early. early) (λ p why same early. early) (λ p q same named early. early) (λ early. early) is

  pub told_by : (before now : ℕ) → (e ≡ opening.Disk → Rose before now) → IsFaultBy before now refused fault
  told_by before now disk = fault_so (IsFaultBy before now refused) refused e fault disk (λ p why same. tt) (λ p q same named. named) tt is

-- a fault that comes before the opening tells nothing of calls
by_early : (left : Option (List ℕ)) (words : List (List ℕ)) (source source' before now : ℕ) (refused : Option Path) (fault : TopFault) → IsRefused left words source source' fault → IsFaultBy before now refused fault
by_early left words source source' before now refused Usage is = tt
by_early left words source source' before now refused (Script e) is = tt
by_early left words source source' before now refused Input is = tt
by_early left words source source' before now refused (Open e) is = absurd is
by_early left words source source' before now refused NoMemory is = tt

pub refused_by : (left : Option (List ℕ)) (words : List (List ℕ)) (source source' before now : ℕ) (refused : Option Path) (told : Option TopFault) (fault : TopFault) → told ≡ Some fault → IsRefused left words source source' fault → IfSome told (IsFaultBy before now refused)
refused_by left words source source' before now refused told fault same is = subst (λ o. IfSome o (IsFaultBy before now refused)) (sym same) (by_early left words source source' before now refused fault is)

pub none_by : (before now : ℕ) (refused : Option Path) (told : Option TopFault) → told ≡ None → IfSome told (IsFaultBy before now refused)
none_by before now refused told none = subst (λ o. IfSome o (IsFaultBy before now refused)) (sym none) tt

pub opened_by : {F : Type 0} (faults : F → ℕ) (refused : F → Option Path) (before : ℕ) (fs end : F) (told : Option TopFault) (fault : TopFault) → told ≡ Some fault → end ≡ fs → IsFaultBy before (faults fs) (refused fs) fault → IfSome told (IsFaultBy before (faults end) (refused end))
opened_by faults refused before fs end told fault same is by = subst (λ o. IfSome o (IsFaultBy before (faults end) (refused end))) (sym same) (subst (λ g. IsFaultBy before (faults g) (refused g) fault) (sym is) by)

-- that a call failed is told only where one did
pub disk_rose : (before now : ℕ) (refused : Option Path) (told : Option TopFault) → IfSome told (IsFaultBy before now refused) → told ≡ Some (Open opening.Disk) → Rose before now
disk_rose before now refused told by is = let it : IfSome (Some (Open opening.Disk)) (IsFaultBy before now refused) = subst (λ o. IfSome o (IsFaultBy before now refused)) is by in it
