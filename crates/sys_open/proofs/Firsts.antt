-- The least of the paths that are wrong, by one question or by another.
use Rattle.std.proofs.Common.{inl, inr, sym, subst, [], Option, Some, None, Result, Ok, Err}
use Rattle.ost_types.specs.Path.{Path}
use Rattle.fs_trait.specs.View.{Disk}
use Rattle.sys_open.specs.declared.fault.OpenFault.{OpenFault}
use Rattle.sys_open.specs.declared.fault.OpenFault.TheVariants as fault
use Rattle.sys_open.specs.declared.fault.Why.TheVariants.{WrongKind}
use Rattle.layout_rules.specs.declared.many.Many.TheVariants.{Kernels, Stateroots, Objects, Marks}
use Rattle.layout_rules.specs.declared.rule.Rule.{Rule}
use Rattle.layout_rules.specs.Checks.{Asks, AsksFixed, AsksIn, AsksInside, IsFor, Kinds, Suits}
use Rattle.sys_open.specs.Walk.{Finds, IsDamage, IsLeastWrong, IsLesser, IsSoBelow, Walked}
use Rattle.sys_open.proofs.Orders.{less_before, less_trans}

pub damage_least : (T : Type 0) (So : Path → Type 0) (told : Result T OpenFault) (path : Result (Option Path) OpenFault) → IsDamage told path → Walked So WrongKind [] told → Finds (IsLeastWrong So) path
damage_least T So (Ok x) path is walked = subst (Finds (IsLeastWrong So)) (sym is) walked
damage_least T So (Err fault.Disk) path is walked = subst (Finds (IsLeastWrong So)) (sym is) tt
damage_least T So (Err fault.NoMemory) path is walked = subst (Finds (IsLeastWrong So)) (sym is) tt
damage_least T So (Err (fault.Outside p)) path is walked = absurd walked
damage_least T So (Err (fault.Damaged p y)) path is walked = subst (Finds (IsLeastWrong So)) (sym is) walked.1

-- both are asked of a path
module _ (A B : Path → Type 0) where
  abbrev pub Both : Path → Type 0
  Both q = A q × B q

  behind : (second : Option Path) → IsSoBelow A [] → IsLeastWrong B second → IsLeastWrong Both second
  behind None all wrong = λ q below. (all q below, wrong q below)
  behind (Some p) all wrong = record { below = wrong.below; wrong = λ both. wrong.wrong both.1; least = λ q below less. (all q below, wrong.least q below less) }

  pub lesser_least : (first second one : Option Path) → IsLesser first second one → IsLeastWrong A first → IsLeastWrong B second → IsLeastWrong Both one
  lesser_least None second one is a b = subst (IsLeastWrong Both) (sym is) (behind second a b)
  lesser_least (Some p) None one is a b = subst (IsLeastWrong Both) (sym is) (record { below = a.below; wrong = λ both. a.wrong both.0; least = λ q below less. (a.least q below less, b q below) })
  lesser_least (Some p) (Some q) one (inl is) a b = subst (IsLeastWrong Both) (sym is.1) (record { below = b.below; wrong = λ both. b.wrong both.1; least = λ r below less. (a.least r below (less_trans r q p less is.0), b.least r below less) })
  lesser_least (Some p) (Some q) one (inr is) a b = subst (IsLeastWrong Both) (sym is.1) (record { below = a.below; wrong = λ both. a.wrong both.0; least = λ r below less. (a.least r below less, b.least r below (less_before r p q less is.0)) })

-- what is asked of a path may be said in another way
pub least_same : (A B : Path → Type 0) → ((q : Path) → A q → B q) → ((q : Path) → B q → A q) → (one : Option Path) → IsLeastWrong A one → IsLeastWrong B one
least_same A B to from None wrong = λ q below. to q (wrong q below)
least_same A B to from (Some p) wrong = record { below = wrong.below; wrong = λ b. wrong.wrong (from p b); least = λ q below less. to q (wrong.least q below less) }

abbrev pub Four : Disk → Path → Type 0
Four d = Both (Both (AsksIn Kernels d) (AsksIn Stateroots d)) (Both (AsksIn Objects d) (AsksIn Marks d))

pub inside_least : (d : Disk) (one : Option Path) → IsLeastWrong (Four d) one → IsLeastWrong (AsksInside d) one
inside_least d one wrong = least_same (Four d) (AsksInside d) to (λ q asks. ((asks Kernels, asks Stateroots), (asks Objects, asks Marks))) one wrong
  where
    to : (q : Path) → Four d q → AsksInside d q
    to q four Kernels = four.0.0
    to q four Stateroots = four.0.1
    to q four Objects = four.1.0
    to q four Marks = four.1.1

pub kinds_least : (d : Disk) (one : Option Path) → IsLeastWrong (Both (AsksFixed d) (AsksInside d)) one → IsLeastWrong (Asks Kinds d) one
kinds_least d one wrong = least_same (Both (AsksFixed d) (AsksInside d)) (Asks Kinds d) (λ q both rule is. to q both rule is) (λ q asks. (λ rule is. asks rule (inl is), λ many rule is. asks rule (inr (many, is)))) one wrong
  where
    to : (q : Path) → Both (AsksFixed d) (AsksInside d) q → (rule : Rule) → IsFor rule q → Suits rule (d.at q)
    to q both rule (inl is) = both.0 rule is
    to q both rule (inr is) = both.1 is.0 rule is.1
