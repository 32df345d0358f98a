-- Several paths that are looked at, and cleared, one after another.
use Rattle.std.proofs.Common.{◌≡◌, ◌⊎◌, ⊎_elim, ◌<◌, ◌≤◌, ◌+◌, ℕ, true, refl, sym, ◌∙◌, ap, subst, arith, List, [], length, get_or, Option, None, Result, Ok, Err}
use Rattle.std.specs.Prelude.{Contains}
use Rattle.std.proofs.lemmas.List.{get_or_default}
use Rattle.ost_types.specs.Path.{Path, is_below, under}
use Rattle.fs_trait.specs.View.{Disk, View}
use Rattle.fs_trait.specs.Seen.{Seen, Vacant, seen, shows}
use Rattle.fs_trait.specs.Change.{Writes}
use Rattle.fs_trait.proofs.Facts.{vacant_absent}
use Rattle.layout_rules.specs.Checks.{IsReached}
use Rattle.sys_open.specs.declared.fault.OpenFault.{OpenFault}
use Rattle.sys_open.specs.declared.fault.OpenFault.TheVariants as fault
use Rattle.sys_open.specs.declared.fault.Why.TheVariants.{WrongKind}
use Rattle.sys_open.specs.Changes.{Clears, ClearsAll}
use Rattle.sys_open.specs.LeftOver.{AsksBelow}
use Rattle.sys_open.specs.Walk.{IsLeastWrong, IsLesser, IsSoBelow, Walked}
use Rattle.sys_open.proofs.Firsts.{Both, least_same, lesser_least}

-- ---- looked at

-- what is asked of what is at or below one path
abbrev pub AsksAt : Path → Disk → Path → Type 0
AsksAt at d p = is_below at p ≡ true → IsReached d p

root : (q : Path) → is_below [] q ≡ true
unfolding is_below
root q = refl

pub widen : (T : Type 0) (d : Disk) (at : Path) (r : Result T OpenFault) → Walked (IsReached d) WrongKind at r → Walked (AsksAt at d) WrongKind [] r
widen T d at (Ok x) walked = λ q below under_at. walked q under_at
widen T d at (Err fault.Disk) walked = tt
widen T d at (Err fault.NoMemory) walked = tt
widen T d at (Err (fault.Outside p)) walked = walked
widen T d at (Err (fault.Damaged p y)) walked = (walked.0, record { below = root p; wrong = λ asks. walked.1.wrong (asks walked.1.below); least = λ q below less under_at. walked.1.least q under_at less })

-- of the first so many paths
abbrev pub AsksFirst : List Path → ℕ → Disk → Path → Type 0
AsksFirst paths i d p = (k : ℕ) → k < i → k < length paths → is_below (get_or paths k []) p ≡ true → IsReached d p

split_last : (k i : ℕ) → k < i + 1 → (k < i) ⊎ (k ≡ i)
split_last k i within = grind (arith, within)

module _ (d : Disk) (paths : List Path) where
  pub none_wrong : IsLeastWrong (AsksFirst paths 0 d) None
  none_wrong = λ q below k less inside. absurd (omega (arith, less))

  pub more_least : (i : ℕ) (x : Path) → i < length paths → x ≡ get_or paths i x → (first second one : Option Path) → IsLesser first second one → IsLeastWrong (AsksFirst paths i d) first → IsLeastWrong (AsksAt x d) second → IsLeastWrong (AsksFirst paths (i + 1) d) one
  more_least i x less item first second one is a b =
      least_same (Both (AsksFirst paths i d) (AsksAt x d)) (AsksFirst paths (i + 1) d) to from one (lesser_least (AsksFirst paths i d) (AsksAt x d) first second one is a b)
    where
      here : get_or paths i [] ≡ x
      here = sym (item ∙ get_or_default paths i x [] less)

      to : (q : Path) → Both (AsksFirst paths i d) (AsksAt x d) q → AsksFirst paths (i + 1) d q
      to q both k within inside below = ⊎_elim
          (λ before. both.0 k before inside below)
          (λ same. both.1 (subst (λ p. is_below p q ≡ true) (ap (λ j. get_or paths j []) same ∙ here) below))
          (split_last k i within)

      from : (q : Path) → AsksFirst paths (i + 1) d q → Both (AsksFirst paths i d) (AsksAt x d) q
      from q asks = (λ k before inside below. asks k (omega (arith, before)) inside below, λ below. asks i (omega arith) less (subst (λ p. is_below p q ≡ true) (sym here) below))

  pub all_least : (i : ℕ) → length paths ≤ i → (one : Option Path) → IsLeastWrong (AsksFirst paths i d) one → IsLeastWrong (AsksBelow paths d) one
  all_least i le one wrong = least_same (AsksFirst paths i d) (AsksBelow paths d) to from one wrong
    where
      to : (q : Path) → AsksFirst paths i d q → AsksBelow paths d q
      to q asks (r, (k, less, is), below) = asks k (omega (arith, less, le)) less (subst (λ p. is_below p q ≡ true) (sym is ∙ get_or_default paths k r [] less) below)

      from : (q : Path) → AsksBelow paths d q → AsksFirst paths i d q
      from q asks k less inside below = asks (get_or paths k [], (k, inside, get_or_default paths k (get_or paths k []) [] inside), below)

-- ---- cleared

pub clears_one : (paths : List Path) (i : ℕ) (x : Path) → i < length paths → x ≡ get_or paths i x → (p : Path) (s : Seen) → Clears x p s → ClearsAll paths p s
clears_one paths i x less item p s clears = ((x, (i, less, sym item), clears.0), clears.1)

-- what can be removed still can where things only go
pub still_reached : (W : Path → Seen → Type 0) → ((p : Path) (s : Seen) → W p s → s ≡ Vacant) → (v u : View) → Writes W v u → (p : Path) → IsReached v.now p → IsReached u.now p
still_reached W goes v u writes p reached x there =
    reached x (λ none. there (vacant_absent u.now (under p x) (⊎_elim (λ same. same ∙ ap (seen v.now) none) (λ wrote. goes (under p x) (shows u.now (under p x)) wrote) (writes.now (under p x)))))

pub one_reached : (paths : List Path) (v u : View) → Writes (ClearsAll paths) v u → (i : ℕ) (x : Path) → i < length paths → x ≡ get_or paths i x → ((q : Path) → Contains paths q → IsSoBelow (IsReached v.now) q) → IsSoBelow (IsReached u.now) x
one_reached paths v u writes i x less item all q below = still_reached (ClearsAll paths) (λ p s wrote. wrote.1) v u writes q (all x (i, less, sym item) q below)

pub all_cleared : (d : Disk) (paths : List Path) (i : ℕ) → length paths ≤ i → ((k : ℕ) → k < i → shows d (get_or paths k []) ≡ Vacant) → (q : Path) → Contains paths q → shows d q ≡ Vacant
all_cleared d paths i le clear q (k, less, is) = subst (λ p. shows d p ≡ Vacant) (sym (get_or_default paths k q [] less) ∙ is) (clear k (omega (arith, less, le)))
