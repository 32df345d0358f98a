-- The first wrong ref by path, from what was looked at so far.
use Rattle.std.proofs.Common.{◌≡◌, inl, inr, ℕ, ◌+◌, ◌<◌, ◌≤◌, List, length, get_or, refl, sym, ap, subst, arith, Option, Some, None}
use Rattle.std.specs.declared.cmp.Ordering.TheVariants.{Less}
use Rattle.ost_types.specs.declared.object.Kind.TheVariants as kind
use Rattle.ost_types.specs.Path.{path_cmp}
use Rattle.fs_trait.specs.View.{Disk}
use Rattle.repo_layout.specs.Paths.{ref_path}
use Rattle.repo_model.specs.Trees.{name_of}
use Rattle.store_check.specs.declared.refs.WrongRef.{WrongRef}
use Rattle.store_check.specs.Commits.{IsFinished}
use Rattle.store_check.specs.Refs.{Adds, IsFirstWrong, IsLesser, Ref, wrong_at}
use Rattle.store_check.proofs.Firsts.{SoFar, none_so_far, one_more}
use Rattle.store_check.proofs.Orders.{less_trans, not_less_itself}

module _ (d : Disk) (refs : List Ref) where
  abbrev pub Founded : Ref → Type 0
  Founded r = IsFinished d r.1

  -- a ref that comes before this one by path
  abbrev pub FoundedBefore : WrongRef → Ref → Type 0
  FoundedBefore w r = path_cmp (ref_path r.0) w.at ≡ Less → IsFinished d r.1

  -- the first wrong one of the first so many
  pub record IsFirst (i : ℕ) (w : WrongRef) : Type 0 where
    pub ref : Ref
    pub at : ℕ
    pub below : at < i
    pub within : at < length refs
    pub is : get_or refs at ref ≡ ref
    pub path : w.at ≡ ref_path ref.0
    pub names : w.commit ≡ ref.1
    pub wrong : ¬ (IsFinished d ref.1)
    pub least : SoFar (FoundedBefore w) refs i

  abbrev pub FirstSoFar : ℕ → Option WrongRef → Type 0
  FirstSoFar i None = SoFar Founded refs i
  FirstSoFar i (Some w) = IsFirst i w

  pub none_looked : (first : Option WrongRef) → first ≡ None → FirstSoFar 0 first
  none_looked first is = subst (FirstSoFar 0) (sym is) (none_so_far Founded refs)

  module _ (i : ℕ) (x : Ref) (inside : i < length refs) (is : x ≡ get_or refs i x) where
    new_first : (w : WrongRef) → w ≡ wrong_at x → ¬ (IsFinished d x.1) → SoFar (FoundedBefore (wrong_at x)) refs i → IsFirst (i + 1) w
    new_first w same wrong before = subst (IsFirst (i + 1)) (sym same) (record {
      ref = x;
      at = i;
      below = omega arith;
      within = inside;
      is = sym is;
      path = refl;
      names = refl;
      wrong = wrong;
      least = one_more (FoundedBefore (wrong_at x)) refs i x inside is (λ less. absurd (not_less_itself (ref_path x.0) less)) before (i + 1) refl;
    })

    old_first : (f : WrongRef) → IsFirst i f → FoundedBefore f x → IsFirst (i + 1) f
    old_first f first here = record {
      ref = first.ref;
      at = first.at;
      below = omega (arith, first.below);
      within = first.within;
      is = first.is;
      path = first.path;
      names = first.names;
      wrong = first.wrong;
      least = one_more (FoundedBefore f) refs i x inside is here first.least (i + 1) refl;
    }

    pub add_first : (first one : Option WrongRef) → FirstSoFar i first → Adds d first x one → FirstSoFar (i + 1) one
    add_first None one before (inl same) = subst (FirstSoFar (i + 1)) (sym same.1) (one_more Founded refs i x inside is same.0 before (i + 1) refl)
    add_first (Some f) one before (inl same) = subst (FirstSoFar (i + 1)) (sym same.1) (old_first f before (λ less. same.0))
    add_first None one before (inr wrong) = subst (FirstSoFar (i + 1)) (sym wrong.1.1) (new_first wrong.1.0 wrong.1.2 wrong.0 (λ k r less at earlier. before k r less at))
    add_first (Some f) one before (inr wrong) = subst (FirstSoFar (i + 1)) (sym wrong.1.1) (by wrong.1.2)
      where
        by : IsLesser (Some f) (wrong_at x) wrong.1.0 → IsFirst (i + 1) wrong.1.0
        by (inl lesser) = new_first wrong.1.0 lesser.1 wrong.0 (λ k r less at earlier. before.least k r less at (less_trans (ref_path r.0) (ref_path x.0) f.at earlier lesser.0))
        by (inr not) = subst (IsFirst (i + 1)) (sym not.1) (old_first f before (λ less. absurd (not.0 less)))

  pub first_of_all : (i : ℕ) (one : Option WrongRef) → length refs ≤ i → FirstSoFar i one → IsFirstWrong d refs one
  first_of_all i None whole before = λ r has. before has.0 r (omega (arith, whole, has.1)) has.2
  first_of_all i (Some w) whole first = record {
    ref = first.ref;
    among = (first.at, first.within, first.is);
    path = first.path;
    names = ap (name_of kind.Commit) first.names;
    wrong = first.wrong;
    least = λ other has less. first.least has.0 other (omega (arith, whole, has.1)) has.2 less;
  }
