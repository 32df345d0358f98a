-- What a value keeps makes its bytes an object.
use Rattle.std.proofs.Common.{◌≡◌, ◌≤◌, ◌<◌, ◌^◌, ℕ, List, length, Some}
use Rattle.std.proofs.Math.Logic.{∥∥₁_elim, ∥∥₁_prop}
use Rattle.ost_types.specs.declared.meta.Meta.{Meta}
use Rattle.ost_types.specs.declared.object.Kind.TheVariants as kinds
use Rattle.ost_types.specs.Mode.{IsFolderMode}
use Rattle.ost_forms.specs.DirMeta.{object_limit, dirmeta_form}
use Rattle.ost_forms.specs.DirTree.{Entries, AreApart, tree_form, HasSums, HasNames, IsSorted}
use Rattle.ost_forms.specs.Commit.{CommitParts, commit_form, HasCommitSums}
use Rattle.ost_objects.specs.Object.{HasForm}

pub commit_formed : (c : CommitParts) (limit : ℕ) (bytes : List ℕ) → HasCommitSums c → c.time < 2 ^ 64 → commit_form c ≡ Some bytes → length bytes ≤ object_limit → HasForm kinds.Commit limit bytes
commit_formed c limit bytes sums time form short = ∣ (c, (record { short = short; time = time; form = form }, sums)) ∣₁

pub tree_formed : (t : Entries) (limit : ℕ) (bytes : List ℕ) → HasSums t → HasNames t → IsSorted t → tree_form t ≡ Some bytes → length bytes ≤ object_limit → HasForm kinds.DirTree limit bytes
tree_formed t limit bytes sums names sorted form short = ∣ (t, (record { short = short; form = form }, sums, names, sorted)) ∣₁

pub apart_from : (xs ys : List (List ℕ)) → ∥ AreApart xs ys ∥₁ → AreApart xs ys
apart_from xs ys h n p q = ∥∥₁_elim h (λ x y. absurd x) (λ a. a n p q)

pub meta_formed : (m : Meta) (limit : ℕ) (bytes : List ℕ) → m.uid < 2 ^ 32 → m.gid < 2 ^ 32 → m.mode < 2 ^ 32 → ∥ IsFolderMode m.mode ∥₁ → dirmeta_form m ≡ Some bytes → length bytes ≤ object_limit → HasForm kinds.DirMeta limit bytes
meta_formed m limit bytes uid gid mode folder form short = ∥∥₁_elim folder ∥∥₁_prop (λ f. ∣ (m, (record { short = short; uid = uid; gid = gid; mode = mode; form = form }, f)) ∣₁)
