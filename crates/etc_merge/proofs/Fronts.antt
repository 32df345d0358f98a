-- What is left of a whole, where all that is left in some order comes behind what was passed.
use Rattle.std.proofs.Common.{◌≡◌, ◌≢◌, ◌<◌, ◌+◌, ℕ, List, [], ◌∷◌, ◌++◌, length, Option, Some, None, refl, sym, ◌∙◌, ap, subst, arith}
use Rattle.std.proofs.lemmas.List.{append_assoc}
use Rattle.std.specs.declared.cmp.Ordering.TheVariants.{Less}
use Rattle.ost_types.specs.declared.node.NodeName.{NodeName}
use Rattle.ost_types.specs.Path.{Path, path_cmp}
use Rattle.ost_types.specs.PathMap.{Nodes, IsAscending, paths_of, node_at}
use Rattle.etc_merge.specs.Entries.{AllAfter, AllBefore, IsFrom, IsTaken, entry_of}
use Rattle.etc_merge.proofs.Finds.{append_none, ascending_left, before_append, before_later, before_none, from_at, from_past, taken_past}

-- what was passed is some front, each of whose paths comes before each that is left
pub record IsPassed (whole left : Nodes) (Left : Path → Type 0) : Type 0 where
  pub front : Nodes
  pub is : whole ≡ front ++ left
  pub before : (q : Path) → Left q → AllBefore front q

-- at each path from that one on
abbrev pub AreLater : Path → (Path → Type 0) → (Path → Type 0) → Type 0
AreLater p Left Next = (q : Path) → Next q → Left q × (path_cmp p q ≡ Less)

pub passed_none : (whole : Nodes) (Left : Path → Type 0) → IsPassed whole whole Left
passed_none whole Left = record { front = []; is = refl; before = λ q there. tt }

pub passed_at : (whole left : Nodes) (Left : Path → Type 0) (q : Path) → IsPassed whole left Left → Left q → node_at whole q ≡ node_at left q
passed_at whole left Left q passed there = ap (λ m. node_at m q) passed.is ∙ append_none passed.front left q (before_none passed.front q (passed.before q there))

-- so behind a path that is left
pub passed_past : (whole left : Nodes) (Left : Path → Type 0) (p q : Path) → IsPassed whole left Left → Left p → path_cmp p q ≡ Less → node_at whole q ≡ node_at left q
passed_past whole left Left p q passed there less =
    ap (λ m. node_at m q) passed.is ∙ append_none passed.front left q (before_none passed.front q (before_later passed.front p q (passed.before p there) less))

pub passed_ascending : (whole left : Nodes) (Left : Path → Type 0) → IsPassed whole left Left → IsAscending (paths_of whole) → IsAscending (paths_of left)
passed_ascending whole left Left passed h = ascending_left passed.front left (subst (λ m. IsAscending (paths_of m)) passed.is h)

longer : (whole front more left next : Nodes) → whole ≡ front ++ left → left ≡ more ++ next → whole ≡ (front ++ more) ++ next
longer whole front more left next is then = is ∙ ap (λ m. front ++ m) then ∙ sym (append_assoc front more next)

pub passed_from : (whole left next : Nodes) (Left Next : Path → Type 0) (p : Path) → IsPassed whole left Left → IsFrom left p next → AreLater p Left Next → IsPassed whole next Next
passed_from whole left next Left Next p passed from later = record {
  front = passed.front ++ from.front;
  is = longer whole passed.front from.front left next passed.is from.is;
  before = λ q there. let l = later q there in before_append passed.front from.front q (passed.before q l.0) (before_later from.front p q from.before l.1);
}

entry_before : (p q : Path) (node : Option NodeName) → path_cmp p q ≡ Less → AllBefore (entry_of p node) q
entry_before p q None less = tt
entry_before p q (Some n) less = (less, tt)

pub passed_taken : (whole left next : Nodes) (Left Next : Path → Type 0) (p : Path) (node : Option NodeName) → IsPassed whole left Left → IsTaken p node left next → AreLater p Left Next → IsPassed whole next Next
passed_taken whole left next Left Next p node passed taken later = record {
  front = passed.front ++ entry_of p node;
  is = longer whole passed.front (entry_of p node) left next passed.is taken.0;
  before = λ q there. let l = later q there in before_append passed.front (entry_of p node) q (passed.before q l.0) (entry_before p q node l.1);
}
