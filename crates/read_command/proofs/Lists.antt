-- The rows of a tree that was read.
use Rattle.std.proofs.Common.{◌≡◌, ◌⊎◌, inl, inr, Bool, true, ◌&&◌, [], ◌∷◌, length, take, Some, None, Result, Ok, Err, refl, sym, ◌∙◌, ap, subst, arith, Contains, if◌then◌else◌}
use Rattle.std.specs.Cmp.Lexicographic.{pointwise}
use Rattle.ost_types.specs.declared.node.NodeName.{NodeName}
use Rattle.ost_types.specs.declared.object.ObjName.{ObjName}
use Rattle.ost_types.specs.Path.{Path, is_below, same_name, same_path}
use Rattle.ost_types.specs.PathMap.{Nodes, node_at, paths_of}
use Rattle.ost_types.proofs.Paths.{same_or_apart, same_path-self, same_path-apart}
use Rattle.fs_trait.specs.declared.task.StepResult.{StepResult}
use Rattle.fs_trait.specs.declared.task.StepResult.TheVariants as turn
use Rattle.fs_trait.specs.View.{Disk}
use Rattle.repo_model.specs.Objects.{Stores, path_of}
use Rattle.repo_model.specs.Trees.{Names, Shows}
use Rattle.tree_read.specs.declared.fault.TreeFault.{TreeFault}
use Rattle.tree_read.specs.declared.fault.TreeFault.TheVariants as fault
use Rattle.tree_read.specs.declared.item.Item.{Item}
use Rattle.tree_read.specs.Walked.{StillMet, Walked}
use Rattle.tree_read.specs.Reading.{Knows, Reading, StepTells}
use Rattle.tree_read.proofs.Merged.{head_or_tail, head_in, tail_in}
use Rattle.tree_read.proofs.Steps.{whole}
use Rattle.tree_read.proofs.Walk.{kept_all, shows_met}
use Rattle.read_command.specs.declared.answer.ReadAnswer.{ReadAnswer}
use Rattle.read_command.specs.declared.answer.ReadAnswer.TheVariants as answer
use Rattle.read_command.specs.Answers.{IsNowhere, SaysLs}
use Rattle.read_command.specs.LsSteps.{IsListed}

-- a path begins with another one
pub starts_below : (p q : Path) → pointwise same_name p (take (length p) q) ≡ is_below p q
unfolding is_below
starts_below [] q = refl
starts_below (a ∷ p) [] = refl
starts_below (a ∷ p) (x ∷ q) = ap (λ b. same_name a x && b) (starts_below p q)

-- the node of a path is among the pairs
at_in : (m : Nodes) (p : Path) (n : NodeName) → node_at m p ≡ Some n → Contains m (p, n)
at_in [] p n is = let no : None ≡ Some n = is in cc
at_in (e ∷ m) p n is = by (same_or_apart e.0 p) (at_in m p n)
  where
    by : (e.0 ≡ p) ⊎ (e.0 ≡ p → ⊥) → (node_at m p ≡ Some n → Contains m (p, n)) → Contains (e ∷ m) (p, n)
    by (inl same) rest =
        let here : Some e.1 ≡ Some n = sym (ap (λ b. if b then Some e.1 else node_at m p) (subst (λ q. same_path e.0 q ≡ true) same (same_path-self e.0))) ∙ is in
        let node : e.1 ≡ n = cc in
        subst (Contains (e ∷ m)) (ap (λ q. (q, e.1)) same ∙ ap (λ k. (p, k)) node) (head_in e m)
    by (inr apart) rest = tail_in e (p, n) m (rest (sym (ap (λ b. if b then Some e.1 else node_at m p) (same_path-apart e.0 p apart)) ∙ is))

-- and where it has none, no pair has the path
not_in : (m : Nodes) (p : Path) → node_at m p ≡ None → (q : Path) → q ≡ p → Contains (paths_of m) q → ⊥
not_in [] p none q is has = omega (arith, has.1)
not_in (e ∷ m) p none q is has = by (same_or_apart e.0 p) (head_or_tail e.0 (paths_of m) q has) (λ none has. not_in m p none q is has)
  where
    by : (e.0 ≡ p) ⊎ (e.0 ≡ p → ⊥) → (e.0 ≡ q) ⊎ Contains (paths_of m) q → (node_at m p ≡ None → Contains (paths_of m) q → ⊥) → ⊥
    by (inl same) h rest = let no : Some e.1 ≡ None = sym (ap (λ b. if b then Some e.1 else node_at m p) (subst (λ q. same_path e.0 q ≡ true) same (same_path-self e.0))) ∙ none in cc
    by (inr apart) (inl e) rest = apart (e ∙ is)
    by (inr apart) (inr t) rest = rest (sym (ap (λ b. if b then Some e.1 else node_at m p) (same_path-apart e.0 p apart)) ∙ none) t

-- what is listed of a map is what the disk shows
module _ (d : Disk) (t : Reading) (knows : Knows (Stores d) t) (all : t.pending ≡ []) (path : Path) where
  none_waits : (i : Item) → Contains t.pending i → ⊥
  none_waits i h = let k = subst (λ items. Contains items i) all h in omega (arith, k.1)

  not_named : node_at t.found path ≡ None → (o : ObjName) → Names (Stores d) knows.parts.tree knows.parts.meta path o → ⊥
  not_named none o named = by (knows.walked.met path o named)
    where
      by : Contains (paths_of t.found) path ⊎ StillMet (Stores d) t.limits.content t.pending path → ⊥
      by (inl h) = not_in t.found path none path refl h
      by (inr m) = none_waits m.waits.item m.waits.among

  not_shown : node_at t.found path ≡ None → (n : NodeName) → Shows (Stores d) knows.parts.tree knows.parts.meta path n → ⊥
  not_shown none n shown = let met = shows_met (Stores d) knows.parts.tree knows.parts.meta path n shown in not_named none met.0 met.1

  nowhere_listed : node_at t.found path ≡ None → IsNowhere (Stores d) t.limits.content t.commit path
  nowhere_listed none = record {
    parts = knows.parts;
    here = knows.has;
    above = λ p rest o cut named is. (kept_all (Stores d) t.limits.content knows.parts.tree knows.parts.meta t.found (subst (Walked (Stores d) t.limits.content knows.parts.tree knows.parts.meta t.found) all knows.walked) p o named).has;
    unnamed = not_named none;
    none = not_shown none;
  }

  pub listed_says : (a : ReadAnswer) → IsListed path t.found a → SaysLs d t.limits t.commit path a
  listed_says (answer.Ls rows) (n, at, are) =
      let told = whole d t knows all in
      record {
        whole = told.0;
        nodes = t.found;
        tree = told.1;
        ascending = knows.ascending;
        node = n;
        shown = (told.1 path n).0 (at_in t.found path n at);
        rows_are = are;
      }
  listed_says (answer.NoPath p) (same, none) = (same, nowhere_listed none)
  listed_says (answer.Content b) l = absurd l
  listed_says (answer.Log rows) l = absurd l
  listed_says (answer.NoCommit a) l = absurd l
  listed_says (answer.Partial a) l = absurd l
  listed_says (answer.NotFile p) l = absurd l
  listed_says (answer.Lacking a) l = absurd l

abbrev Turned : Type 0
Turned = StepResult (Result (Unit {0}) TreeFault)

-- what is told once all was read
pub all_read : (d : Disk) (old new : Reading) (r : Turned) (path : Path) (a : ReadAnswer) → r ≡ turn.Done (Ok tt) → StepTells d old (Ok r) new → new ≡ old → IsListed path new.found a → SaysLs d old.limits old.commit path a
all_read d old new r path a is tells same listed =
    let done = subst (λ r. StepTells d old (Ok r) new) is tells in
    listed_says d old done.0 done.1 path a (subst (λ (t : Reading). IsListed path t.found a) same listed)

pub starts_with_is : (p q needle hay : Path) → needle ≡ p → hay ≡ q → (b : Bool) → b ≡ pointwise same_name needle (take (length needle) hay) → b ≡ is_below p q
starts_with_is p q needle hay is at b told = told ∙ ap (λ n. pointwise same_name n (take (length n) hay)) is ∙ ap (λ h. pointwise same_name p (take (length p) h)) at ∙ starts_below p q

-- and where an object is damaged
pub damaged_listed : (d : Disk) (old new : Reading) (r : Turned) (path : Path) (name : ObjName) (a : ReadAnswer) → r ≡ turn.Done (Err (fault.Damaged name)) → StepTells d old (Ok r) new → a ≡ answer.Lacking (path_of name) → SaysLs d old.limits old.commit path a
damaged_listed d old new r path name a at tells is = subst (SaysLs d old.limits old.commit path) (sym is) (name, refl, inr (subst (λ r. StepTells d old (Ok r) new) at tells))
