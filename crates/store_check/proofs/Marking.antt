-- What a look at a mark tells, and at a commit.
use Rattle.std.proofs.Common.{◌≡◌, ◌≢◌, Bool, true, false, refl, sym, ◌∙◌, ap, List, ℕ, Option, Some, None}
use Rattle.std.specs.Prelude.{◌↔◌, IsTrue, not}
use Rattle.fs_trait.specs.declared.types.Node as node
use Rattle.fs_trait.specs.declared.types.Value.{Value}
use Rattle.fs_trait.specs.declared.types.Value.TheVariants.{Absent, Folder, Link, File}
use Rattle.fs_trait.specs.Effect.{IsNode}
use Rattle.fs_trait.specs.View.{Disk}
use Rattle.repo_layout.specs.Paths.{mark_path}
use Rattle.repo_layout.specs.Refs.{is_leaf}
use Rattle.obj_store.specs.Lookup.{is_there}
use Rattle.store_check.specs.Commits.{IsFinished, commit_path}

-- whether a leaf stands there, by what a look found
abbrev pub leaf_node : Option node.Node → Bool
leaf_node None = false
leaf_node (Some (node.TheVariants.Folder m)) = false
leaf_node (Some (node.TheVariants.Link m t)) = true
leaf_node (Some (node.TheVariants.File m len)) = true

pub leaf_of_node : (d : Disk) (x : Value) (n : Option node.Node) → IsNode d x n → leaf_node n ≡ is_leaf x
leaf_of_node d Absent n e = ap leaf_node e
leaf_of_node d (Folder m) n e = ap leaf_node e
leaf_of_node d (Link m t) n e = ap leaf_node e
leaf_of_node d (File k) n e = ap leaf_node e

pub there_not_absent : (x : Value) → true ≡ is_there x → x ≢ Absent
there_not_absent x there none = let n : true ≡ false = there ∙ ap is_there none in cc

pub absent_not_there : (x : Value) → false ≡ is_there x → x ≡ Absent
absent_not_there Absent e = refl
absent_not_there (Folder m) e = let n : false ≡ true = e in cc
absent_not_there (Link m t) e = let n : false ≡ true = e in cc
absent_not_there (File k) e = let n : false ≡ true = e in cc

pub unfinished : (d : Disk) (commit : List ℕ) → d.at (commit_path commit) ≡ Absent → IsTrue false ↔ IsFinished d commit
unfinished d commit none = (λ t. let n : false ≡ true = t in cc, λ f. absurd (f.there none))

pub finished_so : (d : Disk) (commit : List ℕ) (b : Bool) → d.at (commit_path commit) ≢ Absent → b ≡ is_leaf (d.at (mark_path commit)) → IsTrue (not b) ↔ IsFinished d commit
finished_so d commit true there is = (λ t. let n : false ≡ true = t in cc, λ f. absurd (f.unmarked (sym is)))
finished_so d commit false there is = (λ t. record { there = there; unmarked = λ m. let n : false ≡ true = is ∙ m in cc }, λ f. refl)
