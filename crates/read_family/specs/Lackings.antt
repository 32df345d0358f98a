-- No object of a whole commit is missing or damaged.
use Rattle.std.proofs.Common.{◌≡◌, inl, inr, true, ℕ, List, [], Some, sym, ◌∙◌, ap, subst}
use Rattle.ost_types.specs.declared.limits.Limits.{Limits}
use Rattle.ost_types.specs.declared.object.Kind.TheVariants as kind
use Rattle.ost_types.specs.declared.object.ObjName.{ObjName}
use Rattle.ost_types.specs.Path.{Path}
use Rattle.fs_trait.specs.declared.types.Value.{Value}
use Rattle.fs_trait.specs.declared.types.Value.TheVariants.{Absent, Folder, Link, File}
use Rattle.fs_trait.specs.Seen.{seen}
use Rattle.fs_trait.specs.View.{Disk, View}
use Rattle.repo_layout.specs.Paths.{mark_path}
use Rattle.repo_layout.specs.RefFile.{IsSum}
use Rattle.repo_layout.specs.Refs.{is_leaf}
use Rattle.repo_model.specs.Objects.{Has, Store, Stores}
use Rattle.repo_model.specs.Trees.{name_of}
use Rattle.repo_model.specs.Whole.{Complete}
use Rattle.tree_read.specs.Looks.{IsAbsent, IsDamaged}
use Rattle.store_check.specs.Commits.{IsFinished, IsWhole}
use Rattle.store_check.specs.Objects.{IsSound}
use Rattle.store_check.proofs.Damages.{bad_there}
use Rattle.store_check.proofs.Excluded.{absent_has, complete_has, complete_itself, complete_names, complete_sound, damaged_has}
use Rattle.rely_guarantee.specs.Disks.{IsLeaf}
use Rattle.rely_guarantee.specs.Lasting.{IsFinishedNow}
use Rattle.script.specs.declared.rows.LogRow.{LogRow}
use Rattle.read_command.specs.declared.answer.ReadAnswer.TheVariants as answer
use Rattle.read_command.specs.declared.look.Ask.{Ask}
use Rattle.read_command.specs.declared.look.Ask.TheVariants as ask
use Rattle.read_command.specs.Answers.{IsLackingNext, IsOfCommit, Says, SaysOf}
use Rattle.read_command.specs.Asked.{Answers, Asked}
use Rattle.read_command.specs.Chains.{IsChain}
use Rattle.read_command.specs.Founded.{IsFinishedOf}

chain_none : (S : Store) (commit : List ℕ) (rows : List LogRow) (next : List ℕ) → rows ≡ [] → IsChain S commit rows next → next ≡ commit
unfolding IsChain
chain_none S commit rows next none chain = subst (λ r. IsChain S commit r next) none chain

module _ (d : Disk) (limits : Limits) (sound : (name : ObjName) → IsSound d limits.content name) (whole : (c : List ℕ) → IsWhole d limits c) (commit : List ℕ) (sum : IsSum commit) (finished : IsFinished d commit) where
  complete : Complete (Stores d) limits commit
  complete = whole commit sum finished

  -- what the commit names is there
  object_has : (o : ObjName) → IsOfCommit (Stores d) commit o → Has (Stores d) limits.content o
  object_has o (inl is) = subst (Has (Stores d) limits.content) (sym is) (complete_itself d limits commit complete)
  object_has o (inr (c, has, p, named)) = complete_names d limits commit complete c has p o named

  -- no commit of its log is damaged, and it is there itself
  log_has : (o : ObjName) → IsLackingNext d limits.content commit o → ⊥
  log_has o (rows, next, sum_next, chain, is, inl (none, absent)) =
      let itself : o ≡ name_of kind.Commit commit = is ∙ ap (name_of kind.Commit) (chain_none (Stores d) commit rows next none chain) in
      finished.there (subst (IsAbsent d) itself absent)
  log_has o (rows, next, sum_next, chain, is, inr damaged) =
      let bad = subst (IsDamaged d limits.content) is damaged in
      damaged_has d limits.content (name_of kind.Commit next) bad.0 bad.1
      (sound (name_of kind.Commit next) (record { sum = sum_next; there = bad_there d limits.content (name_of kind.Commit next) bad.0 bad.1 }))

  lacking_of : (a : Ask) (p : Path) → SaysOf d limits commit a (answer.Lacking p) → ⊥
  lacking_of (ask.Cat path) p (o, is, of, inl absent) = absent_has d limits.content o absent (object_has o of)
  lacking_of (ask.Cat path) p (o, is, of, inr damaged) = damaged_has d limits.content o damaged.0 damaged.1 (object_has o of)
  lacking_of (ask.Ls path) p (o, is, inl absent) = complete_has d limits commit complete o absent
  lacking_of (ask.Ls path) p (o, is, inr damaged) = complete_sound d limits commit complete o damaged
  lacking_of ask.Log p (o, is, next) = log_has o next

  never : (a : Ask) (p : Path) → Says d limits commit a (answer.Lacking p) → ⊥
  never a p (inl stopped) = stopped
  never a p (inr says) = lacking_of a p says

leaf_seen : (d : Disk) (z : Value) → is_leaf z ≡ true → IsLeaf (seen d z)
leaf_seen d (File n) is = tt
leaf_seen d (Link m t) is = tt
leaf_seen d Absent is = let n : is_leaf Absent ≡ true = is in cc
leaf_seen d (Folder m) is = let n : is_leaf (Folder m) ≡ true = is in cc

-- a commit that is finished now is there, without a mark
is_finished : (v : View) (commit : List ℕ) → IsFinishedNow v commit → IsFinished v.now commit
is_finished v commit f = record {
  there = λ none. f.there (ap (seen v.now) none);
  unmarked = λ marked. f.unmarked (leaf_seen v.now (v.now.at (mark_path commit)) marked);
}

-- no command that reads a commit is told that one of its objects is missing or damaged
pub lacking_never : (limits : Limits) (v : View) (q : Asked) (p : Path) → q.limits ≡ limits → ((name : ObjName) → IsSound v.now limits.content name) → ((commit : List ℕ) → IsWhole v.now limits commit) → IsFinishedOf (Some q) v → Answers v.now (Some q) (answer.Lacking p) → ⊥
lacking_never limits v q p same sound whole finished says = never v.now limits sound whole q.commit finished.sum (is_finished v q.commit finished) q.ask p (subst (λ l. Says v.now l q.commit q.ask (answer.Lacking p)) same says)
