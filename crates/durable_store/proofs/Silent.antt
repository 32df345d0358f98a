-- Steps that write nothing of the store, and those that write no more than others.
use Rattle.std.proofs.Common.{inl, inr, ⊎_elim, ℕ, List}
use Rattle.ost_types.specs.declared.limits.Limits.{Limits}
use Rattle.ost_types.specs.declared.object.Kind.TheVariants.{Commit}
use Rattle.ost_types.specs.Path.{Path}
use Rattle.fs_trait.specs.View.{View}
use Rattle.fs_trait.specs.Seen.{Seen}
use Rattle.repo_layout.specs.Paths.{config_path, mark_path, ref_path}
use Rattle.repo_model.specs.Objects.{Store, path_of}
use Rattle.repo_model.specs.Trees.{name_of}
use Rattle.durable_store.specs.Writing.{IsApart, KeepsCommit, KeepsStore}

module _ (limits : Limits) (brings : Store) (v : View) where
  pub apart_keeps : (W : Path → Seen → Type 0) → IsApart W → KeepsStore limits brings v W
  apart_keeps W apart = record {
    objects = λ name sum s wrote. absurd (apart.objects name sum s wrote);
    one = inl apart.objects;
    commits = λ commit sum. inr (inl (record { object = λ s wrote. apart.objects (name_of Commit commit) sum s wrote; mark = λ s wrote. absurd (apart.marks commit sum s wrote) }));
    refs = λ name commit s wrote says. absurd (apart.refs name s wrote);
    config = apart.config;
  }

  pub silent_keeps : (W : Path → Seen → Type 0) → ((p : Path) (s : Seen) → W p s → ⊥) → KeepsStore limits brings v W
  silent_keeps W none = apart_keeps W (record {
    objects = λ name sum s wrote. none (path_of name) s wrote;
    marks = λ commit sum s wrote. none (mark_path commit) s wrote;
    refs = λ name s wrote. none (ref_path name) s wrote;
    config = λ s wrote. none config_path s wrote;
  })

  module _ (W U : Path → Seen → Type 0) (to : (p : Path) (s : Seen) → U p s → W p s) where
    commit_within : (commit : List ℕ) → KeepsCommit limits brings v W commit → KeepsCommit limits brings v U commit
    commit_within commit (inl seal) = inl seal
    commit_within commit (inr (inl spares)) = inr (inl (record { object = λ s wrote. spares.object s (to (path_of (name_of Commit commit)) s wrote); mark = λ s wrote. spares.mark s (to (mark_path commit) s wrote) }))
    commit_within commit (inr (inr (inl marked))) = inr (inr (inl (record { marked = marked.marked; mark = λ s wrote. marked.mark s (to (mark_path commit) s wrote) })))
    commit_within commit (inr (inr (inr whole))) = inr (inr (inr (record { whole = whole.whole; object = λ s wrote. whole.object s (to (path_of (name_of Commit commit)) s wrote) })))

    pub keeps_within : KeepsStore limits brings v W → KeepsStore limits brings v U
    keeps_within keeps = record {
      objects = λ name sum s wrote. keeps.objects name sum s (to (path_of name) s wrote);
      one = ⊎_elim
          (λ none. inl (λ name sum s wrote. none name sum s (to (path_of name) s wrote)))
          (λ one. inr (one.0, one.1, λ name sum s wrote. one.2 name sum s (to (path_of name) s wrote)))
          keeps.one;
      commits = λ commit sum. commit_within commit (keeps.commits commit sum);
      refs = λ name commit s wrote says. keeps.refs name commit s (to (ref_path name) s wrote) says;
      config = λ s wrote. keeps.config s (to config_path s wrote);
    }
