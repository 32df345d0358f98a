-- What holds up a commit, and that it goes on to.
use Rattle.std.proofs.Common.{◌≡◌, inl, inr, ⊎_elim, ℕ, List, [], refl, sym, ◌∙◌, ap, subst}
use Rattle.ost_types.specs.declared.limits.Limits.{Limits}
use Rattle.ost_types.specs.declared.object.Kind.TheVariants.{Commit}
use Rattle.ost_types.specs.declared.object.ObjName.{ObjName}
use Rattle.ost_forms.specs.declared.tree_item.TreeItem.{TreeItem}
use Rattle.fs_trait.specs.View.{View}
use Rattle.fs_trait.specs.Seen.{Seen, MayBe}
use Rattle.repo_model.specs.Objects.{path_of}
use Rattle.repo_model.specs.Trees.{name_of}
use Rattle.tree_build.specs.Building.{IsNumber}
use Rattle.tree_build.specs.Objects.{Object, work}
use Rattle.reach.specs.Reach.{Is, Reach}
use Rattle.reach.proofs.Reaching.{reach_back, reach_kind, reach_up}
use Rattle.tree_reach.specs.Trees.{CommitStore, IsCommitOf, IsMadeTree}
use Rattle.tree_reach.proofs.Commits.{commit_only}
use Rattle.commit_build.specs.declared.message.Message.{Message}
use Rattle.commit_build.specs.Committing.{commit_of, parts_of}
use Rattle.rely_guarantee.specs.Lasting.{IsSafe, Stays}
use Rattle.rely_guarantee.proofs.Lasting.{none_out}
use Rattle.commit_durability.specs.Lasting.{IsCommit, IsHeldUp, MayRight, sum_of}

pub made_tree : (limits : Limits) (tree : List TreeItem) (message : Message) → IsCommit limits tree message → IsMadeTree limits tree
made_tree limits tree message is = record { ordered = is.items; typed = is.typed; tree = is.whole; makeable = is.makeable }

pub its_commit : (limits : Limits) (tree : List TreeItem) (message : Message) → IsCommit limits tree message → IsCommitOf tree (commit_of tree message).bytes
its_commit limits tree message is = record { parts = parts_of tree message; reads = is.reads; tree = refl; meta = refl }

module _ (tree : List TreeItem) (message : Message) where
  abbrev itself : ObjName
  itself = name_of Commit (sum_of tree message)

  right_of : (v : View) (o : ObjName) (b : List ℕ) → MayRight v tree message o b → CommitStore tree (sum_of tree message) (commit_of tree message).bytes o b
  right_of v o b ((x, inl n, named, same), s, may, holds) = inl (x, (n.0, n.1.0, n.1.1), named, same)
  right_of v o b ((x, inr e, named, same), s, may, holds) = inr (sym named ∙ ap (λ (y : Object). y.name) e, sym same ∙ ap (λ (y : Object). y.bytes) e)

  -- It is held up where no object of its tree goes.
  pub held_by_all : (limits : Limits) (v : View) → IsCommit limits tree message → ((n : ℕ) (o : Object) → IsNumber (work tree) n o → IsSafe v o.name) → IsHeldUp v tree message
  held_by_all limits v is safe o kind reached =
      let over = reach_up (MayRight v tree message) (CommitStore tree (sum_of tree message) (commit_of tree message).bytes) (Is itself) (Is itself) (λ x e. e) (right_of v) o reached in
      ⊎_elim
      (λ e. absurd (kind (ap (λ (x : ObjName). x.kind) e)))
      (λ w. subst (IsSafe v) w.2 (safe w.1.0 w.0 (w.1.1, w.1.2)))
      (commit_only limits tree (made_tree limits tree message is) (sum_of tree message) (commit_of tree message).bytes (its_commit limits tree message is) o over)

  -- Nothing is written where something safe stands, so nothing more is reached.
  module _ (v w : View) (stays : Stays [] v w) (held : IsHeldUp v tree message) (before : (s : Seen) → MayBe w (path_of itself) s → MayBe v (path_of itself) s) where
    right_before : (o : ObjName) (b : List ℕ) → Reach (MayRight v tree message) (Is itself) o → MayRight w tree message o b → MayRight v tree message o b
    right_before o b reached (of, s, may, holds) = (
      of,
      s,
      ⊎_elim
          (λ e. subst (λ x. MayBe v (path_of x) s) (sym e) (before s (subst (λ x. MayBe w (path_of x) s) e may)))
          (λ kind. stays.same o (none_out o) (held o kind reached) s may)
          (reach_kind (MayRight v tree message) (Is itself) o reached),
      holds,
    )

    pub held_stays : IsHeldUp w tree message
    held_stays o kind reached = stays.safe o (none_out o) (held o kind (reach_back (MayRight v tree message) (MayRight w tree message) (Is itself) right_before o reached))
