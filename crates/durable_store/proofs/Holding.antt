-- What holds up a commit, and that it goes on to.
use Rattle.std.proofs.Common.{◌≡◌, ⊎_elim, ℕ, List, [], sym, ◌∙◌, ap, subst}
use Rattle.ost_types.specs.declared.object.Kind.TheVariants.{Commit}
use Rattle.ost_types.specs.declared.limits.Limits.{Limits}
use Rattle.ost_types.specs.declared.object.ObjName.{ObjName}
use Rattle.fs_trait.specs.View.{View}
use Rattle.fs_trait.specs.Seen.{Seen, MayBe}
use Rattle.repo_model.specs.Objects.{Store, path_of}
use Rattle.repo_model.specs.Trees.{name_of}
use Rattle.reach.specs.Reach.{Is, Reach}
use Rattle.reach.proofs.Reaching.{reach_back, reach_kind, reach_up}
use Rattle.tree_build.specs.Objects.{Object}
use Rattle.rely_guarantee.specs.Lasting.{IsSafe, Stays}
use Rattle.rely_guarantee.proofs.Lasting.{none_out}
use Rattle.durable_store.specs.Brought.{Having, IsHeldUp, MayRight}
use Rattle.durable_store.specs.Standing.{IsHeld, IsSealed}

module _ (limits : Limits) (brings : Store) (commit : List ℕ) (v w : View) (stays : Stays [] v w) where
  abbrev itself : ObjName
  itself = name_of Commit commit

  -- a commit whose objects no crash leaves away
  pub held_new : IsSealed limits brings v commit → IsHeld limits brings w commit
  held_new seal = record {
    objects = seal.objects;
    brought = seal.brought;
    is = seal.is;
    held = held_by;
  }
    where
      held_by : IsHeldUp w seal.objects commit
      held_by name plain reached =
          let over = reach_up (MayRight w seal.objects) (Having seal.objects) (Is itself) (Is itself) (λ x e. e) (λ x b right. right.0) name reached in
          let among = ((seal.is.reached name).0 over).1 in
          let o : Object = among.0 in
          let named : o.name ≡ name = among.2 in
          subst (IsSafe w) named (stays.safe o.name (none_out o.name) (seal.safe o among.1 (λ e. plain (sym (ap (λ (x : ObjName). x.kind) named) ∙ e))))

  -- Nothing is written where something safe stands, so nothing more is reached, where nothing else comes to the commit's path.
  module _ (before : (s : Seen) → MayBe w (path_of itself) s → MayBe v (path_of itself) s) where
    right_before : (objects : List Object) → IsHeldUp v objects commit → (name : ObjName) (b : List ℕ) → Reach (MayRight v objects) (Is itself) name → MayRight w objects name b → MayRight v objects name b
    right_before objects held name b reached (of, s, may, holds) = (
      of,
      s,
      ⊎_elim
          (λ e. subst (λ x. MayBe v (path_of x) s) (sym e) (before s (subst (λ x. MayBe w (path_of x) s) e may)))
          (λ plain. stays.same name (none_out name) (held name plain reached) s may)
          (reach_kind (MayRight v objects) (Is itself) name reached),
      holds,
    )

    held_stays : (objects : List Object) → IsHeldUp v objects commit → IsHeldUp w objects commit
    held_stays objects held name plain reached = stays.safe name (none_out name) (held name plain (reach_back (MayRight v objects) (MayRight w objects) (Is itself) (right_before objects held) name reached))

    pub held_on : IsHeld limits brings v commit → IsHeld limits brings w commit
    held_on is = record { objects = is.objects; brought = is.brought; is = is.is; held = held_stays is.objects is.held }
