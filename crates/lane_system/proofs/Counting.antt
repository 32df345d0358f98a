-- As many objects stand as were counted, over an act.
use Rattle.std.proofs.Common.{◌≡◌, ◌⊎◌, inl, inr, ⊎_elim, ◌≤◌, ◌+◌, ◌-◌, ℕ, refl, sym, ◌∙◌, ap, subst, arith, List, [], ◌∷◌, Contains, Option, Some, None}
use Rattle.ost_types.specs.declared.limits.Limits.{Limits}
use Rattle.ost_types.specs.declared.object.ObjName.{ObjName}
use Rattle.fs_trait.specs.declared.types.Value.{Value}
use Rattle.fs_trait.specs.declared.types.Value.TheVariants.{Absent, File, Folder, Link}
use Rattle.fs_trait.specs.Seen.{seen}
use Rattle.fs_trait.specs.View.{View}
use Rattle.fs_trait.proofs.Facts.{vacant_absent}
use Rattle.repo_model.specs.Objects.{path_of}
use Rattle.obj_store.specs.declared.phase.Put.{Put}
use Rattle.obj_store.specs.declared.phase.Put.TheVariants.{Present, Stored}
use Rattle.store_check.specs.Listing.{IsThere}
use Rattle.rely_guarantee.specs.declared.books.Base.{Base}
use Rattle.rely_guarantee.specs.declared.books.Books as rust
use Rattle.rely_guarantee.specs.declared.kind.Outcome.TheVariants as came
use Rattle.rely_guarantee.specs.Books.{books_of}
use Rattle.rely_guarantee.proofs.Lasting.{none_out}
use Rattle.ref_book.specs.declared.book.RefBook.{RefBook}
use Rattle.durable_store.specs.Full.{HasAsMany, IsFull}
use Rattle.durable_store.proofs.Filling.{fewer_many, many_less, many_more, many_stay, many_swap}
use Rattle.tree_build.proofs.Lists.{contained_among}
use Rattle.command.specs.declared.ended.Ended.{Ended}
use Rattle.command.specs.Removed.{RemovesOnly}
use Rattle.command.specs.Since.{Since}
use Rattle.lane_system.specs.Acts.{TakesOne}
use Rattle.lane_system.specs.declared.lane.Running.{Running}
use Rattle.lane_system.specs.Family.{Family, FsSpec}
use Rattle.lane_system.specs.LaneActs.{Takes, task_start}
use Rattle.lane_system.specs.Replies.{IfAnswer}
use Rattle.lane_system.specs.States.{since_in}
use Rattle.lane_system.specs.Steps.{IsCounted, standing}
use Rattle.lane_system.proofs.Family.{FamilyLaws, FsLaws}
use Rattle.lane_system.proofs.Giving.{if_answer}
use Rattle.lane_system.proofs.Telling.{standing_less, standing_one}

-- objects stay but for those that were removed
stays_or : (out : List ObjName) (v w : View) → RemovesOnly out v w → (name : ObjName) → IsThere v.now name → IsThere w.now name ⊎ Contains out name
stays_or out v w only name is = by (w.now.at (path_of name)) refl
  where
    by : (value : Value) → w.now.at (path_of name) ≡ value → IsThere w.now name ⊎ Contains out name
    by Absent gone = ⊎_elim
        (λ was. absurd (is.there (vacant_absent v.now (path_of name) was)))
        (λ out_. inr out_)
        (only name is.sum (ap (seen w.now) gone))
    by (Folder m) at = inl (record { sum = is.sum; there = λ gone. (let z : Absent ≡ Folder m = sym gone ∙ at in cc) })
    by (Link m target) at = inl (record { sum = is.sum; there = λ gone. (let z : Absent ≡ Link m target = sym gone ∙ at in cc) })
    by (File n) at = inl (record { sum = is.sum; there = λ gone. (let z : Absent ≡ File n = sym gone ∙ at in cc) })

only_one : (o name : ObjName) → Contains (o ∷ []) name → name ≡ o
only_one o name has = ⊎_elim (λ e. sym e) (λ none. absurd none) (contained_among name (o ∷ []) has)

module _ (old new : rust.Books) (out : List ObjName) (v w : View) (only : RemovesOnly out v w) (one : TakesOne old new out) where
  -- so many at least, without what may have been taken
  pub many_left : (objects : ℕ) → HasAsMany v.now objects → HasAsMany w.now (standing old.gone new.gone objects)
  many_left objects has = ⊎_elim
      (λ none. fewer_many w.now objects (standing old.gone new.gone objects) (standing_less old.gone new.gone objects)
      (many_stay v.now w.now (λ name is. ⊎_elim (λ there. there) (λ gone. absurd (none_out name (subst (λ (l : List ObjName). Contains l name) none.0 gone))) (stays_or out v w only name is)) objects has))
      (λ took. subst (HasAsMany w.now) (sym (standing_one old.gone new.gone objects took.0))
      (many_less v.now w.now took.1 (λ name is. ⊎_elim (λ there. inl there) (λ gone. inr (only_one took.1 name (subst (λ (l : List ObjName). Contains l name) took.2 gone))) (stays_or out v w only name is)) objects has))
      one

  -- one more where a step stored an object
  pub many_on : (objects next : ℕ) (met : Option (ObjName × Put)) → IsCounted (standing old.gone new.gone objects) met next → ((name : ObjName) → met ≡ Some (name, Stored) → (v.now.at (path_of name) ≡ Absent) × IsThere w.now name) → HasAsMany v.now objects → HasAsMany w.now next
  many_on objects next None is new_ has = subst (HasAsMany w.now) (sym is) (many_left objects has)
  many_on objects next (Some (name, Present)) is new_ has = subst (HasAsMany w.now) (sym is) (many_left objects has)
  many_on objects next (Some (name, Stored)) is new_ has =
      let there = new_ name refl in
      ⊎_elim
      (λ none. (let few : next ≤ objects + 1 = omega (arith, is, standing_less old.gone new.gone objects) in
      fewer_many w.now (objects + 1) next few (many_more v.now w.now (λ other was. ⊎_elim (λ stays. stays) (λ gone. absurd (none_out other (subst (λ (l : List ObjName). Contains l other) none.0 gone))) (stays_or out v w only other was)) objects name there.0 there.1 has)))
      (λ took. (let few : next ≤ objects - 1 + 1 = omega (arith, is, standing_one old.gone new.gone objects took.0) in
      fewer_many w.now (objects - 1 + 1) next few (many_swap v.now w.now took.1 (λ other was. ⊎_elim (λ stays. inl stays) (λ gone. inr (only_one took.1 other (subst (λ (l : List ObjName). Contains l other) took.2 gone))) (stays_or out v w only other was)) objects name there.0 there.1 has)))
      one

-- a step that goes on and stored an object did so where nothing stood, and left it there
module _ {F T W A : Type 0} (f : FsSpec F) (c : Family T W A) (fl : FsLaws f) (cl : FamilyLaws c) (limits : Limits) (actor lane number : ℕ) (refs refs' : RefBook) (objects : ℕ) (old new : Base F) (words : W) (task : Option (Running T)) (t' : T)
    (y : Takes f c limits actor lane number refs refs' objects old new words task came.More t') (v w : View) (told_v : f.view old.fs ≡ Some v) (told_w : f.view new.fs ≡ Some w) where
  pub came_there : (name : ObjName) → c.doing.met t' ≡ Some (name, Stored) → (v.now.at (path_of name) ≡ Absent) × IsThere w.now name
  came_there name met =
      let since : Since = since_in limits old.books (task_start old.books.history.items task) in
      let k = y.step.tells v told_v in
      let lacked = cl.commands.store.lacked (record { objects = objects }) since words y.work t' v k.0 name y.after k.2 met in
      (lacked.1, cl.commands.store.there lane t' w (books_of new.books) name (y.step.acts.tells.facts w told_w) met)

-- an answer that tells that the store is full tells so of as many objects as were counted
pub full_by : {A : Type 0} (full : A → Type 0) (limits : Limits) (objects : ℕ) (v : View) (x : Ended A) → HasAsMany v.now objects → IfAnswer (λ a. full a → limits.objects ≤ objects) x → IfAnswer (λ a. full a → IsFull limits v.now) x
full_by full limits objects v x has is = if_answer (λ a. full a → IsFull limits v.now) x (λ a e said. fewer_many v.now objects limits.objects (subst (IfAnswer (λ b. full b → limits.objects ≤ objects)) e is said) has)
