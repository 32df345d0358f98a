-- Which bytes a disk ever holds, over a run of acts.
use Rattle.std.proofs.Common.{◌≡◌, ◌⊎◌, inl, inr, ⊎_elim, ℕ, ◌≤◌, sym, ◌∙◌, ap, subst, arith, List, Option, Some, None}
use Rattle.std.proofs.lemmas.Bool.Decides.{leb_tells}
use Rattle.ost_types.specs.declared.object.ObjName.{ObjName}
use Rattle.ost_types.specs.Path.{Path}
use Rattle.ost_objects.specs.Object.{IsNamed}
use Rattle.fs_trait.specs.View.{Disk, View}
use Rattle.fs_trait.specs.Image.{Image}
use Rattle.fs_trait.specs.Seen.{Seen, Vacant, shows}
use Rattle.fs_trait.specs.Change.{Writes}
use Rattle.fs_trait.specs.Effect.{Elapses}
use Rattle.fs_trait.proofs.Claims.{Image-may}
use Rattle.fs_trait.proofs.Effects.{may_now}
use Rattle.repo_model.specs.Objects.{Store, object_in, path_of}
use Rattle.durable_store.specs.Brought.{NoHashCollisionOn}
use Rattle.durable_store.specs.Known.{HoldsOnly, KeepsKnown, KnownBytes, MayHoldOnly, NoHashCollision}

-- where nothing stands there are no bytes
vacant_holds : (name : ObjName) (s : Seen) (bytes : List ℕ) → s ≡ Vacant → object_in name.kind s ≡ Some bytes → ⊥
vacant_holds name s bytes none holds = let n : None ≡ Some bytes = sym (ap (object_in name.kind) none) ∙ holds in cc

-- a disk that a crash leaves of the view, and what reads see of it
module _ (known : Store) (v : View) (may : MayHoldOnly known v) where
  pub image_only : (d : Disk) → Image v d → HoldsOnly known d
  image_only d i name bytes stored = ⊎_elim
      (λ shown. may name bytes (shows d (path_of name)) shown stored.there stored.named)
      (λ none. absurd (vacant_holds name (shows d (path_of name)) bytes none stored.there))
      (Image-may v d i (path_of name))

  pub now_only : HoldsOnly known v.now
  now_only name bytes stored = may name bytes (shows v.now (path_of name)) (may_now v (path_of name)) stored.there stored.named

-- where more is known
pub known_wider : (was : ℕ → View → Type 0) (known more : Store) (moment : ℕ) (v : View) → ((name : ObjName) (b : List ℕ) → known name b → more name b) → KeepsKnown was known moment v → KeepsKnown was more moment v
known_wider was known more moment v wider keeps = record {
  now = λ name bytes s may holds named. wider name bytes (keeps.now name bytes s may holds named);
  left = λ t d from left name bytes stored. wider name bytes (keeps.left t d from left name bytes stored);
  seen = λ t u from had name bytes stored. wider name bytes (keeps.seen t u from had name bytes stored);
}

-- over writes of known bytes
pub may_only_on : (known : Store) (W : Path → Seen → Type 0) (v w : View) → Writes W v w → ((name : ObjName) (bytes : List ℕ) (s : Seen) → W (path_of name) s → object_in name.kind s ≡ Some bytes → IsNamed name bytes → known name bytes) → MayHoldOnly known v → MayHoldOnly known w
may_only_on known W v w writes brings may name bytes s shown holds named = ⊎_elim
    (λ was. may name bytes s was holds named)
    (λ wrote. brings name bytes s wrote holds named)
    (writes.only (path_of name) s shown)

module _ {F : Type 0} (view : F → Option View) (clock : F → ℕ) (was : F → ℕ → View → Type 0) (only_now : (fs : F) (t : ℕ) (v : View) → clock fs ≤ t → was fs t v → view fs ≡ Some v) where
  -- a view that reads had since is one that they had before, or the one now
  had_or : (old new : F) (w : View) (t : ℕ) (u : View) → view new ≡ Some w → Elapses (clock old) (clock new) (was old) (was new) (view new) → was new t u → was old t u ⊎ (u ≡ w)
  had_or old new w t u told time had = ⊎_elim
      (λ early. ⊎_elim (λ before. inl before) (λ is. inr (here is)) (time.nothing_else t u early.1 had))
      (λ late. inr (here (only_now new t u (omega (arith, time.soon, late.1)) had)))
      (leb_tells t (clock old))
    where
      here : view new ≡ Some u → u ≡ w
      here is = let e : Some u ≡ Some w = sym is ∙ told in cc

  -- over one act
  pub known_on : (known : Store) (old new : F) (v w : View) (moment : ℕ) → view new ≡ Some w → Elapses (clock old) (clock new) (was old) (was new) (view new) → MayHoldOnly known w → KeepsKnown (was old) known moment v → KeepsKnown (was new) known moment w
  known_on known old new v w moment told time may keeps = record {
    now = may;
    left = λ t d from left. ⊎_elim
        (λ before. keeps.left t d from (left.0, before, left.2))
        (λ here. image_only known w may d (subst (λ u. Image u d) here left.2))
        (had_or old new w t left.0 told time left.1);
    seen = λ t u from had. ⊎_elim
        (λ before. keeps.seen t u from before)
        (λ here. subst (λ (x : View). HoldsOnly known x.now) (sym here) (now_only known w may))
        (had_or old new w t u told time had);
  }

-- where no two known byte strings have one name, no other bytes have that of any which is brought
pub alone_known : (opening : Disk) (brings : Store) → NoHashCollision opening brings → (d : Disk) → HoldsOnly (KnownBytes opening brings) d → NoHashCollisionOn brings d
alone_known opening brings one d only name bytes other is stored = one.one name other bytes (only name other stored) (inr is)
