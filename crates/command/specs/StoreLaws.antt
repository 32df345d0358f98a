-- What a family proves of the objects that its tasks pin and store.
use Rattle.std.specs.Prelude.{◌≡◌, ◌≢◌, ◌⊎◌, ◌<◌, ℕ, List, Some}
use Rattle.ost_types.specs.declared.object.ObjName.{ObjName}
use Rattle.fs_trait.specs.declared.task.StepResult.TheVariants as turn
use Rattle.fs_trait.specs.declared.types.Value.TheVariants.{Absent}
use Rattle.fs_trait.specs.View.{View}
use Rattle.fs_trait.specs.Seen.{Seen, Vacant}
use Rattle.repo_layout.specs.RefFile.{IsSum}
use Rattle.repo_model.specs.Objects.{object_in, path_of}
use Rattle.obj_store.specs.declared.phase.Put.TheVariants.{Stored}
use Rattle.store_check.specs.Listing.{IsThere}
use Rattle.rely_guarantee.specs.declared.kind.Wants.{Wants}
use Rattle.rely_guarantee.specs.Books.{Books}
use Rattle.rely_guarantee.specs.Laws.{Take}
use Rattle.durable_store.specs.Writing.{KeepsStore}
use Rattle.command.specs.declared.told.Told.{Told}
use Rattle.command.specs.Doing.{Doing}
use Rattle.command.specs.Meaning.{Meaning}
use Rattle.command.specs.Removing.{IsRemoving}
use Rattle.command.specs.Since.{Since}
use Rattle.command.specs.Tasks.{TaskSpec}

-- by the count that a task was told the store had room for one more object
abbrev pub HadRoom : Told → Since → Type 0
HadRoom told since = told.objects < since.limits.objects

pub record StoreLaws {T W A : Type 0} (k : TaskSpec T) (m : Meaning W A) (d : Doing T W A) : Type 0 where
  -- what its lane holds of the objects that it stored or found
  pub holds : (lane : ℕ) (t : T) (v : View) (b : Books) → k.facts lane t v b → d.holds lane t v b
  -- what is pinned is in the command's work
  pub works : (since : Since) (c : W) (t : T) (wants : Wants) (name : ObjName) → d.pursues since c t → k.kind t ≡ Take wants → wants.pin ≡ Some name → m.works since c name
  pub reaches : (since : Since) (lane : ℕ) (c : W) (t : T) (v : View) (b : Books) (wants : Wants) (name : ObjName) → d.pursues since c t → k.facts lane t v b → k.kind t ≡ Take wants → wants.pin ≡ Some name → m.reaches since c name
  -- what is written at an object's path is what the command brings, where the store had room for it by the count told before the step
  pub brings : (since : Since) (actor lane : ℕ) (c : W) (t : T) (v : View) (b : Books) (name : ObjName) (s : Seen) (bytes : List ℕ) → d.pursues since c t → k.facts lane t v b → IsSum name.csum → k.writes actor t v (path_of name) s → object_in name.kind s ≡ Some bytes → m.brings since c name bytes
  pub room : (told : Told) (since : Since) (actor lane : ℕ) (c : W) (t : T) (v : View) (b : Books) (name : ObjName) (s : Seen) → d.pursues since c t → k.facts lane t v b → IsSum name.csum → k.writes actor (d.hears told t) v (path_of name) s → s ≢ Vacant → HadRoom told since
  -- such a step goes on and stored the object, or changed nothing; the last one changed nothing
  pub stored : (actor lane : ℕ) (t new : T) (v w : View) (b : Books) (name : ObjName) (s : Seen) → k.facts lane t v b → k.leaves t turn.More new v w → IsSum name.csum → k.writes actor t v (path_of name) s → s ≢ Vacant → (w ≡ v) ⊎ (d.met new ≡ Some (name, Stored))
  pub done : (actor lane : ℕ) (t new : T) (v w : View) (b : Books) (name : ObjName) (s : Seen) → k.facts lane t v b → k.leaves t (turn.Done tt) new v w → IsSum name.csum → k.writes actor t v (path_of name) s → s ≢ Vacant → w ≡ v
  -- a step that stored an object did so where nothing stood at its path
  pub lacked : (told : Told) (since : Since) (c : W) (t new : T) (v w : View) (name : ObjName) → d.pursues since c t → k.leaves (d.hears told t) turn.More new v w → d.met new ≡ Some (name, Stored) → HadRoom told since × (v.now.at (path_of name) ≡ Absent)
  -- and left something there
  pub there : (lane : ℕ) (t : T) (v : View) (b : Books) (name : ObjName) → k.facts lane t v b → d.met t ≡ Some (name, Stored) → IsThere v.now name
  -- what is written keeps what a store keeps, over what the command brings, but in steps that remove
  pub keeps : (since : Since) (actor lane : ℕ) (c : W) (t : T) (v : View) (b : Books) → d.pursues since c t → k.facts lane t v b → ¬ (IsRemoving (k.kind t)) → KeepsStore since.limits (m.brings since c) v (k.writes actor t v)
