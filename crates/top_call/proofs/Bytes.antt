-- Which bytes a disk ever holds, from the opening on.
use Rattle.std.proofs.Common.{◌≡◌, inl, inr, ⊎_elim, ◌≤◌, ◌<◌, ◌+◌, ℕ, true, sym, ◌∙◌, ap, subst, arith, List, [], append-nil, Option, Some}
use Rattle.ost_types.specs.declared.object.ObjName.{ObjName}
use Rattle.ost_types.specs.Path.{is_below}
use Rattle.ost_types.proofs.Paths.{is_below-self}
use Rattle.fs_trait.specs.Change.{Left, Writes}
use Rattle.fs_trait.specs.Image.{Told}
use Rattle.fs_trait.specs.Seen.{Seen, shows}
use Rattle.fs_trait.specs.View.{Disk, View}
use Rattle.repo_config.specs.Config.{config_text}
use Rattle.repo_layout.specs.declared.folder.Folder.{Folder}
use Rattle.repo_layout.specs.Paths.{config_path, folder_path, stage_path}
use Rattle.repo_layout.specs.Place.{Config, Object, Other, Stage, place}
use Rattle.repo_layout.specs.RefFile.{IsSum}
use Rattle.repo_layout.proofs.Places.{place-config, place-object, place-stage}
use Rattle.layout_rules.proofs.Layouts.{below_split, fixed_other}
use Rattle.repo_model.specs.Objects.{Stores, object_in, path_of}
use Rattle.repo_model.proofs.Named.{IsSum-named}
use Rattle.repo_model.proofs.Stored.{stores_same}
use Rattle.rely_guarantee.specs.Opening.{IsOpening}
use Rattle.rely_guarantee.specs.State.{State}
use Rattle.rely_guarantee.specs.Rely.{IsBoot}
use Rattle.durable_store.specs.Known.{HoldsOnly, KeepsKnown, KnownBytes}
use Rattle.durable_store.proofs.Knowing.{known_wider}
use Rattle.sys_open.specs.Changes.{Changes, Keeps, Puts, Works, file_meta}
use Rattle.sys_open.specs.Opening.{KeepsSince}
use Rattle.sys_open.proofs.LeftOvers.{lies_boot}
use Rattle.lane_system.specs.Family.{Family, FsSpec}
use Rattle.lane_system.specs.Known.{AreKnown}
use Rattle.lane_system.specs.Preserves.{Preserves}
use Rattle.lane_system.specs.Storing.{WasBrought}
use Rattle.lane_system.specs.System.{System}

-- an opening writes at no object's path
module _ (name : ObjName) (sum : IsSum name.csum) where
  at_object : place (path_of name) ≡ Object name.kind name.csum
  at_object = place-object name.kind name.csum sum

  not_laid : (f : Folder) → path_of name ≡ folder_path f → ⊥
  not_laid f is = let n : Object name.kind name.csum ≡ Other (folder_path f) = sym at_object ∙ ap place is ∙ fixed_other f (folder_path f) (is_below-self (folder_path f)) in cc

  not_staged : path_of name ≡ stage_path 0 → ⊥
  not_staged is = let n : Object name.kind name.csum ≡ Stage 0 = sym at_object ∙ ap place (is ∙ sym (append-nil (stage_path 0))) ∙ place-stage 0 [] (omega arith) in cc

  not_config : path_of name ≡ config_path → ⊥
  not_config is = let n : Object name.kind name.csum ≡ Config = sym at_object ∙ ap place is ∙ place-config in cc

  not_put : (s : Seen) → Puts (stage_path 0) config_path file_meta config_text (path_of name) s → ⊥
  not_put s (inl staged) = not_staged staged.0
  not_put s (inr put) = not_config put.0

  not_cleared : (actor : ℕ) → actor < 16 → is_below (stage_path actor) (path_of name) ≡ true → ⊥
  not_cleared actor few below =
      let rest = below_split (stage_path actor) (path_of name) below in
      let n : Object name.kind name.csum ≡ Stage actor = sym at_object ∙ ap place rest.1 ∙ place-stage actor rest.0 (omega (arith, few)) in
      cc

  not_changed : (d : Disk) (s : Seen) → Changes d (path_of name) s → ⊥
  not_changed d s (inl lays) = not_laid lays.0.0 lays.0.1
  not_changed d s (inr (inl clears)) = not_cleared clears.0 clears.1 clears.2.0
  not_changed d s (inr (inr (inl puts))) = not_put s puts.puts
  not_changed d s (inr (inr (inr cleared))) = let n : IsBoot (Object name.kind name.csum) = subst IsBoot at_object (lies_boot d (path_of name) cleared.0) in n

-- so the objects behind it were there before it
stores_before : (d e : Disk) (name : ObjName) (bytes : List ℕ) → (shows e (path_of name) ≡ shows d (path_of name)) → Stores e name bytes → Stores d name bytes
stores_before d e name bytes same stored = stores_same e d name bytes (sym same) stored

kept_only : (d e : Disk) → Keeps d e → HoldsOnly (Stores d) e
kept_only d e keeps name bytes stored = ⊎_elim
    (λ same. stores_before d e name bytes same stored)
    (λ changed. absurd (not_changed name (IsSum-named name bytes stored.named) d (shows e (path_of name)) changed))
    (keeps (path_of name))

written_only : (v u : View) → Writes (Changes v.now) v u → HoldsOnly (Stores v.now) u.now
written_only v u writes name bytes stored = ⊎_elim
    (λ same. stores_before v.now u.now name bytes same stored)
    (λ changed. absurd (not_changed name (IsSum-named name bytes stored.named) v.now (shows u.now (path_of name)) changed))
    (writes.now (path_of name))

-- from the first barrier on a disk holds the objects of the beginning alone
pub known_opened : {F : Type 0} (view : F → Option View) (clock : F → ℕ) (was : F → ℕ → View → Type 0) (bound : (fs : F) (t : ℕ) (v : View) → was fs t v → t ≤ clock fs) (fs end : F) (barrier : ℕ) (start : State) (v begun : View) → barrier ≡ clock fs + 1
    → IsOpening start begun → Keeps v.now begun.now → KeepsSince (Left (was end)) barrier v.now → Works (Changes v.now) v (clock fs) (clock end) (was fs) (was end) (view end) → KeepsKnown (was end) (Stores v.now) barrier begun
known_opened view clock was bound fs end barrier start v begun is opening keeps since works = record {
  now = λ name bytes s may holds named.
      let same : s ≡ shows begun.now (path_of name) = (opening.settled (path_of name)).each s may in
      kept_only v.now begun.now keeps name bytes (record { there = sym (ap (object_in name.kind) same) ∙ holds; named = named });
  left = λ t d from left name bytes stored. kept_only v.now d (since t d from left) name bytes stored;
  seen = λ t u from had. ⊎_elim
      (λ past. absurd (omega (arith, bound fs t u past, is, from)))
      (λ writes. written_only v u writes)
      (works.nothing_else t u had);
}

-- and over a run those that commands bring which began
pub known_after : {F T W A : Type 0} (f : FsSpec F) (c : Family T W A) (old new : System F T W A) (fs : F) (barrier : ℕ) (opening : Disk) (v : View) → old.base.fs ≡ fs → old.base.books.opened ≡ barrier → f.view fs ≡ Some v → Preserves f c old new
    → KeepsKnown (f.was fs) (Stores opening) barrier v → Told (f.view new.base.fs) (λ w. AreKnown f c.means opening new w)
known_after f c old new fs barrier opening v same moment told keeps known = keeps.known opening v (ap f.view same ∙ told)
    (subst (λ g. KeepsKnown (f.was g) (KnownBytes opening (WasBrought c.means old)) old.base.books.opened v) (sym same)
    (subst (λ n. KeepsKnown (f.was fs) (KnownBytes opening (WasBrought c.means old)) n v) (sym moment)
    (known_wider (f.was fs) (Stores opening) (KnownBytes opening (WasBrought c.means old)) barrier v (λ name bytes is. inl is) known)))
