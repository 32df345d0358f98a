-- How an edit begins, and that a crash leaves what was there or what it says.
use Rattle.std.proofs.Common.{◌≡◌, inl, inr, ⊎_elim, true, refl, sym, ◌∙◌, ap, subst, arith, Result, Ok, Err, ◌++◌}
use Rattle.ost_types.specs.Path.{Name, Path, is_below, is_in, under}
use Rattle.ost_types.proofs.Paths.{is_below-under, is_in-under, under-is_in}
use Rattle.fs_trait.specs.declared.types.FsErr.{FsErr}
use Rattle.fs_trait.specs.declared.task.StepResult.{StepResult}
use Rattle.fs_trait.specs.declared.task.StepResult.TheVariants.{More, Done}
use Rattle.fs_trait.specs.View.{Disk, View}
use Rattle.fs_trait.specs.Image.{Image}
use Rattle.fs_trait.specs.Seen.{Seen, Leaf, shows, MayBe, NotDirectory}
use Rattle.fs_trait.specs.Change.{LeadsTo, Writes}
use Rattle.fs_trait.proofs.Claims.{Image-folder, Image-under, folder_shows}
use Rattle.fs_trait.proofs.Facts.{under-not_below}
use Rattle.fs_trait.proofs.Kept.{firm_kept, then_writes, weaker}
use Rattle.staging.specs.declared.phase.Phase as staging
use Rattle.staging.specs.declared.phase.Phase.TheVariants as stage
use Rattle.staging.specs.Draft as draft
use Rattle.staging.specs.Draft.{Draft}
use Rattle.staging.proofs.Begins.{needs_new}
use Rattle.host_edit.specs.declared.change.Change.{Change}
use Rattle.host_edit.specs.declared.change.Change.TheVariants as change
use Rattle.host_edit.specs.declared.edit.Edit.{Edit}
use Rattle.host_edit.specs.declared.edit.Edit.TheVariants as edit
use Rattle.host_edit.specs.declared.edit.NewLeaf.{NewLeaf}
use Rattle.host_edit.specs.declared.edit.NewLeaf.TheVariants as leaf
use Rattle.host_edit.specs.declared.phase.Phase.{Phase}
use Rattle.host_edit.specs.declared.phase.Phase.TheVariants as phase
use Rattle.host_edit.specs.declared.refusal.EditRefusal.{EditRefusal}
use Rattle.host_edit.specs.Edit.{IsFit, IsFitLeaf, MayEdit, path_of}
use Rattle.host_edit.specs.Editing.{Editing, IsApart, IsMade, IsMadeChange, IsStepped, begun, change_of, first_phase, fits, leaf_change, staged, steps_in}
use Rattle.host_edit.specs.Steps.{Needs, ShowsNew, WritesOf, needs_in}
use Rattle.host_edit.specs.There.{HasParent}
use Rattle.host_edit.specs.Whole.{IsOldOrNew, IsReady, IsSame, LeadsThere, Written}
use Rattle.host_edit.proofs.Keeping.{edit_lies}
use Rattle.host_edit.proofs.Looking.{directory}
use Rattle.host_edit.proofs.Places.{apart_begun, not_both, stage_not_at}

-- ---- how it begins

leaf_made : (s : Path) (l : NewLeaf) → IsFitLeaf l → IsMadeChange s (leaf_change s l) × fits (first_phase (leaf_change s l)) (leaf_change s l)
leaf_made s (leaf.File m bytes) fit = (refl, λ e. let n : stage.Clear ≡ stage.Ended = e in cc)
leaf_made s (leaf.Link uid gid xattrs target) fit = (((511, omega arith, refl), fit), tt)

change_made : (s : Path) (e : Edit) → IsFit e → IsMadeChange s (change_of s e) × fits (first_phase (change_of s e)) (change_of s e)
change_made s (edit.Put p l) fit = leaf_made s l fit
change_made s (edit.MakeFolder p m) fit = (fit, tt)
change_made s (edit.Remove p) fit = (tt, tt)

pub made_begun : (s etc : Path) (e : Edit) → MayEdit s etc e → IsMade (begun s etc e)
made_begun s etc e may = let m = change_made s e may.fit in record { apart = apart_begun s etc e may; change = m.0; fits = m.1 }

pub made_as : (s etc : Path) (e : Edit) → MayEdit s etc e → (at path : Path) (c : Change) (ph : Phase) → at ≡ etc ++ path → path ≡ path_of e → c ≡ change_of s e → ph ≡ first_phase c
    → IsMade (record { stage = s; at = at; path = path; change = c; phase = ph })
made_as s etc e may at path c ph joined is change_is first =
    let m = made_begun s etc e may in
    record {
      apart = subst (IsApart s) (sym (joined ∙ ap (λ p. etc ++ p) is)) m.apart;
      change = subst (IsMadeChange s) (sym change_is) m.change;
      fits = subst (λ f. fits f c) (sym first) (subst (λ x. fits (first_phase x) x) (sym change_is) m.fits);
    }

module _ (s etc : Path) (v : View) where
  leaf_needs : (p : Path) (l : NewLeaf) → MayEdit s etc (edit.Put p l) → NotDirectory (shows v.now s) → HasParent v.now s → needs_in (first_phase (leaf_change s l)) (begun s etc (edit.Put p l)) v
  leaf_needs p (leaf.File m bytes) may free home = needs_new _ v refl may.placed.staging free home
  leaf_needs p (leaf.Link uid gid xattrs target) may free home = (free, home)

  begins : (e : Edit) → MayEdit s etc e → IsReady e s v.now → needs_in (first_phase (change_of s e)) (begun s etc e) v
  begins (edit.Put p l) may ready = leaf_needs p l may ready.0 ready.1
  begins (edit.MakeFolder p m) may ready = tt
  begins (edit.Remove p) may ready = tt

pub needs_begun : (s etc : Path) (e : Edit) (v : View) → MayEdit s etc e → IsReady e s v.now → Needs (begun s etc e) v
needs_begun s etc e v may ready = record { made = made_begun s etc e may; meets = begins s etc v e may ready }

-- ---- what all steps together write

pub written_once : (t : Editing) (v w : View) → Needs t v → Writes (WritesOf t v) v w → Writes (Written t) v w
written_once t v w needs writes = weaker _ (Written t) v w (λ p s a. ⊎_elim (λ b. inl b) (λ b. inr (b.0, b.1)) (edit_lies t v needs p s a).place) writes

pub written_on : (old new : Editing) (u v w : View) → IsSame old new → Writes (Written old) u v → Writes (Written new) v w → Writes (Written old) u w
written_on old new u v w same before after = weaker _ (Written old) u w
    (λ p s a. ⊎_elim (λ b. b) (λ b. ⊎_elim (λ c. inl (c.0 ∙ same.stage, c.1)) (λ c. inr (c.0 ∙ same.at, same.shows s c.1)) b) a)
    (then_writes (Written old) (Written new) u v w before after)

same_itself : (t : Editing) → IsSame t t
same_itself t = record { stage = refl; at = refl; path = refl; shows = λ s a. a }

in_other_phase : (t new : Editing) (ph : Phase) → new ≡ record t { phase = ph } → IsSame t new
in_other_phase t new ph e = subst (IsSame t) (sym e) (record { stage = refl; at = refl; path = refl; shows = λ s a. a })

draft_same : (ph : staging.Phase) (d : Draft) → ((draft.next_in ph d).meta ≡ d.meta) × ((draft.next_in ph d).bytes ≡ d.bytes)
draft_same stage.Clear d = (refl, refl)
draft_same stage.Create d = (refl, refl)
draft_same stage.Append d = (refl, refl)
draft_same stage.SyncFile d = (refl, refl)
draft_same stage.Ended d = (refl, refl)

staged_shows : (c : Change) (s : Seen) → ShowsNew (staged c) s → ShowsNew c s
staged_shows (change.File d) s a =
    let same = draft_same d.phase d in
    (a.0, a.1 ∙ ap (λ m. Leaf a.0 m (draft.next d).bytes) same.0 ∙ ap (Leaf a.0 d.meta) same.1)
staged_shows (change.Link m l) s a = a
staged_shows (change.Folder m) s a = a
staged_shows change.Nothing s a = a

staged_same : (t new : Editing) (ph : Phase) → new ≡ record t { change = staged t.change; phase = ph } → IsSame t new
staged_same t new ph e = subst (IsSame t) (sym e) (record { stage = refl; at = refl; path = refl; shows = staged_shows t.change })

looks_same : (t new : Editing) (turn : StepResult (Result (Unit {0}) EditRefusal)) → steps_in phase.Look t turn new → IsSame t new
looks_same t new More s = in_other_phase t new new.phase s.1
looks_same t new (Done (Ok x)) s = absurd s
looks_same t new (Done (Err refusal)) s = subst (IsSame t) (sym s) (same_itself t)

steps_same : (ph : Phase) (t new : Editing) (turn : StepResult (Result (Unit {0}) EditRefusal)) → steps_in ph t turn new → IsSame t new
steps_same phase.Stage t new turn s = staged_same t new _ s.1
steps_same phase.Clear t new turn s = in_other_phase t new phase.Link s.1
steps_same phase.Link t new turn s = in_other_phase t new phase.Look s.1
steps_same phase.Look t new turn s = looks_same t new turn s
steps_same phase.Replace t new turn s = in_other_phase t new phase.Sync s.1
steps_same phase.MakeFolder t new turn s = in_other_phase t new phase.Sync s.1
steps_same phase.Unlink t new turn s = in_other_phase t new phase.Sync s.1
steps_same phase.RemoveFolder t new turn s = in_other_phase t new phase.Sync s.1
steps_same phase.Sync t new turn s = in_other_phase t new phase.Ended s.1
steps_same phase.Ended t new turn s = subst (IsSame t) (sym s.1) (same_itself t)

pub same_stepped : (old new : Editing) (r : Result (StepResult (Result (Unit {0}) EditRefusal)) FsErr) → IsStepped old r new → IsSame old new
same_stepped old new (Ok turn) s = steps_same old.phase old new turn s
same_stepped old new (Err e) s = subst (IsSame old) (sym s) (same_itself old)

-- ---- what a crash leaves at the path

pub old_or_new : (t : Editing) (v w : View) (s : Seen) → IsApart t.stage t.at → Writes (Written t) v w → MayBe w t.at s → IsOldOrNew t v s
old_or_new t v w s apart writes may = ⊎_elim (λ old. inl old) (λ a. ⊎_elim (λ b. absurd (stage_not_at t.stage t.at apart (sym b.0))) (λ b. inr b.1) a) (writes.only t.at s may)

-- under the folder that it is in, an image shows what the path may be
image_may : (w : View) (d : Disk) (at : Path) → ((f : Path) × (x : Name) × (at ≡ under f x)) → Image w d → HasParent d at → MayBe w at (shows d at)
image_may w d at inside image parent =
    subst (λ q. MayBe w q (shows d q)) (sym inside.2)
    (Image-under w d image inside.0 inside.1 (folder_shows d inside.0 (parent inside.0 (subst (λ q. is_in inside.0 q ≡ true) (sym inside.2) (is_in-under inside.0 inside.1)))))

pub crash_shows : (t : Editing) (v w : View) (d : Disk) → IsApart t.stage t.at → Writes (Written t) v w → Image w d → HasParent d t.at → IsOldOrNew t v (shows d t.at)
crash_shows t v w d apart writes image parent = old_or_new t v w (shows d t.at) apart writes (image_may w d t.at apart.inside image parent)

-- the edit writes nothing on the way to its path
pub leads_still : (t : Editing) (v w : View) → IsApart t.stage t.at → Writes (Written t) v w → LeadsThere t v → LeadsThere t w
leads_still t v w apart writes leads f in_ = firm_kept (Written t) (LeadsTo f) v w writes (λ p s a below. absurd (⊎_elim (λ b. at_stage p b.0 below) (λ b. at_path p b.0 below) a)) (leads f in_)
  where
    at_stage : (p : Path) → p ≡ t.stage → is_below p f ≡ true → ⊥
    at_stage p e below =
        let name = under-is_in f t.at in_ in
        not_both (subst (λ q. is_below q t.at ≡ true) e (subst (λ q. is_below p q ≡ true) (sym name.1) (is_below-under p f name.0 below))) apart.aside

    at_path : (p : Path) → p ≡ t.at → is_below p f ≡ true → ⊥
    at_path p e below =
        let name = under-is_in f t.at in_ in
        not_both (subst (λ q. is_below q f ≡ true) (e ∙ name.1) below) (under-not_below f name.0)

-- folders lead there in each crash: so it leaves the one that the path is in
parent_left : (t : Editing) (w : View) (d : Disk) → Image w d → LeadsThere t w → HasParent d t.at
parent_left t w d image leads f in_ = directory d (d.at f) (Image-folder w d image f (leads f in_))

pub crash_surely_shows : (t : Editing) (v w : View) (d : Disk) → IsApart t.stage t.at → LeadsThere t v → Writes (Written t) v w → Image w d → IsOldOrNew t v (shows d t.at)
crash_surely_shows t v w d apart leads writes image = crash_shows t v w d apart writes image (parent_left t w d image (leads_still t v w apart writes leads))

module _ (t : Editing) (v : View) (d : Disk) (is : t.phase ≡ phase.Ended) (needs : Needs t v) (image : Image v d) where
  pub outlasts : HasParent d t.at → ShowsNew t.change (shows d t.at)
  outlasts parent = subst (λ ph. needs_in ph t v) is needs.meets (shows d t.at) (image_may v d t.at needs.made.apart.inside image parent)

  pub outlasts_surely : LeadsThere t v → ShowsNew t.change (shows d t.at)
  outlasts_surely leads = outlasts (parent_left t v d image leads)
