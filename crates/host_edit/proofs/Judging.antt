-- What comes of a look, and that no two refusals are told of one edit.
use Rattle.std.proofs.Common.{◌≡◌, true, sym, ◌∙◌, ap, subst}
use Rattle.ost_types.specs.Path.{Name, Path, is_in, under}
use Rattle.ost_types.proofs.Paths.{is_in-under}
use Rattle.fs_trait.specs.View.{Disk, View}
use Rattle.fs_trait.specs.Seen.{Seen, Vacant, Directory, Symlink, Leaf, shows, IsDirectory, NotDirectory}
use Rattle.host_edit.specs.declared.change.Change.{Change}
use Rattle.host_edit.specs.declared.change.Change.TheVariants as change
use Rattle.host_edit.specs.declared.phase.Phase.{Phase}
use Rattle.host_edit.specs.declared.phase.Phase.TheVariants as phase
use Rattle.host_edit.specs.declared.refusal.EditRefusal.{EditRefusal}
use Rattle.host_edit.specs.declared.refusal.EditRefusal.TheVariants as refusal
use Rattle.host_edit.specs.declared.there.There.{There}
use Rattle.host_edit.specs.declared.there.There.TheVariants as there
use Rattle.host_edit.specs.declared.verdict.Verdict.TheVariants as verdict
use Rattle.host_edit.specs.Editing.{Editing, fits, in_phase}
use Rattle.host_edit.specs.Refusals.{Clashes, IsAllowed, IsRefused, IsRemoval}
use Rattle.host_edit.specs.Steps.{Needs, needs_in}
use Rattle.host_edit.specs.There.{HasParent, IsEmptyFolder, IsFullFolder, IsLeaf, IsThere, LacksParent}
use Rattle.host_edit.specs.Verdict.{judge}

-- ---- what can't be so at once

pub not_neither : (s : Seen) → IsDirectory s → NotDirectory s → ⊥
not_neither (Directory m) is none = none
not_neither Vacant is none = is
not_neither (Symlink m t) is none = is
not_neither (Leaf n m b) is none = is

pub not_vacant : (s : Seen) → IsDirectory s → s ≡ Vacant → ⊥
not_vacant s is e = subst IsDirectory e is

pub vacant_not : (s : Seen) → s ≡ Vacant → NotDirectory s
vacant_not s e = subst NotDirectory (sym e) tt

pub leaf_not : (s : Seen) → IsLeaf s → NotDirectory s
leaf_not (Directory m) is = is
leaf_not Vacant is = tt
leaf_not (Symlink m t) is = tt
leaf_not (Leaf n m b) is = tt

pub leaf_not_vacant : (s : Seen) → IsLeaf s → s ≡ Vacant → ⊥
leaf_not_vacant s is e = subst IsLeaf e is

module _ (d : Disk) (at : Path) (inside : (f : Path) × (x : Name) × (at ≡ under f x)) where
  pub one_parent : HasParent d at → LacksParent d at → ⊥
  one_parent has lacks =
      let in_ = subst (λ q. is_in inside.0 q ≡ true) (sym inside.2) (is_in-under inside.0 inside.1) in
      not_neither (shows d inside.0) (has inside.0 in_) (lacks inside.0 in_)

  module _ (path : Path) where
    allowed : (c : Change) → HasParent d at → (IsRemoval c → shows d at ≡ Vacant → ⊥) → (IsRemoval c → IsFullFolder d at → ⊥) → (Clashes c (shows d at) → ⊥) → IsAllowed d at path c
    allowed c has none full clash (refusal.NoParent p) r = one_parent has r.1
    allowed c has none full clash (refusal.NoPath p) r = none r.2 r.3
    allowed c has none full clash (refusal.NotEmpty p) r = full r.2 r.3
    allowed c has none full clash (refusal.KindClash p) r = clash r.2

    -- what the step needs of the path that makes the change
    abbrev pub Suits : Phase → Type 0
    Suits phase.Replace = NotDirectory (shows d at) × HasParent d at
    Suits phase.MakeFolder = (shows d at ≡ Vacant) × HasParent d at
    Suits phase.Unlink = IsLeaf (shows d at) × HasParent d at
    Suits phase.RemoveFolder = IsEmptyFolder d at × HasParent d at
    Suits ph = ⊥

    abbrev Goes : Change → Phase → Type 0
    Goes c ph = fits ph c × Suits ph × IsAllowed d at path c

    to : (c : Change) (ph next : Phase) → Goes c ph → verdict.Goes ph ≡ verdict.Goes next → Goes c next
    to c ph next goes e = let i : ph ≡ next = cc in subst (Goes c) i goes

    no_clash : (c : Change) → HasParent d at → (IsRemoval c → ⊥) → (Clashes c (shows d at) → ⊥) → IsAllowed d at path c
    no_clash c has none clash = allowed c has (λ r e. none r) (λ r e. none r) clash

    pub judged : (c : Change) → fits phase.Look c → (th : There) → IsThere d at th → (ph : Phase) → judge c th ≡ verdict.Goes ph → Goes c ph
    judged c fit there.NoFolder is ph e = let n : verdict.NoParent ≡ verdict.Goes ph = e in cc
    judged (change.File f) fit there.Vacant is ph e = to (change.File f) phase.Replace ph (fit, (vacant_not _ is.1, is.0), no_clash (change.File f) is.0 (λ r. r) (λ c. not_vacant _ c is.1)) e
    judged (change.File f) fit there.Leaf is ph e = to (change.File f) phase.Replace ph (fit, (leaf_not _ is.1, is.0), no_clash (change.File f) is.0 (λ r. r) (λ c. not_neither _ c (leaf_not _ is.1))) e
    judged (change.File f) fit there.EmptyFolder is ph e = let n : verdict.KindClash ≡ verdict.Goes ph = e in cc
    judged (change.File f) fit there.FullFolder is ph e = let n : verdict.KindClash ≡ verdict.Goes ph = e in cc
    judged (change.Link m t) fit there.Vacant is ph e = to (change.Link m t) phase.Replace ph (tt, (vacant_not _ is.1, is.0), no_clash (change.Link m t) is.0 (λ r. r) (λ c. not_vacant _ c is.1)) e
    judged (change.Link m t) fit there.Leaf is ph e = to (change.Link m t) phase.Replace ph (tt, (leaf_not _ is.1, is.0), no_clash (change.Link m t) is.0 (λ r. r) (λ c. not_neither _ c (leaf_not _ is.1))) e
    judged (change.Link m t) fit there.EmptyFolder is ph e = let n : verdict.KindClash ≡ verdict.Goes ph = e in cc
    judged (change.Link m t) fit there.FullFolder is ph e = let n : verdict.KindClash ≡ verdict.Goes ph = e in cc
    judged (change.Folder m) fit there.Vacant is ph e = to (change.Folder m) phase.MakeFolder ph (tt, (is.1, is.0), no_clash (change.Folder m) is.0 (λ r. r) (λ c. c is.1)) e
    judged (change.Folder m) fit there.Leaf is ph e = let n : verdict.KindClash ≡ verdict.Goes ph = e in cc
    judged (change.Folder m) fit there.EmptyFolder is ph e = let n : verdict.KindClash ≡ verdict.Goes ph = e in cc
    judged (change.Folder m) fit there.FullFolder is ph e = let n : verdict.KindClash ≡ verdict.Goes ph = e in cc
    judged change.Nothing fit there.Vacant is ph e = let n : verdict.NoPath ≡ verdict.Goes ph = e in cc
    judged change.Nothing fit there.Leaf is ph e =
        to change.Nothing phase.Unlink ph (tt, (is.1, is.0), allowed change.Nothing is.0 (λ r n. leaf_not_vacant _ is.1 n) (λ r f. not_neither _ f.0 (leaf_not _ is.1)) (λ c. c)) e
    judged change.Nothing fit there.EmptyFolder is ph e =
        to change.Nothing phase.RemoveFolder ph (tt, (is.1, is.0), allowed change.Nothing is.0 (λ r n. not_vacant _ is.1.0 n) (λ r f. f.1.1 (is.1.1 f.1.0)) (λ c. c)) e
    judged change.Nothing fit there.FullFolder is ph e = let n : verdict.NotEmpty ≡ verdict.Goes ph = e in cc

    removal_clash : (c : Change) → IsRemoval c → Clashes c (shows d at) → ⊥
    removal_clash (change.File f) is clash = is
    removal_clash (change.Link m t) is clash = is
    removal_clash (change.Folder m) is clash = is
    removal_clash change.Nothing is clash = clash

    pub told_once : (c : Change) (one other : EditRefusal) → IsRefused d at path c one → IsRefused d at path c other → one ≡ other
    told_once c (refusal.NoParent p) (refusal.NoParent q) a b = ap refusal.NoParent (a.0 ∙ sym b.0)
    told_once c (refusal.NoParent p) (refusal.NoPath q) a b = absurd (one_parent b.1 a.1)
    told_once c (refusal.NoParent p) (refusal.NotEmpty q) a b = absurd (one_parent b.1 a.1)
    told_once c (refusal.NoParent p) (refusal.KindClash q) a b = absurd (one_parent b.1 a.1)
    told_once c (refusal.NoPath p) (refusal.NoParent q) a b = absurd (one_parent a.1 b.1)
    told_once c (refusal.NoPath p) (refusal.NoPath q) a b = ap refusal.NoPath (a.0 ∙ sym b.0)
    told_once c (refusal.NoPath p) (refusal.NotEmpty q) a b = absurd (not_vacant _ b.3.0 a.3)
    told_once c (refusal.NoPath p) (refusal.KindClash q) a b = absurd (removal_clash c a.2 b.2)
    told_once c (refusal.NotEmpty p) (refusal.NoParent q) a b = absurd (one_parent a.1 b.1)
    told_once c (refusal.NotEmpty p) (refusal.NoPath q) a b = absurd (not_vacant _ a.3.0 b.3)
    told_once c (refusal.NotEmpty p) (refusal.NotEmpty q) a b = ap refusal.NotEmpty (a.0 ∙ sym b.0)
    told_once c (refusal.NotEmpty p) (refusal.KindClash q) a b = absurd (removal_clash c a.2 b.2)
    told_once c (refusal.KindClash p) (refusal.NoParent q) a b = absurd (one_parent a.1 b.1)
    told_once c (refusal.KindClash p) (refusal.NoPath q) a b = absurd (removal_clash c b.2 a.2)
    told_once c (refusal.KindClash p) (refusal.NotEmpty q) a b = absurd (removal_clash c b.2 a.2)
    told_once c (refusal.KindClash p) (refusal.KindClash q) a b = ap refusal.KindClash (a.0 ∙ sym b.0)

-- ---- the look that goes on

module _ (t : Editing) (v : View) (needs : Needs t v) (is : t.phase ≡ phase.Look) where
  suits : (ph : Phase) → Suits v.now t.at needs.made.apart.inside t.path ph → needs_in ph (in_phase ph t) v
  suits phase.Replace s = (subst (λ f. needs_in f t v) is needs.meets, s.0, s.1)
  suits phase.MakeFolder s = s
  suits phase.Unlink s = s
  suits phase.RemoveFolder s = s
  suits phase.Stage s = absurd s
  suits phase.Clear s = absurd s
  suits phase.Link s = absurd s
  suits phase.Look s = absurd s
  suits phase.Sync s = absurd s
  suits phase.Ended s = absurd s

  pub looks_on : (th : There) → IsThere v.now t.at th → (ph : Phase) → judge t.change th ≡ verdict.Goes ph → Needs (in_phase ph t) v × IsAllowed v.now t.at t.path t.change
  looks_on th found ph e =
      let j = judged v.now t.at needs.made.apart.inside t.path t.change (subst (λ f. fits f t.change) is needs.made.fits) th found ph e in
      (record { made = record { apart = needs.made.apart; change = needs.made.change; fits = j.0 }; meets = suits ph j.1 }, j.2)
