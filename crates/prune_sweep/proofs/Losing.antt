-- The marks that go, as far as the names in their folder were looked at.
use Rattle.std.proofs.Common.{◌≡◌, ◌≢◌, ◌⊎◌, inl, inr, ⊎_elim, true, false, Option, Some, None, Result, Ok, Err, ℕ, ◌<◌, ◌≤◌, ◌+◌, List, [], ◌∷◌, ◌++◌, length, get_or, refl, sym, ◌∙◌, ap, subst, arith}
use Rattle.std.specs.Prelude.{Contains, IfOk, codes}
use Rattle.std.proofs.lemmas.List.{get_or_default}
use Rattle.std.proofs.lemmas.List.Elements.{Contains-append_left, Contains-append_right, Contains-append_cases}
use Rattle.ost_types.specs.Csum.{hex_of}
use Rattle.ost_types.specs.declared.object.ObjName.{ObjName}
use Rattle.ost_types.specs.Path.{Name, Path, under}
use Rattle.fs_trait.specs.declared.types.FsErr.{FsErr}
use Rattle.fs_trait.specs.declared.types.FsErr.TheVariants.{Failed, Exists, Missing, NotFolder, NotEmpty, NoMemory}
use Rattle.fs_trait.specs.declared.types.Value.TheVariants.{Absent}
use Rattle.fs_trait.specs.Effect.{Answered, IsListing, no_folder}
use Rattle.fs_trait.specs.Image.{IsTree, is_folder}
use Rattle.fs_trait.specs.View.{Disk}
use Rattle.fs_trait.proofs.Images.{folder_or_not}
use Rattle.fs_trait.proofs.Refusals.{no_folder-there}
use Rattle.repo_layout.specs.declared.folder.Folder.TheVariants.{State}
use Rattle.repo_layout.specs.Paths.{folder_path, mark_path}
use Rattle.obj_store.specs.Listing.{IsGone}
use Rattle.reach.specs.Reach.{ObjNames}
use Rattle.prune_sweep.specs.Lost.{AreLost, AreLostOf, IsLost}

pub record AreSoFar (names : List Name) (count : ℕ) (stays : ObjNames) (pins : List ObjName) (marks : List Path) : Type 0 where
  pub each : (p : Path) → Contains marks p → (commit : List ℕ) × IsLost stays pins commit × (p ≡ mark_path commit)
  pub all : (commit : List ℕ) → IsLost stays pins commit → (k : ℕ) → k < count → get_or names k (hex_of commit ++ codes ".commitpartial") ≡ hex_of commit ++ codes ".commitpartial" → Contains marks (mark_path commit)

none_in : (p : Path) → Contains [] p → ⊥
none_in p h = omega (arith, h.1)

one_in : (x y : Path) → Contains (y ∷ []) x → x ≡ y
one_in x y (i, inside, is) = sym is ∙ ap (λ k. get_or (y ∷ []) k x) (first i inside)
  where
    first : (i : ℕ) → i < 1 → i ≡ 0
    first i inside = omega (arith, inside)

pub lost_none : (names : List Name) (stays : ObjNames) (pins : List ObjName) (marks : List Path) → marks ≡ [] → AreSoFar names 0 stays pins marks
lost_none names stays pins marks empty = record {
  each = λ p h. absurd (none_in p (subst (λ l. Contains l p) empty h));
  all = λ commit is k less at. absurd (omega (arith, less));
}

module _ (names : List Name) (count : ℕ) (x : Name) (less : count < length names) (at : get_or names count x ≡ x) (stays : ObjNames) (pins : List ObjName) (marks : List Path) (so : AreSoFar names count stays pins marks) where
  split : (k : ℕ) → k < count + 1 → (k < count) ⊎ (k ≡ count)
  split k lt = grind (arith, lt)

  here : (y : Name) (k : ℕ) → k ≡ count → get_or names k y ≡ y → x ≡ y
  here y k e is = sym at ∙ get_or_default names count x y less ∙ ap (λ i. get_or names i y) (sym e) ∙ is

  -- a name of no such mark
  pub lost_same : ((commit : List ℕ) → x ≡ hex_of commit ++ codes ".commitpartial" → ¬ (IsLost stays pins commit)) → AreSoFar names (count + 1) stays pins marks
  lost_same other = record {
    each = so.each;
    all = λ commit is k lt is_at. ⊎_elim (λ l. so.all commit is k l is_at) (λ e. absurd (other commit (here _ k e is_at) is)) (split k lt);
  }

  pub lost_more : (commit : List ℕ) → IsLost stays pins commit → ((other : List ℕ) → x ≡ hex_of other ++ codes ".commitpartial" → IsLost stays pins other → other ≡ commit) → AreSoFar names (count + 1) stays pins (marks ++ mark_path commit ∷ [])
  lost_more commit is one = record {
    each = λ p h. ⊎_elim (λ old. so.each p old) (λ last. (commit, is, one_in p (mark_path commit) last)) (Contains-append_cases marks (mark_path commit ∷ []) p h);
    all = λ other other_is k lt is_at. ⊎_elim
        (λ l. Contains-append_left marks (mark_path commit ∷ []) (mark_path other) (so.all other other_is k l is_at))
        (λ e. subst (λ (c : List ℕ). Contains (marks ++ mark_path commit ∷ []) (mark_path c)) (sym (one other (here _ k e is_at) other_is)) (Contains-append_right marks (mark_path commit ∷ []) (mark_path commit) (0, omega arith, refl)))
        (split k lt);
  }

pub lost_all : (names : List Name) (count : ℕ) (stays : ObjNames) (pins : List ObjName) (marks : List Path) → length names ≤ count → AreSoFar names count stays pins marks → AreLostOf names stays pins marks
lost_all names count stays pins marks whole so = record {
  each = so.each;
  all = λ commit is (k, inside, at). so.all commit is k (omega (arith, inside, whole)) at;
}

-- ---- of all that stand on the disk

mark_under : (commit : List ℕ) → mark_path commit ≡ under (folder_path State) (hex_of commit ++ codes ".commitpartial")
unfolding mark_path
mark_under commit = refl

module _ (d : Disk) (stays : ObjNames) (pins : List ObjName) where
  -- where the folder is listed
  pub lost_listed : (names : List Name) (marks : List Path) → IsListing d (folder_path State) names → AreLostOf names stays pins marks → AreLost d stays pins marks
  lost_listed names marks listing are = record {
    each = are.each;
    all = λ commit is there. are.all commit is (listing.all (hex_of commit ++ codes ".commitpartial") (subst (λ p. d.at p ≢ Absent) (mark_under commit) there));
  }

  module _ (tree : IsTree d) where
    -- where it isn't there
    unlisted : (e : FsErr) → no_folder (folder_path State) d ≡ Some e → (marks : List Path) → marks ≡ [] → AreLost d stays pins marks
    unlisted e refused marks empty = record {
      each = λ p h. absurd (none_in p (subst (λ l. Contains l p) empty h));
      all = λ commit is there. absurd (there (subst (λ p. d.at p ≡ Absent) (sym (mark_under commit)) (tree.folders (folder_path State) (hex_of commit ++ codes ".commitpartial") (not_folder (folder_or_not _)))));
    }
      where
        not_folder : (is_folder (d.at (folder_path State)) ≡ true) ⊎ (is_folder (d.at (folder_path State)) ≡ false) → is_folder (d.at (folder_path State)) ≡ false
        not_folder (inl folder) = let n : None ≡ Some e = sym (no_folder-there d tree (folder_path State) folder) ∙ refused in cc
        not_folder (inr no_) = no_

    refused_so : {X : Type 0} (P : X → Type 0) (e : FsErr) → Answered (no_folder (folder_path State) d) P (Err e) → IsGone e → no_folder (folder_path State) d ≡ Some e
    refused_so P Missing answer gone = answer
    refused_so P NotFolder answer gone = answer
    refused_so P Failed answer gone = absurd gone
    refused_so P NoMemory answer gone = absurd gone
    refused_so P Exists answer gone = absurd gone
    refused_so P NotEmpty answer gone = absurd gone

    pub lost_unlisted : {X T : Type 0} (P : X → Type 0) (e : FsErr) → Answered (no_folder (folder_path State) d) P (Err e)
        → (items : T → List Path) (r : Result T FsErr) → IfOk r (λ t. (items t ≡ []) × IsGone e) → IfOk r (λ t. AreLost d stays pins (items t))
    lost_unlisted P e answer items (Ok t) none = unlisted e (refused_so P e answer none.1) (items t) none.0
    lost_unlisted P e answer items (Err f) none = tt
