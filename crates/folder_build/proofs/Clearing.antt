-- The steps that remove what stood at the folder's path.
use Rattle.std.proofs.Common.{◌≡◌, ◌≢◌, ◌<◌, arith, Bool, true, false, ◌&&◌, refl, sym, ◌∙◌, ap, subst, List, [], ◌∷◌, ◌++◌, length, take, Option, Some, None, Result, Ok}
use Rattle.ost_types.specs.Path.{Path, is_below}
use Rattle.fs_trait.specs.declared.types.FsErr.{FsErr}
use Rattle.fs_trait.specs.declared.task.StepResult.{StepResult}
use Rattle.fs_trait.specs.declared.task.StepResult.TheVariants.{More, Done}
use Rattle.fs_trait.specs.View.{Disk, View}
use Rattle.fs_trait.specs.Image.{IsTree, Told}
use Rattle.fs_trait.specs.Seen.{Vacant, seen, shows}
use Rattle.fs_trait.specs.Change.{Writes}
use Rattle.fs_trait.proofs.Facts.{vacant_absent}
use Rattle.checkout.specs.declared.remove.phase.Phase as removing_phase
use Rattle.checkout.specs.declared.remove.phase.Phase.TheVariants.{Look, Inside, Ended}
use Rattle.checkout.specs.Remove as removal
use Rattle.checkout.specs.Remove.{Removing, turn_in}
use Rattle.checkout.specs.RemoveSteps as steps
use Rattle.checkout.proofs.RemoveBelow.{absent_below}
use Rattle.checkout.proofs.RemoveRuns.{same_at}
use Rattle.ost_types.proofs.Paths.{same_name-Decides}
use Rattle.folder_build.specs.declared.node.NewNode.{NewNode}
use Rattle.folder_build.specs.declared.phase.Phase.{Phase}
use Rattle.folder_build.specs.declared.phase.Phase.TheVariants as phase
use Rattle.folder_build.specs.Node.{IsContent, content_at}
use Rattle.folder_build.specs.Build.{Building, IsClear, IsMade, IsWithin}
use Rattle.folder_build.specs.Steps.{HasHome, Needs, WritesOf, needs_in, writes_in}
use Rattle.folder_build.proofs.Making.{home_kept}

both_true : (a b : Bool) → a && b ≡ true → (a ≡ true) × (b ≡ true)
both_true true true e = (refl, refl)
both_true true false e = let n : false ≡ true = e in cc
both_true false b e = let n : false ≡ true = e in cc

pub below_rest : (p q : Path) → is_below p q ≡ true → (rest : Path) × (q ≡ p ++ rest)
unfolding is_below
below_rest [] q is = (q, refl)
below_rest (a ∷ p) [] is = let n : false ≡ true = is in cc
below_rest (a ∷ p) (x ∷ q) is =
    let s = both_true _ _ is in
    let more = below_rest p q s.1 in
    let head : a ≡ x = (same_name-Decides a x).0 s.0 in
    (more.0, cc (head, more.1))

-- nothing stands below what shows nothing
pub vacant_below : (d : Disk) → IsTree d → (top p : Path) → shows d top ≡ Vacant → is_below top p ≡ true → shows d p ≡ Vacant
vacant_below d tree top p vacant below =
    let r = below_rest top p below in
    ap (shows d) r.1 ∙ ap (seen d) (absent_below d tree top r.0 (vacant_absent d top vacant))

none_taken : (nodes : List NewNode) (p : Path) → content_at (take 0 nodes) p ≡ None
none_taken [] p = refl
none_taken (e ∷ nodes) p = refl

pub ended : (ph : removing_phase.Phase) → Done tt ≡ turn_in ph → ph ≡ Ended
ended Look is = let n : Done tt ≡ More = is in cc
ended (Inside f) is = let n : Done tt ≡ More = is in cc
ended Ended is = refl

pub some_first : (nodes : List NewNode) → nodes ≢ [] → 0 < length nodes
some_first [] some = absurd (some refl)
some_first (e ∷ nodes) some = omega arith

pub is_clear : (ph : Phase) (c : Removing) → ph ≡ phase.Clear c → IsClear ph
is_clear ph c is = subst IsClear (sym is) tt

module _ (c : Removing) (t : Building) (is : t.phase ≡ phase.Clear c) (v : View) (needs : Needs t v) where
  pub clear_needs : steps.Needs c v
  clear_needs = subst (λ ph. needs_in ph t v) is needs.meets

  at : c.at ≡ t.top
  at = subst (λ ph. IsWithin ph t.top t.nodes) is needs.made.within

  home_after : (w : View) → Writes (steps.WritesOf c v) v w → HasHome t.top w.now
  home_after w writes = home_kept t.top (steps.WritesOf c v) v w writes (λ p s a. subst (λ r. is_below r p ≡ true) at a.0.below) needs.home

  pub clear_goes : (d : Removing) → removal.Follows (removal.act c) c d → (w : View) → Writes (steps.WritesOf c v) v w → steps.Needs d w → Needs (record t { phase = phase.Clear d }) w
  clear_goes d follows w writes after = record {
    made = record { plan = needs.made.plan; within = same_at c d follows ∙ at };
    home = home_after w writes;
    meets = after;
  }

  pub clear_ends : (d : Removing) → removal.Follows (removal.act c) c d → Done tt ≡ turn_in d.phase → (w : View) → IsTree w.now → Writes (steps.WritesOf c v) v w → steps.Needs d w → Needs (record t { phase = phase.Make 0 }) w
  clear_ends d follows last w tree writes after =
      let known : shows w.now d.at ≡ Vacant = subst (λ ph. steps.known_in ph d w.now) (ended d.phase last) after.known in
      let vacant : shows w.now t.top ≡ Vacant = ap (shows w.now) (sym (same_at c d follows ∙ at)) ∙ known in
      record {
        made = record { plan = needs.made.plan; within = some_first t.nodes needs.made.plan.some };
        home = home_after w writes;
        meets = λ p below. subst (λ x. IsContent x (shows w.now p)) (sym (none_taken t.nodes p)) (vacant_below w.now tree t.top p vacant below);
      }

pub told_both : (P Q R : View → Type 0) (view : Option View) → ((w : View) → P w → Q w → R w) → Told view P → Told view Q → Told view R
told_both P Q R view both a b = let same : b.0 ≡ a.0 = cc (a.1, b.1) in (a.0, a.1, both a.0 a.2 (subst Q same b.2))

pub written_as : (t u : Building) → t ≡ u → (ph : Phase) → t.phase ≡ ph → (v : View) (view : Option View) → Told view (λ w. Writes (writes_in ph t v) v w) → Told view (λ w. Writes (WritesOf u v) v w)
written_as t u e ph is v view told = (told.0, told.1, subst (λ x. Writes (WritesOf x v) v told.0) e (subst (λ f. Writes (writes_in f t v) v told.0) (sym is) told.2))

pub told_with : (P Q R : View → Type 0) (view : Option View) → ((w : View) → view ≡ Some w → P w → Q w → R w) → Told view P → Told view Q → Told view R
told_with P Q R view both a b = let same : b.0 ≡ a.0 = cc (a.1, b.1) in (a.0, a.1, both a.0 a.1 a.2 (subst Q same b.2))

pub stepped_more : (c d : Removing) (r : Result (StepResult (Unit {0})) FsErr) → r ≡ Ok More → removal.IsStepped c r d → removal.Follows (removal.act c) c d
stepped_more c d r is s = (subst (λ x. removal.IsStepped c x d) is s).0

pub stepped_done : (c d : Removing) (r : Result (StepResult (Unit {0})) FsErr) → r ≡ Ok (Done tt) → removal.IsStepped c r d → removal.Follows (removal.act c) c d × (Done tt ≡ turn_in d.phase)
stepped_done c d r is s = subst (λ x. removal.IsStepped c x d) is s

pub made_goes : (t : Building) (c d : Removing) → t.phase ≡ phase.Clear c → IsMade t → removal.Follows (removal.act c) c d → IsMade (record t { phase = phase.Clear d })
made_goes t c d is made follows = record { plan = made.plan; within = same_at c d follows ∙ subst (λ ph. IsWithin ph t.top t.nodes) is made.within }
