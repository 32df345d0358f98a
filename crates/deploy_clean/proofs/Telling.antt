-- From what the calls of a step answered to what it says of a told view.
use Rattle.std.proofs.Common.{◌≡◌, inl, inr, ⊎_elim, List, [], ◌∷◌, drop, Option, Some, Result, Ok, Err, refl, sym, ◌∙◌, ap, subst}
use Rattle.std.specs.Prelude.{IsErrOf}
use Rattle.ost_types.specs.Path.{Name, Path}
use Rattle.ost_types.proofs.Paths.{under-not_root}
use Rattle.fs_trait.specs.declared.types.FsErr.{FsErr}
use Rattle.fs_trait.specs.declared.types.FsErr.TheVariants.{Failed, Exists, Missing, NotFolder, NotEmpty, NoMemory}
use Rattle.fs_trait.specs.declared.task.StepResult.{StepResult}
use Rattle.fs_trait.specs.declared.task.StepResult.TheVariants.{More, Done}
use Rattle.fs_trait.specs.View.{View}
use Rattle.fs_trait.specs.Image.{IsTree, Told}
use Rattle.fs_trait.specs.Effect.{IsListing, OfNone}
use Rattle.fs_trait.specs.Seen.{Vacant, shows}
use Rattle.fs_trait.specs.Change.{Writes}
use Rattle.fs_trait.proofs.Kept.{same_view}
use Rattle.repo_layout.specs.OsName.{IsOsName}
use Rattle.repo_layout.specs.Paths.{folder_path}
use Rattle.repo_layout.specs.declared.folder.Folder.TheVariants.{Deploy}
use Rattle.boot_model.specs.declared.item.DepId.{DepId}
use Rattle.checkout.specs.declared.remove.phase.Phase as removal_phase
use Rattle.checkout.specs.declared.remove.phase.Phase.TheVariants as removal_phases
use Rattle.checkout.specs.Remove as removal
use Rattle.checkout.specs.Remove.{Removing}
use Rattle.checkout.specs.RemoveSteps as removals
use Rattle.checkout.proofs.RemoveRuns.{needs_begun, same_at}
use Rattle.deploy_clean.specs.declared.phase.Phase.{Phase}
use Rattle.deploy_clean.specs.declared.phase.Phase.TheVariants.{Begin, Open, See, Remove, Ended}
use Rattle.deploy_clean.specs.Opened.{Opened, passed}
use Rattle.deploy_clean.specs.NextName.{IsFirst, IsUnlistedPath}
use Rattle.deploy_clean.specs.Cleaning.{Cleaning, IsStepped, IsWithin, in_phase, opens_in, sees_in, steps_in}
use Rattle.deploy_clean.specs.Steps.{IsAhead, IsToldStep, Needs, Tells, WritesOf, leaves_in, refuses_in, removal_in, writes_in}
use Rattle.deploy_clean.specs.Unlisted.{IsClean, IsUnlistedName, deployments}
use Rattle.deploy_clean.proofs.Knowing.{InHand, Known, closed_known, gone_known, known_in, known_still, last_known, opened_known, other_known, stateroots_known, stays_known}

-- ---- a step that changes nothing

still_left : (ph : Phase) (v : View) → leaves_in ph v v
still_left Begin v = refl
still_left Open v = refl
still_left (See o) v = refl
still_left (Remove o c) v = inl refl
still_left Ended v = refl

removal_refused : (c : Removing) (v : View) (e : FsErr) → OfNone e → removals.Refuses c v e
removal_refused c v Failed of = tt
removal_refused c v NoMemory of = tt
removal_refused c v Exists of = absurd of
removal_refused c v Missing of = absurd of
removal_refused c v NotFolder of = absurd of
removal_refused c v NotEmpty of = absurd of

none_refused : (ph : Phase) (v : View) (e : FsErr) → OfNone e → refuses_in ph v e
none_refused Begin v e of = of
none_refused Open v e of = of
none_refused (See o) v e of = of
none_refused (Remove o c) v e of = removal_refused c v e of
none_refused Ended v e of = of

not_err : (turn : StepResult (Unit {0})) → IsErrOf {T = StepResult (Unit {0})} (Ok turn) NoMemory → ⊥
not_err turn is = let n : Ok turn ≡ Err NoMemory = is in cc

pub told_still : (old new : Cleaning) (v : View) (turn : StepResult (Unit {0})) (view : Option View) → view ≡ Some v → Needs new v → Tells old.listed v turn → IsToldStep old new v (Ok turn) view
told_still old new v turn view is after tells = record {
  writes = (v, is, same_view (WritesOf old v) v);
  leaves = (v, is, still_left old.phase v);
  after = (v, is, after);
  tells = (v, is, tells);
  fails = tt;
  unchanged = λ e. absurd (not_err turn e);
}

pub told_quiet : (old new : Cleaning) (v : View) (e : FsErr) (view : Option View) → view ≡ Some v → OfNone e → IsToldStep old new v (Err e) view
told_quiet old new v e view is of = record {
  writes = (v, is, same_view (WritesOf old v) v);
  leaves = (v, is, still_left old.phase v);
  after = tt;
  tells = tt;
  fails = none_refused old.phase v e of;
  unchanged = λ m. is;
}

-- the same, as its caller saw the task
pub told_as : (t u new got : Cleaning) → t ≡ u → new ≡ got → (v : View) (r : Result (StepResult (Unit {0})) FsErr) (view : Option View) → IsToldStep t new v r view → IsToldStep u got v r view
told_as t u new got same next v r view told = subst (λ a. IsToldStep u a v r view) next (subst (λ a. IsToldStep a new v r view) same told)

-- ---- stateroots

pub begins : (listed : List DepId) (v : View) (names : List Name) → IsTree v.now → IsListing v.now (folder_path Deploy) names → Needs (record { listed = listed; stateroots = names; phase = Open }) v
begins listed v names tree listing = record { made = tt; known = stateroots_known listed v.now names tree listing; removing = tt }

module _ (t : Cleaning) (v : View) (is : t.phase ≡ Open) (needs : Needs t v) where
  pub opens_none : t.stateroots ≡ [] → IsClean v.now t.listed
  opens_none none = last_known t.listed v.now (subst (λ l. Known t.listed v.now (IsAhead l)) none (known_in t v Open is needs))

  pub ends : IsClean v.now t.listed → Needs (in_phase Ended t) v
  ends clean = record { made = tt; known = λ p u. inl (clean p u); removing = tt }

  module _ (name : Name) (first : IsFirst t.stateroots name) (rest : List Name) (rest_is : rest ≡ drop 1 t.stateroots) where
    ahead : Known t.listed v.now (IsAhead (name ∷ rest))
    ahead = subst (λ l. Known t.listed v.now (IsAhead l)) (first ∙ ap (λ l. name ∷ l) (sym rest_is)) (known_in t v Open is needs)

    pub opens_other : ¬ (IsOsName name) → (ph : Phase) → ph ≡ Open → Needs (record t { stateroots = rest; phase = ph }) v
    opens_other other ph same = subst (λ x. Needs (record t { stateroots = rest; phase = x }) v) (sym same) (record { made = tt; known = other_known t.listed v.now name rest ahead other; removing = tt })

    pub opens_stateroot : (o : Opened) → o.os ≡ name → IsListing v.now (deployments name) o.names → Needs (record t { stateroots = rest; phase = See o }) v
    opens_stateroot o os listing = record {
      made = tt;
      known = subst (λ n. Known t.listed v.now (InHand (record { os = n; names = o.names }) rest)) (sym os) (opened_known t.listed v.now name rest ahead o.names listing);
      removing = tt;
    }

pub opened_stepped : (t : Cleaning) (name : Name) (o : Opened) (rest : List Name) → t.phase ≡ Open → IsFirst t.stateroots name → IsOsName name → o.os ≡ name → rest ≡ drop 1 t.stateroots
    → IsStepped t (Ok More) (record t { stateroots = rest; phase = See o })
opened_stepped t name o rest is first stateroot os rest_is =
    let new : Cleaning = record t { stateroots = rest; phase = See o } in
    subst (λ ph. steps_in ph t More new) (sym is)
    (subst (λ l. opens_in l t More new) (sym first)
    (refl, inr (stateroot, (o.names, ap (λ l. record t { stateroots = l; phase = See o }) rest_is ∙ ap (λ n. record t { stateroots = drop 1 t.stateroots; phase = See (record { os = n; names = o.names }) }) os))))

pub passed_stepped : (t : Cleaning) (o s : Opened) (name : Name) → t.phase ≡ See o → IsFirst o.names name → ¬ (IsUnlistedName t.listed o.os name) → s ≡ passed o → IsStepped t (Ok More) (in_phase (See s) t)
passed_stepped t o s name is first other same =
    let new : Cleaning = in_phase (See s) t in
    subst (λ ph. steps_in ph t More new) (sym is)
    (refl, subst (λ l. sees_in l o t new) (sym first) (inl (other, ap (λ x. in_phase (See x) t) same)))

pub stepped_as : (t u new : Cleaning) → t ≡ u → IsStepped t (Ok More) new → IsStepped u (Ok More) new
stepped_as t u new same stepped = subst (λ a. IsStepped a (Ok More) new) same stepped

-- ---- the names of the one in hand

module _ (t : Cleaning) (o : Opened) (is : t.phase ≡ See o) (v : View) (needs : Needs t v) where
  pub sees_none : o.names ≡ [] → Needs (in_phase Open t) v
  sees_none none = record { made = tt; known = closed_known t.listed v.now o t.stateroots none (known_in t v (See o) is needs); removing = tt }

  pub sees_other : (s : Opened) → s ≡ passed o → (name : Name) → IsFirst o.names name → ¬ (IsUnlistedName t.listed o.os name) → Needs (in_phase (See s) t) v
  sees_other s same name first other = subst (λ x. Needs (in_phase (See x) t) v) (sym same) (record {
    made = tt;
    known = stays_known t.listed v.now o t.stateroots name (drop 1 o.names) first (known_in t v (See o) is needs) other;
    removing = tt;
  })

  pub sees_unlisted : (p : Path) → IsUnlistedPath t.listed o p → Needs (in_phase (Remove o (removal.begun p)) t) v
  sees_unlisted p next = record {
    made = next;
    known = known_in t v (See o) is needs;
    removing = needs_begun p v (λ root. under-not_root (deployments o.os) next.name (sym next.at ∙ root));
  }

-- ---- a removal

ended : (ph : removal_phase.Phase) → Done tt ≡ removal.turn_in ph → ph ≡ removal_phases.Ended
ended removal_phases.Look is = let n : Done tt ≡ More = is in cc
ended (removal_phases.Inside f) is = let n : Done tt ≡ More = is in cc
ended removal_phases.Ended is = refl

pub stepped_more : (c d : Removing) (r : Result (StepResult (Unit {0})) FsErr) → r ≡ Ok More → removal.IsStepped c r d → removal.Follows (removal.act c) c d × (More ≡ removal.turn_in d.phase)
stepped_more c d r is s = subst (λ x. removal.IsStepped c x d) is s

pub stepped_done : (c d : Removing) (r : Result (StepResult (Unit {0})) FsErr) → r ≡ Ok (Done tt) → removal.IsStepped c r d → removal.Follows (removal.act c) c d × (Done tt ≡ removal.turn_in d.phase)
stepped_done c d r is s = subst (λ x. removal.IsStepped c x d) is s

pub made_goes : (t : Cleaning) (o : Opened) (c d : Removing) → t.phase ≡ Remove o c → IsWithin t.phase t.listed → removal.Follows (removal.act c) c d → IsUnlistedPath t.listed o d.at
made_goes t o c d is made follows = subst (IsUnlistedPath t.listed o) (sym (same_at c d follows)) (subst (λ ph. IsWithin ph t.listed) is made)

told_both : (P Q R : View → Type 0) (view : Option View) → ((w : View) → P w → Q w → R w) → Told view P → Told view Q → Told view R
told_both P Q R view both a b = let same : b.0 ≡ a.0 = cc (a.1, b.1) in (a.0, a.1, both a.0 a.2 (subst Q same b.2))

module _ (t : Cleaning) (o : Opened) (c : Removing) (is : t.phase ≡ Remove o c) (v : View) where
  pub removal_needs : Needs t v → removals.Needs c v
  removal_needs needs = subst (λ ph. removal_in ph v) is needs.removing

  written : (view : Option View) → Told view (λ w. Writes (removals.WritesOf c v) v w) → Told view (λ w. Writes (WritesOf t v) v w)
  written view told = subst (λ ph. Told view (λ w. Writes (writes_in ph v) v w)) (sym is) told

  left : (view : Option View) → Told view (removals.Leaves c v) → Told view (leaves_in t.phase v)
  left view told = subst (λ ph. Told view (leaves_in ph v)) (sym is) told

  pub removal_fails : (new : Cleaning) (e : FsErr) (view : Option View) → Told view (λ w. Writes (removals.WritesOf c v) v w) → Told view (removals.Leaves c v) → removals.Refuses c v e
      → (IsErrOf {T = StepResult (Unit {0})} (Err e) NoMemory → view ≡ Some v) → IsToldStep t new v (Err e) view
  removal_fails new e view writes leaves refuses unchanged = record {
    writes = written view writes;
    leaves = left view leaves;
    after = tt;
    tells = tt;
    fails = subst (λ ph. refuses_in ph v e) (sym is) refuses;
    unchanged = unchanged;
  }

  removal_told : (new : Cleaning) (view : Option View) → Told view (λ w. Writes (removals.WritesOf c v) v w) → Told view (removals.Leaves c v) → Told view (λ w. Needs new w) → IsToldStep t new v (Ok More) view
  removal_told new view writes leaves after = record {
    writes = written view writes;
    leaves = left view leaves;
    after = after;
    tells = (writes.0, writes.1, tt);
    fails = tt;
    unchanged = λ e. absurd (not_err More e);
  }

  module _ (needs : Needs t v) (d : Removing) (follows : removal.Follows (removal.act c) c d) where
    made : IsUnlistedPath t.listed o d.at
    made = made_goes t o c d is needs.made follows

    still : (w : View) → Writes (removals.WritesOf c v) v w → Known t.listed w.now (InHand o t.stateroots)
    still w writes = known_still t.listed v.now w.now (InHand o t.stateroots) (λ p u. ⊎_elim (λ same. inl same) (λ wrote. inr wrote.1) (writes.now p)) (known_in t v (Remove o c) is needs)

    after_more : (w : View) → Writes (removals.WritesOf c v) v w → removals.Needs d w → Needs (in_phase (Remove o d) t) w
    after_more w writes goes_on = record { made = made; known = still w writes; removing = goes_on }

    after_done : Done tt ≡ removal.turn_in d.phase → (w : View) → Writes (removals.WritesOf c v) v w → removals.Needs d w → Needs (in_phase (See (passed o)) t) w
    after_done last w writes over =
        let gone : shows w.now d.at ≡ Vacant = subst (λ ph. removals.known_in ph d w.now) (ended d.phase last) over.known in
        record {
          made = tt;
          known = gone_known t.listed w.now o t.stateroots made.name (drop 1 o.names) made.first (still w writes) (ap (shows w.now) (sym made.at) ∙ gone);
          removing = tt;
        }

    pub removal_more : (view : Option View) → Told view (λ w. Writes (removals.WritesOf c v) v w) → Told view (removals.Leaves c v) → Told view (λ w. removals.Needs d w) → IsToldStep t (in_phase (Remove o d) t) v (Ok More) view
    removal_more view writes leaves after =
        removal_told (in_phase (Remove o d) t) view writes leaves
        (told_both (λ w. Writes (removals.WritesOf c v) v w) (λ w. removals.Needs d w) (λ w. Needs (in_phase (Remove o d) t) w) view after_more writes after)

    pub removal_done : Done tt ≡ removal.turn_in d.phase → (view : Option View) → Told view (λ w. Writes (removals.WritesOf c v) v w) → Told view (removals.Leaves c v) → Told view (λ w. removals.Needs d w)
        → IsToldStep t (in_phase (See (passed o)) t) v (Ok More) view
    removal_done last view writes leaves after =
        removal_told (in_phase (See (passed o)) t) view writes leaves
        (told_both (λ w. Writes (removals.WritesOf c v) v w) (λ w. removals.Needs d w) (λ w. Needs (in_phase (See (passed o)) t) w) view (after_done last) writes after)
