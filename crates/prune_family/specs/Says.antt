-- What a prune's answer shows, by its last step.
use Rattle.std.proofs.Common.{◌≡◌, ◌⊎◌, ◌↔◌, inl, inr, ⊎_elim, ℕ, ◌<◌, Bool, true, false, not, List, length, get_or, take, take_all, Contains, Some, None, refl, sym, ◌∙◌, ap, subst, arith}
use Rattle.std.specs.Bool.{Decides}
use Rattle.std.specs.List.{IsDistinct, filter}
use Rattle.std.specs.Ordering.{eq_by_cmp, is_eq}
use Rattle.std.specs.Set.{is_member}
use Rattle.std.specs.declared.cmp.Ordering.{Ordering}
use Rattle.std.specs.declared.cmp.Ordering.TheVariants.{Less, Equal, Greater}
use Rattle.std.proofs.lemmas.Bool.{false_from_ne_true, not_from_false}
use Rattle.std.proofs.lemmas.Bool.Decides.{Decides-like, same_from_decides}
use Rattle.std.proofs.lemmas.Cmp.{eq_by_cmp_equiv, tied_itself}
use Rattle.std.proofs.lemmas.List.{get_or_default}
use Rattle.std.proofs.lemmas.List.Filters.{length-filter_both}
use Rattle.std.proofs.lemmas.Map.Keys.{IsDistinct-from_sorted}
use Rattle.std.proofs.lemmas.Map.Made.{IsDistinct-from_AllPairs, is_member-Decides, length-from_same_keys}
use Rattle.ost_types.specs.declared.limits.Limits.{Limits}
use Rattle.ost_types.specs.declared.object.Kind.TheVariants.{Commit}
use Rattle.ost_types.specs.declared.object.ObjName.{ObjName}
use Rattle.ost_types.specs.Path.{Path}
use Rattle.fs_trait.specs.declared.task.StepResult.TheVariants as turn
use Rattle.fs_trait.specs.Seen.{shows}
use Rattle.fs_trait.specs.View.{Disk, View, all_synced}
use Rattle.fs_trait.proofs.Claims.{reads_shows}
use Rattle.fs_trait.proofs.Effects.{may_now}
use Rattle.repo_layout.specs.Paths.{ref_path}
use Rattle.repo_layout.specs.Refs.{Names}
use Rattle.repo_model.specs.Objects.{Stores, path_of}
use Rattle.repo_model.specs.Trees.{name_of}
use Rattle.repo_model.proofs.Named.{IsSum-named}
use Rattle.reach.specs.Reach.{ObjNames, IsIn}
use Rattle.reach.specs.Lines.{Reachable}
use Rattle.reach.specs.Removed.{IsPruned}
use Rattle.reach.proofs.Exact.{exact}
use Rattle.obj_store.specs.Listing.{name_cmp}
use Rattle.obj_store.specs.Lookup.{is_there}
use Rattle.obj_store.proofs.NameOrder.{equal_names, name_order}
use Rattle.tree_read.specs.Looks.{IsDamaged}
use Rattle.store_check.specs.Good.{IsGoodStore}
use Rattle.store_check.specs.Listing.{AreAll, IsThere}
use Rattle.store_check.proofs.Damages.{nothing_at}
use Rattle.store_check.proofs.Excluded.{damaged_has}
use Rattle.boot_model.specs.declared.item.DepId.{DepId}
use Rattle.rely_guarantee.specs.Books.{Books, listed_in}
use Rattle.rely_guarantee.specs.Removing.{IsListed}
use Rattle.rely_guarantee.specs.declared.event.Event.{Event}
use Rattle.rely_guarantee.specs.declared.event.Event.TheVariants.{SetRef, DropRef, Pruned, SetDeployments}
use Rattle.rely_guarantee.specs.State.{RefOf, SystemState, list_in}
use Rattle.durable_store.proofs.Images.{there_true, true_there}
use Rattle.durable_store.proofs.Names.{contains_kept, kept_ascends, kept_contains}
use Rattle.prune_sweep.specs.declared.part.Part.{Part}
use Rattle.prune_sweep.specs.declared.part.Part.TheVariants as part
use Rattle.prune_sweep.specs.Planned.{IsPlanned}
use Rattle.prune_sweep.specs.Sweeping as sweeping
use Rattle.prune_sweep.specs.Sweeping.{IsSoFar, Sweeping}
use Rattle.prune_sweep.specs.Swept.{IsSwept}
use Rattle.prune_command.specs.declared.answer.PruneAnswer.{PruneAnswer}
use Rattle.prune_command.specs.declared.answer.PruneAnswer.TheVariants as answer
use Rattle.prune_command.specs.declared.command.PruneCommand.{PruneCommand}
use Rattle.prune_command.specs.declared.known.Known.{Known}
use Rattle.prune_command.specs.declared.phase.Phase.{Phase}
use Rattle.prune_command.specs.declared.phase.Phase.TheVariants as phase
use Rattle.prune_command.specs.Answers.{HasDamaged, IsNamed, Says, ShowsPruned}
use Rattle.prune_command.specs.Commands.{Ends, Tells, prune_answer, prune_kind, prune_leaves}
use Rattle.prune_command.specs.Facts.{AreRootsOf, HasBegun, IsGoing, KnownIn, SweepKnows, prune_facts}
use Rattle.prune_command.specs.Learned.{from_of}
use Rattle.prune_command.specs.SweepSteps.{Did}
use Rattle.command.specs.Sees.{listed_behind, same_behind}
use Rattle.command.specs.Since.{Since}
use Rattle.prune_family.specs.declared.words.PruneWords.{PruneWords}
use Rattle.prune_family.specs.Family.{IsPruneOf, IsPruning, prune_outside}
use Rattle.prune_family.specs.Kinds.{makes_durable_prune}

-- ---- the roots are the commits that refs name, and those of the deployments

roots_are : (roots others : List ObjName) (lane : ℕ) (v : View) (b : Books) → AreRootsOf roots others lane v b
    → (o : ObjName) → Contains roots o ↔ (IsNamed v.now o ⊎ IsListed b o)
roots_are roots others lane v b are o = (
  λ has. ⊎_elim (λ at. inl (at.0, at.1, record { sum = at.2.0; file = reads_shows v.now (ref_path at.0) ∙ at.2.1 }, at.3)) inr (are.right o has),
  ⊎_elim
      (λ named. are.all o (
        RefOf named.0,
        Some named.1,
        shows v.now (ref_path named.0),
        may_now v (ref_path named.0),
        (named.2.sum, sym (reads_shows v.now (ref_path named.0)) ∙ named.2.file),
        named.1,
        (0, omega arith, refl),
        named.3,
      ))
      (are.listed o),
)

-- ---- names by their order

equal_from : (r : Ordering) → is_eq r ≡ true → r ≡ Equal
equal_from Less e = let e : false ≡ true = e in cc
equal_from Equal e = refl
equal_from Greater e = let e : false ≡ true = e in cc

name_decides : (a b : ObjName) → Decides (eq_by_cmp name_cmp a b) (a ≡ b)
name_decides a b = (
  λ yes. equal_names a b (equal_from (name_cmp a b) yes),
  λ same. ap is_eq (ap (name_cmp a) (sym same) ∙ tied_itself name_order a),
)

-- different names, and as many in order
same_length : (xs ys : List ObjName) → IsDistinct (eq_by_cmp name_cmp) xs → IsDistinct (eq_by_cmp name_cmp) ys → ((o : ObjName) → Contains xs o → Contains ys o) → ((o : ObjName) → Contains ys o → Contains xs o) → length xs ≡ length ys
same_length xs ys one other up down = length-from_same_keys (eq_by_cmp_equiv name_order) xs ys one other
    (λ o. same_from_decides (is_member (eq_by_cmp name_cmp) xs o) (is_member (eq_by_cmp name_cmp) ys o)
    (Decides-like (is_member (eq_by_cmp name_cmp) xs o) (up o) (down o) (is_member-Decides name_decides xs o))
    (is_member-Decides name_decides ys o))

each_once : (xs : List ObjName) → ((i j : ℕ) (o : ObjName) → i < length xs → j < length xs → get_or xs i o ≡ o → get_or xs j o ≡ o → i ≡ j) → IsDistinct (eq_by_cmp name_cmp) xs
each_once xs once = IsDistinct-from_AllPairs name_decides xs (λ i j o less inside same.
    let before : i < length xs = omega (arith, less, inside) in
    let one = once i j (get_or xs j o) before inside (get_or_default xs i (get_or xs j o) o before ∙ same) (get_or_default xs j (get_or xs j o) o inside) in
    omega (arith, less, one))

-- ---- once all that was planned is gone

module _ (planned d : Disk) (from : List ObjName) (depth : ℕ) (pins : List ObjName) (r : Sweeping) (plan : IsPlanned planned from depth pins r) (swept : IsSwept planned r.removed r.gone d) (all : r.gone ≡ length r.removed) where
  whole : take r.gone r.removed ≡ r.removed
  whole = take_all r.gone r.removed (omega (arith, all))

  away : (o : ObjName) → Contains r.removed o → ¬ (IsThere d o)
  away o goes = swept.away o (subst (λ l. Contains l o) (sym whole) goes)

  -- what went of the store
  abbrev Went : ObjNames
  Went o = Contains r.removed o × IsIn (Stores planned) o

  pruned : IsPruned (Stores planned) (Stores d) (Contains from) depth Went
  pruned = record {
    split = record {
      stays = swept.stays;
      either = λ o b has. ⊎_elim (λ here. inl here) (λ goes. inr (subst (λ l. Contains l o) whole goes, (b, has))) (swept.either o b has);
      was = λ o went. went.1;
      apart = λ o went is. away o went.0 (record { sum = IsSum-named o is.0 is.1.named; there = λ none. nothing_at d o is.0 none is.1.there });
    };
    only = λ o went reached. plan.only o went.0 went.1 reached;
    all = λ o is. ⊎_elim (λ reached. inl reached) (λ goes. inr (goes, is)) (plan.all o is);
  }

  -- all that is left is reached in what is left
  pub all_reached : (o : ObjName) → IsIn (Stores d) o → Reachable (Stores d) (Contains from) depth o
  all_reached = exact (Stores planned) (Stores d) (Contains from) depth Went pruned

  -- where of all that stood just this is gone, the names of the rest are counted
  module _ (fewer : (o : ObjName) → IsThere d o → IsThere planned o) (either : (o : ObjName) → IsThere planned o → IsThere d o ⊎ Contains (take r.gone r.removed) o) where
    abbrev stands_at : ObjName → Bool
    stands_at o = is_there (d.at (path_of o))

    abbrev lacks_at : ObjName → Bool
    lacks_at o = not (is_there (d.at (path_of o)))

    abbrev pub left : List ObjName
    left = filter stands_at plan.names

    abbrev lost : List ObjName
    lost = filter lacks_at plan.names

    pub left_are : AreAll d left
    left_are = record {
      ascending = kept_ascends stands_at plan.names plan.names_are.ascending;
      here = λ o has. let k = contains_kept stands_at o plan.names has in record { sum = (plan.names_are.here o k.0).sum; there = true_there (d.at (path_of o)) k.1 };
      all = λ o is. kept_contains stands_at o plan.names (plan.names_are.all o (fewer o is)) (there_true (d.at (path_of o)) is.there);
    }

    lost_goes : (o : ObjName) → Contains lost o → Contains r.removed o
    lost_goes o has =
        let k = contains_kept lacks_at o plan.names has in
        ⊎_elim
        (λ here. absurd (let n : false ≡ true = sym (ap not (there_true (d.at (path_of o)) here.there)) ∙ k.1 in cc))
        (λ goes. subst (λ l. Contains l o) whole goes)
        (either o (plan.names_are.here o k.0))

    goes_lost : (o : ObjName) → Contains r.removed o → Contains lost o
    goes_lost o goes =
        let was = plan.there o goes in
        kept_contains lacks_at o plan.names (plan.names_are.all o was)
        (not_from_false (is_there (d.at (path_of o))) (false_from_ne_true (is_there (d.at (path_of o))) (λ is. away o goes (record { sum = was.sum; there = true_there (d.at (path_of o)) is }))))

    lost_many : length lost ≡ length r.removed
    lost_many = same_length lost r.removed
        (IsDistinct-from_sorted name_cmp lost (kept_ascends lacks_at plan.names plan.names_are.ascending))
        (each_once r.removed plan.once) lost_goes goes_lost

    pub left_many : r.kept ≡ length left
    left_many = let both = length-filter_both stands_at lacks_at (λ x. refl) plan.names in omega (arith, plan.count, both, lost_many)

-- ---- each answer

going_ends : (k : Known) (depth lane : ℕ) (r : Sweeping) (v : View) (b : Books) → ((r.part ≡ part.End) ⊎ (r.part ≡ part.Over)) → SweepKnows r.part k depth lane r v b → IsGoing k depth lane r v b
going_ends k depth lane r v b is knows = ⊎_elim
    (λ end. subst (λ x. SweepKnows x k depth lane r v b) end knows)
    (λ over. absurd (subst (λ x. SweepKnows x k depth lane r v b) over knows))
    is

all_gone : (r : Sweeping) → IsSoFar r → ((r.part ≡ part.End) ⊎ (r.part ≡ part.Over)) → r.gone ≡ length r.removed
all_gone r so = ⊎_elim
    (λ end. let is : sweeping.IsIn part.End r = subst (λ x. sweeping.IsIn x r) end so.part in is.0)
    (λ over. let is : sweeping.IsIn part.Over r = subst (λ x. sweeping.IsIn x r) over so.part in is.0)

pruned_shown : (k : Known) (depth lane : ℕ) (r : Sweeping) (v : View) (b : Books) (kept : ℕ) → HasBegun k lane v b → IsGoing k depth lane r v b → r.gone ≡ length r.removed → kept ≡ r.kept → ShowsPruned (listed_in b) depth kept v.now
pruned_shown k depth lane r v b kept begun going all is = record {
  roots = k.roots;
  held = k.held;
  are = roots_are k.roots k.held lane v b begun.roots;
  all = all_reached going.planned v.now (from_of k) depth k.held r going.plan going.swept all;
  names = left going.planned v.now (from_of k) depth k.held r going.plan going.swept all going.fewer going.either;
  names_are = left_are going.planned v.now (from_of k) depth k.held r going.plan going.swept all going.fewer going.either;
  count = is ∙ left_many going.planned v.now (from_of k) depth k.held r going.plan going.swept all going.fewer going.either;
}

shown_in : (p : Phase) (t : PruneCommand) (lane : ℕ) (v w : View) (b : Books) (a : PruneAnswer) → KnownIn p t lane v b → Ends p a → Tells t p a v w → Says (listed_in b) t.depth t.limits.content v.now a
shown_in (phase.Marking m) t lane v w b (answer.Outside path) known ends told = told.1
shown_in (phase.Sweeping r) t lane v w b (answer.Pruned kept removed) known ends told =
    pruned_shown t.known t.depth lane r v b kept known.0 (going_ends t.known t.depth lane r v b ends.0 known.2) (all_gone r known.1 ends.0) ends.1
shown_in (phase.Marking m) t lane v w b (answer.Pruned kept removed) known ends told = absurd ends
shown_in (phase.Sweeping r) t lane v w b (answer.Outside path) known ends told = absurd ends
shown_in phase.Waiting t lane v w b a known ends told = absurd ends
shown_in phase.Unlearned t lane v w b a known ends told = absurd ends
shown_in (phase.Listing l) t lane v w b a known ends told = absurd ends
shown_in (phase.Over x) t lane v w b a known ends told = absurd known

ends_publish : (lane : ℕ) (t new : PruneCommand) (v w : View) (b : Books) (a : PruneAnswer) → prune_facts lane t v b → prune_leaves t (turn.Done tt) new v w → prune_answer new ≡ Some a → Says (listed_in b) t.depth t.limits.content v.now a
ends_publish lane t new v w b a f leaves given =
    subst (Says (listed_in b) t.depth t.limits.content v.now) same (shown_in t.phase t lane v w b leaves.0 f.known leaves.2 leaves.3)
  where
    same : leaves.0 ≡ a
    same = let e : Some leaves.0 ≡ Some a = sym (ap prune_answer leaves.1) ∙ given in cc

-- in a good store no object is damaged
outside_none : (limits : Limits) (v : View) (path : Path) → IsGoodStore limits v.now → HasDamaged v.now limits.content path → ⊥
outside_none limits v path good says =
    let damaged : IsDamaged v.now limits.content says.0 = says.3 in
    damaged_has v.now limits.content says.0 damaged.0 damaged.1 (good.sound says.0 says.2)

-- ---- by the words that it was given

pub ends_say : (since : Since) (p : SystemState) (lane : ℕ) (c : PruneWords) (t new : PruneCommand) (v w : View) (b : Books) (a : PruneAnswer) → p.deployments ≡ listed_in b → IsPruning since c t → prune_facts lane t v b → prune_leaves t (turn.Done tt) new v w → prune_answer new ≡ Some a → Says p.deployments c.depth since.limits.content v.now a
ends_say since p lane c t new v w b a listed is f leaves given =
    subst (λ (ids : List DepId). Says ids c.depth since.limits.content v.now a) (sym listed)
    (subst (λ (n : ℕ). Says (listed_in b) n since.limits.content v.now a) is.depth (subst (λ (l : Limits). Says (listed_in b) t.depth l.content v.now a) is.limits (ends_publish lane t new v w b a f leaves given)))

-- the last step changes nothing that reads see
did_now : (p : Part) (r : Sweeping) (v w : View) → (p ≡ part.End) ⊎ (p ≡ part.Over) → Did p r v w → w.now ≡ v.now
unfolding all_synced
did_now p r v w (inl end) did = ap (λ (u : View). u.now) (let is : w ≡ all_synced v = subst (λ x. Did x r v w) end did in is)
did_now p r v w (inr over) did = ap (λ (u : View). u.now) (let is : w ≡ v = subst (λ x. Did x r v w) over did in is)

still_now : (p : Phase) (t : PruneCommand) (a : PruneAnswer) (v w : View) → Ends p a → Tells t p a v w → w.now ≡ v.now
still_now (phase.Marking m) t (answer.Outside path) v w ends told = ap (λ (u : View). u.now) told.0
still_now (phase.Sweeping r) t (answer.Pruned kept removed) v w ends told = did_now r.part r v w ends.0 told
still_now (phase.Marking m) t (answer.Pruned kept removed) v w ends told = absurd ends
still_now (phase.Sweeping r) t (answer.Outside path) v w ends told = absurd ends
still_now phase.Waiting t a v w ends told = absurd ends
still_now phase.Unlearned t a v w ends told = absurd ends
still_now (phase.Listing l) t a v w ends told = absurd ends
still_now (phase.Over x) t a v w ends told = absurd told

-- a removal changes no list of deployments
pub prune_unlisted : (depth : ℕ) (e : Event) → IsPruneOf depth e → list_in e ≡ None
prune_unlisted depth (Pruned d roots held removed) is = refl
prune_unlisted depth (SetRef name seen commit) is = absurd is
prune_unlisted depth (DropRef name seen) is = absurd is
prune_unlisted depth (SetDeployments change list) is = absurd is

pub ends_remain : (since : Since) (p : SystemState) (lane : ℕ) (c : PruneWords) (t new : PruneCommand) (v w : View) (b : Books) (a : PruneAnswer) → p.deployments ≡ listed_behind (prune_kind t) b → IsPruning since c t → prune_facts lane t v b → prune_leaves t (turn.Done tt) new v w → prune_answer new ≡ Some a → Says p.deployments c.depth since.limits.content w.now a
ends_remain since p lane c t new v w b a listed is f leaves given =
    let same : listed_behind (prune_kind t) b ≡ listed_in b = same_behind (prune_kind t) b (λ e kind. prune_unlisted c.depth e (makes_durable_prune since c t e is kind)) in
    subst (λ d. Says p.deployments c.depth since.limits.content d a) (sym (still_now t.phase t leaves.0 v w leaves.2 leaves.3)) (ends_say since p lane c t new v w b a (listed ∙ same) is f leaves given)

pub outside_no : (ids : List DepId) (limits : Limits) (depth : ℕ) (v : View) (a : PruneAnswer) → IsGoodStore limits v.now → Says ids depth limits.content v.now a → prune_outside a → ⊥
outside_no ids limits depth v (answer.Outside path) good says outside = outside_none limits v path good says
outside_no ids limits depth v (answer.Pruned kept removed) good says outside = outside
