-- What the steps of a prune are to the system, and which answers it may end with.
use Rattle.std.proofs.Common.{◌≡◌, ◌≢◌, ◌⊎◌, ⊎_elim, ℕ, true, refl, sym, ◌∙◌, ap, subst, List, length, Option, Some, None, IsSome}
use Rattle.ost_types.specs.declared.object.Kind.{Kind as ObjectKind}
use Rattle.ost_types.specs.declared.object.Kind.TheVariants as object
use Rattle.ost_types.specs.declared.object.ObjName.{ObjName}
use Rattle.ost_types.specs.Path.{Name}
use Rattle.fs_trait.specs.declared.task.StepResult.TheVariants as turn
use Rattle.fs_trait.specs.Seen.{Seen, Vacant}
use Rattle.fs_trait.specs.View.{View}
use Rattle.repo_model.specs.Objects.{object_in}
use Rattle.boot_model.specs.declared.item.DepId.{DepId}
use Rattle.rely_guarantee.specs.declared.books.Pin.{Pin}
use Rattle.rely_guarantee.specs.declared.event.Event.{Event}
use Rattle.rely_guarantee.specs.declared.kind.Wants.{Wants}
use Rattle.rely_guarantee.specs.Books.{Books}
use Rattle.rely_guarantee.specs.Laws.{Kind, Quiet, Take, Claim, Publish, Published, Remove, MakeDurable, Holds, IsMakeDurable, NotPending}
use Rattle.ref_book.specs.declared.book.RefBook.{RefBook}
use Rattle.prune_sweep.specs.declared.part.Part.{Part}
use Rattle.prune_sweep.specs.declared.part.Part.TheVariants as part
use Rattle.prune_sweep.specs.Sweeping as sweeping
use Rattle.prune_sweep.specs.Sweeping.{IsBehindCommits, IsBehindObjects, Sweeping, calls_of}
use Rattle.prune_command.specs.declared.answer.PruneAnswer.{PruneAnswer}
use Rattle.prune_command.specs.declared.answer.PruneAnswer.TheVariants as answer
use Rattle.prune_command.specs.declared.command.PruneCommand.{PruneCommand}
use Rattle.prune_command.specs.declared.phase.Phase.{Phase}
use Rattle.prune_command.specs.declared.phase.Phase.TheVariants as phase
use Rattle.prune_command.specs.Commands.{Ends, Follows, IsNew, Learns, change_of, kind_in, prune_answer, prune_kind, prune_learns, prune_stepped, prune_wants}
use Rattle.prune_command.specs.Facts.{KnownIn, prune_facts}
use Rattle.prune_command.specs.SweepSteps.{sweep_kind}
use Rattle.command.specs.ChangeLaws.{Founds}
use Rattle.command.specs.Since.{Since}
use Rattle.command.specs.LockLaws.{AsksInOrder}
use Rattle.prune_family.specs.declared.words.PruneWords.{PruneWords}
use Rattle.prune_family.specs.Family.{IsOnItsWay, IsPruneOf, IsPruning, prune_makes, prune_tells}

-- ---- at its beginning

pub begins_of : (lane : ℕ) (t : PruneCommand) (v : View) (b : Books) → IsNew t × (t.lane ≡ lane) → prune_facts lane t v b
begins_of lane t v b begins = record { mine = begins.1; known = subst (λ p. KnownIn p t lane v b) (sym begins.0) tt }

pub begun_holds : (lane : ℕ) (t : PruneCommand) (b : Books) → IsNew t → NotPending lane b → Holds (prune_kind t) lane b
begun_holds lane t b new none = subst (λ p. Holds (kind_in p t) lane b) (sym new) none

-- ---- on its way

behind_objects : (unmarked marks : ℕ) (p : Part) → IsBehindObjects unmarked marks p → p ≢ part.Over
behind_objects unmarked marks p behind over = ⊎_elim
    (λ x. (let no : part.Mark ≡ part.Over = sym x.0 ∙ over in cc))
    (λ x. (let no : part.End ≡ part.Over = sym x.0 ∙ over in cc))
    behind

behind_commits : (r : Sweeping) → IsBehindCommits r → r.part ≢ part.Over
behind_commits r behind over = ⊎_elim
    (λ x. (let no : part.Object ≡ part.Over = sym x.0 ∙ over in cc))
    (λ x. behind_objects r.unmarked (length r.marks) r.part x.1 over)
    behind

-- a step that goes on isn't the removal's last
swept_way : (p : Part) (r : Sweeping) → sweeping.Follows p r → r.part ≢ part.Over
swept_way part.Begin r follows over = ⊎_elim
    (λ x. (let no : part.Commit ≡ part.Over = sym x.0 ∙ over in cc))
    (λ x. (let no : part.Barrier ≡ part.Over = sym x.0 ∙ over in cc))
    follows
swept_way part.Commit r follows over = ⊎_elim
    (λ x. (let no : part.Commit ≡ part.Over = sym x.0 ∙ over in cc))
    (λ x. (let no : part.Barrier ≡ part.Over = sym x.0 ∙ over in cc))
    follows
swept_way part.Barrier r follows over = behind_commits r follows over
swept_way part.Object r follows over = behind_commits r follows over
swept_way part.Mark r follows over = behind_objects r.unmarked (length r.marks) r.part follows over
swept_way part.End r follows over = follows
swept_way part.Over r follows over = follows

follows_way : (depth : ℕ) (p n : Phase) → IsOnItsWay p → Follows depth p n → IsOnItsWay n
follows_way depth p phase.Waiting is follows = tt
follows_way depth p phase.Unlearned is follows = tt
follows_way depth p (phase.Listing l) is follows = tt
follows_way depth p (phase.Marking m) is follows = tt
follows_way depth phase.Waiting (phase.Sweeping r) is follows = absurd follows
follows_way depth phase.Unlearned (phase.Sweeping r) is follows = absurd follows
follows_way depth (phase.Listing l) (phase.Sweeping r) is follows = absurd follows
follows_way depth (phase.Marking m) (phase.Sweeping r) is follows = λ over. (let z : part.Begin ≡ part.Over = sym follows.0.0 ∙ over in cc)
follows_way depth (phase.Sweeping q) (phase.Sweeping r) is follows = swept_way q.part r follows.0.follows
follows_way depth (phase.Over a) (phase.Sweeping r) is follows = absurd is
follows_way depth phase.Waiting (phase.Over a) is follows = absurd follows
follows_way depth phase.Unlearned (phase.Over a) is follows = absurd follows
follows_way depth (phase.Listing l) (phase.Over a) is follows = absurd follows
follows_way depth (phase.Marking m) (phase.Over a) is follows = absurd follows
follows_way depth (phase.Sweeping q) (phase.Over a) is follows = absurd follows
follows_way depth (phase.Over b) (phase.Over a) is follows = absurd follows

pub goes_on_its_way : (since : Since) (c : PruneWords) (t new : PruneCommand) → IsPruning since c t → prune_stepped t turn.More new → IsPruning since c new
goes_on_its_way since c t new is step = record {
  depth = ap (λ (x : PruneCommand). x.depth) step.0 ∙ is.depth;
  limits = ap (λ (x : PruneCommand). x.limits) step.0 ∙ is.limits;
  goes = follows_way t.depth t.phase new.phase is.goes step.1;
}

pub learns_on : (since : Since) (c : PruneWords) (refs : RefBook) (ids : List DepId) (pins : List Pin) (t new : PruneCommand) → prune_learns refs ids pins t new → IsPruning since c t → IsPruning since c new
learns_on since c refs ids pins t new learns is = by t.phase learns
  where
    same : new ≡ t → IsPruning since c new
    same e = subst (IsPruning since c) (sym e) is

    by : (p : Phase) → Learns refs ids pins t p new → IsPruning since c new
    by phase.Unlearned l = ⊎_elim same (λ told. subst (IsPruning since c) (sym told.3) (record { depth = is.depth; limits = is.limits; goes = tt })) l
    by phase.Waiting l = same l
    by (phase.Listing x) l = same l
    by (phase.Marking m) l = same l
    by (phase.Sweeping r) l = same l
    by (phase.Over a) l = same l

-- ---- its kinds of steps

part_take : (p : Part) (e : Event) (n : ℕ) (wants : Wants) → sweep_kind p e n ≡ Take wants → ⊥
part_take part.Begin e n wants is = cc
part_take part.Commit e n wants is = cc
part_take part.Barrier e n wants is = cc
part_take part.Object e n wants is = cc
part_take part.Mark e n wants is = cc
part_take part.End e n wants is = cc
part_take part.Over e n wants is = cc

takes_wants : (p : Phase) (t : PruneCommand) (wants : Wants) → kind_in p t ≡ Take wants → prune_wants ≡ wants
takes_wants phase.Waiting t wants is = cc
takes_wants phase.Unlearned t wants is = cc
takes_wants (phase.Listing l) t wants is = cc
takes_wants (phase.Marking m) t wants is = cc
takes_wants (phase.Sweeping r) t wants is = absurd (part_take r.part (change_of t r) (calls_of r) wants is)
takes_wants (phase.Over a) t wants is = cc

pub asks_both : (t : PruneCommand) (wants : Wants) → prune_kind t ≡ Take wants → AsksInOrder wants
asks_both t wants is = subst AsksInOrder (takes_wants t.phase t wants is) ((λ asks. refl), refl, refl)

pub never_pins : (t : PruneCommand) (wants : Wants) (name : ObjName) → prune_kind t ≡ Take wants → wants.pin ≡ Some name → ⊥
never_pins t wants name is pin = let z : None ≡ Some name = ap (λ (x : Wants). x.pin) (takes_wants t.phase t wants is) ∙ pin in cc

part_claim : (p : Part) (e : Event) (n : ℕ) (name : Name) → sweep_kind p e n ≡ Claim name → ⊥
part_claim part.Begin e n name is = cc
part_claim part.Commit e n name is = cc
part_claim part.Barrier e n name is = cc
part_claim part.Object e n name is = cc
part_claim part.Mark e n name is = cc
part_claim part.End e n name is = cc
part_claim part.Over e n name is = cc

claims_none : (p : Phase) (t : PruneCommand) (name : Name) → kind_in p t ≡ Claim name → ⊥
claims_none phase.Waiting t name is = cc
claims_none phase.Unlearned t name is = cc
claims_none (phase.Listing l) t name is = cc
claims_none (phase.Marking m) t name is = cc
claims_none (phase.Sweeping r) t name is = part_claim r.part (change_of t r) (calls_of r) name is
claims_none (phase.Over a) t name is = cc

pub never_claims : {P : Type 0} (t : PruneCommand) (name : Name) → prune_kind t ≡ Claim name → P
never_claims t name is = absurd (claims_none t.phase t name is)

-- ---- the change that it makes

part_publish : (p : Part) (d : Event) (n : ℕ) (e : Event) → sweep_kind p d n ≡ Publish e → d ≡ e
part_publish part.Begin d n e is = cc
part_publish part.Commit d n e is = cc
part_publish part.Barrier d n e is = cc
part_publish part.Object d n e is = cc
part_publish part.Mark d n e is = cc
part_publish part.End d n e is = cc
part_publish part.Over d n e is = cc

part_make_durable : (p : Part) (d : Event) (n : ℕ) (e : Event) → sweep_kind p d n ≡ MakeDurable e → d ≡ e
part_make_durable part.Begin d n e is = cc
part_make_durable part.Commit d n e is = cc
part_make_durable part.Barrier d n e is = cc
part_make_durable part.Object d n e is = cc
part_make_durable part.Mark d n e is = cc
part_make_durable part.End d n e is = cc
part_make_durable part.Over d n e is = cc

-- what is published, and what is made durable
shows_change : (p : Phase) (t : PruneCommand) (e : Event) → kind_in p t ≡ Publish e → (r : Sweeping) × (change_of t r ≡ e)
shows_change phase.Waiting t e is = cc
shows_change phase.Unlearned t e is = cc
shows_change (phase.Listing l) t e is = cc
shows_change (phase.Marking m) t e is = cc
shows_change (phase.Sweeping r) t e is = (r, part_publish r.part (change_of t r) (calls_of r) e is)
shows_change (phase.Over a) t e is = cc

makes_durable_change : (p : Phase) (t : PruneCommand) (e : Event) → kind_in p t ≡ MakeDurable e → (r : Sweeping) × (p ≡ phase.Sweeping r) × (change_of t r ≡ e)
makes_durable_change phase.Waiting t e is = cc
makes_durable_change phase.Unlearned t e is = cc
makes_durable_change (phase.Listing l) t e is = cc
makes_durable_change (phase.Marking m) t e is = cc
makes_durable_change (phase.Sweeping r) t e is = (r, refl, part_make_durable r.part (change_of t r) (calls_of r) e is)
makes_durable_change (phase.Over a) t e is = cc

pub shows_prune : (since : Since) (c : PruneWords) (t : PruneCommand) (e : Event) → IsPruning since c t → prune_kind t ≡ Publish e → IsPruneOf c.depth e
shows_prune since c t e is kind = (let x = shows_change t.phase t e kind in subst (IsPruneOf c.depth) x.1 is.depth)

pub makes_durable_prune : (since : Since) (c : PruneWords) (t : PruneCommand) (e : Event) → IsPruning since c t → prune_kind t ≡ MakeDurable e → IsPruneOf c.depth e
makes_durable_prune since c t e is kind = (let x = makes_durable_change t.phase t e kind in subst (IsPruneOf c.depth) x.2 is.depth)

pub shows_founded : (t : PruneCommand) (v : View) (e : Event) → prune_kind t ≡ Publish e → Founds v e
shows_founded t v e kind = (let x = shows_change t.phase t e kind in subst (Founds v) x.1 tt)

-- ---- its answers

pub has_answer : (t new : PruneCommand) → prune_stepped t (turn.Done tt) new → IsSome (prune_answer new)
has_answer t new step = subst (λ x. IsSome (prune_answer x)) (sym step.1) refl

-- the one that it ends with
answer_is : (t new : PruneCommand) (a : PruneAnswer) (step : prune_stepped t (turn.Done tt) new) → prune_answer new ≡ Some a → Ends t.phase a
answer_is t new a step given =
    let e : Some step.0 ≡ Some a = sym (ap prune_answer step.1) ∙ given in
    let one : step.0 ≡ a = cc in
    subst (Ends t.phase) one step.2

made_in : (p : Phase) (t : PruneCommand) (a : PruneAnswer) → Ends p a → IsMakeDurable (kind_in p t) → prune_makes a
made_in p t (answer.Pruned kept removed) ends settles = tt
made_in (phase.Sweeping r) t (answer.Outside o) ends settles = absurd ends
made_in phase.Waiting t (answer.Outside o) ends settles = absurd settles
made_in phase.Unlearned t (answer.Outside o) ends settles = absurd settles
made_in (phase.Listing l) t (answer.Outside o) ends settles = absurd settles
made_in (phase.Marking m) t (answer.Outside o) ends settles = absurd settles
made_in (phase.Over b) t (answer.Outside o) ends settles = absurd settles

pub ends_made : (t new : PruneCommand) (a : PruneAnswer) → prune_stepped t (turn.Done tt) new → prune_answer new ≡ Some a → IsMakeDurable (prune_kind t) → prune_makes a
ends_made t new a step given = made_in t.phase t a (answer_is t new a step given)

unmade_in : (p : Phase) (t : PruneCommand) (a : PruneAnswer) → IsOnItsWay p → Ends p a → (IsMakeDurable (kind_in p t) → ⊥) → prune_makes a → ⊥
unmade_in p t (answer.Outside o) way ends settles made = made
unmade_in phase.Waiting t (answer.Pruned kept removed) way ends settles made = ends
unmade_in phase.Unlearned t (answer.Pruned kept removed) way ends settles made = ends
unmade_in (phase.Listing l) t (answer.Pruned kept removed) way ends settles made = ends
unmade_in (phase.Marking m) t (answer.Pruned kept removed) way ends settles made = ends
unmade_in (phase.Sweeping r) t (answer.Pruned kept removed) way ends settles made = ⊎_elim (λ last. settles (subst (λ x. IsMakeDurable (sweep_kind x (change_of t r) (calls_of r))) (sym last) tt)) way ends.0
unmade_in (phase.Over b) t (answer.Pruned kept removed) way ends settles made = way

pub not_made : (since : Since) (c : PruneWords) (t new : PruneCommand) (a : PruneAnswer) → IsPruning since c t → prune_stepped t (turn.Done tt) new → prune_answer new ≡ Some a → (IsMakeDurable (prune_kind t) → ⊥) → prune_makes a → ⊥
not_made since c t new a is step given = unmade_in t.phase t a is.goes (answer_is t new a step given)

tell_in : (t : PruneCommand) (r : Sweeping) (a : PruneAnswer) → Ends (phase.Sweeping r) a → prune_tells a (change_of t r)
tell_in t r (answer.Pruned kept removed) ends = ends.2
tell_in t r (answer.Outside o) ends = absurd ends

pub ends_tell : (t new : PruneCommand) (a : PruneAnswer) (e : Event) → prune_stepped t (turn.Done tt) new → prune_answer new ≡ Some a → prune_kind t ≡ MakeDurable e → prune_tells a e
ends_tell t new a e step given kind =
    let x = makes_durable_change t.phase t e kind in
    subst (prune_tells a) x.2 (tell_in t x.0 a (subst (λ p. Ends p a) x.1 (answer_is t new a step given)))

-- ---- what it writes holds no bytes

pub writes_no_bytes : (kind : ObjectKind) (s : Seen) (bytes : List ℕ) → s ≡ Vacant → object_in kind s ≡ Some bytes → ⊥
writes_no_bytes kind s bytes vacant reads = by kind (subst (λ x. object_in kind x ≡ Some bytes) vacant reads)
  where
    by : (k : ObjectKind) → object_in k Vacant ≡ Some bytes → ⊥
    by object.Commit is = cc
    by object.DirTree is = cc
    by object.DirMeta is = cc
    by object.File is = cc
