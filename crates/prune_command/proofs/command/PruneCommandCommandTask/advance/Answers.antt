use Rattle.std.proofs.Common.{◌≡◌, List, Err, sym, ◌∙◌, ap, subst}
use Rattle.std.proofs.lemmas.Result.{err_from_is_err_and}
use Rattle.ost_types.specs.declared.object.ObjName.{ObjName}
use Rattle.fs_trait.specs.declared.types.FsErr.TheVariants.{NoMemory}
use Rattle.fs_trait.specs.Change.{Writes}
use Rattle.fs_trait.specs.Image.{Told}
use Rattle.prune_command.specs.Commands.{needs_in, writes_in}
use Rattle.prune_command.specs.Learned.{from_of}
use Rattle.prune_command.specs.MarkSteps.{MarkTells}
use Rattle.prune_command.proofs.Steps.{listed_after, marked_after, marked_stepped, swept_after}
use Rattle.prune_command.proofs.Sweeps.{does_did, does_fails, does_nothing, does_writes}
use Rattle.prune_command.proofs.command.PruneCommandCommandTask.advance.Goals as goal

pub returns-in_err-next-in-Marking-clause-refused : goal.returns-in_err-next-in-Marking-clause-refused
returns-in_err-next-in-Marking-clause-refused g c = λ v told.
    let error = err_from_is_err_and c.from_residual-in_err-next-in-Marking.result c.from_residual-in_err-next-in-Marking.ensures.1 in
    rw (error.1, error.2) (c.in_err-next-in-Marking.ensures.named v (from_of c.args.self.now.known) told (subst (λ p. needs_in p c.args.self.now v) c.in-Marking.is (c.requires v told)))

pub returns-in_err-next-in-Sweeping-clause-writes : goal.returns-in_err-next-in-Sweeping-clause-writes
returns-in_err-next-in-Sweeping-clause-writes g c = λ v told.
    subst (λ p. Told (g.F.Fs.view c.sweep_next.new.fs) (Writes (writes_in p) v)) (sym c.in-Sweeping.is) (does_writes c.in-Sweeping.sweep v _ _ (c.in_err-next-in-Sweeping.ensures.effect v told))

pub returns-in_err-next-in-Sweeping-clause-unchanged : goal.returns-in_err-next-in-Sweeping-clause-unchanged
returns-in_err-next-in-Sweeping-clause-unchanged g c = λ v told.
    let error = err_from_is_err_and c.from_residual-in_err-next-in-Sweeping.result c.from_residual-in_err-next-in-Sweeping.ensures.1 in
    rw (error.1, error.2) (λ lacks.
    let one : c.in_err-next-in-Sweeping.field-0.0 ≡ NoMemory = cc in
    does_nothing _ c.in-Sweeping.sweep v _ _ (c.in_err-next-in-Sweeping.ensures.effect v told) (ap Err one))

pub returns-in_err-next-in-Sweeping-clause-refused : goal.returns-in_err-next-in-Sweeping-clause-refused
returns-in_err-next-in-Sweeping-clause-refused g c = λ v told.
    let error = err_from_is_err_and c.from_residual-in_err-next-in-Sweeping.result c.from_residual-in_err-next-in-Sweeping.ensures.1 in
    rw (error.1, error.2) (does_fails _ c.in-Sweeping.sweep v _ _ (g.met.F.Fs.tree c.args.fs.now v told) (subst (λ p. needs_in p c.args.self.now v) c.in-Sweeping.is (c.requires v told)) c.in_err-next-in-Sweeping.ensures.refused (c.in_err-next-in-Sweeping.ensures.effect v told))

pub returns-in_err-next-in-Sweeping-clause-fails : goal.returns-in_err-next-in-Sweeping-clause-fails
returns-in_err-next-in-Sweeping-clause-fails g c = λ v told owing.
    let error = err_from_is_err_and c.from_residual-in_err-next-in-Sweeping.result c.from_residual-in_err-next-in-Sweeping.ensures.1 in
    rw (error.1, error.2) (does_fails _ c.in-Sweeping.sweep v _ _ (g.met.F.Fs.tree c.args.fs.now v told) (subst (λ p. needs_in p c.args.self.now v) c.in-Sweeping.is (c.requires v told)) c.in_err-next-in-Sweeping.ensures.refused (c.in_err-next-in-Sweeping.ensures.effect v told))

pub returns-in_ok-next-in-Listing-clause-after : goal.returns-in_ok-next-in-Listing-clause-after
returns-in_ok-next-in-Listing-clause-after g c = λ v told. (
  v,
  c.in_ok-next-in-Listing.ensures.quiet.view ∙ told,
  listed_after c.args.self.now c.go-in-Listing.new.self c.go-in-Listing.result v c.in-Listing.listing c.list.new.listing c.in-Listing.is c.in_ok-next-in-Listing.next
      (c.in_ok-next-in-Listing.ensures.told v told (subst (λ p. needs_in p c.args.self.now v) c.in-Listing.is (c.requires v told))) c.in_ok-next-in-Listing.ensures.stepped c.go-in-Listing.ensures,
)

pub returns-in_ok-next-in-Marking-clause-stepped : goal.returns-in_ok-next-in-Marking-clause-stepped
returns-in_ok-next-in-Marking-clause-stepped g c =
    marked_stepped c.args.self.now c.go-in-Marking.new.self c.go-in-Marking.result c.in-Marking.marked c.step.new.self c.in-Marking.is c.in_ok-next-in-Marking.next c.in_ok-next-in-Marking.ensures.stepped c.go-in-Marking.ensures

pub returns-in_ok-next-in-Marking-clause-after : goal.returns-in_ok-next-in-Marking-clause-after
returns-in_ok-next-in-Marking-clause-after g c = λ v told. (
  v,
  c.in_ok-next-in-Marking.ensures.quiet.view ∙ told,
  marked_after c.args.self.now c.go-in-Marking.new.self c.go-in-Marking.result c.in-Marking.marked c.step.new.self c.in-Marking.is v c.in_ok-next-in-Marking.next
      (subst (λ (l : List ObjName). MarkTells v c.args.self.now.limits.content (from_of c.args.self.now.known) l c.in-Marking.marked.marking.depth c.step.new.self.marking c.in_ok-next-in-Marking.next) c.as_slice.ensures
      (c.in_ok-next-in-Marking.ensures.told v (from_of c.args.self.now.known) told (subst (λ p. needs_in p c.args.self.now v) c.in-Marking.is (c.requires v told))))
      c.in_ok-next-in-Marking.ensures.stepped c.go-in-Marking.ensures,
)

pub returns-in_ok-next-in-Sweeping-clause-writes : goal.returns-in_ok-next-in-Sweeping-clause-writes
returns-in_ok-next-in-Sweeping-clause-writes g c = λ v told.
    subst (λ p. Told (g.F.Fs.view c.sweep_next.new.fs) (Writes (writes_in p) v)) (sym c.in-Sweeping.is) (does_writes c.in-Sweeping.sweep v _ _ (c.in_ok-next-in-Sweeping.ensures.effect v told))

pub returns-in_ok-next-in-Sweeping-clause-after : goal.returns-in_ok-next-in-Sweeping-clause-after
returns-in_ok-next-in-Sweeping-clause-after g c = λ v told.
    swept_after c.args.self.now c.go-in-Sweeping.new.self c.go-in-Sweeping.result v (g.F.Fs.view c.sweep_next.new.fs) c.in-Sweeping.sweep c.sweep_next.new.sweep c.in-Sweeping.is c.in_ok-next-in-Sweeping.next
    (does_did c.in-Sweeping.sweep v _ _ (c.in_ok-next-in-Sweeping.ensures.effect v told)) c.in_ok-next-in-Sweeping.ensures.stepped c.go-in-Sweeping.ensures

pub returns-in-Over-clause-after : goal.returns-in-Over-clause-after
returns-in-Over-clause-after g c = λ v told. absurd (subst (λ p. needs_in p c.args.self.now v) c.in-Over.is (c.requires v told))
