use Rattle.std.proofs.Common.{sym, ◌∙◌, subst, arith}
use Rattle.std.proofs.lemmas.Result.{err_from_is_err_and}
use Rattle.fs_trait.specs.Effect.{IsListing}
use Rattle.fs_trait.proofs.Quiet.{IsQuiet-refl, IsQuiet-trans}
use Rattle.repo_layout.specs.Fixed.{number}
use Rattle.boot_read.specs.Steps.{IsPushed}
use Rattle.boot_read.proofs.Entering.{all_files, few_none, few_pushed, no_files, over, pushed, too_many}
use Rattle.boot_read.proofs.Looking.{of_call}
use Rattle.boot_read.proofs.files.files_in.Goals as goal

pub loop-name-init : goal.loop-name-init
loop-name-init g c = record {
  folder = c.requires;
  files = λ v told. no_files v.now (number c.args.loader) c.args.names.now _ c.in_ok-files.ensures.items;
  few = few_none _ c.in_ok-files.ensures.items;
  quiet = IsQuiet-refl _ _ _;
  room = omega arith;
  faults = omega arith;
}

pub loop-name-preserved : goal.loop-name-preserved
loop-name-preserved g c =
    let i = c.loop-name.invariant in
    let added = subst (λ b. IsPushed c.loop-name.files.items c.in_ok-found.found b c.push_file.new.files.items) c.if-not-branch.false c.in_ok-push_file.ensures in
    record {
      folder = i.folder;
      files = λ v told.
          pushed v.now (number c.args.loader) c.args.names.now c.loop-name.name-index c.name-item.result c.loop-name-test.true c.name-item.is c.in_ok-found.found c.loop-name.files.items _
          (c.in_ok-found.ensures.told v (i.quiet.view ∙ told)) added (i.files v told);
      few = few_pushed c.in_ok-found.found c.loop-name.files.items _ i.few added;
      quiet = IsQuiet-trans _ _ _ _ _ _ _ _ _ i.quiet c.entry_file.ensures.quiet;
      room = omega (arith, i.room, c.entry_file.ensures.room);
      faults = omega (arith, i.faults, c.entry_file.ensures.cause.later);
    }

pub returns-in_err-found-clause-told : goal.returns-in_err-found-clause-told
returns-in_err-found-clause-told g c = λ v sub told listing folders.
    let error = err_from_is_err_and c.from_residual-in_err-found.result c.from_residual-in_err-found.ensures.1 in
    rw (error.1, error.2) (of_call v.now _ c.in_err-found.ensures.err)

pub returns-then-not-branch-clause-told : goal.returns-then-not-branch-clause-told
returns-then-not-branch-clause-told g c = λ v sub told listing folders.
    let i = c.loop-name.invariant in
    let full = subst (λ b. IsPushed c.loop-name.files.items c.in_ok-found.found b c.push_file.new.files.items) c.if-not-branch.true c.in_ok-push_file.ensures in
    let here = subst (λ p. IsListing v.now p c.args.names.now) (c.requires ∙ sym i.folder) listing in
    too_many v.now (number c.args.loader) c.args.names.now c.loop-name.folder i.folder here sub folders
    (over v.now (number c.args.loader) c.args.names.now c.loop-name.name-index c.name-item.result c.loop-name-test.true c.name-item.is c.in_ok-found.found c.loop-name.files.items _
    (c.in_ok-found.ensures.told v (i.quiet.view ∙ told)) full (i.files v told))

pub returns-clause-told : goal.returns-clause-told
returns-clause-told g c = λ v sub told listing folders.
    let i = c.loop-name.invariant in
    all_files v.now (number c.args.loader) c.args.names.now c.args.folder c.requires listing c.loop-name.name-index c.loop-name.files.items c.loop-name-test.false i.few (i.files v told)
