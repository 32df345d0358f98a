use Rattle.std.proofs.Common.{◌≤◌, ◌∙◌, sym, subst}
use Rattle.fs_trait.specs.Change.{Left}
use Rattle.repo_layout.specs.declared.folder.Folder.TheVariants.{Checkouts}
use Rattle.sys_open.specs.Opening.{Begins}
use Rattle.sys_open.proofs.Listed.{keeps_still, told_still}
use Rattle.sys_open.proofs.Opens.{folders_there, good_since, is_listed, is_opened, keeps_good, keeps_rows}
use Rattle.sys_open.proofs.StoreKept.{all_kept}
use Rattle.sys_open.proofs.adopting.adopt.Goals as goal

pub checkouts-requires : goal.checkouts-requires
checkouts-requires g c = λ w now.
    let e = c.in-Ok.ensures in
    folders_there g.F.Fs.view g.F.Fs.clock g.F.Fs.was g.met.F.Fs.told c.args.limits c.args.fs c.open.new.fs c.in-Ok.found.clock c.in-Ok.found.refs.items e.told e.begins e.keeps w now Checkouts

pub invariant_of-result : goal.invariant_of-result
invariant_of-result g c =
    let e = c.in-Ok.ensures in
    let still = c.checkouts.ensures.quiet in
    let opened = c.in-Ok.found.clock in
    let refs = c.in-Ok.found.refs.items in (
      is_opened g.F.Fs.view g.F.Fs.clock g.F.Fs.was g.met.F.Fs.told c.args.limits c.args.fs c.checkouts.new.fs opened refs e.told
          (λ v told. told_still _ _ _ _ _ _ still (Begins refs v) (e.begins v told))
          (λ v told. keeps_still _ _ _ _ _ _ still opened v.now (e.keeps v told))
          e.ascending (subst (λ t. opened ≤ t) (sym still.clock) e.past),
      is_listed g.F.Fs.view g.F.Fs.clock g.F.Fs.was g.met.F.Fs.told c.args.limits c.args.fs c.checkouts.new.fs opened refs e.told
          (λ v told. told_still _ _ _ _ _ _ still (Begins refs v) (e.begins v told))
          (λ v told. keeps_still _ _ _ _ _ _ still opened v.now (e.keeps v told))
          c.in-Ok.found.objects.items (λ v told. (e.found v told).0),
      keeps_good g.F.Fs.view g.F.Fs.clock g.F.Fs.was g.met.F.Fs.told c.args.limits c.args.fs c.checkouts.new.fs opened refs e.told
          (λ v told. told_still _ _ _ _ _ _ still (Begins refs v) (e.begins v told))
          (λ v told. keeps_still _ _ _ _ _ _ still opened v.now (e.keeps v told)),
      λ w now. c.in-Ok-checkouts.ensures.told w (sym still.view ∙ now),
      keeps_rows g.F.Fs.view g.F.Fs.clock g.F.Fs.was g.met.F.Fs.told c.args.limits c.args.fs c.checkouts.new.fs opened refs e.told
          (λ v told. told_still _ _ _ _ _ _ still (Begins refs v) (e.begins v told))
          (λ v told. keeps_still _ _ _ _ _ _ still opened v.now (e.keeps v told))
          c.in-Ok.found.rows.items (λ v told. (e.found v told).1),
    )

pub returns-in-Ok-checkouts-clause-stands : goal.returns-in-Ok-checkouts-clause-stands
returns-in-Ok-checkouts-clause-stands g c =
    let e = c.in-Ok.ensures in
    let still = c.checkouts.ensures.quiet in
    let opened = c.in-Ok.found.clock in
    let refs = c.in-Ok.found.refs.items in (
      λ w now. c.in-Ok-checkouts.ensures.told w (sym still.view ∙ now),
      keeps_rows g.F.Fs.view g.F.Fs.clock g.F.Fs.was g.met.F.Fs.told c.args.limits c.args.fs c.checkouts.new.fs opened refs e.told
          (λ v told. told_still _ _ _ _ _ _ still (Begins refs v) (e.begins v told))
          (λ v told. keeps_still _ _ _ _ _ _ still opened v.now (e.keeps v told))
          c.in-Ok.found.rows.items (λ v told. (e.found v told).1),
    )

pub returns-in-Ok-checkouts-clause-good : goal.returns-in-Ok-checkouts-clause-good
returns-in-Ok-checkouts-clause-good g c = λ v told. (c.in-Ok.ensures.told v told, (c.in-Ok.ensures.found v told).1)

pub returns-in-Ok-checkouts-clause-keeps : goal.returns-in-Ok-checkouts-clause-keeps
returns-in-Ok-checkouts-clause-keeps g c = λ v told. keeps_still _ _ _ _ _ _ c.checkouts.ensures.quiet c.in-Ok.found.clock v.now (c.in-Ok.ensures.keeps v told)

pub returns-in-Ok-checkouts-clause-since : goal.returns-in-Ok-checkouts-clause-since
returns-in-Ok-checkouts-clause-since g c = λ v told.
    let e = c.in-Ok.ensures in
    good_since c.args.limits (Left (g.F.Fs.was c.checkouts.new.fs)) c.in-Ok.found.clock v.now c.in-Ok.found.refs.items (e.told v told) (e.begins v told).2.same (keeps_still _ _ _ _ _ _ c.checkouts.ensures.quiet c.in-Ok.found.clock v.now (e.keeps v told))

pub returns-in-Ok-checkouts-clause-objects : goal.returns-in-Ok-checkouts-clause-objects
returns-in-Ok-checkouts-clause-objects g c = λ v told.
    let e = c.in-Ok.ensures in
    let b = e.begins v told in
    (b.0, c.checkouts.ensures.quiet.view ∙ b.1, all_kept v.now b.0.now b.2.keeps c.in-Ok.found.objects.items (e.found v told).0)
