use Rattle.std.proofs.Common.{◌∙◌, sym, arith, subst}
use Rattle.fs_trait.specs.Effect.{IsListing}
use Rattle.fs_trait.proofs.Quiet.{IsQuiet-trans}
use Rattle.repo_layout.specs.declared.folder.Folder.TheVariants.{Deploy}
use Rattle.repo_layout.specs.Paths.{folder_path}
use Rattle.deploy_clean.specs.Unlisted.{IsUnlisted}
use Rattle.sys_open.specs.LeftOver.{IsThere, IsUnlistedIn}
use Rattle.sys_open.proofs.Gathering.{InFirst, gathered_less, gathered_then, in_all, in_more, none_gathered, none_in_first}
use Rattle.sys_open.proofs.unlisted.add_all.Goals as goal

pub loop-name-init : goal.loop-name-init
loop-name-init g c = (
  c.names_in.ensures.quiet,
  c.names_in.ensures.reason.later,
  λ v told. none_gathered (IsUnlisted c.args.listed.now) (InFirst c.args.listed.now v.now c.as_slice-name-items.result.now 0) _ (none_in_first c.args.listed.now v.now c.as_slice-name-items.result.now),
)

pub loop-name-preserved : goal.loop-name-preserved
loop-name-preserved g c =
    let inv = c.loop-name.invariant in
    let first = inv.1 in
    let later = c.add_stateroot.ensures.reason.later in
    let listed = c.args.listed.now in
    let names = c.as_slice-name-items.result.now in
    let i = c.loop-name.name-index in
    let x = c.name-item.result in (
      IsQuiet-trans _ _ _ _ _ _ _ _ _ inv.0 c.add_stateroot.ensures.quiet,
      omega (arith, first, later),
      λ v told. gathered_then (IsUnlisted listed) (InFirst listed v.now names i) (IsThere (IsUnlistedIn listed x) v.now) _ _ _ _ (inv.2 v told) (c.in_ok-add_stateroot.ensures.told v (inv.0.view ∙ told)) (in_more listed v.now names i x c.loop-name-test.true c.name-item.is),
    )

pub returns-clause-told : goal.returns-clause-told
returns-clause-told g c = λ v told.
    let listed = c.args.listed.now in
    let names = c.as_slice-name-items.result.now in
    let listing = subst (IsListing v.now (folder_path Deploy)) (sym c.as_slice-name-items.ensures) (subst (λ p. IsListing v.now p c.in_ok-names.names) c.in_ok-stateroots.ensures (c.in_ok-names.ensures.told v told)) in
    gathered_less (IsUnlisted listed) (InFirst listed v.now names c.loop-name.name-index) (IsThere (IsUnlisted listed) v.now) _ _ (c.loop-name.invariant.2 v told) (in_all v.now (g.met.F.Fs.tree c.args.fs.now v told) listed names c.loop-name.name-index c.loop-name-test.false listing)
