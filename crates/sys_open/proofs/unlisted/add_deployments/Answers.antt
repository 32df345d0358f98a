use Rattle.std.proofs.Common.{sym, subst}
use Rattle.fs_trait.specs.Effect.{IsListing}
use Rattle.deploy_clean.specs.Unlisted.{IsUnlisted, deployments}
use Rattle.sys_open.specs.LeftOver.{IsThere, IsUnlistedAt, IsUnlistedIn}
use Rattle.sys_open.proofs.Gathering.{AtFirst, at_all, at_more, gathered_less, gathered_then, none_at_first, none_gathered}
use Rattle.sys_open.proofs.unlisted.add_deployments.Goals as goal

pub loop-name-init : goal.loop-name-init
loop-name-init g c = none_gathered (IsUnlisted c.args.listed.now) (AtFirst c.args.listed.now c.args.os.now c.as_slice-name-items.result.now 0) _ (none_at_first c.args.listed.now c.args.os.now c.as_slice-name-items.result.now)

pub loop-name-preserved : goal.loop-name-preserved
loop-name-preserved g c =
    let listed = c.args.listed.now in
    let os = c.args.os.now in
    let names = c.as_slice-name-items.result.now in
    let i = c.loop-name.name-index in
    let x = c.name-item.result in
    gathered_then (IsUnlisted listed) (AtFirst listed os names i) (IsUnlistedAt listed os x) _ _ _ _ c.loop-name.invariant c.in_ok-add_named.ensures (at_more listed os names i x c.loop-name-test.true c.name-item.is)

pub returns-clause-told : goal.returns-clause-told
returns-clause-told g c = λ v told.
    let listed = c.args.listed.now in
    let os = c.args.os.now in
    let names = c.as_slice-name-items.result.now in
    let listing = subst (IsListing v.now (deployments os)) (sym c.as_slice-name-items.ensures) (subst (λ p. IsListing v.now p c.in_ok-names.names) c.in_ok-folder.ensures (c.in_ok-names.ensures.told v told)) in
    gathered_less (IsUnlisted listed) (AtFirst listed os names c.loop-name.name-index) (IsThere (IsUnlistedIn listed os) v.now) _ _ c.loop-name.invariant (at_all v.now listed os names c.loop-name.name-index c.loop-name-test.false listing)
