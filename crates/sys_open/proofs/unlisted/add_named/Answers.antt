use Rattle.std.proofs.Common.{◌≡◌, true, false, sym, ◌∙◌, subst}
use Rattle.deploy_clean.specs.Unlisted.{IsUnlisted, IsUnlistedName}
use Rattle.sys_open.specs.LeftOver.{IsUnlistedAt}
use Rattle.sys_open.proofs.Gathering.{named_one, none_gathered, one_gathered, unlisted_one}
use Rattle.sys_open.proofs.unlisted.add_named.Goals as goal

pub returns-in_ok-push : goal.returns-in_ok-push
returns-in_ok-push c =
    let listed = c.args.listed.now in
    let os = c.args.os.now in
    let name = c.args.name.now in
    one_gathered (IsUnlisted listed) (IsUnlistedAt listed os name) _ _ c.in_ok-at.at c.in_ok-push.ensures.items
    (unlisted_one listed os name c.in_ok-at.at c.in_ok-at.ensures (subst (IsUnlistedName listed os) c.as_slice.ensures.value (c.in_ok-is_unlisted.ensures.0 c.if-is_unlisted.true)))
    (λ q at. at.0 ∙ sym c.in_ok-at.ensures)

pub returns-else-is_unlisted : goal.returns-else-is_unlisted
returns-else-is_unlisted c =
    let listed = c.args.listed.now in
    let os = c.args.os.now in
    let name = c.args.name.now in
    none_gathered (IsUnlisted listed) (IsUnlistedAt listed os name) _
    (λ q at. let n : false ≡ true = sym c.if-is_unlisted.false ∙ c.in_ok-is_unlisted.ensures.1 (subst (IsUnlistedName listed os) (sym c.as_slice.ensures.value) (named_one listed os name q at)) in cc)
