use Rattle.std.proofs.Common.{MatchOption, subst}
use Rattle.deploy_clean.specs.Unlisted.{IsIdName, IsNoId}
use Rattle.deploy_clean.proofs.NameTexts.{tested}
use Rattle.deploy_clean.proofs.named.is_unlisted_id.Goals as goal

pub returns-in-Some : goal.returns-in-Some
returns-in-Some c =
    let named = subst (λ o. MatchOption o (IsNoId c.args.os.now c.args.name.now) (IsIdName c.args.os.now c.args.name.now)) c.in-Some.is c.in_ok-read.ensures in
    tested c.args.listed.now c.args.os.now c.args.name.now c.in-Some.id c.is_listed.result c.is_listed.ensures named
