use Rattle.std.proofs.Common.{◌<◌, ◌^◌, rules, sym, ◌∙◌, subst}
use Rattle.ost_types.specs.Csum.{IsHexSum}
use Rattle.ost_types.specs.Text.{IsName}
use Rattle.deployment_build.proofs.PathBounds.{if_ok_as, origin-name, origin-text}
use Rattle.deployment_build.proofs.names.origin_name.Goals as goal

pub known_name-requires : goal.known_name-requires
known_name-requires c =
    let text = origin-text c.args.id.now _ _ _ _ _ _ c.to_hex.ensures.value (c.as_bytes.ensures.value ∙ c.in_ok-to_string.ensures.ok) c.in_ok-append-2.ensures.ok c.in_ok-append.ensures.ok c.in_ok-push.ensures.ok c.in_ok-text.ensures in
    let less : c.args.id.now.serial < 2 ^ 32 = search rules in
    subst IsName (sym (c.as_slice.ensures ∙ text)) (origin-name c.args.id.now (subst IsHexSum c.to_hex.ensures.value c.to_hex.ensures.digits) less)

pub returns-clause-value : goal.returns-clause-value
returns-clause-value c =
    let text = origin-text c.args.id.now _ _ _ _ _ _ c.to_hex.ensures.value (c.as_bytes.ensures.value ∙ c.in_ok-to_string.ensures.ok) c.in_ok-append-2.ensures.ok c.in_ok-append.ensures.ok c.in_ok-push.ensures.ok c.in_ok-text.ensures in
    if_ok_as c.known_name.result _ _ (c.as_slice.ensures ∙ text) c.known_name.ensures.value
