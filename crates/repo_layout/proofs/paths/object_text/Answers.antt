use Rattle.std.proofs.Common.{subst}
use Rattle.ost_types.specs.Csum.{IsHexSum}
use Rattle.repo_layout.proofs.KnownPaths.{parsed, object-known}
use Rattle.repo_layout.proofs.Texts.{object-text}
use Rattle.repo_layout.proofs.paths.object_text.Goals as goal

pub returns : goal.returns
returns c =
    let name = c.args.name.now in
    parsed _ _ (object-known name.kind name.csum (subst IsHexSum c.to_hex-digits.ensures.value c.to_hex-digits.ensures.digits))
    (object-text name.kind name.csum _ _ _ _ _ _ _ _ _ c.to_hex-digits.ensures.value c.split_at.ensures.front c.split_at.ensures.back c.ending.ensures c.in_ok-append-3.ensures.ok c.in_ok-append-2.ensures.ok c.in_ok-push.ensures.ok c.in_ok-append.ensures.ok c.in_ok-text.ensures)
