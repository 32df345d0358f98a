use Rattle.std.proofs.Common.{subst}
use Rattle.ost_types.specs.Csum.{IsHexSum}
use Rattle.repo_layout.proofs.KnownPaths.{parsed, mark-known}
use Rattle.repo_layout.proofs.Texts.{mark-text}
use Rattle.repo_layout.proofs.paths.mark_text.Goals as goal

pub returns : goal.returns
returns c =
    parsed _ _ (mark-known c.args.commit.now (subst IsHexSum c.to_hex.ensures.value c.to_hex.ensures.digits))
    (mark-text c.args.commit.now _ _ _ _ c.to_hex.ensures.value c.in_ok-append-2.ensures.ok c.in_ok-append.ensures.ok c.in_ok-text.ensures)
