use Rattle.std.proofs.Common.{◌∙◌}
use Rattle.repo_layout.specs.Paths.{stage_path}
use Rattle.repo_layout.proofs.KnownPaths.{parsed, stage-known}
use Rattle.repo_layout.proofs.Texts.{stage-text}
use Rattle.repo_layout.proofs.paths.stage_path.Goals as goal

pub known_path-requires : goal.known_path-requires
known_path-requires c = (stage_path c.args.actor, parsed _ _ (stage-known c.args.actor c.requires) (stage-text c.args.actor _ (c.as_bytes.ensures.value ∙ c.in_ok-text.ensures.ok)))

pub returns : goal.returns
returns c = c.known_path.ensures (stage_path c.args.actor) (parsed _ _ (stage-known c.args.actor c.requires) (stage-text c.args.actor _ (c.as_bytes.ensures.value ∙ c.in_ok-text.ensures.ok)))
