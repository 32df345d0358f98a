use Rattle.repo_layout.specs.Fixed.{fixed_path}
use Rattle.repo_layout.proofs.KnownPaths.{parsed, fixed-known}
use Rattle.repo_layout.proofs.fixed.fixed_path.Goals as goal

pub known_path-requires : goal.known_path-requires
known_path-requires c = (fixed_path c.args.fixed, parsed _ _ (fixed-known c.args.fixed) c.fixed_text.ensures)

pub returns : goal.returns
returns c = c.known_path.ensures (fixed_path c.args.fixed) (parsed _ _ (fixed-known c.args.fixed) c.fixed_text.ensures)
