use Rattle.std.proofs.Common.{Ok, sym, subst}
use Rattle.ost_types.specs.Parse.{IsParsed}
use Rattle.repo_layout.specs.Paths.{deploy_path}
use Rattle.repo_layout.proofs.paths.deploy_path.Goals as goal

pub known_path-requires : goal.known_path-requires
known_path-requires c = let p = deploy_path c.args.os.now c.args.commit.now c.args.serial in (p, subst (λ t. IsParsed t (Ok p)) (sym c.as_slice-2.ensures) c.in_ok-deploy_text.ensures)

pub returns : goal.returns
returns c = let p = deploy_path c.args.os.now c.args.commit.now c.args.serial in c.known_path.ensures p (subst (λ t. IsParsed t (Ok p)) (sym c.as_slice-2.ensures) c.in_ok-deploy_text.ensures)
