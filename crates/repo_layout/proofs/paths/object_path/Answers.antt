use Rattle.std.proofs.Common.{Ok, sym, subst}
use Rattle.ost_types.specs.Parse.{IsParsed}
use Rattle.repo_layout.specs.Paths.{object_path}
use Rattle.repo_layout.proofs.paths.object_path.Goals as goal

pub known_path-requires : goal.known_path-requires
known_path-requires c = let p = object_path c.args.name.now.kind c.args.name.now.csum in (p, subst (λ t. IsParsed t (Ok p)) (sym c.as_slice-2.ensures) c.in_ok-object_text.ensures)

pub returns : goal.returns
returns c = let p = object_path c.args.name.now.kind c.args.name.now.csum in c.known_path.ensures p (subst (λ t. IsParsed t (Ok p)) (sym c.as_slice-2.ensures) c.in_ok-object_text.ensures)
