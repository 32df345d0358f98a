use Rattle.std.proofs.Common.{Ok, sym, subst}
use Rattle.ost_types.specs.Parse.{IsParsed}
use Rattle.repo_layout.specs.Paths.{mark_path}
use Rattle.repo_layout.proofs.paths.mark_path.Goals as goal

pub known_path-requires : goal.known_path-requires
known_path-requires c = let p = mark_path c.args.commit.now in (p, subst (λ t. IsParsed t (Ok p)) (sym c.as_slice-2.ensures) c.in_ok-mark_text.ensures)

pub returns : goal.returns
returns c = let p = mark_path c.args.commit.now in c.known_path.ensures p (subst (λ t. IsParsed t (Ok p)) (sym c.as_slice-2.ensures) c.in_ok-mark_text.ensures)
