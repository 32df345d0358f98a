use Rattle.std.proofs.Common.{◌≡◌, subst, sym}
use Rattle.std.specs.Prelude.{IfSome}
use Rattle.repo_layout.specs.RefName.{IsRefName}
use Rattle.repo_layout.specs.Paths.{ref_path}
use Rattle.repo_layout.specs.Refs.{ShowsCommit}
use Rattle.ref_room.proofs.Names.{ref_path-one}
use Rattle.sys_open.proofs.Holding.{entered_has, entered_of}
use Rattle.sys_open.proofs.refs.enter.Goals as goal

pub returns-in_ok-insert-in-Some-clause-right : goal.returns-in_ok-insert-in-Some-clause-right
returns-in_ok-insert-in-Some-clause-right c = λ d shown are.
    let at = subst (λ n. IfSome n (λ name. IsRefName name × (ref_path name ≡ c.args.at.now))) c.in-Some.is c.in_ok-name.ensures.some in
    entered_of c.args.found.now.refs c.insert.new.self.refs c.in-Some.name c.args.commit c.in_ok-insert-in-Some.ensures d (subst (λ p. ShowsCommit d p c.args.commit) (sym at.1) shown) are

pub returns-in_ok-insert-in-Some-clause-there : goal.returns-in_ok-insert-in-Some-clause-there
returns-in_ok-insert-in-Some-clause-there c =
    let at = subst (λ n. IfSome n (λ name. IsRefName name × (ref_path name ≡ c.args.at.now))) c.in-Some.is c.in_ok-name.ensures.some in
    entered_has c.args.found.now.refs c.insert.new.self.refs c.in-Some.name c.args.commit c.in_ok-insert-in-Some.ensures c.args.at.now at.1 ref_path-one
