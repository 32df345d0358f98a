use Rattle.std.proofs.Common.{◌≡◌, length, get_or, sym, subst}
use Rattle.ost_types.specs.declared.object.Kind.TheVariants as kinds
use Rattle.repo_model.specs.Trees.{name_of}
use Rattle.prune_mark.specs.Marking.{State}
use Rattle.prune_mark.proofs.Steps.{commit_stepped, commit_told, refused}
use Rattle.prune_mark.proofs.marking.Marking.look_into_commit.Goals as goal

pub returns-in_ok-open_commit-in-Ok-clause-told : goal.returns-in_ok-open_commit-in-Ok-clause-told
returns-in_ok-open_commit-in-Ok-clause-told g c = λ v roots is known.
    let at = subst (λ (t : State). get_or t.found t.next c.index.result.now ≡ c.index.result.now) c.self.view_is (sym c.index.ensures) in
    let long = subst (λ (t : State). length t.flags ≡ length t.names) c.self.view_is c.self.invariant.0 in
    commit_told v.now roots c.args.self.now c.open_commit.new.self c.index.result.now c.in-Ok.links c.requires at long (c.in-Ok.ensures.told v is) c.in_ok-open_commit-in-Ok.ensures.ok known

pub returns-in_ok-open_commit-in-Ok-clause-stepped : goal.returns-in_ok-open_commit-in-Ok-clause-stepped
returns-in_ok-open_commit-in-Ok-clause-stepped g c =
    let long = subst (λ (t : State). length t.flags ≡ length t.names) c.self.view_is c.self.invariant.0 in
    commit_stepped c.args.self.now c.open_commit.new.self c.index.result.now c.in-Ok.links c.requires long c.in_ok-open_commit-in-Ok.ensures.ok

pub returns-in-Err-clause-told : goal.returns-in-Err-clause-told
returns-in-Err-clause-told g c = λ v roots is known.
    let at = subst (λ (t : State). get_or t.found t.next c.index.result.now ≡ c.index.result.now) c.self.view_is (sym c.index.ensures) in
    refused {T = Unit {0}} v.now c.args.limits.now.content (name_of kinds.Commit c.index.result.now.commit) (λ x. ⊥) c.args.self.now.names c.args.self.now.flags
    (known.found_marked c.index.result.now.distance c.index.result.now.commit (c.args.self.now.next, c.requires, at))
    c.in-Err.fault
    (c.in-Err.ensures.told v is)
