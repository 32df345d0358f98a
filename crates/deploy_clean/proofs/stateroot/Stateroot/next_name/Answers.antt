use Rattle.std.proofs.Common.{◌≡◌, false, true, sym, ◌∙◌, subst}
use Rattle.deploy_clean.specs.NextName.{IsNextName}
use Rattle.deploy_clean.specs.Unlisted.{IsUnlistedName}
use Rattle.deploy_clean.specs.declared.stateroot.NextName.TheVariants.{Other, Unlisted}
use Rattle.deploy_clean.proofs.Lasts.{last_first}
use Rattle.deploy_clean.proofs.stateroot.Stateroot.next_name.Goals as goal

pub returns-then-not-is_unlisted : goal.returns-then-not-is_unlisted
returns-then-not-is_unlisted c =
    subst (λ o. IsNextName c.args.listed.now o Other) c.self.view_is (
      c.in-Some.name.now,
      last_first c.self.inside.names.items c.deref.result.now c.in-Some.name.now c.deref.ensures.value c.in-Some.ensures.value,
      λ is. let n : false ≡ true = sym c.if-not-is_unlisted.true ∙ c.in_ok-is_unlisted.ensures.1 (subst (λ n. IsUnlistedName c.args.listed.now c.self.inside.os n) (sym c.as_slice.ensures.value) is) in cc,
    )

pub returns : goal.returns
returns c =
    subst (λ o. IsNextName c.args.listed.now o (Unlisted c.in_ok-at.at)) c.self.view_is
    (record {
      name = c.in-Some.name.now;
      first = last_first c.self.inside.names.items c.deref.result.now c.in-Some.name.now c.deref.ensures.value c.in-Some.ensures.value;
      unlisted = subst (λ n. IsUnlistedName c.args.listed.now c.self.inside.os n) c.as_slice.ensures.value (c.in_ok-is_unlisted.ensures.0 c.if-not-is_unlisted.false);
      at = c.in_ok-at.ensures;
    })
