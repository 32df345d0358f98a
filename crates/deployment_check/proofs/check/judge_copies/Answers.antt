use Rattle.std.proofs.Common.{Some, None, subst}
use Rattle.kernel_copy.specs.Copies.{IsFirstOther}
use Rattle.deployment_check.proofs.check.judge_copies.Goals as goal

pub returns-in-Some-clause-told : goal.returns-in-Some-clause-told
returns-in-Some-clause-told g c = λ v limits tree told has.
    let os = c.args.id.now.os in
    let found = subst (IsFirstOther v.now os c.kernel_files-files.result) c.in-Some.is (c.in_ok-path.ensures.told v told) in
    record {
      tree = tree;
      kernel = c.args.kernel;
      has_etc = has;
      first = subst (λ files. IsFirstOther v.now os files (Some c.in-Some.path)) c.kernel_files-files.ensures found;
    }

pub returns-clause-told : goal.returns-clause-told
returns-clause-told g c = λ v limits tree told has.
    let os = c.args.id.now.os in
    let found = subst (IsFirstOther v.now os c.kernel_files-files.result) c.in-None.is (c.in_ok-path.ensures.told v told) in
    record {
      tree = tree;
      kernel = c.args.kernel;
      has = has.deployed.can.has;
      boots = has.deployed.can.boots;
      checkout = has.deployed.checkout;
      within = has.deployed.within;
      etc = has.etc;
      copies = subst (λ files. IsFirstOther v.now os files None) c.kernel_files-files.ensures found;
    }
