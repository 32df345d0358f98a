use Rattle.std.proofs.Common.{◌≡◌, ◌∙◌, sym, ap, arith, Some, None}
use Rattle.obj_store.proofs.ListLemmas.{file_long, file_front, file_back, one_kind}
use Rattle.obj_store.proofs.listing.object_of.Goals as goal

pub returns-then-file-lt62-clause-all : goal.returns-then-file-lt62-clause-all
returns-then-file-lt62-clause-all c = λ o sum begins is.
    let long = file_long o sum c.args.file.now is in
    let short = c.if-file-lt62.true in
    absurd (omega (arith, long, short))

pub returns-in_err-kind-clause-all : goal.returns-in_err-kind-clause-all
returns-in_err-kind-clause-all c = λ o sum begins is. absurd (c.in_err-kind.ensures o.kind (c.split_at.ensures.back ∙ file_back o sum c.args.file.now is))

pub returns-in_err-csum-clause-all : goal.returns-in_err-csum-clause-all
returns-in_err-csum-clause-all c = λ o sum begins is.
    let n : None ≡ Some o.csum = c.in_err-csum.ensures.all o.csum sum begins (c.split_at.ensures.front ∙ file_front o sum c.args.file.now is) in
    cc

pub returns-clause-all : goal.returns-clause-all
returns-clause-all c = λ o sum begins is.
    let e : Some c.in_ok-csum.csum ≡ Some o.csum = c.in_ok-csum.ensures.all o.csum sum begins (c.split_at.ensures.front ∙ file_front o sum c.args.file.now is) in
    let s : c.in_ok-csum.csum ≡ o.csum = cc in
    let k = one_kind c.in_ok-kind.kind o.kind (sym c.in_ok-kind.ensures ∙ c.split_at.ensures.back ∙ file_back o sum c.args.file.now is) in
    ap Some (ap (λ x. record { csum = x; kind = c.in_ok-kind.kind }) s ∙ ap (λ y. record { csum = o.csum; kind = y }) k)
