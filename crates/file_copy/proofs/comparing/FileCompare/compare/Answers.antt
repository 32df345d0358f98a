use Rattle.std.proofs.Common.{arith, sym, ◌∙◌, ap, subst, length}
use Rattle.std.proofs.lemmas.Result.{err_from_is_err_and}
use Rattle.file_copy.specs.Comparing.{Agree, Comparing, needs_in}
use Rattle.file_copy.proofs.CompareLemmas.{known_as, piece_goes, piece_tells, piece_whole, tells, went, whole_as}
use Rattle.file_copy.proofs.comparing.FileCompare.compare.Goals as goal

pub returns-in_err-first-clause-fails : goal.returns-in_err-first-clause-fails
returns-in_err-first-clause-fails g c = λ v told.
    let agree = subst (λ (t : Comparing). Agree v.now t.one t.other c.args.size c.args.at) (sym c.self.view_is) (c.requires.needs v told) in
    let end = c.piece_end-end.ensures in
    let error = err_from_is_err_and c.from_residual.result c.from_residual.ensures.1 in
    rw (error.1, error.2) (c.in_err-first.ensures.told v told agree.first agree.of_one (omega (arith, agree.as_long, end.within)))

pub returns-in_err-second-clause-fails : goal.returns-in_err-second-clause-fails
returns-in_err-second-clause-fails g c = λ v told.
    let agree = subst (λ (t : Comparing). Agree v.now t.one t.other c.args.size c.args.at) (sym c.self.view_is) (c.requires.needs v told) in
    let end = c.piece_end-end.ensures in
    let error = err_from_is_err_and c.from_residual-in_err-second.result c.from_residual-in_err-second.ensures.1 in
    rw (error.1, error.2) (c.in_err-second.ensures.told v (c.in_ok-first.ensures.quiet.view ∙ told) agree.second agree.of_other (omega (arith, agree.no_longer, end.within)))

pub returns-clause-answer : goal.returns-clause-answer
returns-clause-answer g c = λ v told.
    let agree = subst (λ (t : Comparing). Agree v.now t.one t.other c.args.size c.args.at) (sym c.self.view_is) (c.requires.needs v told) in
    let end = c.piece_end-end.ensures in
    let one = c.as_slice.ensures ∙ c.in_ok-first.ensures.told v told agree.first agree.of_one (omega (arith, agree.as_long, end.within)) in
    let other = c.as_slice-2.ensures ∙ c.in_ok-second.ensures.told v (c.in_ok-first.ensures.quiet.view ∙ told) agree.second agree.of_other (omega (arith, agree.no_longer, end.within)) in
    tells c.args.self.now v.now c.compared.result c.go.result c.go.ensures.turn (subst (λ (t : Comparing). needs_in c.compared.result t v.now) c.self.view_is (piece_tells v.now _ c.args.size c.args.at _ agree end.grows end.within _ _ one other _ c.compared.ensures.value))

pub returns-clause-after : goal.returns-clause-after
returns-clause-after g c = λ v told.
    let agree = subst (λ (t : Comparing). Agree v.now t.one t.other c.args.size c.args.at) (sym c.self.view_is) (c.requires.needs v told) in
    let end = c.piece_end-end.ensures in
    let one = c.as_slice.ensures ∙ c.in_ok-first.ensures.told v told agree.first agree.of_one (omega (arith, agree.as_long, end.within)) in
    let other = c.as_slice-2.ensures ∙ c.in_ok-second.ensures.told v (c.in_ok-first.ensures.quiet.view ∙ told) agree.second agree.of_other (omega (arith, agree.no_longer, end.within)) in
    known_as c.args.self.now c.go.new.self v.now c.compared.result c.go.ensures.task (subst (λ (t : Comparing). needs_in c.compared.result t v.now) c.self.view_is (piece_tells v.now _ c.args.size c.args.at _ agree end.grows end.within _ _ one other _ c.compared.ensures.value))

pub returns-clause-pieces : goal.returns-clause-pieces
returns-clause-pieces g c = λ v told.
    let agree = subst (λ (t : Comparing). Agree v.now t.one t.other c.args.size c.args.at) (sym c.self.view_is) (c.requires.needs v told) in
    let end = c.piece_end-end.ensures in
    let one = c.as_slice.ensures ∙ c.in_ok-first.ensures.told v told agree.first agree.of_one (omega (arith, agree.as_long, end.within)) in
    let other = c.as_slice-2.ensures ∙ c.in_ok-second.ensures.told v (c.in_ok-first.ensures.quiet.view ∙ told) agree.second agree.of_other (omega (arith, agree.no_longer, end.within)) in
    whole_as c.args.self.now c.go.new.self _ _ c.requires.phase c.go.ensures.task
    (piece_whole v.now (record { one = c.self.inside.one; other = c.self.inside.other; phase = c.self.inside.phase }) c.args.size c.args.at _ agree end.grows end.within _ _ one other _ c.compared.ensures.value end.value)

pub returns-clause-stepped : goal.returns-clause-stepped
returns-clause-stepped g c =
    let end = c.piece_end-end.ensures in
    let first = c.in_ok-first.ensures in
    went c.args.self.now c.go.new.self _ _ _ c.requires.phase c.go.ensures.task c.go.ensures.turn
    (piece_goes c.args.size c.args.at _ _ _ _ c.compared.ensures.value (omega (arith, first.some, ap length c.as_slice.ensures)) (omega (arith, first.within, ap length c.as_slice.ensures)) end.value)
