use Rattle.std.proofs.Common.{◌≡◌, sym, ◌∙◌, ap, map, Some, None}
use Rattle.top_call.specs.declared.fault.TopFault.TheVariants as fault
use Rattle.top_call.proofs.Completing.{caused_parts, caused_unused}
use Rattle.top_call.proofs.Rans.{answered_by_words, by_words, stop_at}
use Rattle.top_call.proofs.Outcomes.{no_line, no_script, open_refused, same_fault, told_usage, works_same}
use Rattle.top_call.proofs.Stops.{none_by, opened_by, refused_by}
use Rattle.top_call.proofs.top.run.Goals as goal

pub returns-in-Ok-run_asked-clause-words : goal.returns-in-Ok-run_asked-clause-words
returns-in-Ok-run_asked-clause-words g c = λ none. absurd (no_line _ _ _ c.in-Ok.ensures.lanes none)

pub returns-in-Err-run_asked-clause-words : goal.returns-in-Err-run_asked-clause-words
returns-in-Err-run_asked-clause-words g c = λ none. absurd (no_line _ _ _ c.in-Ok.ensures.lanes none)

pub returns-in-Ok-run_asked-clause-ran : goal.returns-in-Ok-run_asked-clause-ran
returns-in-Ok-run_asked-clause-ran g c = λ v told fault.
    let o = c.outcome_of.ensures in
    by_words _ _ c.standard.result g.F.Fs.view g.F.Fs.clock g.F.Fs.was v (g.F.Fs.clock c.args.fs) _ c.in-Ok-run_asked.parts.fs c.outcome_of.result.fs _ _ _ _ _ _
    (record { objects = c.standard.ensures.objects; paths = c.standard.ensures.paths; content = c.standard.ensures.content })
    c.in-Ok.ensures.lanes o.fs o.history o.pending (ap (map (λ replies. replies.items)) o.replies) (c.in-Ok-run_asked.ensures.ran v told)

pub returns-in-Ok-run_asked-clause-answered : goal.returns-in-Ok-run_asked-clause-answered
returns-in-Ok-run_asked-clause-answered g c = λ fault.
    let o = c.outcome_of.ensures in
    answered_by_words _ _ c.standard.result g.F.Fs.view g.F.Fs.faults g.F.Watch.refused _ c.in-Ok-run_asked.parts.fs c.outcome_of.result.fs _ _ _ _ _ _
    (record { objects = c.standard.ensures.objects; paths = c.standard.ensures.paths; content = c.standard.ensures.content })
    c.in-Ok.ensures.lanes o.fs o.history o.pending (ap (map (λ replies. replies.items)) o.replies) c.in-Ok-run_asked.ensures.answered

pub returns-in-Err-clause-script : goal.returns-in-Err-clause-script
returns-in-Err-clause-script g c = λ all lanes e told script is.
    no_script _ _ _ _ c.in-Err.fault e c.in-Err.ensures.fault (c.in-Err.ensures.exact all lanes told script) (same_fault _ _ (sym c.stopped-in-Err.ensures.fault ∙ is))

pub returns-in-Err-run_asked-clause-stop : goal.returns-in-Err-run_asked-clause-stop
returns-in-Err-run_asked-clause-stop g c = λ v told.
    stop_at c.stopped.result.fault c.in-Err-run_asked.fault c.standard.result v.now c.stopped.ensures.fault (record { objects = c.standard.ensures.objects; paths = c.standard.ensures.paths; content = c.standard.ensures.content }) (c.in-Err-run_asked.ensures.told v told)

pub returns-in-Ok-run_asked-clause-caused : goal.returns-in-Ok-run_asked-clause-caused
returns-in-Ok-run_asked-clause-caused g c =
    let o = c.outcome_of.ensures in
    caused_parts g.F.Fs.faults (g.F.Fs.faults c.args.fs) c.in-Ok-run_asked.parts.fs c.outcome_of.result.fs _ _ o.fs (ap (map (λ replies. replies.items)) o.replies) c.in-Ok-run_asked.ensures.caused

pub returns-in-Err-run_asked-clause-caused : goal.returns-in-Err-run_asked-clause-caused
returns-in-Err-run_asked-clause-caused g c = caused_unused _ _ _ c.stopped.ensures.unused.replies_are

pub returns-in-Err-clause-caused : goal.returns-in-Err-clause-caused
returns-in-Err-clause-caused g c = caused_unused _ _ _ c.stopped-in-Err.ensures.unused.replies_are

pub returns-in-Err-clause-words : goal.returns-in-Err-clause-words
returns-in-Err-clause-words g c = λ none. told_usage _ _ _ _ c.in-Err.fault c.stopped-in-Err.result.fault c.stopped-in-Err.ensures.fault c.in-Err.ensures.fault none

pub returns-in-Ok-run_asked-clause-asked : goal.returns-in-Ok-run_asked-clause-asked
returns-in-Ok-run_asked-clause-asked g c = λ f is. absurd (let n : None ≡ Some (fault.Open f) = sym c.outcome_of.ensures.fault ∙ is in cc)

pub returns-in-Err-run_asked-clause-asked : goal.returns-in-Err-run_asked-clause-asked
returns-in-Err-run_asked-clause-asked g c = λ f is. (_, c.in-Ok.ensures.lanes)

pub returns-in-Err-clause-asked : goal.returns-in-Err-clause-asked
returns-in-Err-clause-asked g c = λ f is. absurd (open_refused _ _ _ _ c.in-Err.fault f (same_fault _ _ (sym c.stopped-in-Err.ensures.fault ∙ is)) c.in-Err.ensures.fault)

pub returns-in-Err-clause-undone : goal.returns-in-Err-clause-undone
returns-in-Err-clause-undone g c = λ v told. works_same g.F.Fs.view g.F.Fs.clock g.F.Fs.was c.args.fs c.stopped-in-Err.result.fs v c.stopped-in-Err.ensures.fs told c.stopped-in-Err.result.fault

pub returns-in-Ok-run_asked-clause-by : goal.returns-in-Ok-run_asked-clause-by
returns-in-Ok-run_asked-clause-by g c = none_by _ _ _ c.outcome_of.result.fault c.outcome_of.ensures.fault

pub returns-in-Err-run_asked-clause-by : goal.returns-in-Err-run_asked-clause-by
returns-in-Err-run_asked-clause-by g c = opened_by g.F.Fs.faults g.F.Watch.refused (g.F.Fs.faults c.args.fs) c.in-Err-run_asked.fs c.stopped.result.fs c.stopped.result.fault c.in-Err-run_asked.fault c.stopped.ensures.fault c.stopped.ensures.fs c.in-Err-run_asked.ensures.by

pub returns-in-Err-clause-by : goal.returns-in-Err-clause-by
returns-in-Err-clause-by g c = refused_by _ _ _ _ _ _ _ c.stopped-in-Err.result.fault c.in-Err.fault c.stopped-in-Err.ensures.fault c.in-Err.ensures.fault
