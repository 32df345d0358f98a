use Rattle.std.proofs.Common.{◌∙◌, rules}
use Rattle.top_call.specs.Top.{IsFaultBy, IsStopped}
use Rattle.top_call.proofs.Completing.{complete, memory_printed, no_fault_but_memory, refused_of}
use Rattle.top_call.proofs.Outcomes.{early_printed, failed_printed, fault_printed, no_fault, no_line_printed, open_printed, output_printed, script_printed, some_fault, unused_printed, usage_early, usage_printed}
use Rattle.top_call.proofs.Stops.{disk_rose}
use Rattle.top_call.proofs.top.ostree.Goals as goal

pub returns-clause-words : goal.returns-clause-words
returns-clause-words g c =
    let run = c.run-fs.ensures in
    let printed = c.print-fault.ensures.fault in
    record {
      usage = λ is. usage_early _ _ _ _ _ _ run.early (usage_printed _ _ printed is);
      no_line = λ none. no_line_printed _ _ printed (run.words none);
      early = early_printed _ _ _ printed run.early;
      script = λ all lanes e told script. script_printed e _ _ printed (run.script all lanes e told script);
      asked = λ f is. run.asked f (open_printed f _ _ printed is);
    }

pub returns-clause-disk : goal.returns-clause-disk
returns-clause-disk g c =
    let run = c.run-fs.ensures in
    let printed = c.print-fault.ensures.fault in
    record {
      by = fault_printed (IsFaultBy _ _ _) _ _ printed tt run.by;
      stop = λ v told. fault_printed (IsStopped v.now) _ _ printed tt (run.stop v told);
      still = λ v told. fault_printed _ _ _ printed tt (run.still v told);
      unused = unused_printed _ _ c.run-fs.result.fault c.run-fs.result.replies.items run.unused
          (λ none empty. c.print-fault.ensures.silent none (c.deref.ensures.value ∙ empty));
      undone = λ v told. unused_printed _ _ c.run-fs.result.fault c.run-fs.result.replies.items (some_fault _ c.run-fs.result.fault (run.undone v told))
          (λ none empty. c.print-fault.ensures.silent none (c.deref.ensures.value ∙ empty));
      caused = run.caused;
    }

pub returns-clause-ran : goal.returns-clause-ran
returns-clause-ran g c = λ v told ran. c.run-fs.ensures.ran v told (no_fault _ c.run-fs.result.fault _ _ _ c.print-fault.ensures.fault c.run-fs.ensures.unused ran)

pub returns-clause-answered : goal.returns-clause-answered
returns-clause-answered g c = λ ran. c.run-fs.ensures.answered (no_fault _ c.run-fs.result.fault _ _ _ c.print-fault.ensures.fault c.run-fs.ensures.unused ran)

pub returns-clause-input : goal.returns-clause-input
returns-clause-input g c =
    let run = c.run-fs.ensures in
    record {
      read = run.read;
      unread = run.unread;
      source_count = run.later;
      quiet = λ ran. run.quiet (no_fault _ c.run-fs.result.fault _ _ _ c.print-fault.ensures.fault run.unused ran);
      failed = failed_printed _ _ _ c.print-fault.ensures.fault run.failed;
    }

pub returns-clause-output : goal.returns-clause-output
returns-clause-output g c = record {
  output = λ had told. output_printed had c.print-fault.result _ c.run-fs.result.replies.items _ _ _ c.deref.ensures.value (c.print-fault.ensures.prints had told);
  sink_count = c.print-fault.ensures.later;
}

pub returns-clause-complete : goal.returns-clause-complete
returns-clause-complete g c = λ v told asked good unfailed unrisen taken.
    let run = c.run-fs.ensures in
    let unfaulted = no_fault_but_memory _ _ v.now _ _ _ _ asked good unfailed unrisen c.run-fs.result.fault (λ is. usage_early _ _ _ _ _ _ run.early is) (refused_of _ _ _ run.early) run.script (disk_rose _ _ _ c.run-fs.result.fault run.by) (run.stop v told) in
    complete c.print-fault.result _ _ _ _ _ _ _ _ (memory_printed _ _ c.print-fault.ensures.fault unfaulted) run.caused
    run.later unfailed unrisen taken (search rules)
