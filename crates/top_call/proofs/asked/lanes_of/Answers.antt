use Rattle.top_call.proofs.asked.lanes_of.Goals as goal

pub returns-in-Err-clause-fault : goal.returns-in-Err-clause-fault
returns-in-Err-clause-fault c = c.fault_of.ensures.fault c.args.bytes.now c.in-Err.ensures.answer

pub returns-in-Err-clause-exact : goal.returns-in-Err-clause-exact
returns-in-Err-clause-exact c = λ lanes script. c.fault_of.ensures.memory (c.in-Err.ensures.exact lanes script)
