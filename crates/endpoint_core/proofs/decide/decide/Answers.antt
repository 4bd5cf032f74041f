use Rattle.endpoint_core.proofs.decide.decide.Goals as goal

pub returns-in-Err-forwarded-clause-after : goal.returns-in-Err-forwarded-clause-after
returns-in-Err-forwarded-clause-after c = rw c.in-Ok.is c.in-Err-forwarded.ensures.after

pub returns-in_default-clause-after : goal.returns-in_default-clause-after
returns-in_default-clause-after c = rw c.in-Ok.is c.in_default.ensures.after

pub returns-in-Err-forwarded-clause-calls : goal.returns-in-Err-forwarded-clause-calls
returns-in-Err-forwarded-clause-calls c = rw c.in-Ok.is c.in-Err-forwarded.ensures.calls

pub returns-in-Err-forwarded-clause-compared : goal.returns-in-Err-forwarded-clause-compared
returns-in-Err-forwarded-clause-compared c = rw c.in-Ok.is c.in-Err-forwarded.ensures.compared

pub returns-in_default-clause-calls : goal.returns-in_default-clause-calls
returns-in_default-clause-calls c = rw c.in-Ok.is c.in_default.ensures.calls

pub returns-in_default-clause-compared : goal.returns-in_default-clause-compared
returns-in_default-clause-compared c = rw c.in-Ok.is c.in_default.ensures.compared
