use Rattle.endpoint_core.proofs.endpoint.Endpoint.open.Goals as goal

pub returns : goal.returns
returns c = λ i. record { bridges = c.in_ok-state.ensures.state 0 i; counts = c.in_ok-counts.ensures i; moment = 0 }
