-- How many calls of the tables a frame or a packet makes at most, whatever stands in them. It states no standard.
use Rattle.std.specs.Prelude.{ℕ, ◌*◌, Result, Ok, Err}
use Rattle.wire.specs.declared.ether.reason.Refused.{Refused}
use Rattle.filter_db.specs.Work.{most_compared}
use Rattle.endpoint_core.specs.Arrival.{Arrival}

-- one learns where the source of a frame stands, and one looks up its destination; what comes to no segment makes none
abbrev pub most_calls : Result Arrival Refused → ℕ
most_calls (Ok x) = 2
most_calls (Err refused) = 0

-- how often these compare an address at most
abbrev pub most_compared_by : Result Arrival Refused → ℕ
most_compared_by came = most_calls came * most_compared
