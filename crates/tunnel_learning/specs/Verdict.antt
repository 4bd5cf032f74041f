-- Where a frame goes, or why it goes nowhere, of places in a list that was lent. It states no standard.
use Rattle.std.specs.Prelude.{List, Result, Ok, Err}
use Rattle.wire.specs.declared.ether.reason.Reason.{Reason}
use Rattle.filter_db.specs.declared.place.Place.{Place}

-- the places that were put in a list, in order, or the reason why there are none, by a result that says which
abbrev pub put_or : {A : Type 0} → List Place → Result A Reason → Result (List Place) Reason
put_or places (Ok _) = Ok places
put_or places (Err reason) = Err reason
