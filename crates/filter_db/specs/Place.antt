-- Places: the local ports and the remote endpoints of a segment. It states no standard.
use Rattle.std.specs.Prelude.{Bool, false, ◌&&◌, ◌==◌}
use Rattle.wire.specs.Addr.{same_addr, same_kind}
use Rattle.filter_db.specs.declared.place.Place.{Place}
use Rattle.filter_db.specs.declared.place.Place.TheVariants.{Local, Remote}

-- equality as a test: a remote endpoint is one by its address and the kind of tunnel together
abbrev pub same_place : Place → Place → Bool
same_place (Local p) (Local q) = p == q
same_place (Local p) (Remote l b) = false
same_place (Remote k a) (Local q) = false
same_place (Remote k a) (Remote l b) = same_kind k l && same_addr a b

-- no place: port 0, which no port has
abbrev pub no_place : Place
no_place = Local 0
