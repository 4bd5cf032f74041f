-- Remote endpoints by addresses alone: places, flood lists and changes.
use Rattle.std.proofs.Common.{◌≤◌, length}
use Rattle.std.specs.List.{AllByRecursion}
use Rattle.wire.specs.Addr.{IsAddr}
use Rattle.overlay.specs.Flood.{Entries}
use Rattle.overlay.specs.declared.flood.remote.Remote.{Remote as Endpoint}
use Rattle.filter_db.specs.declared.place.Place.{Place}
use Rattle.filter_db.specs.declared.place.Place.TheVariants.{Local, Remote}
use Rattle.overlay.specs.declared.settings.change.Change.{Change}
use Rattle.overlay.specs.declared.settings.change.Change.TheVariants.{AddFlood, Fix}
use Rattle.overlay.specs.declared.settings.change.Target.{Target}
use Rattle.overlay.specs.declared.settings.change.Target.TheVariants as target

-- a remote place has an address with as many octets as its family's have
abbrev pub IsFar : Place → Type 0
IsFar (Local port) = Unit {0}
IsFar (Remote kind addr) = IsAddr addr

-- so has each entry of a flood list, and there are no more than 512
abbrev pub IsFlood : Entries → Type 0
IsFlood flood = (length flood ≤ 512) × AllByRecursion (λ (r : Endpoint). IsAddr r.addr) flood

-- so has the place of a fixed entry
abbrev pub IsTarget : Target → Type 0
IsTarget (target.Local port) = Unit {0}
IsTarget (target.Remote addr tunnel) = IsAddr addr

-- so has each endpoint that a change adds
abbrev pub HasAddr : Change → Type 0
HasAddr (AddFlood vid addr tunnel) = IsAddr addr
HasAddr (Fix vid mac goal) = IsTarget goal
HasAddr c = Unit {0}
