-- What is told by the text of a change, and by the facts of a flood. It states no standard.
--     IsSound      the values of a change are such as its types have
--     one_by_one      a fact of a flood about several ports, as one of each port
--     place_told      the place that a fact of a flood is about
--     AreApart      no two facts that follow each other could be one
use Rattle.std.specs.Prelude.{◌≡◌, ◌<◌, ⊤, ℕ, ◌+◌, ◌-◌, ◌^◌, List, [], ◌∷◌, map, length, Option, Some, None}
use Rattle.std.specs.List.{range_with_len}
use Rattle.wire.specs.Octets.{IsText}
use Rattle.wire.specs.Addr.{IsAddr}
use Rattle.filter_db.specs.declared.place.Place.{Place}
use Rattle.filter_db.specs.declared.place.Place.TheVariants.{Local}
use Rattle.overlay.specs.declared.underlay.tunnels.SegmentTunnel.{SegmentTunnel}
use Rattle.overlay.specs.declared.settings.change.Change.{Change}
use Rattle.overlay.specs.declared.settings.change.Change.TheVariants.{AddFlood, RemoveFlood, Fix, Unfix, SetAgeing}
use Rattle.overlay.specs.declared.settings.change.Change.TheVariants.{SetLearning, SetMember, PortUp, PortDown}
use Rattle.overlay.specs.declared.settings.change.Change.TheVariants.{Flush, AddSegment, RemoveSegment, SetLimit}
use Rattle.overlay.specs.declared.settings.change.Target.{Target}
use Rattle.overlay.specs.declared.settings.change.Target.TheVariants as target
use Rattle.change_story.specs.Change.{other_kind}
use Rattle.event_story.specs.Neighbours.{joined}
use Rattle.event_story.specs.declared.fact.Fact.{Fact}
use Rattle.event_story.specs.declared.fact.Fact.TheVariants as facts

-- ---- changes

-- a number of 64 bits; all of a change have fewer
abbrev pub IsNumber : ℕ → Type 0
IsNumber n = n < 2 ^ 64

-- the numbers of a tunnel are
abbrev pub HasNumbers : SegmentTunnel → Type 0
HasNumbers t = IsNumber t.vni × IsNumber t.group

-- one tunnel, or two of both kinds
abbrev pub AreTunnels : List SegmentTunnel → Type 0
AreTunnels [] = ⊥
AreTunnels (t ∷ []) = HasNumbers t
AreTunnels (t ∷ u ∷ []) = HasNumbers t × HasNumbers u × (u.kind ≡ other_kind t.kind)
AreTunnels (t ∷ u ∷ others) = ⊥

-- where a fixed entry is to stand
abbrev pub IsTarget : Target → Type 0
IsTarget (target.Local port) = IsNumber port
IsTarget (target.Remote addr tunnel) = IsAddr addr

-- the values of a change are numbers, octets and addresses
abbrev pub IsSound : Change → Type 0
IsSound (AddFlood vid addr tunnel) = IsNumber vid × IsAddr addr
IsSound (RemoveFlood vid addr tunnel) = IsNumber vid × IsAddr addr
IsSound (Fix vid mac to) = IsNumber vid × IsText mac × IsTarget to
IsSound (Unfix vid mac) = IsNumber vid × IsText mac
IsSound (SetAgeing vid seconds) = IsNumber vid × IsNumber seconds
IsSound (SetLearning vid on) = IsNumber vid
IsSound (SetMember vid port egress) = IsNumber vid × IsNumber port
IsSound (PortUp port) = IsNumber port
IsSound (PortDown port) = IsNumber port
IsSound (Flush vid) = IsNumber vid
IsSound (AddSegment new) = IsNumber new.vid × AreTunnels new.tunnels × IsNumber new.limit × IsNumber new.ageing
IsSound (RemoveSegment vid) = IsNumber vid
IsSound (SetLimit vid limit) = IsNumber vid × IsNumber limit

-- ---- floods

-- the ports from one number to another
abbrev pub ports_between : ℕ → ℕ → List ℕ
ports_between first last = range_with_len first (last + 1 - first)

-- a fact of several ports as one of each of them; any other as it is
abbrev pub one_by_one : Fact → List Fact
one_by_one (facts.PortsDown first last) = map (λ port. facts.PortsDown port port) (ports_between first last)
one_by_one (facts.NoMembers first last) = map (λ port. facts.NoMembers port port) (ports_between first last)
one_by_one fact = fact ∷ []

-- the place that a fact of one place tells as left out
abbrev pub place_told : Fact → Option Place
place_told (facts.Same place) = Some place
place_told (facts.Horizon place) = Some place
place_told (facts.PortsDown first last) = Some (Local first)
place_told (facts.NoMembers first last) = Some (Local first)
place_told fact = None

-- no fact could be one with the one behind it
abbrev pub AreApart : List Fact → Type 0
AreApart [] = ⊤
AreApart (f ∷ []) = ⊤
AreApart (f ∷ g ∷ fs) = (joined f g ≡ None) × AreApart (g ∷ fs)
