-- No name, place or source has a quotation mark in it.
use Rattle.std.proofs.Common.{◌≡◌, ℕ, ◌+◌, ◌/◌, ◌%◌, Bool, true, false, cond, eqb, nat_lt, List, [], ◌∷◌, ◌++◌, drop, refl, arith}
use Rattle.std.specs.Prelude.{codes, decimal}
use Rattle.wire.specs.Octets.{octet}
use Rattle.wire.specs.Reason.{name_of}
use Rattle.wire.specs.declared.ether.reason.Reason.{Reason}
use Rattle.wire.specs.declared.ether.reason.Reason.TheVariants.{TooLong, Sliced, Runt, PortDown, BadSource, Reserved, CutTag, BadVid}
use Rattle.wire.specs.declared.ether.reason.Reason.TheVariants.{FrameType, NoSegment, NotMember, NotIp, BadIp, BadIpSum, BadOuterSource}
use Rattle.wire.specs.declared.ether.reason.Reason.TheVariants.{NotForUs, Fragment, NotUdp, BadUdp, NotTunnel, ZeroSum, BadUdpSum}
use Rattle.wire.specs.declared.ether.reason.Reason.TheVariants.{ShortTunnel, NoVniFlag, BadVersion, Control, NotEthernet, BadOptions}
use Rattle.wire.specs.declared.ether.reason.Reason.TheVariants.{CriticalOption, UnknownVni, WrongGroup, UnknownPeer, InnerRunt, InnerTag}
use Rattle.wire.specs.declared.ether.reason.Reason.TheVariants.{SamePlace, Horizon, Unreachable, NoOutlet, TooBig, InnerTagOut}
use Rattle.wire.specs.declared.ip_udp.addr.Addr.{Addr}
use Rattle.wire.specs.declared.ip_udp.addr.Addr.TheVariants.{V4, V6}
use Rattle.wire.specs.declared.ip_udp.addr.Tunnel.{Tunnel}
use Rattle.wire.specs.declared.ip_udp.addr.Tunnel.TheVariants.{Vxlan, Geneve}
use Rattle.filter_db.specs.declared.place.Place.{Place}
use Rattle.filter_db.specs.declared.place.Place.TheVariants.{Local, Remote}
use Rattle.endpoint_core.specs.Fault as fault
use Rattle.endpoint_core.specs.declared.state.fault.ChangeFault.{ChangeFault}
use Rattle.endpoint_core.specs.declared.state.fault.ChangeFault.TheVariants as faults
use Rattle.endpoint_core.specs.Text.{addr_text, grouped, hex_digit, hex_octet, kind_text, place_text}
use Rattle.line_words.proofs.Decimals.{lacks, lacks_more, lacks_one}
use Rattle.story_laws.proofs.Numbers.{quote_number}

-- ---- names

pub quote_reason : (reason : Reason) → lacks 34 (name_of reason) ≡ true
quote_reason TooLong = refl
quote_reason Sliced = refl
quote_reason Runt = refl
quote_reason PortDown = refl
quote_reason BadSource = refl
quote_reason Reserved = refl
quote_reason CutTag = refl
quote_reason BadVid = refl
quote_reason FrameType = refl
quote_reason NoSegment = refl
quote_reason NotMember = refl
quote_reason NotIp = refl
quote_reason BadIp = refl
quote_reason BadIpSum = refl
quote_reason BadOuterSource = refl
quote_reason NotForUs = refl
quote_reason Fragment = refl
quote_reason NotUdp = refl
quote_reason BadUdp = refl
quote_reason NotTunnel = refl
quote_reason ZeroSum = refl
quote_reason BadUdpSum = refl
quote_reason ShortTunnel = refl
quote_reason NoVniFlag = refl
quote_reason BadVersion = refl
quote_reason Control = refl
quote_reason NotEthernet = refl
quote_reason BadOptions = refl
quote_reason CriticalOption = refl
quote_reason UnknownVni = refl
quote_reason WrongGroup = refl
quote_reason UnknownPeer = refl
quote_reason InnerRunt = refl
quote_reason InnerTag = refl
quote_reason SamePlace = refl
quote_reason Horizon = refl
quote_reason Unreachable = refl
quote_reason NoOutlet = refl
quote_reason TooBig = refl
quote_reason InnerTagOut = refl

pub quote_fault : (cause : ChangeFault) → lacks 34 (fault.name_of cause) ≡ true
quote_fault faults.NoSegment = refl
quote_fault faults.NoPort = refl
quote_fault faults.AlreadyThere = refl
quote_fault faults.NotThere = refl
quote_fault faults.FloodFull = refl
quote_fault faults.TableFull = refl
quote_fault faults.GroupAddress = refl
quote_fault faults.OutOfRange = refl
quote_fault faults.NoFamily = refl
quote_fault faults.OwnAddress = refl
quote_fault faults.SegmentThere = refl
quote_fault faults.PoolFull = refl
quote_fault faults.SegmentsFull = refl
quote_fault faults.NoTunnel = refl

-- ---- addresses

quote_hex : (digit : ℕ) → lacks 34 (hex_digit digit ∷ []) ≡ true
quote_hex digit = by (nat_lt digit 10)
  where
    by : (b : Bool) → lacks 34 (cond b (48 + digit) (87 + digit) ∷ []) ≡ true
    by true = lacks_one 34 (48 + digit) (λ e. omega (arith, e))
    by false = lacks_one 34 (87 + digit) (λ e. omega (arith, e))

quote_octet : (n : ℕ) → lacks 34 (hex_octet n) ≡ true
quote_octet n = lacks_more 34 (hex_digit (n / 16) ∷ []) (hex_digit (n % 16) ∷ []) (quote_hex (n / 16)) (quote_hex (n % 16))

quote_groups : (b : List ℕ) → lacks 34 (grouped b) ≡ true
quote_groups [] = refl
quote_groups (x ∷ []) = refl
quote_groups (x ∷ y ∷ b) =
    let group = lacks_more 34 (58 ∷ hex_octet x) (hex_octet y) (quote_octet x) (quote_octet y) in
    lacks_more 34 (58 ∷ hex_octet x ++ hex_octet y) (grouped b) group (quote_groups b)

quote_behind : (text : List ℕ) → lacks 34 text ≡ true → lacks 34 (drop 1 text) ≡ true
quote_behind [] h = refl
quote_behind (c ∷ cs) h = by (eqb c 34) h
  where
    by : (b : Bool) → cond b false (lacks 34 cs) ≡ true → lacks 34 cs ≡ true
    by true k = absurd cc
    by false k = k

-- a decimal and a point behind others
quote_point : (text : List ℕ) (n : ℕ) → lacks 34 text ≡ true → lacks 34 (text ++ decimal n ++ codes ".") ≡ true
quote_point text n h = lacks_more 34 (text ++ decimal n) (codes ".") (lacks_more 34 text (decimal n) h (quote_number n)) refl

quote_ip4 : (a b c d : ℕ) → lacks 34 (decimal a ++ codes "." ++ decimal b ++ codes "." ++ decimal c ++ codes "." ++ decimal d) ≡ true
quote_ip4 a b c d =
    let one = decimal a ++ codes "." in
    let two = one ++ decimal b ++ codes "." in
    let three = two ++ decimal c ++ codes "." in
    lacks_more 34 three (decimal d) (quote_point two c (quote_point one b (quote_point [] a refl))) (quote_number d)

quote_addr : (addr : Addr) → lacks 34 (addr_text addr) ≡ true
quote_addr (V4 b) = quote_ip4 (octet 0 b) (octet 1 b) (octet 2 b) (octet 3 b)
quote_addr (V6 b) = quote_behind (grouped b) (quote_groups b)

-- ---- places

quote_kind : (kind : Tunnel) → lacks 34 (kind_text kind) ≡ true
quote_kind Vxlan = refl
quote_kind Geneve = refl

pub quote_place : (two : Bool) (place : Place) → lacks 34 (place_text two place) ≡ true
quote_place two (Local port) = quote_number port
quote_place true (Remote kind addr) = lacks_more 34 (kind_text kind) (addr_text addr) (quote_kind kind) (quote_addr addr)
quote_place false (Remote kind addr) = quote_addr addr
