-- The texts of places and outcomes.
use Rattle.std.proofs.Common.{◌≡◌, ℕ, ◌+◌, ◌/◌, ◌%◌, ◌^◌, ◌<◌, Bool, true, false, cond, eqb, nat_lt, List, [], ◌∷◌, ◌++◌, length, Some, Result, Ok, Err, IfOk, None, refl, ap, ◌∙◌, arith, append_assoc, lit<}
use Rattle.std.specs.Prelude.{codes, is_some}
use Rattle.std.specs.Option.{option_and_then, option_map_or}
use Rattle.std.specs.Fmt.{decimal}
use Rattle.std.specs.List.{AllByRecursion, cons_option, filter_map}
use Rattle.std.proofs.lemmas.Bool.{cond-true}
use Rattle.std.proofs.lemmas.Bool.Decides.{nat_tests}
use Rattle.std.proofs.lemmas.Fmt.{decimal_nonempty}
use Rattle.std.proofs.lemmas.List.{append-nil}
use Rattle.wire.specs.Octets.{octet}
use Rattle.wire.specs.Reason.{number_of, name_of}
use Rattle.wire.specs.declared.ether.reason.Reason.{Reason}
use Rattle.wire.specs.declared.ether.reason.Reason.TheVariants.{TooLong, Sliced, Runt, PortDown, BadSource, Reserved, CutTag, BadVid, FrameType, NoSegment, NotMember, NotIp, BadIp, BadIpSum, BadOuterSource, NotForUs, Fragment, NotUdp, BadUdp, NotTunnel, ZeroSum, BadUdpSum, ShortTunnel, NoVniFlag, BadVersion, Control, NotEthernet, BadOptions, CriticalOption, UnknownVni, WrongGroup, UnknownPeer, InnerRunt, InnerTag, SamePlace, Horizon, Unreachable, NoOutlet, TooBig, InnerTagOut}
use Rattle.wire.specs.Addr.{IsAddr}
use Rattle.wire.specs.declared.ip_udp.addr.Addr.{Addr}
use Rattle.wire.specs.declared.ip_udp.addr.Addr.TheVariants.{V4, V6}
use Rattle.wire.specs.declared.ip_udp.addr.Tunnel.{Tunnel}
use Rattle.wire.specs.declared.ip_udp.addr.Tunnel.TheVariants.{Vxlan, Geneve}
use Rattle.filter_db.specs.declared.place.Place.{Place}
use Rattle.filter_db.specs.declared.place.Place.TheVariants.{Local, Remote}
use Rattle.endpoint_core.specs.Decision.{Sent}
use Rattle.endpoint_core.specs.Text.{hex_digit, hex_octet, grouped, addr_text, kind_text, place_text, sent_text, outcome_text, further_text, outcomes_text}
use Rattle.timeline.specs.declared.source.Tap.TheVariants.{Port, Underlay}
use Rattle.line_words.specs.Numbers.{number_of as number_in}
use Rattle.line_words.proofs.Decimals.{IsNoDigit, lacks, lacks_decimal, lacks_more, number_decimal}
use Rattle.part_lines.specs.Sent.{has_places, is_sound, port_at, sent_by, sent_in, tap_of}
use Rattle.part_lines.specs.ReadBack.{IsOutcome, IsPlace, taken_at, taken_by, tap_at}
use Rattle.part_lines.proofs.Addresses.{addr_lacks, equals_apart, p_apart, space_apart}
use Rattle.part_lines.proofs.Fronts.{equals_front, places_front, places_whole, sent_front, sent_whole, unsent, unsent_front, unsent_sound, unsent_whole}

pub no_space : IsNoDigit 32
no_space = space_apart.digit

pub no_equals : IsNoDigit 61
no_equals = equals_apart.digit

-- ---- names

-- neither a space nor a '=' stands in a text
abbrev pub IsWord : List ℕ → Type 0
IsWord t = (lacks 32 t ≡ true) × (lacks 61 t ≡ true)

pub name_word : (r : Reason) → IsWord (name_of r)
name_word TooLong = (refl, refl)
name_word Sliced = (refl, refl)
name_word Runt = (refl, refl)
name_word PortDown = (refl, refl)
name_word BadSource = (refl, refl)
name_word Reserved = (refl, refl)
name_word CutTag = (refl, refl)
name_word BadVid = (refl, refl)
name_word FrameType = (refl, refl)
name_word NoSegment = (refl, refl)
name_word NotMember = (refl, refl)
name_word NotIp = (refl, refl)
name_word BadIp = (refl, refl)
name_word BadIpSum = (refl, refl)
name_word BadOuterSource = (refl, refl)
name_word NotForUs = (refl, refl)
name_word Fragment = (refl, refl)
name_word NotUdp = (refl, refl)
name_word BadUdp = (refl, refl)
name_word NotTunnel = (refl, refl)
name_word ZeroSum = (refl, refl)
name_word BadUdpSum = (refl, refl)
name_word ShortTunnel = (refl, refl)
name_word NoVniFlag = (refl, refl)
name_word BadVersion = (refl, refl)
name_word Control = (refl, refl)
name_word NotEthernet = (refl, refl)
name_word BadOptions = (refl, refl)
name_word CriticalOption = (refl, refl)
name_word UnknownVni = (refl, refl)
name_word WrongGroup = (refl, refl)
name_word UnknownPeer = (refl, refl)
name_word InnerRunt = (refl, refl)
name_word InnerTag = (refl, refl)
name_word SamePlace = (refl, refl)
name_word Horizon = (refl, refl)
name_word Unreachable = (refl, refl)
name_word NoOutlet = (refl, refl)
name_word TooBig = (refl, refl)
name_word InnerTagOut = (refl, refl)

-- a reason's number
pub number_small : (r : Reason) → number_of r < 2 ^ 64
number_small TooLong = lit< tt
number_small Sliced = lit< tt
number_small Runt = lit< tt
number_small PortDown = lit< tt
number_small BadSource = lit< tt
number_small Reserved = lit< tt
number_small CutTag = lit< tt
number_small BadVid = lit< tt
number_small FrameType = lit< tt
number_small NoSegment = lit< tt
number_small NotMember = lit< tt
number_small NotIp = lit< tt
number_small BadIp = lit< tt
number_small BadIpSum = lit< tt
number_small BadOuterSource = lit< tt
number_small NotForUs = lit< tt
number_small Fragment = lit< tt
number_small NotUdp = lit< tt
number_small BadUdp = lit< tt
number_small NotTunnel = lit< tt
number_small ZeroSum = lit< tt
number_small BadUdpSum = lit< tt
number_small ShortTunnel = lit< tt
number_small NoVniFlag = lit< tt
number_small BadVersion = lit< tt
number_small Control = lit< tt
number_small NotEthernet = lit< tt
number_small BadOptions = lit< tt
number_small CriticalOption = lit< tt
number_small UnknownVni = lit< tt
number_small WrongGroup = lit< tt
number_small UnknownPeer = lit< tt
number_small InnerRunt = lit< tt
number_small InnerTag = lit< tt
number_small SamePlace = lit< tt
number_small Horizon = lit< tt
number_small Unreachable = lit< tt
number_small NoOutlet = lit< tt
number_small TooBig = lit< tt
number_small InnerTagOut = lit< tt

-- ---- places

kind_word : (kind : Tunnel) → IsWord (kind_text kind)
kind_word Vxlan = (refl, refl)
kind_word Geneve = (refl, refl)

kind_lacks_p : (kind : Tunnel) → lacks 112 (kind_text kind) ≡ true
kind_lacks_p Vxlan = refl
kind_lacks_p Geneve = refl

remote_lacks : (s : ℕ) (two : Bool) (kind : Tunnel) (addr : Addr) → lacks s (kind_text kind) ≡ true → lacks s (addr_text addr) ≡ true → lacks s (cond two (kind_text kind) [] ++ addr_text addr) ≡ true
remote_lacks s true kind addr h k = lacks_more s (kind_text kind) (addr_text addr) h k
remote_lacks s false kind addr h k = k

place_word : (two : Bool) (place : Place) → IsPlace place → IsWord (place_text two place)
place_word two (Local port) h = (
  lacks_more 32 (codes "p") (decimal port) refl (lacks_decimal 32 port no_space (omega (arith, h))),
  lacks_more 61 (codes "p") (decimal port) refl (lacks_decimal 61 port no_equals (omega (arith, h))),
)
place_word two (Remote kind addr) h = (
  remote_lacks 32 two kind addr (kind_word kind).0 (addr_lacks 32 addr space_apart h),
  remote_lacks 61 two kind addr (kind_word kind).1 (addr_lacks 61 addr equals_apart h),
)

far : (t : List ℕ) → 0 < length t → lacks 112 t ≡ true → tap_of t ≡ Some Underlay
far [] some h = absurd (omega arith)
far (c ∷ cs) some h = by (eqb c 112) h
  where
    by : (q : Bool) → cond q false (lacks 112 cs) ≡ true → cond q (option_and_then port_at (number_in cs)) (Some Underlay) ≡ Some Underlay
    by true k = absurd cc
    by false k = refl

pub near : (port : ℕ) → port < 256 → port_at port ≡ Some (Port port)
near port h =
    let passes : nat_lt port 256 ≡ true = grind (arith, nat_tests) in
    cond-true (nat_lt port 256) (Some (Port port)) None passes

-- ---- no place is empty

some_cons : (c : ℕ) (cs : List ℕ) → 0 < length (c ∷ cs)
some_cons c cs = omega arith

some_behind : (a b : List ℕ) → 0 < length b → 0 < length (a ++ b)
some_behind [] b h = h
some_behind (c ∷ cs) b h = some_cons c (cs ++ b)

addr_some : (addr : Addr) → IsAddr addr → 0 < length (addr_text addr)
addr_some (V4 b) h =
    some_behind (decimal (octet 0 b) ++ codes "." ++ decimal (octet 1 b) ++ codes "." ++ decimal (octet 2 b) ++ codes ".") (decimal (octet 3 b))
    (decimal_nonempty (octet 3 b) (omega (arith, h.1 3)))
addr_some (V6 []) h = absurd (omega (arith, h.0))
addr_some (V6 (x ∷ [])) h = absurd (omega (arith, h.0))
addr_some (V6 (x ∷ y ∷ b)) h = some_cons (hex_digit (x / 16)) ((hex_digit (x % 16) ∷ []) ++ hex_octet y ++ grouped b)

pub place_tap : (two : Bool) (place : Place) → IsPlace place → tap_of (place_text two place) ≡ Some (tap_at place)
place_tap two (Local port) h = ap (option_and_then port_at) (number_decimal port (omega (arith, h))) ∙ near port h
place_tap two (Remote kind addr) h =
    far (cond two (kind_text kind) [] ++ addr_text addr) (some_behind (cond two (kind_text kind) []) (addr_text addr) (addr_some addr h))
    (remote_lacks 112 two kind addr (kind_lacks_p kind) (addr_lacks 112 addr p_apart h))

-- ---- outcomes

pub outcome_spaceless : (two : Bool) (o : Sent) → IsOutcome o → lacks 32 (outcome_text two o) ≡ true
outcome_spaceless two o h = lacks_more 32 (place_text two o.place) (sent_text o.sent) (place_word two o.place h.0).0 (by o.sent h.1)
  where
    by : (sent : Result (List ℕ) Reason) → IfOk sent (λ octets. length octets < 2 ^ 64) → lacks 32 (sent_text sent) ≡ true
    by (Ok octets) k = lacks_more 32 (codes "=") (decimal (length octets)) refl (lacks_decimal 32 (length octets) no_space k)
    by (Err reason) k = lacks_more 32 (codes "!") (name_of reason) refl (name_word reason).0

pub outcome_taken : (two : Bool) (o : Sent) → IsOutcome o → sent_by (outcome_text two o) ≡ taken_by o
outcome_taken two o h = by o.sent
  where
    by : (sent : Result (List ℕ) Reason) → sent_by (place_text two o.place ++ sent_text sent) ≡ taken_at o.place sent
    by (Ok octets) =
        ap (option_and_then tap_of) (equals_front (place_text two o.place) (decimal (length octets)) (place_word two o.place h.0).1)
        ∙ place_tap two o.place h.0
    by (Err reason) = unsent (place_text two o.place ++ sent_text (Err reason)) (lacks_more 61 (place_text two o.place) (codes "!" ++ name_of reason) (place_word two o.place h.0).1 (lacks_more 61 (codes "!") (name_of reason) refl (name_word reason).1))

pub outcome_sound : (two : Bool) (o : Sent) → IsOutcome o → is_sound (outcome_text two o) ≡ true
outcome_sound two o h = by o.sent
  where
    by : (sent : Result (List ℕ) Reason) → is_sound (place_text two o.place ++ sent_text sent) ≡ true
    by (Ok octets) =
        ap (λ p. option_map_or (λ place. is_some (tap_of place)) p true) (equals_front (place_text two o.place) (decimal (length octets)) (place_word two o.place h.0).1)
        ∙ ap is_some (place_tap two o.place h.0)
    by (Err reason) = unsent_sound (place_text two o.place ++ sent_text (Err reason)) (lacks_more 61 (place_text two o.place) (codes "!" ++ name_of reason) (place_word two o.place h.0).1 (lacks_more 61 (codes "!") (name_of reason) refl (name_word reason).1))

further_taken : (two : Bool) (o : Sent) (os : List Sent) → IsOutcome o → AllByRecursion IsOutcome os → sent_in (outcome_text two o ++ further_text two os) ≡ filter_map taken_by (o ∷ os)
further_taken two o [] h all =
    ap sent_in (append-nil (outcome_text two o)) ∙ sent_whole (outcome_text two o) (outcome_spaceless two o h)
    ∙ ap (λ t. cons_option t []) (outcome_taken two o h)
further_taken two o (p ∷ ps) h all =
    sent_front (outcome_text two o) (outcome_text two p ++ further_text two ps) (outcome_spaceless two o h)
    ∙ ap (λ t. cons_option t (sent_in (outcome_text two p ++ further_text two ps))) (outcome_taken two o h)
    ∙ ap (cons_option (taken_by o)) (further_taken two p ps all.0 all.1)

pub outcomes_taken : (two : Bool) (os : List Sent) → AllByRecursion IsOutcome os → sent_in (outcomes_text two os) ≡ filter_map taken_by os
outcomes_taken two [] all = refl
outcomes_taken two (o ∷ os) all = further_taken two o os all.0 all.1

further_sound : (two : Bool) (o : Sent) (os : List Sent) → IsOutcome o → AllByRecursion IsOutcome os → has_places (outcome_text two o ++ further_text two os) ≡ true
further_sound two o [] h all = ap has_places (append-nil (outcome_text two o)) ∙ places_whole (outcome_text two o) (outcome_spaceless two o h) (outcome_sound two o h)
further_sound two o (p ∷ ps) h all =
    places_front (outcome_text two o) (outcome_text two p ++ further_text two ps) (outcome_spaceless two o h) (outcome_sound two o h)
    ∙ further_sound two p ps all.0 all.1

pub outcomes_sound : (two : Bool) (os : List Sent) → AllByRecursion IsOutcome os → has_places (outcomes_text two os) ≡ true
outcomes_sound two [] all = refl
outcomes_sound two (o ∷ os) all = further_sound two o os all.0 all.1

-- ---- names behind a number

flat_three : (a b c : List ℕ) → (a ++ 32 ∷ b) ++ 32 ∷ [] ++ c ≡ a ++ 32 ∷ (b ++ 32 ∷ c)
flat_three a b c = simp append_assoc refl

-- a kind, a number and a name: nothing is sent
pub refused_taken : (kind name : List ℕ) (n : ℕ) → IsWord kind → IsWord name → n < 2 ^ 64 → sent_in ((kind ++ 32 ∷ decimal n) ++ 32 ∷ [] ++ name) ≡ []
refused_taken kind name n k w fits =
    ap sent_in (flat_three kind (decimal n) name)
    ∙ unsent_front kind (decimal n ++ 32 ∷ name) k.0 k.1
    ∙ unsent_front (decimal n) name (lacks_decimal 32 n no_space fits) (lacks_decimal 61 n no_equals fits)
    ∙ unsent_whole name w.0 w.1

pub refused_sound : (kind name : List ℕ) (n : ℕ) → IsWord kind → IsWord name → n < 2 ^ 64 → has_places ((kind ++ 32 ∷ decimal n) ++ 32 ∷ [] ++ name) ≡ true
refused_sound kind name n k w fits =
    ap has_places (flat_three kind (decimal n) name)
    ∙ places_front kind (decimal n ++ 32 ∷ name) k.0 (unsent_sound kind k.1)
    ∙ places_front (decimal n) name (lacks_decimal 32 n no_space fits) (unsent_sound (decimal n) (lacks_decimal 61 n no_equals fits))
    ∙ places_whole name w.0 (unsent_sound name w.1)
