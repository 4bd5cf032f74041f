-- The line of an event is one line, and no longer than a merge reads.
use Rattle.std.proofs.Common.{◌≡◌, refl, ℕ, suc, ◌+◌, ◌*◌, ◌/◌, ◌%◌, ◌^◌, ◌<◌, ◌≤◌, arith, Bool, true, false, cond, eqb, nat_lt, List, [], ◌∷◌, ◌++◌, length, drop, Option, Some, None, Result, Ok, Err, IfOk}
use Rattle.std.specs.Prelude.{codes}
use Rattle.std.specs.Fmt.{decimal}
use Rattle.std.specs.List.{AllByRecursion}
use Rattle.wire.specs.Octets.{IsText, octet}
use Rattle.wire.specs.Reason as reason
use Rattle.wire.specs.declared.ether.reason.Reason.{Reason}
use Rattle.wire.specs.Addr.{IsAddr}
use Rattle.wire.specs.declared.ip_udp.addr.Addr.{Addr}
use Rattle.wire.specs.declared.ip_udp.addr.Addr.TheVariants.{V4, V6}
use Rattle.wire.specs.declared.ip_udp.addr.Tunnel.{Tunnel}
use Rattle.wire.specs.declared.ip_udp.addr.Tunnel.TheVariants.{Geneve, Vxlan}
use Rattle.filter_db.specs.declared.place.Place.{Place}
use Rattle.filter_db.specs.declared.place.Place.TheVariants.{Local, Remote}
use Rattle.timeline.specs.Words.{source_of, source_word, tap_word}
use Rattle.timeline.specs.declared.event.Event.{Event}
use Rattle.timeline.specs.declared.source.Source.{Source}
use Rattle.timeline.specs.declared.source.Source.TheVariants as sources
use Rattle.timeline.specs.declared.source.Tap.{Tap}
use Rattle.timeline.specs.declared.source.Tap.TheVariants.{Port, Underlay}
use Rattle.timeline.specs.declared.timeline.Cut.{Cut}
use Rattle.endpoint_core.specs.Fault as fault
use Rattle.endpoint_core.specs.declared.state.fault.ChangeFault.{ChangeFault}
use Rattle.endpoint_core.specs.Decision.{Sent}
use Rattle.endpoint_core.specs.Step.{Answer, Decided, Replied}
use Rattle.endpoint_core.specs.Text.{addr_text, further_text, grouped, hex_digit, hex_octet, kind_text, outcome_text, outcomes_text, place_text, result_by, sent_text}
use Rattle.decision_lines.specs.Lines.{answer_text, line_front, reply_text, segment_text}
use Rattle.line_words.proofs.Decimals.{lacks}
use Rattle.part_lines.specs.ReadBack.{IsFront, IsSource, IsVid}
use Rattle.part_files.proofs.Answering.{AnswerFits, SentFits}
use Rattle.part_files.proofs.Emitting.{Fits}
use Rattle.part_files.proofs.Leaving.{IsOutlet}
use Rattle.part_files.proofs.Plain.{IsPlain, plain-decimal, plain-fault, plain-less, plain-more, plain-none, plain-number, plain-one, plain-reason, small-fault, small-reason}

-- ---- addresses

plain-digit : (d : ℕ) → d < 16 → IsPlain 1 (hex_digit d ∷ [])
plain-digit d low = by (nat_lt d 10) refl
  where
    by : (q : Bool) → nat_lt d 10 ≡ q → IsPlain 1 (cond q (48 + d) (87 + d) ∷ [])
    by true is = plain-one (48 + d) (λ e. omega (arith, e))
    by false is = plain-one (87 + d) (λ e. omega (arith, e))

plain-hex : (n : ℕ) → n < 256 → IsPlain 2 (hex_octet n)
plain-hex n low = plain-more 1 1 (hex_digit (n / 16) ∷ []) (hex_digit (n % 16) ∷ []) (plain-digit (n / 16) (omega (arith, low))) (plain-digit (n % 16) (omega (arith, low)))

plain-group : (x y : ℕ) → x < 256 → y < 256 → IsPlain 5 (58 ∷ hex_octet x ++ hex_octet y)
plain-group x y low also =
    plain-more 3 2 (58 ∷ hex_octet x) (hex_octet y) (plain-more 1 2 (58 ∷ []) (hex_octet x) (plain-one 58 (λ e. omega (arith, e))) (plain-hex x low)) (plain-hex y also)

plain-grouped : (b : List ℕ) → IsText b → IsPlain (5 * length b) (grouped b)
plain-grouped [] t = plain-none
plain-grouped (x ∷ []) t = plain-less 0 (5 * 1) [] plain-none (omega arith)
plain-grouped (x ∷ y ∷ b) t =
    plain-less (5 + 5 * length b) (5 * length (x ∷ y ∷ b)) (grouped (x ∷ y ∷ b))
    (plain-more 5 (5 * length b) (58 ∷ hex_octet x ++ hex_octet y) (grouped b) (plain-group x y (t 0) (t 1)) (plain-grouped b (λ i. t (suc (suc i))))) (omega arith)

plain-tail : (most : ℕ) (t : List ℕ) → IsPlain most t → IsPlain most (drop 1 t)
plain-tail most [] is = is
plain-tail most (c ∷ cs) is = record { lacks = by (eqb c 10) is.lacks; short = omega (arith, is.short) }
  where
    by : (q : Bool) → cond q false (lacks 10 cs) ≡ true → lacks 10 cs ≡ true
    by true k = absurd cc
    by false k = k

plain-octet : (b : List ℕ) (i : ℕ) → IsText b → IsPlain 3 (decimal (octet i b))
plain-octet b i t = plain-decimal 3 (octet i b) (omega arith) (omega (arith, t i)) (omega (arith, t i))

dot : IsPlain 1 (codes ".")
dot = plain-one 46 (λ e. omega (arith, e))

plain-addr : (a : Addr) → IsAddr a → IsPlain 80 (addr_text a)
plain-addr (V4 b) is =
    let t = is.1 in
    plain-less 15 80 (addr_text (V4 b))
    (plain-more 12 3 (decimal (octet 0 b) ++ codes "." ++ decimal (octet 1 b) ++ codes "." ++ decimal (octet 2 b) ++ codes ".") (decimal (octet 3 b))
    (plain-more 11 1 (decimal (octet 0 b) ++ codes "." ++ decimal (octet 1 b) ++ codes "." ++ decimal (octet 2 b)) (codes ".")
    (plain-more 8 3 (decimal (octet 0 b) ++ codes "." ++ decimal (octet 1 b) ++ codes ".") (decimal (octet 2 b))
    (plain-more 7 1 (decimal (octet 0 b) ++ codes "." ++ decimal (octet 1 b)) (codes ".")
    (plain-more 4 3 (decimal (octet 0 b) ++ codes ".") (decimal (octet 1 b))
    (plain-more 3 1 (decimal (octet 0 b)) (codes ".") (plain-octet b 0 t) dot)
    (plain-octet b 1 t)) dot) (plain-octet b 2 t)) dot) (plain-octet b 3 t)) (omega arith)
plain-addr (V6 b) is = plain-tail 80 (grouped b) (plain-less (5 * length b) 80 (grouped b) (plain-grouped b is.1) (omega (arith, is.0)))

-- ---- outcomes

plain-kind : (two : Bool) (kind : Tunnel) → IsPlain 7 (cond two (kind_text kind) [])
plain-kind true Vxlan = record { lacks = refl; short = omega arith }
plain-kind true Geneve = record { lacks = refl; short = omega arith }
plain-kind false kind = plain-less 0 7 [] plain-none (omega arith)

letter : (c : ℕ) → 32 < c → IsPlain 1 (c ∷ [])
letter c high = plain-one c (λ e. omega (arith, e, high))

plain-place : (n : ℕ) (two : Bool) (place : Place) → n ≤ 255 → IsOutlet n place → IsPlain 87 (place_text two place)
plain-place n two (Local port) few is =
    plain-less 4 87 (place_text two (Local port)) (plain-more 1 3 (codes "p") (decimal port) (letter 112 (omega arith)) (plain-decimal 3 port (omega arith) (omega (arith, is.1, few)) (omega (arith, is.1, few)))) (omega arith)
plain-place n two (Remote kind addr) few is = plain-more 7 80 (cond two (kind_text kind) []) (addr_text addr) (plain-kind two kind) (plain-addr addr is)

plain-sent : (sent : Result (List ℕ) Reason) → IfOk sent Fits → IsPlain 21 (sent_text sent)
plain-sent (Ok octets) fits = plain-more 1 20 (codes "=") (decimal (length octets)) (letter 61 (omega arith)) (plain-number (length octets) (omega (arith, fits)))
plain-sent (Err why) fits = plain-less 17 21 (sent_text (Err why)) (plain-more 1 16 (codes "!") (reason.name_of why) (letter 33 (omega arith)) (plain-reason why)) (omega arith)

plain-outcome : (n : ℕ) (two : Bool) (o : Sent) → n ≤ 255 → SentFits n o → IsPlain 108 (outcome_text two o)
plain-outcome n two o few is = plain-more 87 21 (place_text two o.place) (sent_text o.sent) (plain-place n two o.place few is.0) (plain-sent o.sent is.1)

space : IsPlain 1 (codes " ")
space = plain-one 32 (λ e. omega (arith, e))

plain-further : (n : ℕ) (two : Bool) (os : List Sent) → n ≤ 255 → AllByRecursion (SentFits n) os → IsPlain (109 * length os) (further_text two os)
plain-further n two [] few all = plain-none
plain-further n two (o ∷ os) few all =
    plain-less (109 + 109 * length os) (109 * length (o ∷ os)) (further_text two (o ∷ os))
    (plain-more 109 (109 * length os) (32 ∷ outcome_text two o) (further_text two os) (plain-more 1 108 (codes " ") (outcome_text two o) space (plain-outcome n two o few all.0)) (plain-further n two os few all.1))
    (omega arith)

plain-outcomes : (n : ℕ) (two : Bool) (os : List Sent) → n ≤ 255 → AllByRecursion (SentFits n) os → IsPlain (109 * length os) (outcomes_text two os)
plain-outcomes n two [] few all = plain-none
plain-outcomes n two (o ∷ os) few all =
    plain-less (108 + 109 * length os) (109 * length (o ∷ os)) (outcomes_text two (o ∷ os))
    (plain-more 108 (109 * length os) (outcome_text two o) (further_text two os) (plain-outcome n two o few all.0) (plain-further n two os few all.1))
    (omega arith)

-- a word, a number below 100 and a name
plain-named : (word : List ℕ) (number : ℕ) (name : List ℕ) → IsPlain 8 word → number < 100 → IsPlain 16 name → IsPlain 27 (word ++ decimal number ++ codes " " ++ name)
plain-named word number name is low named =
    plain-more 11 16 (word ++ decimal number ++ codes " ") name
    (plain-more 10 1 (word ++ decimal number) (codes " ")
    (plain-more 8 2 word (decimal number) is (plain-decimal 2 number (omega arith) (omega (arith, low)) (omega (arith, low)))) space)
    named

drop-word : IsPlain 8 (codes "drop ")
drop-word = record { lacks = refl; short = omega arith }

refused-word : IsPlain 8 (codes "refused ")
refused-word = record { lacks = refl; short = omega arith }

plain-result : (n : ℕ) (two : Bool) (dropped : Option Reason) (os : List Sent) → n ≤ 255 → AllByRecursion (SentFits n) os → length os ≤ 767 → IsPlain 83603 (result_by two dropped os)
plain-result n two None os few all some = plain-less (109 * length os) 83603 (outcomes_text two os) (plain-outcomes n two os few all) (omega (arith, some))
plain-result n two (Some why) os few all some =
    plain-less 27 83603 (result_by two (Some why) os) (plain-named (codes "drop ") (reason.number_of why) (reason.name_of why) drop-word (small-reason why) (plain-reason why)) (omega arith)

plain-reply : (f : Option ChangeFault) → IsPlain 27 (reply_text f)
plain-reply None = record { lacks = refl; short = omega arith }
plain-reply (Some f) = plain-named (codes "refused ") (fault.number_of f) (fault.name_of f) refused-word (small-fault f) (plain-fault f)

-- ---- a whole line

plain-segment : (vid : Option ℕ) → IsVid vid → IsPlain 4 (segment_text vid)
plain-segment (Some vid) is = plain-decimal 4 vid (omega arith) (omega (arith, is)) (omega (arith, is))
plain-segment None is = plain-less 1 4 (codes "-") (letter 45 (omega arith)) (omega arith)

-- the segment that stands in a line
abbrev pub segment_told : Option ℕ → Answer → Option ℕ
segment_told named (Decided d) = d.segment
segment_told named (Replied fault) = named

plain-answer : (n : ℕ) (named : Option ℕ) (d : Answer) → n ≤ 255 → AnswerFits n d → IsVid (segment_told named d) → IsPlain 83608 (answer_text named d)
plain-answer n named (Decided d) few fits vid =
    plain-more 5 83603 (segment_text d.segment ++ codes " ") (result_by d.two_tunnels d.dropped d.outcomes) (plain-more 4 1 (segment_text d.segment) (codes " ") (plain-segment d.segment vid) space)
    (plain-result n d.two_tunnels d.dropped d.outcomes few fits.outcomes fits.few)
plain-answer n named (Replied f) few fits vid =
    plain-less 32 83608 (answer_text named (Replied f))
    (plain-more 5 27 (segment_text named ++ codes " ") (reply_text f) (plain-more 4 1 (segment_text named) (codes " ") (plain-segment named vid) space) (plain-reply f)) (omega arith)

plain-tap : (tap : Tap) → IsSource (sources.Tap tap) → IsPlain 4 (tap_word tap)
plain-tap (Port port) is = plain-more 1 3 (codes "p") (decimal port) (letter 112 (omega arith)) (plain-decimal 3 port (omega arith) (omega (arith, is)) (omega (arith, is)))
plain-tap Underlay is = plain-less 1 4 (codes "u") (letter 117 (omega arith)) (omega arith)

plain-source : (source : Source) → IsSource source → IsPlain 4 (source_word source)
plain-source sources.Changes is = plain-less 1 4 (codes "c") (letter 99 (omega arith)) (omega arith)
plain-source (sources.Tap tap) is = plain-tap tap is

plain-front : (number : ℕ) (e : Event) → IsFront number e → IsPlain 68 (line_front number e)
plain-front number e is =
    let a = decimal number in
    let b = decimal e.moment in
    let c = source_word (source_of e.happening) in
    let d = decimal e.number in
    plain-more 67 1 (a ++ codes " " ++ b ++ codes " " ++ c ++ codes " " ++ d) (codes " ")
    (plain-more 47 20 (a ++ codes " " ++ b ++ codes " " ++ c ++ codes " ") d
    (plain-more 46 1 (a ++ codes " " ++ b ++ codes " " ++ c) (codes " ")
    (plain-more 42 4 (a ++ codes " " ++ b ++ codes " ") c
    (plain-more 41 1 (a ++ codes " " ++ b) (codes " ")
    (plain-more 21 20 (a ++ codes " ") b
    (plain-more 20 1 a (codes " ") (plain-number number is.number) space)
    (plain-number e.moment is.moment)) space) (plain-source (source_of e.happening) is.source)) space) (plain-number e.number is.own)) space

-- all of it but its end
pub plain-line : (n number : ℕ) (e : Event) (named : Option ℕ) (d : Answer) → n ≤ 255 → IsFront number e → AnswerFits n d → IsVid (segment_told named d) → IsPlain 83676 (line_front number e ++ answer_text named d)
plain-line n number e named d few front fits vid = plain-more 68 83608 (line_front number e) (answer_text named d) (plain-front number e front) (plain-answer n named d few fits vid)

-- the line of a cut capture but its end
pub plain-cut : (cut : Cut) → IsSource (sources.Tap cut.tap) → cut.whole < 2 ^ 64 → IsPlain 29 (codes "cut " ++ tap_word cut.tap ++ codes " " ++ decimal cut.whole)
plain-cut cut is fits =
    plain-more 9 20 (codes "cut " ++ tap_word cut.tap ++ codes " ") (decimal cut.whole)
    (plain-more 8 1 (codes "cut " ++ tap_word cut.tap) (codes " ")
    (plain-more 4 4 (codes "cut ") (tap_word cut.tap) (record { lacks = refl; short = omega arith }) (plain-tap cut.tap is)) space)
    (plain-number cut.whole fits)
