-- Lines as they are written, and what is read from them.
use Rattle.std.proofs.Common.{◌≡◌, ℕ, ◌-◌, ◌^◌, ◌<◌, Bool, true, false, cond, List, [], ◌∷◌, ◌++◌, length, get_or, take, Option, Some, None, Result, Ok, Err, refl, sym, ap, ◌∙◌, arith, append_assoc, lit<}
use Rattle.std.specs.Prelude.{codes, ◌==◌, ◌&&◌, if◌then◌else◌, nat_lt}
use Rattle.std.specs.Fmt.{decimal}
use Rattle.std.proofs.Math.Seq.{take-append_seam, get_or-append_seam}
use Rattle.std.proofs.lemmas.Bool.{eq-eqb, ne_eqb, cond-true, cond-false}
use Rattle.std.proofs.lemmas.Bool.Decides.{nat_tests}
use Rattle.std.proofs.lemmas.List.{length_push}
use Rattle.wire.specs.Octets.{is_same}
use Rattle.wire.proofs.OctetsLemmas.{is_same-true}
use Rattle.wire.specs.Reason as reason
use Rattle.wire.specs.declared.ether.reason.Reason.{Reason}
use Rattle.wire.specs.declared.ether.reason.Reason.TheVariants.{TooLong, Sliced, Runt, PortDown, BadSource, Reserved, CutTag, BadVid, FrameType, NoSegment, NotMember, NotIp, BadIp, BadIpSum, BadOuterSource, NotForUs, Fragment, NotUdp, BadUdp, NotTunnel, ZeroSum, BadUdpSum, ShortTunnel, NoVniFlag, BadVersion, Control, NotEthernet, BadOptions, CriticalOption, UnknownVni, WrongGroup, UnknownPeer, InnerRunt, InnerTag, SamePlace, Horizon, Unreachable, NoOutlet, TooBig, InnerTagOut}
use Rattle.endpoint_core.specs.Fault as fault
use Rattle.endpoint_core.specs.declared.state.fault.ChangeFault.{ChangeFault}
use Rattle.endpoint_core.specs.declared.state.fault.ChangeFault.TheVariants as causes
use Rattle.endpoint_core.specs.Text.{result_by}
use Rattle.timeline.specs.Words.{source_of, source_word}
use Rattle.timeline.specs.declared.event.Event.{Event as AnEvent}
use Rattle.timeline.specs.declared.source.Source.{Source}
use Rattle.timeline.specs.declared.source.Source.TheVariants as sources
use Rattle.timeline.specs.declared.source.Tap.TheVariants.{Port, Underlay}
use Rattle.decision_lines.specs.Lines.{line, reply_text, segment_text}
use Rattle.line_words.specs.Words.{word, behind}
use Rattle.line_words.specs.Numbers.{number_of}
use Rattle.line_words.proofs.Decimals.{lacks, lacks_decimal, lacks_more, number_decimal}
use Rattle.line_words.proofs.Fronts.{behind_front, word_front}
use Rattle.part_lines.proofs.Lines.{AreWords, flat_six, six}
use Rattle.part_lines.proofs.Outcomes.{no_space, number_small}
use Rattle.report_counts.specs.Lines.{cut_of, drop_by, dropped_for, event_of, line_of, number_by, number_in, port_by, refusal_by, refused_for, result_in, segment_in, sent_by, source_in, then_read, told_by, vid_by}
use Rattle.report_counts.specs.ReadBack.{IsFront, IsSource, IsVid, ReadsBackDrops, ReadsBackReplies, read_of, reply_of}
use Rattle.report_counts.specs.declared.fault.LineFault.{LineFault}
use Rattle.report_counts.specs.declared.fault.LineFault.TheVariants.{Number, Fields, Place}
use Rattle.report_counts.specs.declared.line.Outcome.{Outcome}
use Rattle.report_counts.specs.declared.line.Outcome.TheVariants.{Dropped, Done, Refused}
use Rattle.report_counts.specs.declared.line.ReportLine.TheVariants.{Event}

-- ---- the end

ended : (body : List ℕ) → line_of (body ++ 10 ∷ []) ≡ told_by body
ended body =
    let text = body ++ 10 ∷ [] in
    let last : length text - 1 ≡ length body = omega (arith, length_push body 10) in
    let feed : get_or text (length text - 1) 0 ≡ 10 = ap (λ n. get_or text n 0) last ∙ get_or-append_seam body 10 [] 0 in
    let front : take (length text - 1) text ≡ body = ap (λ n. take n text) last ∙ take-append_seam body (10 ∷ []) in
    ap told_by (cond-true (get_or text (length text - 1) 0 == 10) (take (length text - 1) text) text (eq-eqb (get_or text (length text - 1) 0) 10 feed) ∙ front)

-- ---- numbers

filled : (c : ℕ) (cs : List ℕ) → (length (c ∷ cs) == 0) ≡ false
filled c cs = ne_eqb (length (c ∷ cs)) 0 (λ z. omega (arith, z))

by_size : (text : List ℕ) (n : ℕ) → number_of text ≡ Some n → number_in text ≡ Ok n
by_size [] n e = absurd cc
by_size (c ∷ cs) n e =
    cond-false (length (c ∷ cs) == 0) (Err Fields) (number_by (number_of (c ∷ cs))) (filled c cs) ∙ ap number_by e

number_read : (n : ℕ) → n < 2 ^ 64 → number_in (decimal n) ≡ Ok n
number_read n small = by_size (decimal n) n (number_decimal n small)

-- a number is no word of letters
no_word : (text other : List ℕ) (n : ℕ) → number_of text ≡ Some n → number_of other ≡ None → is_same text other ≡ false
no_word text other n e none = by (is_same text other) refl
  where
    by : (q : Bool) → is_same text other ≡ q → q ≡ false
    by false h = refl
    by true h = let not : None ≡ Some n = sym none ∙ sym (ap number_of (is_same-true text other h)) ∙ e in absurd cc

-- ---- other fields

both : (a b n : ℕ) → a < n → n < b → (nat_lt a n && nat_lt n b) ≡ true
both a b n low high = grind (arith, nat_tests)

port_read : (port : ℕ) → 0 < port → port < 256 → port_by (Some port) ≡ Ok (Port port)
port_read port low high = cond-true (nat_lt 0 port && nat_lt port 256) (Ok (Port port)) (Err Place) (both 0 256 port low high)

source_read : (source : Source) → IsSource source → source_in (source_word source) ≡ Ok source
source_read sources.Changes h = refl
source_read (sources.Tap Underlay) h = refl
source_read (sources.Tap (Port port)) h =
    let number : number_of (decimal port) ≡ Some port = number_decimal port (omega (arith, h.1)) in
    ap (λ o. then_read (port_by o) (λ tap. Ok (sources.Tap tap))) number ∙ ap (λ r. then_read r (λ tap. Ok (sources.Tap tap))) (port_read port h.0 h.1)

source_lacks : (source : Source) → IsSource source → lacks 32 (source_word source) ≡ true
source_lacks sources.Changes h = refl
source_lacks (sources.Tap (Port port)) h = lacks_more 32 (codes "p") (decimal port) refl (lacks_decimal 32 port no_space (omega (arith, h.1)))
source_lacks (sources.Tap Underlay) h = refl

segment_read : (vid : Option ℕ) → IsVid vid → segment_in (segment_text vid) ≡ Ok vid
segment_read None h = refl
segment_read (Some vid) h =
    let small : vid < 2 ^ 64 = omega (arith, h.1) in
    cond-false (is_same (decimal vid) (codes "-")) (Ok None) (then_read (number_in (decimal vid)) vid_by) (no_word (decimal vid) (codes "-") vid (number_decimal vid small) refl)
    ∙ ap (λ r. then_read r vid_by) (number_read vid small)
    ∙ cond-true (nat_lt 0 vid && nat_lt vid 4095) (Ok (Some vid)) (Err Number) (both 0 4095 vid h.0 h.1)

segment_lacks : (vid : Option ℕ) → IsVid vid → lacks 32 (segment_text vid) ≡ true
segment_lacks (Some vid) h = lacks_decimal 32 vid no_space (omega (arith, h.1))
segment_lacks None h = refl

-- ---- fields one behind the other

chain : (r1 : Result ℕ LineFault) (r2 : Result Source LineFault) (r3 : Result ℕ LineFault) (r4 : Result (Option ℕ) LineFault) (r5 : Result Outcome LineFault)
    (event moment number : ℕ) (source : Source) (segment : Option ℕ) (result : Outcome)
    → r1 ≡ Ok moment → r2 ≡ Ok source → r3 ≡ Ok number → r4 ≡ Ok segment → r5 ≡ Ok result
    → then_read r1 (λ m. then_read r2 (λ s. then_read r3 (λ n. then_read r4 (λ g. then_read r5 (λ o.
    Ok (Event (record { event = event; moment = m; source = s; number = n; segment = g; result = o })))))))
    ≡ Ok (Event (record { event = event; moment = moment; source = source; number = number; segment = segment; result = result }))
chain r1 r2 r3 r4 r5 event moment number source segment result e1 e2 e3 e4 e5 = rw (e1, e2, e3, e4, e5) refl

five_told : (event moment number : ℕ) (source : Source) (segment : Option ℕ) (result : Outcome) (a b c d s r : List ℕ) → AreWords a b c d s
    → number_in b ≡ Ok moment → source_in c ≡ Ok source → number_in d ≡ Ok number → segment_in s ≡ Ok segment → result_in r ≡ Ok result
    → event_of event (b ++ 32 ∷ (c ++ 32 ∷ (d ++ 32 ∷ (s ++ 32 ∷ r))))
    ≡ Ok (Event (record { event = event; moment = moment; source = source; number = number; segment = segment; result = result }))
five_told event moment number source segment result a b c d s r w e1 e2 e3 e4 e5 =
    let t1 = c ++ 32 ∷ (d ++ 32 ∷ (s ++ 32 ∷ r)) in
    let t2 = d ++ 32 ∷ (s ++ 32 ∷ r) in
    let t3 = s ++ 32 ∷ r in
    let text = b ++ 32 ∷ t1 in
    let b1 : behind text ≡ t1 = behind_front b t1 w.second in
    let b2 : behind (behind text) ≡ t2 = ap behind b1 ∙ behind_front c t2 w.third in
    let b3 : behind (behind (behind text)) ≡ t3 = ap behind b2 ∙ behind_front d t3 w.fourth in
    let b4 : behind (behind (behind (behind text))) ≡ r = ap behind b3 ∙ behind_front s r w.fifth in
    let w1 : word text ≡ b = word_front b t1 w.second in
    let w2 : word (behind text) ≡ c = ap word b1 ∙ word_front c t2 w.third in
    let w3 : word (behind (behind text)) ≡ d = ap word b2 ∙ word_front d t3 w.fourth in
    let w4 : word (behind (behind (behind text))) ≡ s = ap word b3 ∙ word_front s r w.fifth in
    chain (number_in (word text)) (source_in (word (behind text))) (number_in (word (behind (behind text))))
    (segment_in (word (behind (behind (behind text))))) (result_in (behind (behind (behind (behind text)))))
    event moment number source segment result
    (ap number_in w1 ∙ e1) (ap source_in w2 ∙ e2) (ap number_in w3 ∙ e3) (ap segment_in w4 ∙ e4) (ap result_in b4 ∙ e5)

-- a line whose first word is a number
begun : (text a rest : List ℕ) (n : ℕ) → word text ≡ a → behind text ≡ rest → number_of a ≡ Some n → told_by text ≡ event_of n rest
begun text a rest n begins ends e =
    ap (λ t. cond (is_same t (codes "cut")) (cut_of (behind text)) (then_read (number_in t) (λ event. event_of event (behind text)))) begins
    ∙ cond-false (is_same a (codes "cut")) (cut_of (behind text)) (then_read (number_in a) (λ event. event_of event (behind text))) (no_word a (codes "cut") n e refl)
    ∙ ap (λ q. then_read q (λ event. event_of event (behind text))) (by_size a n e)
    ∙ ap (event_of n) ends

line_told : (count : ℕ) (e : AnEvent) (vid : Option ℕ) (r : List ℕ) (result : Outcome) → IsFront count e → IsVid vid → result_in r ≡ Ok result
    → line_of (line count e (segment_text vid ++ codes " " ++ r)) ≡ Ok (Event (read_of count e vid result))
unfolding six
line_told count e vid r result f v told =
    let a = decimal count in
    let b = decimal e.moment in
    let c = source_word (source_of e.happening) in
    let d = decimal e.number in
    let s = segment_text vid in
    let w : AreWords a b c d s = record {
      first = lacks_decimal 32 count no_space f.number;
      second = lacks_decimal 32 e.moment no_space f.moment;
      third = source_lacks (source_of e.happening) f.source;
      fourth = lacks_decimal 32 e.number no_space f.own;
      fifth = segment_lacks vid v;
    } in
    let rest = b ++ 32 ∷ (c ++ 32 ∷ (d ++ 32 ∷ (s ++ 32 ∷ r))) in
    ap line_of (flat_six a b c d s r)
    ∙ ended (six a b c d s r)
    ∙ begun (six a b c d s r) a rest count (word_front a rest w.first) (behind_front a rest w.first) (number_decimal count f.number)
    ∙ five_told count e.moment e.number (source_of e.happening) vid result a b c d s r w
    (number_read e.moment f.moment) (source_read (source_of e.happening) f.source) (number_read e.number f.own) (segment_read vid v) told

-- ---- results

drop_read : (why : Reason) → drop_by (reason.number_of why) ≡ Ok (Dropped (reason.number_of why))
drop_read TooLong = refl
drop_read Sliced = refl
drop_read Runt = refl
drop_read PortDown = refl
drop_read BadSource = refl
drop_read Reserved = refl
drop_read CutTag = refl
drop_read BadVid = refl
drop_read FrameType = refl
drop_read NoSegment = refl
drop_read NotMember = refl
drop_read NotIp = refl
drop_read BadIp = refl
drop_read BadIpSum = refl
drop_read BadOuterSource = refl
drop_read NotForUs = refl
drop_read Fragment = refl
drop_read NotUdp = refl
drop_read BadUdp = refl
drop_read NotTunnel = refl
drop_read ZeroSum = refl
drop_read BadUdpSum = refl
drop_read ShortTunnel = refl
drop_read NoVniFlag = refl
drop_read BadVersion = refl
drop_read Control = refl
drop_read NotEthernet = refl
drop_read BadOptions = refl
drop_read CriticalOption = refl
drop_read UnknownVni = refl
drop_read WrongGroup = refl
drop_read UnknownPeer = refl
drop_read InnerRunt = refl
drop_read InnerTag = refl
drop_read SamePlace = refl
drop_read Horizon = refl
drop_read Unreachable = refl
drop_read NoOutlet = refl
drop_read TooBig = refl
drop_read InnerTagOut = refl

cause_read : (f : ChangeFault) → refusal_by (fault.number_of f) ≡ Ok (Refused (fault.number_of f))
cause_read causes.NoSegment = refl
cause_read causes.NoPort = refl
cause_read causes.AlreadyThere = refl
cause_read causes.NotThere = refl
cause_read causes.FloodFull = refl
cause_read causes.TableFull = refl
cause_read causes.GroupAddress = refl
cause_read causes.OutOfRange = refl
cause_read causes.NoFamily = refl
cause_read causes.OwnAddress = refl
cause_read causes.SegmentThere = refl
cause_read causes.PoolFull = refl
cause_read causes.SegmentsFull = refl
cause_read causes.NoTunnel = refl

cause_small : (f : ChangeFault) → fault.number_of f < 2 ^ 64
cause_small causes.NoSegment = lit< tt
cause_small causes.NoPort = lit< tt
cause_small causes.AlreadyThere = lit< tt
cause_small causes.NotThere = lit< tt
cause_small causes.FloodFull = lit< tt
cause_small causes.TableFull = lit< tt
cause_small causes.GroupAddress = lit< tt
cause_small causes.OutOfRange = lit< tt
cause_small causes.NoFamily = lit< tt
cause_small causes.OwnAddress = lit< tt
cause_small causes.SegmentThere = lit< tt
cause_small causes.PoolFull = lit< tt
cause_small causes.SegmentsFull = lit< tt
cause_small causes.NoTunnel = lit< tt

-- the number behind a word
number_behind : (n : ℕ) (name : List ℕ) → n < 2 ^ 64 → number_in (word (decimal n ++ 32 ∷ name)) ≡ Ok n
number_behind n name small = ap number_in (word_front (decimal n) name (lacks_decimal 32 n no_space small)) ∙ number_read n small

flat_two : (kind number name : List ℕ) → (kind ++ number) ++ 32 ∷ [] ++ name ≡ kind ++ (number ++ 32 ∷ name)
flat_two kind number name = simp append_assoc refl

-- what a result with some octets tells
result_by_word : List ℕ → Result Outcome LineFault
result_by_word text =
    if is_same text (codes "done") then Ok Done
    else if is_same (word text) (codes "drop") then dropped_for (behind text)
    else if is_same (word text) (codes "refused") then refused_for (behind text)
    else sent_by text

by_word : (c : ℕ) (cs : List ℕ) → result_in (c ∷ cs) ≡ result_by_word (c ∷ cs)
unfolding result_by_word
by_word c cs = cond-false (length (c ∷ cs) == 0) (Err Fields) (result_by_word (c ∷ cs)) (filled c cs)

drop_told : (two : Bool) (why : Reason) → result_in (result_by two (Some why) []) ≡ Ok (Dropped (reason.number_of why))
unfolding result_by_word
drop_told two why =
    ap result_in (flat_two (codes "drop ") (decimal (reason.number_of why)) (reason.name_of why))
    ∙ by_word 100 (codes "rop " ++ (decimal (reason.number_of why) ++ 32 ∷ reason.name_of why))
    ∙ ap (λ q. then_read q drop_by) (number_behind (reason.number_of why) (reason.name_of why) (number_small why))
    ∙ drop_read why

reply_told : (f : Option ChangeFault) → result_in (reply_text f) ≡ Ok (reply_of f)
unfolding result_by_word
reply_told None = by_word 100 (codes "one")
reply_told (Some f) =
    ap result_in (flat_two (codes "refused ") (decimal (fault.number_of f)) (fault.name_of f))
    ∙ by_word 114 (codes "efused " ++ (decimal (fault.number_of f) ++ 32 ∷ fault.name_of f))
    ∙ ap (λ q. then_read q refusal_by) (number_behind (fault.number_of f) (fault.name_of f) (cause_small f))
    ∙ cause_read f

-- ---- the laws

pub drops : ReadsBackDrops
drops count e d why f v is =
    ap (λ (o : Option Reason). line_of (line count e (segment_text d.segment ++ codes " " ++ result_by d.two_tunnels o d.outcomes))) is
    ∙ line_told count e d.segment (result_by d.two_tunnels (Some why) []) (Dropped (reason.number_of why)) f v (drop_told d.two_tunnels why)

pub replies : ReadsBackReplies
replies count e named f front v = line_told count e named (reply_text f) (reply_of f) front v (reply_told f)
