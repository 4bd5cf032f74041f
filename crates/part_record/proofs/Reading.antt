-- A text that is read line by line is a record's only if each line is its.
use Rattle.std.proofs.Common.{◌≡◌, ◌≢◌, ◌∙◌, sym, refl, ap, ℕ, ◌+◌, ◌^◌, ◌<◌, ◌≤◌, List, [], ◌∷◌, ◌++◌, length, get_or, codes, All, Option, None, Some, IfSome, is_some, Bool, ◌==◌, true, false, inl, inr, arith, lit<, append_assoc}
use Rattle.std.specs.Prelude.{IfNone}
use Rattle.std.proofs.lemmas.Bool.{eqb-true}
use Rattle.std.proofs.lemmas.List.{append_cancel_left}
use Rattle.timeline.specs.declared.source.Tap.TheVariants as taps
use Rattle.part_record.specs.declared.fault.PartRecordFault.{PartRecordFault}
use Rattle.part_record.specs.Fault.{IsFaultIn, IsNoCapture, LacksNext}
use Rattle.part_record.specs.Record.{Facts, IsOneLine, IsRecord, IsTime, before_events, before_underlay, both_line, capture_line, capture_word, changes_line, events_line, facts_text, first_line, port_lines, segments_line, settings_line, sum_line, with_captures}
use Rattle.part_record.specs.Sum.{IsSum}
use Rattle.part_record.proofs.Captures.{LacksPort, port_line_parts, same_ports}
use Rattle.part_record.proofs.Lines.{same_lines, same_numbers, same_sum_lines}

-- ---- what stands behind each line of a record's text

abbrev pub behind_both : Facts → List ℕ → List ℕ
behind_both f r = events_line f.events ++ r

abbrev pub behind_captures : Facts → List ℕ → List ℕ
behind_captures f r = both_line f.both ++ behind_both f r

abbrev pub behind_ports : Facts → List ℕ → List ℕ
behind_ports f r = capture_line taps.Underlay f.underlay ++ behind_captures f r

abbrev pub behind_changes : Facts → List ℕ → List ℕ
behind_changes f r = port_lines 1 f.ports ++ behind_ports f r

abbrev pub behind_settings : Facts → List ℕ → List ℕ
behind_settings f r = changes_line f.changes ++ behind_changes f r

abbrev pub behind_segments : Facts → List ℕ → List ℕ
behind_segments f r = settings_line f.settings ++ behind_settings f r

abbrev pub behind_first : Facts → List ℕ → List ℕ
behind_first f r = segments_line f.segments ++ behind_segments f r

parts : (a b c d e f g h i : List ℕ) → a ++ b ++ c ++ d ++ e ++ f ++ g ++ h ++ i ≡ a ++ (b ++ (c ++ (d ++ (e ++ (f ++ (g ++ (h ++ i)))))))
parts a b c d e f g h i = simp append_assoc

pub text_parts : (f : Facts) (r : List ℕ) → facts_text f ++ r ≡ first_line (is_some f.both) ++ behind_first f r
text_parts f r =
    parts (first_line (is_some f.both)) (segments_line f.segments) (settings_line f.settings) (changes_line f.changes) (port_lines 1 f.ports) (capture_line taps.Underlay f.underlay) (both_line f.both) (events_line f.events) r

-- ---- line by line

-- the tenth octet of `tep shard 4` and of `tep shard 5`
same_first : (a b : Bool) (r q : List ℕ) → first_line a ++ r ≡ first_line b ++ q → (a ≡ b) × (r ≡ q)
same_first false false r q e = (refl, append_cancel_left (first_line false) r q e)
same_first false true r q e = let wrong : 52 ≡ 53 = ap (λ (l : List ℕ). get_or l 10 0) e in absurd (omega (arith, wrong))
same_first true false r q e = let wrong : 53 ≡ 52 = ap (λ (l : List ℕ). get_or l 10 0) e in absurd (omega (arith, wrong))
same_first true true r q e = (refl, append_cancel_left (first_line true) r q e)

-- a text that begins with neither
pub no_first : (text : List ℕ) → ((rest : List ℕ) → text ≢ codes "tep shard 4\n" ++ rest) → ((rest : List ℕ) → text ≢ codes "tep shard 5\n" ++ rest)
    → (both : Bool) (rest : List ℕ) → text ≢ first_line both ++ rest
no_first text four five false rest = four rest
no_first text four five true rest = five rest

pub first_is : (text : List ℕ) (both : Bool) (rest : List ℕ) (f : Facts) (r : List ℕ) → text ≡ first_line both ++ rest → text ≡ facts_text f ++ r → (both ≡ is_some f.both) × (rest ≡ behind_first f r)
first_is text both rest f r e h = same_first both (is_some f.both) rest (behind_first f r) (sym e ∙ h ∙ text_parts f r)

pub segments_are : (f : Facts) (r : List ℕ) → IsRecord f → (old segments new : List ℕ) → IsOneLine segments → old ≡ segments_line segments ++ new → old ≡ behind_first f r
    → (segments ≡ f.segments) × (new ≡ behind_segments f r)
segments_are f r is old segments new one e h = same_lines (codes "segments ") segments f.segments new (behind_segments f r) one is.segments (sym e ∙ h)

pub settings_are : (f : Facts) (r : List ℕ) → IsRecord f → (old sum new : List ℕ) → IsSum sum → old ≡ settings_line sum ++ new → old ≡ behind_segments f r
    → (sum ≡ f.settings) × (new ≡ behind_settings f r)
settings_are f r is old sum new of e h = same_sum_lines (codes "settings ") sum f.settings new (behind_settings f r) of is.settings (sym e ∙ h)

pub underlay_is : (f : Facts) (r : List ℕ) → IsRecord f → (old sum new : List ℕ) → IsSum sum → old ≡ capture_line taps.Underlay sum ++ new → old ≡ behind_ports f r
    → (sum ≡ f.underlay) × (new ≡ behind_captures f r)
underlay_is f r is old sum new of e h = same_sum_lines (capture_word taps.Underlay) sum f.underlay new (behind_captures f r) of is.underlay (sym e ∙ h)

both_as : (f : Facts) (r old new : List ℕ) (a b : Option ℕ) → IsTime a → IsTime b → is_some a ≡ is_some b → old ≡ both_line a ++ new → old ≡ both_line b ++ behind_both f r
    → (a ≡ b) × (new ≡ behind_both f r)
both_as f r old new None None p q same e h = (refl, sym e ∙ h)
both_as f r old new None (Some y) p q same e h = cc same
both_as f r old new (Some x) None p q same e h = cc same
both_as f r old new (Some x) (Some y) p q same e h =
    let is = same_numbers (codes "both ") x y new (behind_both f r) p q (sym e ∙ h) in
    (ap Some is.0, is.1)

pub both_are : (f : Facts) (r : List ℕ) → IsRecord f → (old : List ℕ) (both : Option ℕ) (new : List ℕ) → IsTime both → is_some both ≡ is_some f.both → old ≡ both_line both ++ new → old ≡ behind_captures f r
    → (both ≡ f.both) × (new ≡ behind_both f r)
both_are f r is old both new small same e h = both_as f r old new both f.both small is.both same e h

-- a record that tells a time has its line
pub both_given : (f : Facts) (r : List ℕ) → IsRecord f → (old : List ℕ) → is_some f.both ≡ true → old ≡ behind_captures f r
    → ((within : ℕ) (rest : List ℕ) → within < 2 ^ 64 → old ≢ both_line (Some within) ++ rest) → ⊥
both_given f r is old some e none = given f.both is.both some e
  where
    given : (both : Option ℕ) → IsTime both → is_some both ≡ true → old ≡ both_line both ++ behind_both f r → ⊥
    given None small some e = cc some
    given (Some within) small some e = none within (behind_both f r) small e

pub events_are : (f : Facts) (r : List ℕ) → IsRecord f → (old : List ℕ) (events : ℕ) (new : List ℕ) → events < 2 ^ 64 → old ≡ events_line events ++ new → old ≡ behind_both f r
    → (events ≡ f.events) × (new ≡ r)
events_are f r is old events new small e h = same_numbers (codes "events ") events f.events new r small is.events (sym e ∙ h)

-- ---- captures

-- the eighth octet of `capture u ` and the ninth of `capture p`
lacks_port : (sum rest : List ℕ) → LacksPort (capture_line taps.Underlay sum ++ rest)
lacks_port sum rest = λ q e. let wrong : 117 ≡ 112 = ap (λ (l : List ℕ). get_or l 8 0) e in omega (arith, wrong)

pub ports_are : (f : Facts) (r : List ℕ) → IsRecord f → (old : List ℕ) (sums : List (List ℕ)) (new : List ℕ) → All IsSum sums → length sums ≤ 255
    → ((sum rest : List ℕ) → IsSum sum → length sums < 255 → new ≢ capture_line (taps.Port (length sums + 1)) sum ++ rest)
    → old ≡ port_lines 1 sums ++ new → old ≡ behind_changes f r → (sums ≡ f.ports) × (new ≡ behind_ports f r)
ports_are f r is old sums new of few none e h =
    let at : 1 + length sums ≡ length sums + 1 = omega arith in
    let most = is.few in
    same_ports 1 sums f.ports new (behind_ports f r) of is.ports (lacks_port f.underlay (behind_captures f r))
    (λ sum rest one less g. none sum rest one (omega arith) (g ∙ ap (λ (n : ℕ). capture_line (taps.Port n) sum ++ rest) at)) (sym e ∙ h)

-- ---- changes

-- the second octet of `capture` and of `changes`
no_changes : (sums : List (List ℕ)) (sum rest other behind : List ℕ) → port_lines 1 sums ++ (capture_line taps.Underlay sum ++ rest) ≢ sum_line (codes "changes ") other ++ behind
no_changes [] sum rest other behind e = let wrong : 97 ≡ 104 = ap (λ (l : List ℕ). get_or l 1 0) e in omega (arith, wrong)
no_changes (x ∷ sums) sum rest other behind e = let wrong : 97 ≡ 104 = ap (λ (l : List ℕ). get_or l 1 0) e in omega (arith, wrong)

changes_as : (f : Facts) (r old new : List ℕ) (a b : Option (List ℕ)) → IfSome a IsSum → IfSome b IsSum
    → IfNone a ((sum rest : List ℕ) → IsSum sum → old ≢ sum_line (codes "changes ") sum ++ rest)
    → old ≡ changes_line a ++ new → old ≡ changes_line b ++ behind_changes f r → (a ≡ b) × (new ≡ behind_changes f r)
changes_as f r old new None None p q none e h = (refl, sym e ∙ h)
changes_as f r old new None (Some y) p q none e h = absurd (none y (behind_changes f r) q h)
changes_as f r old new (Some x) None p q none e h = absurd (no_changes f.ports f.underlay (behind_captures f r) x new (sym h ∙ e))
changes_as f r old new (Some x) (Some y) p q none e h =
    let both = same_sum_lines (codes "changes ") x y new (behind_changes f r) p q (sym e ∙ h) in
    (ap Some both.0, both.1)

pub changes_are : (f : Facts) (r : List ℕ) → IsRecord f → (old : List ℕ) (changes : Option (List ℕ)) (new : List ℕ) → IfSome changes IsSum
    → IfNone changes ((sum rest : List ℕ) → IsSum sum → old ≢ sum_line (codes "changes ") sum ++ rest)
    → old ≡ changes_line changes ++ new → old ≡ behind_settings f r → (changes ≡ f.changes) × (new ≡ behind_changes f r)
changes_are f r is old changes new of none e h = changes_as f r old new changes f.changes of is.changes none e h

-- ---- a whole text

abbrev pub facts : List ℕ → List ℕ → Option (List ℕ) → List (List ℕ) → List ℕ → Option ℕ → ℕ → Facts
facts segments settings changes ports underlay both events =
    record { segments = segments; settings = settings; changes = changes; ports = ports; underlay = underlay; both = both; events = events }

same_facts : (f g : Facts) → f.segments ≡ g.segments → f.settings ≡ g.settings → f.changes ≡ g.changes → f.ports ≡ g.ports → f.underlay ≡ g.underlay → f.both ≡ g.both → f.events ≡ g.events → f ≡ g
same_facts f g a b c d u t n =
    λ i. record { segments = a i; settings = b i; changes = c i; ports = d i; underlay = u i; both = t i; events = n i }

changes_given : (f : Facts) (r old : List ℕ) → old ≡ behind_settings f r → IfNone f.changes ((sum rest : List ℕ) → IsSum sum → old ≢ sum_line (codes "changes ") sum ++ rest)
changes_given f r old e = given f.changes e
  where
    given : (changes : Option (List ℕ)) → old ≡ changes_line changes ++ behind_changes f r → IfNone changes ((sum rest : List ℕ) → IsSum sum → old ≢ sum_line (codes "changes ") sum ++ rest)
    given None e = λ sum rest is h. no_changes f.ports f.underlay (behind_captures f r) sum rest (sym e ∙ h)
    given (Some x) e = tt

pub has_one_text : (f g : Facts) (r q : List ℕ) → IsRecord f → IsRecord g → facts_text f ++ r ≡ facts_text g ++ q → (f ≡ g) × (r ≡ q)
has_one_text f g r q is are e =
    let first = first_is (facts_text f ++ r) (is_some f.both) (behind_first f r) g q (text_parts f r) e in
    let a = segments_are g q are (behind_first f r) f.segments (behind_segments f r) is.segments refl first.1 in
    let b = settings_are g q are (behind_segments f r) f.settings (behind_settings f r) is.settings refl a.1 in
    let c = changes_are g q are (behind_settings f r) f.changes (behind_changes f r) is.changes (changes_given f r (behind_settings f r) refl) refl b.1 in
    let d = ports_are g q are (behind_changes f r) f.ports (behind_ports f r) is.ports is.few
    (λ sum rest one less h. lacks_port f.underlay (behind_captures f r) _ (h ∙ port_line_parts (length f.ports + 1) sum rest)) refl c.1 in
    let u = underlay_is g q are (behind_ports f r) f.underlay (behind_captures f r) is.underlay refl d.1 in
    let t = both_are g q are (behind_captures f r) f.both (behind_both f r) is.both first.0 refl u.1 in
    let n = events_are g q are (behind_both f r) f.events r is.events refl t.1 in
    (same_facts f g a.0 b.0 c.0 d.0 u.0 t.0 n.0, n.1)

pub segments_front : (text : List ℕ) (both : Bool) (listed segments set : List ℕ) → text ≡ first_line both ++ listed → listed ≡ segments_line segments ++ set → text ≡ first_line both ++ segments_line segments ++ set
segments_front text both listed segments set e h = e ∙ ap (λ (l : List ℕ). first_line both ++ l) h ∙ sym (append_assoc (first_line both) (segments_line segments) set)

-- ---- a text that was read up to the underlay's capture

-- each line of the facts was read, and what was left behind it
pub record IsReadTo (text : List ℕ) (has_both : Bool) (segments settings : List ℕ) (changes : Option (List ℕ)) (ports : List (List ℕ)) (under : List ℕ) : Type 0 where
  pub listed : List ℕ
  pub set : List ℕ
  pub changed : List ℕ
  pub captured : List ℕ
  pub first : text ≡ first_line has_both ++ listed
  pub one_line : IsOneLine segments
  pub segments_read : listed ≡ segments_line segments ++ set
  pub settings_sum : IsSum settings
  pub settings_read : set ≡ settings_line settings ++ changed
  pub changes_sum : IfSome changes IsSum
  pub changes_none : IfNone changes ((sum rest : List ℕ) → IsSum sum → changed ≢ sum_line (codes "changes ") sum ++ rest)
  pub changes_read : changed ≡ changes_line changes ++ captured
  pub port_sums : All IsSum ports
  pub few : length ports ≤ 255
  pub no_more : (sum rest : List ℕ) → IsSum sum → length ports < 255 → under ≢ capture_line (taps.Port (length ports + 1)) sum ++ rest
  pub ports_read : captured ≡ port_lines 1 ports ++ under

front_parts : (a b c d e f : List ℕ) → a ++ (b ++ (c ++ (d ++ (e ++ f)))) ≡ a ++ b ++ c ++ d ++ e ++ f
front_parts a b c d e f = sym (simp append_assoc)

lacks_changes : (changes : Option (List ℕ)) (ports : List (List ℕ)) (changed captured under : List ℕ)
    → IfNone changes ((sum rest : List ℕ) → IsSum sum → changed ≢ sum_line (codes "changes ") sum ++ rest)
    → changed ≡ changes_line changes ++ captured → captured ≡ port_lines 1 ports ++ under
    → changes ≡ None → ports ≡ [] → (sum rest : List ℕ) → IsSum sum → under ≢ sum_line (codes "changes ") sum ++ rest
lacks_changes None [] changed captured under none e h same empty sum rest is g = none sum rest is (e ∙ h ∙ g)
lacks_changes None (x ∷ ports) changed captured under none e h same empty sum rest is g = cc empty
lacks_changes (Some x) ports changed captured under none e h same empty sum rest is g = cc same

-- a time, where there is to be one
abbrev time_for : Bool → Option ℕ
time_for false = None
time_for true = Some 0

time_is : (b : Bool) → is_some (time_for b) ≡ b
time_is false = refl
time_is true = refl

time_fits : (b : Bool) → IsTime (time_for b)
time_fits false = tt
time_fits true = lit< tt

module _ {text : List ℕ} {has_both : Bool} {segments settings : List ℕ} {changes : Option (List ℕ)} {ports : List (List ℕ)} {under : List ℕ} (read : IsReadTo text has_both segments settings changes ports under) where
  pub both_is : (f : Facts) (r : List ℕ) → text ≡ facts_text f ++ r → has_both ≡ is_some f.both
  both_is f r e = (first_is text has_both read.listed f r read.first e).0

  pub under_is : (f : Facts) (r : List ℕ) → IsRecord f → text ≡ facts_text f ++ r → under ≡ behind_ports f r
  under_is f r is e =
      let a = segments_are f r is read.listed segments read.set read.one_line read.segments_read (first_is text has_both read.listed f r read.first e).1 in
      let b = settings_are f r is read.set settings read.changed read.settings_sum read.settings_read a.1 in
      let c = changes_are f r is read.changed changes read.captured read.changes_sum read.changes_none read.changes_read b.1 in
      (ports_are f r is read.captured ports under read.port_sums read.few read.no_more read.ports_read c.1).1

  -- the facts that were read, with these behind them
  abbrev pub facts_read : List ℕ → Option ℕ → ℕ → Facts
  facts_read underlay both events = facts segments settings changes ports underlay both events

  front_is : (underlay : List ℕ) (both : Option ℕ) (events : ℕ) → is_some both ≡ has_both → text ≡ before_underlay (facts_read underlay both events) ++ under
  front_is underlay both events some =
      read.first
      ∙ ap (λ (l : List ℕ). first_line has_both ++ l)
      (read.segments_read ∙ ap (λ (l : List ℕ). segments_line segments ++ l)
      (read.settings_read ∙ ap (λ (l : List ℕ). settings_line settings ++ l) (read.changes_read ∙ ap (λ (l : List ℕ). changes_line changes ++ l) read.ports_read)))
      ∙ ap (λ (b : Bool). first_line b ++ (segments_line segments ++ (settings_line settings ++ (changes_line changes ++ (port_lines 1 ports ++ under))))) (sym some)
      ∙ front_parts (first_line (is_some both)) (segments_line segments) (settings_line settings) (changes_line changes) (port_lines 1 ports) under

  pub made_record : (underlay : List ℕ) (both : Option ℕ) (events : ℕ) → IsSum underlay → IsTime both → events < 2 ^ 64 → IsRecord (facts_read underlay both events)
  made_record underlay both events of time small = record {
    segments = read.one_line;
    settings = read.settings_sum;
    changes = read.changes_sum;
    ports = read.port_sums;
    few = read.few;
    underlay = of;
    both = time;
    events = small;
  }

  -- where the underlay's capture isn't there
  pub capture_fault : (fault : PartRecordFault) → IsNoCapture under fault → ((sum rest : List ℕ) → IsSum sum → under ≢ capture_line taps.Underlay sum ++ rest) → IsFaultIn text fault
  capture_fault fault told none =
      let f = facts_read settings (time_for has_both) 0 in
      let is = made_record settings (time_for has_both) 0 read.settings_sum (time_fits has_both) (lit< tt) in
      let front = front_is settings (time_for has_both) 0 (time_is has_both) in
      let lacks : LacksNext f under = record {
        changes = lacks_changes changes ports read.changed read.captured under read.changes_none read.changes_read read.ports_read;
        port = read.no_more;
        underlay = none;
      } in
      elim told [
        | inl out ↦ rw out.2 (f, under, out.0, is, front, lacks, out.1)
        | inr out ↦ rw out.1 (f, under, is, front, lacks, out.0)
      ]

  -- and its line
  pub captures_front : (underlay : List ℕ) (both : Option ℕ) (events : ℕ) (counted : List ℕ) → is_some both ≡ has_both → under ≡ capture_line taps.Underlay underlay ++ counted
      → text ≡ with_captures (facts_read underlay both events) ++ counted
  captures_front underlay both events counted some e =
      front_is underlay both events some
      ∙ ap (λ (l : List ℕ). before_underlay (facts_read underlay both events) ++ l) e
      ∙ sym (append_assoc (before_underlay (facts_read underlay both events)) (capture_line taps.Underlay underlay) counted)

  pub counted_is : (underlay counted : List ℕ) → IsSum underlay → under ≡ capture_line taps.Underlay underlay ++ counted
      → (f : Facts) (r : List ℕ) → IsRecord f → text ≡ facts_text f ++ r → counted ≡ behind_captures f r
  counted_is underlay counted of h f r is e = (underlay_is f r is under underlay counted of h (under_is f r is e)).1

  -- and that of the time
  pub events_front : (underlay : List ℕ) (both : Option ℕ) (events : ℕ) (counted timed : List ℕ) → is_some both ≡ has_both → under ≡ capture_line taps.Underlay underlay ++ counted
      → counted ≡ both_line both ++ timed → text ≡ before_events (facts_read underlay both events) ++ timed
  events_front underlay both events counted timed some e h =
      captures_front underlay both events counted some e
      ∙ ap (λ (l : List ℕ). with_captures (facts_read underlay both events) ++ l) h
      ∙ sym (append_assoc (with_captures (facts_read underlay both events)) (both_line both) timed)

  pub timed_is : (underlay counted : List ℕ) (both : Option ℕ) (timed : List ℕ) → IsSum underlay → is_some both ≡ has_both → IsTime both → under ≡ capture_line taps.Underlay underlay ++ counted
      → counted ≡ both_line both ++ timed → (f : Facts) (r : List ℕ) → IsRecord f → text ≡ facts_text f ++ r → timed ≡ behind_both f r
  timed_is underlay counted both timed of some time h g f r is e =
      (both_are f r is counted both timed time (some ∙ both_is f r e) g (counted_is underlay counted of h f r is e)).1

  -- and the last one
  pub whole_front : (underlay : List ℕ) (both : Option ℕ) (events : ℕ) (counted timed rest : List ℕ) → is_some both ≡ has_both → under ≡ capture_line taps.Underlay underlay ++ counted
      → counted ≡ both_line both ++ timed → timed ≡ events_line events ++ rest → text ≡ facts_text (facts_read underlay both events) ++ rest
  whole_front underlay both events counted timed rest some e h g =
      events_front underlay both events counted timed some e h
      ∙ ap (λ (l : List ℕ). before_events (facts_read underlay both events) ++ l) g
      ∙ sym (append_assoc (before_events (facts_read underlay both events)) (events_line events) rest)

pub nonempty : (rest : List ℕ) → (length rest == 0) ≡ false → rest ≢ []
nonempty [] h = cc h
nonempty (x ∷ rest) h = λ e. cc e

pub empty : (rest : List ℕ) → (length rest == 0) ≡ true → rest ≡ []
empty [] h = refl
empty (x ∷ rest) h = let wrong = eqb-true (length (x ∷ rest)) 0 h in absurd (omega (arith, wrong))
