use Rattle.std.proofs.Common.{◌∙◌, sym, refl, Some, is_some, lit<}
use Rattle.part_record.proofs.Reading.{IsReadTo, behind_captures, behind_first, behind_segments, behind_settings, both_given, both_is, capture_fault, captures_front, counted_is, events_front, facts_read, first_is, made_record, segments_are, segments_front, text_parts, timed_is, under_is, whole_front}
use Rattle.part_record.proofs.read.facts_behind.Goals.{After-ports_of-ports}
use Rattle.part_record.proofs.read.facts_behind.Goals as goal

pub returns-in_default-clause-none : goal.returns-in_default-clause-none
returns-in_default-clause-none c f r is e = c.in_default.ensures (is_some f.both) (behind_first f r) (e ∙ text_parts f r)

pub returns-in_default-segments_of-clause-none : goal.returns-in_default-segments_of-clause-none
returns-in_default-segments_of-clause-none c f r is e =
    c.in_default-segments_of.ensures f.segments (behind_segments f r) is.segments (first_is c.args.text.now c.in-Some.has_both c.in-Some.listed.now f r c.in-Some.ensures e).1

pub returns-in_default-sum_behind-clause-none : goal.returns-in_default-sum_behind-clause-none
returns-in_default-sum_behind-clause-none c f r is e =
    let a = segments_are f r is c.in-Some.listed.now c.in-Some-segments_of.segments.now c.in-Some-segments_of.set.now c.in-Some-segments_of.ensures.0 c.in-Some-segments_of.ensures.1
    (first_is c.args.text.now c.in-Some.has_both c.in-Some.listed.now f r c.in-Some.ensures e).1 in
    c.in_default-sum_behind.ensures f.settings (behind_settings f r) is.settings a.1

pub returns-in_default-sum_behind-clause-fault : goal.returns-in_default-sum_behind-clause-fault
returns-in_default-sum_behind-clause-fault c = (
  c.in-Some.has_both,
  c.in-Some-segments_of.segments.now,
  c.in-Some-segments_of.set.now,
  c.in-Some-segments_of.ensures.0,
  segments_front c.args.text.now c.in-Some.has_both c.in-Some.listed.now c.in-Some-segments_of.segments.now c.in-Some-segments_of.set.now c.in-Some.ensures c.in-Some-segments_of.ensures.1,
  c.in_default-sum_behind.ensures,
)

-- what was read up to the underlay's capture
read_to : (c : After-ports_of-ports)
    → IsReadTo c.args.text.now c.in-Some.has_both c.in-Some-segments_of.segments.now c.in-Some-sum_behind.found.0 c.changes_of-changes.result.0 c.ports_of-ports.result.0.items c.ports_of-ports.result.1.now
read_to c = record {
  listed = c.in-Some.listed.now;
  set = c.in-Some-segments_of.set.now;
  changed = c.in-Some-sum_behind.found.1.now;
  captured = c.changes_of-changes.result.1.now;
  first = c.in-Some.ensures;
  one_line = c.in-Some-segments_of.ensures.0;
  segments_read = c.in-Some-segments_of.ensures.1;
  settings_sum = c.in-Some-sum_behind.ensures.0;
  settings_read = c.in-Some-sum_behind.ensures.1;
  changes_sum = c.changes_of-changes.ensures.sum;
  changes_none = c.changes_of-changes.ensures.none;
  changes_read = c.changes_of-changes.ensures.read;
  port_sums = c.ports_of-ports.ensures.sums;
  few = c.ports_of-ports.ensures.few;
  no_more = c.ports_of-ports.ensures.all;
  ports_read = c.ports_of-ports.ensures.read;
}

pub returns-in_default-sum_behind-2-clause-none : goal.returns-in_default-sum_behind-2-clause-none
returns-in_default-sum_behind-2-clause-none c f r is e =
    let read = read_to (goal.at.returns-in_default-sum_behind-2-clause-none c).After-ports_of-ports in
    c.in_default-sum_behind-2.ensures f.underlay (behind_captures f r) is.underlay (under_is read f r is e)

pub returns-in_default-sum_behind-2-clause-fault : goal.returns-in_default-sum_behind-2-clause-fault
returns-in_default-sum_behind-2-clause-fault c =
    let read = read_to (goal.at.returns-in_default-sum_behind-2-clause-fault c).After-ports_of-ports in
    capture_fault read c.no_capture.result c.no_capture.ensures c.in_default-sum_behind-2.ensures

pub returns-in_default-both_of-clause-none : goal.returns-in_default-both_of-clause-none
returns-in_default-both_of-clause-none c f r is e =
    let read = read_to (goal.at.returns-in_default-both_of-clause-none c).After-ports_of-ports in
    let sum = c.in-Some-sum_behind-2 in
    both_given f r is sum.last.1.now (sym (both_is read f r e) ∙ c.in_default-both_of.ensures.0) (counted_is read sum.last.0 sum.last.1.now sum.ensures.0 sum.ensures.1 f r is e) c.in_default-both_of.ensures.1

pub returns-in_default-both_of-clause-fault : goal.returns-in_default-both_of-clause-fault
returns-in_default-both_of-clause-fault c =
    let read = read_to (goal.at.returns-in_default-both_of-clause-fault c).After-ports_of-ports in
    let sum = c.in-Some-sum_behind-2 in (
      facts_read read sum.last.0 (Some 0) 0,
      sum.last.1.now,
      made_record read sum.last.0 (Some 0) 0 sum.ensures.0 (lit< tt) (lit< tt),
      refl,
      captures_front read sum.last.0 (Some 0) 0 sum.last.1.now (sym c.in_default-both_of.ensures.0) sum.ensures.1,
      c.in_default-both_of.ensures.1,
    )

pub returns-in_default-number_behind-clause-none : goal.returns-in_default-number_behind-clause-none
returns-in_default-number_behind-clause-none c f r is e =
    let read = read_to (goal.at.returns-in_default-number_behind-clause-none c).After-ports_of-ports in
    let sum = c.in-Some-sum_behind-2 in
    let time = c.in-Some-both_of in
    c.in_default-number_behind.ensures f.events r is.events
    (timed_is read sum.last.0 sum.last.1.now time.both time.timed.now sum.ensures.0 time.ensures.0 time.ensures.1 sum.ensures.1 time.ensures.2 f r is e)

pub returns-in_default-number_behind-clause-fault : goal.returns-in_default-number_behind-clause-fault
returns-in_default-number_behind-clause-fault c =
    let read = read_to (goal.at.returns-in_default-number_behind-clause-fault c).After-ports_of-ports in
    let sum = c.in-Some-sum_behind-2 in
    let time = c.in-Some-both_of in (
      facts_read read sum.last.0 time.both 0,
      time.timed.now,
      made_record read sum.last.0 time.both 0 sum.ensures.0 time.ensures.1 (lit< tt),
      events_front read sum.last.0 time.both 0 sum.last.1.now time.timed.now time.ensures.0 sum.ensures.1 time.ensures.2,
      c.in_default-number_behind.ensures,
    )

pub returns-clause-read : goal.returns-clause-read
returns-clause-read c =
    let read = read_to (goal.at.returns-clause-read c).After-ports_of-ports in
    let sum = c.in-Some-sum_behind-2 in
    let time = c.in-Some-both_of in
    let last = c.in-Some-number_behind in (
      made_record read sum.last.0 time.both last.events sum.ensures.0 time.ensures.1 last.ensures.0,
      whole_front read sum.last.0 time.both last.events sum.last.1.now time.timed.now last.rest.now time.ensures.0 sum.ensures.1 time.ensures.2 last.ensures.1,
    )
