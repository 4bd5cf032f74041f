use Rattle.std.proofs.Common.{◌∙◌, ap, sym, ℕ, List, [], ◌++◌, append-nil}
use Rattle.part_record.specs.Digests.{digests_text}
use Rattle.part_record.proofs.DigestText.{IsReadTo, digests_read, front_is, rest_is, under_is, whole_is}
use Rattle.part_record.proofs.Reading.{empty, nonempty}
use Rattle.part_record.proofs.digests.digests_of.Goals.{After-port_digests-ports}
use Rattle.part_record.proofs.digests.digests_of.Goals as goal

pub returns-in_default-clause-none : goal.returns-in_default-clause-none
returns-in_default-clause-none c ps u are e = c.in_default.ensures _ e

-- what was read up to the underlay's capture
read_to : (c : After-port_digests-ports) → IsReadTo c.args.text.now c.in-Some.told.now c.port_digests-ports.result.0.items c.port_digests-ports.result.1.now
read_to c = record {
  first = c.in-Some.ensures;
  read = c.port_digests-ports.ensures.read;
  digests = c.port_digests-ports.ensures.digests;
  few = c.port_digests-ports.ensures.few;
  no_more = c.port_digests-ports.ensures.all;
}

pub returns-in_default-digest_behind-clause-none : goal.returns-in_default-digest_behind-clause-none
returns-in_default-digest_behind-clause-none c ps u are e =
    let read = read_to (goal.at.returns-in_default-digest_behind-clause-none c).After-port_digests-ports in
    c.in_default-digest_behind.ensures u [] are.last (under_is read ps u are e).1

pub returns-in_default-digest_behind-clause-fault : goal.returns-in_default-digest_behind-clause-fault
returns-in_default-digest_behind-clause-fault c =
    let read = read_to (goal.at.returns-in_default-digest_behind-clause-fault c).After-port_digests-ports in
    (c.port_digests-ports.result.0.items, c.port_digests-ports.result.1.now, read.digests, read.few, front_is read, read.no_more, c.in_default-digest_behind.ensures)

pub returns-then-not-is_empty-clause-none : goal.returns-then-not-is_empty-clause-none
returns-then-not-is_empty-clause-none c ps u are e =
    let read = read_to (goal.at.returns-then-not-is_empty-clause-none c).After-port_digests-ports in
    let found = c.in-Some-digest_behind in
    nonempty found.last.1.now (sym c.if-not-is_empty.ensures) (rest_is read found.last.0 found.last.1.now found.ensures.0 found.ensures.1 ps u are e)

pub returns-then-not-is_empty-clause-fault : goal.returns-then-not-is_empty-clause-fault
returns-then-not-is_empty-clause-fault c =
    let read = read_to (goal.at.returns-then-not-is_empty-clause-fault c).After-port_digests-ports in
    let found = c.in-Some-digest_behind in (
      c.port_digests-ports.result.0.items,
      found.last.0,
      found.last.1.now,
      digests_read read found.last.0 found.ensures.0,
      whole_is read found.last.0 found.last.1.now found.ensures.1,
      nonempty found.last.1.now (sym c.if-not-is_empty.ensures),
    )

pub returns-clause-read : goal.returns-clause-read
returns-clause-read c =
    let read = read_to (goal.at.returns-clause-read c).After-port_digests-ports in
    let found = c.in-Some-digest_behind in
    let text : List ℕ = digests_text c.port_digests-ports.result.0.items found.last.0 in (
      digests_read read found.last.0 found.ensures.0,
      whole_is read found.last.0 found.last.1.now found.ensures.1
          ∙ ap (λ (l : List ℕ). text ++ l) (empty found.last.1.now (sym c.if-not-is_empty.ensures)) ∙ append-nil text,
    )
