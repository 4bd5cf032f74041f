use Rattle.std.proofs.Common.{decimal, [], ◌++◌}
use Rattle.part_record.specs.Record.{sum_line}
use Rattle.part_record.proofs.DigestText.{line_read, number_is, told_is}
use Rattle.part_record.proofs.digest_lines.digest_behind.Goals as goal

pub returns-in_default : goal.returns-in_default
returns-in_default c d rest is e = c.in_default.ensures (decimal d.octets) (sum_line [] d.sum ++ rest) (told_is c.args.text.now c.args.word.now c.in_ok-told.told.now d rest c.in_ok-told.ensures e)

pub returns-in_default-number_of : goal.returns-in_default-number_of
returns-in_default-number_of c d rest is e =
    let found = number_is c.in_ok-told.told.now c.in-Some.digits.now c.in-Some.summed.now d rest is c.in-Some.ensures.0 c.in-Some.ensures.1 (told_is c.args.text.now c.args.word.now c.in_ok-told.told.now d rest c.in_ok-told.ensures e) in
    c.in_default-number_of.ensures d.octets is.octets found.0

pub returns-in_default-sum_behind : goal.returns-in_default-sum_behind
returns-in_default-sum_behind c d rest is e =
    let found = number_is c.in_ok-told.told.now c.in-Some.digits.now c.in-Some.summed.now d rest is c.in-Some.ensures.0 c.in-Some.ensures.1 (told_is c.args.text.now c.args.word.now c.in_ok-told.told.now d rest c.in_ok-told.ensures e) in
    c.in_default-sum_behind.ensures d.sum rest is.sum found.1

pub returns : goal.returns
returns c = (
  record { octets = c.in-Some-number_of.ensures.0; sum = c.in-Some-sum_behind.ensures.0 },
  line_read c.args.text.now c.args.word.now c.in_ok-told.told.now c.in-Some.digits.now c.in-Some.summed.now c.in-Some-sum_behind.found.1.now (record { octets = c.in-Some-number_of.octets; sum = c.in-Some-sum_behind.found.0 }) c.in_ok-told.ensures c.in-Some.ensures.0 c.in-Some-number_of.ensures.1 c.in-Some-sum_behind.ensures.1,
)
