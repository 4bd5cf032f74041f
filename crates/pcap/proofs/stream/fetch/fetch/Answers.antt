use Rattle.std.proofs.Common.{◌∙◌, ◌≤◌, ℕ, List, refl, rules, ap, sym, subst, length, Err, Ok, OnErr, Result}
use Rattle.pcap.specs.Ahead.{left_of}
use Rattle.pcap.proofs.Nexts.{next_of-short}
use Rattle.pcap.specs.Source.{Failed, is_another}
use Rattle.pcap.proofs.Aheads.{read_by_part}
use Rattle.pcap.proofs.Bounds.{short_header, short_octets}
use Rattle.pcap.proofs.Fetching.{reads_cut, reads_fault, reads_record, reads_short}
use Rattle.pcap.proofs.HeldNext.{another_lacks, another_long, another_whole}
use Rattle.pcap.proofs.stream.fetch.fetch.Goals as goal

pub returns-then-got-lt-RECORD_HEADER_LENGTH-clause-next : goal.returns-then-got-lt-RECORD_HEADER_LENGTH-clause-next
returns-then-got-lt-RECORD_HEADER_LENGTH-clause-next g c =
    let read = c.in_ok-got.ensures in
    reads_short c.args.style (left_of c.args.ahead.now) (left_of c.pass.new.self) c.pass.new.self.taken c.in_ok-got.got (search rules) c.if-got-lt-RECORD_HEADER_LENGTH.true
    read.taken (read.end (search rules)) read.quiet

pub returns-in-Err-clause-next : goal.returns-in-Err-clause-next
returns-in-Err-clause-next g c =
    let read = c.in_ok-got.ensures in
    reads_fault c.args.style (left_of c.args.ahead.now) (left_of c.pass.new.self) c.pass.new.self.taken c.in-Err.fault _ (search rules)
    read.taken (search rules) (ap Failed c.from.ensures) read.quiet

pub returns-then-got-captured-clause-next : goal.returns-then-got-captured-clause-next
returns-then-got-captured-clause-next g c =
    let read = c.in_ok-got.ensures in
    let more = c.in_ok-got-2.ensures in
    reads_cut c.args.style (left_of c.args.ahead.now) (left_of c.pass.new.self) (left_of c.pass-2.new.self) c.pass.new.self.taken c.pass-2.new.self.taken c.in-Ok.header
    (search rules) read.taken (search rules) more.taken (search rules) (more.end (search rules)) (more.quiet ∙ read.quiet)

pub returns-clause-next : goal.returns-clause-next
returns-clause-next g c =
    let read = c.in_ok-got.ensures in
    let more = c.in_ok-got-2.ensures in
    reads_record c.args.style (left_of c.args.ahead.now) (left_of c.pass.new.self) (left_of c.pass-2.new.self) c.pass.new.self.taken c.pass-2.new.self.taken c.in-Ok.header _
    (search rules) read.taken (search rules) more.taken (search rules) c.moment.ensures refl (more.quiet ∙ read.quiet)

on_err : {T E : Type 0} (P : Type 0) (r : Result T E) → P → OnErr r P
on_err P (Ok x) p = tt
on_err P (Err e) p = p

pub returns-in_err-got-clause-short : goal.returns-in_err-got-clause-short
returns-in_err-got-clause-short g c =
    on_err _ c.from_residual.result (short_header c.args.style (length c.args.ahead.now.ahead) (left_of c.args.ahead.now) (left_of c.pass.new.self) c.in_err-got.ensures.short)

pub returns-in_err-got-2-clause-short : goal.returns-in_err-got-2-clause-short
returns-in_err-got-2-clause-short g c =
    let read = c.in_ok-got.ensures in
    on_err _ c.from_residual-in_err-got-2.result
    (short_octets c.args.style (length c.args.ahead.now.ahead) (length c.pass.new.self.ahead) (left_of c.args.ahead.now) (left_of c.pass.new.self) (left_of c.pass-2.new.self) c.pass.new.self.taken c.in-Ok.header (search rules)
    read.taken (read_by_part _ _ 16 _ _ (read.lacks (search rules)) c.pass.ensures.behind) read.quiet (read.no_end (search rules)) (search rules) c.in_err-got-2.ensures.short)

-- ---- a record that was read ahead

pub returns-in_err-got-clause-held : goal.returns-in_err-got-clause-held
returns-in_err-got-clause-held g c is = (c.in_err-got.ensures.there (another_long c.args.style c.args.ahead.now.ahead is)).0

pub returns-then-got-lt-RECORD_HEADER_LENGTH-clause-held : goal.returns-then-got-lt-RECORD_HEADER_LENGTH-clause-held
returns-then-got-lt-RECORD_HEADER_LENGTH-clause-held g c is = (c.in_ok-got.ensures.there (another_long c.args.style c.args.ahead.now.ahead is)).0

pub returns-in-Err-clause-held : goal.returns-in-Err-clause-held
returns-in-Err-clause-held g c is = (c.in_ok-got.ensures.there (another_long c.args.style c.args.ahead.now.ahead is)).0

pub returns-in_err-got-2-clause-held : goal.returns-in_err-got-2-clause-held
returns-in_err-got-2-clause-held g c is =
    let read = c.in_ok-got.ensures.there (another_long c.args.style c.args.ahead.now.ahead is) in
    let whole = another_whole c.args.style c.args.ahead.now.ahead c.pass.new.self.taken c.in-Ok.header is read.1 (search rules) in
    (c.in_err-got-2.ensures.there (subst (λ (l : List ℕ). c.in-Ok.header.captured ≤ length l) (sym read.2) whole)).0 ∙ read.0

pub returns-then-got-captured-clause-held : goal.returns-then-got-captured-clause-held
returns-then-got-captured-clause-held g c is =
    let read = c.in_ok-got.ensures.there (another_long c.args.style c.args.ahead.now.ahead is) in
    let whole = another_whole c.args.style c.args.ahead.now.ahead c.pass.new.self.taken c.in-Ok.header is read.1 (search rules) in
    (c.in_ok-got-2.ensures.there (subst (λ (l : List ℕ). c.in-Ok.header.captured ≤ length l) (sym read.2) whole)).0 ∙ read.0

pub returns-clause-held : goal.returns-clause-held
returns-clause-held g c is =
    let read = c.in_ok-got.ensures.there (another_long c.args.style c.args.ahead.now.ahead is) in
    let whole = another_whole c.args.style c.args.ahead.now.ahead c.pass.new.self.taken c.in-Ok.header is read.1 (search rules) in
    (c.in_ok-got-2.ensures.there (subst (λ (l : List ℕ). c.in-Ok.header.captured ≤ length l) (sym read.2) whole)).0 ∙ read.0

-- ---- and one that wasn't

pub returns-in_err-got-clause-lacked : goal.returns-in_err-got-clause-lacked
returns-in_err-got-clause-lacked g c =
    on_err _ c.from_residual.result (ap is_another (next_of-short c.args.style c.args.ahead.now.ahead c.in_err-got.ensures.lacked))

pub returns-in_err-got-2-clause-lacked : goal.returns-in_err-got-2-clause-lacked
returns-in_err-got-2-clause-lacked g c =
    let there = c.in_ok-got.ensures.there in
    on_err _ c.from_residual-in_err-got-2.result
    (another_lacks c.args.style c.args.ahead.now.ahead c.pass.new.self.taken c.pass.new.self.ahead c.in-Ok.header (λ long. ((there long).1, (there long).2)) (search rules) c.in_err-got-2.ensures.lacked)
