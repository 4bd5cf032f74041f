use Rattle.std.proofs.Common.{sym, subst, Err}
use Rattle.stream_run.specs.Fetched.{ReadsOne}
use Rattle.stream_run.specs.Begun.{TellsHeader}
use Rattle.stream_run.proofs.Headers.{header_told, opened_fault, opened_open, opened_reads}
use Rattle.stream_run.proofs.opening.open_capture.Goals as goal

pub returns-in-Ok-clause-open : goal.returns-in-Ok-clause-open
returns-in-Ok-clause-open g c = opened_open c.args.source.now c.open.new.self c.in-Ok.ensures.opened c.in-Ok.ensures.answer

pub returns-in-Err-clause-reads : goal.returns-in-Err-clause-reads
returns-in-Err-clause-reads g c =
    subst (λ f. ReadsOne {T = Unit {0}} c.args.tap c.args.source.now c.open.new.self (Err f)) (sym c.fault_at.ensures)
    (opened_fault c.args.source.now c.open.new.self c.args.tap 1 c.in-Err.fault c.in-Err.ensures.opened)

pub returns-in-Ok-clause-header : goal.returns-in-Ok-clause-header
returns-in-Ok-clause-header g c = opened_reads c.args.source.now c.open.new.self c.in-Ok.ensures.opened c.in-Ok.ensures.answer

pub returns-in-Err-clause-header : goal.returns-in-Err-clause-header
returns-in-Err-clause-header g c =
    subst (λ f. TellsHeader c.args.tap c.args.source.now c.open.new.self (Err f)) (sym c.fault_at.ensures)
    (header_told c.args.source.now c.open.new.self c.args.tap 1 c.in-Err.fault c.in-Err.ensures.opened c.in-Err.ensures.answer)
