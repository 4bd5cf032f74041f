use Rattle.std.proofs.Common.{subst, [], take, drop, None, Err}
use Rattle.std.specs.Io.KnownBytes.{prepend_known}
use Rattle.line_stream.specs.Lines.{IsFetched, Reader}
use Rattle.line_stream.proofs.Fills.{not_fetched}
use Rattle.line_stream.proofs.lines.Lines.fetch.Goals as goal

pub returns-in-Ok-clause-fetched : goal.returns-in-Ok-clause-fetched
returns-in-Ok-clause-fetched g c = rw (← c.self.view_is) c.in-Ok.ensures.lent

pub returns-in-Err-clause-fetched : goal.returns-in-Err-clause-fetched
returns-in-Err-clause-fetched g c =
    let s = c.self.inside in
    let old : Reader = record { line = drop s.lent.begin (take s.lent.end s.room.items); ahead = drop s.lent.end (take s.lent.read s.room.items); rest = prepend_known (drop s.lent.end (take s.lent.read s.room.items)) (g.R.Input.remaining s.input); failures = g.R.Input.failures s.input } in
    subst (λ (r : Reader). IsFetched r (record { line = []; ahead = []; rest = None; failures = g.R.Input.failures c.next_line.new.input }) (Err c.in-Err.fault)) c.self.view_is
    (not_fetched old (g.R.Input.failures c.next_line.new.input) (g.R.Input.remaining c.next_line.new.input) c.next_line.new.room.items c.in-Err.fault c.in-Err.ensures.lent)
