use Rattle.std.proofs.Common.{◌≡◌, ◌≤◌, ◌+◌, ℕ}
use Rattle.filter_db.specs.Segment.{aged_all, flush_place_in, segment_at as table_of}
use Rattle.overlay.specs.Overlay.{Overlay}
use Rattle.endpoint_core.specs.Sound.{AreReached}
use Rattle.endpoint_core.proofs.EverywhereLemmas.{so_far}
use Rattle.endpoint_core.proofs.state.port_changes.flush_everywhere.Given as goal

abbrev pub invariant-loop-number : goal.invariant-loop-number
invariant-loop-number g l = record {
  time : g.T.Tables.moment l.tables ≤ l.fn.now;
  after : (vid : ℕ) → aged_all l.fn.now (g.T.Tables.segments l.tables) vid ≡ so_far (flush_place_in l.fn.place) l.fn.now l.number (g.T.Tables.segments l.fn.tables) vid;
  pool : g.T.Tables.pool l.tables ≡ g.T.Tables.pool l.fn.tables;
  counted : g.T.Tables.calls l.fn.tables ≤ g.T.Tables.calls l.tables;
  calls : g.T.Tables.calls l.tables + 1 ≤ g.T.Tables.calls l.fn.tables + l.number;
  compared : g.T.Tables.compared l.tables ≡ g.T.Tables.compared l.fn.tables;
  reached : (S : Overlay) (vid : ℕ) → AreReached S vid (table_of vid (g.T.Tables.segments l.fn.tables)).entries → AreReached S vid (table_of vid (g.T.Tables.segments l.tables)).entries;
}
