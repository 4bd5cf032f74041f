use Rattle.std.proofs.Common.{not}
use Rattle.filter_db.specs.Segment.{flush_place_in}
use Rattle.filter_db.specs.Table.{is_seen_at}
use Rattle.std.proofs.Common.{subst, sym}
use Rattle.filter_db.specs.Segment.{Segments, segment_at as table_of}
use Rattle.endpoint_core.specs.Sound.{AreReached}
use Rattle.endpoint_core.proofs.SoundLemmas.{adjusted-reached, reached-kept}
use Rattle.endpoint_core.proofs.state.port_changes.flush_at.Goals as goal

pub returns-then-has-clause-reached : goal.returns-then-has-clause-reached
returns-then-has-clause-reached g c = λ S w h.
    subst (λ (n : Segments). AreReached S w (table_of w n).entries) (sym c.flush_place.ensures.after)
    (adjusted-reached S w c.args.now c.args.vid (flush_place_in c.args.place) (g.T.Tables.segments c.args.tables.now) (λ s k. reached-kept S w (λ e. not (is_seen_at c.args.place e)) s.entries k) h)
