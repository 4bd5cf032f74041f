use Rattle.std.proofs.Common.{ap}
use Rattle.filter_db.specs.declared.place.Place.TheVariants.{Local}
use Rattle.filter_db.specs.Segment.{flush_place_in}
use Rattle.overlay.specs.Ports.{Ports, has_segment}
use Rattle.endpoint_core.proofs.SoundLemmas.{sound-everywhere, sound-ports}
use Rattle.endpoint_core.proofs.state.parts.Parts.port_down.Goals as goal

pub returns-clause-sound : goal.returns-clause-sound
returns-clause-sound g c =
    let parts = c.args.self.now in
    let segments = g.T.Tables.segments parts.tables in
    sound-everywhere c.args.now (flush_place_in (Local c.args.port)) c.set_up.new.self parts.under segments (g.T.Tables.segments c.flush_everywhere.new.tables)
    (sound-ports parts.ports c.set_up.new.self parts.under segments c.requires.sound (λ w. ap (λ (p : Ports). has_segment p w) c.set_up.ensures))
    c.flush_everywhere.ensures.after (λ w. c.flush_everywhere.ensures.reached parts.under w)
