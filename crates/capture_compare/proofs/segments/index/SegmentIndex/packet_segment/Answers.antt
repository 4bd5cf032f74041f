use Rattle.std.proofs.Common.{◌∙◌, ap}
use Rattle.capture_compare.specs.Tunnelled.{tunnelled_whole}
use Rattle.capture_compare.specs.Segment.{tunnel_segment}
use Rattle.capture_compare.specs.Segments.{Index, told_segment, tunnels_of}
use Rattle.capture_compare.proofs.segments.index.SegmentIndex.packet_segment.Goals as goal

pub returns : goal.returns
returns c =
    let tunnels = c.self.invariant ∙ ap (λ (i : Index). tunnels_of i.overlay.underlay) c.self.view_is in
    c.told_segment.ensures
    ∙ ap (λ t. told_segment c.args.self.now.overlay t)
    (c.told_by.ensures ∙ ap (λ t. tunnel_segment (tunnelled_whole t c.args.seen.now.missing c.args.seen.now.octets.now)) tunnels)
