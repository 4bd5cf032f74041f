use Rattle.std.proofs.Common.{◌≡◌, ◌∙◌, ℕ, List, length, replicate, ap, rules}
use Rattle.overlay.specs.Ports.{Ports, Segments}
use Rattle.overlay.proofs.PortsLemmas.{shown}
use Rattle.overlay.proofs.SegmentLemmas.{segments-zeros}
use Rattle.overlay.proofs.ports.port_set.PortSet.without_segments.Goals as goal

pub returns : goal.returns
returns c =
    let zeros : c.in_ok-words.words.items ≡ replicate c.word_count.result 0 = c.in_ok-words.ensures.items_if_clones_equal (λ y h. search rules) in
    ap (λ ports. shown ports c.in_ok-words.words.items) c.in_ok-from_slice.ensures.items
    ∙ ap (λ (words : List ℕ). shown c.args.ports.now words) zeros
    ∙ ap (λ (m : Segments). let t : Ports = record { ports = c.args.ports.now; segments = m } in t) (segments-zeros (length c.args.ports.now) c.word_count.result)
