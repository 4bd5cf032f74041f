use Rattle.std.proofs.Common.{◌≡◌, ◌∙◌, ◌-◌, ◌<◌, ◌≤◌, ap, subst, refl, not, arith, length, ℕ, List, slice_index_or}
use Rattle.std.proofs.lemmas.List.{get_or_default}
use Rattle.pcap.specs.Source.{Stream, holds_next}
use Rattle.timeline.specs.declared.source.Tap.{Tap}
use Rattle.timeline.specs.declared.source.Tap.TheVariants.{Port, Underlay}
use Rattle.stream_run.specs.Steps.{IsAt, source_at}
use Rattle.stream_run.proofs.fetch.takes_read.Goals as goal

-- the changes are no capture
no_capture : (ports : ℕ) (place : Tap) → IsAt ports 0 place → ⊥
no_capture ports (Port port) at = omega (arith, at.0, at.1)
no_capture ports Underlay at = omega (arith, at)

pub returns-then-index-eq0-clause-capture : goal.returns-then-index-eq0-clause-capture
returns-then-index-eq0-clause-capture g c place at = absurd (no_capture (length c.args.captures.now.ports.items) place (subst (λ (i : ℕ). IsAt (length c.args.captures.now.ports.items) i place) c.if-index-eq0.true at))

-- a port's
at_port : (ports : List Stream) (underlay d : Stream) (index : ℕ) (place : Tap) → 0 < index → index ≤ length ports → IsAt (length ports) index place → slice_index_or ports (index - 1) d ≡ source_at ports underlay place
at_port ports underlay d index (Port port) some few at = get_or_default ports (index - 1) d underlay (omega arith) ∙ ap (λ (n : ℕ). slice_index_or ports (n - 1) underlay) at.0
at_port ports underlay d index Underlay some few at = absurd (omega (arith, at, few))

-- the underlay's
at_underlay : (ports : List Stream) (underlay : Stream) (index : ℕ) (place : Tap) → length ports < index → IsAt (length ports) index place → underlay ≡ source_at ports underlay place
at_underlay ports underlay index (Port port) more at = absurd (omega (arith, more, at.0, at.2))
at_underlay ports underlay index Underlay more at = refl

pub returns-then-index-len-clause-capture : goal.returns-then-index-len-clause-capture
returns-then-index-len-clause-capture g c place at =
    let many : c.len.result ≡ length c.args.captures.now.ports.items = c.len.ensures ∙ c.args.captures.now.ports.ok.0 in
    ap not c.holds_next.ensures ∙ ap (λ (s : Stream). not (holds_next s)) (c.index.ensures ∙ at_port c.args.captures.now.ports.items c.args.captures.now.underlay _ c.args.index place (omega (arith, c.if-index-eq0.false)) (omega (arith, many, c.if-index-len.true)) at)

pub returns-clause-capture : goal.returns-clause-capture
returns-clause-capture g c place at =
    let many : c.len.result ≡ length c.args.captures.now.ports.items = c.len.ensures ∙ c.args.captures.now.ports.ok.0 in
    ap not c.holds_next-2.ensures ∙ ap (λ (s : Stream). not (holds_next s)) (at_underlay c.args.captures.now.ports.items c.args.captures.now.underlay c.args.index place (omega (arith, many, c.if-index-len.false)) at)
