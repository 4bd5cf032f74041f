use Rattle.std.proofs.Common.{◌≡◌, ◌∙◌, ap, refl, arith, ℕ, Vec, Global, map, replicate, [], ◌∷◌, ◌++◌}
use Rattle.std.proofs.lemmas.List.{map-append, replicate-append-replicate}
use Rattle.pcap.specs.Written.{written_header}
use Rattle.capture_run.proofs.outputs.Outputs.empty.Goals as goal

pub loop-port-preserved : goal.loop-port-preserved
loop-port-preserved c =
    let capture = c.in_ok-empty_capture.field-0 in
    let port = c.loop-port._port in
    ap (map (λ (v : Vec ℕ Global). v.items)) c.in_ok-push.ensures.items
    ∙ map-append (λ (v : Vec ℕ Global). v.items) c.loop-port.captures.items (capture ∷ [])
    ∙ ap (λ texts. texts ++ capture.items ∷ []) c.loop-port.invariant
    ∙ ap (λ text. replicate port written_header ++ text ∷ []) c.in_ok-empty_capture.ensures
    ∙ replicate-append-replicate port 1 written_header

pub returns : goal.returns
returns c =
    let end : c.loop-port._port ≡ c.args.ports = omega arith in
    rw (c.loop-port.invariant, c.in_ok-empty_capture-2.ensures, c.new.ensures.items, end) refl
