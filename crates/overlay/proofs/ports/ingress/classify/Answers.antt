use Rattle.std.proofs.Common.{◌≡◌, ◌∙◌, ◌≤◌, not, ℕ, length, sym, ap, arith, Ok}
use Rattle.std.proofs.lemmas.Bool.{le-ltb}
use Rattle.std.proofs.lemmas.Result.{err_from_is_err_and}
use Rattle.wire.proofs.FirstLemmas.{first-nothing}
use Rattle.wire.specs.First.{unless}
use Rattle.overlay.specs.Frame.{first, is_group, is_reserved}
use Rattle.overlay.specs.Ingress.{text_reasons, vid_reasons, tag_vid, vid_at, is_cut, frame_in, source, destination, segment_vid}
use Rattle.overlay.specs.Ports.{port_at}
use Rattle.overlay.proofs.IngressLemmas.{enters-behind, unless-err}
use Rattle.overlay.proofs.ports.ingress.classify.Goals as goal

pub returns-in_err-vid : goal.returns-in_err-vid
returns-in_err-vid c =
    let s = c.args.ports.now in
    let port = c.args.port in
    let b = c.args.octets.now in
    let view : c.in-Ok.view ≡ b = c.in-Ok.ensures.whole in
    let tag : c.in-Some.rest.vid ≡ tag_vid b = c.in-Some.ensures.vid ∙ ap tag_vid view in
    let long : 14 ≤ length b = omega (arith, c.in-Ok.ensures.long) in
    let nothing = first-nothing (text_reasons s port b) (
      le-ltb (length b) 14 long,
      (
        ap not (sym c.is_up.ensures ∙ c.if-not-is_up.false),
        (
          ap is_group (ap source (sym view) ∙ sym c.src.ensures) ∙ sym c.is_group.ensures ∙ c.if-is_group.false,
          (
            ap is_reserved (ap destination (sym view) ∙ sym c.dst.ensures) ∙ sym c.is_reserved.ensures ∙ c.if-is_reserved.false,
            (ap is_cut (sym view) ∙ sym c.in-Some.ensures.cut, tt),
          ),
        ),
      ),
    ) in
    let of_tag = λ (w : ℕ). unless (first (vid_reasons s port w)) (Ok (segment_vid (port_at s port).pvid w)) in
    let refusal = ap of_tag (sym tag) ∙ sym c.segment_of.ensures ∙ c.in_err-vid.was in
    let p = err_from_is_err_and c.from_residual.result c.from_residual.ensures.1 in
    rw (p.1, p.2) (sym (enters-behind s port b nothing ∙ unless-err (first (vid_reasons s port (tag_vid b))) (segment_vid (port_at s port).pvid (tag_vid b)) (vid_at s port b, frame_in b) c.in_err-vid.field-0.0 refusal))
