use Rattle.std.proofs.Common.{◌∙◌, ◌-◌, sym, ap, arith, length, drop, length-drop, Ok}
use Rattle.std.proofs.lemmas.List.{take_all}
use Rattle.pcap.specs.Capture.{opened_by}
use Rattle.pcap.specs.Reading.{records}
use Rattle.pcap.proofs.Opened.{opened-found, IsCapture-few, IsCapture-within}
use Rattle.pcap.proofs.text.capture.Capture.open.Goals as goal

pub returns-clause-value : goal.returns-clause-value
returns-clause-value c =
    let octets = c.args.octets.now in
    let style = c.in_ok-style.style in
    ap (λ text. Ok (records style text)) (take_all (length octets - 24) (drop 24 octets) (omega (arith, length-drop 24 octets)))
    ∙ ap (λ found. opened_by found octets) c.in_ok-style.ensures.style

pub returns-clause-grammar : goal.returns-clause-grammar
returns-clause-grammar c = opened-found _ _ (λ i. (c.type_inv.octets i).fits) (sym (returns-clause-value c))

pub returns-clause-limits : goal.returns-clause-limits
returns-clause-limits c = IsCapture-within _ _ (returns-clause-grammar c)

pub returns-clause-few : goal.returns-clause-few
returns-clause-few c = IsCapture-few _ _ (returns-clause-grammar c)
