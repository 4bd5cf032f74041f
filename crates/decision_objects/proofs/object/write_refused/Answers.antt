use Rattle.std.proofs.Common.{◌≡◌, ◌∙◌, ◌++◌, ap, ℕ, List, codes, decimal}
use Rattle.endpoint_core.specs.Fault.{name_of, number_of}
use Rattle.decision_objects.specs.Objects.{end_text, number_text}
use Rattle.decision_objects.proofs.Texts.{of_refused, put_four}
use Rattle.decision_objects.proofs.object.write_refused.Goals as goal

pub returns : goal.returns
returns c =
    let o = c.args.origin.now in
    let name : c.as_bytes.result.now ≡ name_of c.args.fault = c.as_bytes.ensures.value ∙ c.name.ensures in
    let named : c.put_named.new.line ≡ c.put_event.new.line ++ (codes "\",\"name\":\"" ++ name_of c.args.fault ++ codes "\"" ++ number_text o) =
    c.put_named.ensures.text
    ∙ ap (λ (t : List ℕ). c.put_event.new.line ++ (codes "\",\"name\":\"" ++ t ++ codes "\"" ++ number_text o)) name in
    put_four c.begin_refused.new.line c.put_event.new.line c.put_named.new.line c.put_text.new.self c.put_end.new.line
    (codes "{\"cause\":" ++ decimal (number_of c.args.fault) ++ codes ",\"event\":")
    (decimal o.event ++ codes ",\"moment\":\"" ++ decimal o.moment) (codes "\",\"name\":\"" ++ name_of c.args.fault ++ codes "\"" ++ number_text o)
    (codes ",\"result\":\"refused\"") (end_text c.args.named o.source)
    c.begin_refused.ensures.text c.put_event.ensures.text named c.put_text.ensures.text c.put_end.ensures
    ∙ of_refused (codes "{\"cause\":") (decimal (number_of c.args.fault)) (codes ",") (codes "\"event\":") (decimal o.event)
    (codes ",\"moment\":\"") (decimal o.moment) (codes "\"") (codes ",\"name\":\"") (name_of c.args.fault) (number_text o)
    (codes ",\"result\":\"refused\"") (end_text c.args.named o.source)
