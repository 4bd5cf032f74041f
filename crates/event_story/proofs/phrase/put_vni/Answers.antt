use Rattle.std.proofs.Common.{◌≡◌, ◌∙◌, List, ℕ, ◌++◌, ap, append_assoc, subst}
use Rattle.std.specs.Prelude.{OnOk, codes, decimal}
use Rattle.std.specs.String.{string_bytes}
use Rattle.change_story.specs.Words.{tunnel_word}
use Rattle.event_story.proofs.phrase.put_vni.Goals as goal

pub returns : goal.returns
returns c =
    let tail = codes " vni " ++ (decimal c.args.vni ++ (codes " of segment " ++ decimal c.args.segment)) in
    let words : c.tunnel_word-word.result.now ++ tail ≡ tunnel_word c.args.kind ++ codes " vni " ++ decimal c.args.vni ++ codes " of segment " ++ decimal c.args.segment =
    ap (λ (w : List ℕ). w ++ tail) c.tunnel_word-word.ensures ∙ simp append_assoc in
    subst (λ (t : List ℕ). OnOk c.write.result (string_bytes c.write.new.self ≡ string_bytes c.args.text.now ++ t)) words c.write.ensures.bytes
