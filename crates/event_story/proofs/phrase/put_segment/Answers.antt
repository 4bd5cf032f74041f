use Rattle.std.proofs.Common.{◌≡◌, ◌∙◌, List, ℕ, ◌++◌, ap, append_assoc, subst}
use Rattle.std.specs.Prelude.{OnOk, codes, decimal}
use Rattle.std.specs.String.{string_bytes}
use Rattle.change_story.specs.Words.{origin_word}
use Rattle.event_story.proofs.phrase.put_segment.Goals as goal

pub returns : goal.returns
returns c =
    let front : List ℕ → List ℕ = λ w. c.args.front.now ++ (decimal c.args.vid ++ (codes " by the vid of " ++ w)) in
    let words : front c.origin_word-origin.result.now ≡ c.args.front.now ++ decimal c.args.vid ++ codes " by the vid of " ++ origin_word c.args.by_tag =
    ap front c.origin_word-origin.ensures ∙ simp append_assoc in
    subst (λ (t : List ℕ). OnOk c.write.result (string_bytes c.write.new.self ≡ string_bytes c.args.text.now ++ t)) words c.write.ensures.bytes
