use Rattle.std.proofs.Common.{◌∙◌, ◌++◌, ℕ, decimal, ap}
use Rattle.packet_layers.specs.Text.{ip4_text}
use Rattle.packet_layers.proofs.TextLemmas.{put_after}
use Rattle.packet_layers.proofs.words.lines.Lines.put_ip4.Goals as goal

pub returns-clause-text : goal.returns-clause-text
unfolding ip4_text
returns-clause-text c =
    let a = c.put_number.ensures.text ∙ ap (λ (n : ℕ). c.args.self.now ++ decimal n) c.from.ensures in
    let b = c.put_number-2.ensures.text ∙ ap (λ (n : ℕ). c.put_text.new.self ++ decimal n) c.from-2.ensures in
    let d = c.put_number-3.ensures.text ∙ ap (λ (n : ℕ). c.put_text-2.new.self ++ decimal n) c.from-3.ensures in
    let e = c.put_number-4.ensures.text ∙ ap (λ (n : ℕ). c.put_text-3.new.self ++ decimal n) c.from-4.ensures in
    put_after _ _ _ _ _ (put_after _ _ _ _ _ (put_after _ _ _ _ _ (put_after _ _ _ _ _ (put_after _ _ _ _ _ (put_after _ _ _ _ _ a c.put_text.ensures.text) b) c.put_text-2.ensures.text) d) c.put_text-3.ensures.text) e
