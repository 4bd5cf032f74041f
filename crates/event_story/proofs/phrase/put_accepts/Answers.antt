use Rattle.std.proofs.Common.{◌≡◌, ◌∙◌, List, ℕ, ◌++◌, ap, append_assoc, subst}
use Rattle.std.specs.Prelude.{OnOk, codes, decimal, if◌then◌else◌}
use Rattle.std.specs.String.{string_bytes}
use Rattle.event_story.proofs.phrase.put_accepts.Goals as goal

pub returns : goal.returns
returns c =
    let takes = if c.args.taken then codes " takes " else codes " refuses " in
    let frames = if c.args.tagged then codes "frames with a vid" else codes "frames without a vid" in
    let port : List ℕ → List ℕ → List ℕ = λ t f. codes "port p" ++ (decimal c.args.port ++ (t ++ f)) in
    let words : port c.either-takes.result.now c.either-frames.result.now ≡ codes "port p" ++ (decimal c.args.port ++ takes ++ frames) =
    ap (λ (t : List ℕ). port t c.either-frames.result.now) c.either-takes.ensures ∙ ap (port takes) c.either-frames.ensures ∙ simp append_assoc in
    subst (λ (t : List ℕ). OnOk c.write.result (string_bytes c.write.new.self ≡ string_bytes c.args.text.now ++ t)) words c.write.ensures.bytes
