use Rattle.std.proofs.Common.{rules, arith, ◌≡◌, ◌≤◌, ℕ, ◌<◌, ◌-◌, ◌∙◌, true, length, drop, take, sym, ap}
use Rattle.std.proofs.lemmas.List.{get_or-drop, take_rest, drop-drop, length-drop}
use Rattle.wire.specs.Octets.{octet, field}
use Rattle.wire.proofs.OctetsLemmas.{field-slice, field-drop}
use Rattle.wire.specs.Ether.{has_tag}
use Rattle.wire.specs.Frame.{tagged, frame_behind_tag}
use Rattle.wire.specs.Tag.{vid_of}
use Rattle.wire.proofs.FrameLemmas.{tagged-frame_behind_tag}
use Rattle.wire.proofs.ether.ether_view.EtherView.split_tag.Goals as goal

pub returns-clause-texts : goal.returns-clause-texts
returns-clause-texts c =
    let b = c.args.self.now in
    let after = c.after_addresses-after.result.now in
    let behind : after ≡ drop 12 b = c.after_addresses-after.ensures.part in
    let has : has_tag b ≡ true = search rules in
    let long : 18 ≤ length b = omega (arith, ap length behind, length-drop 12 b) in
    let read : c.new.result ≡ field 2 2 after = c.new.ensures ∙ c.read_u16-2.ensures ∙ field-slice 2 2 after in
    let tci : c.new.result ≡ field 14 2 b = read ∙ ap (field 2 2) behind ∙ field-drop 2 2 12 b in
    let high_is : octet 2 after ≡ octet 14 b = ap (octet 2) behind ∙ get_or-drop 12 b 2 0 in
    let low_is : octet 3 after ≡ octet 15 b = ap (octet 3) behind ∙ get_or-drop 12 b 3 0 in
    let high : octet 2 after < 256 = search rules in
    let low : octet 3 after < 256 = search rules in
    let whole = tagged-frame_behind_tag b (omega arith) (omega arith) long has in
    let body : take (length after - 4) (drop 4 after) ≡ drop 16 b = take_rest after 4 ∙ ap (drop 4) behind ∙ drop-drop 4 12 b in
    (has, whole ∙ ap (λ (x : ℕ). tagged (frame_behind_tag b) (vid_of x)) (sym tci), tci, body, omega (arith, ap length body, length-drop 16 b))
