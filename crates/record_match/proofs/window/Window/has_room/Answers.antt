use Rattle.std.proofs.Common.{◌≡◌, ℕ, ◌+◌, length, sym, ap, ◌∙◌, arith}
use Rattle.record_match.proofs.Showing.{count-is, held-is, no-room, octets-are, octets-is, records-is, room-if}
use Rattle.record_match.proofs.window.Window.has_room.Goals as goal

pub returns-then-has_space : goal.returns-then-has_space
returns-then-has_space c =
    let v = held-is c.self.view_is in
    let n : c.len-records.result ≡ length c.self.inside.kept.items = omega (arith, c.len-records.ensures, c.self.inside.kept.ok.0) in
    let o : c.count-octets.result ≡ length c.self.inside.row = c.count-octets.ensures in
    room-if c.args.self.now c.len-records.result c.count-octets.result (c.self.inside.gone + c.len-records.result) (c.self.inside.passed + c.count-octets.result) c.args.more c.has_space.result c.is_counted.result
    c.has_space.ensures c.if-has_space.true c.is_counted.ensures (n ∙ sym (count-is _ _ _ v)) (o ∙ sym (octets-are _ _ _ _ v c.self.invariant.is_laid))
    (ap (λ (m : ℕ). c.self.inside.gone + m) n ∙ records-is c.self.view_is) (ap (λ (m : ℕ). c.self.inside.passed + m) o ∙ octets-is c.self.view_is)

pub returns : goal.returns
returns c =
    let v = held-is c.self.view_is in
    let n : c.len-records.result ≡ length c.self.inside.kept.items = omega (arith, c.len-records.ensures, c.self.inside.kept.ok.0) in
    let o : c.count-octets.result ≡ length c.self.inside.row = c.count-octets.ensures in
    no-room c.args.self.now c.len-records.result c.count-octets.result c.args.more c.has_space.result c.has_space.ensures c.if-has_space.false
    (n ∙ sym (count-is _ _ _ v)) (o ∙ sym (octets-are _ _ _ _ v c.self.invariant.is_laid))
