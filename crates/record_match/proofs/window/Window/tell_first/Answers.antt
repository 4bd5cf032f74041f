use Rattle.std.proofs.Common.{ℕ, List, take, ap}
use Rattle.record_match.proofs.Looking.{tells-first}
use Rattle.record_match.proofs.window.Window.tell_first.Goals as goal

pub returns : goal.returns
returns g c =
    let k = c.index-kept.result.now in
    tells-first g.W.Onlooker.sees c.args.onlooker.now c.see_sent.new.self c.self.inside.within c.self.inside.gone c.self.inside.passed c.self.inside.kept.items c.self.inside.row c.args.self.now k _
    c.self.view_is c.requires c.index-kept.ensures c.if-kept.false (ap (λ (l : List ℕ). take k.length l) c.held.ensures) c.see_sent.ensures
