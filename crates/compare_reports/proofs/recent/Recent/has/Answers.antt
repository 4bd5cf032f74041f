use Rattle.std.proofs.Common.{◌≡◌, ◌<◌, ◌∙◌, sym, ap, List, length, get_or, arith}
use Rattle.record_match.specs.Kept.{told}
use Rattle.record_match.specs.Match.{Record}
use Rattle.compare_reports.specs.Doubled.{Recent, is_same_record}
use Rattle.compare_reports.proofs.Doubling.{none-same, some-same}
use Rattle.compare_reports.proofs.recent.Recent.has.Goals as goal

pub returns-then-is_same_record : goal.returns-then-is_same_record
returns-then-is_same_record c =
    let r = told c.args.received.now in
    let all = ap (λ (x : Recent). x.latest) c.self.view_is in
    let count = ap (length {A = Record}) all in
    let inside : c.loop-i.i < length c.args.self.now.latest = omega (arith, c.loop-i-test.true, c.len-i-end.ensures, c.self.inside.latest.ok.0, count) in
    let own : get_or c.args.self.now.latest c.loop-i.i c.index.result.now ≡ c.index.result.now =
    ap (λ (l : List Record). get_or l c.loop-i.i c.index.result.now) (sym all) ∙ sym c.index.ensures in
    sym (some-same r c.args.self.now.latest c.loop-i.i c.index.result.now inside (ap (is_same_record r) own ∙ sym c.is_same_record.ensures ∙ c.if-is_same_record.true))

pub returns : goal.returns
returns c =
    let count = ap (length {A = Record}) (ap (λ (x : Recent). x.latest) c.self.view_is) in
    sym (none-same (told c.args.received.now) c.args.self.now.latest
    (λ k d lt. c.loop-i.invariant.before k d (omega (arith, lt, c.loop-i-test.false, c.len-i-end.ensures, c.self.inside.latest.ok.0, count))))
