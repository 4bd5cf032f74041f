use Rattle.std.proofs.Common.{◌≡◌, ◌∷◌, [], ◌++◌, All, ap, rules, sym, subst}
use Rattle.std.proofs.lemmas.List.Elements.{All-push}
use Rattle.pcap.specs.Source.{New, Stream}
use Rattle.part_tests.proofs.tests.rows.run.Manner.sources.Goals as goal

pub loop-index-preserved : goal.loop-index-preserved
loop-index-preserved c =
    let items : c.push.new.self.items ≡ c.loop-index.sources.items ++ (c.in_ok-source.source ∷ []) = search rules in
    let is_new : c.in_ok-source.source.standing ≡ New = ap (λ (s : Stream). s.standing) c.in_ok-source.ensures in
    let fresh = All-push (λ (s : Stream). s.standing ≡ New) c.loop-index.sources.items c.in_ok-source.source c.loop-index.invariant.fresh is_new in
    record {
      count = search rules;
      fresh = subst (All (λ (s : Stream). s.standing ≡ New)) (sym items) fresh;
    }
