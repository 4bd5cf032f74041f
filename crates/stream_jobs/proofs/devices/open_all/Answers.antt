use Rattle.std.proofs.Common.{◌≡◌, ◌∷◌, [], ◌++◌, All, rules, sym, subst}
use Rattle.std.proofs.lemmas.List.Elements.{All-push}
use Rattle.pcap.specs.Source.{New, Stream}
use Rattle.stream_jobs.proofs.devices.open_all.Goals as goal

pub loop-number-preserved : goal.loop-number-preserved
loop-number-preserved c =
    let items : c.push.new.self.items ≡ c.loop-number.sources.items ++ (c.in_ok-source.source ∷ []) = search rules in
    let fresh = All-push (λ (s : Stream). s.standing ≡ New) c.loop-number.sources.items c.in_ok-source.source c.loop-number.invariant.fresh c.in_ok-source.ensures.new in
    record {
      count = search rules;
      fresh = subst (All (λ (s : Stream). s.standing ≡ New)) (sym items) fresh;
    }
