use Rattle.std.proofs.Common.{◌∙◌, ◌+◌, ap, eqb, rules, tests}
use Rattle.std.specs.List.{take_while, zip}
use Rattle.std.proofs.lemmas.Iterator.{YieldsList-from_slice, YieldsList-from_zip}
use Rattle.std.proofs.lemmas.Iterator.Consumers.{YieldsList-at, YieldsList-from_filter, count_from_yields_List}
use Rattle.std.proofs.lemmas.Iterator.Search.{YieldsList-from_take_while}
use Rattle.std.proofs.lemmas.List.Sums.{length-filter}
use Rattle.line_words.proofs.lines.first_difference.Goals as goal

pub returns : goal.returns
returns c =
    ap (λ n. n + 1) (count_from_yields_List c.filter.result _ c.count.ensures.ran
    (YieldsList-from_filter _ (λ p. eqb p.0 10)
    (YieldsList-at c.filter.ensures.source (YieldsList-from_take_while _ (λ p. eqb p.0 p.1)
    (YieldsList-at c.take_while-same.ensures.source (YieldsList-from_zip
    (YieldsList-at c.zip.ensures.first (YieldsList-from_slice c.args.text.now c.iter.ensures.rest))
    (YieldsList-at c.zip.ensures.second (YieldsList-from_slice c.args.other.now c.iter-2.ensures.rest))))
    c.take_while-same.ensures.closure c.take_while-same.ensures.done (λ x b q k. search (rules, tests))))
    c.filter.ensures.closure (λ x b q k. search (rules, tests)))
    ∙ length-filter (λ p. eqb p.0 10) (take_while (λ p. eqb p.0 p.1) (zip c.args.text.now c.args.other.now)))
