use Rattle.std.proofs.Common.{◌≡◌, ◌<◌, ◌^◌, ◌||◌, subst, sym, ◌∙◌, ℕ, List, None, Some, get_or, length, arith}
use Rattle.std.specs.List.{list_any}
use Rattle.timeline.specs.Words.{source_of}
use Rattle.run_reports.specs.Reading.{AreNamesOf, FitsSource, is_its, is_its_at}
use Rattle.run_reports.proofs.Listing.{asked_either, marked_either}
use Rattle.run_reports.proofs.asked.AskedNames.mark.Goals as goal

pub returns-clause-asked : goal.returns-clause-asked
returns-clause-asked c =
    let n = c.args.number in
    let e = c.args.event.now in
    let texts = c.args.self.now in
    let names = c.self.inside.names.items in
    let are : AreNamesOf texts names = subst (λ (t : List (List ℕ)). AreNamesOf t names) c.self.view_is c.self.invariant in
    let fits : FitsSource (Some (source_of e.happening)) = subst FitsSource c.source_of.ensures.source c.source_of.ensures.fits in
    let low : n < 2 ^ 64 = omega arith in
    let low_there : e.number < 2 ^ 64 = omega arith in
    let first = c.mark_named-is_asked.ensures.any in
    let second = c.mark_named-is_asked-2.ensures.any in
    (λ i. first i || second i)
    ∙ (λ i. list_any (is_its None n) (c.deref.ensures.value i) || list_any (is_its (c.source_of.ensures.source i) e.number) (c.deref-2.ensures.value i))
    ∙ sym (asked_either n e low low_there fits texts names are)

pub returns-clause-found : goal.returns-clause-found
returns-clause-found c =
    let n = c.args.number in
    let e = c.args.event.now in
    let texts = c.args.self.now in
    let names = c.self.inside.names.items in
    let are : AreNamesOf texts names = subst (λ (t : List (List ℕ)). AreNamesOf t names) c.self.view_is c.self.invariant in
    let fits : FitsSource (Some (source_of e.happening)) = subst FitsSource c.source_of.ensures.source c.source_of.ensures.fits in
    let low : n < 2 ^ 64 = omega arith in
    let low_there : e.number < 2 ^ 64 = omega arith in
    let old = c.args.found.now in
    let mid = c.mark_named-is_asked.new.found in
    let new = c.mark_named-is_asked-2.new.found in
    let many : length old ≡ length texts = c.requires in
    let many_new : length new ≡ length texts = omega arith in
    marked_either n e low low_there fits texts names are old mid new many many_new
    (λ k b. c.mark_named-is_asked.ensures.each k b ∙ (λ i. list_any (is_its_at None n k) (c.deref.ensures.value i) || get_or old k b))
    (λ k b. c.mark_named-is_asked-2.ensures.each k b ∙ (λ i. list_any (is_its_at (c.source_of.ensures.source i) e.number k) (c.deref-2.ensures.value i) || get_or mid k b))
