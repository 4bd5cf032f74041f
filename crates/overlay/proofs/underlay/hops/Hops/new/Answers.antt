use Rattle.std.proofs.Common.{◌∙◌, ap, List, map}
use Rattle.std.specs.Cmp.Lexicographic.{slice_cmp, nat_list_cmp_total}
use Rattle.std.specs.Ordering.{nat_cmp}
use Rattle.std.specs.FinMap.{from_sorted}
use Rattle.overlay.specs.Exceptions.{exception}
use Rattle.overlay.specs.declared.underlay.hops.Hop.{Hop}
use Rattle.overlay.proofs.SearchLemmas.{from_sorted-none}
use Rattle.overlay.proofs.underlay.hops.Hops.new.Goals as goal

pub returns : goal.returns
returns c = ap (λ (l : List Hop). from_sorted {R = slice_cmp nat_cmp} (map exception l)) c.new.ensures.items ∙ from_sorted-none nat_list_cmp_total
