use Rattle.std.proofs.Common.{◌≡◌, ◌∙◌, ◌<◌, ap, sym, subst, get_or, length, slice_set, ℕ, List, arith}
use Rattle.std.proofs.lemmas.List.{get_or_default}
use Rattle.std.proofs.lemmas.List.Edits.{length-remove}
use Rattle.std.specs.List.{insert, remove}
use Rattle.ranked_rows.specs.Frequent.{place_then}
use Rattle.ranked_rows.specs.Rows.{IsNumbering, rows_by}
use Rattle.ranked_rows.specs.declared.key_count.KeyCount.{KeyCount}
use Rattle.ranked_rows.specs.declared.since.Since.{Since}
use Rattle.ranked_rows.proofs.Numbering.{get_by}
use Rattle.ranked_rows.proofs.Replacing.{by_replaced, numbers_replaced, place_then_low}
use Rattle.ranked_rows.proofs.giving_way.replace.Goals as goal

pub returns-clause-rows : goal.returns-clause-rows
returns-clause-rows g c =
    let rows = c.args.rows.now.items in
    let order = c.args.order.now.items in
    let place = c.args.place in
    let n = c.from-memory.result in
    let number = c.remove-number.result in
    let to = place_then place c.args.at in
    let there = c.requires.there in
    let is : n ≡ get_or order place n = c.from-memory.ensures ∙ c.remove-number.ensures.value ∙ get_or_default order place number n there in
    let inside : n < length rows = omega (arith, c.requires.numbers.inside place n there, is) in
    let put = rw (c.insert.ensures.succeeds (omega (arith, c.remove-number.ensures.len, c.remove-number.ensures.capacity, c.requires.space, c.requires.numbers.many, c.requires.full, ap length c.remove-number.ensures.items, length-remove order place there))) at c.insert.ensures.items in
    let new : c.insert.new.self.items ≡ insert (remove order place) to n =
    put ∙ ap (λ (l : List ℕ). insert l c.place_then.result number) c.remove-number.ensures.items ∙ ap (λ (k : ℕ). insert (remove order place) k number) c.place_then.ensures
    ∙ ap (λ (k : ℕ). insert (remove order place) to k) (sym c.from-memory.ensures) in
    ap (λ (l : List ℕ). rows_by (slice_set rows n c.args.row) l) new
    ∙ by_replaced g.K.Ranked.rank rows order place to n c.args.row there (place_then_low order place c.args.at there c.requires.inside) is inside c.requires.rising c.requires.numbers

pub returns-clause-gone : goal.returns-clause-gone
returns-clause-gone g c =
    λ d.
    let rows = c.args.rows.now.items in
    let order = c.args.order.now.items in
    let place = c.args.place in
    let n = c.from-memory.result in
    let there = c.requires.there in
    let is : n ≡ get_or order place n = c.from-memory.ensures ∙ c.remove-number.ensures.value ∙ get_or_default order place c.remove-number.result n there in
    let inside : n < length rows = omega (arith, c.requires.numbers.inside place n there, is) in
    ap (λ (r : KeyCount g.row.K.Denot (Since g.row.C.Denot)). r.counts.counts)
    (c.index.ensures ∙ get_or_default rows n c.index.result.now d inside ∙ ap (λ (k : ℕ). get_or rows k d) is ∙ sym (get_by rows order place n d c.requires.numbers.inside there))

pub returns-clause-numbers : goal.returns-clause-numbers
returns-clause-numbers g c =
    let rows = c.args.rows.now.items in
    let order = c.args.order.now.items in
    let place = c.args.place in
    let n = c.from-memory.result in
    let number = c.remove-number.result in
    let to = place_then place c.args.at in
    let there = c.requires.there in
    let is : n ≡ get_or order place n = c.from-memory.ensures ∙ c.remove-number.ensures.value ∙ get_or_default order place number n there in
    let put = rw (c.insert.ensures.succeeds (omega (arith, c.remove-number.ensures.len, c.remove-number.ensures.capacity, c.requires.space, c.requires.numbers.many, c.requires.full, ap length c.remove-number.ensures.items, length-remove order place there))) at c.insert.ensures.items in
    let new : c.insert.new.self.items ≡ insert (remove order place) to n =
    put ∙ ap (λ (l : List ℕ). insert l c.place_then.result number) c.remove-number.ensures.items ∙ ap (λ (k : ℕ). insert (remove order place) k number) c.place_then.ensures
    ∙ ap (λ (k : ℕ). insert (remove order place) to k) (sym c.from-memory.ensures) in
    subst (λ (l : List ℕ). IsNumbering (slice_set rows n c.args.row) l) (sym new) (numbers_replaced rows order place to n c.args.row there is c.requires.numbers)
