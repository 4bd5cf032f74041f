use Rattle.std.proofs.Common.{◌∷◌, [], ◌++◌, ◌∙◌, ap, arith, length, length-append}
use Rattle.filter_db.specs.Rows.{Rows}
use Rattle.shared_tables.specs.Listing.{row_of}
use Rattle.shared_tables.specs.Pool.{entry_at}
use Rattle.shared_tables.proofs.OnCalls.Worded.{held_next}
use Rattle.shared_tables.proofs.shared_tables.listing.rows_of.Goals as goal

pub loop-word-preserved : goal.loop-word-preserved
loop-word-preserved c =
    let i = c.loop-word in
    let es = c.args.slots.now.entries in
    let items = c.push_reserved.ensures.items in
    record {
      items = items ∙ ap (λ (rs : Rows). rs ++ c.row.result ∷ []) i.invariant.items ∙ held_next es c.args.words.now i.word-index _ c.row.result c.loop-word-test.true (c.row.ensures ∙ ap (λ k. row_of (entry_at es k)) c.slot_of.ensures);
      size = omega (arith, ap length items, length-append i.rows.items (c.row.result ∷ []), i.invariant.size);
      room = omega (arith, c.push_reserved.ensures.capacity, i.invariant.room);
    }
