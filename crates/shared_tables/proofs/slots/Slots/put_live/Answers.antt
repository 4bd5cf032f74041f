use Rattle.std.proofs.Common.{◌≡◌, ◌-◌, ◌<◌, ◌≤◌, ◌++◌, ◌∙◌, ap, sym, subst, append-nil, append_assoc, arith, length, take, replicate, Option}
use Rattle.std.specs.Option.{option_to_list}
use Rattle.filter_db.specs.Rows.{Rows}
use Rattle.shared_tables.specs.Listing.{live_row, live_rows, rows_in, word_of}
use Rattle.shared_tables.specs.Pool.{Held, Pool, entry_at}
use Rattle.shared_tables.specs.Slots.{entry_in, no_slot}
use Rattle.shared_tables.proofs.OnCalls.Slotwise.{made_in, rows_all, rows_more}
use Rattle.shared_tables.proofs.OnCalls.Worded.{entry_there, put_rows, put_words, slot_word}
use Rattle.shared_tables.proofs.slots.Slots.put_live.Goals as goal

pub loop-number-init : goal.loop-number-init
loop-number-init c = (sym (append-nil _), λ all. all)

pub loop-number-preserved : goal.loop-number-preserved
loop-number-preserved c =
    let n = c.loop-number.number in
    let slot = c.index-slot.result.now in
    let xs = c.self.inside.slots.items in
    let before = c.loop-number.words.items in
    let after = c.put_word.new.words.items in
    let row = live_row c.args.vid c.args.ageing c.args.now (entry_at c.args.self.now.entries n) in
    let made : n < length xs = omega (arith, c.loop-number-test.true, c.len-number-end.ensures, c.self.inside.slots.ok.0) in
    let few : n < 1048576 = omega (arith, made, c.self.invariant.1.within, c.self.invariant.1.few) in
    let there : entry_at c.args.self.now.entries n ≡ entry_in slot =
    subst (λ (p : Pool). entry_at p.entries n ≡ entry_in slot) c.self.view_is (entry_there xs (replicate (c.self.inside.size - length c.self.inside.slots.items) no_slot) n slot made ∙ sym (ap entry_in c.index-slot.ensures)) in
    let among : n < length c.args.self.now.entries = subst (λ (p : Pool). n < length p.entries) c.self.view_is (made_in xs (replicate (c.self.inside.size - length c.self.inside.slots.items) no_slot) n made) in
    let old = rows_in c.args.self.now.entries c.args.vid c.args.ageing c.args.now c.args.words.now.items in (
      put_rows c.args.self.now.entries c.args.vid c.args.ageing c.args.now before n c.live_word.result after few (c.live_word.ensures.word ∙ ap (λ (o : Option Held). word_of n (live_row c.args.vid c.args.ageing c.args.now o)) (sym there)) c.in_ok-put_word.ensures
          ∙ ap (λ (rs : Rows). rs ++ option_to_list row) c.loop-number.invariant.0
          ∙ append_assoc old (live_rows c.args.vid c.args.ageing c.args.now (take n c.args.self.now.entries)) (option_to_list row)
          ∙ ap (λ (rs : Rows). old ++ rs) (rows_more c.args.vid c.args.ageing c.args.now c.args.self.now.entries n among),
      λ all. put_words c.args.self.now.entries c.args.vid c.args.ageing c.args.now before c.live_word.result after (slot_word c.args.self.now.entries c.args.vid c.args.ageing c.args.now n (entry_in slot) c.live_word.result few there c.live_word.ensures.word c.live_word.ensures.address) c.in_ok-put_word.ensures (c.loop-number.invariant.1 all),
    )

pub returns-clause-rows : goal.returns-clause-rows
returns-clause-rows c =
    let n = c.loop-number.number in
    let xs = c.self.inside.slots.items in
    let past : length xs ≤ n = omega (arith, c.loop-number-test.false, c.len-number-end.ensures, c.self.inside.slots.ok.0) in
    c.loop-number.invariant.0
    ∙ ap (λ (rs : Rows). rows_in c.args.self.now.entries c.args.vid c.args.ageing c.args.now c.args.words.now.items ++ rs) (subst (λ (p : Pool). live_rows c.args.vid c.args.ageing c.args.now (take n p.entries) ≡ live_rows c.args.vid c.args.ageing c.args.now p.entries) c.self.view_is (rows_all c.args.vid c.args.ageing c.args.now (c.self.inside.size - length xs) n xs past))
