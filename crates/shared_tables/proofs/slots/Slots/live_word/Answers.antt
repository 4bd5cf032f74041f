use Rattle.std.proofs.Common.{◌<◌, Option, sym, ◌∙◌, ap, arith}
use Rattle.shared_tables.specs.Listing.{live_row, word_of}
use Rattle.shared_tables.specs.Pool.{Held}
use Rattle.shared_tables.specs.Slots.{entry_in}
use Rattle.shared_tables.proofs.OnCalls.Worded.{slot_word}
use Rattle.shared_tables.proofs.OnEntries.SlotsLemmas.{made, own_entry}
use Rattle.shared_tables.proofs.slots.Slots.live_word.Goals as goal

pub index-requires : goal.index-requires
index-requires c = omega (arith, made c.self.inside _ _ _ c.self.view_is c.slot.view_is c.requires.in_pool c.requires.held, c.self.inside.slots.ok.0)

pub live_word-requires : goal.live_word-requires
live_word-requires c = omega (arith, made c.self.inside _ _ _ c.self.view_is c.slot.view_is c.requires.in_pool c.requires.held, c.self.invariant.1.within, c.self.invariant.1.few)

pub returns-clause-word : goal.returns-clause-word
returns-clause-word c =
    c.live_word.ensures.word
    ∙ ap (λ n. word_of n (live_row c.args.vid c.args.ageing c.args.now (entry_in c.index.result.now))) c.slot.view_is
    ∙ ap (λ (o : Option Held). word_of c.args.slot (live_row c.args.vid c.args.ageing c.args.now o)) (own_entry c.self.inside _ _ _ c.self.view_is c.slot.view_is c.requires.in_pool c.requires.held c.index.result.now c.index.ensures)

pub returns-clause-is_word : goal.returns-clause-is_word
returns-clause-is_word c =
    let few : c.args.slot < 1048576 = omega (arith, made c.self.inside _ _ _ c.self.view_is c.slot.view_is c.requires.in_pool c.requires.held, c.slot.view_is, c.self.invariant.1.within, c.self.invariant.1.few) in
    slot_word c.args.self.now.entries c.args.vid c.args.ageing c.args.now c.args.slot (entry_in c.index.result.now) c.live_word.result few (sym (own_entry c.self.inside _ _ _ c.self.view_is c.slot.view_is c.requires.in_pool c.requires.held c.index.result.now c.index.ensures))
    (c.live_word.ensures.word ∙ ap (λ n. word_of n (live_row c.args.vid c.args.ageing c.args.now (entry_in c.index.result.now))) c.slot.view_is) c.live_word.ensures.address

pub returns-clause-few : goal.returns-clause-few
returns-clause-few c = omega (arith, made c.self.inside _ _ _ c.self.view_is c.slot.view_is c.requires.in_pool c.requires.held, c.slot.view_is, c.self.invariant.1.within, c.self.invariant.1.few)
