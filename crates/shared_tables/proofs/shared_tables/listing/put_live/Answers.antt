use Rattle.std.proofs.Common.{ℕ, subst}
use Rattle.shared_tables.specs.Listing.{rows_in, AreWords, HasLive}
use Rattle.shared_tables.proofs.OnCalls.Lining.{lines_listed, slots_listed}
use Rattle.shared_tables.proofs.OnCalls.Worded.{no_rows, no_words}
use Rattle.shared_tables.proofs.shared_tables.listing.put_live.Goals as goal

pub returns-then-size-share-clause-live : goal.returns-then-size-share-clause-live
returns-then-size-share-clause-live c =
    subst (λ (a : ℕ). HasLive c.args.slots.now.entries c.args.vid a c.args.now (rows_in c.args.slots.now.entries c.args.vid a c.args.now c.put_live.new.words.items)) c.span_of.ensures
    (slots_listed c.args.slots.now.entries c.args.vid c.span_of.result c.args.now _ _ c.requires.unique (no_rows c.args.slots.now.entries c.args.vid c.span_of.result c.args.now _ c.requires.empty) c.in_ok-put_live.ensures.rows)

pub returns-then-size-share-clause-words : goal.returns-then-size-share-clause-words
returns-then-size-share-clause-words c =
    subst (λ (a : ℕ). AreWords c.args.slots.now.entries c.args.vid a c.args.now c.put_live.new.words.items) c.span_of.ensures
    (c.in_ok-put_live.ensures.words (no_words c.args.slots.now.entries c.args.vid c.span_of.result c.args.now _ c.requires.empty))

pub returns-clause-live : goal.returns-clause-live
returns-clause-live c = lines_listed c.args.slots.now.entries c.args.vid _ c.args.now _ _ _ c.requires.unique (no_rows c.args.slots.now.entries c.args.vid _ c.args.now _ c.requires.empty) c.in_ok-put_line.ensures.line c.in_ok-put_line-2.ensures.line

pub returns-clause-words : goal.returns-clause-words
returns-clause-words c = c.in_ok-put_line-2.ensures.words (c.in_ok-put_line.ensures.words (no_words c.args.slots.now.entries c.args.vid _ c.args.now _ c.requires.empty))
