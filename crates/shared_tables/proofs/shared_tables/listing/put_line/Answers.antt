use Rattle.std.proofs.Common.{ℕ, Option, refl, sym, ap, ◌∙◌, subst, arith}
use Rattle.shared_tables.specs.declared.links.Links.{Links}
use Rattle.shared_tables.specs.Listing.{rows_in, AreWords, ListsLine}
use Rattle.shared_tables.proofs.OnCalls.Lining.{Lists, list_starts, list_held, list_on, list_ends, list_all}
use Rattle.shared_tables.proofs.OnCalls.Worded.{put_rows, put_words}
use Rattle.shared_tables.proofs.shared_tables.listing.put_line.Goals as goal

pub loop-entry-init : goal.loop-entry-init
loop-entry-init c = (
  list_starts c.args.slots.now.entries c.args.slots.now.lines c.args.vid c.args.fixed _ c.args.now (rows_in c.args.slots.now.entries c.args.vid c.span_of-ageing.result c.args.now c.args.words.now.items) c.args.share.now c.requires.0 c.first_of-cursor.result c.requires.1 c.first_of-cursor.ensures,
  λ all. all,
)

pub live_word-requires : goal.live_word-requires
live_word-requires c =
    let w = subst (λ (o : Option ℕ). Lists c.args.slots.now.entries c.args.slots.now.lines c.args.vid c.args.fixed c.span_of-ageing.result c.args.now (rows_in c.args.slots.now.entries c.args.vid c.span_of-ageing.result c.args.now c.args.words.now.items) (rows_in c.args.slots.now.entries c.args.vid c.span_of-ageing.result c.args.now c.loop-entry.words.items) o c.loop-entry._entry c.args.share.now.count) (sym c.slot.ensures ∙ c.in-Some.is) c.loop-entry.invariant.0 in
    let h = list_held c.args.slots.now.entries c.args.slots.now.lines c.args.vid c.args.fixed _ c.args.now (rows_in c.args.slots.now.entries c.args.vid c.span_of-ageing.result c.args.now c.args.words.now.items) (rows_in c.args.slots.now.entries c.args.vid c.span_of-ageing.result c.args.now c.loop-entry.words.items) c.in-Some.slot c.loop-entry._entry c.args.share.now.count w in
    record { in_pool = h.in_pool; held = h.held }

pub links-cursor-requires : goal.links-cursor-requires
links-cursor-requires c =
    let w = subst (λ (o : Option ℕ). Lists c.args.slots.now.entries c.args.slots.now.lines c.args.vid c.args.fixed c.span_of-ageing.result c.args.now (rows_in c.args.slots.now.entries c.args.vid c.span_of-ageing.result c.args.now c.args.words.now.items) (rows_in c.args.slots.now.entries c.args.vid c.span_of-ageing.result c.args.now c.loop-entry.words.items) o c.loop-entry._entry c.args.share.now.count) (sym c.slot.ensures ∙ c.in-Some.is) c.loop-entry.invariant.0 in
    let h = list_held c.args.slots.now.entries c.args.slots.now.lines c.args.vid c.args.fixed _ c.args.now (rows_in c.args.slots.now.entries c.args.vid c.span_of-ageing.result c.args.now c.args.words.now.items) (rows_in c.args.slots.now.entries c.args.vid c.span_of-ageing.result c.args.now c.loop-entry.words.items) c.in-Some.slot c.loop-entry._entry c.args.share.now.count w in
    record { in_pool = h.in_pool; held = h.held }

pub loop-entry-preserved : goal.loop-entry-preserved
loop-entry-preserved c =
    let w = subst (λ (o : Option ℕ). Lists c.args.slots.now.entries c.args.slots.now.lines c.args.vid c.args.fixed c.span_of-ageing.result c.args.now (rows_in c.args.slots.now.entries c.args.vid c.span_of-ageing.result c.args.now c.args.words.now.items) (rows_in c.args.slots.now.entries c.args.vid c.span_of-ageing.result c.args.now c.loop-entry.words.items) o c.loop-entry._entry c.args.share.now.count) (sym c.slot.ensures ∙ c.in-Some.is) c.loop-entry.invariant.0 in (
      list_on c.args.slots.now.entries c.args.slots.now.lines c.args.vid c.args.fixed _ c.args.now (rows_in c.args.slots.now.entries c.args.vid c.span_of-ageing.result c.args.now c.args.words.now.items) (rows_in c.args.slots.now.entries c.args.vid c.span_of-ageing.result c.args.now c.loop-entry.words.items) c.in-Some.slot c.loop-entry._entry c.args.share.now.count w
          _ _ _ refl (put_rows c.args.slots.now.entries c.args.vid c.span_of-ageing.result c.args.now c.loop-entry.words.items c.in-Some.slot c.live_word.result c.put_word.new.words.items c.live_word.ensures.few c.live_word.ensures.word c.in_ok-put_word.ensures) (ap (λ (l : Links). l.next) c.links-cursor.ensures),
      λ all. put_words c.args.slots.now.entries c.args.vid c.span_of-ageing.result c.args.now c.loop-entry.words.items c.live_word.result c.put_word.new.words.items c.live_word.ensures.is_word c.in_ok-put_word.ensures (c.loop-entry.invariant.1 all),
    )

pub returns-in_default-clause-line : goal.returns-in_default-clause-line
returns-in_default-clause-line c =
    let w = subst (λ (o : Option ℕ). Lists c.args.slots.now.entries c.args.slots.now.lines c.args.vid c.args.fixed c.span_of-ageing.result c.args.now (rows_in c.args.slots.now.entries c.args.vid c.span_of-ageing.result c.args.now c.args.words.now.items) (rows_in c.args.slots.now.entries c.args.vid c.span_of-ageing.result c.args.now c.loop-entry.words.items) o c.loop-entry._entry c.args.share.now.count) (sym c.slot.ensures ∙ c.in_default.is) c.loop-entry.invariant.0 in
    subst (λ (a : ℕ). ListsLine c.args.slots.now.entries c.args.vid c.args.fixed a c.args.now (rows_in c.args.slots.now.entries c.args.vid a c.args.now c.args.words.now.items) (rows_in c.args.slots.now.entries c.args.vid a c.args.now c.loop-entry.words.items)) c.span_of-ageing.ensures
    (list_ends c.args.slots.now.entries c.args.slots.now.lines c.args.vid c.args.fixed _ c.args.now (rows_in c.args.slots.now.entries c.args.vid c.span_of-ageing.result c.args.now c.args.words.now.items) (rows_in c.args.slots.now.entries c.args.vid c.span_of-ageing.result c.args.now c.loop-entry.words.items) c.loop-entry._entry c.args.share.now.count w)

pub returns-in_default-clause-words : goal.returns-in_default-clause-words
returns-in_default-clause-words c = subst (λ (a : ℕ). AreWords c.args.slots.now.entries c.args.vid a c.args.now c.args.words.now.items → AreWords c.args.slots.now.entries c.args.vid a c.args.now c.loop-entry.words.items) c.span_of-ageing.ensures c.loop-entry.invariant.1

pub returns-clause-line : goal.returns-clause-line
returns-clause-line c =
    subst (λ (a : ℕ). ListsLine c.args.slots.now.entries c.args.vid c.args.fixed a c.args.now (rows_in c.args.slots.now.entries c.args.vid a c.args.now c.args.words.now.items) (rows_in c.args.slots.now.entries c.args.vid a c.args.now c.loop-entry.words.items)) c.span_of-ageing.ensures
    (list_all c.args.slots.now.entries c.args.slots.now.lines c.args.vid c.args.fixed _ c.args.now (rows_in c.args.slots.now.entries c.args.vid c.span_of-ageing.result c.args.now c.args.words.now.items) (rows_in c.args.slots.now.entries c.args.vid c.span_of-ageing.result c.args.now c.loop-entry.words.items) c.loop-entry.cursor c.loop-entry._entry c.args.share.now.count (omega arith) c.loop-entry.invariant.0)

pub returns-clause-words : goal.returns-clause-words
returns-clause-words c = subst (λ (a : ℕ). AreWords c.args.slots.now.entries c.args.vid a c.args.now c.args.words.now.items → AreWords c.args.slots.now.entries c.args.vid a c.args.now c.loop-entry.words.items) c.span_of-ageing.ensures c.loop-entry.invariant.1
