use Rattle.std.proofs.Common.{◌≡◌, ◌≤◌, List, Option, None, sym, ap, ◌∙◌, subst}
use Rattle.std.proofs.Math.ListN.{get_or-map}
use Rattle.std.specs.FinMap.{entries, from_entries}
use Rattle.std.specs.Option.{option_map}
use Rattle.filter_db.specs.Segment.{aged_all, segment_at}
use Rattle.filter_db.specs.Table.{mac_cmp, nanoseconds}
use Rattle.shared_tables.specs.declared.share.Share.{Share}
use Rattle.shared_tables.specs.Listing.{held_rows, live_rows, AreHeld}
use Rattle.shared_tables.specs.Segments.{segments_of}
use Rattle.shared_tables.specs.Shared.{Rule, Shared, rule_at, span_of}
use Rattle.shared_tables.specs.SharedFromFields.{shared_of}
use Rattle.shared_tables.specs.SlotsOfSegments.{rule_of, share_at}
use Rattle.shared_tables.proofs.OnCalls.ListingLemmas.{listed, listed_none}
use Rattle.shared_tables.proofs.OnCalls.Worded.{are_held, held_live, sorted_words, words_ordered}
use Rattle.shared_tables.proofs.OnEntries.SoundLemmas.{rule_is, share_read}
use Rattle.shared_tables.proofs.shared_tables.SharedTables.entries.Goals as goal

pub returns-in_default : goal.returns-in_default
returns-in_default c =
    let i = c.self.inside in
    let v = c.args.vid in
    let none = sym (c.share_at.ensures ∙ ap (λ (shares : List (Option Share)). share_at shares v) c.deref.ensures.value) ∙ c.in_default.is in
    c.new.ensures.items ∙ listed_none c.args.self.now v c.args.now (subst (λ (s : Shared). rule_at s.rules v ≡ None) c.self.view_is (get_or-map (option_map rule_of) i.shares.items v None ∙ ap (option_map rule_of) none))

pub put_live-requires : goal.put_live-requires
put_live-requires c =
    let i = c.self.inside in
    record {
      lines = (i.moment, c.self.invariant.sound.lined c.args.vid c.in-Some.share (share_read _ _ c.args.vid c.share_at.result c.in-Some.share c.deref.ensures.value c.share_at.ensures c.in-Some.is));
      unique = c.self.invariant.sound.unique;
      empty = c.in_ok-words.ensures.items;
    }

pub rows_of-requires : goal.rows_of-requires
rows_of-requires c = subst (AreHeld c.self.inside.slots.entries) (sym c.deref-2.ensures.value) (are_held c.self.inside.slots.entries c.args.vid (nanoseconds c.in-Some.share.ageing) c.args.now _ (sorted_words c.self.inside.slots.entries c.args.vid (nanoseconds c.in-Some.share.ageing) c.args.now _ _ c.in_ok-put_live.ensures.words c.sort_unstable.ensures.permutation))

pub returns : goal.returns
returns c =
    let i = c.self.inside in
    let v = c.args.vid in
    let share = c.in-Some.share in
    let a = nanoseconds share.ageing in
    let t = c.args.now in
    let live = c.in_ok-put_live.ensures.live in
    let here = rule_is i.shares.items v share (share_read _ _ v c.share_at.result share c.deref.ensures.value c.share_at.ensures c.in-Some.is) in
    let le : (shared_of i).moment ≤ t = subst (λ (s : Shared). s.moment ≤ t) (sym c.self.view_is) c.requires in
    c.in_ok-rows.ensures
    ∙ ap (held_rows i.slots.entries) c.deref-2.ensures.value
    ∙ held_live i.slots.entries v a t _ (sorted_words i.slots.entries v a t _ _ c.in_ok-put_live.ensures.words c.sort_unstable.ensures.permutation)
    ∙ words_ordered i.slots.entries v a t _ _ live.unique c.in_ok-put_live.ensures.words c.sort_unstable.ensures.permutation c.sort_unstable.ensures.sorted
    ∙ ap entries live.table
    ∙ sym (ap (λ (o : Option Rule). entries (from_entries {R = mac_cmp} (live_rows v (span_of o) t i.slots.entries))) here)
    ∙ listed (shared_of i) v t (rule_of share) here c.self.invariant.sound.unique le
    ∙ ap (λ (s : Shared). entries (segment_at v (aged_all t (segments_of s))).entries) c.self.view_is
