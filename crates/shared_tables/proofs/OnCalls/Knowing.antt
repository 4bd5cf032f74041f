-- What a segment has of an address, and how many live entries, by what the slots hold.
use Rattle.std.proofs.Common.{◌≡◌, ℕ, ◌≤◌, Bool, true, false, cond, ◌&&◌, List, length, length-append, map, Option, Some, None, nat_eq, refl, sym, ap, ◌∙◌, subst}
use Rattle.std.specs.FinMap.{empty, get, get-empty, len, len-empty}
use Rattle.std.specs.Option.{option_map, unwrap_or}
use Rattle.filter_db.specs.declared.entry.Entry.{Entry}
use Rattle.filter_db.specs.Ageing.{aged_all-aged_all, get-kept, sifted}
use Rattle.filter_db.specs.Segment.{aged, aged_all, no_segment, segment_at}
use Rattle.filter_db.specs.Table.{Table, is_live, live, mac_cmp, nanoseconds}
use Rattle.filter_db.proofs.RowsLemmas.{len-from_entries}
use Rattle.shared_tables.specs.Listing.{CountsLive, live_entry, live_rows}
use Rattle.shared_tables.specs.Pool.{Held, IfHeld, entry_at}
use Rattle.shared_tables.specs.Segments.{entry_of, kept_segment, kept_segments, kept_table, segments_of}
use Rattle.shared_tables.specs.Shared.{IsUnique, Lacks, Rule, Shared, rule_at}
use Rattle.shared_tables.proofs.OnEntries.Linked.{nat_eq_refl}
use Rattle.shared_tables.proofs.OnCalls.Lining.{both_table, both_unique}
use Rattle.shared_tables.proofs.OnCalls.ListingLemmas.{live_table}
use Rattle.shared_tables.proofs.OnCalls.Tabled.{get-raw, raw_found, raw_lacks}

-- what a segment has at a moment
abbrev pub table_at : Shared → ℕ → ℕ → Table
table_at s v now = (segment_at v (aged_all now (segments_of s))).entries

pub own_table : (s : Shared) (v now : ℕ) (rule : Rule) → rule_at s.rules v ≡ Some rule → s.moment ≤ now → table_at s v now ≡ live (nanoseconds rule.ageing) now (kept_table v s.entries)
own_table s v now rule here le =
    ap (λ segments. (segment_at v segments).entries) (aged_all-aged_all s.moment now (kept_segments s) le)
    ∙ ap (λ o. (unwrap_or (option_map (aged now) (option_map (kept_segment v s.entries) o)) no_segment).entries) here

-- a VID without a segment has nothing
pub no_table : (s : Shared) (v now : ℕ) → rule_at s.rules v ≡ None → table_at s v now ≡ empty
no_table s v now none = ap (λ o. (unwrap_or (option_map (aged now) (option_map (aged s.moment) (option_map (kept_segment v s.entries) o))) no_segment).entries) none

pub known_nowhere : (s : Shared) (v now : ℕ) (mac : List ℕ) → rule_at s.rules v ≡ None → None ≡ get (table_at s v now) mac
known_nowhere s v now mac none = sym (ap (λ (m : Table). get m mac) (no_table s v now none) ∙ get-empty mac_cmp mac)

pub count_nowhere : (s : Shared) (v now : ℕ) → rule_at s.rules v ≡ None → 0 ≡ len (table_at s v now)
count_nowhere s v now none = sym (ap (λ (m : Table). len m) (no_table s v now none) ∙ len-empty mac_cmp Entry)

module _ (s : Shared) (v now : ℕ) (rule : Rule) (here : rule_at s.rules v ≡ Some rule) (unique : IsUnique s.entries) (le : s.moment ≤ now) where
  -- no slot holds an address
  pub known_none : (mac : List ℕ) → Lacks s.entries v mac → None ≡ get (table_at s v now) mac
  known_none mac lacks =
      sym (
      ap (λ (m : Table). get m mac) (own_table s v now rule here le)
      ∙ get-kept (is_live (nanoseconds rule.ageing) now) (kept_table v s.entries) mac
      ∙ ap (sifted (is_live (nanoseconds rule.ageing) now)) (get-raw v s.entries mac ∙ raw_lacks v mac s.entries lacks)
      )

  -- a slot holds it
  pub known_some : (mac : List ℕ) (slot : ℕ) → IfHeld (entry_at s.entries slot) v mac → live_entry v (nanoseconds rule.ageing) now (entry_at s.entries slot) ≡ get (table_at s v now) mac
  known_some mac slot held =
      told (entry_at s.entries slot) held
      ∙ sym (
      ap (λ (m : Table). get m mac) (own_table s v now rule here le)
      ∙ get-kept (is_live (nanoseconds rule.ageing) now) (kept_table v s.entries) mac
      ∙ ap (sifted (is_live (nanoseconds rule.ageing) now)) (get-raw v s.entries mac ∙ raw_found v mac s.entries slot unique held)
      )
    where
      by : (e : Held) (b : Bool) → option_map (λ (row : List ℕ × Entry). row.1) (cond (true && b) (Some (e.mac, entry_of e)) None) ≡ cond b (Some (entry_of e)) None
      by e true = refl
      by e false = refl

      told : (o : Option Held) → IfHeld o v mac → live_entry v (nanoseconds rule.ageing) now o ≡ sifted (is_live (nanoseconds rule.ageing) now) (option_map entry_of o)
      told None h = absurd h
      told (Some e) h =
          ap (λ b. option_map (λ (row : List ℕ × Entry). row.1) (cond (b && is_live (nanoseconds rule.ageing) now (entry_of e)) (Some (e.mac, entry_of e)) None)) (subst (λ k. nat_eq e.vid k ≡ true) h.0 (nat_eq_refl e.vid))
          ∙ by e (is_live (nanoseconds rule.ageing) now (entry_of e))

  -- so many are live
  pub known_count : (count : ℕ) → CountsLive s.entries v (nanoseconds rule.ageing) now count → count ≡ len (table_at s v now)
  known_count count c =
      let a = nanoseconds rule.ageing in
      let rows : ℕ = length (live_rows v a now (map (entry_at s.entries) c.queue)) in
      sym c.count
      ∙ sym (length-append (live_rows v a now (map (entry_at s.entries) c.queue)) (live_rows v a now (map (entry_at s.entries) c.fixed)))
      ∙ sym (len-from_entries _ (both_unique s.entries v unique c.queue c.fixed c.aged c.others a now))
      ∙ ap (λ (m : Table). len m) (both_table s.entries v unique c.queue c.fixed c.aged c.others a now ∙ live_table v a now s.entries unique ∙ sym (own_table s v now rule here le))
