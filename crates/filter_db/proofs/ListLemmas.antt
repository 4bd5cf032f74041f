-- One segment's list of rows: what each change of it keeps, and which change of the segment it is.
use Rattle.std.proofs.Common.{◌≡◌, sym, ap, ◌∙◌, subst, ℕ, ◌<◌, Bool, true, false, not, ◌&&◌, List, [], ◌∷◌, ◌++◌, length, filter, Some, None, is_none, nat_le, get_or, slice_set, position, arith}
use Rattle.std.specs.FinMap.{get, insert, remove, len, get-from_entries}
use Rattle.std.proofs.Math.ListN.{length-set}
use Rattle.std.proofs.lemmas.List.{length_push}
use Rattle.std.proofs.lemmas.Bool.{false≢true, leb-false}
use Rattle.filter_db.specs.declared.entry.Entry.{Entry}
use Rattle.filter_db.specs.Table.{Table, kept, is_full}
use Rattle.filter_db.specs.Segment.{Segment}
use Rattle.filter_db.specs.Rows.{Rows, AreUnique, IsSound, segment_of}
use Rattle.filter_db.specs.Ageing.{mac_total}
use Rattle.filter_db.proofs.RowsLemmas.{Row, is_of, find-Some, find-None, length-filter, AreUnique-filter, AreUnique-set, AreUnique-push, from_entries-filter, from_entries-without, from_entries-set, from_entries-push, len-from_entries}

-- ---- what a change keeps

pub IsSound-filter : {limit ageing capacity room : ℕ} {rs after : Rows} → IsSound limit ageing capacity rs → (p : Row → Bool) → after ≡ filter p rs → room ≡ capacity → IsSound limit ageing room after
IsSound-filter {rs = rs} sound p is same =
    let fewer = length-filter p rs in
    let few = sound.few in
    let enough = sound.room in
    record {
      unique = subst AreUnique (sym is) (AreUnique-filter p rs sound.unique);
      few = omega (arith, ap length is);
      room = omega arith;
      some_time = sound.some_time;
    }

pub IsSound-set : {limit ageing capacity : ℕ} {rs : Rows} → IsSound limit ageing capacity rs → (mac : List ℕ) (e : Entry) (i : ℕ) → position (is_of mac) rs ≡ Some i → IsSound limit ageing capacity (slice_set rs i (mac, e))
IsSound-set {rs = rs} sound mac e i found =
    let few = sound.few in
    record {
      unique = AreUnique-set mac e rs i found sound.unique;
      few = omega (arith, length-set rs i (mac, e));
      room = sound.room;
      some_time = sound.some_time;
    }

pub IsSound-push : {limit ageing capacity room : ℕ} {rs after : Rows} → IsSound limit ageing capacity rs → (mac : List ℕ) (e : Entry) → position (is_of mac) rs ≡ None → length rs < limit → after ≡ rs ++ (mac, e) ∷ [] → room ≡ capacity → IsSound limit ageing room after
IsSound-push {rs = rs} sound mac e new more is same =
    let enough = sound.room in
    record {
      unique = subst AreUnique (sym is) (AreUnique-push (mac, e) rs sound.unique (find-None mac rs new));
      few = omega (arith, ap length is, length_push rs (mac, e));
      room = omega arith;
      some_time = sound.some_time;
    }

-- ---- what it makes of the segment

segment_with : ℕ → ℕ → Table → Segment
segment_with limit ageing m = record { limit = limit; ageing = ageing; entries = m }

pub segment_of-kept : {limit ageing : ℕ} {after : Rows} {s : Segment} (rs : Rows) → segment_of limit ageing rs ≡ s → AreUnique rs → (p : Entry → Bool) → after ≡ filter (λ (r : Row). p r.1) rs → segment_of limit ageing after ≡ record { limit = s.limit; ageing = s.ageing; entries = kept p s.entries }
unfolding segment_with
segment_of-kept {limit} {ageing} {after} rs view unique p is =
    subst (λ (t : Segment). segment_of limit ageing after ≡ record { limit = t.limit; ageing = t.ageing; entries = kept p t.entries }) view
    (ap (segment_of limit ageing) is ∙ ap (segment_with limit ageing) (from_entries-filter p rs unique))

pub segment_of-without : {limit ageing : ℕ} {after : Rows} {s : Segment} (rs : Rows) → segment_of limit ageing rs ≡ s → (mac : List ℕ) → after ≡ filter (λ (r : Row). not (is_of mac r)) rs → segment_of limit ageing after ≡ record { limit = s.limit; ageing = s.ageing; entries = remove s.entries mac }
unfolding segment_with
segment_of-without {limit} {ageing} {after} rs view mac is =
    subst (λ (t : Segment). segment_of limit ageing after ≡ record { limit = t.limit; ageing = t.ageing; entries = remove t.entries mac }) view
    (ap (segment_of limit ageing) is ∙ ap (segment_with limit ageing) (from_entries-without mac rs))

pub segment_of-set : {limit ageing : ℕ} {s : Segment} (rs : Rows) → segment_of limit ageing rs ≡ s → (mac : List ℕ) (e : Entry) (i : ℕ) → position (is_of mac) rs ≡ Some i → segment_of limit ageing (slice_set rs i (mac, e)) ≡ record { limit = s.limit; ageing = s.ageing; entries = insert s.entries mac e }
unfolding segment_with
segment_of-set {limit} {ageing} rs view mac e i found =
    subst (λ (t : Segment). segment_of limit ageing (slice_set rs i (mac, e)) ≡ record { limit = t.limit; ageing = t.ageing; entries = insert t.entries mac e }) view
    (ap (segment_with limit ageing) (from_entries-set mac e rs i found))

pub segment_of-push : {limit ageing : ℕ} {after : Rows} {s : Segment} (rs : Rows) → segment_of limit ageing rs ≡ s → (mac : List ℕ) (e : Entry) → position (is_of mac) rs ≡ None → after ≡ rs ++ (mac, e) ∷ [] → segment_of limit ageing after ≡ record { limit = s.limit; ageing = s.ageing; entries = insert s.entries mac e }
unfolding segment_with
segment_of-push {limit} {ageing} {after} rs view mac e new is =
    subst (λ (t : Segment). segment_of limit ageing after ≡ record { limit = t.limit; ageing = t.ageing; entries = insert t.entries mac e }) view
    (ap (segment_of limit ageing) is ∙ ap (segment_with limit ageing) (from_entries-push mac e rs (find-None mac rs new)))

-- ---- what it tells of the segment

pub get-Some : {limit ageing : ℕ} {s : Segment} (rs : Rows) → segment_of limit ageing rs ≡ s → (mac : List ℕ) (i : ℕ) (d : Row) → position (is_of mac) rs ≡ Some i → get s.entries mac ≡ Some (get_or rs i d).1
get-Some rs view mac i d found =
    subst (λ (t : Segment). get t.entries mac ≡ Some (get_or rs i d).1) view (get-from_entries mac_total rs mac ∙ find-Some mac rs i d found)

pub get-None : {limit ageing : ℕ} {s : Segment} (rs : Rows) → segment_of limit ageing rs ≡ s → (mac : List ℕ) → position (is_of mac) rs ≡ None → get s.entries mac ≡ None
get-None rs view mac new =
    subst (λ (t : Segment). get t.entries mac ≡ None) view (get-from_entries mac_total rs mac ∙ find-None mac rs new)

pub len-segment_of : {limit ageing : ℕ} {s : Segment} (rs : Rows) → segment_of limit ageing rs ≡ s → AreUnique rs → len s.entries ≡ length rs
len-segment_of rs view unique = subst (λ (t : Segment). len t.entries ≡ length rs) view (len-from_entries rs unique)

not_at_limit : (none at_limit : Bool) → none ≡ true → (none && at_limit) ≡ false → at_limit ≡ false
not_at_limit true at_limit is h = h
not_at_limit false at_limit is h = absurd (false≢true is)

-- where a new address has room, a row has
pub room_for : {limit ageing : ℕ} {s : Segment} (rs : Rows) → segment_of limit ageing rs ≡ s → AreUnique rs → (mac : List ℕ) → position (is_of mac) rs ≡ None → is_full s.limit mac s.entries ≡ false → length rs < limit
room_for {limit} {ageing} {s} rs view unique mac new room =
    let below : nat_le s.limit (len s.entries) ≡ false = not_at_limit (is_none (get s.entries mac)) (nat_le s.limit (len s.entries)) (ap is_none (get-None rs view mac new)) room in
    omega (arith, leb-false s.limit (len s.entries) below, len-segment_of rs view unique, ap (λ (t : Segment). t.limit) view)
