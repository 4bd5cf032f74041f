-- Rows that are counted one after another, and a whole run.
use Rattle.std.proofs.Common.{◌≡◌, ◌∙◌, ap, sym, refl, ℕ, zero, suc, ◌<◌, List, [], ◌∷◌, ◌++◌, append-nil, append_assoc, length, map, take, get_or, Option, Some, None, Result, Ok, Err, arith}
use Rattle.std.specs.List.{FoldsTo, flat_map}
use Rattle.wire.proofs.FirstLemmas.{same_Ok}
use Rattle.wire.specs.declared.ether.reason.Reason.{Reason}
use Rattle.filter_db.specs.declared.place.Place.{Place}
use Rattle.filter_db.specs.declared.place.Place.TheVariants.{Local}
use Rattle.encapsulate.specs.Remote.{sizes}
use Rattle.overlay.specs.declared.settings.change.Change.{Change}
use Rattle.timeline.specs.declared.event.Event.{Event}
use Rattle.endpoint_core.specs.Settings.{Settings}
use Rattle.endpoint_core.specs.Decision.{Sent}
use Rattle.endpoint_core.specs.Step.{Answer, opened}
use Rattle.segment_set.specs.Segments.{Segments}
use Rattle.stream_run.specs.Sights.{Sight, sights}
use Rattle.ranked_rows.proofs.Shown as ranked
use Rattle.tunnel_traffic.specs.Key.{rank}
use Rattle.tunnel_traffic.specs.TrafficRows.{Rows, TrafficRow, counted_all}
use Rattle.tunnel_traffic.specs.Traffic.{left_of, no_traffic, traffic_with}
use Rattle.tunnel_traffic.proofs.Sums.{all_shown}
use Rattle.tunnel_traffic.specs.Run.{IsCounted, remotes_in, reply_rows, tunnels_of, unknown_in, where_told}
use Rattle.tunnel_traffic.specs.Tunnels.{Sees, SeesReply, Tunnels, answer_rows, outcome_rows, remotes_of, rows_at, sent_rows, unknown_of}

counted_append : (table : Rows) (xs ys : List TrafficRow) → counted_all table (xs ++ ys) ≡ counted_all (counted_all table xs) ys
counted_append table xs ys = ranked.counted_append rank traffic_with no_traffic table xs ys

-- ---- places one after another

pub rows_more : (f : Place → Sent) (places : List Place) (i : ℕ) (d : Place) → i < length places
    → flat_map outcome_rows (map f (take (suc i) places)) ≡ flat_map outcome_rows (map f (take i places)) ++ outcome_rows (f (get_or places i d))
rows_more f [] i d inside = absurd (omega (arith, inside))
rows_more f (place ∷ places) zero d inside = append-nil (outcome_rows (f place))
rows_more f (place ∷ places) (suc i) d inside =
    ap (λ rows. outcome_rows (f place) ++ rows) (rows_more f places i d (omega (arith, inside)))
    ∙ sym (append_assoc (outcome_rows (f place)) (flat_map outcome_rows (map f (take i places))) (outcome_rows (f (get_or places i d))))

pub leaving_more : (f : Place → Sent) (places : List Place) (i : ℕ) (d : Place) (old now new : Rows) → i < length places
    → now ≡ counted_all old (flat_map outcome_rows (map f (take i places))) → new ≡ counted_all now (outcome_rows (f (get_or places i d)))
    → new ≡ counted_all old (flat_map outcome_rows (map f (take (suc i) places)))
leaving_more f places i d old now new inside so more =
    more ∙ ap (λ (t : Rows). counted_all t (outcome_rows (f (get_or places i d)))) so
    ∙ sym (counted_append old (flat_map outcome_rows (map f (take i places))) (outcome_rows (f (get_or places i d))))
    ∙ ap (counted_all old) (sym (rows_more f places i d inside))

-- where something was sent
pub sized_rows : (o : Sent) (r : Result ℕ Reason) (size : ℕ) → r ≡ Ok size → r ≡ sizes o.sent → rows_at o.place (left_of size) ≡ outcome_rows o
sized_rows o r size is sent = by o.sent (sym is ∙ sent)
  where
    by : (s : Result (List ℕ) Reason) → Ok size ≡ sizes s → rows_at o.place (left_of size) ≡ sent_rows o.place s
    by (Ok octets) e = ap (λ n. rows_at o.place (left_of n)) (same_Ok size (length octets) e)
    by (Err reason) e = absurd cc

-- and where nothing was
pub unsized_rows : (o : Sent) (r : Result ℕ Reason) (reason : Reason) → r ≡ Err reason → r ≡ sizes o.sent → [] ≡ outcome_rows o
unsized_rows o r reason is sent = by o.sent (sym is ∙ sent)
  where
    by : (s : Result (List ℕ) Reason) → Err reason ≡ sizes s → [] ≡ sent_rows o.place s
    by (Ok octets) e = absurd cc
    by (Err other) e = refl

-- at a port nothing is counted, whatever is sent there
pub local_rows : (o : Sent) (port : ℕ) → o.place ≡ Local port → [] ≡ outcome_rows o
local_rows o port is = by o.sent ∙ sym (ap (λ (place : Place). sent_rows place o.sent) is)
  where
    by : (s : Result (List ℕ) Reason) → [] ≡ sent_rows (Local port) s
    by (Ok octets) = refl
    by (Err reason) = refl

-- ---- a run

told : (old : Tunnels) (s : Sight) (new : Tunnels) (r : Option Answer) → SeesReply old (record { state = s.state; number = s.number; event = s.event }) r new
    → new ≡ record {
      unknown = counted_all old.unknown (where_told r (unknown_of s.state.bridges.settings.overlay s.event.happening));
      remotes = counted_all old.remotes (where_told r (remotes_of s.state.bridges.settings.overlay s.event.happening) ++ reply_rows r);
    }
told old s new None is = is
told old s new (Some a) is =
    let came = remotes_of s.state.bridges.settings.overlay s.event.happening in
    is ∙ (λ i. record {
      unknown = counted_all old.unknown (unknown_of s.state.bridges.settings.overlay s.event.happening);
      remotes = sym (counted_append old.remotes came (answer_rows a)) i;
    })

folded : (seen : List Sight) (begun last : Tunnels) → FoldsTo Sees begun seen last
    → last ≡ record { unknown = counted_all begun.unknown (flat_map unknown_in seen); remotes = counted_all begun.remotes (flat_map remotes_in seen) }
folded [] begun last h = sym h
folded (s ∷ seen) begun last h =
    let mid : Tunnels = h.0 in
    let mid_is = told begun s mid s.reply h.1 in
    folded seen mid last h.2 ∙ (λ i. record {
      unknown = (ap (λ (m : Tunnels). counted_all m.unknown (flat_map unknown_in seen)) mid_is ∙ sym (counted_append begun.unknown (unknown_in s) (flat_map unknown_in seen))) i;
      remotes = (ap (λ (m : Tunnels). counted_all m.remotes (flat_map remotes_in seen)) mid_is ∙ sym (counted_append begun.remotes (remotes_in s) (flat_map remotes_in seen))) i;
    })

pub whole_run : (segments : Segments) (S : Settings) (cs : List Change) (es : List Event) (begun ended : Tunnels) → IsCounted segments S cs es begun ended
    → ended ≡ tunnels_of (sights segments cs (opened S) 0 es)
whole_run segments S cs es begun ended is =
    let seen = sights segments cs (opened S) 0 es in
    folded seen begun ended is.seen ∙ (λ i. record {
      unknown = (ap (λ (t : Tunnels). counted_all t.unknown (flat_map unknown_in seen)) is.none ∙ all_shown (flat_map unknown_in seen)) i;
      remotes = (ap (λ (t : Tunnels). counted_all t.remotes (flat_map remotes_in seen)) is.none ∙ all_shown (flat_map remotes_in seen)) i;
    })
