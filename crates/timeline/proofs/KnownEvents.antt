-- What is known of the events of a run.
use Rattle.std.proofs.Common.{ℕ, ◌+◌, ◌≤◌, max, List, [], ◌∷◌, ◌++◌, length, arith, Vec, Result, Ok, Err}
use Rattle.std.specs.List.{AllByRecursion, cons_option, flat_map}
use Rattle.std.specs.declared.alloc.Global.{Global}
use Rattle.pcap.specs.Capture.{opened}
use Rattle.pcap.specs.Reading.{Reading}
use Rattle.pcap.specs.Record.{IsWithinLimits, Record, last_moment}
use Rattle.pcap.specs.declared.text.header.CaptureFault.{CaptureFault}
use Rattle.timeline.specs.Events.{IsEventOf, IsTapOf, all_events, change_events, events_of, record_events}
use Rattle.timeline.specs.Inputs.{HasBoundedRecords, inputs, inputs_from, opened_by, opened_captures}
use Rattle.timeline.specs.declared.capture.Opened.{Opened}
use Rattle.timeline.specs.declared.source.Tap.{Tap}
use Rattle.timeline.specs.declared.source.Tap.TheVariants.{Port, Underlay}

pub all-append : {A : Type 0} (P : A → Type 0) (xs ys : List A) → AllByRecursion P xs → AllByRecursion P ys → AllByRecursion P (xs ++ ys)
all-append P [] ys h k = k
all-append P (x ∷ xs) ys h k = (h.0, all-append P xs ys h.1 k)

known_changes : (n ports index : ℕ) (moments : List ℕ) → index + length moments ≤ n → AllByRecursion (IsEventOf n ports) (change_events index moments)
known_changes n ports index [] le = tt
known_changes n ports index (m ∷ ms) le = (omega arith, known_changes n ports (index + 1) ms (omega arith))

known_records : (n ports : ℕ) (tap : Tap) (count latest : ℕ) (rs : List Record) → IsTapOf ports tap → latest ≤ last_moment → AllByRecursion IsWithinLimits rs
    → AllByRecursion (IsEventOf n ports) (record_events tap count latest rs)
known_records n ports tap count latest [] of_run le h = tt
known_records n ports tap count latest (r ∷ rs) of_run le h =
    let limits = h.0 in
    let later : max r.moment latest ≤ last_moment = omega (arith, limits.moment) in
    (record { moment = later; tap = of_run; original = limits.original; octets = limits.length }, known_records n ports tap (count + 1) (max r.moment latest) rs of_run later h.1)

known_captures : (n ports : ℕ) (captures : List Opened) → AllByRecursion (λ c. IsTapOf ports c.tap) captures → AllByRecursion HasBoundedRecords captures
    → AllByRecursion (IsEventOf n ports) (flat_map events_of captures)
known_captures n ports [] taps records = tt
known_captures n ports (c ∷ cs) taps records =
    all-append (IsEventOf n ports) (events_of c) (flat_map events_of cs) (known_records n ports c.tap 0 0 c.capture.records taps.0 (omega arith) records.0.limits)
    (known_captures n ports cs taps.1 records.1)

opened_at : (ports : ℕ) (tap : Tap) (found : Result Reading CaptureFault) (others : List Opened) → IsTapOf ports tap → AllByRecursion (λ (c : Opened). IsTapOf ports c.tap) others
    → AllByRecursion (λ (c : Opened). IsTapOf ports c.tap) (cons_option (opened_by tap found) others)
opened_at ports tap (Ok reading) others of_run h = (of_run, h)
opened_at ports tap (Err fault) others of_run h = h

taps_from : (ports port : ℕ) (vs : List (Vec ℕ Global)) (underlay : List ℕ) → 1 ≤ port → port + length vs ≤ ports + 1
    → AllByRecursion (λ (c : Opened). IsTapOf ports c.tap) (opened_captures (inputs_from port vs underlay))
taps_from ports port [] underlay first last = opened_at ports Underlay (opened underlay) [] tt tt
taps_from ports port (v ∷ vs) underlay first last =
    opened_at ports (Port port) (opened v.items) (opened_captures (inputs_from (port + 1) vs underlay)) (first, omega arith) (taps_from ports (port + 1) vs underlay (omega arith) (omega arith))

pub known_events : (changes : List ℕ) (vs : List (Vec ℕ Global)) (underlay : List ℕ) → AllByRecursion HasBoundedRecords (opened_captures (inputs vs underlay))
    → AllByRecursion (IsEventOf (length changes) (length vs)) (all_events changes (opened_captures (inputs vs underlay)))
known_events changes vs underlay records =
    all-append (IsEventOf (length changes) (length vs)) (change_events 0 changes) (flat_map events_of (opened_captures (inputs vs underlay)))
    (known_changes (length changes) (length vs) 0 changes (omega arith))
    (known_captures (length changes) (length vs) (opened_captures (inputs vs underlay)) (taps_from (length vs) 1 vs underlay (omega arith) (omega arith)) records)
