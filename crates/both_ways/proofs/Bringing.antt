-- What is known behind a record: the frame that comes in with one at a port that is no echo, and the count of one that is left out.
use Rattle.std.proofs.Common.{◌≡◌, ◌∙◌, ℕ, Bool, false, true, if◌then◌else◌, List, length, Result, ap, refl, sym}
use Rattle.std.proofs.lemmas.Bool.{le-leb}
use Rattle.wire.specs.declared.ether.reason.Refused.{Refused}
use Rattle.overlay.specs.Ports.{is_port}
use Rattle.endpoint_core.specs.Arrival.{Arrival}
use Rattle.timeline.specs.Captured.{Captured}
use Rattle.timeline.specs.declared.event.Happening.TheVariants as happenings
use Rattle.timeline.specs.declared.source.Tap.{Tap}
use Rattle.timeline.specs.declared.source.Tap.TheVariants.{Port}
use Rattle.overlay.specs.declared.settings.change.TimedChange.{TimedChange}
use Rattle.endpoint_core.specs.Settings.{Settings}
use Rattle.echo_window.specs.Echo.{Window, behind_met}
use Rattle.stream_run.specs.Sights.{IsBrought}
use Rattle.both_ways.specs.Sieve.{Seen, asked, counted, is_echo, is_input, record_behind, seen_of, window_with}
use Rattle.both_ways.specs.Outlets.{kept_outlets}
use Rattle.both_ways.specs.Told.{brought, place_of}
use Rattle.both_ways.specs.declared.sieve.BothWays.{BothWays}

-- by what the run brought of it
pub frame_behind : (s : Seen) (port moment number : ℕ) (r : Captured) (came : Result Arrival Refused) (w v : Window) → is_echo s.window port moment r.octets ≡ false → IsBrought s.settings (happenings.Record (Port port) r) came
    → w ≡ behind_met s.window (asked port moment r.octets) → v ≡ window_with w (brought s.sends_at port moment number came)
    → v ≡ (record_behind s (Port port) moment number r).window
frame_behind s port moment number r came w v none is_brought is_w is_v =
    let there : is_port (length s.settings.ports.ports) port ≡ true = rw (le-leb 1 port is_brought.0, le-leb port (length s.settings.ports.ports) is_brought.1) refl in
    rw (none, there)
    (is_v ∙ ap (λ (x : Window). window_with x (brought s.sends_at port moment number came)) is_w
    ∙ ap (λ (x : Result Arrival Refused). window_with (behind_met s.window (asked port moment r.octets)) (brought s.sends_at port moment number x)) is_brought.2)

-- the counts, once the window is told
module _ (b k : BothWays) (S : Settings) (changes : List TimedChange) (tap : Tap) (moment number : ℕ) (r : Captured)
    (known : seen_of k S changes ≡ record (record_behind (seen_of b S changes) tap moment number r) { counts = b.left_out }) where
  abbrev with : (ℕ → List Bool) → Window → List ℕ → Seen
  with sends_at w counts = record { settings = S; changes = changes; sends_at = sends_at; window = w; counts = counts }

  pub none_counted : is_input (seen_of b S changes) tap moment r ≡ true → seen_of k S changes ≡ record_behind (seen_of b S changes) tap moment number r
  none_counted is =
      known ∙ ap (λ (q : Bool). with (kept_outlets b.outlets S.ports) (record_behind (seen_of b S changes) tap moment number r).window (if q then b.left_out else counted b.left_out (place_of tap))) (sym is)

  pub one_counted : (counts : List ℕ) → is_input (seen_of b S changes) tap moment r ≡ false → counts ≡ counted k.left_out (place_of tap)
      → with (kept_outlets k.outlets S.ports) k.window counts ≡ record_behind (seen_of b S changes) tap moment number r
  one_counted counts is more =
      let w = (record_behind (seen_of b S changes) tap moment number r).window in
      let sends_at = kept_outlets b.outlets S.ports in
      ap (λ (f : ℕ → List Bool). with f k.window counts) (ap (λ (x : Seen). x.sends_at) known)
      ∙ ap (λ (x : Window). with sends_at x counts) (ap (λ (x : Seen). x.window) known)
      ∙ ap (with sends_at w) (more ∙ ap (λ (l : List ℕ). counted l (place_of tap)) (ap (λ (x : Seen). x.counts) known)
      ∙ ap (λ (q : Bool). if q then b.left_out else counted b.left_out (place_of tap)) (sym is))
