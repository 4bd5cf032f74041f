-- A segment among others is answered as it is alone.
use Rattle.std.proofs.Common.{◌≡◌, ◌∙◌, refl, sym, ap, ℕ, ◌==◌, suc, ◌≤◌, arith, Bool, true, false, cond, List, [], ◌∷◌, ◌++◌, length, Option, Some, None, le_refl, le_trans}
use Rattle.std.specs.Option.{option_map_or}
use Rattle.std.specs.Ordering.{nat_cmp}
use Rattle.std.specs.FinMap.{empty, get, get-empty}
use Rattle.std.proofs.lemmas.Bool.{false≢true, eqb-true, eq-eqb}
use Rattle.overlay.proofs.PlacesLemmas.{get-insert_at, get-insert_same}
use Rattle.overlay.specs.Ports.{members_at}
use Rattle.wire.specs.declared.ip_udp.addr.Tunnel.{Tunnel}
use Rattle.overlay.specs.Index.{has_at}
use Rattle.overlay.specs.Overlay.{segment_at as overlay_segment, has_tunnel}
use Rattle.overlay.specs.declared.underlay.segment.Segment.{Segment}
use Rattle.endpoint_core.specs.Settings.{Settings}
use Rattle.endpoint_core.specs.Event.{Input, FrameAt, Packet, Asks, Event, IsRising}
use Rattle.endpoint_core.specs.Run.{settings_after_input}
use Rattle.endpoint_core.specs.Step.{State, opened, after}
use Rattle.noninterference.specs.Leaving.{rows, departures_in, lines_in}
use Rattle.tenants_apart.specs.Own.{Needs, everything, Part, shared_of, port_there, part_of, names_or_concerns, own_events, room_reply, room_replies, own_rows}
use Rattle.tenants_apart.specs.Single.{just, single}
use Rattle.tenants_apart.specs.Vnis.{AreVnisApart}
use Rattle.tenants_apart.proofs.Coming.{frame-own}
use Rattle.tenants_apart.proofs.Enough.{within, enough-for}
use Rattle.tenants_apart.proofs.Events.{answers-alike}
use Rattle.tenants_apart.proofs.Room.{part-kept, part-left}
use Rattle.tenants_apart.proofs.Running.{row_of, own_from, own_from-is, room-none, room-split}
use Rattle.tenants_apart.proofs.There.{at-same}
use Rattle.tenants_apart.proofs.Telling.{departures-own, lines-own}
use Rattle.tenants_apart.proofs.Vnis.{packet-own, apart-input}

-- ---- the one segment

just-at : {X : Type 0} (vid : ℕ) (o : Option X) → get (just vid o) vid ≡ o
just-at {X = X} vid None = get-empty {X = X} nat_cmp vid
just-at vid (Some x) = get-insert_same empty vid x

pub part-single : (vid : ℕ) (needs : Needs) (S : Settings) → part_of vid needs S ≡ part_of vid needs (single vid S)
part-single vid needs S = λ i. record {
  shared = shared_of needs S.overlay.underlay;
  ports = λ port. cond (needs.ports port) (port_there S.ports port) None;
  members = sym (just-at vid (members_at S.ports vid)) i;
  tunnels = sym (just-at vid (overlay_segment S.overlay vid)) i;
  bridge = sym (ap (λ (b : Bool). cond b (S.bridges vid) None) (eq-eqb vid vid refl)) i;
}

-- it has all VNIs
just-has : (vid : ℕ) (o : Option Segment) (kind : Tunnel) (vni v : ℕ) → has_at kind (just vid o) vni v ≡ true → v ≡ vid
just-has vid None kind vni v h = absurd (false≢true (sym (ap (λ (x : Option Segment). option_map_or (has_tunnel kind vni) x false) (get-empty {X = Segment} nat_cmp v)) ∙ h))
just-has vid (Some g) kind vni v h = by (v == vid) refl (sym (ap (λ (x : Option Segment). option_map_or (has_tunnel kind vni) x false) (get-insert_at empty vid g v)) ∙ h)
  where
    by : (b : Bool) → (v == vid) ≡ b → option_map_or (has_tunnel kind vni) (cond b (Some g) (get (empty {X = Segment} {R = nat_cmp}) v)) false ≡ true → v ≡ vid
    by true same there = eqb-true v vid same
    by false other there = absurd (false≢true (sym (ap (λ (x : Option Segment). option_map_or (has_tunnel kind vni) x false) (get-empty {X = Segment} nat_cmp v)) ∙ there))

pub apart-single : (vid : ℕ) (S : Settings) → AreVnisApart (single vid S).overlay
apart-single vid S v w kind vni h l = just-has vid (overlay_segment S.overlay vid) kind vni w l ∙ sym (just-has vid (overlay_segment S.overlay vid) kind vni v h)

-- ---- its own events are its own there, too

module _ (vid : ℕ) where
  pub names-same : (S T : Settings) → part_of vid everything S ≡ part_of vid everything T → AreVnisApart S.overlay → AreVnisApart T.overlay → (i : Input) → names_or_concerns vid everything S i ≡ names_or_concerns vid everything T i
  names-same S T h apart other (FrameAt port original b) = frame-own vid S.ports T.ports S.overlay T.overlay port (at-same S.ports T.ports (λ q. ap (λ (p : Part). p.ports q) h) port) (ap (λ (p : Part). p.members) h) original b
  names-same S T h apart other (Packet original b) = packet-own vid S.overlay T.overlay (ap (λ (p : Part). p.shared.underlay) h) (ap (λ (p : Part). p.tunnels) h) apart other original b
  names-same S T h apart other (Asks c) = refl

  own-again : (S T : Settings) (es : List Event) → part_of vid everything S ≡ part_of vid everything T → AreVnisApart S.overlay → AreVnisApart T.overlay
      → room_replies vid S es ≡ room_replies vid T (own_events vid everything S es) → own_events vid everything T (own_events vid everything S es) ≡ own_events vid everything S es
  own-again S T [] h apart other replies = refl
  own-again S T (e ∷ es) h apart other replies =
      by (λ U. own-again (settings_after_input S e.input) U es) (names_or_concerns vid everything S e.input) refl replies
    where
      Rest : Settings → Type 0
      Rest U =
          part_of vid everything (settings_after_input S e.input) ≡ part_of vid everything U → AreVnisApart (settings_after_input S e.input).overlay → AreVnisApart U.overlay
          → room_replies vid (settings_after_input S e.input) es ≡ room_replies vid U (own_events vid everything (settings_after_input S e.input) es)
          → own_events vid everything U (own_events vid everything (settings_after_input S e.input) es) ≡ own_events vid everything (settings_after_input S e.input) es

      by : ((U : Settings) → Rest U) → (b : Bool) → names_or_concerns vid everything S e.input ≡ b
          → room_reply vid S e.input ++ room_replies vid (settings_after_input S e.input) es ≡ room_replies vid T (cond b (e ∷ own_events vid everything (settings_after_input S e.input) es) (own_events vid everything (settings_after_input S e.input) es))
          → own_events vid everything T (cond b (e ∷ own_events vid everything (settings_after_input S e.input) es) (own_events vid everything (settings_after_input S e.input) es)) ≡ cond b (e ∷ own_events vid everything (settings_after_input S e.input) es) (own_events vid everything (settings_after_input S e.input) es)
      by next true is asked =
          let there : names_or_concerns vid everything T e.input ≡ true = sym (names-same S T h apart other e.input) ∙ is in
          let split = room-split vid everything S T e.input (room_replies vid (settings_after_input S e.input) es) (room_replies vid (settings_after_input T e.input) (own_events vid everything (settings_after_input S e.input) es)) asked in
          let rest = next (settings_after_input T e.input) (part-kept vid everything S T h e.input is split.0 (within S e.input)) (apart-input S e.input apart) (apart-input T e.input other) split.1 in
          ap (λ b. cond b (e ∷ own_events vid everything (settings_after_input T e.input) (own_events vid everything (settings_after_input S e.input) es)) (own_events vid everything (settings_after_input T e.input) (own_events vid everything (settings_after_input S e.input) es))) there
          ∙ ap (λ l. e ∷ l) rest
      by next false is asked =
          next T (part-left vid everything S e.input is ∙ h) (apart-input S e.input apart) other
          (sym (ap (λ l. l ++ room_replies vid (settings_after_input S e.input) es) (room-none vid everything S e.input is)) ∙ asked)

  -- ---- moments

  own-rising : (S : Settings) (t u : ℕ) (es : List Event) → t ≤ u → IsRising u es → IsRising t (own_events vid everything S es)
  own-rising S t u [] lower rising = tt
  own-rising S t u (e ∷ es) lower rising =
      by (own-rising (settings_after_input S e.input) e.at e.at es (le_refl e.at) rising.1) (own-rising (settings_after_input S e.input) t e.at es (le_trans lower rising.0) rising.1) (names_or_concerns vid everything S e.input)
    where
      by : IsRising e.at (own_events vid everything (settings_after_input S e.input) es) → IsRising t (own_events vid everything (settings_after_input S e.input) es)
          → (b : Bool) → IsRising t (cond b (e ∷ own_events vid everything (settings_after_input S e.input) es) (own_events vid everything (settings_after_input S e.input) es))
      by kept skipped true = (le_trans lower rising.0, kept)
      by kept skipped false = skipped

  -- ---- where all events are its own

  own-fewer : (s : State) (es : List Event) → length (own_from vid everything s es) ≤ length es
  own-fewer s [] = le_refl 0
  own-fewer s (e ∷ es) = by (names_or_concerns vid everything s.bridges.settings e.input) (own-fewer (after s e) es)
    where
      by : (b : Bool) → length (own_from vid everything (after s e) es) ≤ length es → length (cond b (e ∷ own_from vid everything (after s e) es) (own_from vid everything (after s e) es)) ≤ suc (length es)
      by true rest = omega (arith, rest)
      by false rest = omega (arith, rest)

  all-own : (s : State) (es : List Event) → own_from vid everything s es ≡ es → rows s es ≡ own_rows vid everything s es
  all-own s [] all = refl
  all-own s (e ∷ es) all = by (all-own (after s e) es) (names_or_concerns vid everything s.bridges.settings e.input) all
    where
      by : (own_from vid everything (after s e) es ≡ es → rows (after s e) es ≡ own_rows vid everything (after s e) es) → (b : Bool) → cond b (e ∷ own_from vid everything (after s e) es) (own_from vid everything (after s e) es) ≡ e ∷ es
          → row_of s e ∷ rows (after s e) es ≡ cond b (row_of s e ∷ own_rows vid everything (after s e) es) (own_rows vid everything (after s e) es)
      by rest true is = ap (λ l. row_of s e ∷ l) (rest cc)
      by rest false is = let same : length (own_from vid everything (after s e) es) ≡ suc (length es) = ap length is in absurd (omega (arith, same, own-fewer (after s e) es))

  -- ---- the run of the one segment

  module _ (S : Settings) (es : List Event) (apart : AreVnisApart S.overlay) (replies : room_replies vid S es ≡ room_replies vid (single vid S) (own_events vid everything S es)) where
    pub events-single : own_events vid everything (single vid S) (own_events vid everything S es) ≡ own_events vid everything S es
    events-single = own-again S (single vid S) es (part-single vid everything S) apart (apart-single vid S) replies

    pub answers-single : IsRising 0 es → own_rows vid everything (opened S) es ≡ rows (opened (single vid S)) (own_events vid everything S es)
    answers-single up =
        answers-alike vid everything S (single vid S) es (own_events vid everything S es) up (own-rising S 0 0 es (le_refl 0) up) (enough-for vid S es) (part-single vid everything S) (sym events-single) replies
        ∙ sym (all-own (opened (single vid S)) (own_events vid everything S es) (own_from-is vid everything (opened (single vid S)) (own_events vid everything S es) ∙ events-single))

    pub leaving-single : IsRising 0 es → departures_in vid (rows (opened S) es) ≡ departures_in vid (rows (opened (single vid S)) (own_events vid everything S es))
    leaving-single up = departures-own vid everything (opened S) es ∙ ap (departures_in vid) (answers-single up)

    pub lines-single : IsRising 0 es → lines_in vid (rows (opened S) es) ≡ lines_in vid (rows (opened (single vid S)) (own_events vid everything S es))
    lines-single up = lines-own vid everything (opened S) es ∙ ap (lines_in vid) (answers-single up)
