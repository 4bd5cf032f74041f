-- A segment's table behind two lists of events that agree in the segment's own.
use Rattle.std.proofs.Common.{◌≡◌, ℕ, ◌≤◌, ◌==◌, Bool, true, false, cond, List, [], ◌∷◌, ◌++◌, length, refl, sym, ap, ◌∙◌, subst}
use Rattle.std.specs.FinMap.{entries}
use Rattle.std.specs.List.{flat_map}
use Rattle.std.specs.Option.{option_map_or}
use Rattle.endpoint_core.specs.Settings.{Settings}
use Rattle.endpoint_core.specs.State.{aged}
use Rattle.endpoint_core.specs.Event.{Event, IsRising}
use Rattle.endpoint_core.specs.Step.{State, after, opened, passed, state_after}
use Rattle.table_lines.specs.Lines.{entry_line, segment_lines}
use Rattle.tenants_apart.specs.Own.{Needs, AreMembers, part_of, own_events, room_reply, room_replies, is_within, AreWithin}
use Rattle.tenants_apart.proofs.Events.{Related-opened}
use Rattle.tenants_apart.proofs.Running.{
  is_own,
  own_from,
  own_from-is,
  replies_from,
  replies_from-is,
  Related,
  Related-kept,
  Related-left,
  Related-right,
  Within,
  within-from,
  room-none,
  room-split,
  same-head,
  same-tail,
  never-empty,
}
use Rattle.tenants_apart.proofs.Kept.{Own, owned}

module _ (vid : ℕ) (needs : Needs) where
  -- events of others change nothing of it
  others-left : (s r : State) (fs : List Event) → IsRising r.moment fs → Related vid needs s r → own_from vid needs r fs ≡ [] → Related vid needs s (state_after r fs)
  others-left s r [] rising h none = h
  others-left s r (f ∷ fs) rising h none =
      by (λ is none. others-left s (after r f) fs rising.1 (Related-right vid needs s r f rising.0 h is) none) (is_own vid needs r f) refl none
    where
      by : (is_own vid needs r f ≡ false → own_from vid needs (after r f) fs ≡ [] → Related vid needs s (state_after (after r f) fs))
          → (b : Bool) → is_own vid needs r f ≡ b → cond b (f ∷ own_from vid needs (after r f) fs) (own_from vid needs (after r f) fs) ≡ []
          → Related vid needs s (state_after (after r f) fs)
      by skipped true is none = absurd (never-empty f (own_from vid needs (after r f) fs) none)
      by skipped false is none = skipped is none

  -- both end with the same of the segment, whatever comes to the other
  abbrev Onward : State → List Event → Type 0
  Onward s es =
      (r : State) (fs : List Event) → IsRising r.moment fs → Related vid needs s r → own_from vid needs s es ≡ own_from vid needs r fs
      → replies_from vid needs s es ≡ replies_from vid needs r fs → Related vid needs (state_after s es) (state_after r fs)

  -- both take an event of the segment's own
  taken : (e : Event) (es : List Event) (s : State) → s.moment ≤ e.at → is_own vid needs s e ≡ true → is_within needs s.bridges.settings e.input ≡ true → Onward (after s e) es
      → (r : State) (fs : List Event) → r.moment ≤ e.at → IsRising e.at fs → Related vid needs s r → is_own vid needs r e ≡ true
      → own_from vid needs (after s e) es ≡ own_from vid needs (after r e) fs
      → room_reply vid s.bridges.settings e.input ++ replies_from vid needs (after s e) es ≡ room_reply vid r.bridges.settings e.input ++ replies_from vid needs (after r e) fs
      → Related vid needs (state_after (after s e) es) (state_after (after r e) fs)
  taken e es s late own within next r fs later rising h other same replies =
      let split = room-split vid needs s.bridges.settings r.bridges.settings e.input (replies_from vid needs (after s e) es) (replies_from vid needs (after r e) fs) replies in
      next (after r e) fs rising (Related-kept vid needs s r e late later h own other split.0 within) same split.1

  -- the other comes to it behind events that aren't the segment's own
  sought : (e : Event) (es : List Event) (s : State) → s.moment ≤ e.at → is_own vid needs s e ≡ true → is_within needs s.bridges.settings e.input ≡ true → Onward (after s e) es
      → (r : State) (fs : List Event) → IsRising r.moment fs → Related vid needs s r
      → e ∷ own_from vid needs (after s e) es ≡ own_from vid needs r fs
      → room_reply vid s.bridges.settings e.input ++ replies_from vid needs (after s e) es ≡ replies_from vid needs r fs
      → Related vid needs (state_after (after s e) es) (state_after r fs)
  sought e es s late own within next r [] rising h same replies = absurd (never-empty e (own_from vid needs (after s e) es) same)
  sought e es s late own within next r (f ∷ fs) rising h same replies =
      by (λ other same replies. sought e es s late own within next (after r f) fs rising.1 (Related-right vid needs s r f rising.0 h other) same replies) (is_own vid needs r f) refl same
    where
      by : (is_own vid needs r f ≡ false → e ∷ own_from vid needs (after s e) es ≡ own_from vid needs (after r f) fs
          → room_reply vid s.bridges.settings e.input ++ replies_from vid needs (after s e) es ≡ replies_from vid needs (after r f) fs
          → Related vid needs (state_after (after s e) es) (state_after (after r f) fs))
          → (b : Bool) → is_own vid needs r f ≡ b → e ∷ own_from vid needs (after s e) es ≡ cond b (f ∷ own_from vid needs (after r f) fs) (own_from vid needs (after r f) fs)
          → Related vid needs (state_after (after s e) es) (state_after (after r f) fs)
      by skipped true is both =
          subst (λ (g : Event). r.moment ≤ g.at → IsRising g.at fs → is_own vid needs r g ≡ true → own_from vid needs (after s e) es ≡ own_from vid needs (after r g) fs
          → room_reply vid s.bridges.settings e.input ++ replies_from vid needs (after s e) es ≡ room_reply vid r.bridges.settings g.input ++ replies_from vid needs (after r g) fs
          → Related vid needs (state_after (after s e) es) (state_after (after r g) fs))
          (same-head e f (own_from vid needs (after s e) es) (own_from vid needs (after r f) fs) both)
          (λ later rising other same replies. taken e es s late own within next r fs later rising h other same replies)
          rising.0 rising.1 is (same-tail e f (own_from vid needs (after s e) es) (own_from vid needs (after r f) fs) both) replies
      by skipped false is both = skipped is both (replies ∙ ap (λ l. l ++ replies_from vid needs (after r f) fs) (room-none vid needs r.bridges.settings f.input is))

  ends : (s : State) (es : List Event) → IsRising s.moment es → Within vid needs s es → Onward s es
  ends s [] up within r fs rising h same replies = others-left s r fs rising h (sym same)
  ends s (e ∷ es) up within r fs rising h same replies = by (ends (after s e) es up.1 within.1) (is_own vid needs s e) refl same
    where
      by : Onward (after s e) es → (b : Bool) → is_own vid needs s e ≡ b → cond b (e ∷ own_from vid needs (after s e) es) (own_from vid needs (after s e) es) ≡ own_from vid needs r fs
          → Related vid needs (state_after (after s e) es) (state_after r fs)
      by next true is both = sought e es s up.0 is (within.0 is) next r fs rising h both replies
      by next false is both =
          next r fs rising (Related-left vid needs s r e up.0 h is) both
          (ap (λ l. l ++ replies_from vid needs (after s e) es) (sym (room-none vid needs s.bridges.settings e.input is)) ∙ replies)

  module _ (S T : Settings) (es fs : List Event) (moment : ℕ) (up : IsRising 0 es) (rising : IsRising 0 fs) (members : AreMembers vid needs S) (within : AreWithin vid needs S es) (same : part_of vid needs S ≡ part_of vid needs T)
      (events : own_events vid needs S es ≡ own_events vid needs T fs) (replies : room_replies vid S es ≡ room_replies vid T fs)
      (late : (state_after (opened S) es).moment ≤ moment) (later : (state_after (opened T) fs).moment ≤ moment) where
    alike : owned vid needs (aged moment (state_after (opened S) es).bridges) ≡ owned vid needs (aged moment (state_after (opened T) fs).bridges)
    alike =
        (ends (opened S) es up (within-from vid needs (opened S) es within) (opened T) fs rising (Related-opened vid needs S T members same)
        (own_from-is vid needs (opened S) es ∙ events ∙ sym (own_from-is vid needs (opened T) fs))
        (replies_from-is vid needs (opened S) es ∙ replies ∙ sym (replies_from-is vid needs (opened T) fs))).same
        moment late later

    pub tables-alike : (passed moment (state_after (opened S) es)).bridges.tables vid ≡ (passed moment (state_after (opened T) fs)).bridges.tables vid
    tables-alike = ap (λ (w : Own). w.table) alike

    pub lines-shown : segment_lines (passed moment (state_after (opened S) es)) vid ≡ segment_lines (passed moment (state_after (opened T) fs)) vid
    lines-shown =
        ap (λ (w : Own). flat_map (entry_line (option_map_or (λ segment. length segment.tunnels == 2) w.settings.tunnels false) moment vid) (entries w.table)) alike
