-- What a window knows, and what its calls make of it. It states no standard.
use Rattle.std.specs.Prelude.{◌≡◌, ◌<◌, ℕ, ◌+◌, nat_le, nat_lt, ◌&&◌, ◌||◌, if◌then◌else◌, Bool, true}
use Rattle.std.specs.Prelude.{false, List, [], ◌∷◌, ◌++◌, length, Option, Some, None, set, slice_index_or}
use Rattle.std.specs.List.{flat_map}
use Rattle.record_match.specs.Match.{Record, Sent, as_sent, is_met_by, met, taken}

-- how many nanoseconds later a record may be received, how many records and octets were sent in all, and the latest of those
-- that were sent
pub record Window : Type 0 where
  pub within : ℕ
  pub records : ℕ
  pub octets : ℕ
  pub held : List Sent

-- a record that was received, or is no more: so many nanoseconds and more went by
abbrev pub is_over : ℕ → ℕ → Sent → Bool
is_over within now s = s.is_taken || nat_lt (s.moment + within) now

-- what is held at a moment: those behind the first ones that are over
abbrev pub still_held : ℕ → ℕ → List Sent → List Sent
still_held within now [] = []
still_held within now (s ∷ sent) = if is_over within now s then still_held within now sent else s ∷ sent

-- the first of some is over
abbrev pub is_first_over : ℕ → ℕ → List Sent → Bool
is_first_over within now [] = false
is_first_over within now (s ∷ ss) = is_over within now s

-- a record that is received is the one at an index, and none before it
pub record IsFirstMet (within : ℕ) (r : Record) (sent : List Sent) (i : ℕ) : Type 0 where
  pub inside : i < length sent
  pub before : (k : ℕ) → k < i → is_met_by within r (slice_index_or sent k (as_sent r)) ≡ false
  pub here : is_met_by within r (slice_index_or sent i (as_sent r)) ≡ true

-- where the one stands that a record is, or that it is none
abbrev pub FindsFirst : ℕ → Record → List Sent → Option ℕ → Type 0
FindsFirst within r sent (Some i) = IsFirstMet within r sent i
FindsFirst within r sent None = (k : ℕ) → k < length sent → is_met_by within r (slice_index_or sent k (as_sent r)) ≡ false

-- those that were sent, of which the one at an index was received
abbrev pub taken_at : Record → List Sent → ℕ → List Sent
taken_at r sent i = set sent i (taken (slice_index_or sent i (as_sent r)))

-- how many octets records have together
abbrev pub octets_of : List Sent → ℕ
octets_of sent = length (flat_map (λ s. s.octets) sent)

-- at most 1,048,576 records of at most 268,435,456 octets together are held, with one more of so many
abbrev pub has_space : ℕ → ℕ → ℕ → Bool
has_space records octets more = nat_lt records 1048576 && nat_le (octets + more) 268435456

-- at most 2^62 of each were sent in all, with one more of so many octets
abbrev pub is_counted : ℕ → ℕ → ℕ → Bool
is_counted records octets more = nat_lt records 4611686018427387904 && nat_le (octets + more) 4611686018427387904

-- a window has room for one more record of so many octets
abbrev pub has_room : Window → ℕ → Bool
has_room w more = has_space (length w.held) (octets_of w.held) more && is_counted w.records w.octets more

-- a window at a moment
abbrev pub at_moment : ℕ → Window → Window
at_moment now w = record w { held = still_held w.within now w.held }

-- one record more
abbrev pub with_sent : Record → Window → Window
with_sent r w = record {
  within = w.within;
  records = w.records + 1;
  octets = w.octets + length r.octets;
  held = w.held ++ as_sent r ∷ [];
}

-- a window once a record was received
abbrev pub with_received : Record → Window → Window
with_received r w = record w { held = met w.within r w.held }

-- a window once a record was sent: where there is no room, it is as it was
abbrev pub sent_to : Record → Window → Window
sent_to r w = if has_room w (length r.octets) then with_sent r w else w
