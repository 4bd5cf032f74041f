-- Two captures, compared without the records that are left aside. It states no standard.
--     Sifting      what was counted of those that were compared, and how many were left aside
--     IsSifted     those that aren't left aside were compared, and the others were counted
use Rattle.std.specs.Prelude.{◌≡◌, ℕ, ◌+◌, List, [], Option, Some, None, length}
use Rattle.record_match.specs.Compared.{Comparison, Counted, IsCompared, facts_of}
use Rattle.record_match.specs.Settled.{Fact, gone_alone}
use Rattle.record_match.specs.Window.{Window}
use Rattle.record_match.specs.declared.cut.Cut.{Cut}
use Rattle.capture_compare.specs.Clocked.{Seen, kept, keyed_at}
use Rattle.capture_compare.specs.Key.{Key}
use Rattle.capture_compare.specs.declared.aside.Aside.{Aside}

-- what was counted of the records that were compared, what whoever looks on was told, and how many records were left aside
pub record Sifting : Type 0 where
  pub window : Window
  pub sent : ℕ
  pub received : ℕ
  pub both : ℕ
  pub cut : Cut
  pub log : List Fact
  pub aside : Aside

abbrev pub sifting : Counted → List Fact → Aside → Sifting
sifting c log aside = record {
  window = c.window;
  sent = c.sent;
  received = c.received;
  both = c.both;
  cut = c.cut;
  log = log;
  aside = aside;
}

-- what of it was compared
abbrev pub compared_of : Sifting → Comparison
compared_of c = record { window = c.window; sent = c.sent; received = c.received; both = c.both; cut = c.cut; log = c.log }

-- these were sent, and these received, up to a moment: those that aren't left aside were compared, and all others were left
-- aside
pub record IsSifted (c : Sifting) (sent received : List Seen) (now : ℕ) : Type 0 where
  pub compared : IsCompared (compared_of c) (kept sent) (kept received) now
  pub sent_aside_is : c.sent + c.aside.sent ≡ length sent
  pub received_aside_is : c.received + c.aside.received ≡ length received

-- what is told at a record that was sent, by its key: nothing of one that is left aside
abbrev pub sent_facts : Option Key → ℕ → Window → List Fact
sent_facts None moment w = []
sent_facts (Some key) moment w = gone_alone moment w

-- what is told of a record that was received, by its key
abbrev pub received_facts : Option Key → ℕ → Counted → List Fact
received_facts None moment c = []
received_facts (Some key) moment c = facts_of c (keyed_at moment key)
