-- Two captures, compared as their records come. It states no standard.
use Rattle.std.specs.Prelude.{◌≡◌, ◌<◌, ⊤, ℕ, ◌+◌, ◌==◌, if◌then◌else◌, List, [], ◌∷◌, ◌++◌, length, map}
use Rattle.record_match.specs.Laws.{AreOver}
use Rattle.record_match.specs.Match.{Record, Sent, as_sent, matched, received_count}
use Rattle.record_match.specs.Settled.{Fact, alone_from, fact_by, gone_alone, of_received, of_sent, sent_moment, told_from}
use Rattle.record_match.specs.Window.{Window, at_moment}
use Rattle.record_match.specs.declared.cut.Cut.{Cut}

-- the window, how many records were sent, were received, and are both, and how many of each are cut
pub record Counted : Type 0 where
  pub window : Window
  pub sent : ℕ
  pub received : ℕ
  pub both : ℕ
  pub cut : Cut

-- the same, and what whoever looks on was told
pub record Comparison : Type 0 where
  pub window : Window
  pub sent : ℕ
  pub received : ℕ
  pub both : ℕ
  pub cut : Cut
  pub log : List Fact

abbrev pub logged : Counted → List Fact → Comparison
logged c log = record { window = c.window; sent = c.sent; received = c.received; both = c.both; cut = c.cut; log = log }

-- what is told of a record that is received: first those that are over then, and then what it is
abbrev pub facts_of : Counted → Record → List Fact
facts_of c r =
    gone_alone r.moment c.window
    ++ fact_by (c.received + 1) r (sent_moment c.window.within r (at_moment r.moment c.window).held) ∷ []

-- all of some records are earlier than a moment
abbrev pub AreBefore : ℕ → List Record → Type 0
AreBefore moment [] = ⊤
AreBefore moment (r ∷ rs) = (r.moment < moment) × AreBefore moment rs

-- how many records are cut
abbrev pub cut_in : List Record → ℕ
cut_in [] = 0
cut_in (r ∷ rs) = (if r.missing == 0 then 0 else 1) + cut_in rs

-- how many octets records have together
abbrev pub octets_in : List Record → ℕ
octets_in [] = 0
octets_in (r ∷ rs) = length r.octets + octets_in rs

-- these were sent, and these received, up to a moment: so many are both as the lists tell, and those that were sent are those
-- that are over, and those that the window holds. Of those that are over it was told which were sent alone, and of all that
-- were received what they are
pub record IsCompared (c : Comparison) (sent received : List Record) (now : ℕ) : Type 0 where
  pub over : List Sent
  pub whole : matched c.window.within sent received ≡ over ++ c.window.held
  pub are_over : AreOver c.window.within now over
  pub sent_is : c.sent ≡ length sent
  pub received_is : c.received ≡ length received
  pub cut_is : (c.cut.sent ≡ cut_in sent) × (c.cut.received ≡ cut_in received)
  pub records_is : c.window.records ≡ length sent
  pub octets_is : c.window.octets ≡ octets_in sent
  pub gone_is : c.window.records ≡ length over + length c.window.held
  pub alone_is : of_sent c.log ≡ alone_from 1 over
  pub told_is : of_received c.log ≡ told_from c.window.within 1 (map as_sent sent) received
  pub both_is : c.both ≡ received_count (matched c.window.within sent received)
