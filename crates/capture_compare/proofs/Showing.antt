-- A step of a comparison, shown to whoever looks on.
use Rattle.std.proofs.Common.{◌≡◌, ◌∙◌, sym, subst, ℕ, ◌-◌, ◌≤◌, List, [], ◌∷◌, ◌++◌, Some, Result, Ok, Err}
use Rattle.std.specs.List.{FoldsTo}
use Rattle.pcap.specs.Record.{Record}
use Rattle.pcap.specs.Source.{Stream, lent}
use Rattle.record_match.specs.Compared.{Counted}
use Rattle.record_match.specs.Settled.{Fact}
use Rattle.record_match.specs.Window.{at_moment}
use Rattle.record_match.specs.declared.clock.Clock.{Clock}
use Rattle.record_match.proofs.Looking.{shows-more}
use Rattle.capture_compare.specs.Clocked.{AreBefore, Seen, latest, on_clock, seen_at}
use Rattle.capture_compare.specs.Compared.{takes}
use Rattle.capture_compare.specs.Sifted.{IsSifted, received_facts, sent_facts, sifting}
use Rattle.capture_compare.specs.Turns.{Fetches, HasLent, IsShown, StepIsShown, turn_of, unless_full}
use Rattle.capture_compare.specs.declared.aside.Aside.{Aside}
use Rattle.capture_compare.specs.declared.coming.Coming.{Coming}
use Rattle.capture_compare.specs.declared.turn.Turn.TheVariants as turns
use Rattle.capture_compare.specs.declared.fault.CompareFault.{CompareFault}
use Rattle.capture_compare.proofs.Receiving.{receives-next}
use Rattle.capture_compare.proofs.Sending.{sends-next}
use Rattle.capture_compare.proofs.Sifting.{same-record}
use Rattle.capture_compare.proofs.Stepping.{step-full-by, step-received-by, step-sent-by}
use Rattle.capture_compare.specs.declared.carried.key.Manner.{Manner}
use Rattle.capture_compare.specs.Key.{told_by}

module _ {W : Type 0} (sees : W → Fact → W → Type 0) where
  -- at a record that was sent for which there is no room
  pub shown-full : (start old new : W) (manner : Manner) (clock : Clock) (s0 r0 s r : Stream) (sending receiving after : Coming) (c d : Counted) (a b : Aside) (m delay : ℕ) (fault : CompareFault)
      → IsShown sees start old manner clock s0 r0 s r sending receiving c a → turn_of sending.next receiving.next ≡ turns.Sent m → delay ≡ sending.delay → delay ≤ m
      → ((x : Record) → lent s.standing ≡ Some x → ◌≡◌ {A = Result (Unit {0}) CompareFault} (Err fault) (unless_full (takes (at_moment m c.window) (told_by manner x)) (m - delay)))
      → ((x : Record) (S R : List Seen) (now : ℕ) (log : List Fact) → lent s.standing ≡ Some x → IsSifted (sifting c log a) S R now → now ≤ m
      → IsSifted (sifting d (log ++ sent_facts (told_by manner x) m c.window) b) S R m) → d.window.within ≡ c.window.within
      → ((x : Record) → lent s.standing ≡ Some x → FoldsTo sees old (sent_facts (told_by manner x) m c.window) new)
      → StepIsShown sees start new manner clock s0 r0 s r after receiving d b (Err fault)
  shown-full start old new manner clock s0 r0 s r sending receiving after c d a b m delay fault h turn is late answer compared same seen =
      let known = (sends-next manner clock s0 r0 s r sending receiving (sifting c h.facts a) h.so m turn).0 in
      let x = known.waits.next in
      let facts = sent_facts (told_by manner x) m c.window in
      shows-more sees start old new facts h (seen x known.waits.lends)
      (step-full-by manner clock s0 r0 s r sending receiving (sifting c h.facts a) (sifting d (h.facts ++ facts) b) m delay fault h.so turn is late answer
      (λ S R now i le. compared x S R now h.facts known.waits.lends i le) same)

  -- over a record that was sent
  pub shown-sent : (start old new : W) (manner : Manner) (clock : Clock) (s0 r0 s t r : Stream) (sending after receiving : Coming) (c d : Counted) (a b : Aside) (m n : ℕ) (result : Result (Unit {0}) CompareFault)
      → IsShown sees start old manner clock s0 r0 s r sending receiving c a → turn_of sending.next receiving.next ≡ turns.Sent m
      → ((x : Record) → lent s.standing ≡ Some x → ◌≡◌ {A = Result (Unit {0}) CompareFault} (Ok tt) (unless_full (takes (at_moment m c.window) (told_by manner x)) n))
      → ((x : Record) (S R : List Seen) (now : ℕ) (log : List Fact) → lent s.standing ≡ Some x → IsSifted (sifting c log a) S R now → now ≤ m → AreBefore m R
      → IsSifted (sifting d (log ++ sent_facts (told_by manner x) m c.window) b) (S ++ seen_at manner m x ∷ []) R m) → d.window.within ≡ c.window.within
      → ((x : Record) → lent s.standing ≡ Some x → FoldsTo sees old (sent_facts (told_by manner x) m c.window) new)
      → ((begun : Stream) (rs : List Record) → HasLent begun s rs sending.fetched → m ≡ latest (on_clock manner sending.delay rs) → Fetches manner sending.side sending.delay begun t rs after result)
      → StepIsShown sees start new manner clock s0 r0 t r after receiving d b result
  shown-sent start old new manner clock s0 r0 s t r sending after receiving c d a b m n result h turn answer compared same seen fetched =
      let known = (sends-next manner clock s0 r0 s r sending receiving (sifting c h.facts a) h.so m turn).0 in
      let x = known.waits.next in
      let facts = sent_facts (told_by manner x) m c.window in
      shows-more sees start old new facts h (seen x known.waits.lends)
      (step-sent-by manner clock s0 r0 s t r sending after receiving (sifting c h.facts a) (sifting d (h.facts ++ facts) b) m n result h.so turn answer
      (λ y S R now e i le early. subst (λ (z : Record). IsSifted (sifting d (h.facts ++ sent_facts (told_by manner z) m c.window) b) (S ++ seen_at manner m y ∷ []) R m)
      (same-record y x (sym e ∙ known.waits.lends)) (compared y S R now h.facts e i le early))
      same fetched)

  -- over one that was received
  pub shown-received : (start old new : W) (manner : Manner) (clock : Clock) (s0 r0 s r t : Stream) (sending receiving after : Coming) (c d : Counted) (a b : Aside) (m : ℕ) (result : Result (Unit {0}) CompareFault)
      → IsShown sees start old manner clock s0 r0 s r sending receiving c a → turn_of sending.next receiving.next ≡ turns.Received m
      → ((x : Record) (S R : List Seen) (now : ℕ) (log : List Fact) → lent r.standing ≡ Some x → IsSifted (sifting c log a) S R now → now ≤ m
      → IsSifted (sifting d (log ++ received_facts (told_by manner x) m c) b) S (R ++ seen_at manner m x ∷ []) m) → d.window.within ≡ c.window.within
      → ((x : Record) → lent r.standing ≡ Some x → FoldsTo sees old (received_facts (told_by manner x) m c) new)
      → ((begun : Stream) (rs : List Record) → HasLent begun r rs receiving.fetched → m ≡ latest (on_clock manner receiving.delay rs) → Fetches manner receiving.side receiving.delay begun t rs after result)
      → StepIsShown sees start new manner clock s0 r0 s t sending after d b result
  shown-received start old new manner clock s0 r0 s r t sending receiving after c d a b m result h turn compared same seen fetched =
      let known = (receives-next manner clock s0 r0 s r sending receiving (sifting c h.facts a) h.so m turn).0 in
      let x = known.waits.next in
      let facts = received_facts (told_by manner x) m c in
      shows-more sees start old new facts h (seen x known.waits.lends)
      (step-received-by manner clock s0 r0 s r t sending receiving after (sifting c h.facts a) (sifting d (h.facts ++ facts) b) m result h.so turn
      (λ y S R now e i le. subst (λ (z : Record). IsSifted (sifting d (h.facts ++ received_facts (told_by manner z) m c) b) S (R ++ seen_at manner m y ∷ []) m)
      (same-record y x (sym e ∙ known.waits.lends)) (compared y S R now h.facts e i le))
      same fetched)
