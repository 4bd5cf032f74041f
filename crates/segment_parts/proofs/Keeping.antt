-- What a part of a run keeps: the settings in force, and the tables of its own segments.
use Rattle.std.proofs.Common.{◌≡◌, ℕ, ◌==◌, Bool, true, false, cond, Option, Some, None, Result, Ok, Err, refl, sym, ap, ◌∙◌, subst}
use Rattle.std.specs.Prelude.{is_none}
use Rattle.std.specs.Option.{option_and_then}
use Rattle.std.proofs.Math.Nat.{le_refl}
use Rattle.std.proofs.lemmas.Bool.{eqb-true, false≢true}
use Rattle.wire.specs.declared.ether.reason.Refused.{Refused}
use Rattle.filter_db.specs.Table.{Table}
use Rattle.overlay.specs.declared.settings.change.Change.{Change}
use Rattle.overlay.specs.Change.{named}
use Rattle.endpoint_core.specs.declared.state.fault.ChangeFault.{ChangeFault}
use Rattle.endpoint_core.specs.Settings.{Settings, segment_at}
use Rattle.endpoint_core.specs.Change.{refused, table_fault}
use Rattle.endpoint_core.specs.State.{State as Bridges, live_in, aged, fault, table_changed, accepted_state, after_change}
use Rattle.endpoint_core.specs.StateStep.{table_learned, verdict_in}
use Rattle.endpoint_core.specs.Arrival.{Arrival}
use Rattle.endpoint_core.specs.Arrival.{came_at, came_by}
use Rattle.endpoint_core.specs.Event.{Input, FrameAt, Packet, Asks}
use Rattle.endpoint_core.specs.Step.{Decided, Replied, by_verdict, decided, after_came, answer_by, bridges_after}
use Rattle.endpoint_core.proofs.Runs.{live_in-live_in}
use Rattle.endpoint_core.specs.Among.{segment_of, segment_in}

-- bridges by their parts
abbrev pub bridges : Settings → (ℕ → Table) → Bridges
bridges S m = record { settings = S; tables = m }

-- why the tables refuse a change that names a segment
abbrev table_faults : Settings → Change → (ℕ → Table) → Option ℕ → Option ChangeFault
table_faults S c tables o = option_and_then (λ vid. option_and_then (λ s. table_fault s c (tables vid)) (segment_at S vid)) o

-- the same settings, and the same tables of the segments that pass
pub record Alike (p : Option ℕ → Bool) (B C : Bridges) : Type 0 where
  pub settings : B.settings ≡ C.settings
  pub tables : (vid : ℕ) → p (Some vid) ≡ true → B.tables vid ≡ C.tables vid

module _ (p : Option ℕ → Bool) where
  abbrev Held : (ℕ → Table) → (ℕ → Table) → Type 0
  Held m n = (vid : ℕ) → p (Some vid) ≡ true → m vid ≡ n vid

  pub aged-alike : (t : ℕ) (B C : Bridges) → Alike p B C → Alike p (aged t B) (aged t C)
  aged-alike t B C h = record { settings = h.settings; tables = λ vid held. λ i. live_in ((h.settings i).bridges vid) t (h.tables vid held i) }

  -- ageing twice
  pub aged_twice : (t : ℕ) (B C : Bridges) → Alike p B (aged t C) → Alike p (aged t B) (aged t C)
  aged_twice t B C h = record {
    settings = h.settings;
    tables = λ vid held. (λ i. live_in ((h.settings i).bridges vid) t (h.tables vid held i)) ∙ live_in-live_in (C.settings.bridges vid) t t (C.tables vid) (le_refl t);
  }

  -- ---- what is answered

  decided-held : (t : ℕ) (S : Settings) (m n : ℕ → Table) → Held m n → (r : Result Arrival Refused) → p (segment_of r) ≡ true → decided t (bridges S m) r ≡ decided t (bridges S n) r
  decided-held t S m n h (Ok x) own =
      ap (λ (M : Table). by_verdict S x (verdict_in S.ports (segment_at S x.vid) x.from x.frame (cond (x.vid == x.vid) (table_learned t x.from x.frame (segment_at S x.vid) M) M))) (h x.vid own)
  decided-held t S m n h (Err refused) own = refl

  fault-held : (S : Settings) (m n : ℕ → Table) → Held m n → (c : Change) → p (named c) ≡ true → fault (bridges S m) c ≡ fault (bridges S n) c
  fault-held S m n h c own = ap (λ (o : Option ChangeFault). elim (refused S c) [ Some why ↦ Some why | None ↦ o ]) (by (named c) own)
    where
      by : (o : Option ℕ) → p o ≡ true → table_faults S c m o ≡ table_faults S c n o
      by None held = refl
      by (Some vid) held = ap (λ (M : Table). option_and_then (λ s. table_fault s c M) (segment_at S vid)) (h vid held)

  answer-held : (t : ℕ) (S : Settings) (m n : ℕ → Table) → Held m n → (i : Input) → p (segment_in S i) ≡ true → answer_by t (bridges S m) i ≡ answer_by t (bridges S n) i
  answer-held t S m n h (FrameAt port original b) own = ap Decided (decided-held t S m n h (came_at S.ports S.overlay port original b) own)
  answer-held t S m n h (Packet original b) own = ap Decided (decided-held t S m n h (came_by S.overlay original b) own)
  answer-held t S m n h (Asks c) own = ap Replied (fault-held S m n h c own)

  -- an event that is told is answered alike
  pub answer-alike : (t : ℕ) (B C : Bridges) → Alike p B C → (i : Input) → p (segment_in B.settings i) ≡ true → answer_by t B i ≡ answer_by t C i
  answer-alike t B C h i own =
      subst (λ (S : Settings). answer_by t (bridges B.settings B.tables) i ≡ answer_by t (bridges S C.tables) i) h.settings
      (answer-held t B.settings B.tables C.tables h.tables i own)

  -- ---- the bridges after an event

  came-held : (t : ℕ) (S : Settings) (m n : ℕ → Table) → Held m n → (r : Result Arrival Refused) → Alike p (after_came t (bridges S m) r) (after_came t (bridges S n) r)
  came-held t S m n h (Ok x) = record {
    settings = refl;
    tables = λ vid held. ap (λ (M : Table). cond (vid == x.vid) (table_learned t x.from x.frame (segment_at S vid) M) M) (h vid held);
  }
  came-held t S m n h (Err refused) = record { settings = refl; tables = h }

  change-held : (t : ℕ) (S : Settings) (m n : ℕ → Table) → Held m n → (c : Change) → Alike p (after_change t c (bridges S m)) (after_change t c (bridges S n))
  change-held t S m n h c = by (is_none (refused S c))
    where
      by : (b : Bool) → Alike p (cond b (accepted_state t c (bridges S m)) (bridges S m)) (cond b (accepted_state t c (bridges S n)) (bridges S n))
      by true = record { settings = refl; tables = λ vid held. ap (table_changed t c (segment_at S vid) vid) (h vid held) }
      by false = record { settings = refl; tables = h }

  after-held : (t : ℕ) (S : Settings) (m n : ℕ → Table) → Held m n → (i : Input) → Alike p (bridges_after t (bridges S m) i) (bridges_after t (bridges S n) i)
  after-held t S m n h (FrameAt port original b) = came-held t S m n h (came_at S.ports S.overlay port original b)
  after-held t S m n h (Packet original b) = came-held t S m n h (came_by S.overlay original b)
  after-held t S m n h (Asks c) = change-held t S m n h c

  -- both take it
  pub after-alike : (t : ℕ) (B C : Bridges) → Alike p B C → (i : Input) → Alike p (bridges_after t B i) (bridges_after t C i)
  after-alike t B C h i =
      subst (λ (S : Settings). Alike p (bridges_after t (bridges B.settings B.tables) i) (bridges_after t (bridges S C.tables) i)) h.settings
      (after-held t B.settings B.tables C.tables h.tables i)

  -- one takes a frame or a packet that isn't told to the other
  pub came-passed : (t : ℕ) (B C : Bridges) → Alike p B C → (r : Result Arrival Refused) → p (segment_of r) ≡ false → Alike p (after_came t B r) C
  came-passed t B C h (Ok x) other = record {
    settings = h.settings;
    tables = λ vid held. by vid held (vid == x.vid) refl ∙ h.tables vid held;
  }
    where
      by : (vid : ℕ) → p (Some vid) ≡ true → (b : Bool) → (vid == x.vid) ≡ b → cond b (table_learned t x.from x.frame (segment_at B.settings vid) (B.tables vid)) (B.tables vid) ≡ B.tables vid
      by vid held true same = absurd (false≢true (sym other ∙ sym (ap (λ (v : ℕ). p (Some v)) (eqb-true vid x.vid same)) ∙ held))
      by vid held false same = refl
  came-passed t B C h (Err refused) other = h
