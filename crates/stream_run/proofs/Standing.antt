-- How the texts that stand in outputs grow.
use Rattle.std.proofs.Common.{◌≡◌, ◌≢◌, ◌∙◌, refl, sym, ap, subst, ℕ, ◌+◌, ◌-◌, ◌<◌, ◌==◌, Bool, true, false, cond, List, [], ◌∷◌, ◌++◌, length, take, take_all, map, get_or, slice_set, slice_index_or, arith, append_assoc, append-nil, length-append, Option, Some, None, Result, Ok, Err, IsErr, MatchBool, inl, inr}
use Rattle.std.proofs.KnownBytes.{Appends-nil, Appends-trans}
use Rattle.std.proofs.Math.Seq.{take-append-add}
use Rattle.std.proofs.lemmas.Bool.{eqb-true, eqb-false}
use Rattle.std.proofs.lemmas.List.{get_or-set_same, get_or-set_other, get_or-map, get_or_default, map-set, set-get_or, take-append-le, length-set}
use Rattle.std.specs.Io.KnownBytes.{Appends}
use Rattle.std.specs.Option.{option_map_or}
use Rattle.filter_db.specs.declared.place.Place.{Place}
use Rattle.filter_db.specs.declared.place.Place.TheVariants.{Local, Remote}
use Rattle.pcap.specs.Written.{written_record}
use Rattle.pcap.specs.Counts.{GoesOnBy}
use Rattle.pcap.specs.Sink.{AppendsPart, Drain, IsPut, Writes}
use Rattle.endpoint_core.specs.Decision.{Sent}
use Rattle.endpoint_core.specs.Step.{Answer, Decided, Replied}
use Rattle.capture_run.specs.Outputs.{Outputs}
use Rattle.capture_run.specs.Sendings.{Sending, sending_of, record_of}
use Rattle.capture_run.specs.Writing.{with_all_sent, with_answer, with_line, with_record, with_sent}
use Rattle.stream_run.specs.declared.fault.Target.{Target}
use Rattle.stream_run.specs.Stage.{Drains, Failed, Lead, LinesComeLast, PortsBetween, StandAt, StandBetween, StandsBetween, health}

-- ---- one output

stood : (start old : Drain) (o : List ℕ) → StandsBetween start old o o → Appends start.written old.written o
stood start old o at = subst (Appends start.written old.written) (take_all at.size o at.no_less) at.text

pub stands_more : (start old new : Drain) (o text : List ℕ) → StandsBetween start old o o → Appends old.written new.written text → StandsBetween start new (o ++ text) (o ++ text)
stands_more start old new o text at more = record {
  size = length (o ++ text);
  no_less = omega arith;
  no_more = omega arith;
  text = subst (Appends start.written new.written) (sym (take_all (length (o ++ text)) (o ++ text) (omega arith))) (Appends-trans start.written old.written new.written o text (stood start old o at) more);
}

pub stands_part : (start old new : Drain) (o text : List ℕ) → StandsBetween start old o o → AppendsPart old.written new.written text → StandsBetween start new o (o ++ text)
stands_part start old new o text at part = record {
  size = length o + part.0;
  no_less = omega arith;
  no_more = omega (arith, part.1, length-append o text);
  text = subst (Appends start.written new.written) (sym (take-append-add o text part.0)) (Appends-trans start.written old.written new.written o (take part.0 text) (stood start old o at) part.2);
}

stands_still : (start old : Drain) (o text : List ℕ) → StandsBetween start old o o → StandsBetween start old o (o ++ text)
stands_still start old o text at = record {
  size = length o;
  no_less = omega arith;
  no_more = omega (arith, length-append o text);
  text = subst (Appends start.written old.written) (sym (take-append-le (length o) o text (omega arith) ∙ take_all (length o) o (omega arith))) (stood start old o at);
}

pub fails_on : (start old new : Drain) → health old ≡ health start → GoesOnBy 1 old.failures new.failures → Failed start new
fails_on start old new same more sound = subst (λ n. GoesOnBy 1 n new.failures) (ap (λ h. h.0) same) more

module _ {T E : Type 0} where
  abbrev pub SinkLeads : Drain → Drain → List ℕ → List ℕ → Result T E → Type 0
  SinkLeads start new o next (Ok x) = StandsBetween start new next next × (health new ≡ health start)
  SinkLeads start new o next (Err e) = StandsBetween start new o next × Failed start new

  pub sink_put : (start old new : Drain) (o text : List ℕ) (result : Result T E) → StandsBetween start old o o → health old ≡ health start → IsPut old new text result
      → SinkLeads start new o (o ++ text) result
  sink_put start old new o text result at same put = by old.is_failed refl put
    where
      failed : (result : Result T E) → old.is_failed ≡ true → IsErr result → new ≡ old → SinkLeads start new o (o ++ text) result
      failed (Ok x) gone never still = absurd cc
      failed (Err e) gone is still =
          (subst (λ (d : Drain). StandsBetween start d o (o ++ text)) (sym still) (stands_still start old o text at), λ sound. absurd (by_health gone sound))
        where
          by_health : old.is_failed ≡ true → start.is_failed ≡ false → ⊥
          by_health gone sound = let also : old.is_failed ≡ start.is_failed = ap (λ h. h.1) same in absurd cc

      wrote : (result : Result T E) → old.is_failed ≡ false → Writes old new text result → SinkLeads start new o (o ++ text) result
      wrote (Ok x) sound h = (stands_more start old new o text at h.2, healthy h.0 h.1)
        where
          healthy : new.is_failed ≡ false → new.failures ≡ old.failures → health new ≡ health start
          healthy a b = rw (a, b) (ap (λ f. (old.failures, f)) (sym sound) ∙ same)
      wrote (Err e) sound h = (stands_part start old new o text at h.2, fails_on start old new same h.1)

      by : (b : Bool) → old.is_failed ≡ b → MatchBool b (IsErr result × (new ≡ old)) (Writes old new text result) → SinkLeads start new o (o ++ text) result
      by true is h = failed result is h.0 h.1
      by false is h = wrote result is h

-- ---- one of many

pub ports_set : (start old : List Drain) (texts : List (List ℕ)) (i : ℕ) (x : Drain) (least most : List ℕ) → i < length old → PortsBetween start old texts texts
    → ((d : Drain) → StandsBetween (slice_index_or start i d) x least most) → PortsBetween start (slice_set old i x) (slice_set texts i least) (slice_set texts i most)
ports_set start old texts i x least most there at one = record {
  many = length-set old i x ∙ at.many;
  many_least = length-set texts i least ∙ at.many_least;
  many_most = length-set texts i most ∙ at.many_most;
  each = λ d k lt. by d k lt (k == i) refl;
}
  where
    Each : Drain → ℕ → Type 0
    Each d k = StandsBetween (slice_index_or start k d) (slice_index_or (slice_set old i x) k d) (slice_index_or (slice_set texts i least) k []) (slice_index_or (slice_set texts i most) k [])

    by : (d : Drain) (k : ℕ) → k < length start → (b : Bool) → (k == i) ≡ b → Each d k
    by d k lt true is =
        let same : i ≡ k = sym (eqb-true k i is) in
        let inside : i < length texts = omega (arith, there, at.many, at.many_least) in
        subst (Each d) same (rw (get_or-set_same old i x d there, get_or-set_same texts i least [] inside, get_or-set_same texts i most [] inside) (one d))
    by d k lt false is =
        let apart : k ≢ i = eqb-false k i is in
        rw (get_or-set_other old i k x d apart, get_or-set_other texts i k least [] apart, get_or-set_other texts i k most [] apart) (at.each d k lt)

-- of many the same health at one place
health_at : (start old : List Drain) (i : ℕ) (d : Drain) → i < length old → map health old ≡ map health start → length old ≡ length start → health (get_or old i d) ≡ health (get_or start i d)
health_at start old i d there same many =
    sym (get_or-map health old i d (health d) there) ∙ ap (λ l. slice_index_or l i (health d)) same ∙ get_or-map health start i d (health d) (omega (arith, there, many))

pub health_set : (old : List Drain) (i : ℕ) (d x : Drain) → i < length old → health x ≡ health (get_or old i d) → map health (slice_set old i x) ≡ map health old
health_set old i d x there same =
    map-set health old i x ∙ ap (slice_set (map health old) i) (same ∙ sym (get_or-map health old i d (health d) there)) ∙ set-get_or (map health old) i (health d)

-- of many that hold texts the text and the health of one, whatever stands for it where there is none
pub one_stands : (start sinks : List Drain) (i : ℕ) (d x : Drain) (texts : List (List ℕ)) → i < length sinks → PortsBetween start sinks texts texts
    → StandsBetween (slice_index_or start i x) (get_or sinks i d) (slice_index_or texts i []) (slice_index_or texts i [])
one_stands start sinks i d x texts there at =
    subst (λ s. StandsBetween (slice_index_or start i x) s (slice_index_or texts i []) (slice_index_or texts i [])) (get_or_default sinks i x d there)
    (at.each x i (omega (arith, there, at.many)))

pub one_healthy : (start sinks : List Drain) (i : ℕ) (d x : Drain) (texts : List (List ℕ)) → i < length sinks → PortsBetween start sinks texts texts
    → map health sinks ≡ map health start → health (get_or sinks i d) ≡ health (slice_index_or start i x)
one_healthy start sinks i d x texts there at well = sym (ap health (get_or_default sinks i x d there)) ∙ health_at start sinks i x there well at.many

module _ {T E : Type 0} where
  abbrev pub PortsLead : List Drain → List Drain → List (List ℕ) → List (List ℕ) → ℕ → Result T E → Type 0
  PortsLead start new texts next i (Ok x) = PortsBetween start new next next × (map health new ≡ map health start)
  PortsLead start new texts next i (Err e) = PortsBetween start new texts next × ((d : Drain) → Failed (slice_index_or start i d) (slice_index_or new i d))

  pub ports_put : (start sinks : List Drain) (i : ℕ) (d new : Drain) (texts : List (List ℕ)) (text : List ℕ) (result : Result T E) → i < length sinks
      → IsPut (slice_index_or sinks i d) new text result → PortsBetween start sinks texts texts → map health sinks ≡ map health start
      → PortsLead start (slice_set sinks i new) texts (slice_set texts i (slice_index_or texts i [] ++ text)) i result
  ports_put start sinks i d new texts text result there put at well =
      by result (λ x. sink_put (slice_index_or start i x) (get_or sinks i d) new o text result
      (one_stands start sinks i d x texts there at) (one_healthy start sinks i d x texts there at well) put)
    where
      o : List ℕ
      o = slice_index_or texts i []

      by : (result : Result T E) → ((x : Drain) → SinkLeads (slice_index_or start i x) new o (o ++ text) result)
          → PortsLead start (slice_set sinks i new) texts (slice_set texts i (o ++ text)) i result
      by (Ok x) h = (ports_set start sinks texts i new (o ++ text) (o ++ text) there at (λ x. (h x).0), health_set sinks i d new there ((h d).1 ∙ sym (one_healthy start sinks i d d texts there at well)) ∙ well)
      by (Err e) h = (
        subst (λ l. PortsBetween start (slice_set sinks i new) l (slice_set texts i (o ++ text))) (set-get_or texts i []) (ports_set start sinks texts i new o (o ++ text) there at (λ x. (h x).0)),
        λ x. rw (get_or-set_same sinks i new x there) ((h x).1),
      )

-- ---- fronts

-- one text is the front of another
abbrev pub IsFront : List ℕ → List ℕ → Type 0
IsFront a b = (more : List ℕ) × (b ≡ a ++ more)

front_self : (a : List ℕ) → IsFront a a
front_self a = ([], sym (append-nil a))

front_trans : (a b c : List ℕ) → IsFront a b → IsFront b c → IsFront a c
front_trans a b c p q = (p.0 ++ q.0, q.1 ∙ ap (λ l. l ++ q.0) p.1 ∙ append_assoc a p.0 q.0)

pub record AreFronts (a b : Outputs) : Type 0 where
  pub many : length b.ports ≡ length a.ports
  pub ports : (k : ℕ) → k < length a.ports → IsFront (slice_index_or a.ports k []) (slice_index_or b.ports k [])
  pub underlay : IsFront a.underlay b.underlay
  pub decisions : IsFront a.decisions b.decisions

pub fronts_self : (a : Outputs) → AreFronts a a
fronts_self a = record { many = refl; ports = λ k lt. front_self (slice_index_or a.ports k []); underlay = front_self a.underlay; decisions = front_self a.decisions }

pub fronts_trans : (a b c : Outputs) → AreFronts a b → AreFronts b c → AreFronts a c
fronts_trans a b c p q = record {
  many = q.many ∙ p.many;
  ports = λ k lt. front_trans _ _ _ (p.ports k lt) (q.ports k (omega (arith, lt, p.many)));
  underlay = front_trans _ _ _ p.underlay q.underlay;
  decisions = front_trans _ _ _ p.decisions q.decisions;
}

-- the captures are the same, whatever the lines are
pub record AreSameCaptures (a b : Outputs) : Type 0 where
  pub ports : a.ports ≡ b.ports
  pub underlay : a.underlay ≡ b.underlay

stands_wider : (start new : Drain) (a b c d : List ℕ) → StandsBetween start new b c → IsFront a b → IsFront c d → StandsBetween start new a d
stands_wider start new a b c d at p q = record {
  size = at.size;
  no_less = omega (arith, at.no_less, ap length p.1, length-append a p.0);
  no_more = omega (arith, at.no_more, ap length q.1, length-append c q.0);
  text = subst (Appends start.written new.written) (sym (ap (take at.size) q.1 ∙ take-append-le at.size c q.0 at.no_more)) at.text;
}

-- records alone were put: no line has more
pub no_line : (start new : Drains) (a b c d : Outputs) → StandBetween start new b c → b.decisions ≡ a.decisions → c.decisions ≡ a.decisions → LinesComeLast start new a d
no_line start new a b c d at first last =
    inl (subst (StandsBetween start.decisions new.decisions a.decisions) last (subst (λ l. StandsBetween start.decisions new.decisions l c.decisions) first at.decisions))

-- lines alone were put: the captures hold all
pub lines_alone : (start new : Drains) (a b c d : Outputs) → StandBetween start new b c → AreSameCaptures b d → AreSameCaptures c d → LinesComeLast start new a d
lines_alone start new a b c d at first last = inr (record {
  ports = subst (PortsBetween start.ports new.ports d.ports) last.ports (subst (λ l. PortsBetween start.ports new.ports l c.ports) first.ports at.ports);
  underlay = subst (StandsBetween start.underlay new.underlay d.underlay) last.underlay (subst (λ l. StandsBetween start.underlay new.underlay l c.underlay) first.underlay at.underlay);
})

pub wider : (start new : Drains) (a b c d : Outputs) → StandBetween start new b c → AreFronts a b → AreFronts c d → LinesComeLast start new a d → StandBetween start new a d
wider start new a b c d at p q order = record {
  ports = record {
    many = at.ports.many;
    many_least = sym p.many ∙ at.ports.many_least;
    many_most = q.many ∙ at.ports.many_most;
    each = λ x k lt. stands_wider _ _ _ _ _ _ (at.ports.each x k lt) (p.ports k (omega (arith, lt, p.many, at.ports.many_least))) (q.ports k (omega (arith, lt, at.ports.many_most)));
  };
  underlay = stands_wider _ _ _ _ _ _ at.underlay p.underlay q.underlay;
  decisions = stands_wider _ _ _ _ _ _ at.decisions p.decisions q.decisions;
  order = order;
}

front_set : (texts : List (List ℕ)) (i : ℕ) (text : List ℕ) (k : ℕ) → k < length texts
    → IsFront (slice_index_or texts k []) (slice_index_or (slice_set texts i (slice_index_or texts i [] ++ text)) k [])
front_set texts i text k lt = by (k == i) refl
  where
    by : (b : Bool) → (k == i) ≡ b → IsFront (slice_index_or texts k []) (slice_index_or (slice_set texts i (slice_index_or texts i [] ++ text)) k [])
    by true is =
        let same : i ≡ k = sym (eqb-true k i is) in
        let inside : i < length texts = omega (arith, lt, same) in
        subst (λ k. IsFront (slice_index_or texts k []) (slice_index_or (slice_set texts i (slice_index_or texts i [] ++ text)) k [])) same
        (text, get_or-set_same texts i (slice_index_or texts i [] ++ text) [] inside)
    by false is =
        let apart : k ≢ i = eqb-false k i is in
        ([], get_or-set_other texts i k (slice_index_or texts i [] ++ text) [] apart ∙ sym (append-nil (slice_index_or texts k [])))

front_record : (o : Outputs) (place : Place) (text : List ℕ) → AreFronts o (with_record o place text)
front_record o (Remote kind addr) text = record { many = refl; ports = λ k lt. front_self (slice_index_or o.ports k []); underlay = (text, refl); decisions = front_self o.decisions }
front_record o (Local port) text = by (port == 0)
  where
    by : (b : Bool) → AreFronts o (record o { ports = cond b o.ports (slice_set o.ports (port - 1) (slice_index_or o.ports (port - 1) [] ++ text)) })
    by true = fronts_self o
    by false = record {
      many = length-set o.ports (port - 1) (slice_index_or o.ports (port - 1) [] ++ text);
      ports = λ k lt. front_set o.ports (port - 1) text k lt;
      underlay = front_self o.underlay;
      decisions = front_self o.decisions;
    }

front_sending : (o : Outputs) (s : Option Sending) → AreFronts o (option_map_or (λ (s : Sending). with_record o s.place (written_record (record_of s))) s o)
front_sending o None = fronts_self o
front_sending o (Some s) = front_record o s.place (written_record (record_of s))

pub front_sent : (moment : ℕ) (o : Outputs) (x : Sent) → AreFronts o (with_sent moment o x)
front_sent moment o x = front_sending o (sending_of moment x)

pub front_all : (moment : ℕ) (o : Outputs) (xs : List Sent) → AreFronts o (with_all_sent moment o xs)
front_all moment o [] = fronts_self o
front_all moment o (x ∷ xs) = fronts_trans o (with_sent moment o x) _ (front_sent moment o x) (front_all moment (with_sent moment o x) xs)

pub front_answer : (moment : ℕ) (o : Outputs) (a : Answer) → AreFronts o (with_answer moment o a)
front_answer moment o (Decided decision) = front_all moment o decision.outcomes
front_answer moment o (Replied fault) = fronts_self o

pub front_line : (o : Outputs) (text : List ℕ) → AreFronts o (with_line o text)
front_line o text = record { many = refl; ports = λ k lt. front_self (slice_index_or o.ports k []); underlay = front_self o.underlay; decisions = (text, refl) }

-- a record leaves the lines as they are
lines_stay_sending : (o : Outputs) (s : Option Sending) → (option_map_or (λ (s : Sending). with_record o s.place (written_record (record_of s))) s o).decisions ≡ o.decisions
lines_stay_sending o None = refl
lines_stay_sending o (Some s) = at s.place
  where
    at : (p : Place) → (with_record o p (written_record (record_of s))).decisions ≡ o.decisions
    at (Local port) = refl
    at (Remote kind addr) = refl

lines_stay_sent : (moment : ℕ) (o : Outputs) (x : Sent) → (with_sent moment o x).decisions ≡ o.decisions
lines_stay_sent moment o x = lines_stay_sending o (sending_of moment x)

pub lines_stay : (moment : ℕ) (o : Outputs) (xs : List Sent) → (with_all_sent moment o xs).decisions ≡ o.decisions
lines_stay moment o [] = refl
lines_stay moment o (x ∷ xs) = lines_stay moment (with_sent moment o x) xs ∙ lines_stay_sent moment o x

-- ---- the outlets of an event

-- one outcome more
pub sent_snoc : (moment : ℕ) (o : Outputs) (xs : List Sent) (x : Sent) → with_all_sent moment o (xs ++ x ∷ []) ≡ with_sent moment (with_all_sent moment o xs) x
sent_snoc moment o [] x = refl
sent_snoc moment o (y ∷ xs) x = sent_snoc moment (with_sent moment o y) xs x

-- some of them are put: with those that are left put too, it is all
pub record PutSoFar (moment : ℕ) (start now : Drains) (o : Outputs) (left all : List Sent) : Type 0 where
  pub mid : Outputs
  pub at : StandAt start now mid
  pub behind : AreFronts o mid
  pub same : with_all_sent moment mid left ≡ with_all_sent moment o all
  -- those that are put
  pub front : List Sent
  pub put : mid ≡ with_all_sent moment o front
  pub is : all ≡ front ++ left

pub put_none : (moment : ℕ) (start now : Drains) (o : Outputs) (all : List Sent) → StandAt start now o → PutSoFar moment start now o all all
put_none moment start now o all at = record { mid = o; at = at; behind = fronts_self o; same = refl; front = []; put = refl; is = refl }

-- those that are put, and one more
pub put_next : (moment : ℕ) (start now : Drains) (o : Outputs) (x : Sent) (rest all : List Sent) (so_far : PutSoFar moment start now o (x ∷ rest) all)
    → with_sent moment so_far.mid x ≡ with_all_sent moment o (so_far.front ++ x ∷ [])
put_next moment start now o x rest all so_far = ap (λ (o : Outputs). with_sent moment o x) so_far.put ∙ sym (sent_snoc moment o so_far.front x)

pub put_more : (moment : ℕ) (start now new : Drains) (o : Outputs) (x : Sent) (rest all : List Sent) (so_far : PutSoFar moment start now o (x ∷ rest) all) → StandAt start new (with_sent moment so_far.mid x)
    → PutSoFar moment start new o rest all
put_more moment start now new o x rest all so_far at = record {
  mid = with_sent moment so_far.mid x;
  at = at;
  behind = fronts_trans o so_far.mid _ so_far.behind (front_sent moment so_far.mid x);
  same = so_far.same;
  front = so_far.front ++ x ∷ [];
  put = put_next moment start now o x rest all so_far;
  is = so_far.is ∙ sym (append_assoc so_far.front (x ∷ []) rest);
}

pub put_failed : (moment : ℕ) (start now new : Drains) (o : Outputs) (x : Sent) (rest all : List Sent) (so_far : PutSoFar moment start now o (x ∷ rest) all)
    → StandBetween start new so_far.mid (with_sent moment so_far.mid x) → StandBetween start new o (with_all_sent moment o all)
put_failed moment start now new o x rest all so_far between =
    let next = with_sent moment so_far.mid x in
    let before : so_far.mid.decisions ≡ o.decisions =
    sym (lines_stay moment so_far.mid (x ∷ rest)) ∙ ap (λ (o : Outputs). o.decisions) so_far.same ∙ lines_stay moment o all in
    let all_put = with_all_sent moment next rest in
    subst (StandBetween start new o) so_far.same
    (wider start new o so_far.mid next all_put between so_far.behind (front_all moment next rest) (no_line start new o so_far.mid next all_put between before (lines_stay_sent moment so_far.mid x ∙ before)))

pub put_end : (moment : ℕ) (start now : Drains) (o : Outputs) (all : List Sent) → PutSoFar moment start now o [] all → StandAt start now (with_all_sent moment o all)
put_end moment start now o all so_far = subst (StandAt start now) so_far.same so_far.at

module _ {T : Type 0} where
  -- a line behind other steps
  pub lead_behind : (start new : Drains) (o mid next : Outputs) (result : Result T Target) → AreFronts o mid → AreSameCaptures mid next → Lead start new mid next result → Lead start new o next result
  lead_behind start new o mid next (Ok x) front same h = h
  lead_behind start new o mid next (Err target) front same h =
      (wider start new o mid next next h.0 front (fronts_self next) (lines_alone start new o mid next next h.0 same (record { ports = refl; underlay = refl })), h.1)

-- nothing more than before
pub stands_still_at : (start : Drains) (o : Outputs) → ((k : ℕ) → k < length o.ports → slice_index_or o.ports k [] ≡ []) → length o.ports ≡ length start.ports → o.underlay ≡ [] → o.decisions ≡ [] → StandAt start start o
stands_still_at start o ports many underlay decisions = record {
  between = record {
    ports = record { many = refl; many_least = many; many_most = many; each = λ d k lt. nothing (slice_index_or start.ports k d) (slice_index_or o.ports k []) (ports k (omega (arith, lt, many))) };
    underlay = nothing start.underlay o.underlay underlay;
    decisions = nothing start.decisions o.decisions decisions;
    order = inl (nothing start.decisions o.decisions decisions);
  };
  well = record { ports = refl; underlay = refl; decisions = refl };
}
  where
    nothing : (d : Drain) (text : List ℕ) → text ≡ [] → StandsBetween d d text text
    nothing d text is = rw is (record { size = 0; no_less = omega arith; no_more = omega arith; text = Appends-nil d.written })
