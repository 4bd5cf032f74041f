-- What is out while a run waits.
use Rattle.std.proofs.Common.{◌≡◌, ◌≢◌, ◌∙◌, refl, sym, ap, subst, ℕ, ◌<◌, ◌+◌, Bool, true, false, not, List, [], length, slice_index_or, arith, Result, Ok, Err, IsErr, MatchBool, ◌==◌, OnOk}
use Rattle.std.specs.Prelude.{⊤}
use Rattle.std.proofs.lemmas.Bool.{eqb-true, eqb-false}
use Rattle.std.proofs.lemmas.List.{length-replicate}
use Rattle.pcap.specs.Sink.{Drain, HandsOn, IsHandedOn}
use Rattle.pcap.specs.Source.{MatchRead, Stream}
use Rattle.pcap.specs.declared.stream.fault.SourceFault.{SourceFault}
use Rattle.pcap.specs.declared.stream.fault.SourceFault.TheVariants as source
use Rattle.timeline.specs.declared.source.Tap.{Tap}
use Rattle.capture_run.specs.Writing.{empty_outputs}
use Rattle.capture_run.specs.Outputs.{Outputs}
use Rattle.stream_run.specs.Stage.{Drains, Lead, StandAt, no_texts}
use Rattle.stream_run.specs.Fault.{stopped}
use Rattle.stream_run.specs.Waiting.{AllOut, IsOutAtHalt, IsOutAtRead, IsOutBefore, IsOutOrAll, LeaveTheSame, TakesRead}
use Rattle.stream_run.specs.declared.fault.Halt.{Halt}
use Rattle.stream_run.specs.declared.fault.Halt.TheVariants as halt
use Rattle.stream_run.specs.declared.fault.StreamFault.{StreamFault}
use Rattle.stream_run.specs.declared.fault.StreamFault.TheVariants as stream
use Rattle.stream_run.specs.declared.fault.Target.{Target}
use Rattle.stream_run.proofs.Beginning.{front_of_all, nothing_at}
use Rattle.stream_run.proofs.Standing.{lead_behind}

-- one capture more holds nothing back
pub one_more_out : (old new : List Drain) (i : ℕ) → length new ≡ length old → ((x : Drain) → (slice_index_or new i x).held ≡ [])
    → ((x : Drain) (k : ℕ) → k ≢ i → slice_index_or new k x ≡ slice_index_or old k x) → ((x : Drain) (k : ℕ) → k < i → k < length old → (slice_index_or old k x).held ≡ [])
    → (x : Drain) (k : ℕ) → k < i + 1 → k < length new → (slice_index_or new k x).held ≡ []
one_more_out old new i many one others so_far x k low there = by (k == i) refl
  where
    by : (b : Bool) → (k == i) ≡ b → (slice_index_or new k x).held ≡ []
    by true is = subst (λ (n : ℕ). (slice_index_or new n x).held ≡ []) (sym (eqb-true k i is)) (one x)
    by false is =
        let other : k ≢ i = eqb-false k i is in
        ap (λ (d : Drain). d.held) (others x k other) ∙ so_far x k (omega (arith, other, low)) (omega (arith, many, there))

module _ {T : Type 0} where
  -- headers that were handed on
  pub headers_handed : (start new : Drains) (n : ℕ) (result : Result T Target) → Lead start new (empty_outputs n) (empty_outputs n) result → Lead start new (no_texts n) (empty_outputs n) result
  headers_handed start new n result =
      lead_behind start new (no_texts n) (empty_outputs n) (empty_outputs n) result
      (front_of_all n 0 _ (record { size = length-replicate n []; done = λ k less inside. absurd (omega arith); left = λ k le. nothing_at n k })) (record { ports = refl; underlay = refl })

-- ---- an output

pub handed_out : {T : Type 0} (E : Type 0) (old new : Drain) (x : T) → IsHandedOn {T = T} {E = E} old new (Ok x) → new.held ≡ []
handed_out {T} E old new x handed = by old.is_failed handed
  where
    by : (b : Bool) → MatchBool b (IsErr {T = T} {E = E} (Ok x) × (new ≡ old)) (HandsOn {T = T} {E = E} old new (Ok x)) → new.held ≡ []
    by true h = let never = h.0 in absurd cc
    by false h = h.3

-- ---- a sieve

pub leaves_some : (all takes : Bool) → (all ≡ true → takes ≡ true) → takes ≡ false → all ≡ false
leaves_some true takes h is = let taken = h refl in absurd cc
leaves_some false takes h is = refl

module _ {T E : Type 0} where
  pub out_or_all : (result : Result T E) (all takes_all may_wait : Bool) (d : Drains) → (takes_all ≡ true → all ≡ true) → OnOk result (IsOutOrAll takes_all may_wait d) → OnOk result (IsOutOrAll all may_wait d)
  out_or_all (Ok x) all takes_all may_wait d known out = λ some_left waits. out (leaves_some takes_all all known some_left) waits
  out_or_all (Err e) all takes_all may_wait d known out = tt

-- ---- behind an event

-- where all goes on, whether events may be left out or the next record takes a read
pub never_needed : (takes_all result holds : Bool) → (takes_all ≡ false → result ≡ true) → (takes_all ≡ true → result ≡ not holds) → holds ≡ false → result ≡ false → ⊥
never_needed true result holds some all lacks is =
    let never : true ≡ false = sym (ap not lacks) ∙ sym (all refl) ∙ is in
    absurd cc
never_needed false result holds some all lacks is =
    let never : true ≡ false = sym (some refl) ∙ is in
    absurd cc

-- ---- a read that failed

-- what it was made for
pub where_read : {T : Type 0} (P Q : Type 0) (result : Result T SourceFault) → (P → Q) → MatchRead result P ⊤ → MatchRead result Q ⊤
where_read P Q (Ok x) f p = tt
where_read P Q (Err source.Read) f p = f p
where_read P Q (Err source.NotPcap) f p = tt
where_read P Q (Err source.BadLink) f p = tt
where_read P Q (Err source.TooLarge) f p = tt
where_read P Q (Err source.BadFraction) f p = tt

-- behind an event
pub out_at_halt : (may_wait : Bool) (ports : List Stream) (underlay : Stream) (index : ℕ) (d : Drains) (fault : SourceFault) → IsOutBefore may_wait ports underlay index d
    → MatchRead {T = Unit {0}} (Err fault) (TakesRead ports underlay index) ⊤ → IsOutAtHalt {T = Unit {0}} may_wait d (Err (halt.Source fault))
out_at_halt may_wait ports underlay index d source.Read out lacks = λ waits. out waits lacks
out_at_halt may_wait ports underlay index d source.NotPcap out lacks = tt
out_at_halt may_wait ports underlay index d source.BadLink out lacks = tt
out_at_halt may_wait ports underlay index d source.TooLarge out lacks = tt
out_at_halt may_wait ports underlay index d source.BadFraction out lacks = tt

-- and so at the run's fault
pub out_at_stop : (may_wait : Bool) (d : Drains) (tap : Tap) (n : ℕ) (h : Halt) (told : StreamFault) → told ≡ stopped tap n h → IsOutAtHalt {T = Unit {0}} may_wait d (Err h) → IsOutAtRead {T = Unit {0}} may_wait d (Err told)
out_at_stop may_wait d tap n h told is out = subst (λ (f : StreamFault). IsOutAtRead {T = Unit {0}} may_wait d (Err f)) (sym is) (by h out)
  where
    by : (h : Halt) → IsOutAtHalt {T = Unit {0}} may_wait d (Err h) → IsOutAtRead {T = Unit {0}} may_wait d (Err (stopped tap n h))
    by (halt.Write target) out = tt
    by (halt.Source source.Read) out = out
    by (halt.Source source.NotPcap) out = tt
    by (halt.Source source.BadLink) out = tt
    by (halt.Source source.TooLarge) out = tt
    by (halt.Source source.BadFraction) out = tt

-- where all was out before
pub out_at_read : (may_wait : Bool) (d : Drains) (fault : StreamFault) → (may_wait ≡ true → AllOut d) → IsOutAtRead {T = Unit {0}} may_wait d (Err fault)
out_at_read may_wait d (stream.Run fault) out = tt
out_at_read may_wait d (stream.Read place) out = out
out_at_read may_wait d (stream.Write target) out = tt

-- ---- both forms

-- what a run tells is one
one_told : {T E : Type 0} (r : Result T E) (a b : T) → r ≡ Ok a → r ≡ Ok b → a ≡ b
one_told {T} {E} r a b one other = ap told (sym one ∙ other)
  where
    told : Result T E → T
    told (Ok x) = x
    told (Err e) = a

pub leave_the_same : LeaveTheSame
leave_the_same s c texts text old new other_old other_new one other =
    (one.0, one.2, subst (λ (found : Outputs). StandAt other_old other_new found) (one_told _ other.0 one.0 other.1 one.1) other.2)
