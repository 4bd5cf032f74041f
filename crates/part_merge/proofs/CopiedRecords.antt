-- The records of an event, one after another.
use Rattle.std.proofs.Common.{◌≡◌, ◌∙◌, refl, sym, ap, subst, ℕ, List, [], ◌∷◌, ◌++◌, length, append_assoc, append-nil}
use Rattle.pcap.specs.Sink.{Drain}
use Rattle.pcap.specs.Source.{Stream}
use Rattle.timeline.specs.declared.source.Tap.{Tap}
use Rattle.part_merge.specs.Left.{AreAdded, AreLeft, IsTap, IsWritten, of_tap, IsAdded}
use Rattle.part_merge.specs.Merged.{at_tap, records_at}
use Rattle.part_merge.specs.Moved.{AreRecords, taps}
use Rattle.part_merge.proofs.Moving.{added_both, added_none}

records_both : (t : Tap) (a b : List (Tap × List ℕ)) → records_at t (a ++ b) ≡ records_at t a ++ records_at t b
records_both t [] b = refl
records_both t (r ∷ rs) b = ap (λ l. at_tap t r.0 r.1 ++ l) (records_both t rs b) ∙ sym (append_assoc (at_tap t r.0 r.1) (records_at t rs) (records_at t b))

-- some of these records were copied, and the others are left
pub record CopiedSoFar (all : List (Tap × List ℕ)) (rest : Tap → List ℕ) (places : List Tap) (count : ℕ) (ports : List Stream) (underlay : Stream) (old : List Drain) (old_underlay : Drain) (new : List Drain) (new_underlay : Drain) : Type 0 where
  pub done : List (Tap × List ℕ)
  pub others : List (Tap × List ℕ)
  pub whole : all ≡ done ++ others
  pub places_are : places ≡ taps others
  pub sound : AreRecords count others
  pub left : AreLeft (λ t. records_at t others ++ rest t) ports underlay
  pub added : AreAdded (λ t. records_at t done) old old_underlay new new_underlay

pub none_copied : (all : List (Tap × List ℕ)) (rest : Tap → List ℕ) (places : List Tap) (ports : List Stream) (underlay : Stream) (sinks : List Drain) (underlay_sink : Drain) → places ≡ taps all → AreRecords (length ports) all
    → AreLeft (λ t. records_at t all ++ rest t) ports underlay → CopiedSoFar all rest places (length ports) ports underlay sinks underlay_sink sinks underlay_sink
none_copied all rest places ports underlay sinks underlay_sink are sound left =
    record { done = []; others = all; whole = refl; places_are = are; sound = sound; left = left; added = added_none sinks underlay_sink }

-- the next one
pub record NextOf (tap : Tap) (places : List Tap) (count : ℕ) (others : List (Tap × List ℕ)) : Type 0 where
  pub text : List ℕ
  pub behind : List (Tap × List ℕ)
  pub is : others ≡ (tap, text) ∷ behind
  pub places_are : places ≡ taps behind
  pub there : IsTap count tap
  pub written : IsWritten text
  pub sound : AreRecords count behind

pub next_of : (tap : Tap) (old new : List Tap) (count : ℕ) (others : List (Tap × List ℕ)) → old ≡ taps others → old ≡ tap ∷ new → AreRecords count others → NextOf tap new count others
next_of tap old new count [] are next sound = let never : tap ∷ new ≡ [] = sym next ∙ are in absurd cc
next_of tap old new count (r ∷ rs) are next sound =
    let same : tap ∷ new ≡ r.0 ∷ taps rs = sym next ∙ are in
    let first : tap ≡ r.0 = cc in
    let behind : new ≡ taps rs = cc in
    record {
      text = r.1;
      behind = rs;
      is = ap (λ (t : Tap). let p : Tap × List ℕ = (t, r.1) in p ∷ rs) (sym first);
      places_are = behind;
      there = subst (IsTap count) (sym first) sound.0.0;
      written = sound.0.1;
      sound = sound.1;
    }

-- what is left of it before
pub left_before : (tap : Tap) (text : List ℕ) (others behind : List (Tap × List ℕ)) (rest : Tap → List ℕ) (ports : List Stream) (underlay : Stream) → others ≡ (tap, text) ∷ behind
    → AreLeft (λ t. records_at t others ++ rest t) ports underlay → AreLeft (λ t. at_tap t tap text ++ (records_at t behind ++ rest t)) ports underlay
left_before tap text others behind rest ports underlay is left t at =
    let here = subst (λ l. AreLeft (λ t. records_at t l ++ rest t) ports underlay) is left t at in
    rw append_assoc at here

pub one_copied : (all : List (Tap × List ℕ)) (rest : Tap → List ℕ) (tap : Tap) (old_places places : List Tap) (count : ℕ) (old_ports ports : List Stream) (old_underlay_source underlay : Stream)
    (old : List Drain) (old_underlay : Drain) (mid : List Drain) (mid_underlay : Drain) (new : List Drain) (new_underlay : Drain)
    → (so_far : CopiedSoFar all rest old_places count old_ports old_underlay_source old old_underlay mid mid_underlay) → (next : NextOf tap places count so_far.others) → length mid ≡ length old
    → AreLeft (λ t. records_at t next.behind ++ rest t) ports underlay → AreAdded (λ t. at_tap t tap next.text) mid mid_underlay new new_underlay
    → CopiedSoFar all rest places count ports underlay old old_underlay new new_underlay
one_copied all rest tap old_places places count old_ports ports old_underlay_source underlay old old_underlay mid mid_underlay new new_underlay so_far next many left added = record {
  done = so_far.done ++ one;
  others = next.behind;
  whole = so_far.whole ∙ ap (λ l. so_far.done ++ l) next.is ∙ sym (append_assoc so_far.done one next.behind);
  places_are = next.places_are;
  sound = next.sound;
  left = left;
  added = λ t at. subst (λ l. IsAdded l (of_tap old old_underlay t) (of_tap new new_underlay t)) (sym (grown t))
      (added_both (λ t. records_at t so_far.done) (λ t. at_tap t tap next.text) old old_underlay mid mid_underlay new new_underlay many so_far.added added t at);
}
  where
    one : List (Tap × List ℕ)
    one = (tap, next.text) ∷ []

    grown : (t : Tap) → records_at t (so_far.done ++ one) ≡ records_at t so_far.done ++ at_tap t tap next.text
    grown t = records_both t so_far.done one ∙ ap (λ l. records_at t so_far.done ++ l) (append-nil (at_tap t tap next.text))

pub all_copied : (all : List (Tap × List ℕ)) (rest : Tap → List ℕ) (places : List Tap) (count : ℕ) (ports : List Stream) (underlay : Stream) (old : List Drain) (old_underlay : Drain) (new : List Drain) (new_underlay : Drain)
    → CopiedSoFar all rest places count ports underlay old old_underlay new new_underlay → places ≡ [] → AreLeft rest ports underlay × AreAdded (λ t. records_at t all) old old_underlay new new_underlay
all_copied all rest places count ports underlay old old_underlay new new_underlay so_far none = by so_far.others so_far.whole (sym so_far.places_are ∙ none) so_far.left
  where
    by : (others : List (Tap × List ℕ)) → all ≡ so_far.done ++ others → taps others ≡ [] → AreLeft (λ t. records_at t others ++ rest t) ports underlay → AreLeft rest ports underlay × AreAdded (λ t. records_at t all) old old_underlay new new_underlay
    by [] whole is left =
        let same : so_far.done ≡ all = sym (whole ∙ append-nil so_far.done) in
        (left, subst (λ l. AreAdded (λ t. records_at t l) old old_underlay new new_underlay) same so_far.added)
    by (r ∷ rs) whole is left = absurd cc
