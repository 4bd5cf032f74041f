-- The events of all parts, one after another.
use Rattle.std.proofs.Common.{◌≡◌, ◌≢◌, ◌∙◌, refl, sym, ap, subst, ℕ, zero, suc, ◌+◌, ◌<◌, ◌==◌, Bool, true, false, List, [], ◌∷◌, ◌++◌, length, slice_index_or, slice_set, append_assoc, append-nil, arith, Option}
use Rattle.std.proofs.KnownBytes.{Appends-nil, Appends-trans}
use Rattle.std.proofs.lemmas.Bool.{eqb-true, eqb-false}
use Rattle.std.proofs.lemmas.List.{get_or-set_same, get_or-set_other, length-set, map-append}
use Rattle.std.specs.List.{range_with_len}
use Rattle.std.specs.Io.KnownBytes.{Appends}
use Rattle.pcap.specs.Sink.{Drain}
use Rattle.timeline.specs.declared.source.Tap.{Tap}
use Rattle.part_merge.specs.Coming.{Holds, OpenPart, next_coming}
use Rattle.part_merge.specs.Firsts.{IsFirst, IsLater, IsNone, IsNoSooner}
use Rattle.part_merge.specs.Left.{AreAdded, IsAdded, of_tap}
use Rattle.part_merge.specs.Merged.{IsRising, Piece, capture_at, lines_in, merged, records_at}
use Rattle.part_merge.specs.Numbers.{AreNumbered, IsMissing, numbers}
use Rattle.part_merge.specs.Whole.{AllHold, AllRise, PutsAll}
use Rattle.part_merge.specs.declared.first.First.{First}
use Rattle.part_merge.specs.declared.coming.Coming.TheVariants as coming
use Rattle.part_merge.proofs.Moving.{added_both, added_none}
use Rattle.part_merge.proofs.Sorting.{BeginsLater, BeginsNoSooner, comes_first, none_merged, rise_on}

-- ---- what comes in a part

pub record Begins (pieces : List Piece) (n : ℕ) : Type 0 where
  pub first : Piece
  pub behind : List Piece
  pub is : pieces ≡ first ∷ behind
  pub number : first.number ≡ n

begins : (pieces : List Piece) (cuts : List (List ℕ)) (n : ℕ) → next_coming pieces cuts ≡ coming.Event n → Begins pieces n
begins (p ∷ ps) cuts n is = record { first = p; behind = ps; is = refl; number = cc }
begins [] (c ∷ cs) n is = absurd cc
begins [] [] n is = absurd cc

begins_later : (pieces : List Piece) (cuts : List (List ℕ)) (n : ℕ) → IsLater n (next_coming pieces cuts) → BeginsLater n pieces
begins_later (p ∷ ps) cuts n h = h
begins_later [] cuts n h = tt

begins_no_sooner : (pieces : List Piece) (cuts : List (List ℕ)) (n : ℕ) → IsNoSooner n (next_coming pieces cuts) → BeginsNoSooner n pieces
begins_no_sooner (p ∷ ps) cuts n h = h
begins_no_sooner [] cuts n h = tt

no_event : (pieces : List Piece) (cuts : List (List ℕ)) → IsNone (next_coming pieces cuts) → pieces ≡ []
no_event (p ∷ ps) cuts h = absurd h
no_event [] cuts h = refl

-- ---- some events were put

-- the events of these pieces are those that were put and then those that the parts have left
pub record MergedSoFar (ports : ℕ) (pieces : List Piece) (cuts : List (List (List ℕ))) (last : ℕ) (parts : List OpenPart) (old : List Drain) (old_underlay : Drain) (written : Option (List ℕ)) (new : List Drain) (new_underlay : Drain) (now : Option (List ℕ)) : Type 0 where
  pub left : List (List Piece)
  pub done : List Piece
  pub whole : pieces ≡ done ++ merged left
  pub holds : AllHold ports left cuts parts
  pub rise : AllRise left
  pub above : IsRising last (merged left)
  pub numbered : numbers done ≡ range_with_len 1 last
  pub added : AreAdded (λ tap. capture_at tap done) old old_underlay new new_underlay
  pub lines : Appends written now (lines_in done)

pub none_merged_yet : (ports : ℕ) (pieces : List (List Piece)) (cuts : List (List (List ℕ))) (parts : List OpenPart) (sinks : List Drain) (underlay : Drain) (written : Option (List ℕ)) → AllHold ports pieces cuts parts → AllRise pieces
    → IsRising 0 (merged pieces) → MergedSoFar ports (merged pieces) cuts 0 parts sinks underlay written sinks underlay written
none_merged_yet ports pieces cuts parts sinks underlay written holds rise above = record {
  left = pieces;
  done = [];
  whole = refl;
  holds = holds;
  rise = rise;
  above = above;
  numbered = refl;
  added = added_none sinks underlay;
  lines = Appends-nil written;
}

-- ---- the next one

-- the event that comes first is the first of those that are left
pub record NextPiece (ports : ℕ) (left : List (List Piece)) (cuts : List (List (List ℕ))) (parts : List OpenPart) (first : First) : Type 0 where
  pub p : Piece
  pub behind : List Piece
  pub number : p.number ≡ first.number
  pub is : slice_index_or left first.index [] ≡ p ∷ behind
  pub comes : merged left ≡ p ∷ merged (slice_set left first.index behind)
  pub rise : AllRise (slice_set left first.index behind)
  pub holds : (s : OpenPart) → Holds ports (p ∷ behind) (slice_index_or cuts first.index []) (slice_index_or parts first.index s)

pub next_piece : (ports : ℕ) (left : List (List Piece)) (cuts : List (List (List ℕ))) (parts : List OpenPart) (first : First) (d : OpenPart) → AllHold ports left cuts parts → AllRise left → IsFirst parts (length parts) first
    → NextPiece ports left cuts parts first
next_piece ports left cuts parts first d holds rise is = record {
  p = here.first;
  behind = here.behind;
  number = here.number;
  is = here.is;
  comes = comes_first left first.index here.first here.behind rise inside here.is
      (λ k lt. rw here.number (begins_later (slice_index_or left k []) (slice_index_or cuts k []) first.number (subst (IsLater first.number) (coming_at k (omega (arith, lt, is.there))) (is.later d k lt))))
      (λ k lt. rw here.number (begins_no_sooner (slice_index_or left k []) (slice_index_or cuts k []) first.number (subst (IsNoSooner first.number) (coming_at k (omega (arith, lt, holds.many))) (is.no_sooner d k (omega (arith, lt, holds.many))))));
  rise = rise_on left first.index here.first here.behind rise inside here.is;
  holds = λ s. subst (λ l. Holds ports l (slice_index_or cuts first.index []) (slice_index_or parts first.index s)) here.is (holds.each s first.index is.there);
}
  where
    coming_at : (k : ℕ) → k < length parts → (slice_index_or parts k d).coming ≡ next_coming (slice_index_or left k []) (slice_index_or cuts k [])
    coming_at k lt = (holds.each d k lt).next.coming

    here : Begins (slice_index_or left first.index []) first.number
    here = begins (slice_index_or left first.index []) (slice_index_or cuts first.index []) first.number (sym (coming_at first.index is.there) ∙ is.next d)

    inside : first.index < length left
    inside = omega (arith, is.there, holds.many)

-- its number is above those before
pub above_last : (ports : ℕ) (left : List (List Piece)) (cuts : List (List (List ℕ))) (parts : List OpenPart) (first : First) (last : ℕ) → (next : NextPiece ports left cuts parts first) → IsRising last (merged left)
    → (last < first.number) × IsRising first.number (merged (slice_set left first.index next.behind))
above_last ports left cuts parts first last next above =
    let rises : IsRising last (next.p ∷ merged (slice_set left first.index next.behind)) = subst (IsRising last) next.comes above in
    (omega (arith, rises.0, next.number), subst (λ n. IsRising n (merged (slice_set left first.index next.behind))) next.number rises.1)

holds_set : (ports : ℕ) (left : List (List Piece)) (cuts : List (List (List ℕ))) (parts : List OpenPart) (i : ℕ) (ps : List Piece) (new : OpenPart) → AllHold ports left cuts parts → i < length parts → Holds ports ps (slice_index_or cuts i []) new
    → AllHold ports (slice_set left i ps) cuts (slice_set parts i new)
holds_set ports left cuts parts i ps new holds there one = record {
  many = length-set left i ps ∙ holds.many ∙ sym (length-set parts i new);
  many_cuts = holds.many_cuts ∙ sym (length-set parts i new);
  each = λ s k lt. by s k (omega (arith, lt, length-set parts i new)) (k == i) refl;
}
  where
    by : (s : OpenPart) (k : ℕ) → k < length parts → (b : Bool) → (k == i) ≡ b → Holds ports (slice_index_or (slice_set left i ps) k []) (slice_index_or cuts k []) (slice_index_or (slice_set parts i new) k s)
    by s k lt true is =
        let same : i ≡ k = sym (eqb-true k i is) in
        subst (λ j. Holds ports (slice_index_or (slice_set left i ps) j []) (slice_index_or cuts j []) (slice_index_or (slice_set parts i new) j s)) same
        (rw (get_or-set_same left i ps [] (omega (arith, there, holds.many)), get_or-set_same parts i new s there) one)
    by s k lt false is =
        let apart : k ≢ i = eqb-false k i is in
        rw (get_or-set_other left i k ps [] apart, get_or-set_other parts i k new s apart) (holds.each s k lt)

captures_both : (tap : Tap) (a b : List Piece) → capture_at tap (a ++ b) ≡ capture_at tap a ++ capture_at tap b
captures_both tap [] b = refl
captures_both tap (p ∷ a) b = ap (λ l. records_at tap p.records ++ l) (captures_both tap a b) ∙ sym (append_assoc (records_at tap p.records) (capture_at tap a) (capture_at tap b))

lines_both : (a b : List Piece) → lines_in (a ++ b) ≡ lines_in a ++ lines_in b
lines_both [] b = refl
lines_both (p ∷ a) b = ap (λ l. p.line ++ l) (lines_both a b) ∙ sym (append_assoc p.line (lines_in a) (lines_in b))

numbers_both : (a b : List Piece) → numbers (a ++ b) ≡ numbers a ++ numbers b
numbers_both a b = map-append (λ (p : Piece). p.number) a b

range_more : (a n : ℕ) → range_with_len a (suc n) ≡ range_with_len a n ++ (a + n) ∷ []
range_more a zero = ap (λ k. k ∷ []) (omega arith)
range_more a (suc n) = ap (λ l. a ∷ l) (range_more (a + 1) n ∙ ap (λ k. range_with_len (a + 1) n ++ k ∷ []) (omega arith))

-- the one that would come next is missing where a greater one comes
pub next_missing : (ports : ℕ) (pieces : List Piece) (cuts : List (List (List ℕ))) (last : ℕ) (parts : List OpenPart) (first : First) (old : List Drain) (old_underlay : Drain) (written : Option (List ℕ))
    (new : List Drain) (new_underlay : Drain) (now : Option (List ℕ))
    → (so_far : MergedSoFar ports pieces cuts last parts old old_underlay written new new_underlay now) → NextPiece ports so_far.left cuts parts first → last + 1 < first.number
    → IsMissing (last + 1) pieces
next_missing ports pieces cuts last parts first old old_underlay written new new_underlay now so_far next greater = record {
  count = last;
  is = refl;
  next = first.number;
  greater = greater;
  behind = numbers rest;
  numbered = ap numbers (so_far.whole ∙ ap (λ l. so_far.done ++ l) next.comes) ∙ numbers_both so_far.done (next.p ∷ rest)
      ∙ (λ i. so_far.numbered i ++ next.number i ∷ numbers rest);
}
  where
    rest : List Piece
    rest = merged (slice_set so_far.left first.index next.behind)

pub one_merged : (ports : ℕ) (pieces : List Piece) (cuts : List (List (List ℕ))) (last : ℕ) (parts : List OpenPart) (first : First) (new : OpenPart) (old : List Drain) (old_underlay : Drain) (written : Option (List ℕ))
    (mid : List Drain) (mid_underlay : Drain) (now : Option (List ℕ)) (sinks : List Drain) (underlay : Drain) (then_ : Option (List ℕ))
    → (so_far : MergedSoFar ports pieces cuts last parts old old_underlay written mid mid_underlay now) → (next : NextPiece ports so_far.left cuts parts first) → first.index < length parts → first.number ≡ last + 1 → length mid ≡ length old
    → Holds ports next.behind (slice_index_or cuts first.index []) new → AreAdded (λ t. records_at t next.p.records) mid mid_underlay sinks underlay → Appends now then_ next.p.line
    → MergedSoFar ports pieces cuts first.number (slice_set parts first.index new) old old_underlay written sinks underlay then_
one_merged ports pieces cuts last parts first new old old_underlay written mid mid_underlay now sinks underlay then_ so_far next there on many holds added line = record {
  left = slice_set so_far.left first.index next.behind;
  done = so_far.done ++ one;
  whole = so_far.whole ∙ ap (λ l. so_far.done ++ l) next.comes ∙ sym (append_assoc so_far.done one (merged (slice_set so_far.left first.index next.behind)));
  holds = holds_set ports so_far.left cuts parts first.index next.behind new so_far.holds there holds;
  rise = next.rise;
  above = (above_last ports so_far.left cuts parts first last next so_far.above).1;
  numbered = numbers_both so_far.done one ∙ (λ i. so_far.numbered i ++ next.number i ∷ [])
      ∙ ap (λ n. range_with_len 1 last ++ n ∷ []) its_number ∙ sym (range_more 1 last) ∙ ap (λ n. range_with_len 1 n) counted;
  added = λ t at. subst (λ l. IsAdded l (of_tap old old_underlay t) (of_tap sinks underlay t)) (sym (grown t))
      (added_both (λ t. capture_at t so_far.done) (λ t. records_at t next.p.records) old old_underlay mid mid_underlay sinks underlay many so_far.added added t at);
  lines = subst (Appends written then_) (sym (lines_both so_far.done one ∙ ap (λ l. lines_in so_far.done ++ l) (append-nil next.p.line))) (Appends-trans written now then_ (lines_in so_far.done) next.p.line so_far.lines line);
}
  where
    its_number : first.number ≡ 1 + last
    its_number = omega (arith, on)

    counted : suc last ≡ first.number
    counted = omega (arith, on)

    one : List Piece
    one = next.p ∷ []

    grown : (t : Tap) → capture_at t (so_far.done ++ one) ≡ capture_at t so_far.done ++ records_at t next.p.records
    grown t = captures_both t so_far.done one ∙ ap (λ l. capture_at t so_far.done ++ l) (append-nil (records_at t next.p.records))

-- ---- none is left

pub all_merged : (ports : ℕ) (pieces : List Piece) (cuts : List (List (List ℕ))) (last : ℕ) (parts : List OpenPart) (d : OpenPart) (old : List Drain) (old_underlay : Drain) (written : Option (List ℕ)) (new : List Drain) (new_underlay : Drain) (now : Option (List ℕ))
    → MergedSoFar ports pieces cuts last parts old old_underlay written new new_underlay now → ((s : OpenPart) (k : ℕ) → k < length parts → IsNone (slice_index_or parts k s).coming)
    → AreNumbered pieces × PutsAll ports pieces cuts parts old old_underlay written new new_underlay now
all_merged ports pieces cuts last parts d old old_underlay written new new_underlay now so_far none = (
  (last, ap numbers (sym whole) ∙ so_far.numbered),
  record {
    hold = record {
      many_cuts = so_far.holds.many_cuts;
      each = λ s k lt. subst (λ l. Holds ports l (slice_index_or cuts k []) (slice_index_or parts k s)) (empty s k lt) (so_far.holds.each s k lt);
    };
    added = subst (λ l. AreAdded (λ t. capture_at t l) old old_underlay new new_underlay) whole so_far.added;
    lines = subst (λ l. Appends written now (lines_in l)) whole so_far.lines;
  },
)
  where
    empty : (s : OpenPart) (k : ℕ) → k < length parts → slice_index_or so_far.left k [] ≡ []
    empty s k lt = no_event (slice_index_or so_far.left k []) (slice_index_or cuts k []) (subst IsNone (so_far.holds.each s k lt).next.coming (none s k lt))

    whole : so_far.done ≡ pieces
    whole = sym (so_far.whole ∙ ap (λ l. so_far.done ++ l) (none_merged so_far.left (λ k lt. empty d k (omega (arith, lt, so_far.holds.many)))) ∙ append-nil so_far.done)

-- ---- counts of captures

pub counts_set : (ports : ℕ) (parts : List OpenPart) (i : ℕ) (new : OpenPart) → i < length parts → ((s : OpenPart) (k : ℕ) → k < length parts → length (slice_index_or parts k s).ports ≡ ports) → length new.ports ≡ ports
    → (s : OpenPart) (k : ℕ) → k < length (slice_set parts i new) → length (slice_index_or (slice_set parts i new) k s).ports ≡ ports
counts_set ports parts i new there all one s k lt = by (k == i) refl
  where
    by : (b : Bool) → (k == i) ≡ b → length (slice_index_or (slice_set parts i new) k s).ports ≡ ports
    by true is =
        let same : i ≡ k = sym (eqb-true k i is) in
        subst (λ j. length (slice_index_or (slice_set parts i new) j s).ports ≡ ports) same (rw (get_or-set_same parts i new s there) one)
    by false is =
        let apart : k ≢ i = eqb-false k i is in
        rw (get_or-set_other parts i k new s apart) (all s k (omega (arith, lt, length-set parts i new)))
