-- What a change of a segment's flood list leaves.
use Rattle.std.proofs.Common.{◌≡◌, ◌<◌, ℕ, true, cond, eqb, inl, inr, List, [], length, get_or, set, Option, Some, None, Result, Ok, Err, refl, sym, ap, ◌∙◌, subst}
use Rattle.std.proofs.lemmas.Bool.{cases_eq, cond-true, cond-false, eq-eqb, ne_eqb}
use Rattle.std.proofs.lemmas.List.{length-set}
use Rattle.overlay.proofs.PlacesLemmas.{get-insert_at, same_maps}
use Rattle.std.specs.Prelude.{OnErr, OnOk, is_ok, is_some}
use Rattle.std.specs.Option.{option_map_or}
use Rattle.std.specs.FinMap.{get, insert}
use Rattle.overlay.specs.declared.underlay.places.Row.{Row}
use Rattle.overlay.specs.declared.underlay.segment.Segment.{Segment}
use Rattle.overlay.specs.UnderlayFlood.{Entries}
use Rattle.overlay.specs.Overlay.{Segments, flood_in, flooding}
use Rattle.overlay.specs.Seats.{Seats, seated, Leads}
use Rattle.overlay.proofs.SeatLemmas.{Keeps, leads-within, read_at, there_at, row_at, found, seated-change, seated-same, keeps-change}

-- what a segment with another flood list in place of itself is
put-flooding : (m : Segments) (vid : ℕ) (g : Segment) (flood : Entries) → get m vid ≡ Some g → insert m vid (record g { flood = flood }) ≡ flooding m vid flood
put-flooding m vid g flood there = sym (ap (λ (x : Option Segment). option_map_or (λ h. insert m vid (record h { flood = flood })) x m) there)

-- a segment with the flood list that it has
pub flooding_same : (m : Segments) (vid : ℕ) → flooding m vid (flood_in m vid) ≡ m
flooding_same m vid = by (get m vid) refl
  where
    by : (x : Option Segment) → get m vid ≡ x → flooding m vid (flood_in m vid) ≡ m
    by None none = ap (λ (y : Option Segment). option_map_or (λ g. insert m vid (record g { flood = flood_in m vid })) y m) none
    by (Some g) there =
        ap (λ (y : Option Segment). option_map_or (λ h. insert m vid (record h { flood = flood_in m vid })) y m) there
        ∙ ap (λ (y : Option Segment). insert m vid (record g { flood = option_map_or (λ k. k.flood) y [] })) there
        ∙ same_maps (insert m vid g) m (λ q. get-insert_at m vid g q ∙ as_before q)
      where
        as_before : (q : ℕ) → cond (eqb q vid) (Some g) (get m q) ≡ get m q
        as_before q = elim (cases_eq q vid) [
          | inl same ↦ cond-true (eqb q vid) (Some g) (get m q) (eq-eqb q vid same) ∙ sym there ∙ ap (λ (i : ℕ). get m i) (sym same)
          | inr ne ↦ cond-false (eqb q vid) (Some g) (get m q) (ne_eqb q vid ne)
        ]

pub on_ok : {A E P Q : Type 0} (r s : Result A E) → r ≡ s → OnOk s P → (P → Q) → OnOk r Q
on_ok {A = A} {E = E} {P = P} {Q = Q} r s same holds then = subst (λ (x : Result A E). OnOk x Q) (sym same) (at s holds)
  where
    at : (x : Result A E) → OnOk x P → OnOk x Q
    at (Ok a) h = then h
    at (Err e) h = tt

-- an answer that is one where another one is
pub on_ok_as : {A B E P Q : Type 0} (r : Result A E) (s : Result B E) → is_ok r ≡ is_ok s → OnOk s P → (P → Q) → OnOk r Q
on_ok_as (Ok a) (Ok b) same holds then = then holds
on_ok_as (Ok a) (Err e) same holds then = absurd cc
on_ok_as (Err e) s same holds then = tt

pub on_err_as : {A B E P Q : Type 0} (r : Result A E) (s : Result B E) → is_ok r ≡ is_ok s → OnErr s P → (P → Q) → OnErr r Q
on_err_as (Err e) (Err f) same holds then = then holds
on_err_as (Err e) (Ok b) same holds then = absurd cc
on_err_as (Ok a) s same holds then = tt

-- what rows and an index show
abbrev pub shown : ℕ → List (Option Row) → List (Option ℕ) → Seats
shown flood rows index = record { segments = seated (λ r. r.segment) rows index; heads = seated (λ r. r.heads) rows index; most = length rows; flood = flood }

-- a row with another flood list
abbrev pub with_list : Row → Entries → Row
with_list r flood = record r { segment = record r.segment { flood = flood } }

-- what another flood list in the row at a place leaves
pub record Flooded (seats : Seats) (rows : List (Option Row)) (index : List (Option ℕ)) (vid p : ℕ) (old : Row) (flood : Entries) : Type 0 where
  pub kept : Keeps (λ r. r.vid) (λ r. r.segment) (set rows p (Some (with_list old flood))) index
  pub list : old.segment.flood ≡ flood_in seats.segments vid
  pub segments : seated (λ r. r.segment) (set rows p (Some (with_list old flood))) index ≡ flooding seats.segments vid flood
  pub heads : seated (λ r. r.heads) (set rows p (Some (with_list old flood))) index ≡ seats.heads
  pub most : length (set rows p (Some (with_list old flood))) ≡ seats.most

-- a segment that is there: what the index says for its VID, as it is read, and what stands at that place
module _ (seats : Seats) (most : ℕ) (rows : List (Option Row)) (index : List (Option ℕ)) (vid i : ℕ) (x : Option ℕ) (show : shown most rows index ≡ seats)
    (read : x ≡ get_or index i x) (same : i ≡ vid) (lt : vid < length index) where
  pub has_place : is_some (get seats.segments vid) ≡ true → is_some x ≡ true
  has_place there = there_at (λ r. r.segment) rows index vid x (read_at index i vid x read same lt) (ap (λ (s : Seats). is_some (get s.segments vid)) show ∙ there)

  pub has_seat : (j : ℕ) → x ≡ Some j → Leads (λ r. r.vid) rows index → j < length rows
  has_seat j is leads = leads-within (λ r. r.vid) rows index vid j leads (sym (read_at index i vid x read same lt) ∙ is)

  module _ (j p : ℕ) (y : Option Row) (is : x ≡ Some j) (read_row : y ≡ get_or rows p y) (place : p ≡ j) (lt_row : j < length rows) where
    at : get_or index vid None ≡ Some j
    at = sym (read_at index i vid x read same lt) ∙ is

    row : y ≡ get_or rows j None
    row = read_at rows p j y read_row place lt_row

    pub has_row : is_some (get seats.segments vid) ≡ true → is_some y ≡ true
    has_row there = row_at (λ r. r.segment) rows index vid j y row at (ap (λ (s : Seats). is_some (get s.segments vid)) show ∙ there)

    pub flooded : (old : Row) (flood : Entries) → Keeps (λ r. r.vid) (λ r. r.segment) rows index → y ≡ Some old → Flooded seats rows index vid p old flood
    flooded old flood kept is_row =
        let there : get_or rows j None ≡ Some old = sym row ∙ is_row in
        let seen : get seats.segments vid ≡ Some old.segment = sym (ap (λ (s : Seats). get s.segments vid) show) ∙ sym (found (λ r. r.segment) rows index vid j (Some old) (sym there) at) in
        let new : Row = with_list old flood in record {
          kept = rw place (keeps-change (λ r. r.vid) (λ r. r.segment) rows index vid j new old kept at there refl lt_row);
          list = ap (λ (g : Option Segment). option_map_or (λ k. k.flood) g []) (sym seen);
          segments =
              ap (λ (k : ℕ). seated (λ r. r.segment) (set rows k (Some new)) index) place
              ∙ seated-change (λ r. r.vid) (λ r. r.segment) rows index vid j new kept.2 at lt_row
              ∙ ap (λ (s : Seats). insert s.segments vid new.segment) show
              ∙ put-flooding seats.segments vid old.segment flood seen;
          heads =
              ap (λ (k : ℕ). seated (λ r. r.heads) (set rows k (Some new)) index) place
              ∙ seated-same (λ r. r.vid) (λ r. r.heads) rows index j new old there refl lt_row
              ∙ ap (λ (s : Seats). s.heads) show;
          most = length-set rows p (Some new) ∙ ap (λ (s : Seats). s.most) show;
        }
