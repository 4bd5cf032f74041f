-- One more record.
use Rattle.std.proofs.Common.{◌≡◌, ◌∙◌, sym, refl, ap, ℕ, ◌+◌, ◌≤◌, ◌<◌, ◌^◌, Bool, true, false, List, [], ◌∷◌, ◌++◌, length, length-append, Option, Some, arith}
use Rattle.std.specs.Prelude.{max, nat_lt}
use Rattle.std.specs.List.{count_by}
use Rattle.std.proofs.lemmas.List.Sums.{count_by-le-length, sum_by-append}
use Rattle.std.proofs.Common.{cond}
use Rattle.pcap.specs.Record.{Record}
use Rattle.timeline.specs.declared.source.Tap.{Tap}
use Rattle.capture_survey.specs.Tally.{HasRoom, falls_behind, falls_in, first_of, is_below, is_cut_short, is_left_to_card, is_too_long, greatest_behind, last_of, longest_at, one_if, span_of, tally_of}
use Rattle.capture_survey.specs.declared.tally.Span.{Span}
use Rattle.capture_survey.specs.declared.tally.Tally.{Tally}

greatest-more : (before : ℕ) (rs : List Record) (r : Record) → greatest_behind before (rs ++ r ∷ []) ≡ max r.moment (greatest_behind before rs)
greatest-more before [] r = refl
greatest-more before (q ∷ rs) r = greatest-more (max q.moment before) rs r

falls_behind-more : (before : ℕ) (rs : List Record) (r : Record)
    → falls_behind before (rs ++ r ∷ []) ≡ falls_behind before rs + one_if (nat_lt r.moment (greatest_behind before rs))
falls_behind-more before [] r = omega arith
falls_behind-more before (q ∷ rs) r = let more = falls_behind-more (max q.moment before) rs r in omega (arith, more)

falls-more : (rs : List Record) (r : Record) → falls_in (rs ++ r ∷ []) ≡ falls_in rs + one_if (is_below (span_of rs) r.moment)
falls-more [] r = refl
falls-more (q ∷ rs) r = falls_behind-more q.moment rs r

span-more : (rs : List Record) (r : Record) → span_of (rs ++ r ∷ []) ≡ Some (record { first = first_of (span_of rs) r.moment; last = last_of (span_of rs) r.moment })
span-more [] r = refl
span-more (q ∷ rs) r = ap (λ (last : ℕ). let s : Span = record { first = q.moment; last = last } in Some s) (greatest-more q.moment rs r)

count-more : (p : Record → Bool) (rs : List Record) (r : Record) → count_by p (rs ++ r ∷ []) ≡ count_by p rs + one_if (p r)
count-more p rs r =
    let one : count_by p (r ∷ []) ≡ one_if (p r) = omega arith in
    sum_by-append (λ (x : Record). cond (p x) 1 0) rs (r ∷ []) ∙ ap (λ (n : ℕ). count_by p rs + n) one

pub tally_more : (tap : Tap) (rs : List Record) (r : Record) (old : Tally) (m first last a b f l : ℕ) → old ≡ tally_of tap rs → m ≡ r.moment → first ≡ first_of old.span m → last ≡ last_of old.span m
    → a ≡ one_if (is_cut_short r) → b ≡ one_if (is_too_long (longest_at tap) r) → f ≡ one_if (is_below old.span m) → l ≡ one_if (is_left_to_card tap r)
    → ◌≡◌ {A = Tally} (record { records = old.records + 1; span = Some (record { first = first; last = last }); falls = old.falls + f; cut_short = old.cut_short + a; too_long = old.too_long + b; left_to_card = old.left_to_card + l })
    (tally_of tap (rs ++ r ∷ []))
tally_more tap rs r old m first last a b f l is moment first_is last_is a_is b_is f_is l_is =
    let span : old.span ≡ span_of rs = ap (λ (t : Tally). t.span) is in
    let records_now : old.records + 1 ≡ length (rs ++ r ∷ []) = ap (λ (t : Tally). t.records + 1) is ∙ sym (length-append rs (r ∷ [])) in
    let first_now : first ≡ first_of (span_of rs) r.moment = first_is ∙ ap (λ (s : Option Span). first_of s m) span ∙ ap (first_of (span_of rs)) moment in
    let last_now : last ≡ last_of (span_of rs) r.moment = last_is ∙ ap (λ (s : Option Span). last_of s m) span ∙ ap (last_of (span_of rs)) moment in
    let falls_now : old.falls + f ≡ falls_in (rs ++ r ∷ []) =
    ap (λ (n : ℕ). n + f) (ap (λ (t : Tally). t.falls) is) ∙ ap (λ (n : ℕ). falls_in rs + n) (f_is ∙ ap (λ (s : Option Span). one_if (is_below s m)) span ∙ ap (λ (n : ℕ). one_if (is_below (span_of rs) n)) moment) ∙ sym (falls-more rs r) in
    let cut_now : old.cut_short + a ≡ count_by is_cut_short (rs ++ r ∷ []) =
    ap (λ (n : ℕ). n + a) (ap (λ (t : Tally). t.cut_short) is) ∙ ap (λ (n : ℕ). count_by is_cut_short rs + n) a_is ∙ sym (count-more is_cut_short rs r) in
    let long_now : old.too_long + b ≡ count_by (is_too_long (longest_at tap)) (rs ++ r ∷ []) =
    ap (λ (n : ℕ). n + b) (ap (λ (t : Tally). t.too_long) is) ∙ ap (λ (n : ℕ). count_by (is_too_long (longest_at tap)) rs + n) b_is ∙ sym (count-more (is_too_long (longest_at tap)) rs r) in
    let left_now : old.left_to_card + l ≡ count_by (is_left_to_card tap) (rs ++ r ∷ []) =
    ap (λ (n : ℕ). n + l) (ap (λ (t : Tally). t.left_to_card) is) ∙ ap (λ (n : ℕ). count_by (is_left_to_card tap) rs + n) l_is ∙ sym (count-more (is_left_to_card tap) rs r) in
    let span_now = span-more rs r in
    cc

-- ---- room for another

falls_behind-few : (before : ℕ) (rs : List Record) → falls_behind before rs ≤ length rs
falls_behind-few before [] = omega arith
falls_behind-few before (r ∷ rs) = by (nat_lt r.moment before) (falls_behind-few (max r.moment before) rs)
  where
    by : (b : Bool) → falls_behind (max r.moment before) rs ≤ length rs → one_if b + falls_behind (max r.moment before) rs ≤ length (r ∷ rs)
    by true few = omega arith
    by false few = omega arith

falls-few : (rs : List Record) → falls_in rs ≤ length rs
falls-few [] = omega arith
falls-few (r ∷ rs) = let few = falls_behind-few r.moment rs in omega arith

pub has_room : (tap : Tap) (rs : List Record) (t : Tally) → t ≡ tally_of tap rs → length rs + 1 < 2 ^ 64 → HasRoom t
has_room tap rs t is few =
    let records = ap (λ (t : Tally). t.records) is in
    let falls = ap (λ (t : Tally). t.falls) is in
    let cut = ap (λ (t : Tally). t.cut_short) is in
    let long = ap (λ (t : Tally). t.too_long) is in
    let left = ap (λ (t : Tally). t.left_to_card) is in
    record {
      records = omega (arith, records, few);
      falls = omega (arith, records, falls, falls-few rs);
      cut_short = omega (arith, records, cut, count_by-le-length is_cut_short rs);
      too_long = omega (arith, records, long, count_by-le-length (is_too_long (longest_at tap)) rs);
      left_to_card = omega (arith, records, left, count_by-le-length (is_left_to_card tap) rs);
    }
