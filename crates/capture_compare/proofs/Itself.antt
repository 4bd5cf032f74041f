-- A capture that is compared with itself.
use Rattle.std.proofs.Common.{◌≡◌, refl, sym, ap, ◌∙◌, ℕ, List, [], ◌∷◌, length, map, arith}
use Rattle.record_match.specs.Match.{Record, Sent, as_sent, matched, received_count, taken}
use Rattle.record_match.proofs.Meeting.{itself_is_whole}
use Rattle.capture_compare.specs.Clocked.{kept, on_clock}
use Rattle.capture_compare.specs.Compared.{records_in}
use Rattle.capture_compare.specs.Laws.{ItselfIsBoth}

all-taken : (rs : List Record) → received_count (map (λ r. taken (as_sent r)) rs) ≡ length rs
all-taken [] = refl
all-taken (r ∷ rs) = omega (arith, all-taken rs)

whole-count : (within : ℕ) (rs : List Record) → received_count (matched within rs rs) ≡ length rs
whole-count within rs = ap (λ (l : List Sent). received_count l) (itself_is_whole within rs) ∙ all-taken rs

pub itself_is_both : ItselfIsBoth
itself_is_both manner clock text c same h =
    let S = kept (on_clock manner clock.sent_delay (records_in text)) in
    let both : kept (on_clock manner clock.received_delay (records_in text)) ≡ S = ap (λ (d : ℕ). kept (on_clock manner d (records_in text))) (sym same) in
    let all : received_count (matched clock.within S (kept (on_clock manner clock.received_delay (records_in text)))) ≡ length S =
    ap (λ (l : List Record). received_count (matched clock.within S l)) both ∙ whole-count clock.within S in
    let mine : c.both ≡ c.sent = h.counts.both_is ∙ all ∙ sym h.counts.sent_is in
    let theirs : c.both ≡ c.received = h.counts.both_is ∙ all ∙ sym (ap (λ (l : List Record). length l) both) ∙ sym h.counts.received_is in
    let long : length (on_clock manner clock.received_delay (records_in text)) ≡ length (on_clock manner clock.sent_delay (records_in text)) = ap (λ (d : ℕ). length (on_clock manner d (records_in text))) (sym same) in
    let sent_aside = h.counts.sent_aside_is in
    let received_aside = h.counts.received_aside_is in
    (mine, theirs, omega (arith, mine, theirs, long, sent_aside, received_aside))
