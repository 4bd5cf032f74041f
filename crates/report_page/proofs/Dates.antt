-- The years and months that have begun.
use Rattle.std.proofs.Common.{◌≡◌, ◌≤◌, ◌∙◌, ap, sym, refl, ℕ, ◌+◌, Bool, true, false, cond, nat_le, count_by, arith}
use Rattle.std.specs.List.{range_with_len}
use Rattle.report_page.specs.Moment.{days_before_month, days_before_year, month_of, year_of}
use Rattle.report_page.proofs.Numbers.{count_more}

-- one number more, of which a test told whether it counts
pub counts_one : (p : ℕ → Bool) (from n count one : ℕ) → count ≡ count_by p (range_with_len from n) → one ≡ cond (p (from + n)) 1 0
    → count + one ≡ count_by p (range_with_len from (n + 1))
counts_one p from n count one so is =
    ap (λ (k : ℕ). k + one) so ∙ ap (λ (k : ℕ). count_by p (range_with_len from n) + k) is ∙ sym (count_more p from n (from + n) refl)

pub at_most_one : (b : Bool) (one : ℕ) → one ≡ cond b 1 0 → one ≤ 1
at_most_one true one is = omega arith
at_most_one false one is = omega arith

pub year_is : (day n : ℕ) → n ≡ 600 → 1970 + count_by (λ year. nat_le (days_before_year year) day) (range_with_len 1971 n) ≡ year_of day
unfolding year_of
year_is day n all = ap (λ (k : ℕ). 1970 + count_by (λ year. nat_le (days_before_year year) day) (range_with_len 1971 k)) all

pub month_is : (leap : Bool) (day n : ℕ) → n ≡ 11 → count_by (λ month. nat_le (days_before_month leap month) day) (range_with_len 1 n) ≡ month_of leap day
unfolding month_of
month_is leap day n all = ap (λ (k : ℕ). count_by (λ month. nat_le (days_before_month leap month) day) (range_with_len 1 k)) all
