-- Counting what is sent, place by place.
use Rattle.std.proofs.Common.{◌≡◌, ℕ, ◌+◌, ◌<◌, ◌≤◌, sym, ap, ◌∙◌, List, length, map, drop, get_or, drop-cons, add-one, Option}
use Rattle.std.proofs.lemmas.List.{drop_all}
use Rattle.endpoint_core.specs.Decision.{Sent}
use Rattle.endpoint_core.specs.Counts.{Counts, marks_all, counted_all, one_more, number_sent}

module _ {A : Type 0} (sent : A → Sent) where
  marks-cut : (counts : Counts) (segment : Option ℕ) (xs : List A) (i : ℕ) (x : A) → i < length xs →
      counted_all counts (marks_all segment (map sent (drop i xs))) ≡ counted_all (one_more counts (record { segment = segment; number = number_sent (sent (get_or xs i x)).sent })) (marks_all segment (map sent (drop (i + 1) xs)))
  marks-cut counts segment xs i x h =
      ap (λ (os : List A). counted_all counts (marks_all segment (map sent os))) (drop-cons xs i x h)
      ∙ ap (λ (j : ℕ). counted_all (one_more counts (record { segment = segment; number = number_sent (sent (get_or xs i x)).sent })) (marks_all segment (map sent (drop j xs)))) (sym (add-one i))

  -- what is left to count after one more
  pub counted-next : (counts next total : Counts) (segment : Option ℕ) (xs : List A) (i n : ℕ) (x : A) → i < length xs → n ≡ number_sent (sent (get_or xs i x)).sent →
      next ≡ one_more counts (record { segment = segment; number = n }) → counted_all counts (marks_all segment (map sent (drop i xs))) ≡ total → counted_all next (marks_all segment (map sent (drop (i + 1) xs))) ≡ total
  counted-next counts next total segment xs i n x h number more left =
      ap (λ (f : Counts). counted_all f (marks_all segment (map sent (drop (i + 1) xs)))) (more ∙ ap (λ (k : ℕ). one_more counts (record { segment = segment; number = k })) number)
      ∙ sym (marks-cut counts segment xs i x h) ∙ left

  -- nothing is left
  pub counted-end : (counts total : Counts) (segment : Option ℕ) (xs : List A) (i : ℕ) → length xs ≤ i → counted_all counts (marks_all segment (map sent (drop i xs))) ≡ total → counts ≡ total
  counted-end counts total segment xs i h left =
      ap (λ (os : List A). counted_all counts (marks_all segment (map sent os))) (sym (drop_all i xs h)) ∙ left
