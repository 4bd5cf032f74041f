-- Columns that stand one behind another in a list.
use Rattle.std.proofs.Common.{◌≡◌, ℕ, ◌+◌, ◌-◌, ◌<◌, ◌≤◌, List, [], ◌∷◌, ◌++◌, length, take, drop, replicate, get_or, set, slice_set, sym, ap, ◌∙◌, subst, arith, length-append}
use Rattle.std.proofs.lemmas.List.{take-set-le, drop-set-lt, drop-set-add, length-take, length-drop, replicate-append-replicate, append_assoc}
use Rattle.std.proofs.lemmas.List.{get_or_append_left, get_or-append_right, get_or-take, get_or-drop, set-append_left, set-append_right, length-replicate, take-replicate, drop-replicate}
use Rattle.std.proofs.Math.Seq.{take-set-lt, take-append_seam, drop-append_seam}
use Rattle.shared_tables.specs.TreeColumns.{Trees}
use Rattle.shared_tables.specs.ColumnsFromNumbers.{AreInOrder, columns_of, with_gap}
use Rattle.shared_tables.specs.declared.columns.Columns.TheInside.{Inside}

-- ---- the words of all places, by those that are kept

module _ (ws : List ℕ) (roots : 262144 ≤ length ws) (gap : List ℕ) (size : length gap ≡ 786432) where
  abbrev all : List ℕ → List ℕ
  all xs = take 262144 xs ++ (gap ++ drop 262144 xs)

  first_length : length (take 262144 ws) ≡ 262144
  first_length = omega (arith, length-take 262144 ws, roots)

  get_root : (p d : ℕ) → p < 262144 → get_or (all ws) p d ≡ get_or ws p d
  get_root p d lt = get_or_append_left (take 262144 ws) (gap ++ drop 262144 ws) d p (omega (arith, lt, first_length)) ∙ get_or-take 262144 ws p d lt

  get_side : (p d : ℕ) → 1048576 ≤ p → get_or (all ws) p d ≡ get_or ws (p - 786432) d
  get_side p d le =
      let same : 262144 + (p - 262144 - 786432) ≡ p - 786432 = omega (arith, le) in
      get_or-append_right (take 262144 ws) (gap ++ drop 262144 ws) 262144 p d first_length (omega (arith, le))
      ∙ get_or-append_right gap (drop 262144 ws) 786432 (p - 262144) d size (omega (arith, le))
      ∙ get_or-drop 262144 ws (p - 262144 - 786432) d
      ∙ ap (λ i. get_or ws i d) same

  set_root : (p v : ℕ) → p < 262144 → set (all ws) p v ≡ all (set ws p v)
  set_root p v lt =
      set-append_left (take 262144 ws) (gap ++ drop 262144 ws) p v (omega (arith, lt, first_length))
      ∙ ap (λ xs. xs ++ (gap ++ drop 262144 ws)) (sym (take-set-lt 262144 ws p v lt))
      ∙ ap (λ xs. take 262144 (set ws p v) ++ (gap ++ xs)) (sym (drop-set-lt 262144 ws p v lt))

  set_side : (p v : ℕ) → 1048576 ≤ p → set (all ws) p v ≡ all (set ws (p - 786432) v)
  set_side p v le =
      let i : ℕ = p - 262144 - 786432 in
      let same : 262144 + (p - 262144 - 786432) ≡ p - 786432 = omega (arith, le) in
      let behind : drop 262144 (set ws (p - 786432) v) ≡ set (drop 262144 ws) i v =
      subst (λ (n : ℕ). drop 262144 (set ws n v) ≡ set (drop 262144 ws) i v) same (drop-set-add 262144 ws i v) in
      set-append_right (take 262144 ws) (gap ++ drop 262144 ws) 262144 p v first_length (omega (arith, le))
      ∙ ap (λ xs. take 262144 ws ++ xs) (set-append_right gap (drop 262144 ws) 786432 (p - 262144) v size (omega (arith, le)))
      ∙ ap (λ xs. take 262144 ws ++ (gap ++ xs)) (sym behind)
      ∙ ap (λ xs. xs ++ (gap ++ drop 262144 (set ws (p - 786432) v))) (sym (take-set-le 262144 ws (p - 786432) v (omega (arith, le))))

  all_length : length (all ws) ≡ length ws + 786432
  all_length = omega (arith, roots, size, first_length, length-append (take 262144 ws) (gap ++ drop 262144 ws), length-append gap (drop 262144 ws), length-drop 262144 ws)

gap_length : length {A = ℕ} (replicate 786432 4294967295) ≡ 786432
gap_length = length-replicate {A = ℕ} 786432 4294967295

module _ (ws : List ℕ) (roots : 262144 ≤ length ws) where
  pub root_word : (p d : ℕ) → p < 262144 → get_or (with_gap ws) p d ≡ get_or ws p d
  unfolding with_gap
  root_word = get_root ws roots (replicate 786432 4294967295) gap_length

  pub side_word : (p d : ℕ) → 1048576 ≤ p → get_or (with_gap ws) p d ≡ get_or ws (p - 786432) d
  unfolding with_gap
  side_word = get_side ws roots (replicate 786432 4294967295) gap_length

  pub root_set : (p v : ℕ) → p < 262144 → set (with_gap ws) p v ≡ with_gap (set ws p v)
  unfolding with_gap
  root_set = set_root ws roots (replicate 786432 4294967295) gap_length

  pub side_set : (p v : ℕ) → 1048576 ≤ p → set (with_gap ws) p v ≡ with_gap (set ws (p - 786432) v)
  unfolding with_gap
  side_set = set_side ws roots (replicate 786432 4294967295) gap_length

  pub words_length : length (with_gap ws) ≡ length ws + 786432
  unfolding with_gap
  words_length = all_length ws roots (replicate 786432 4294967295) gap_length

-- words that say nothing, with those that aren't kept
pub bare_words : (k w : ℕ) → w ≡ 4294967295 → with_gap (replicate (262144 + k) w) ≡ replicate (1048576 + k) w
unfolding with_gap
bare_words k w is =
    let rest : 262144 + k - 262144 ≡ k = omega arith in
    let sum : 262144 + (786432 + k) ≡ 1048576 + k = omega arith in
    ap (λ xs. xs ++ (replicate 786432 4294967295 ++ drop 262144 (replicate (262144 + k) w))) (take-replicate 262144 (262144 + k) w (omega arith))
    ∙ ap (λ xs. replicate 262144 w ++ (replicate 786432 4294967295 ++ xs)) (drop-replicate 262144 (262144 + k) w ∙ ap (λ n. replicate n w) rest)
    ∙ ap (λ x. replicate 262144 w ++ (replicate 786432 x ++ replicate k w)) (sym is)
    ∙ ap (λ xs. replicate 262144 w ++ xs) (replicate-append-replicate 786432 k w)
    ∙ replicate-append-replicate 262144 (786432 + k) w
    ∙ ap (λ n. replicate n w) sum

-- ---- columns

-- the columns of a list, of which all but the first begin at these places
abbrev pub split : ℕ → ℕ → List ℕ → Trees
split l f xs = record { words = with_gap (take l xs); leaves = take (f - l) (drop l xs); forks = drop f xs }

module _ (l f : ℕ) (xs : List ℕ) (i v : ℕ) (lf : l ≤ f) where
  kept_length : 262144 ≤ l → l ≤ length xs → 262144 ≤ length (take l xs)
  kept_length r t = omega (arith, r, t, length-take l xs)

  -- what stands at a root, or behind a fork, is what the list has
  pub root_read : 262144 ≤ l → l ≤ length xs → (d : ℕ) → i < 262144 → get_or (split l f xs).words i d ≡ get_or xs i d
  root_read r t d lt = root_word (take l xs) (kept_length r t) i d lt ∙ get_or-take l xs i d (omega (arith, r, lt))

  side_there : 262144 ≤ l → l ≤ length xs → 1048576 ≤ i → i < length (split l f xs).words → i - 786432 < l
  side_there r t le lt = omega (arith, le, lt, words_length (take l xs) (kept_length r t), length-take l xs)

  side_read : 262144 ≤ l → l ≤ length xs → (d : ℕ) → 1048576 ≤ i → i < length (split l f xs).words → get_or (split l f xs).words i d ≡ get_or xs (i - 786432) d
  side_read r t d le lt = side_word (take l xs) (kept_length r t) i d le ∙ get_or-take l xs (i - 786432) d (side_there r t le lt)

  word_set : (k : ℕ) → k < l → split l f (slice_set xs k v) ≡ record (split l f xs) { words = with_gap (slice_set (take l xs) k v) }
  word_set k il =
      let words = ap with_gap (take-set-lt l xs k v il) in
      let leaves = ap (take (f - l)) (drop-set-lt l xs k v il) in
      let forks = drop-set-lt f xs k v (omega (arith, il, lf)) in
      λ j. record { words = words j; leaves = leaves j; forks = forks j }

  pub root_written : 262144 ≤ l → l ≤ length xs → i < 262144 → split l f (slice_set xs i v) ≡ record (split l f xs) { words = slice_set (split l f xs).words i v }
  root_written r t lt = word_set i (omega (arith, r, lt)) ∙ ap (λ (ws : List ℕ). record (split l f xs) { words = ws }) (sym (root_set (take l xs) (kept_length r t) i v lt))

  side_written : 262144 ≤ l → l ≤ length xs → 1048576 ≤ i → i < length (split l f xs).words → split l f (slice_set xs (i - 786432) v) ≡ record (split l f xs) { words = slice_set (split l f xs).words i v }
  side_written r t le lt = word_set (i - 786432) (side_there r t le lt) ∙ ap (λ (ws : List ℕ). record (split l f xs) { words = ws }) (sym (side_set (take l xs) (kept_length r t) i v le))

  pub leaf_set : i < length (take (f - l) (drop l xs)) → split l f (slice_set xs (l + i) v) ≡ record (split l f xs) { leaves = slice_set (take (f - l) (drop l xs)) i v }
  leaf_set h =
      let il : i < f - l = omega (arith, length-take (f - l) (drop l xs), h) in
      let words = ap with_gap (take-set-le l xs (l + i) v (omega arith)) in
      let leaves = ap (take (f - l)) (drop-set-add l xs i v) ∙ take-set-lt (f - l) (drop l xs) i v il in
      let forks = drop-set-lt f xs (l + i) v (omega (arith, il, lf)) in
      λ k. record { words = words k; leaves = leaves k; forks = forks k }

  pub fork_set : split l f (slice_set xs (f + i) v) ≡ record (split l f xs) { forks = slice_set (drop f xs) i v }
  fork_set =
      let words = ap with_gap (take-set-le l xs (f + i) v (omega (arith, lf))) in
      let here : drop l (slice_set xs (l + ((f - l) + i)) v) ≡ slice_set (drop l xs) ((f - l) + i) v = drop-set-add l xs ((f - l) + i) v in
      let same : l + ((f - l) + i) ≡ f + i = omega (arith, lf) in
      let dropped : drop l (slice_set xs (f + i) v) ≡ slice_set (drop l xs) ((f - l) + i) v = subst (λ (n : ℕ). drop l (slice_set xs n v) ≡ slice_set (drop l xs) ((f - l) + i) v) same here in
      let leaves = ap (take (f - l)) dropped ∙ take-set-le (f - l) (drop l xs) ((f - l) + i) v (omega arith) in
      let forks = drop-set-add f xs i v in
      λ k. record { words = words k; leaves = leaves k; forks = forks k }

-- one more of a word
pub replicate_push : (n w : ℕ) → replicate (n + 1) w ≡ replicate n w ++ w ∷ []
replicate_push n w = sym (replicate-append-replicate n 1 w)

module _ (ws bs cs : List ℕ) (l f : ℕ) (la : length ws ≡ l) (fb : l + length bs ≡ f) where
  first : take l (ws ++ (bs ++ cs)) ≡ ws
  first = subst (λ (n : ℕ). take n (ws ++ (bs ++ cs)) ≡ ws) la (take-append_seam ws (bs ++ cs))

  behind_first : drop l (ws ++ (bs ++ cs)) ≡ bs ++ cs
  behind_first = subst (λ (n : ℕ). drop n (ws ++ (bs ++ cs)) ≡ bs ++ cs) la (drop-append_seam ws (bs ++ cs))

  second : take (f - l) (drop l (ws ++ (bs ++ cs))) ≡ bs
  second =
      let size : length bs ≡ f - l = omega (arith, fb) in
      ap (take (f - l)) behind_first ∙ subst (λ (n : ℕ). take n (bs ++ cs) ≡ bs) size (take-append_seam bs cs)

  behind_second : drop f (ws ++ (bs ++ cs)) ≡ cs
  behind_second =
      let size : length (ws ++ bs) ≡ f = omega (arith, length-append ws bs, la, fb) in
      ap (drop f) (sym (append_assoc ws bs cs)) ∙ subst (λ (n : ℕ). drop n ((ws ++ bs) ++ cs) ≡ cs) size (drop-append_seam (ws ++ bs) cs)

  -- three lists one behind another are the columns
  pub parts : split l f (ws ++ (bs ++ cs)) ≡ record { words = with_gap ws; leaves = bs; forks = cs }
  parts = λ k. record { words = with_gap (first k); leaves = second k; forks = behind_second k }

-- the word at the side of a fork, as it is seen
module _ (a : Inside) (h : AreInOrder a) (w : Trees) (seen : columns_of a ≡ w) (i : ℕ) (side : 1048576 ≤ i) (there : i < length w.words) where
  fits : a.leaves ≤ length a.numbers.items
  fits = omega (arith, h.leaves, h.forks)

  within : i < length (split a.leaves a.forks a.numbers.items).words
  within = subst (λ (t : Trees). i < length t.words) (sym seen) there

  pub side_kept : i - 786432 < length a.numbers.items
  side_kept = omega (arith, side_there a.leaves a.forks a.numbers.items i 0 h.leaves h.roots fits side within, fits)

  pub side_seen : (d : ℕ) → get_or a.numbers.items (i - 786432) d ≡ get_or w.words i d
  side_seen d = sym (side_read a.leaves a.forks a.numbers.items i 0 h.leaves h.roots fits d side within) ∙ ap (λ (t : Trees). get_or t.words i d) seen

  pub side_changed : (v : ℕ) → split a.leaves a.forks (slice_set a.numbers.items (i - 786432) v) ≡ record w { words = slice_set w.words i v }
  side_changed v =
      subst (λ (t : Trees). split a.leaves a.forks (slice_set a.numbers.items (i - 786432) v) ≡ record t { words = slice_set t.words i v }) seen
      (side_written a.leaves a.forks a.numbers.items i v h.leaves h.roots fits side within)
