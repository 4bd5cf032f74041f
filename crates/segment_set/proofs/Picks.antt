-- Picked VIDs.
use Rattle.std.proofs.Common.{◌≡◌, ℕ, zero, suc, ◌+◌, ◌-◌, ◌<◌, ◌≤◌, Bool, true, false, arith, length, take, drop, replicate, slice_set, List, [], ◌∷◌, ◌++◌, append_assoc, refl, sym, ap, ◌∙◌, Result, Ok}
use Rattle.std.specs.List.{list_any}
use borrow.Rule.Slice.PartMut.{mid_of, post_of, mid_len, Post-is}
use Rattle.segment_set.specs.Segments.{Segments, Only}
use Rattle.segment_set.specs.Lists.{with_once}
use Rattle.segment_set.specs.declared.fault.ListFault.{ListFault}
use Rattle.segment_set.specs.declared.item.Item.TheVariants.{Vids}

set_behind : (k : ℕ) (vids : List Bool) → k < length vids → slice_set (replicate k true ++ drop k vids) k true ≡ replicate (suc k) true ++ drop (suc k) vids
set_behind k [] there = absurd (omega arith)
set_behind zero (b ∷ vids) there = refl
set_behind (suc k) (b ∷ vids) there = ap (λ l. true ∷ l) (set_behind k vids (omega arith))

-- one more of a slice
pub one_picked : (now vids : List Bool) (k : ℕ) → k < length now → length now ≡ length vids → now ≡ replicate k true ++ drop k vids → slice_set now k true ≡ replicate (k + 1) true ++ drop (k + 1) vids
one_picked now vids k there size is =
    let one : suc k ≡ k + 1 = omega arith in
    ap (λ l. slice_set l k true) is ∙ set_behind k vids (omega (arith, there, size)) ∙ ap (λ n. replicate n true ++ drop n vids) one

-- a range of VIDs more
pub range_picked : (vids new : List Bool) (none any : Bool) (first last a e : ℕ) → a ≡ first → e ≡ last → a ≤ e → e + 1 ≤ length vids → any ≡ list_any (λ (asked : Bool). asked) (mid_of a (e + 1 - a) vids) → any ≡ false
    → new ≡ replicate (length (mid_of a (e + 1 - a) vids)) true → with_once (Only vids none) (Vids first last) ≡ Ok (Only (take a vids ++ (new ++ post_of a (e + 1 - a) vids)) none)
range_picked vids new none any first last a e at end rising inside asked nothing filled =
    let none_there : list_any (λ (asked : Bool). asked) (mid_of a (e + 1 - a) vids) ≡ false = sym asked ∙ nothing in
    let picked : take a vids ++ replicate (e + 1 - a) true ++ drop (e + 1) vids ≡ take a vids ++ (new ++ post_of a (e + 1 - a) vids) =
    append_assoc (take a vids) (replicate (e + 1 - a) true) (drop (e + 1) vids)
    ∙ ap (λ l. take a vids ++ (l ++ drop (e + 1) vids)) (sym (filled ∙ ap (λ n. replicate n true) (mid_len a (e + 1) vids inside)))
    ∙ ap (λ l. take a vids ++ (new ++ l)) (sym (Post-is a (e + 1) vids (omega (arith, rising)))) in
    rw (← at, ← end, none_there) (ap (λ (l : List Bool). let s : Result Segments ListFault = Ok (Only l none) in s) picked)
