-- Octets that were looked at, and are handed out again.
use Rattle.std.proofs.Common.{◌≡◌, ◌∙◌, sym, ap, subst, ℕ, ◌+◌, ◌<◌, ◌≤◌, List, [], ◌++◌, length, take, drop, arith, append-nil, take-append-drop, Option, None, Some, Result, inl, inr}
use Rattle.std.proofs.KnownBytes.{Keeps-refl, prepend_known-nil, prepend_known-read}
use Rattle.std.proofs.lemmas.Bool.{cases_lt}
use Rattle.std.proofs.lemmas.List.{drop-drop, take_all, take_at}
use Rattle.std.specs.Io.KnownBytes.{Consumes, IsAtEnd, Keeps, ReadConsumes, prepend_known}
use Rattle.pcap.specs.declared.stream.device.DeviceFault.{DeviceFault}
use Rattle.pcap.specs.Head.{IsHeadOf}

head_of : (rest : Option (List ℕ)) (head : List ℕ) → length head ≤ 24 → (length head < 24 → IsAtEnd rest) → IsHeadOf (prepend_known head rest) head
head_of None head size end = tt
head_of (Some rest) head size end = elim (cases_lt (length head) 24) [
  | inl short ↦ sym (ap (λ (l : List ℕ). take 24 (head ++ l)) (end short) ∙ ap (take 24) (append-nil head) ∙ take_all 24 head size)
  | inr long ↦ sym (take_at head rest 24 (omega arith))
]

pub head_first : (old new : Option (List ℕ)) (head : List ℕ) → Consumes old new head → length head ≤ 24 → (length head < 24 → IsAtEnd new) → IsHeadOf old head
head_first None new head taken size end = tt
head_first (Some text) None head taken size end = absurd taken
head_first (Some text) (Some rest) head taken size end = head_of (Some rest) head size end ∙ sym (ap (take 24) taken)

pub same_octets : (old new : Option (List ℕ)) (head : List ℕ) → Consumes old new head → Keeps old (prepend_known head new)
same_octets None new head taken = tt
same_octets (Some text) None head taken = absurd taken
same_octets (Some text) (Some rest) head taken = sym taken

pub head_read : (rest : Option (List ℕ)) (head octets : List ℕ) (at n : ℕ) → take n octets ≡ take n (drop at head) → Consumes (prepend_known (drop at head) rest) (prepend_known (drop (at + n) head) rest) (take n octets)
head_read rest head octets at n same =
    subst (Consumes (prepend_known (drop at head) rest) (prepend_known (drop (at + n) head) rest)) (sym same)
    (prepend_known-read (prepend_known (drop at head) rest) rest (drop at head) (drop (at + n) head) (take n (drop at head)) ⊥ (Keeps-refl (prepend_known (drop at head) rest))
    (sym (take-append-drop n (drop at head)) ∙ ap (λ (l : List ℕ). take n (drop at head) ++ l) (drop-drop n at head)) (λ e. absurd e)).0

pub rest_read : (old new : Option (List ℕ)) (result : Result ℕ DeviceFault) (front octets : List ℕ) → front ≡ [] → ReadConsumes old new result octets
    → ReadConsumes (prepend_known front old) (prepend_known front new) result octets
rest_read old new result front octets e h =
    subst (λ (l : List ℕ). ReadConsumes (prepend_known l old) (prepend_known l new) result octets) (sym e)
    (subst (λ (o : Option (List ℕ)). ReadConsumes o (prepend_known [] new) result octets) (sym (prepend_known-nil old))
    (subst (λ (o : Option (List ℕ)). ReadConsumes old o result octets) (sym (prepend_known-nil new)) h))
