-- Headers, one after another.
use Rattle.std.proofs.Common.{◌≡◌, ◌≢◌, ◌∙◌, refl, sym, ap, subst, ℕ, zero, suc, ◌+◌, ◌<◌, ◌≤◌, ◌==◌, Bool, true, false, List, [], ◌++◌, length, replicate, Result, Ok, Err, inl, slice_index_or, slice_set, arith, append-nil}
use Rattle.std.specs.Prelude.{nat_lt}
use Rattle.std.proofs.lemmas.Bool.{eqb-true, eqb-false, ltb-true, ltb-false}
use Rattle.std.proofs.lemmas.List.{get_or-set_same, get_or-set_other, get_or-replicate, length-set, length-replicate, ext_get_or}
use Rattle.pcap.specs.Written.{written_header}
use Rattle.capture_run.specs.Outputs.{Outputs}
use Rattle.capture_run.specs.Writing.{empty_outputs}
use Rattle.stream_run.specs.Stage.{Drains, Lead, StandAt, StandBetween, no_texts}
use Rattle.stream_run.specs.declared.fault.Target.{Target}
use Rattle.stream_run.proofs.Standing.{AreFronts, IsFront, fronts_self, wider}

-- the first i of n texts are headers, and the others are empty
pub record AreHeaders (n i : ℕ) (texts : List (List ℕ)) : Type 0 where
  pub size : length texts ≡ n
  pub done : (k : ℕ) → k < i → k < n → slice_index_or texts k [] ≡ written_header
  pub left : (k : ℕ) → i ≤ k → slice_index_or texts k [] ≡ []

-- the outputs hold as many headers, and nothing else
abbrev pub with_ports : List (List ℕ) → Outputs
with_ports texts = record { ports = texts; underlay = []; decisions = [] }

pub record BegunSoFar (n i : ℕ) (start now : Drains) : Type 0 where
  pub texts : List (List ℕ)
  pub headers : AreHeaders n i texts
  pub stand : StandAt start now (with_ports texts)

pub nothing_at : (n k : ℕ) → slice_index_or (replicate {A = List ℕ} n []) k [] ≡ []
nothing_at zero k = refl
nothing_at (suc n) zero = refl
nothing_at (suc n) (suc k) = nothing_at n k

pub none_begun : (n : ℕ) (start now : Drains) → StandAt start now (no_texts n) → BegunSoFar n 0 start now
none_begun n start now stand = record {
  texts = replicate n [];
  headers = record { size = length-replicate n []; done = λ k less inside. absurd (omega arith); left = λ k le. nothing_at n k };
  stand = stand;
}

abbrev pub one_more : ℕ → List (List ℕ) → List (List ℕ)
one_more i texts = slice_set texts i (slice_index_or texts i [] ++ written_header)

pub headers_more : (n i : ℕ) (texts : List (List ℕ)) → i < n → AreHeaders n i texts → AreHeaders n (i + 1) (one_more i texts)
headers_more n i texts lt h = record {
  size = length-set texts i (slice_index_or texts i [] ++ written_header) ∙ h.size;
  done = λ k less inside. by k less inside (k == i) refl;
  left = λ k le. get_or-set_other texts i k (slice_index_or texts i [] ++ written_header) [] (λ is. omega (arith, le, is)) ∙ h.left k (omega (arith, le));
}
  where
    by : (k : ℕ) → k < i + 1 → k < n → (b : Bool) → (k == i) ≡ b → slice_index_or (one_more i texts) k [] ≡ written_header
    by k less inside true is =
        let same : i ≡ k = sym (eqb-true k i is) in
        subst (λ k. slice_index_or (one_more i texts) k [] ≡ written_header) same
        (get_or-set_same texts i (slice_index_or texts i [] ++ written_header) [] (omega (arith, lt, h.size)) ∙ ap (λ l. l ++ written_header) (h.left i (omega arith)))
    by k less inside false is =
        let apart : k ≢ i = eqb-false k i is in
        get_or-set_other texts i k (slice_index_or texts i [] ++ written_header) [] apart ∙ h.done k (omega (arith, less, apart)) inside

pub headers_all : (n i : ℕ) (texts : List (List ℕ)) → n ≤ i → AreHeaders n i texts → texts ≡ replicate n written_header
headers_all n i texts le h =
    ext_get_or [] texts (replicate n written_header) (h.size ∙ sym (length-replicate n written_header))
    (λ k lt. h.done k (omega (arith, lt, h.size, le)) (omega (arith, lt, h.size)) ∙ sym (get_or-replicate n k written_header [] (omega (arith, lt, h.size))))

-- nothing is the front of them, and they are that of all
pub nothing_front : (n i : ℕ) (texts : List (List ℕ)) → AreHeaders n i texts → AreFronts (no_texts n) (with_ports texts)
nothing_front n i texts h = record {
  many = h.size ∙ sym (length-replicate n []);
  ports = λ k lt. (slice_index_or texts k [], ap (λ l. l ++ slice_index_or texts k []) (sym (get_or-replicate n k [] [] (omega (arith, lt, length-replicate {A = List ℕ} n [])))));
  underlay = ([], refl);
  decisions = ([], refl);
}

pub front_of_all : (n i : ℕ) (texts : List (List ℕ)) → AreHeaders n i texts → AreFronts (with_ports texts) (empty_outputs n)
front_of_all n i texts h = record {
  many = length-replicate n written_header ∙ sym h.size;
  ports = λ k lt. by k (omega (arith, lt, h.size)) (nat_lt k i) refl;
  underlay = (written_header, refl);
  decisions = ([], refl);
}
  where
    by : (k : ℕ) → k < n → (b : Bool) → nat_lt k i ≡ b → IsFront (slice_index_or texts k []) (slice_index_or (replicate n written_header) k [])
    by k inside true is = ([], get_or-replicate n k written_header [] inside ∙ sym (h.done k (ltb-true _ _ is) inside ∙ refl) ∙ sym (append-nil (slice_index_or texts k [])))
    by k inside false is = (written_header, get_or-replicate n k written_header [] inside ∙ ap (λ l. l ++ written_header) (sym (h.left k (ltb-false _ _ is))))

-- ---- the outputs

-- a header more, or a part of one where it failed
pub begun_more : (n i : ℕ) (start now new : Drains) (so_far : BegunSoFar n i start now) → i < n → StandAt start new (with_ports (one_more i so_far.texts)) → BegunSoFar n (i + 1) start new
begun_more n i start now new so_far there stand = record { texts = one_more i so_far.texts; headers = headers_more n i so_far.texts there so_far.headers; stand = stand }

pub begun_part : (n i : ℕ) (start now new : Drains) (so_far : BegunSoFar n i start now) → i < n → StandBetween start new (with_ports so_far.texts) (with_ports (one_more i so_far.texts)) → StandBetween start new (no_texts n) (empty_outputs n)
begun_part n i start now new so_far there at =
    wider start new (no_texts n) (with_ports so_far.texts) (with_ports (one_more i so_far.texts)) (empty_outputs n) at (nothing_front n i so_far.texts so_far.headers)
    (front_of_all n (i + 1) (one_more i so_far.texts) (headers_more n i so_far.texts there so_far.headers)) (inl at.decisions)

-- the header of the underlay behind all others
module _ {T : Type 0} where
  pub begun_all : (n i : ℕ) (start now new : Drains) (result : Result T Target) (so_far : BegunSoFar n i start now) → n ≤ i
      → Lead start new (with_ports so_far.texts) (record (with_ports so_far.texts) { underlay = written_header }) result → Lead start new (no_texts n) (empty_outputs n) result
  begun_all n i start now new result so_far le lead =
      by result (subst (λ texts. Lead start new (with_ports so_far.texts) (record { ports = texts; underlay = written_header; decisions = [] }) result) (headers_all n i so_far.texts le so_far.headers) lead)
    where
      by : (result : Result T Target) → Lead start new (with_ports so_far.texts) (empty_outputs n) result → Lead start new (no_texts n) (empty_outputs n) result
      by (Ok x) h = h
      by (Err target) h = (wider start new (no_texts n) (with_ports so_far.texts) (empty_outputs n) (empty_outputs n) h.0 (nothing_front n i so_far.texts so_far.headers) (fronts_self (empty_outputs n)) (inl h.0.decisions), h.1)
