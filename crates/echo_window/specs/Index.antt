-- Where the frames that are kept are looked for: by their buckets, from the latest to the earliest. It serves proofs.
use Rattle.std.specs.Prelude.{◌≡◌, ◌<◌, ◌≤◌, ℕ, ◌+◌, ◌-◌, ◌%◌, Bool, true, false, List, [], ◌∷◌, get_or, length, map, Option, Some, None, ⊤}
use Rattle.echo_window.specs.Bucket.{bucket_of}
use Rattle.echo_window.specs.Echo.{Arrival}
use Rattle.echo_window.specs.Laid.{IsLaid, laid}
use Rattle.echo_window.specs.declared.kept.Kept.{Kept}

-- the buckets of frames
abbrev pub buckets : List Arrival → List ℕ
buckets came = map (λ c. bucket_of c.frame) came

-- where they came in
abbrev pub places : List Arrival → List ℕ
places came = map (λ c. c.place) came

-- what frames say comes before them
abbrev pub befores : List Kept → List ℕ
befores ks = map (λ k. k.before) ks

-- whether they say that those before them in their buckets came in where they did
abbrev pub alikes : List Kept → List Bool
alikes ks = map (λ k. k.alike) ks

-- the index of the frame with a number, where the first that is kept has this one. Behind the greatest number comes 0
abbrev pub index_of : ℕ → ℕ → ℕ
index_of first number = (number + (18446744073709551616 - first)) % 18446744073709551616

-- where one of the frames before an index has this bucket, this is the index of the latest that has it. Where none has, it may be
-- any
abbrev pub IsLatest : List ℕ → ℕ → ℕ → ℕ → Type 0
IsLatest bs end bucket i = (k : ℕ) → k < end → get_or bs k 0 ≡ bucket → (i < end) × (k ≤ i) × (get_or bs i 0 ≡ bucket)

-- the latest of each bucket is told, and of each frame the one before it in its bucket
pub record IsLinked (first : ℕ) (bs befores latest : List ℕ) : Type 0 where
  pub last : (b : ℕ) → b < length latest → IsLatest bs (length bs) b (index_of first (get_or latest b 0))
  pub before : (j : ℕ) → j < length bs → IsLatest bs j (get_or bs j 0) (index_of first (get_or befores j 0))

-- all frames with a bucket came in at a place
abbrev pub IsAllAt : List Arrival → ℕ → ℕ → Type 0
IsAllAt came bucket place = (i : ℕ) → i < length came → get_or (buckets came) i 0 ≡ bucket → get_or (places came) i 0 ≡ place

-- before a frame that says so none with its bucket came in elsewhere
abbrev pub AreAlike : List ℕ → List ℕ → List Bool → Type 0
AreAlike bs ps said = (j i : ℕ) → j < length bs → i < j → get_or said j false ≡ true → get_or bs i 0 ≡ get_or bs j 0
    → get_or ps i 0 ≡ get_or ps j 0

-- so many octets came before those of each frame, counted as frames are
abbrev pub IsPlaced : ℕ → List Kept → Type 0
IsPlaced passed [] = ⊤
IsPlaced passed (k ∷ ks) = (k.at ≡ passed) × IsPlaced ((passed + k.length) % 18446744073709551616) ks

-- the frames stand in the row, and are indexed
pub record IsKept (ks : List Kept) (row : List ℕ) (capacity first passed : ℕ) (latest : List ℕ) : Type 0 where
  pub stands : IsLaid ks row capacity
  pub table : length latest ≡ 16384
  pub low : (first < 18446744073709551616) × (passed < 18446744073709551616)
  pub linked : IsLinked first (buckets (laid ks row)) (befores ks) latest
  pub placed : IsPlaced passed ks
  pub alike : AreAlike (buckets (laid ks row)) (places (laid ks row)) (alikes ks)

-- the first frame from an index on for which a test holds
pub record IsFirstFrom (test : Arrival → Bool) (came : List Arrival) (d : Arrival) (begin i : ℕ) : Type 0 where
  pub inside : i < length came
  pub behind : begin ≤ i
  pub here : test (get_or came i d) ≡ true
  pub before : (k : ℕ) → begin ≤ k → k < i → test (get_or came k d) ≡ false

-- that one, or that there is none
abbrev pub FindsFrom : (Arrival → Bool) → List Arrival → Arrival → ℕ → Option ℕ → Type 0
FindsFrom test came d begin (Some i) = IsFirstFrom test came d begin i
FindsFrom test came d begin None = (k : ℕ) → begin ≤ k → k < length came → test (get_or came k d) ≡ false
