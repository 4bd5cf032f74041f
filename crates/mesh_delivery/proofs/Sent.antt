-- What one step adds to what left and to what is on its way.
use Rattle.std.proofs.Common.{◌≡◌, ℕ, zero, suc, ◌+◌, ◌≤◌, ◌<◌, Bool, true, false, cond, not, ◌&&◌, refl, sym, ap, ◌∙◌, subst, Option, Some, None, Result, Ok, Err, List, [], ◌∷◌, ◌++◌, length, arith, eqb}
use Rattle.std.specs.Prelude.{slice_get, is_some}
use Rattle.std.specs.Option.{option_map_or}
use Rattle.std.specs.List.{AllByRecursion, remove}
use Rattle.std.proofs.lemmas.Bool.{false≢true}
use Rattle.std.proofs.lemmas.Bool.Decides.{nat_tests}
use Rattle.wire.specs.Frame.{Frame}
use Rattle.wire.proofs.FirstLemmas.{same_Ok}
use Rattle.wire.specs.declared.ether.reason.Reason.{Reason}
use Rattle.wire.specs.declared.ip_udp.addr.Addr.{Addr}
use Rattle.wire.specs.declared.ip_udp.addr.Tunnel.{Tunnel}
use Rattle.filter_db.specs.declared.place.Place.{Place}
use Rattle.filter_db.specs.declared.place.Place.TheVariants.{Local, Remote}
use Rattle.overlay.specs.declared.ports.member.Egress.{Egress}
use Rattle.overlay.specs.Ports.{Ports, is_port, egress_at}
use Rattle.overlay.specs.declared.underlay.settings.Underlay.{Underlay}
use Rattle.overlay.specs.Overlay.{Overlay}
use Rattle.overlay.specs.UnderlaySettings.{is_own}
use Rattle.encapsulate.specs.Emission.{local_text}
use Rattle.encapsulate.specs.Remote.{sending}
use Rattle.overlay.specs.Settings.{Settings as Told}
use Rattle.endpoint_core.specs.Opened.{settings_told}
use Rattle.endpoint_core.specs.Settings.{Settings}
use Rattle.endpoint_core.specs.StateStep.{can_leave}
use Rattle.endpoint_core.specs.Arrival.{emitted, local_octets}
use Rattle.endpoint_core.specs.Decision.{Sent}
use Rattle.mesh_delivery.specs.Mesh.{Origin, Flying, Left, left_one, left_of, flying_one, flying_of}
use Rattle.mesh_delivery.specs.Offspring.{IsLocal, IsOffspring, is_left, is_remote_of}
use Rattle.mesh_delivery.proofs.Counting.{how_many, how_many-append, All_append}
use Rattle.mesh_delivery.proofs.Places.{is_local_at}
use Rattle.mesh_delivery.proofs.Keeping.{Stays}
use Rattle.mesh_delivery.proofs.Wire.{IsWhole, IsReadAs}

-- ---- tests

-- offspring of the frame of this number, on its way to an endpoint with this underlay, and not from there
abbrev pub is_for : ℕ → ℕ → Underlay → Flying → Bool
is_for number n U x = eqb x.origin.number number && (not (eqb x.origin.endpoint n) && is_own U x.addr)

third_of : (a b c : Bool) → cond (a && (b && c)) 1 0 + 0 ≤ cond c 1 0
third_of true true true = omega arith
third_of true true false = omega arith
third_of true false true = omega arith
third_of true false false = omega arith
third_of false b true = omega arith
third_of false b false = omega arith

pub first_false : (a b : Bool) → a ≡ false → a && b ≡ false
first_false true b e = absurd (false≢true (sym e))
first_false false b e = refl

pub second_false : (a b c : Bool) → b ≡ false → a && (b && c) ≡ false
second_false true b c e = first_false b c e
second_false false b c e = refl

nothing : (b : Bool) → 0 ≤ cond b 1 0
nothing true = omega arith
nothing false = omega arith

-- the count of two lists, each bounded
both-bounded : {X : Type 0} (test : X → Bool) (xs ys : List X) (a b : ℕ) → how_many test xs ≤ a → how_many test ys ≤ b → how_many test (xs ++ ys) ≤ a + b
both-bounded test xs ys a b h k = subst (λ (n : ℕ). n ≤ a + b) (sym (how_many-append test xs ys)) (sum h k)
  where
    sum : {m n : ℕ} → m ≤ a → n ≤ b → m + n ≤ a + b
    sum h k = omega arith

both-none : {X : Type 0} (test : X → Bool) (xs ys : List X) → how_many test xs ≡ 0 → how_many test ys ≡ 0 → how_many test (xs ++ ys) ≡ 0
both-none test xs ys h k = how_many-append test xs ys ∙ sum h k
  where
    sum : {m n : ℕ} → m ≡ 0 → n ≡ 0 → m + n ≡ 0
    sum h k = omega arith

-- ---- what left

module _ (origin : Origin) (n : ℕ) (S : Settings) (vid : ℕ) (by : Option Flying) where
  -- no more leave by a port than outlets lead to it
  left-one : (number k p : ℕ) (place : Place) (r : Result (List ℕ) Reason) → how_many (is_left number k p) (left_one origin n S vid by place r) ≤ cond (is_local_at p place) 1 0
  left-one number k p (Local q) (Ok text) = third_of (eqb origin.number number) (eqb n k) (eqb q p)
  left-one number k p (Local q) (Err reason) = nothing (eqb q p)
  left-one number k p (Remote kind a) r = nothing false

  pub left-count : (number k p : ℕ) (sent : List Sent) → how_many (is_left number k p) (left_of origin n S vid by sent) ≤ how_many (λ o. is_local_at p o.place) sent
  left-count number k p [] = omega arith
  left-count number k p (o ∷ sent) = both-bounded (is_left number k p) (left_one origin n S vid by o.place o.sent) (left_of origin n S vid by sent) _ _ (left-one number k p o.place o.sent) (left-count number k p sent)

  -- none passes a test that none of them can pass
  pub left-none : (test : Left → Bool) → ((p : ℕ) (text : List ℕ) → test (record { origin = origin; endpoint = n; settings = S; vid = vid; port = p; by = by; octets = text }) ≡ false) → (sent : List Sent) → how_many test (left_of origin n S vid by sent) ≡ 0
  left-none test fails [] = refl
  left-none test fails (o ∷ sent) = both-none test (left_one origin n S vid by o.place o.sent) (left_of origin n S vid by sent) (one o.place o.sent) (left-none test fails sent)
    where
      one : (place : Place) (r : Result (List ℕ) Reason) → how_many test (left_one origin n S vid by place r) ≡ 0
      one (Local p) (Ok text) = ap (λ (b : Bool). cond b 1 0 + 0) (fails p text)
      one (Local p) (Err reason) = refl
      one (Remote kind a) r = refl

  -- each has the number of its frame
  pub left-numbers : (next : ℕ) → origin.number < next → (sent : List Sent) → AllByRecursion (λ x. x.origin.number < next) (left_of origin n S vid by sent)
  left-numbers next h [] = tt
  left-numbers next h (o ∷ sent) = All_append (λ x. x.origin.number < next) (left_one origin n S vid by o.place o.sent) (left_of origin n S vid by sent) (one o.place o.sent) (left-numbers next h sent)
    where
      one : (place : Place) (r : Result (List ℕ) Reason) → AllByRecursion (λ x. x.origin.number < next) (left_one origin n S vid by place r)
      one (Local p) (Ok text) = (h, tt)
      one (Local p) (Err reason) = tt
      one (Remote kind a) r = tt

-- ---- what is on its way

module _ (origin : Origin) (S : Settings) (vid : ℕ) where
  flying-one : (number k : ℕ) (U : Underlay) (place : Place) (r : Result (List ℕ) Reason) → how_many (is_for number k U) (flying_one origin S vid place r) ≤ cond (is_remote_of U place) 1 0
  flying-one number k U (Remote kind a) (Ok text) = third_of (eqb origin.number number) (not (eqb origin.endpoint k)) (is_own U a)
  flying-one number k U (Remote kind a) (Err reason) = nothing (is_own U a)
  flying-one number k U (Local q) r = nothing false

  pub flying-count : (number k : ℕ) (U : Underlay) (sent : List Sent) → how_many (is_for number k U) (flying_of origin S vid sent) ≤ how_many (λ o. is_remote_of U o.place) sent
  flying-count number k U [] = omega arith
  flying-count number k U (o ∷ sent) = both-bounded (is_for number k U) (flying_one origin S vid o.place o.sent) (flying_of origin S vid sent) _ _ (flying-one number k U o.place o.sent) (flying-count number k U sent)

  pub flying-none : (test : Flying → Bool) → ((kind : Tunnel) (a : Addr) (text : List ℕ) → test (record { origin = origin; sender = S; vid = vid; kind = kind; addr = a; octets = text }) ≡ false) → (sent : List Sent) → how_many test (flying_of origin S vid sent) ≡ 0
  flying-none test fails [] = refl
  flying-none test fails (o ∷ sent) = both-none test (flying_one origin S vid o.place o.sent) (flying_of origin S vid sent) (one o.place o.sent) (flying-none test fails sent)
    where
      one : (place : Place) (r : Result (List ℕ) Reason) → how_many test (flying_one origin S vid place r) ≡ 0
      one (Remote kind a) (Ok text) = ap (λ (b : Bool). cond b 1 0 + 0) (fails kind a text)
      one (Remote kind a) (Err reason) = refl
      one (Local p) r = refl

  -- nothing, where all places are local
  pub flying-local : (sent : List Sent) → AllByRecursion (λ o. IsLocal o.place) sent → flying_of origin S vid sent ≡ []
  flying-local [] h = refl
  flying-local (o ∷ sent) h = ap (λ (xs : List Flying). xs ++ flying_of origin S vid sent) (one o.place o.sent h.0) ∙ flying-local sent h.1
    where
      one : (place : Place) (r : Result (List ℕ) Reason) → IsLocal place → flying_one origin S vid place r ≡ []
      one (Local p) r l = refl
      one (Remote kind a) r l = absurd l

  pub flying-numbers : (next : ℕ) → origin.number < next → (sent : List Sent) → AllByRecursion (λ x. x.origin.number < next) (flying_of origin S vid sent)
  flying-numbers next h [] = tt
  flying-numbers next h (o ∷ sent) = All_append (λ x. x.origin.number < next) (flying_one origin S vid o.place o.sent) (flying_of origin S vid sent) (one o.place o.sent) (flying-numbers next h sent)
    where
      one : (place : Place) (r : Result (List ℕ) Reason) → AllByRecursion (λ x. x.origin.number < next) (flying_one origin S vid place r)
      one (Remote kind a) (Ok text) = (h, tt)
      one (Remote kind a) (Err reason) = tt
      one (Local p) r = tt

-- ---- the packet that is delivered, and the others

rest-of : {X : Type 0} (y : X) (ys : List X) → remove (y ∷ ys) 0 ≡ ys
rest-of y [] = refl
rest-of y (z ∷ zs) = refl

pub taken-count : (test : Flying → Bool) (k : ℕ) (xs : List Flying) (x : Flying) → slice_get xs k ≡ Some x → how_many test xs ≡ cond (test x) 1 0 + how_many test (remove xs k)
taken-count test k [] x e = absurd cc
taken-count test zero (y ∷ ys) x e = let same : y ≡ x = cc in (λ i. cond (test (same i)) 1 0 + how_many test (sym (rest-of y ys) i))
taken-count test (suc k) (y ∷ ys) x e = turn _ _ (cond (test x) 1 0) (how_many test (remove ys k)) (taken-count test k ys x e)
  where
    turn : (a b c d : ℕ) → b ≡ c + d → a + b ≡ c + (a + d)
    turn a b c d h = omega arith

pub taken-all : (P : Flying → Type 0) (k : ℕ) (xs : List Flying) (x : Flying) → slice_get xs k ≡ Some x → AllByRecursion P xs → P x × AllByRecursion P (remove xs k)
taken-all P k [] x e h = absurd cc
taken-all P zero (y ∷ ys) x e h = let same : y ≡ x = cc in (subst P same h.0, subst (AllByRecursion P) (sym (rest-of y ys)) h.1)
taken-all P (suc k) (y ∷ ys) x e h = let rest = taken-all P k ys x e h.1 in (rest.0, (h.0, rest.1))

-- ---- what is emitted

emitted-local : (ports : Ports) (O : Overlay) (vid : ℕ) (f : Frame) (q : ℕ) (text : List ℕ) → Ok text ≡ emitted ports O vid f (Local q) → text ≡ local_octets ports vid f q
unfolding emitted
emitted-local ports O vid f q text e = same_Ok text (local_octets ports vid f q) e

-- the text at a port where a frame can leave
record Leaves (ports : Ports) (vid : ℕ) (f : Frame) (q : ℕ) (text : List ℕ) : Type 0 where
  egress : Egress
  member : egress_at ports vid q ≡ Some egress
  octets : text ≡ local_text vid egress f

second : (a b : Bool) → a && b ≡ true → b ≡ true
second true b h = h
second false b h = absurd (false≢true h)

there : (o : Option Egress) → is_some o ≡ true → (egress : Egress) × (o ≡ Some egress)
there None h = absurd (false≢true h)
there (Some egress) h = (egress, refl)

leaves : (S : Settings) (vid : ℕ) (f : Frame) (q : ℕ) (text : List ℕ) → Ok text ≡ emitted S.ports S.overlay vid f (Local q) → can_leave S vid (Local q) ≡ true → Leaves S.ports vid f q text
leaves S vid f q text e can =
    let found = there (egress_at S.ports vid q) (second (is_port (length S.ports.ports) q) (is_some (egress_at S.ports vid q)) can) in
    record {
      egress = found.0;
      member = found.1;
      octets = emitted-local S.ports S.overlay vid f q text e ∙ ap (λ (o : Option Egress). option_map_or (λ egress. local_text vid egress f) o []) found.1;
    }

emitted-remote : (ports : Ports) (O : Overlay) (vid : ℕ) (f : Frame) (kind : Tunnel) (a : Addr) (text : List ℕ) → Ok text ≡ emitted ports O vid f (Remote kind a) → sending O vid kind a f ≡ Ok text
unfolding emitted
emitted-remote ports O vid f kind a text e = sym e

not_counted : (b : Bool) → cond {A = ℕ} b 1 0 ≡ 0 → b ≡ false
not_counted true h = absurd (omega arith)
not_counted false h = refl

same_number : (a : ℕ) → eqb a a ≡ true
same_number a = grind (arith, nat_tests)

not_equal : (a b : ℕ) → eqb a b ≡ false → a ≡ b → ⊥
not_equal a b h e = false≢true (sym h ∙ ap (eqb a) (sym e) ∙ same_number a)

zero_parts : (a b : ℕ) → a + b ≡ 0 → (a ≡ 0) × (b ≡ 0)
zero_parts a b h = (omega arith, omega arith)

-- each outcome is what is emitted of a frame, at a place where it can leave
abbrev pub AreEmitted : Settings → ℕ → Frame → List Sent → Type 0
AreEmitted S vid f sent = AllByRecursion (λ o. (o.sent ≡ emitted S.ports S.overlay vid f o.place) × (can_leave S vid o.place ≡ true)) sent

-- at the endpoint that a frame came in at
pub left-local : (origin : Origin) (S : Settings) (sent : List Sent) → how_many (λ o. is_local_at origin.port o.place) sent ≡ 0 → AreEmitted S origin.vid origin.frame sent → AllByRecursion IsOffspring (left_of origin origin.endpoint S origin.vid None sent)
left-local origin S [] z each = tt
left-local origin S (o ∷ sent) z each =
    let parts = zero_parts (cond (is_local_at origin.port o.place) 1 0) (how_many (λ o. is_local_at origin.port o.place) sent) z in
    All_append IsOffspring (left_one origin origin.endpoint S origin.vid None o.place o.sent) (left_of origin origin.endpoint S origin.vid None sent) (one o.place o.sent each.0.0 each.0.1 parts.0) (left-local origin S sent parts.1 each.1)
  where
    one : (place : Place) (r : Result (List ℕ) Reason) → r ≡ emitted S.ports S.overlay origin.vid origin.frame place → can_leave S origin.vid place ≡ true → cond {A = ℕ} (is_local_at origin.port place) 1 0 ≡ 0 → AllByRecursion IsOffspring (left_one origin origin.endpoint S origin.vid None place r)
    one (Local q) (Ok text) e can z = (
      record {
        frame = origin.frame;
        egress = (leaves S origin.vid origin.frame q text e can).egress;
        member = (leaves S origin.vid origin.frame q text e can).member;
        octets = (leaves S origin.vid origin.frame q text e can).octets;
        dst = refl;
        src = refl;
        body = refl;
        not_back = λ here port. not_equal q origin.port (not_counted (eqb q origin.port) z) port;
        in_segment = (refl, refl);
      },
      tt,
    )
    one (Local q) (Err reason) e can z = tt
    one (Remote kind a) r e can z = tt

-- where a packet brought it
pub left-far : (y : Flying) (n : ℕ) (S : Settings) (vid : ℕ) (g : Frame) → (n ≡ y.origin.endpoint → ⊥) → y.vid ≡ y.origin.vid → IsReadAs y.sender.overlay S.overlay y.vid y.kind y.origin.frame vid g → (sent : List Sent) → AreEmitted S vid g sent
    → AllByRecursion IsOffspring (left_of y.origin n S vid (Some y) sent)
left-far y n S vid g other same_segment read [] each = tt
left-far y n S vid g other same_segment read (o ∷ sent) each =
    All_append IsOffspring (left_one y.origin n S vid (Some y) o.place o.sent) (left_of y.origin n S vid (Some y) sent) (one o.place o.sent each.0.0 each.0.1) (left-far y n S vid g other same_segment read sent each.1)
  where
    one : (place : Place) (r : Result (List ℕ) Reason) → r ≡ emitted S.ports S.overlay vid g place → can_leave S vid place ≡ true → AllByRecursion IsOffspring (left_one y.origin n S vid (Some y) place r)
    one (Local q) (Ok text) e can = (
      record {
        frame = g;
        egress = (leaves S vid g q text e can).egress;
        member = (leaves S vid g q text e can).member;
        octets = (leaves S vid g q text e can).octets;
        dst = read.dst;
        src = read.src;
        body = read.body;
        not_back = λ here port. other here;
        in_segment = (read.vni, same_segment, read.sent_with, read.read_with);
      },
      tt,
    )
    one (Local q) (Err reason) e can = tt
    one (Remote kind a) r e can = tt

-- a packet on its way is what its sender emitted, and the sender's underlay and tunnels are those that it was opened with
pub record IsSent (told : ℕ → Told) (x : Flying) : Type 0 where
  pub sent : sending x.sender.overlay x.vid x.kind x.addr x.origin.frame ≡ Ok x.octets
  pub keeps : Stays x.sender (settings_told (told x.origin.endpoint))
  pub vid : x.vid ≡ x.origin.vid
  pub whole : IsWhole x.origin.frame

pub flying-sent : (told : ℕ → Told) (origin : Origin) (S : Settings) → Stays S (settings_told (told origin.endpoint)) → IsWhole origin.frame → (sent : List Sent) → AreEmitted S origin.vid origin.frame sent → AllByRecursion (IsSent told) (flying_of origin S origin.vid sent)
flying-sent told origin S keeps whole [] each = tt
flying-sent told origin S keeps whole (o ∷ sent) each =
    All_append (IsSent told) (flying_one origin S origin.vid o.place o.sent) (flying_of origin S origin.vid sent) (one o.place o.sent each.0.0) (flying-sent told origin S keeps whole sent each.1)
  where
    one : (place : Place) (r : Result (List ℕ) Reason) → r ≡ emitted S.ports S.overlay origin.vid origin.frame place → AllByRecursion (IsSent told) (flying_one origin S origin.vid place r)
    one (Remote kind a) (Ok text) e = (record { sent = emitted-remote S.ports S.overlay origin.vid origin.frame kind a text e; keeps = keeps; vid = refl; whole = whole }, tt)
    one (Remote kind a) (Err reason) e = tt
    one (Local q) r e = tt
