-- The offspring of a frame in a full mesh.
use Rattle.std.proofs.Common.{◌≡◌, ℕ, ◌+◌, ◌≤◌, ◌<◌, Bool, true, false, cond, not, ◌&&◌, refl, sym, ap, ◌∙◌, subst, Option, Some, None, Result, Ok, Err, List, [], ◌∷◌, ◌++◌, length, arith, eqb, le_trans}
use Rattle.std.specs.Prelude.{slice_get, ◌==◌}
use Rattle.std.specs.List.{AllByRecursion, count_by, remove}
use Rattle.std.proofs.lemmas.Bool.{eqb-true}
use Rattle.wire.specs.declared.ether.reason.Refused.{Refused}
use Rattle.wire.specs.declared.ip_udp.addr.Tunnel.{Tunnel}
use Rattle.wire.specs.declared.ip_udp.addr.Tunnel.TheVariants.{Vxlan, Geneve}
use Rattle.overlay.specs.declared.underlay.settings.Underlay.{Underlay}
use Rattle.overlay.specs.UnderlaySettings.{is_own, port_of}
use Rattle.overlay.specs.Settings.{Settings as Told}
use Rattle.encapsulate.specs.Sender.{IsUnderlay}
use Rattle.endpoint_core.specs.Opened.{settings_told}
use Rattle.endpoint_core.specs.Settings.{Settings, SegmentSettings, segment_at}
use Rattle.endpoint_core.specs.Sound.{is_reached}
use Rattle.endpoint_core.specs.StateStep.{can_leave}
use Rattle.endpoint_core.specs.State.{State as Bridges, aged}
use Rattle.endpoint_core.specs.Arrival.{Arrival}
use Rattle.endpoint_core.specs.Arrival.{came_at, came_by, emitted}
use Rattle.endpoint_core.specs.Decision.{Sent}
use Rattle.endpoint_core.specs.Event.{Event, frame_at, packet_at, change_at}
use Rattle.endpoint_core.specs.Step.{decided, answer, after}
use Rattle.mesh_delivery.specs.Full.{IsMesh, AreFull, Throughout}
use Rattle.mesh_delivery.specs.Mesh.{Origin, Flying, Left, Mesh, settings_at, outcomes_of, left_of, flying_of, Happening, Comes, Changes, Delivers, with_event, after_local, after_delivery, delivered, mesh_after, mesh_run, new_mesh}
use Rattle.mesh_delivery.specs.Offspring.{IsLocal, IsOffspring, is_left}
use Rattle.mesh_delivery.proofs.Counting.{how_many, how_many-append, how_many-count, All_append, All_both}
use Rattle.mesh_delivery.proofs.Entering.{came_at-entered}
use Rattle.mesh_delivery.proofs.Keeping.{Stays, Stays-itself, Stays-then}
use Rattle.mesh_delivery.proofs.Reached.{Stays-after, Knows, Knows-aged, Knows-after, Knows-opened, came-reached}
use Rattle.mesh_delivery.proofs.Sent.{is_for, first_false, second_false, left-count, left-none, left-numbers, flying-local, flying-numbers, taken-count, taken-all, left-local, left-far, AreEmitted, IsSent, flying-sent}
use Rattle.mesh_delivery.proofs.Steps.{Sends, sends, sends-leaving, sends-locally, came-far}
use Rattle.mesh_delivery.proofs.Wire.{IsReadAs, delivered-as}
use Rattle.mesh_delivery.proofs.Counts.{unequal, regroup, less_one, counts-local, later, this_one}
use Rattle.mesh_delivery.proofs.Underlays.{underlay-kept}
use Rattle.mesh_delivery.proofs.Vnis.{vnis-told}

-- ---- what is kept

pub record Kept (told : ℕ → Told) (m : Mesh) : Type 0 where
  pub knows : (n : ℕ) → Knows (m.endpoints n).bridges
  pub keeps : (n : ℕ) → Stays (settings_at m n) (settings_told (told n))
  pub counts : (number n p : ℕ) → how_many (is_left number n p) m.left + how_many (is_for number n (told n).underlay) m.flying ≤ 1
  pub old_left : AllByRecursion (λ x. x.origin.number < m.frames) m.left
  pub old_flying : AllByRecursion (λ x. x.origin.number < m.frames) m.flying
  pub flying : AllByRecursion (IsSent told) m.flying
  pub left : AllByRecursion IsOffspring m.left

knows-with : (m : Mesh) (endpoint : ℕ) (e : Event) → ((n : ℕ) → Knows (m.endpoints n).bridges) → (n : ℕ) → Knows (with_event m endpoint e n).bridges
knows-with m endpoint e h n = by (n == endpoint)
  where
    by : (b : Bool) → Knows (cond b (after (m.endpoints endpoint) e) (m.endpoints n)).bridges
    by true = Knows-after (m.endpoints endpoint) e (h endpoint)
    by false = h n

keeps-with : (told : ℕ → Told) (m : Mesh) (endpoint : ℕ) (e : Event) → ((n : ℕ) → Stays (settings_at m n) (settings_told (told n))) → (n : ℕ) → Stays (with_event m endpoint e n).bridges.settings (settings_told (told n))
keeps-with told m endpoint e h n = by (n == endpoint) refl
  where
    by : (b : Bool) → (n == endpoint) ≡ b → Stays (cond b (after (m.endpoints endpoint) e) (m.endpoints n)).bridges.settings (settings_told (told n))
    by true same =
        subst (λ (k : ℕ). Stays (after (m.endpoints endpoint) e).bridges.settings (settings_told (told k))) (sym (eqb-true n endpoint same))
        (Stays-then (after (m.endpoints endpoint) e).bridges.settings (settings_at m endpoint) (settings_told (told endpoint)) (Stays-after (m.endpoints endpoint) e) (h endpoint))
    by false other = h n

-- ---- one happening

-- each outcome is what is emitted, at a place where the frame can leave
emitted-for : (t : ℕ) (B : Bridges) (x : Arrival) (sent : List Sent) → Knows B → is_reached B.settings.overlay x.vid x.from ≡ true → sent ≡ (decided t B (Ok x)).outcomes → Sends B.settings x sent → AreEmitted B.settings x.vid x.frame sent
emitted-for t B x sent knows reached_it is out =
    All_both (λ (o : Sent). o.sent ≡ emitted B.settings.ports B.settings.overlay x.vid x.frame o.place) (λ o. can_leave B.settings x.vid o.place ≡ true) sent out.each
    (subst (AllByRecursion (λ (o : Sent). can_leave B.settings x.vid o.place ≡ true)) (sym is) (sends-leaving t B x knows reached_it))

module _ (told : ℕ → Told) (mesh : IsMesh told) where
  abbrev U : ℕ → Underlay
  U n = (told n).underlay

  kept-underlay : (n : ℕ) → IsUnderlay (told n).underlay
  kept-underlay n = underlay-kept (told n).underlay (mesh.rules n).underlay

  -- each flood list has at most one entry of each endpoint
  once-on : (m : Mesh) → Kept told m → AreFull m → (endpoint vid n : ℕ) (s : SegmentSettings) → segment_at (settings_at m endpoint) vid ≡ Some s → how_many (λ r. is_own (U n) r.addr) s.flood ≤ 1
  once-on m kept full endpoint vid n s is =
      subst (λ (u : Underlay). how_many (λ r. is_own u r.addr) s.flood ≤ 1) (kept.keeps n).underlay
      (subst (λ (k : ℕ). k ≤ 1) (sym (how_many-count (λ r. is_own (settings_at m n).overlay.underlay r.addr) s.flood)) ((full endpoint vid s is).once n))

  port-same : (n k : ℕ) (kind : Tunnel) → port_of (U n) kind ≡ port_of (U k) kind
  port-same n k Vxlan = mesh.vxlan_port n k
  port-same n k Geneve = mesh.geneve_port n k

  Kept-local : (m : Mesh) → Kept told m → AreFull m → (endpoint t port original : ℕ) (b : List ℕ) (r : Result Arrival Refused) → came_at (settings_at m endpoint).ports (settings_at m endpoint).overlay port original b ≡ r
      → Kept told (after_local m endpoint port (frame_at t port original b) r)
  Kept-local m kept full endpoint t port original b (Err refused) is = record {
    knows = knows-with m endpoint (frame_at t port original b) kept.knows;
    keeps = keeps-with told m endpoint (frame_at t port original b) kept.keeps;
    counts = kept.counts;
    old_left = later (λ (x : Left). x.origin.number) m.frames m.left kept.old_left;
    old_flying = later (λ (x : Flying). x.origin.number) m.frames m.flying kept.old_flying;
    flying = kept.flying;
    left = kept.left;
  }
  Kept-local m kept full endpoint t port original b (Ok x) is =
      let e = frame_at t port original b in
      let S = settings_at m endpoint in
      let B = aged t (m.endpoints endpoint).bridges in
      let origin : Origin = record { number = m.frames; endpoint = endpoint; port = port; vid = x.vid; frame = x.frame } in
      let sent = outcomes_of (answer (m.endpoints endpoint) e) in
      let entered = came_at-entered S.ports S.overlay port original b x is in
      let out : Sends S x sent = subst (λ (r : Result Arrival Refused). Sends S x (decided t B r).outcomes) (sym is) (sends t B x) in
      let each : AreEmitted S x.vid x.frame sent =
      emitted-for t B x sent (Knows-aged t (m.endpoints endpoint).bridges (kept.knows endpoint)) (ap (is_reached S.overlay x.vid) entered.from) (ap (λ (r : Result Arrival Refused). (decided t B r).outcomes) is) out in
      record {
        knows = knows-with m endpoint e kept.knows;
        keeps = keeps-with told m endpoint e kept.keeps;
        counts = counts-local U origin S x sent m.left m.flying refl out (λ n s there. once-on m kept full endpoint x.vid n s there) kept.counts kept.old_left kept.old_flying;
        old_left = All_append (λ y. y.origin.number < m.frames + 1) (left_of origin endpoint S x.vid None sent) m.left (left-numbers origin endpoint S x.vid None (m.frames + 1) (this_one m.frames) sent) (later (λ (y : Left). y.origin.number) m.frames m.left kept.old_left);
        old_flying = All_append (λ y. y.origin.number < m.frames + 1) (flying_of origin S x.vid sent) m.flying (flying-numbers origin S x.vid (m.frames + 1) (this_one m.frames) sent) (later (λ (y : Flying). y.origin.number) m.frames m.flying kept.old_flying);
        flying = All_append (IsSent told) (flying_of origin S x.vid sent) m.flying (flying-sent told origin S (kept.keeps endpoint) entered.whole sent each) kept.flying;
        left = All_append IsOffspring (left_of origin endpoint S x.vid None sent) m.left (left-local origin S sent (out.back port entered.from) each) kept.left;
      }

  -- what a delivery brings to a port of an endpoint was on its way there
  new-below : (y : Flying) (endpoint : ℕ) (S : Settings) (x : Arrival) (sent : List Sent) → Sends S x sent → is_own (U endpoint) y.addr ≡ true → (endpoint ≡ y.origin.endpoint → ⊥)
      → (number n p : ℕ) → how_many (is_left number n p) (left_of y.origin endpoint S x.vid (Some y) sent) ≤ cond (is_for number n (U n) y) 1 0
  new-below y endpoint S x sent sends owned other number n p = by (eqb y.origin.number number) (eqb endpoint n) refl refl
    where
      nothing_new : {a b : ℕ} → a ≡ 0 → a ≤ b
      nothing_new e = omega arith

      by : (a b : Bool) → eqb y.origin.number number ≡ a → eqb endpoint n ≡ b → how_many (is_left number n p) (left_of y.origin endpoint S x.vid (Some y) sent) ≤ cond (is_for number n (U n) y) 1 0
      by false b e h = nothing_new (left-none y.origin endpoint S x.vid (Some y) (is_left number n p) (λ q octets. first_false (eqb y.origin.number number) ((eqb endpoint n) && (eqb q p)) e) sent)
      by true false e h = nothing_new (left-none y.origin endpoint S x.vid (Some y) (is_left number n p) (λ q octets. second_false (eqb y.origin.number number) (eqb endpoint n) (eqb q p) h) sent)
      by true true e h =
          let same : endpoint ≡ n = eqb-true endpoint n h in
          let apart_here : eqb y.origin.endpoint n ≡ false = ap (eqb y.origin.endpoint) (sym same) ∙ unequal y.origin.endpoint endpoint other in
          let owned_here : is_own (U n) y.addr ≡ true = ap (λ (k : ℕ). is_own (U k) y.addr) (sym same) ∙ owned in
          let test : is_for number n (U n) y ≡ true = (λ i. e i && (not (apart_here i) && owned_here i)) in
          subst (λ (b : Bool). how_many (is_left number n p) (left_of y.origin endpoint S x.vid (Some y) sent) ≤ cond b 1 0) (sym test)
          (le_trans (left-count y.origin endpoint S x.vid (Some y) number n p sent) (sends.locals p))

  Kept-delivery : (m : Mesh) → Kept told m → AreFull m → (endpoint t place : ℕ) (y : Flying) → slice_get m.flying place ≡ Some y → is_own (settings_at m endpoint).overlay.underlay y.addr ≡ true
      → (r : Result Arrival Refused) → came_by (settings_at m endpoint).overlay (length y.octets) y.octets ≡ r
      → Kept told (after_delivery m endpoint (packet_at t (length y.octets) y.octets) y (remove m.flying place) r)
  Kept-delivery m kept full endpoint t place y taken owned (Err refused) is = record {
    knows = knows-with m endpoint (packet_at t (length y.octets) y.octets) kept.knows;
    keeps = keeps-with told m endpoint (packet_at t (length y.octets) y.octets) kept.keeps;
    counts = λ number n p. less_one (how_many (is_left number n p) m.left) _ _ _ (taken-count (is_for number n (U n)) place m.flying y taken) (kept.counts number n p);
    old_left = kept.old_left;
    old_flying = (taken-all (λ z. z.origin.number < m.frames) place m.flying y taken kept.old_flying).1;
    flying = (taken-all (IsSent told) place m.flying y taken kept.flying).1;
    left = kept.left;
  }
  Kept-delivery m kept full endpoint t place y taken owned (Ok x) is =
      let e = packet_at t (length y.octets) y.octets in
      let S = settings_at m endpoint in
      let B = aged t (m.endpoints endpoint).bridges in
      let sent = outcomes_of (answer (m.endpoints endpoint) e) in
      let rest = remove m.flying place in
      let knows = Knows-aged t (m.endpoints endpoint).bridges (kept.knows endpoint) in
      let here = kept.keeps endpoint in
      let ok : IsSent told y = (taken-all (IsSent told) place m.flying y taken kept.flying).0 in
      let out : Sends S x sent = subst (λ (r : Result Arrival Refused). Sends S x (decided t B r).outcomes) (sym is) (sends t B x) in
      let far = came-far S.overlay (length y.octets) y.octets x is in
      let reached_it = came-reached S.overlay (length y.octets) y.octets x knows.flood is in
      let each : AreEmitted S x.vid x.frame sent = emitted-for t B x sent knows reached_it (ap (λ (r : Result Arrival Refused). (decided t B r).outcomes) is) out in
      let local : AllByRecursion (λ o. IsLocal o.place) sent =
      subst (λ (r : Result Arrival Refused). AllByRecursion (λ (o : Sent). IsLocal o.place) (decided t B r).outcomes) (sym is)
      (sends-locally t B x far.0 far.1 knows far.2 reached_it (λ s there. (full endpoint x.vid s there).one_group)) in
      let none_flies : flying_of y.origin S x.vid sent ≡ [] = flying-local y.origin S x.vid sent local in
      let read : IsReadAs y.sender.overlay S.overlay y.vid y.kind y.origin.frame x.vid x.frame =
      delivered-as y.sender.overlay S.overlay y.vid y.kind y.addr y.origin.frame y.octets (length y.octets) x
      (subst IsUnderlay (sym ok.keeps.underlay) (kept-underlay y.origin.endpoint))
      (subst IsUnderlay (sym here.underlay) (kept-underlay endpoint))
      ok.whole
      (ap (λ (u : Underlay). port_of u y.kind) ok.keeps.underlay ∙ port-same y.origin.endpoint endpoint y.kind ∙ sym (ap (λ (u : Underlay). port_of u y.kind) here.underlay))
      (λ tunnel there. ok.keeps.vnis (vnis-told (told y.origin.endpoint) (mesh.rules y.origin.endpoint)) y.vid y.kind tunnel there)
      owned ok.sent is in
      let other : endpoint ≡ y.origin.endpoint → ⊥ = λ same. read.another (here.underlay ∙ ap (λ (n : ℕ). (told n).underlay) same ∙ sym ok.keeps.underlay) in
      let owned_here : is_own (U endpoint) y.addr ≡ true = ap (λ (u : Underlay). is_own u y.addr) (sym here.underlay) ∙ owned in
      let old : (y.origin.number < m.frames) × AllByRecursion (λ z. z.origin.number < m.frames) rest = taken-all (λ z. z.origin.number < m.frames) place m.flying y taken kept.old_flying in
      record {
        knows = knows-with m endpoint e kept.knows;
        keeps = keeps-with told m endpoint e kept.keeps;
        counts = λ number n p.
            subst (λ (c : ℕ). c ≤ 1)
            (λ i. sym (how_many-append (is_left number n p) (left_of y.origin endpoint S x.vid (Some y) sent) m.left) i
            + how_many (is_for number n (U n)) (sym none_flies i ++ rest))
            (regroup _ (how_many (is_left number n p) m.left) _ _ _ (new-below y endpoint S x sent out owned_here other number n p) (taken-count (is_for number n (U n)) place m.flying y taken) (kept.counts number n p));
        old_left = All_append (λ z. z.origin.number < m.frames) (left_of y.origin endpoint S x.vid (Some y) sent) m.left (left-numbers y.origin endpoint S x.vid (Some y) m.frames old.0 sent) kept.old_left;
        old_flying = subst (λ (l : List Flying). AllByRecursion (λ z. z.origin.number < m.frames) (l ++ rest)) (sym none_flies) old.1;
        flying = subst (λ (l : List Flying). AllByRecursion (IsSent told) (l ++ rest)) (sym none_flies) (taken-all (IsSent told) place m.flying y taken kept.flying).1;
        left = All_append IsOffspring (left_of y.origin endpoint S x.vid (Some y) sent) m.left (left-far y endpoint S x.vid x.frame other ok.vid read sent each) kept.left;
      }

  -- ---- whole runs

  Kept-delivered : (m : Mesh) → Kept told m → AreFull m → (endpoint t place : ℕ) (o : Option Flying) → slice_get m.flying place ≡ o → Kept told (delivered m endpoint t place o)
  Kept-delivered m kept full endpoint t place None taken = kept
  Kept-delivered m kept full endpoint t place (Some y) taken = by (is_own (settings_at m endpoint).overlay.underlay y.addr) refl
    where
      by : (b : Bool) → is_own (settings_at m endpoint).overlay.underlay y.addr ≡ b → Kept told (cond b (after_delivery m endpoint (packet_at t (length y.octets) y.octets) y (remove m.flying place) (came_by (settings_at m endpoint).overlay (length y.octets) y.octets)) m)
      by true e = Kept-delivery m kept full endpoint t place y taken e (came_by (settings_at m endpoint).overlay (length y.octets) y.octets) refl
      by false e = kept

  Kept-after : (m : Mesh) → Kept told m → AreFull m → (h : Happening) → Kept told (mesh_after m h)
  Kept-after m kept full (Comes endpoint t port original b) = Kept-local m kept full endpoint t port original b (came_at (settings_at m endpoint).ports (settings_at m endpoint).overlay port original b) refl
  Kept-after m kept full (Changes endpoint t c) = record {
    knows = knows-with m endpoint (change_at t c) kept.knows;
    keeps = keeps-with told m endpoint (change_at t c) kept.keeps;
    counts = kept.counts;
    old_left = kept.old_left;
    old_flying = kept.old_flying;
    flying = kept.flying;
    left = kept.left;
  }
  Kept-after m kept full (Delivers endpoint t place) = Kept-delivered m kept full endpoint t place (slice_get m.flying place) refl

  Kept-run : (m : Mesh) → Kept told m → (hs : List Happening) → Throughout m hs → Kept told (mesh_run m hs)
  Kept-run m kept [] full = kept
  Kept-run m kept (h ∷ hs) full = Kept-run (mesh_after m h) (Kept-after m kept full.0 h) hs full.1

  Kept-new : Kept told (new_mesh told)
  Kept-new = record {
    knows = λ n. Knows-opened (told n) (mesh.rules n);
    keeps = λ n. Stays-itself (settings_told (told n));
    counts = λ number n p. none_yet;
    old_left = tt;
    old_flying = tt;
    flying = tt;
    left = tt;
  }
    where
      none_yet : 0 + 0 ≤ 1
      none_yet = omega arith

  kept-throughout : (hs : List Happening) → Throughout (new_mesh told) hs → Kept told (mesh_run (new_mesh told) hs)
  kept-throughout hs full = Kept-run (new_mesh told) Kept-new hs full

pub mesh-once : (told : ℕ → Told) (hs : List Happening) → IsMesh told → Throughout (new_mesh told) hs → (number endpoint port : ℕ) → count_by (is_left number endpoint port) (mesh_run (new_mesh told) hs).left ≤ 1
mesh-once told hs mesh full number endpoint port =
    subst (λ (n : ℕ). n ≤ 1) (how_many-count (is_left number endpoint port) (mesh_run (new_mesh told) hs).left) (front _ _ ((kept-throughout told mesh hs full).counts number endpoint port))
  where
    front : (a b : ℕ) → a + b ≤ 1 → a ≤ 1
    front a b h = omega arith

pub mesh-offspring : (told : ℕ → Told) (hs : List Happening) → IsMesh told → Throughout (new_mesh told) hs → AllByRecursion IsOffspring (mesh_run (new_mesh told) hs).left
mesh-offspring told hs mesh full = (kept-throughout told mesh hs full).left
