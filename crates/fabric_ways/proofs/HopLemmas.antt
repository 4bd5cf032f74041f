-- Where lists are searched in part.
use Rattle.std.proofs.Common.{◌≡◌, ℕ, ◌==◌, Bool, true, false, not, ◌&&◌, List, [], ◌∷◌, Some, is_none, slice_get, refl, sym, ◌∙◌, ap, subst}
use Rattle.std.specs.List.{list_any}
use Rattle.std.specs.Option.{option_map_or}
use Rattle.std.proofs.lemmas.List.Folds.{list_any_at}
use Rattle.std.proofs.lemmas.Option.{slice_get_within, get_or_from_slice_get}
use Rattle.wire.specs.declared.ether.reason.Reason.{Reason}
use Rattle.wire.specs.declared.ether.reason.Reason.TheVariants.{BadOuterSource, NotTunnel, ZeroSum, UnknownVni, WrongGroup, UnknownPeer}
use Rattle.wire.specs.declared.ip_udp.addr.Tunnel.{Tunnel}
use Rattle.wire.specs.Addr.{is_group, same_kind}
use Rattle.wire.specs.First.{first}
use Rattle.overlay.specs.Flood.{holds, is_own}
use Rattle.overlay.specs.declared.flood.remote.Remote.{Remote}
use Rattle.fabric_ways.proofs.MemberLemmas.{kind-same}
use Rattle.fabric_ways.specs.Hops.{aims, comes, flood, hops_by, knows, port_of, sends_no_sum, shares, source}
use Rattle.fabric_ways.specs.declared.member.Member.{Member}

-- one that passes is enough
pub any_at : {X : Type 0} (p : X → Bool) (xs : List X) (k : ℕ) (x : X) → slice_get xs k ≡ Some x → p x ≡ true → list_any p xs ≡ true
any_at p xs k x e h = list_any_at p xs k x (slice_get_within xs k x e) (ap p (get_or_from_slice_get xs k x x e) ∙ h)

abbrev rows : Bool → Bool → Bool → Bool → Bool → Bool → List (Reason × Bool)
rows b1 b2 b3 s b5 b6 =
    (BadOuterSource, b1) ∷ (NotTunnel, b2) ∷ (ZeroSum, b3) ∷ (UnknownVni, not s) ∷ (WrongGroup, b5) ∷ (UnknownPeer, b6) ∷ []

not-first : (a b1 b2 b3 s b5 b6 : Bool) → s ≡ false → (a && is_none (first (rows b1 b2 b3 s b5 b6))) ≡ false
not-first false b1 b2 b3 s b5 b6 h = refl
not-first true true b2 b3 s b5 b6 h = refl
not-first true false true b3 s b5 b6 h = refl
not-first true false false true s b5 b6 h = refl
not-first true false false false false b5 b6 h = refl
not-first true false false false true b5 b6 h = absurd (cc)

entry-none : (X Y : Member) (kind : Tunnel) (e : Remote) → shares X kind Y ≡ false → hops_by X kind Y e ≡ false
entry-none X Y kind e apart = go (same_kind e.tunnel kind) refl
  where
    go : (b : Bool) → b ≡ same_kind e.tunnel kind → (b && comes X e Y) ≡ false
    go false q = refl
    go true q =
        let P : Tunnel → Type 0 = λ k. shares X k Y ≡ false in
        not-first (aims e Y) (option_map_or (is_own Y.own) (source X.own e.addr) false) (not (port_of X e.tunnel == port_of Y e.tunnel))
        (sends_no_sum X e.addr && not Y.zero6) (shares X e.tunnel Y) (is_group e.addr && not (holds (flood Y) e.tunnel e.addr))
        (Y.listed && not (knows Y e.tunnel (source X.own e.addr))) (subst P (sym (kind-same e.tunnel kind (sym q))) apart)

-- without a VNI in common nothing comes
pub hops_none : (X Y : Member) (kind : Tunnel) → shares X kind Y ≡ false → (es : List Remote) → list_any (hops_by X kind Y) es ≡ false
hops_none X Y kind apart [] = refl
hops_none X Y kind apart (e ∷ es) = rw (entry-none X Y kind e apart) (hops_none X Y kind apart es)
