-- The text of a change tells the change.
use Rattle.std.proofs.Common.{◌≡◌, ◌∙◌, refl, sym, ap, ℕ, ◌+◌, ◌*◌, arith, Bool, true, false, List, [], ◌∷◌, get_or, drop, Option, Some, None}
use Rattle.std.specs.Fmt.{decimal}
use Rattle.std.proofs.lemmas.Fmt.{decimal_injective}
use Rattle.wire.specs.declared.ip_udp.addr.Tunnel.{Tunnel}
use Rattle.wire.specs.declared.ip_udp.addr.Tunnel.TheVariants.{Vxlan, Geneve}
use Rattle.overlay.specs.declared.ports.member.Egress.{Egress}
use Rattle.overlay.specs.declared.ports.member.Egress.TheVariants.{Tagged, Untagged}
use Rattle.overlay.specs.declared.underlay.segment.PeerRule.{PeerRule}
use Rattle.overlay.specs.declared.underlay.segment.PeerRule.TheVariants.{Any, Listed}
use Rattle.overlay.specs.declared.underlay.segment.TagRule.{TagRule}
use Rattle.overlay.specs.declared.underlay.segment.TagRule.TheVariants.{Drop, Pass, Never}
use Rattle.overlay.specs.declared.underlay.tunnels.SegmentTunnel.{SegmentTunnel}
use Rattle.overlay.specs.declared.settings.change.Change.{Change}
use Rattle.overlay.specs.declared.settings.change.Change.TheVariants.{AddFlood, RemoveFlood, Fix, Unfix, SetAgeing}
use Rattle.overlay.specs.declared.settings.change.Change.TheVariants.{SetLearning, SetMember, PortUp, PortDown}
use Rattle.overlay.specs.declared.settings.change.Change.TheVariants.{Flush, AddSegment, RemoveSegment, SetLimit}
use Rattle.overlay.specs.declared.settings.change.NewSegment.{NewSegment}
use Rattle.overlay.specs.declared.settings.change.Target.{Target}
use Rattle.overlay.specs.declared.settings.change.Target.TheVariants as target
use Rattle.change_story.specs.Words.{tunnel_word}
use Rattle.change_story.specs.Change.{change_text, other_kind, peers_word, tags_word, truth_word}
use Rattle.story_laws.specs.Told.{AreTunnels, HasNumbers, IsNumber, IsSound, IsTarget}
use Rattle.story_laws.proofs.Addresses.{addr-same, mac-same}
use Rattle.story_laws.proofs.Words.{letter, same-words}
use Rattle.story_laws.proofs.Written.{both_words, egress_word, kind_of, named, new_words, rest_of, target_words, text-words, words_lack}

-- ---- the words tell the change

abbrev at : ℕ → List (List ℕ) → List ℕ
at i ws = get_or ws i []

number-same : (m n : ℕ) → IsNumber m → IsNumber n → decimal m ≡ decimal n → m ≡ n
number-same m n p q e = decimal_injective m n p q e

kind-same : (k l : Tunnel) → tunnel_word k ≡ tunnel_word l → k ≡ l
kind-same Vxlan Vxlan e = refl
kind-same Geneve Geneve e = refl
kind-same k l e = absurd cc

truth-same : (a b : Bool) → truth_word a ≡ truth_word b → a ≡ b
truth-same true true e = refl
truth-same false false e = refl
truth-same a b e = absurd cc

peers-same : (a b : PeerRule) → peers_word a ≡ peers_word b → a ≡ b
peers-same Any Any e = refl
peers-same Listed Listed e = refl
peers-same a b e = absurd cc

tags-same : (a b : TagRule) → tags_word a ≡ tags_word b → a ≡ b
tags-same Drop Drop e = refl
tags-same Pass Pass e = refl
tags-same Never Never e = refl
tags-same a b e = let first : get_or (tags_word a) 0 0 ≡ get_or (tags_word b) 0 0 = ap (λ w. get_or w 0 0) e in absurd (omega (arith, first))

egress-same : (a b : Option Egress) → egress_word a ≡ egress_word b → a ≡ b
egress-same None None e = refl
egress-same (Some Tagged) (Some Tagged) e = refl
egress-same (Some Untagged) (Some Untagged) e = refl
egress-same None (Some Tagged) e = absurd cc
egress-same None (Some Untagged) e = absurd cc
egress-same a b e = absurd cc

named-same : (a b : Option Tunnel) → named a ≡ named b → a ≡ b
named-same None None e = refl
named-same None (Some l) e = absurd cc
named-same (Some k) None e = absurd cc
named-same (Some k) (Some l) e = ap Some (kind-same k l (ap (at 1) e))

target-same : (a b : Target) → IsTarget a → IsTarget b → target_words a ≡ target_words b → a ≡ b
target-same (target.Local port) (target.Local other) p q e = ap target.Local (number-same port other p q (ap (at 1) e))
target-same (target.Local port) (target.Remote addr tunnel) p q e = let first : 112 ≡ 114 = ap (letter 0 0) e in absurd (omega (arith, first))
target-same (target.Remote addr tunnel) (target.Local port) p q e = let first : 114 ≡ 112 = ap (letter 0 0) e in absurd (omega (arith, first))
target-same (target.Remote addr tunnel) (target.Remote other kind) p q e =
    λ i. target.Remote (addr-same addr other p q (ap (at 1) e) i) (named-same tunnel kind (ap (drop 2) e) i)

tunnel-same : (t u : SegmentTunnel) → HasNumbers t → HasNumbers u → decimal t.vni ≡ decimal u.vni → tunnel_word t.kind ≡ tunnel_word u.kind → decimal t.group ≡ decimal u.group → t ≡ u
tunnel-same t u p q vni kind group =
    λ i. record { kind = kind-same t.kind u.kind kind i; vni = number-same t.vni u.vni p.0 q.0 vni i; group = number-same t.group u.group p.1 q.1 group i }

-- the second is of the other kind
second-same : (t u : SegmentTunnel) (k l : Tunnel) → HasNumbers t → HasNumbers u → t.kind ≡ other_kind k → u.kind ≡ other_kind l → k ≡ l → decimal t.vni ≡ decimal u.vni → decimal t.group ≡ decimal u.group → t ≡ u
second-same t u k l p q one other same vni group =
    let kind : t.kind ≡ u.kind = one ∙ ap other_kind same ∙ sym other in
    λ i. record { kind = kind i; vni = number-same t.vni u.vni p.0 q.0 vni i; group = number-same t.group u.group p.1 q.1 group i }

new-parts : (a b : NewSegment) (ts us : List SegmentTunnel) → AreTunnels ts → AreTunnels us → both_words ts (new_words a) ≡ both_words us (new_words b) → (ts ≡ us) × (new_words a ≡ new_words b)
new-parts a b [] us p q e = absurd p
new-parts a b (t ∷ []) [] p q e = absurd q
new-parts a b (t ∷ u ∷ []) [] p q e = absurd q
new-parts a b (t ∷ u ∷ v ∷ ts) us p q e = absurd p
new-parts a b (t ∷ []) (u ∷ v ∷ w ∷ us) p q e = absurd q
new-parts a b (t ∷ r ∷ []) (u ∷ v ∷ w ∷ us) p q e = absurd q
new-parts a b (t ∷ []) (u ∷ []) p q e =
    let same : t ≡ u = tunnel-same t u p q (ap (at 1) e) (ap (at 3) e) (ap (at 5) e) in
    (λ i. same i ∷ [], ap (drop 6) e)
new-parts a b (t ∷ []) (u ∷ v ∷ []) p q e = let first : 108 ≡ 118 = ap (letter 6 0) e in absurd (omega (arith, first))
new-parts a b (t ∷ r ∷ []) (u ∷ []) p q e = let first : 118 ≡ 108 = ap (letter 6 0) e in absurd (omega (arith, first))
new-parts a b (t ∷ r ∷ []) (u ∷ v ∷ []) p q e =
    let same : t ≡ u = tunnel-same t u p.0 q.0 (ap (at 1) e) (ap (at 3) e) (ap (at 5) e) in
    let second : r ≡ v = second-same r v t.kind u.kind p.1 q.1 p.2 q.2 (ap (λ (x : SegmentTunnel). x.kind) same) (ap (at 7) e) (ap (at 9) e) in
    (λ i. same i ∷ second i ∷ [], ap (drop 10) e)

new-same : (a b : NewSegment) → IsSound (AddSegment a) → IsSound (AddSegment b) → rest_of (AddSegment a) ≡ rest_of (AddSegment b) → a ≡ b
new-same a b p q e =
    let parts = new-parts a b a.tunnels b.tunnels p.1 q.1 (ap (drop 2) e) in
    λ i. record {
      vid = number-same a.vid b.vid p.0 q.0 (ap (at 1) e) i;
      tunnels = parts.0 i;
      limit = number-same a.limit b.limit p.2 q.2 (ap (at 1) parts.1) i;
      ageing = number-same a.ageing b.ageing p.3 q.3 (ap (at 3) parts.1) i;
      learning = truth-same a.learning b.learning (ap (at 5) parts.1) i;
      peers = peers-same a.peers b.peers (ap (at 7) parts.1) i;
      tags = tags-same a.tags b.tags (ap (at 9) parts.1) i;
    }

-- two letters of a kind tell it
abbrev code : List ℕ → ℕ
code w = get_or w 4 0 * 256 + get_or w 7 0

same : (c d : Change) → IsSound c → IsSound d → code (kind_of c) ≡ code (kind_of d) → rest_of c ≡ rest_of d → c ≡ d
same (AddFlood vid addr tunnel) (AddFlood w other kind) p q k e = λ i. AddFlood (number-same vid w p.0 q.0 (ap (at 1) e) i) (addr-same addr other p.1 q.1 (ap (at 3) e) i) (named-same tunnel kind (ap (drop 4) e) i)
same (RemoveFlood vid addr tunnel) (RemoveFlood w other kind) p q k e = λ i. RemoveFlood (number-same vid w p.0 q.0 (ap (at 1) e) i) (addr-same addr other p.1 q.1 (ap (at 3) e) i) (named-same tunnel kind (ap (drop 4) e) i)
same (Fix vid mac to) (Fix w other there) p q k e = λ i. Fix (number-same vid w p.0 q.0 (ap (at 1) e) i) (mac-same mac other p.1 q.1 (ap (at 3) e) i) (target-same to there p.2 q.2 (ap (drop 4) e) i)
same (Unfix vid mac) (Unfix w other) p q k e = λ i. Unfix (number-same vid w p.0 q.0 (ap (at 1) e) i) (mac-same mac other p.1 q.1 (ap (at 3) e) i)
same (SetAgeing vid seconds) (SetAgeing w other) p q k e = λ i. SetAgeing (number-same vid w p.0 q.0 (ap (at 1) e) i) (number-same seconds other p.1 q.1 (ap (at 3) e) i)
same (SetLearning vid on) (SetLearning w other) p q k e = λ i. SetLearning (number-same vid w p q (ap (at 1) e) i) (truth-same on other (ap (at 3) e) i)
same (SetMember vid port egress) (SetMember w other how) p q k e = λ i. SetMember (number-same vid w p.0 q.0 (ap (at 1) e) i) (number-same port other p.1 q.1 (ap (at 3) e) i) (egress-same egress how (ap (at 5) e) i)
same (PortUp port) (PortUp other) p q k e = ap PortUp (number-same port other p q (ap (at 1) e))
same (PortDown port) (PortDown other) p q k e = ap PortDown (number-same port other p q (ap (at 1) e))
same (Flush vid) (Flush w) p q k e = ap Flush (number-same vid w p q (ap (at 1) e))
same (AddSegment new) (AddSegment other) p q k e = ap AddSegment (new-same new other p q e)
same (RemoveSegment vid) (RemoveSegment w) p q k e = ap RemoveSegment (number-same vid w p q (ap (at 1) e))
same (SetLimit vid limit) (SetLimit w other) p q k e = λ i. SetLimit (number-same vid w p.0 q.0 (ap (at 1) e) i) (number-same limit other p.1 q.1 (ap (at 3) e) i)
same c d p q k e = absurd (omega (arith, k))

pub change-same : (c d : Change) → IsSound c → IsSound d → change_text c ≡ change_text d → c ≡ d
change-same c d p q e =
    let words : kind_of c ∷ rest_of c ≡ kind_of d ∷ rest_of d =
    same-words 32 (kind_of c) (kind_of d) (rest_of c) (rest_of d) (words_lack c p) (words_lack d q) (sym (text-words c p) ∙ e ∙ text-words d q) in
    same c d p q (ap (λ ws. code (at 0 ws)) words) (ap (drop 1) words)
