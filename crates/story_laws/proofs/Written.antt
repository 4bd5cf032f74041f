-- The words of a change, and its text by them.
use Rattle.std.proofs.Common.{◌≡◌, ◌∙◌, refl, sym, ap, ℕ, Bool, true, false, cond, List, [], ◌∷◌, ◌++◌, Option, Some, None, append_assoc, append-nil}
use Rattle.std.specs.Fmt.{decimal}
use Rattle.std.specs.Prelude.{codes}
use Rattle.std.specs.List.{AllByRecursion}
use Rattle.wire.specs.declared.ip_udp.addr.Tunnel.{Tunnel}
use Rattle.wire.specs.declared.ip_udp.addr.Tunnel.TheVariants.{Vxlan, Geneve}
use Rattle.overlay.specs.declared.ports.member.Egress.{Egress}
use Rattle.overlay.specs.declared.ports.member.Egress.TheVariants.{Tagged, Untagged}
use Rattle.overlay.specs.Tunnels.{of_kind}
use Rattle.overlay.specs.declared.underlay.segment.PeerRule.{PeerRule}
use Rattle.overlay.specs.declared.underlay.segment.PeerRule.TheVariants.{Any, Listed}
use Rattle.overlay.specs.declared.underlay.segment.TagRule.{TagRule}
use Rattle.overlay.specs.declared.underlay.segment.TagRule.TheVariants.{Drop, Pass, Never}
use Rattle.overlay.specs.declared.underlay.tunnels.SegmentTunnel.{SegmentTunnel}
use Rattle.overlay.specs.declared.settings.change.Change.{Change}
use Rattle.overlay.specs.declared.settings.change.Change.TheVariants.{AddFlood, RemoveFlood, Fix, Unfix, SetAgeing}
use Rattle.overlay.specs.declared.settings.change.Change.TheVariants.{SetLearning, SetMember, PortUp, PortDown}
use Rattle.overlay.specs.declared.settings.change.Change.TheVariants.{Flush, AddSegment, RemoveSegment, SetLimit}
use Rattle.overlay.specs.declared.settings.change.NewSegment.{NewSegment}
use Rattle.overlay.specs.declared.settings.change.Target.{Target}
use Rattle.overlay.specs.declared.settings.change.Target.TheVariants as target
use Rattle.endpoint_core.specs.Text.{addr_text}
use Rattle.line_words.proofs.Decimals.{lacks_decimal}
use Rattle.part_lines.proofs.Addresses.{addr_lacks, space_apart}
use Rattle.change_story.specs.Words.{mac_text, tunnel_word}
use Rattle.change_story.specs.Change.{change_text, egress_name, first_text, named_text, numbers_text, other_kind, peers_word, rules_text, second_text, tags_word, target_text, truth_word, tunnels_text}
use Rattle.story_laws.specs.Told.{AreTunnels, IsNumber, IsSound, IsTarget}
use Rattle.story_laws.proofs.Addresses.{mac_lacks}
use Rattle.story_laws.proofs.Words.{Lacks, spaced}

-- ---- the words of a change

abbrev pub egress_word : Option Egress → List ℕ
egress_word None = codes "none"
egress_word (Some Tagged) = codes "tagged"
egress_word (Some Untagged) = codes "untagged"

abbrev pub named : Option Tunnel → List (List ℕ)
named None = []
named (Some kind) = codes "tunnel" ∷ tunnel_word kind ∷ []

abbrev pub target_words : Target → List (List ℕ)
target_words (target.Local port) = codes "port" ∷ decimal port ∷ []
target_words (target.Remote addr tunnel) = codes "remote" ∷ addr_text addr ∷ named tunnel

abbrev pub second_words : Option SegmentTunnel → List (List ℕ) → List (List ℕ)
second_words None rest = rest
second_words (Some t) rest = codes "vni2" ∷ decimal t.vni ∷ codes "group2" ∷ decimal t.group ∷ rest

abbrev pub tunnel_words : SegmentTunnel → Option SegmentTunnel → List (List ℕ) → List (List ℕ)
tunnel_words t second rest = codes "vni" ∷ decimal t.vni ∷ codes "tunnel" ∷ tunnel_word t.kind ∷ codes "group" ∷ decimal t.group ∷ second_words second rest

-- of the first tunnel and the second of a list
abbrev pub both_words : List SegmentTunnel → List (List ℕ) → List (List ℕ)
both_words [] rest = rest
both_words (t ∷ []) rest = tunnel_words t None rest
both_words (t ∷ u ∷ others) rest = tunnel_words t (Some u) rest

abbrev pub new_words : NewSegment → List (List ℕ)
new_words new =
    codes "limit" ∷ decimal new.limit ∷ codes "ageing" ∷ decimal new.ageing
    ∷ codes "learn" ∷ truth_word new.learning ∷ codes "peers" ∷ peers_word new.peers ∷ codes "tags" ∷ tags_word new.tags ∷ []

-- those behind its kind
abbrev pub rest_of : Change → List (List ℕ)
rest_of (AddFlood vid addr tunnel) = codes "vid" ∷ decimal vid ∷ codes "addr" ∷ addr_text addr ∷ named tunnel
rest_of (RemoveFlood vid addr tunnel) = codes "vid" ∷ decimal vid ∷ codes "addr" ∷ addr_text addr ∷ named tunnel
rest_of (Fix vid mac to) = codes "vid" ∷ decimal vid ∷ codes "mac" ∷ mac_text mac ∷ target_words to
rest_of (Unfix vid mac) = codes "vid" ∷ decimal vid ∷ codes "mac" ∷ mac_text mac ∷ []
rest_of (SetAgeing vid seconds) = codes "vid" ∷ decimal vid ∷ codes "seconds" ∷ decimal seconds ∷ []
rest_of (SetLearning vid on) = codes "vid" ∷ decimal vid ∷ codes "on" ∷ truth_word on ∷ []
rest_of (SetMember vid port egress) = codes "vid" ∷ decimal vid ∷ codes "port" ∷ decimal port ∷ codes "egress" ∷ egress_word egress ∷ []
rest_of (PortUp port) = codes "port" ∷ decimal port ∷ []
rest_of (PortDown port) = codes "port" ∷ decimal port ∷ []
rest_of (Flush vid) = codes "vid" ∷ decimal vid ∷ []
rest_of (AddSegment new) = codes "vid" ∷ decimal new.vid ∷ both_words new.tunnels (new_words new)
rest_of (RemoveSegment vid) = codes "vid" ∷ decimal vid ∷ []
rest_of (SetLimit vid limit) = codes "vid" ∷ decimal vid ∷ codes "limit" ∷ decimal limit ∷ []

abbrev pub kind_of : Change → List ℕ
kind_of (AddFlood vid addr tunnel) = codes "add_flood"
kind_of (RemoveFlood vid addr tunnel) = codes "remove_flood"
kind_of (Fix vid mac to) = codes "fix"
kind_of (Unfix vid mac) = codes "unfix"
kind_of (SetAgeing vid seconds) = codes "set_ageing"
kind_of (SetLearning vid on) = codes "set_learning"
kind_of (SetMember vid port egress) = codes "set_member"
kind_of (PortUp port) = codes "port_up"
kind_of (PortDown port) = codes "port_down"
kind_of (Flush vid) = codes "flush"
kind_of (AddSegment new) = codes "add_segment"
kind_of (RemoveSegment vid) = codes "remove_segment"
kind_of (SetLimit vid limit) = codes "set_limit"

-- ---- its text is its words behind spaces

named-text : (tunnel : Option Tunnel) → named_text tunnel ≡ spaced 32 (named tunnel)
named-text None = refl
named-text (Some Vxlan) = refl
named-text (Some Geneve) = refl

target-text : (to : Target) → target_text to ≡ spaced 32 (target_words to)
target-text (target.Local port) = ap (λ t. codes " port " ++ t) (sym (append-nil (decimal port)))
target-text (target.Remote addr tunnel) = append_assoc (codes " remote ") (addr_text addr) (named_text tunnel) ∙ ap (λ t. codes " remote " ++ (addr_text addr ++ t)) (named-text tunnel)

egress-text : (egress : Option Egress) → egress_name egress ≡ codes " egress " ++ (egress_word egress ++ [])
egress-text None = refl
egress-text (Some Tagged) = refl
egress-text (Some Untagged) = refl

-- a kind, and a value behind a key
keyed : (kind key value : List ℕ) → kind ++ key ++ value ≡ kind ++ (key ++ (value ++ []))
keyed kind key value = simp (append_assoc, append-nil)

-- two keys
twice : (kind key value other what : List ℕ) → kind ++ key ++ value ++ other ++ what ≡ kind ++ (key ++ (value ++ (other ++ (what ++ []))))
twice kind key value other what = simp (append_assoc, append-nil)

-- and more behind them
further : (kind key value other what more : List ℕ) → kind ++ key ++ value ++ other ++ what ++ more ≡ kind ++ (key ++ (value ++ (other ++ (what ++ more))))
further kind key value other what more = simp append_assoc

learning-text : (on : Bool) → cond on (codes " on true") (codes " on false") ≡ codes " on " ++ (truth_word on ++ [])
learning-text true = refl
learning-text false = refl

-- the same texts in pairs
four : (a b c d : List ℕ) → a ++ b ++ c ++ d ≡ a ++ (b ++ (c ++ d))
four a b c d = simp append_assoc

six : (a b c d e f : List ℕ) → a ++ b ++ c ++ d ++ e ++ f ≡ a ++ (b ++ (c ++ (d ++ (e ++ f))))
six a b c d e f = simp append_assoc

five : (a b c d e : List ℕ) → (a ++ b ++ c ++ d) ++ e ≡ a ++ (b ++ (c ++ (d ++ e)))
five a b c d e = simp append_assoc

seven : (a b c d e f g : List ℕ) → (a ++ b ++ c ++ d ++ e ++ f) ++ g ≡ a ++ (b ++ (c ++ (d ++ (e ++ (f ++ g)))))
seven a b c d e f g = simp append_assoc

words-text : (learn peers tags : List ℕ) → codes " learn " ++ learn ++ codes " peers " ++ peers ++ codes " tags " ++ tags
    ≡ codes " learn " ++ (learn ++ (codes " peers " ++ (peers ++ (codes " tags " ++ (tags ++ [])))))
words-text learn peers tags =
    six (codes " learn ") learn (codes " peers ") peers (codes " tags ") tags
    ∙ ap (λ t. codes " learn " ++ (learn ++ (codes " peers " ++ (peers ++ (codes " tags " ++ t))))) (sym (append-nil tags))

new-text : (new : NewSegment) → numbers_text new.limit new.ageing ++ rules_text new.learning new.peers new.tags ≡ spaced 32 (new_words new)
new-text new =
    five (codes " limit ") (decimal new.limit) (codes " ageing ") (decimal new.ageing) (rules_text new.learning new.peers new.tags)
    ∙ ap (λ t. codes " limit " ++ (decimal new.limit ++ (codes " ageing " ++ (decimal new.ageing ++ t)))) (words-text (truth_word new.learning) (peers_word new.peers) (tags_word new.tags))

second-text : (second : Option SegmentTunnel) (rest : List ℕ) (ws : List (List ℕ)) → rest ≡ spaced 32 ws → second_text second ++ rest ≡ spaced 32 (second_words second ws)
second-text None rest ws is = is
second-text (Some t) rest ws is =
    five (codes " vni2 ") (decimal t.vni) (codes " group2 ") (decimal t.group) rest ∙ ap (λ r. codes " vni2 " ++ (decimal t.vni ++ (codes " group2 " ++ (decimal t.group ++ r)))) is

pair-text : (t : SegmentTunnel) (second : Option SegmentTunnel) (rest : List ℕ) (ws : List (List ℕ)) → rest ≡ spaced 32 ws
    → (first_text t ++ second_text second) ++ rest ≡ spaced 32 (tunnel_words t second ws)
pair-text t second rest ws is =
    append_assoc (first_text t) (second_text second) rest
    ∙ seven (codes " vni ") (decimal t.vni) (codes " tunnel ") (tunnel_word t.kind) (codes " group ") (decimal t.group) (second_text second ++ rest)
    ∙ ap (λ r. codes " vni " ++ (decimal t.vni ++ (codes " tunnel " ++ (tunnel_word t.kind ++ (codes " group " ++ (decimal t.group ++ r)))))) (second-text second rest ws is)

-- the tunnel of the other kind
none-other : (kind : Tunnel) (vni group : ℕ) → of_kind (other_kind kind) (record { kind = kind; vni = vni; group = group } ∷ []) ≡ None
none-other Vxlan vni group = refl
none-other Geneve vni group = refl

other-found : (kind second : Tunnel) (vni group vni2 group2 : ℕ) → second ≡ other_kind kind
    → of_kind (other_kind kind) (record { kind = kind; vni = vni; group = group } ∷ record { kind = second; vni = vni2; group = group2 } ∷ []) ≡ Some (record { kind = second; vni = vni2; group = group2 })
other-found Vxlan Geneve vni group vni2 group2 is = refl
other-found Geneve Vxlan vni group vni2 group2 is = refl
other-found Vxlan Vxlan vni group vni2 group2 is = absurd cc
other-found Geneve Geneve vni group vni2 group2 is = absurd cc

both-text : (tunnels : List SegmentTunnel) (rest : List ℕ) (ws : List (List ℕ)) → AreTunnels tunnels → rest ≡ spaced 32 ws → tunnels_text tunnels ++ rest ≡ spaced 32 (both_words tunnels ws)
both-text [] rest ws are is = absurd are
both-text (t ∷ []) rest ws are is = ap (λ o. (first_text t ++ second_text o) ++ rest) (none-other t.kind t.vni t.group) ∙ pair-text t None rest ws is
both-text (t ∷ u ∷ []) rest ws are is = ap (λ o. (first_text t ++ second_text o) ++ rest) (other-found t.kind u.kind t.vni t.group u.vni u.group are.2) ∙ pair-text t (Some u) rest ws is
both-text (t ∷ u ∷ v ∷ others) rest ws are is = absurd are

pub text-words : (c : Change) → IsSound c → change_text c ≡ kind_of c ++ spaced 32 (rest_of c)
text-words (AddFlood vid addr tunnel) p =
    further (codes "add_flood") (codes " vid ") (decimal vid) (codes " addr ") (addr_text addr) (named_text tunnel)
    ∙ ap (λ t. codes "add_flood" ++ (codes " vid " ++ (decimal vid ++ (codes " addr " ++ (addr_text addr ++ t))))) (named-text tunnel)
text-words (RemoveFlood vid addr tunnel) p =
    further (codes "remove_flood") (codes " vid ") (decimal vid) (codes " addr ") (addr_text addr) (named_text tunnel)
    ∙ ap (λ t. codes "remove_flood" ++ (codes " vid " ++ (decimal vid ++ (codes " addr " ++ (addr_text addr ++ t))))) (named-text tunnel)
text-words (Fix vid mac to) p =
    further (codes "fix") (codes " vid ") (decimal vid) (codes " mac ") (mac_text mac) (target_text to)
    ∙ ap (λ t. codes "fix" ++ (codes " vid " ++ (decimal vid ++ (codes " mac " ++ (mac_text mac ++ t))))) (target-text to)
text-words (Unfix vid mac) p = twice (codes "unfix") (codes " vid ") (decimal vid) (codes " mac ") (mac_text mac)
text-words (SetAgeing vid seconds) p = twice (codes "set_ageing") (codes " vid ") (decimal vid) (codes " seconds ") (decimal seconds)
text-words (SetLearning vid on) p =
    four (codes "set_learning") (codes " vid ") (decimal vid) (cond on (codes " on true") (codes " on false"))
    ∙ ap (λ t. codes "set_learning" ++ (codes " vid " ++ (decimal vid ++ t))) (learning-text on)
text-words (SetMember vid port egress) p =
    further (codes "set_member") (codes " vid ") (decimal vid) (codes " port ") (decimal port) (egress_name egress)
    ∙ ap (λ t. codes "set_member" ++ (codes " vid " ++ (decimal vid ++ (codes " port " ++ (decimal port ++ t))))) (egress-text egress)
text-words (PortUp port) p = ap (λ t. codes "port_up port " ++ t) (sym (append-nil (decimal port)))
text-words (PortDown port) p = ap (λ t. codes "port_down port " ++ t) (sym (append-nil (decimal port)))
text-words (Flush vid) p = keyed (codes "flush") (codes " vid ") (decimal vid)
text-words (AddSegment new) p =
    six (codes "add_segment") (codes " vid ") (decimal new.vid) (tunnels_text new.tunnels) (numbers_text new.limit new.ageing) (rules_text new.learning new.peers new.tags)
    ∙ ap (λ t. codes "add_segment" ++ (codes " vid " ++ (decimal new.vid ++ t)))
    (both-text new.tunnels (numbers_text new.limit new.ageing ++ rules_text new.learning new.peers new.tags) (new_words new) p.1 (new-text new))
text-words (RemoveSegment vid) p = keyed (codes "remove_segment") (codes " vid ") (decimal vid)
text-words (SetLimit vid limit) p = twice (codes "set_limit") (codes " vid ") (decimal vid) (codes " limit ") (decimal limit)

-- ---- no word has a space

number_lacks : (n : ℕ) → IsNumber n → Lacks 32 (decimal n)
number_lacks n small = lacks_decimal 32 n space_apart.digit small

abbrev pub All_lack : List (List ℕ) → Type 0
All_lack ws = AllByRecursion (Lacks 32) ws

named_lacks : (tunnel : Option Tunnel) → All_lack (named tunnel)
named_lacks None = tt
named_lacks (Some Vxlan) = (refl, (refl, tt))
named_lacks (Some Geneve) = (refl, (refl, tt))

kind_lacks : (kind : Tunnel) → Lacks 32 (tunnel_word kind)
kind_lacks Vxlan = refl
kind_lacks Geneve = refl

target_lacks : (to : Target) → IsTarget to → All_lack (target_words to)
target_lacks (target.Local port) p = (refl, (number_lacks port p, tt))
target_lacks (target.Remote addr tunnel) p = (refl, (addr_lacks 32 addr space_apart p, named_lacks tunnel))

egress_lacks : (egress : Option Egress) → Lacks 32 (egress_word egress)
egress_lacks None = refl
egress_lacks (Some Tagged) = refl
egress_lacks (Some Untagged) = refl

truth_lacks : (b : Bool) → Lacks 32 (truth_word b)
truth_lacks true = refl
truth_lacks false = refl

peers_lacks : (peers : PeerRule) → Lacks 32 (peers_word peers)
peers_lacks Any = refl
peers_lacks Listed = refl

tags_lacks : (tags : TagRule) → Lacks 32 (tags_word tags)
tags_lacks Drop = refl
tags_lacks Pass = refl
tags_lacks Never = refl

tunnels_lack : (tunnels : List SegmentTunnel) (rest : List (List ℕ)) → AreTunnels tunnels → All_lack rest → All_lack (both_words tunnels rest)
tunnels_lack [] rest are more = absurd are
tunnels_lack (t ∷ []) rest are more = (refl, (number_lacks t.vni are.0, (refl, (kind_lacks t.kind, (refl, (number_lacks t.group are.1, more))))))
tunnels_lack (t ∷ u ∷ []) rest are more = (refl, (number_lacks t.vni are.0.0, (refl, (kind_lacks t.kind, (refl, (number_lacks t.group are.0.1, (refl, (number_lacks u.vni are.1.0, (refl, (number_lacks u.group are.1.1, more))))))))))
tunnels_lack (t ∷ u ∷ v ∷ others) rest are more = absurd are

pub words_lack : (c : Change) → IsSound c → All_lack (kind_of c ∷ rest_of c)
words_lack (AddFlood vid addr tunnel) p = (refl, (refl, (number_lacks vid p.0, (refl, (addr_lacks 32 addr space_apart p.1, named_lacks tunnel)))))
words_lack (RemoveFlood vid addr tunnel) p = (refl, (refl, (number_lacks vid p.0, (refl, (addr_lacks 32 addr space_apart p.1, named_lacks tunnel)))))
words_lack (Fix vid mac to) p = (refl, (refl, (number_lacks vid p.0, (refl, (mac_lacks mac p.1, target_lacks to p.2)))))
words_lack (Unfix vid mac) p = (refl, (refl, (number_lacks vid p.0, (refl, (mac_lacks mac p.1, tt)))))
words_lack (SetAgeing vid seconds) p = (refl, (refl, (number_lacks vid p.0, (refl, (number_lacks seconds p.1, tt)))))
words_lack (SetLearning vid on) p = (refl, (refl, (number_lacks vid p, (refl, (truth_lacks on, tt)))))
words_lack (SetMember vid port egress) p = (refl, (refl, (number_lacks vid p.0, (refl, (number_lacks port p.1, (refl, (egress_lacks egress, tt)))))))
words_lack (PortUp port) p = (refl, (refl, (number_lacks port p, tt)))
words_lack (PortDown port) p = (refl, (refl, (number_lacks port p, tt)))
words_lack (Flush vid) p = (refl, (refl, (number_lacks vid p, tt)))
words_lack (AddSegment new) p = (refl, (refl, (number_lacks new.vid p.0, tunnels_lack new.tunnels (new_words new) p.1 (refl, (number_lacks new.limit p.2, (refl, (number_lacks new.ageing p.3, (refl, (truth_lacks new.learning, (refl, (peers_lacks new.peers, (refl, (tags_lacks new.tags, tt)))))))))))))
words_lack (RemoveSegment vid) p = (refl, (refl, (number_lacks vid p, tt)))
words_lack (SetLimit vid limit) p = (refl, (refl, (number_lacks vid p.0, (refl, (number_lacks limit p.1, tt)))))
