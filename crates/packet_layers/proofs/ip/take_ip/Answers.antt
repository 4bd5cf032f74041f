use Rattle.std.proofs.Common.{◌≡◌, ◌∙◌, List, ℕ, drop, sym, ap}
use Rattle.wire.specs.Ip.{packet_parts}
use Rattle.wire.specs.IpParts.{Parts}
use Rattle.wire.specs.IpView.{parts_of}
use Rattle.decapsulate.specs.Arrival.{family_named}
use Rattle.decapsulate.proofs.PacketLemmas.{packet_of-parts}
use Rattle.packet_layers.specs.Apart.{split}
use Rattle.packet_layers.specs.Dissection.{ip_kind}
use Rattle.packet_layers.specs.declared.kind.HeadKind.{HeadKind}
use Rattle.packet_layers.proofs.ip.take_ip.Goals as goal

-- three parts that are a view's are the view's parts
made : (a b d : List ℕ) (v : Parts) → a ≡ v.head → b ≡ v.payload → d ≡ v.tail → ◌≡◌ {A = Parts} (record { head = a; payload = b; tail = d }) v
made a b d v a_is b_is d_is =
    let Make : List ℕ → List ℕ → List ℕ → Parts = λ x y z. record { head = x; payload = y; tail = z } in
    ap (λ (x : List ℕ). Make x b d) a_is ∙ ap (λ (x : List ℕ). Make v.head x d) b_is ∙ ap (λ (x : List ℕ). Make v.head v.payload x) d_is

pub returns-in-Ok-clause-taken : goal.returns-in-Ok-clause-taken
returns-in-Ok-clause-taken c =
    let apart = c.args.apart.now in
    let f = family_named c.args.typed.now in
    let left : drop 2 c.args.typed.now ≡ apart.payload.octets = sym (c.requires.behind c.in-Ok.ensures.long) in
    let parts = made c.head.result.now c.payload.result.now c.tail.result.now (parts_of c.in-Ok.view) c.head.ensures c.payload.ensures c.tail.ensures
    ∙ c.in-Ok.ensures.parts ∙ ap (packet_parts f) left in
    c.split.ensures
    ∙ ap (λ (x : HeadKind). split x (record { head = c.head.result.now; payload = c.payload.result.now; tail = c.tail.result.now }) apart) (c.kind_of.ensures ∙ ap ip_kind c.in-Ok.ensures.family)
    ∙ ap (λ (x : Parts). split (ip_kind f) x apart) parts

pub returns-in-Ok-clause-packet : goal.returns-in-Ok-clause-packet
returns-in-Ok-clause-packet c =
    c.of.ensures ∙ packet_of-parts (family_named c.args.typed.now) (drop 2 c.args.typed.now) _ _ c.in-Ok.ensures.family c.in-Ok.ensures.parts c.in-Ok.ensures.split
