-- What a body adds to the sum of a flow.
use Rattle.std.proofs.Common.{◌≡◌, ℕ, true, false, List, drop, ◌∙◌}
use Rattle.std.proofs.lemmas.Bool.{cond-true, cond-false}
use Rattle.wire.specs.Ip.{Ip4, Ip6}
use Rattle.encapsulate.specs.Flow.{shows_flow, ports_sum, inner_sum}

pub inner-ip4 : (body : List ℕ) → shows_flow Ip4 body ≡ true → inner_sum body ≡ ports_sum Ip4 (drop 2 body)
inner-ip4 body four = cond-true (shows_flow Ip4 body) _ _ four

pub inner-ip6 : (body : List ℕ) → shows_flow Ip4 body ≡ false → shows_flow Ip6 body ≡ true → inner_sum body ≡ ports_sum Ip6 (drop 2 body)
inner-ip6 body four six = cond-false (shows_flow Ip4 body) _ _ four ∙ cond-true (shows_flow Ip6 body) _ _ six

pub inner-none : (body : List ℕ) → shows_flow Ip4 body ≡ false → shows_flow Ip6 body ≡ false → inner_sum body ≡ 0
inner-none body four six = cond-false (shows_flow Ip4 body) _ _ four ∙ cond-false (shows_flow Ip6 body) _ _ six
