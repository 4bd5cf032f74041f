use Rattle.std.proofs.Common.{rules, ◌≡◌, ℕ, ◌+◌, ◌-◌, ◌*◌, List, [], length, take, drop, Err, ap, sym, subst, ◌∙◌, arith}
use Rattle.std.specs.Prelude.{unwrap_or, IsTrue}
use Rattle.std.proofs.lemmas.Bool.{le-ltb, lt-leb, eq-eqb, not_from_true}
use Rattle.std.proofs.lemmas.List.{take_rest}
use Rattle.wire.specs.Octets.{field, part}
use Rattle.wire.proofs.OctetsLemmas.{field-slice}
use Rattle.wire.specs.First.{first, fault_of}
use Rattle.wire.specs.GeneveOptions.{TunnelOption, options_in, allowed}
use Rattle.wire.specs.GeneveReading.{options_length, head_length, geneve_vni, geneve_options, geneve_inner, geneve_faults, option_faults}
use Rattle.wire.proofs.PacketLemmas.{NoneBefore, geneve_faults-options, with_parts, geneve-found, geneve-only, allowed-not_refused, others-refused, others-not_taken}
use Rattle.wire.proofs.geneve.view.GeneveView.read.Goals as goal
use Rattle.wire.proofs.geneve.view.GeneveView.read.Goals.{After-check_options, After-from_residual}

-- the checks before the options were passed
before : (c : After-check_options) → NoneBefore c.args.octets.now
before c =
    let text = c.args.octets.now in
    let kind_is : field 2 2 text ≡ 0x6558 = omega (arith, field-slice 2 2 text) in
    record {
      long = le-ltb _ _ (omega arith);
      version = not_from_true _ (eq-eqb _ 0 (omega arith));
      room = le-ltb _ _ (omega arith);
      no_control = lt-leb _ _ (omega arith);
      frame = not_from_true _ (eq-eqb _ 0x6558 kind_is);
    }

-- the texts of the options stand at their place
texts_are : (c : After-check_options) → take (8 + c.from.result * 4 - 8) (drop 8 c.args.octets.now) ≡ part 8 (options_length c.args.octets.now) c.args.octets.now
texts_are c =
    let text = c.args.octets.now in
    let count : 8 + c.from.result * 4 - 8 ≡ options_length text = omega arith in
    ap (λ (n : ℕ). take n (drop 8 text)) count

-- what is told of the options is told of the packet
told : (c : After-check_options) → fault_of c.check_options.result ≡ first (geneve_faults c.args.known.now c.args.octets.now)
told c =
    c.check_options.ensures ∙ ap (λ (t : List ℕ). first (option_faults c.args.known.now t)) (texts_are c)
    ∙ sym (geneve_faults-options c.args.known.now c.args.octets.now (before c))

-- ---- the options were refused

is_err : (c : After-from_residual) → c.from_residual.result ≡ Err c.in_err-check_options.field-0.0
is_err c = search rules

pub returns-in_err-check_options-clause-fault : goal.returns-in_err-check_options-clause-fault
returns-in_err-check_options-clause-fault c =
    let s = (goal.at.returns-in_err-check_options-clause-fault c).After-check_options in
    ap fault_of (is_err c) ∙ sym (ap fault_of c.in_err-check_options.was) ∙ told s

pub returns-in_err-check_options-clause-only : goal.returns-in_err-check_options-clause-only
returns-in_err-check_options-clause-only c vni options inner packet accepted =
    let s = (goal.at.returns-in_err-check_options-clause-only c).After-check_options in
    absurd (allowed-not_refused c.args.known.now c.in_err-check_options.field-0.0 c.args.octets.now vni options inner (sym (ap fault_of c.in_err-check_options.was) ∙ told s) packet accepted)

pub returns-in_err-check_options-clause-critical : goal.returns-in_err-check_options-clause-critical
returns-in_err-check_options-clause-critical c vni options inner packet others =
    let s = (goal.at.returns-in_err-check_options-clause-critical c).After-check_options in
    others-refused c.args.known.now c.from_residual.result c.args.octets.now vni options inner (ap fault_of (is_err c) ∙ sym (ap fault_of c.in_err-check_options.was) ∙ told s) packet others

-- ---- they were not

pub returns-clause-fault : goal.returns-clause-fault
returns-clause-fault c =
    let s = (goal.at.returns-clause-fault c).After-check_options in
    sym (ap fault_of c.in_ok-check_options.was) ∙ told s

-- the parts that are handed out are those at their places
payload_is : (c : After-check_options) → take (length c.args.octets.now - (8 + c.from.result * 4)) (drop (8 + c.from.result * 4) c.args.octets.now) ≡ geneve_inner c.args.octets.now
payload_is c =
    let text = c.args.octets.now in
    let end : 8 + c.from.result * 4 ≡ head_length text = omega arith in
    take_rest text (8 + c.from.result * 4) ∙ ap (λ (n : ℕ). drop n text) end

options_are : (c : After-check_options) → unwrap_or (options_in (take (8 + c.from.result * 4 - 8) (drop 8 c.args.octets.now))) [] ≡ geneve_options c.args.octets.now
options_are c = ap (λ (t : List ℕ). unwrap_or (options_in t) []) (texts_are c)

pub returns-clause-packet : goal.returns-clause-packet
returns-clause-packet c =
    let s = (goal.at.returns-clause-packet c).After-check_options in
    let text = c.args.octets.now in
    let vni_is : c.from_octets.result ≡ geneve_vni text = c.from_octets.ensures in
    let found = geneve-found c.args.known.now text (λ i. omega (arith, c.type_inv.octets i)) (sym (told s) ∙ ap fault_of c.in_ok-check_options.was) in
    with_parts text (geneve_vni text) _ (geneve_options text) _ (geneve_inner text) _ vni_is (options_are s) (payload_is s) found.0

pub returns-clause-allowed : goal.returns-clause-allowed
returns-clause-allowed c =
    let s = (goal.at.returns-clause-allowed c).After-check_options in
    let known = c.args.known.now in
    let found = geneve-found known c.args.octets.now (λ i. omega (arith, c.type_inv.octets i)) (sym (told s) ∙ ap fault_of c.in_ok-check_options.was) in
    subst (λ (o : List TunnelOption). IsTrue (allowed known o)) (sym (options_are s)) found.1

pub returns-clause-only : goal.returns-clause-only
returns-clause-only c vni options inner packet accepted =
    let s = (goal.at.returns-clause-only c).After-check_options in
    let says = geneve-only c.args.known.now c.args.octets.now vni options inner packet in
    let vni_is : c.from_octets.result ≡ geneve_vni c.args.octets.now = c.from_octets.ensures in
    (vni_is ∙ says.1, options_are s ∙ says.2, payload_is s ∙ says.3)

pub returns-clause-critical : goal.returns-clause-critical
returns-clause-critical c vni options inner packet others =
    let s = (goal.at.returns-clause-critical c).After-check_options in
    absurd (others-not_taken c.args.known.now c.args.octets.now vni options inner (sym (ap fault_of c.in_ok-check_options.was) ∙ told s) packet others)
