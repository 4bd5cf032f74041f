use Rattle.std.proofs.Common.{◌≡◌, ◌∙◌, ap, sym, refl, arith, ℕ, ◌-◌, ◌<◌, ◌==◌, false, Vec, Global, map, length, slice_set, [], ◌++◌}
use Rattle.std.proofs.Common.{Result, Ok, Err, OnOk}
use Rattle.std.proofs.lemmas.List.{map-set, get_or-map}
use Rattle.std.proofs.lemmas.Bool.{ne_eqb}
use Rattle.pcap.specs.Written.{whole_frame, written_record}
use Rattle.capture_run.proofs.outputs.put_at.Goals as goal

on_ok : {A E P Q : Type 0} (r : Result A E) → (P → Q) → OnOk r P → OnOk r Q
on_ok (Ok a) f p = f p
on_ok (Err e) f p = p

pub returns : goal.returns
returns c =
    let items = λ (v : Vec ℕ Global). v.items in
    let captures = c.args.captures.now.items in
    let octets = c.args.addresses.now ++ (c.args.tag.now ++ c.args.body.now) in
    let added = written_record (whole_frame c.args.moment octets) in
    let index : c.from-2.result - 1 ≡ c.args.port - 1 = ap (λ n. n - 1) c.from-2.ensures in
    let there : c.from-2.result - 1 < length captures =
    omega (arith, c.from.ensures, c.len.ensures, c.if-from-len.false, c.from-2.ensures, c.if-port-eq0.false) in
    let apart : (c.args.port == 0) ≡ false = ne_eqb c.args.port 0 c.if-port-eq0.false in
    on_ok c.put_record.result (λ is.
    map-set items captures (c.from-2.result - 1) c.put_record.new.out
    ∙ ap (slice_set (map items captures) (c.from-2.result - 1)) (is ∙ ap (λ v. items v ++ added) c.index_mut.ensures.value
    ∙ ap (λ x. x ++ added) (sym (get_or-map items captures (c.from-2.result - 1) c.index_mut.result.now [] there)))
    ∙ rw (index, apart) refl) c.put_record.ensures.ok
