use Rattle.std.proofs.Common.{◌∙◌, ℕ, List, [], ◌++◌, take, subst, refl, append_assoc, append-nil, rules, arith}
use Rattle.std.proofs.KnownBytes.{Consumes-nil, Consumes-trans}
use Rattle.part_record.specs.Sum.{HasTaken}
use Rattle.part_record.proofs.digest_input.DigestInput.finish.Goals as goal

pub loop-init : goal.loop-init
loop-init g c = record {
  digest = λ octets took. ([], Consumes-nil _, rw append-nil took);
  digested = λ h. h;
  quiet = refl;
  calls = search rules;
}

pub loop-preserved : goal.loop-preserved
loop-preserved g c =
    let piece : List ℕ = take c.in_ok-n.n c.read.new.octets in
    let read = c.in_ok-n.ensures in
    record {
      digest = λ octets took.
          let before = c.loop.invariant.digest octets took in (
            before.0 ++ piece,
            Consumes-trans _ _ _ before.0 piece before.1 read.taken.0,
            subst (λ (l : List ℕ). HasTaken c.read.new.self.hasher c.read.new.self.octets l) (append_assoc octets before.0 piece) (read.digest (octets ++ before.0) before.2),
          );
      digested = λ h. read.digested (c.loop.invariant.digested h);
      quiet = read.failures ∙ c.loop.invariant.quiet;
      calls = omega (arith, read.calls, c.loop.invariant.calls);
    }

pub returns-then-n-eq0-clause-taken : goal.returns-then-n-eq0-clause-taken
returns-then-n-eq0-clause-taken g c = λ octets took.
    let before = c.loop.invariant.digest octets took in
    let piece : List ℕ = take c.in_ok-n.n c.read.new.octets in
    let read = c.in_ok-n.ensures in (
      before.0 ++ piece,
      Consumes-trans _ _ _ before.0 piece before.1 read.taken.0,
      subst (λ (l : List ℕ). HasTaken c.read.new.self.hasher c.read.new.self.octets l) (append_assoc octets before.0 piece) (read.digest (octets ++ before.0) before.2),
    )
