use Rattle.std.proofs.Common.{◌≡◌, ℕ, List, Option, subst}
use Rattle.std.specs.Prelude.{IfSome}
use Rattle.part_record.specs.Digests.{digest_of}
use Rattle.pcapng_input.specs.Adapter.{told_octets}
use Rattle.runs_on_files.proofs.Digesting.{finished_digest, on_ok}
use Rattle.runs_on_files.proofs.digests.take_digest.Goals as goal

pub returns : goal.returns
returns g c = record {
  told = told_octets c.in-Ok.input.adapter;
  opened = c.in-Ok.ensures.told;
  digest_is = subst (λ (told : Option (List ℕ)). IfSome told (λ octets. c.in-Some-digest.digest ≡ digest_of octets))
      (λ i. told_octets (c.new-digested.ensures.input i).adapter)
      (finished_digest (told_octets c.new-digested.result.input.adapter) (told_octets c.finish.new.self.input.adapter)
      c.new-digested.result.hasher c.finish.new.self.hasher c.new-digested.result.octets c.finish.new.self.octets
      c.in-Some-digest.digest c.new-digested.ensures.taken
      (on_ok c.finish.result _ c.if-is_err.ensures.negation c.finish.ensures.taken)
      (on_ok c.finish.result _ c.if-is_err.ensures.negation c.finish.ensures.end)
      c.in-Some-digest.ensures.digest);
}
