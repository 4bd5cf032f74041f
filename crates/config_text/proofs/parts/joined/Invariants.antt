use Rattle.std.proofs.Common.{◌≡◌, ◌-◌}
use Rattle.arrayvec.specs.ArrayVec.{array_vec_len}
use Rattle.config_text.specs.Address.{joined}
use Rattle.config_text.proofs.Separated.{after_parts}
use Rattle.config_text.proofs.parts.joined.Given as goal

abbrev pub invariant-loop : goal.invariant-loop
invariant-loop g l = record {
  count : array_vec_len l.parts ≡ l.counter;
  rest : after_parts l.parts.items (joined g.P.Part.reads l.separator (8 - l.counter) l.rest) ≡ joined g.P.Part.reads l.separator 8 l.text;
}
