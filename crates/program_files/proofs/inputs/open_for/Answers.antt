use Rattle.std.proofs.Common.{subst}
use Rattle.program_files.specs.Asked.{IsAsked}
use Rattle.program_files.proofs.Opening.{told_octets_are}
use Rattle.program_files.proofs.inputs.open_for.Goals as goal

pub returns-in-Ok-new : goal.returns-in-Ok-new
returns-in-Ok-new g c =
    record {
      told = record {
        device = c.in-Ok.ensures.left.0;
        selection = c.selection_of.result;
        asked = subst (λ words. IsAsked words c.selection_of.result) c.capture_name-asked.ensures.interface c.selection_of.ensures;
        told_is = told_octets_are c.in-Ok-new.input.adapter c.selection_of.result _ _ c.in-Ok-new.ensures.told c.in-Ok.ensures.left.1;
      };
    }
