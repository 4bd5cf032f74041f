use Rattle.part_record.proofs.Taking.{told}
use Rattle.part_record.proofs.taken.digest_taken.Goals as goal

pub returns : goal.returns
returns g c =
    told g.R.Input.remaining g.R.Input.calls g.R.Input.failures c.args.capture.now c.input.result.now c.digest.result
    c.input.ensures.rest c.input.ensures.calls c.input.ensures.failures c.digest.ensures.digest
