use Rattle.overlay_config.proofs.Meets.{texts_meet}
use Rattle.segment_parts.proofs.ChangeTexts.{text-names}
use Rattle.segment_parts.proofs.Merging.{run-merged}
use Rattle.segment_parts.proofs.laws.texts.Goals as goal

pub returns : goal.returns
returns c = record {
  changes = text-names;
  together = λ parts settings changes s x timeline o means tells is part. run-merged parts s x timeline o is part (texts_meet settings s means) (text-names changes x.changes tells);
}
