-- Laws of records and their texts. It states no standard.
use Rattle.std.specs.Prelude.{◌≡◌, List, length}
use Rattle.part_record.specs.Outputs.{AreOutputs}
use Rattle.part_record.specs.Record.{Facts, IsRecord, record_text}
use Rattle.part_record.specs.Texts.{AreTexts}
use Rattle.part_record.specs.declared.outputs.OutputFacts.{OutputFacts}
use Rattle.part_record.specs.declared.texts.ToldTexts.{ToldTexts}

-- records that have one text are one, with the same outputs, and the same is told of the texts that the part left
abbrev pub HasOneText : Type 0
HasOneText =
    (f g : Facts) (os ps : List OutputFacts) (ts us : ToldTexts) → IsRecord f → IsRecord g
    → AreOutputs (length f.ports) os → AreOutputs (length g.ports) ps → AreTexts ts → AreTexts us
    → record_text f os ts ≡ record_text g ps us → (f ≡ g) × (os ≡ ps) × (ts ≡ us)
