-- A text of facts and outputs is one of theirs alone.
use Rattle.std.proofs.Common.{◌≡◌, ◌≢◌, ◌∙◌, sym, ap, ℕ, ◌+◌, ◌<◌, ◌≤◌, List, ◌++◌, length, All, arith, append_assoc}
use Rattle.part_record.specs.Laws.{HasOneText}
use Rattle.part_record.specs.Outputs.{AreOutputs, IsOutput, output_line, output_lines}
use Rattle.part_record.specs.Record.{Facts, IsRecord, facts_text, text_of}
use Rattle.part_record.specs.Texts.{text_lines}
use Rattle.part_record.specs.declared.outputs.OutputFacts.{OutputFacts}
use Rattle.part_record.proofs.LeftTexts.{one_texts}
use Rattle.part_record.proofs.OutputText.{same_outputs}
use Rattle.part_record.proofs.Reading.{has_one_text}

-- what was read of a text: facts, and outputs as long as their lines came, two more than there are ports at most
pub record IsRead (text : List ℕ) (f : Facts) (told : List ℕ) (outputs : List OutputFacts) (rest : List ℕ) : Type 0 where
  pub is : IsRecord f
  pub facts : text ≡ facts_text f ++ told
  pub each : All IsOutput outputs
  pub read : told ≡ output_lines 0 outputs ++ rest
  pub few : length outputs ≤ length f.ports + 2
  pub no_more : (o : OutputFacts) (behind : List ℕ) → IsOutput o → length outputs < length f.ports + 2 → rest ≢ output_line (length outputs) o ++ behind

module _ {text : List ℕ} {f : Facts} {told : List ℕ} {outputs : List OutputFacts} {rest : List ℕ} (read : IsRead text f told outputs rest) where
  -- whichever record the text begins with, it has these facts and outputs, as many as there are
  pub outputs_are : (g : Facts) (os : List OutputFacts) (q : List ℕ) → IsRecord g → AreOutputs (length g.ports) os → text ≡ text_of g os ++ q → length outputs ≡ length f.ports + 2
  outputs_are g os q are some e =
      let one = has_one_text f g told (output_lines 0 os ++ q) read.is are (sym read.facts ∙ e ∙ append_assoc (facts_text g) (output_lines 0 os) q) in
      let ports : length f.ports ≡ length g.ports = ap (λ (h : Facts). length h.ports) one.0 in
      let all = some.all in
      let few = read.few in
      let same = same_outputs 0 outputs os rest q read.each some.each (omega (arith, few, all, ports))
      (λ o behind is less h. read.no_more o behind is (omega arith) (h ∙ ap (λ (n : ℕ). output_line n o ++ behind) (let none : 0 + length outputs ≡ length outputs = omega arith in none)))
      (sym read.read ∙ one.1) in
      let long : length outputs ≡ length os = ap (λ (l : List OutputFacts). length l) same.0 in
      omega arith

  pub front_is : text ≡ facts_text f ++ (output_lines 0 outputs ++ rest)
  front_is = read.facts ∙ ap (λ (l : List ℕ). facts_text f ++ l) read.read

  pub whole_is : text ≡ text_of f outputs ++ rest
  whole_is = front_is ∙ sym (append_assoc (facts_text f) (output_lines 0 outputs) rest)

  pub all_is : length f.ports + 2 ≤ length outputs → AreOutputs (length f.ports) outputs
  all_is most = let few = read.few in record { each = read.each; all = omega arith }

pub has_one : (f g : Facts) (os ps : List OutputFacts) (r q : List ℕ) → IsRecord f → IsRecord g → AreOutputs (length f.ports) os → AreOutputs (length g.ports) ps
    → text_of f os ++ r ≡ text_of g ps ++ q → (f ≡ g) × (os ≡ ps) × (r ≡ q)
has_one f g os ps r q is are some others e =
    let one = has_one_text f g (output_lines 0 os ++ r) (output_lines 0 ps ++ q) is are
    (sym (append_assoc (facts_text f) (output_lines 0 os) r) ∙ e ∙ append_assoc (facts_text g) (output_lines 0 ps) q) in
    let ports : length f.ports ≡ length g.ports = ap (λ (h : Facts). length h.ports) one.0 in
    let all = some.all in
    let all_others = others.all in
    let same = same_outputs 0 os ps r q some.each others.each (omega (arith, all, all_others, ports)) (λ o behind told less h. absurd (omega arith)) one.1 in
    (one.0, same.0, same.1)

pub has_one_whole : HasOneText
has_one_whole f g os ps ts us is are some others texts more e =
    let one = has_one f g os ps (text_lines ts) (text_lines us) is are some others e in
    (one.0, one.1, one_texts ts us texts more one.2)
