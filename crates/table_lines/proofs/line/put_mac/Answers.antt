use Rattle.std.proofs.Common.{◌≡◌, ◌++◌, ◌∷◌, List, ℕ, get_or, ◌∙◌, ap, subst}
use Rattle.std.specs.Result.{OnOk}
use Rattle.std.specs.String.{string_bytes}
use Rattle.endpoint_core.specs.Text.{hex_octet}
use Rattle.table_lines.specs.Lines.{mac_text}
use Rattle.table_lines.proofs.LineLemmas.{six_behind}
use Rattle.table_lines.proofs.line.put_mac.Goals as goal

pub returns : goal.returns
unfolding mac_text
returns c =
    let old = string_bytes c.args.text.now in let new = string_bytes c.put_behind_colon-5.new.text in
    let pair : ℕ → List ℕ = λ i. 58 ∷ hex_octet (get_or c.mac.inside.0 i 0) in
    let pairs =
    six_behind old (string_bytes c.put_hex.new.text) (string_bytes c.put_behind_colon.new.text) (string_bytes c.put_behind_colon-2.new.text) (string_bytes c.put_behind_colon-3.new.text) (string_bytes c.put_behind_colon-4.new.text) (hex_octet (get_or c.mac.inside.0 0 0)) (pair 1) (pair 2) (pair 3) (pair 4) (pair 5) c.in_ok-put_hex.ensures c.in_ok-put_behind_colon.ensures c.in_ok-put_behind_colon-2.ensures c.in_ok-put_behind_colon-3.ensures c.in_ok-put_behind_colon-4.ensures in
    subst (λ (t : List ℕ). OnOk c.put_behind_colon-5.result (new ≡ t)) (pairs ∙ ap (λ (m : List ℕ). old ++ mac_text m) c.mac.view_is) c.put_behind_colon-5.ensures
