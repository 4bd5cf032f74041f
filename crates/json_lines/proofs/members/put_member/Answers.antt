use Rattle.std.proofs.Common.{◌∷◌, [], ◌++◌, ◌∙◌, ℕ, List, ap}
use Rattle.json.specs.Print.{quoted}
use Rattle.serde_json.specs.Written.{compact_text}
use Rattle.json_lines.specs.Outcomes.{words}
use Rattle.json_lines.specs.Objects.{value_of}
use Rattle.json_lines.proofs.Values.{puts_then}
use Rattle.json_lines.proofs.members.put_member.Goals as goal

pub returns : goal.returns
returns c =
    let value = compact_text (value_of c.args.form.now (words c.args.line.now) c.args.member.now.1) in
    let key = quoted c.args.member.now.0.now in
    let start = c.put_octet.new.out.items in
    puts_then c.put_value.result c.args.out.now.items start c.put_value.new.out.items (c.args.mark ∷ []) (key ++ 58 ∷ value) c.in_ok-put_octet.ensures
    (puts_then c.put_value.result start c.put_quoted.new.out.items c.put_value.new.out.items key (58 ∷ value)
    (c.in_ok-put_quoted.ensures ∙ ap (λ (k : List ℕ). start ++ quoted k) c.as_bytes.ensures.value)
    (puts_then c.put_value.result c.put_quoted.new.out.items c.put_octet-2.new.out.items c.put_value.new.out.items (58 ∷ []) value c.in_ok-put_octet-2.ensures c.put_value.ensures))
