use Rattle.std.proofs.Common.{◌≡◌, ◌∙◌, ap, sym, ℕ, List, Some}
use Rattle.std.specs.Option.{option_and_then}
use Rattle.line_words.specs.Words.{behind, word}
use Rattle.tunnel_traffic.specs.Rows.{unknown_by, vni_of}
use Rattle.tunnel_traffic.proofs.told.row.unknown_of.Goals as goal

pub returns : goal.returns
returns c =
    let rest : List ℕ = behind c.args.words.now in
    let vni : vni_of (word c.args.words.now) ≡ Some c.in_ok-vni.vni = ap vni_of (sym c.first_word.ensures.word) ∙ sym c.vni_of.ensures ∙ c.in_ok-vni.was in
    c.unknown_by.ensures ∙ ap (unknown_by c.args.kind c.in_ok-vni.vni) c.first_word.ensures.behind
    ∙ ap (option_and_then (λ v. unknown_by c.args.kind v rest)) (sym vni)
