use Rattle.std.proofs.Common.{◌≡◌, subst, List, ℕ}
use Rattle.std.specs.Prelude.{OnOk, codes}
use Rattle.std.specs.String.{string_bytes}
use Rattle.change_story.specs.Change.{numbers_text, of_vid, tunnels_text}
use Rattle.change_story.proofs.TextLemmas.{two-put}
use Rattle.change_story.proofs.asked.put_segment.Goals as goal

pub returns : goal.returns
returns c =
    subst (λ (z : List ℕ). OnOk c.put_numbers.result (string_bytes c.put_numbers.new.text ≡ z))
    (two-put (string_bytes c.args.text.now) (of_vid (codes "add_segment") c.args.vid) (tunnels_text c.args.tunnels.now) (numbers_text c.args.limit c.args.ageing)
    (string_bytes c.put_of_vid.new.text) (string_bytes c.put_tunnels.new.text) c.in_ok-put_of_vid.ensures c.in_ok-put_tunnels.ensures)
    c.put_numbers.ensures
