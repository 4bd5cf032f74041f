use Rattle.std.proofs.Common.{◌≡◌, length}
use Rattle.echo_window.specs.Echo.{first_met, octets_of}
use Rattle.echo_window.specs.Laid.{told}
use Rattle.echo_window.proofs.Keeping.{fits-put}
use Rattle.echo_window.proofs.Showing.{came-is, count-is, octets-are}
use Rattle.echo_window.proofs.window.Window.has_room.Goals as goal

pub returns : goal.returns
returns c =
    let came = c.args.self.now.came in
    let v = came-is c.self.view_is in
    let n : length came ≡ length c.self.inside.frames.items = count-is _ _ _ v in
    let o : octets_of came ≡ length c.self.inside.row = octets-are _ _ _ v c.self.invariant.stands.whole in
    let ok = c.self.inside.frames.ok.0 in
    rw (fits-put came (first_met (told c.args.met.now)), n, o) cc
