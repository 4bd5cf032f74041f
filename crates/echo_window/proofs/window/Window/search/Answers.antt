use Rattle.echo_window.specs.Laid.{told}
use Rattle.echo_window.proofs.Searching.{all-own}
use Rattle.echo_window.proofs.window.Window.search.Goals as goal

pub returns-then-is_alike : goal.returns-then-is_alike
returns-then-is_alike c = all-own c.bucket.result c.args.self.now.within (told c.args.met.now) c.args.self.now.came c.bucket.ensures.value (c.is_alike.ensures c.if-is_alike.true)
