use Rattle.run_view.proofs.Views.{whole_view}
use Rattle.run_view.proofs.laws.views.Goals as goal

pub returns : goal.returns
returns c = whole_view
