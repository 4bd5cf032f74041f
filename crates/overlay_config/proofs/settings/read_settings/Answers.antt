use Rattle.overlay_config.proofs.Meets.{settings_meet}
use Rattle.overlay_config.proofs.settings.read_settings.Goals as goal

pub new-requires : goal.new-requires
new-requires c = settings_meet _ c.in_ok-parts.parts c.in_ok-parts.ensures
