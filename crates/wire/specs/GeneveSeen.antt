-- What contracts see of an option that was read, without where it lies in memory. It states no standard.
use Rattle.std.specs.Prelude.{ℕ, List}
use Rattle.std.specs.Borrow.{Bor}
use Rattle.wire.specs.GeneveOptions.{TunnelOption}
use Rattle.wire.specs.declared.geneve.options.GeneveOption.{GeneveOption}

-- the option itself
abbrev pub option_seen : GeneveOption → TunnelOption
option_seen option = record { class = option.class; kind = option.kind; body = option.body.now }

-- an option and the text behind it
abbrev pub split_seen : GeneveOption × Bor (List ℕ) → TunnelOption × List ℕ
split_seen split = (option_seen split.0, split.1.now)
