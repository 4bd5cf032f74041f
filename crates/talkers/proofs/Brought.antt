-- What an event brings, as it is shown, and as it is counted.
use Rattle.std.proofs.Common.{◌≡◌, ◌∙◌, ℕ, Bool, true, false, Option, None, Result, length, refl, sym, ap, subst}
use Rattle.std.specs.Prelude.{if◌then◌else◌, nat_le}
use Rattle.std.proofs.lemmas.Bool.{and_from, le-leb}
use Rattle.wire.specs.declared.ether.reason.Refused.{Refused}
use Rattle.overlay.specs.Ports.{is_port}
use Rattle.timeline.specs.Captured.{Captured}
use Rattle.timeline.specs.declared.event.Happening.{Happening}
use Rattle.timeline.specs.declared.event.Happening.TheVariants.{Record}
use Rattle.timeline.specs.declared.source.Tap.{Tap}
use Rattle.timeline.specs.declared.source.Tap.TheVariants.{Port, Underlay}
use Rattle.endpoint_core.specs.Settings.{Settings}
use Rattle.endpoint_core.specs.Arrival.{Arrival}
use Rattle.stream_run.specs.Sights.{IsBrought}
use Rattle.talkers.specs.Talkers.{coming_at, coming_by, coming_of}
use Rattle.talkers.specs.declared.coming.Coming.{Coming}

picked : (b : Bool) (x : Option Coming) → b ≡ true → x ≡ (if b then x else None)
picked true x is = refl
picked false x is = absurd cc

module _ (S : Settings) (moment : ℕ) (captured : Captured) (came : Result Arrival Refused) where
  brought_at : (tap : Tap) → IsBrought S (Record tap captured) came → coming_by moment came ≡ coming_at S moment tap captured
  brought_at (Port port) b =
      ap (coming_by moment) b.2
      ∙ picked (is_port (length S.ports.ports) port) _ (and_from (nat_le 1 port) (nat_le port (length S.ports.ports)) (le-leb 1 port b.0) (le-leb port (length S.ports.ports) b.1))
  brought_at Underlay b = ap (coming_by moment) b

  pub brought : (h : Happening) (tap : Tap) → h ≡ Record tap captured → IsBrought S h came → coming_by moment came ≡ coming_of S moment h
  brought h tap is b = subst (λ (x : Happening). coming_by moment came ≡ coming_of S moment x) (sym is) (brought_at tap (subst (λ (x : Happening). IsBrought S x came) is b))
