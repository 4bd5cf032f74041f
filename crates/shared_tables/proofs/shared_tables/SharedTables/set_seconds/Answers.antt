use Rattle.std.proofs.Common.{◌≡◌, map, set, Some, refl, sym, ap, ◌∙◌}
use Rattle.std.specs.Option.{option_map}
use Rattle.std.proofs.lemmas.List.{map-set}
use Rattle.shared_tables.specs.declared.share.Share.{Share}
use Rattle.shared_tables.specs.Shared.{Shared, Rule, with_ageing}
use Rattle.shared_tables.specs.SlotsOfSegments.{share_at, rule_of}
use Rattle.shared_tables.proofs.OnEntries.SoundLemmas.{sound_at, same_shared, rule_is, share_read}
use Rattle.shared_tables.proofs.OnEntries.OpenedLemmas.{seconds_sound}
use Rattle.shared_tables.proofs.shared_tables.SharedTables.set_seconds.Goals as goal

pub invariant_of-self : goal.invariant_of-self
invariant_of-self c =
    let i = c.self.inside in let share = c.in-Some.share in
    let here : share_at i.shares.items c.args.vid ≡ Some share = share_read _ _ c.args.vid c.share_at.result c.in-Some.share c.deref.ensures.value c.share_at.ensures c.in-Some.is in
    record { sound = sound_at i.moment refl refl c.set_share.ensures.items (seconds_sound i.slots.entries i.slots.lines i.shares.items i.moment c.args.vid c.args.seconds share here c.requires.some_time c.self.invariant.sound); trees = c.self.invariant.trees }

pub returns-in-Some : goal.returns-in-Some
returns-in-Some c =
    let i = c.self.inside in let share = c.in-Some.share in let v = c.args.vid in
    let here : share_at i.shares.items v ≡ Some share = share_read _ _ c.args.vid c.share_at.result c.in-Some.share c.deref.ensures.value c.share_at.ensures c.in-Some.is in
    let other : Share = record share { ageing = c.args.seconds } in
    let changed : Shared → Shared = λ w. record w { rules = with_ageing w.rules v c.args.seconds } in
    same_shared i.moment i.calls.total refl
    (ap (map (option_map rule_of)) c.set_share.ensures.items ∙ map-set (option_map rule_of) i.shares.items v (Some other)
    ∙ ap (λ o. set (map (option_map rule_of) i.shares.items) v (option_map (λ (rule : Rule). record rule { ageing = c.args.seconds }) o)) (sym (rule_is i.shares.items v share here)))
    refl refl
    ∙ ap changed c.self.view_is
