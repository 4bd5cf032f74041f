-- The sample's settings are accepted, and its captures are read: its run has outputs.
use Rattle.std.proofs.Common.{◌≡◌, ◌∙◌, refl, sym, ap, subst, arith, ℕ, ◌+◌, ◌≤◌, ◌++◌, ◌==◌, Bool, true, false, List, [], ◌∷◌, length, map, Vec, Global, Result, Ok, Err}
use Rattle.std.specs.List.{AllByRecursion, cons_option}
use Rattle.std.specs.Str.{IsUtf8}
use Rattle.std.proofs.lemmas.Bool.{eq-eqb, eqb-true}
use Rattle.std.proofs.lemmas.List.{length-map}
use Rattle.std.proofs.lemmas.Str.{IsUtf8-nil, is_utf8-from_IsUtf8}
use Rattle.toml.proofs.OnLiterals.{toml_on_literals}
use Rattle.toml.specs.Parse.{parse_document}
use Rattle.config_text.specs.Address.{joined, mac_of, ip4_of, ip6_of, addr_of}
use Rattle.config_text.specs.Fault.{◌>>=◌}
use Rattle.overlay_config.specs.Change.{changes_in, changes_of}
use Rattle.overlay_config.specs.CommonRules.{common_of}
use Rattle.overlay_config.specs.Document.{document, read_members}
use Rattle.overlay_config.specs.Fault.{Meaning}
use Rattle.overlay_config.specs.LocalRules.{local_of, members_of}
use Rattle.overlay_config.specs.Port.{port_of}
use Rattle.overlay_config.specs.Segment.{rules_of, segment_of}
use Rattle.overlay_config.specs.Settings.{Settings, segments_of, settings_in, settings_of, version_of}
use Rattle.overlay_config.specs.Tunnel.{tunnel_of}
use Rattle.overlay_config.specs.Underlay.{hops_of, own_addrs_of, tunnel_ports_of, underlay_of}
use Rattle.pcap.proofs.RoundTrip.{opened-written}
use Rattle.pcap.specs.Capture.{opened}
use Rattle.pcap.specs.Reading.{whole}
use Rattle.pcap.specs.Record.{IsWithinLimits, Record}
use Rattle.pcap.specs.Written.{written_header}
use Rattle.timeline.specs.Events.{all_events}
use Rattle.timeline.specs.Faults.{faults_of, opening_faults, record_faults, refused_by}
use Rattle.timeline.specs.Inputs.{Input, inputs, inputs_from, opened_by, opened_captures}
use Rattle.timeline.specs.Order.{merged}
use Rattle.timeline.specs.Timeline.{Timeline, cuts_of, told, if_faultless}
use Rattle.capture_run.proofs.Faults.{ports_counted}
use Rattle.capture_run.specs.Outputs.{Outputs}
use Rattle.capture_run.specs.Run.{Gives, run, by_timeline}
use Rattle.capture_run.specs.declared.fault.RunFault.{RunFault}
use Rattle.capture_run.specs.declared.fault.RunFault.TheVariants as faults
use Rattle.explanation.specs.declared.sample.built_in.Passing.{Passing}
use Rattle.explanation.specs.Sample.{captures, everybody, frame, passes, record_of, settings_text, station}

-- ---- the texts

document_of_text : (text : List ℕ) → IsUtf8 text → document text ≡ read_members (parse_document text)
document_of_text text h = rw (is_utf8-from_IsUtf8 text h) refl

-- settings of three ports
abbrev has_three_ports : Meaning Settings → Bool
has_three_ports (Ok s) = length s.ports == 3
has_three_ports (Err fault) = false

with_three_ports : (m : Meaning Settings) → has_three_ports m ≡ true → (s : Settings) × (m ≡ Ok s) × (length s.ports ≡ 3)
with_three_ports (Ok s) h = (s, refl, eqb-true (length s.ports) 3 h)
with_three_ports (Err fault) h = absurd (cc h)

sample_is_read : has_three_ports (read_members (parse_document settings_text) >>= settings_of) ≡ true
unfolding toml_on_literals joined mac_of ip4_of ip6_of addr_of common_of local_of members_of port_of rules_of segment_of tunnel_of version_of segments_of settings_of hops_of own_addrs_of tunnel_ports_of underlay_of
sample_is_read = refl

no_changes_are_read : (read_members (parse_document []) >>= changes_of) ≡ Ok []
unfolding toml_on_literals changes_of
no_changes_are_read = refl

settings_accepted : IsUtf8 settings_text → (s : Settings) × (settings_in settings_text ≡ Ok s) × (length s.ports ≡ 3)
settings_accepted utf8 =
    let read = with_three_ports (read_members (parse_document settings_text) >>= settings_of) sample_is_read in
    (read.0, ap (λ d. d >>= settings_of) (document_of_text settings_text utf8) ∙ read.1, read.2)

changes_accepted : changes_in [] ≡ Ok []
changes_accepted = ap (λ d. d >>= changes_of) (document_of_text [] IsUtf8-nil) ∙ no_changes_are_read

-- ---- the captures

-- a capture of whole records, and nothing behind them
abbrev IsWhole : List ℕ → Type 0
IsWhole text = (rs : List Record) × (opened text ≡ Ok (whole rs))

no_opening_faults : (is : List Input) → AllByRecursion (λ i. IsWhole i.text) is → opening_faults is ≡ []
no_opening_faults [] all = refl
no_opening_faults (i ∷ is) all = ap (λ r. cons_option (refused_by i.tap r) (opening_faults is)) all.0.1 ∙ no_opening_faults is all.1

no_record_faults : (is : List Input) → AllByRecursion (λ i. IsWhole i.text) is → record_faults (opened_captures is) ≡ []
no_record_faults [] all = refl
no_record_faults (i ∷ is) all = ap (λ r. record_faults (cons_option (opened_by i.tap r) (opened_captures is))) all.0.1 ∙ no_record_faults is all.1

no_faults : (is : List Input) → AllByRecursion (λ i. IsWhole i.text) is → faults_of is ≡ []
no_faults is all = ap (λ fs. fs ++ record_faults (opened_captures is)) (no_opening_faults is all) ∙ no_record_faults is all

whole_inputs : (port : ℕ) (vs : List (Vec ℕ Global)) (underlay : List ℕ) → AllByRecursion IsWhole (map (λ v. v.items) vs) → IsWhole underlay
    → AllByRecursion (λ i. IsWhole i.text) (inputs_from port vs underlay)
whole_inputs port [] underlay all below = (below, tt)
whole_inputs port (v ∷ vs) underlay all below = (all.0, whole_inputs (port + 1) vs underlay all.1 below)

told_whole : (changes : List ℕ) (vs : List (Vec ℕ Global)) (underlay : List ℕ) → AllByRecursion IsWhole (map (λ v. v.items) vs) → IsWhole underlay
    → (t : Timeline) × (told changes vs underlay ≡ Ok t)
unfolding told
told_whole changes vs underlay all below =
    let opened = opened_captures (inputs vs underlay) in
    let t : Timeline = record { events = merged (all_events changes opened); cuts = cuts_of opened } in
    (t, ap (λ faults. if_faultless faults t) (no_faults (inputs vs underlay) (whole_inputs 1 vs underlay all below)))

fits : (p : Passing) → p.second ≤ 4 → length (frame p) ≡ 60 → IsWithinLimits (record_of p)
fits p early short = record { moment = omega (arith, early); original = omega (arith, short); length = omega (arith, short) }

captures_whole : AllByRecursion IsWhole captures
captures_whole =
    let a = passes 1 everybody (station 1) 6 in
    let b = passes 3 (station 2) (station 1) 0 in
    let c = passes 2 (station 1) (station 2) 0 in
    let d = passes 4 (station 2) (station 2) 0 in
    let first = map record_of (a ∷ b ∷ []) in
    let second = map record_of (c ∷ d ∷ []) in (
      (first, opened-written first (fits a (omega arith) refl, (fits b (omega arith) refl, tt))),
      (
        (second, opened-written second (fits c (omega arith) refl, (fits d (omega arith) refl, tt))),
        (([], opened-written [] tt), tt),
      ),
    )

-- ---- the run

pub sample_runs : (ports : List (Vec ℕ Global)) → IsUtf8 settings_text → map (λ v. v.items) ports ≡ captures
    → (s : Settings) × (t : Timeline) × (run (settings_in settings_text) (changes_in []) ports written_header ≡ by_timeline s [] (length ports) (Ok t))
sample_runs ports utf8 are =
    let read = settings_accepted utf8 in
    let s = read.0 in
    let t = told_whole [] ports written_header (subst (AllByRecursion IsWhole) (sym are) captures_whole) ([], opened-written [] tt) in
    let many : length ports ≡ 3 = sym (length-map ports (λ v. v.items)) ∙ ap length are in
    let same : (length ports == length s.ports) ≡ true = eq-eqb _ _ (many ∙ sym read.2) in (
      s,
      t.0,
      ap (λ m. run m (changes_in []) ports written_header) read.1
          ∙ ap (λ m. run (Ok s) m ports written_header) changes_accepted
          ∙ ports_counted s [] ports written_header same
          ∙ ap (by_timeline s [] (length ports)) t.1,
    )

-- where a run has outputs, only memory is a fault
pub only_memory : (fault : RunFault) (found : Result Outputs RunFault) (s : Settings) (n : ℕ) (t : Timeline) → found ≡ by_timeline s [] n (Ok t) → Gives (Err fault) found → fault ≡ faults.OutOfMemory
only_memory (faults.Settings fault) found s n t is h = let e = sym is ∙ h in absurd (cc e)
only_memory (faults.Changes fault) found s n t is h = let e = sym is ∙ h in absurd (cc e)
only_memory faults.PortCount found s n t is h = let e = sym is ∙ h in absurd (cc e)
only_memory (faults.Capture tap fault) found s n t is h = let e = sym is ∙ h in absurd (cc e)
only_memory (faults.Record tap number fault) found s n t is h = let e = sym is ∙ h in absurd (cc e)
only_memory faults.OutOfMemory found s n t is h = refl
