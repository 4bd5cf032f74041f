-- A run over files that tell all their octets leaves what comes out of the run of these; and so of digests.
use Rattle.std.proofs.Common.{◌≡◌, ℕ, List, [], ◌∷◌, map, Option, None, Some, Result, Ok, Err, Bor, refl, sym, ap, ◌∙◌, subst, All}
use Rattle.std.proofs.lemmas.List.Elements.{All-head, All-tail}
use Rattle.std.specs.List.{AllZip}
use Rattle.std.specs.Prelude.{IfOk, IfSome}
use Rattle.timeline.specs.declared.event.Event.{Event}
use Rattle.overlay.specs.declared.settings.change.TimedChange.{TimedChange}
use Rattle.overlay_config.specs.Fault.{Meaning}
use Rattle.overlay_config.specs.Settings.{Settings}
use Rattle.segment_set.specs.Segments.{Segments}
use Rattle.pcap.specs.Source.{Stream}
use Rattle.pcapng_input.specs.Adapted.{told_text}
use Rattle.capture_run.specs.Outputs.{Outputs}
use Rattle.part_record.specs.Digests.{digest_of}
use Rattle.part_record.specs.declared.digests.CaptureDigest.{CaptureDigest}
use Rattle.program_files.specs.Device.{left_in}
use Rattle.program_files.specs.Held.{AreHeld, Held, IsHeld}
use Rattle.program_files.specs.Opened.{AreOpened, IsOpened, told_of}
use Rattle.program_files.specs.declared.inputs.Device.{Device}
use Rattle.program_files.specs.declared.inputs.Device.TheVariants.{File, Standard}
use Rattle.runs_on_files.specs.Digests.{AreDigestsOf, IsDigestOf}
use Rattle.runs_on_files.specs.Files.{IsRunOnFiles}
use Rattle.runs_on_files.specs.Held.{HoldsRun}
use Rattle.runs_in_memory.specs.Left.{AlwaysTells, AreDigested, IsDigested, IsTextOf, LeavesRun, known}
use Rattle.runs_in_memory.specs.Memory.{file_holds, file_left, input_left}

-- ---- what was read

module _ {F I : Type 0} (files : F → Option (List ℕ)) (input : I → Option (List ℕ)) (all_files : AlwaysTells files) (all_input : AlwaysTells input) where
  device_tells : (device : Device F I) → (octets : List ℕ) × (left_in files input device ≡ Some octets)
  device_tells (File file) = all_files file
  device_tells (Standard standard) = all_input standard

  -- a capture that was opened tells the text of one of its name
  capture_tells : (name : List ℕ) (told : Option (List ℕ)) → IsOpened files input name told → (text : List ℕ) × IsTextOf files input name text × (told ≡ Some text)
  capture_tells name told opened =
      let left = device_tells opened.device in (
        (told_text opened.selection left.0).octets,
        record { device = opened.device; octets = left.0; left = left.1; selection = opened.selection; asked = opened.asked; text_is = refl },
        opened.told_is ∙ ap (told_of opened.selection) left.1,
      )

  -- the same of some, one behind another
  captures_tell : (names : List (Bor (List ℕ))) (captures : List Stream) → AreOpened files input names captures
      → (texts : List (List ℕ)) × AllZip (λ (name : Bor (List ℕ)) (text : List ℕ). IsTextOf files input name.now text) names texts
      × (map (λ (s : Stream). s.supply.rest) captures ≡ map (λ (octets : List ℕ). Some octets) texts)
  captures_tell [] [] h = ([], tt, refl)
  captures_tell [] (y ∷ ys) h = absurd h
  captures_tell (x ∷ xs) [] h = absurd h
  captures_tell (x ∷ xs) (y ∷ ys) h =
      let one = capture_tells x.now y.supply.rest h.0 in
      let more = captures_tell xs ys h.1 in (
        one.0 ∷ more.0,
        (one.1, more.1),
        ap (λ a. a ∷ map (λ (s : Stream). s.supply.rest) ys) one.2 ∙ ap (λ r. Some one.0 ∷ r) more.2,
      )

  -- a digest is that of such a text
  pub digest_tells : (name : List ℕ) (digest : CaptureDigest) → IsDigestOf files input name digest → IsDigested files input name digest
  digest_tells name digest is =
      let tells = capture_tells name is.told is.opened in
      record {
        text = tells.0;
        is_text = tells.1;
        digest_is = subst (λ (told : Option (List ℕ)). IfSome told (λ octets. digest ≡ digest_of octets)) tells.2 is.digest_is;
      }

  pub digests_tell : (names : List (Bor (List ℕ))) (digests : List CaptureDigest) → AreDigestsOf files input names digests → AreDigested files input names digests
  digests_tell [] [] h = tt
  digests_tell [] (y ∷ ys) h = absurd h
  digests_tell (x ∷ xs) [] h = absurd h
  digests_tell (x ∷ xs) (y ∷ ys) h = (digest_tells x.now y h.0, digests_tell xs ys h.1)

-- ---- what was written

abbrev held_of : List (Option (List ℕ)) → Option (List ℕ) → Option (List ℕ) → Held
held_of ports underlay decisions = record { ports = ports; underlay = underlay; decisions = decisions }

module _ {F : Type 0} (contents : F → Option (List ℕ)) (all : AlwaysTells contents) where
  text_held : (text : Option (List ℕ)) → IsHeld contents text → (octets : List ℕ) × (text ≡ Some octets)
  text_held text held =
      let octets = all held.0 in
      (octets.0, held.1 ∙ octets.1)

  texts_held : (texts : List (Option (List ℕ))) → All (IsHeld contents) texts → (octets : List (List ℕ)) × (texts ≡ map (λ (text : List ℕ). Some text) octets)
  texts_held [] h = ([], refl)
  texts_held (x ∷ xs) h =
      let one = text_held x (All-head (IsHeld contents) x xs h) in
      let more = texts_held xs (All-tail (IsHeld contents) x xs h) in
      (one.0 ∷ more.0, ap (λ a. a ∷ xs) one.1 ∙ ap (λ r. Some one.0 ∷ r) more.1)

  -- what some files hold is known
  all_held : (held : Held) → AreHeld contents held → (octets : Outputs) × (held ≡ known octets)
  all_held held are =
      let ports = texts_held held.ports are.ports in
      let underlay = text_held held.underlay are.underlay in
      let decisions = text_held held.decisions are.decisions in
      let octets : Outputs = record { ports = ports.0; underlay = underlay.0; decisions = decisions.0 } in (
        octets,
        ap (λ (p : List (Option (List ℕ))). held_of p held.underlay held.decisions) ports.1
            ∙ ap (λ (u : Option (List ℕ)). held_of (map (λ (text : List ℕ). Some text) ports.0) u held.decisions) underlay.1
            ∙ ap (λ (d : Option (List ℕ)). held_of (map (λ (text : List ℕ). Some text) ports.0) (Some underlay.0) d) decisions.1,
      )

-- ---- the run

module _ {F I : Type 0} (files : F → Option (List ℕ)) (input : I → Option (List ℕ)) (contents : F → Option (List ℕ)) (taken : List Event → List Event) where
  pub leaves_run : (segments : Segments) (settings : Meaning Settings) (changes : Meaning (List TimedChange)) (ports : List (Bor (List ℕ))) (underlay : List ℕ)
      → AlwaysTells files → AlwaysTells input → AlwaysTells contents
      → IsRunOnFiles files input contents taken segments settings changes ports underlay → LeavesRun files input contents taken segments settings changes ports underlay
  leaves_run segments settings changes ports underlay all_files all_input all_contents r =
      let tells = captures_tell files input all_files all_input ports r.ports r.opened in
      let tells_underlay = capture_tells files input all_files all_input underlay r.underlay.supply.rest r.opened_underlay in
      let before = all_held contents all_contents r.run.before r.run.stood in
      let behind = all_held contents all_contents r.run.behind r.run.stand in
      record {
        texts = tells.0;
        text = tells_underlay.0;
        ports = tells.1;
        underlay = tells_underlay.1;
        new_ports = r.new_ports;
        new_underlay = r.new_underlay;
        before = before.0;
        behind = behind.0;
        stood = subst (AreHeld contents) before.1 r.run.stood;
        stand = subst (AreHeld contents) behind.1 r.run.stand;
        run = λ captures are.
            let Holds : Held → Held → Type 0 = λ old new. HoldsRun taken segments settings changes captures tells_underlay.0 r.new_ports r.new_underlay old new in
            let holds = r.run.run.over captures tells_underlay.0 (tells.2 ∙ sym (ap (map (λ (octets : List ℕ). Some octets)) are), tells_underlay.2) in
            subst (λ (b : Held). Holds (known before.0) b) behind.1 (subst (λ (b : Held). Holds b r.run.behind) before.1 holds);
      }

-- ---- files in memory

pub memory_leaves : (taken : List Event → List Event) (segments : Segments) (settings : Meaning Settings) (changes : Meaning (List TimedChange)) (ports : List (Bor (List ℕ))) (underlay : List ℕ)
    → IsRunOnFiles file_left input_left file_holds taken segments settings changes ports underlay → LeavesRun file_left input_left file_holds taken segments settings changes ports underlay
memory_leaves taken segments settings changes ports underlay =
    leaves_run file_left input_left file_holds taken segments settings changes ports underlay (λ file. (file.left.now, refl)) (λ input. (input.now, refl)) (λ file. (file.held.items, refl))

pub memory_digests : (names : List (Bor (List ℕ))) (digests : List CaptureDigest) → AreDigestsOf file_left input_left names digests → AreDigested file_left input_left names digests
memory_digests = digests_tell file_left input_left (λ file. (file.left.now, refl)) (λ input. (input.now, refl))

-- what follows from an answer
pub where_done : {T E : Type 0} (A B : T → Type 0) (result : Result T E) → ((x : T) → A x → B x) → IfOk result A → IfOk result B
where_done A B (Ok x) f h = f x h
where_done A B (Err e) f h = tt

-- and where a folder is named
pub where_named : {A B C : Type 0} (folder : Option A) → (B → C) → IfSome folder (λ _. B) → IfSome folder (λ _. C)
where_named None f h = tt
where_named (Some x) f h = f h
