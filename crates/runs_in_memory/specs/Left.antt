-- What a run over files that tell all their octets leaves in them. It states no standard.
--     AlwaysTells      whatever it is asked of
--     known      files of which all octets are known
--     IsTextOf      what a capture of a name has, as classic pcap
--     LeavesRun      what the files hold behind a run that is done
--     IsDigested      a capture of a name has the text of this digest
--     AreDigested      some, one behind another
use Rattle.std.specs.Prelude.{◌≡◌, ℕ, List, map, Option, Some, Vec}
use Rattle.std.specs.Borrow.{Bor}
use Rattle.std.specs.List.{AllZip}
use Rattle.std.specs.declared.alloc.Global.{Global}
use Rattle.command_line.specs.Capture.{interface_of}
use Rattle.pcapng_input.specs.Adapted.{told_text}
use Rattle.pcapng_input.specs.declared.interface.Selection.{Selection}
use Rattle.pcap.specs.Source.{Stream}
use Rattle.timeline.specs.declared.event.Event.{Event}
use Rattle.overlay.specs.declared.settings.change.TimedChange.{TimedChange}
use Rattle.overlay_config.specs.Fault.{Meaning}
use Rattle.overlay_config.specs.Settings.{Settings}
use Rattle.segment_set.specs.Segments.{Segments}
use Rattle.capture_run.specs.Outputs.{Outputs}
use Rattle.stream_run.specs.Over.{texts_octets}
use Rattle.part_record.specs.Digests.{digest_of}
use Rattle.part_record.specs.declared.digests.CaptureDigest.{CaptureDigest}
use Rattle.program_files.specs.Asked.{IsAsked}
use Rattle.program_files.specs.Device.{left_in}
use Rattle.program_files.specs.Held.{AreHeld, Held}
use Rattle.program_files.specs.declared.inputs.Device.{Device}
use Rattle.runs_on_files.specs.Held.{HoldsRun}

-- of each of some things the octets are known
abbrev pub AlwaysTells : {T : Type 0} → (T → Option (List ℕ)) → Type 0
AlwaysTells {T} told = (thing : T) → (octets : List ℕ) × (told thing ≡ Some octets)

-- the octets of files that tell them
abbrev pub known : Outputs → Held
known octets = record {
  ports = map (λ (text : List ℕ). Some text) octets.ports;
  underlay = Some octets.underlay;
  decisions = Some octets.decisions;
}

module _ {F I : Type 0} (files : F → Option (List ℕ)) (input : I → Option (List ℕ)) where
  -- what some file or standard input has left, of the interfaces that the name asks for
  pub record IsTextOf (name text : List ℕ) : Type 0 where
    pub device : Device F I
    pub octets : List ℕ
    pub left : left_in files input device ≡ Some octets
    pub selection : Selection
    pub asked : IsAsked (interface_of name) selection
    pub text_is : text ≡ (told_text selection octets).octets

  -- captures of these names had these texts, the files of the run held these octets before it, and behind it they hold what comes
  -- out of the run of all texts more, each its own
  pub record LeavesRun (contents : F → Option (List ℕ)) (taken : List Event → List Event) (segments : Segments)
      (settings : Meaning Settings) (changes : Meaning (List TimedChange)) (port_names : List (Bor (List ℕ)))
      (underlay_name : List ℕ) : Type 0 where
    pub texts : List (List ℕ)
    pub text : List ℕ
    pub ports : AllZip (λ (name : Bor (List ℕ)) (capture : List ℕ). IsTextOf name.now capture) port_names texts
    pub underlay : IsTextOf underlay_name text
    pub new_ports : List Stream
    pub new_underlay : Stream
    pub before : Outputs
    pub behind : Outputs
    pub stood : AreHeld contents (known before)
    pub stand : AreHeld contents (known behind)
    pub run : (captures : List (Vec ℕ Global)) → texts_octets captures ≡ texts
        → HoldsRun taken segments settings changes captures text new_ports new_underlay (known before) (known behind)

  -- a capture of this name had a text, and this is its digest
  pub record IsDigested (name : List ℕ) (digest : CaptureDigest) : Type 0 where
    pub text : List ℕ
    pub is_text : IsTextOf name text
    pub digest_is : digest ≡ digest_of text

  -- there is one of each of these names
  abbrev pub AreDigested : List (Bor (List ℕ)) → List CaptureDigest → Type 0
  AreDigested names digests = AllZip (λ (name : Bor (List ℕ)) (digest : CaptureDigest). IsDigested name.now digest) names digests
