-- What a new input tells.
use Rattle.std.proofs.Common.{◌≡◌, ◌∙◌, refl, sym, ap, subst, true, false, List, [], ◌∷◌, ◌++◌, append_assoc, append-nil, Option, None, Some}
use Rattle.std.specs.List.{flat_map}
use Rattle.std.specs.Prelude.{ℕ, length, ◌&&◌, ◌||◌, nat_le, option_map, if◌then◌else◌}
use Rattle.pcap.specs.Record.{Record}
use Rattle.pcap.specs.Written.{written, written_header, written_record}
use Rattle.pcapng_input.specs.Adapted.{Begun, TellsClassic, Told, Within, is_adapted, is_of_one, told_at, told_behind, told_packets, told_plain, told_reading, told_text}
use Rattle.pcapng_input.specs.Adapter.{Adapter, told, told_from}
use Rattle.pcapng_input.specs.Block.{is_section}
use Rattle.pcapng_input.specs.Classic.{capture_by, classic_text}
use Rattle.pcapng_input.specs.Reading.{Context, EndsCut, EndsFaulty, EndsWhole, TextEnd, packets_in, packets_of, start}
use Rattle.pcapng_input.specs.declared.interface.Selection.{Selection}

by_rest : (selection : Selection) (a : Adapter) (x : Option (List ℕ)) → ((rest : List ℕ) → told_from a rest ≡ told_text selection rest)
    → option_map (told_from a) x ≡ option_map (told_text selection) x
by_rest selection a None same = refl
by_rest selection a (Some rest) same = ap Some (same rest)

-- an input by which the format isn't told yet
pub opens : (selection : Selection) (a : Adapter) (x : Option (List ℕ)) → a.selection ≡ selection → a.ready ≡ [] → a.stand ≡ Begun → a.below.held ≡ []
    → a.below.supply.rest ≡ x → told a ≡ option_map (told_text selection) x
opens selection a x same none stand held is =
    ap (option_map (told_from a)) is ∙ by_rest selection a x (λ rest.
    ap (λ t. told_behind t (told_at a.selection a.stand (a.below.held ++ rest))) none
    ∙ ap (λ s. told_behind [] (told_at a.selection s (a.below.held ++ rest))) stand
    ∙ ap (λ t. told_behind [] (told_at a.selection Begun (t ++ rest))) held
    ∙ ap (λ s. told_text s rest) same)

one : (selection : Selection) (rest : List ℕ) → is_of_one selection ≡ true → told_behind written_header (told_reading (packets_in selection start rest)) ≡ told_text selection rest
unfolding told_text
one selection rest is =
    sym (ap (λ b. if b || (nat_le 4 (length rest) && is_section rest) then told_packets selection rest else plain rest) is)
  where
    plain : List ℕ → Told
    plain text = told_plain text

-- an input of the packets of one interface
pub opens_one : (selection : Selection) (a : Adapter) (context : Context) (x : Option (List ℕ)) → is_of_one selection ≡ true → a.selection ≡ selection
    → a.ready ≡ written_header → a.stand ≡ Within context → context ≡ start → a.below.held ≡ [] → a.below.supply.rest ≡ x → told a ≡ option_map (told_text selection) x
opens_one selection a context x of_one same header stand first held is =
    ap (option_map (told_from a)) is ∙ by_rest selection a x (λ rest.
    ap (λ t. told_behind t (told_at a.selection a.stand (a.below.held ++ rest))) header
    ∙ ap (λ s. told_behind written_header (told_at a.selection s (a.below.held ++ rest))) stand
    ∙ ap (λ (c : Context). told_behind written_header (told_at a.selection (Within c) (a.below.held ++ rest))) first
    ∙ ap (λ t. told_behind written_header (told_at a.selection (Within start) (t ++ rest))) held
    ∙ ap (λ s. told_behind written_header (told_reading (packets_in s start rest))) same
    ∙ one selection rest of_one)

-- ---- what is told of a pcapng text is its classic capture

by_end : (records : List Record) (end : TextEnd) (left_out : ℕ)
    → TellsClassic (told_behind written_header (told_reading (record { records = records; end = end; left_out = left_out }))) (capture_by (written records) end)
by_end records EndsWhole left_out = (ap (λ t. written_header ++ t) (append-nil (flat_map written_record records)), refl)
by_end records EndsCut left_out = (sym (append_assoc written_header (flat_map written_record records) (0 ∷ [])), refl)
by_end records (EndsFaulty fault) left_out = refl

pub tells_classic : (selection : Selection) (text : List ℕ) → is_adapted selection text ≡ true → TellsClassic (told_text selection text) (classic_text selection text)
unfolding told_text classic_text
tells_classic selection text is =
    subst (λ t. TellsClassic t (classic_text selection text)) (sym (ap (λ b. if b then told_packets selection text else told_plain text) is))
    (by_end (packets_of selection text).records (packets_of selection text).end (packets_of selection text).left_out)

pub tells_others : (selection : Selection) (text : List ℕ) → is_adapted selection text ≡ false → told_text selection text ≡ told_plain text
unfolding told_text
tells_others selection text is = ap (λ b. if b then told_packets selection text else told_plain text) is
