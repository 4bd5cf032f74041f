-- What is told of a capture that was opened, and of one more.
use Rattle.std.proofs.Common.{◌≡◌, ℕ, ◌+◌, ◌<◌, List, [], ◌∷◌, ◌++◌, length, get_or, take, Option, None, Some, refl, sym, ap, ◌∙◌, subst, arith, Bor, ne_eqb}
use Rattle.std.proofs.lemmas.Bool.{cond-false}
use Rattle.std.specs.Prelude.{option_map}
use Rattle.std.specs.Io.Buffered.{reader_buffer, reader_capacity, reader_inner, reader_remaining}
use Rattle.std.specs.Io.KnownBytes.{prepend_known}
use Rattle.std.specs.declared.io.buffered.BufReader.{BufReader}
use Rattle.std.proofs.lemmas.List.{take_more}
use Rattle.std.proofs.lemmas.Slice.Zip.{all_zipped_more}
use Rattle.pcap.specs.Source.{Stream}
use Rattle.pcapng_input.specs.Adapted.{told_text}
use Rattle.pcapng_input.specs.Adapter.{Adapter, told, told_octets}
use Rattle.pcapng_input.specs.declared.interface.Selection.{Selection}
use Rattle.program_files.specs.Opened.{AreOpened, IsOpened, told_of}

none_ahead : (rest : Option (List ℕ)) → prepend_known [] rest ≡ rest
none_ahead None = refl
none_ahead (Some octets) = refl

-- a reader with a buffer that holds nothing yet has left what its device has
pub unread : {T A : Type 0} (remaining : T → Option (List ℕ)) (reader : BufReader T A) (device : T) (size : ℕ)
    → reader_inner reader ≡ device → reader_buffer reader ≡ [] → reader_capacity reader ≡ size → 0 < size → reader_remaining remaining reader ≡ remaining device
unread remaining reader device size inner empty capacity some =
    cond-false _ _ _ (ne_eqb (reader_capacity reader) 0 (λ e. absurd (omega (arith, e, capacity, some))))
    ∙ ap (λ (ahead : List ℕ). prepend_known ahead (remaining reader.inner)) empty
    ∙ none_ahead (remaining reader.inner)
    ∙ ap remaining inner

octets_of : (selection : Selection) (rest : Option (List ℕ)) → option_map (λ t. t.octets) (option_map (told_text selection) rest) ≡ told_of selection rest
octets_of selection None = refl
octets_of selection (Some text) = refl

-- an input of a capture tells what the input below it has left, as classic pcap
pub told_octets_are : (adapter : Adapter) (selection : Selection) (rest left : Option (List ℕ)) → told adapter ≡ option_map (told_text selection) rest → rest ≡ left → told_octets adapter ≡ told_of selection left
told_octets_are adapter selection rest left is same = ap (option_map (λ t. t.octets)) is ∙ octets_of selection rest ∙ ap (told_of selection) same

module _ {F I : Type 0} (files : F → Option (List ℕ)) (input : I → Option (List ℕ)) where
  -- where this text is the name at this place
  pub one_more : (names : List (Bor (List ℕ))) (captures : List Stream) (text : List ℕ) (next : Stream) (index : ℕ)
      → index < length names → (d : Bor (List ℕ)) × (text ≡ (get_or names index d).now) → IsOpened files input text next.supply.rest
      → AreOpened files input (take index names) captures → AreOpened files input (take (index + 1) names) (captures ++ next ∷ [])
  one_more names captures text next index within is one each =
      let name = get_or names index is.0 in
      subst (λ (ns : List (Bor (List ℕ))). AreOpened files input ns (captures ++ next ∷ [])) (sym (take_more names index is.0 within))
      (all_zipped_more (λ (n : Bor (List ℕ)) (c : Stream). IsOpened files input n.now c.supply.rest) (take index names) captures name next each
      (subst (λ (t : List ℕ). IsOpened files input t next.supply.rest) is.1 one))
