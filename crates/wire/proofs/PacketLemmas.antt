-- A text is a Geneve packet where none of the faults holds, and nowhere else.
use Rattle.std.proofs.Common.{◌≡◌, ℕ, ◌*◌, ◌/◌, ◌%◌, Bool, true, false, not, cond, eqb, List, [], ◌∷◌, ◌++◌, drop, Option, Some, None, refl, sym, ap, ◌∙◌, subst, arith}
use Rattle.std.specs.Prelude.{is_none, unwrap_or, IsTrue, IsFalse, IsErrOf, Result, Ok, Err}
use Rattle.std.proofs.lemmas.Bool.{ltb-false, le-ltb, lt-leb, leb-false, eq-eqb, eqb-true, not-false, not_from_true}
use Rattle.std.proofs.lemmas.List.{take-append-drop, length-take, length-drop, length-append, take_at, drop_at, drop-drop}
use Rattle.wire.specs.Octets.{IsText, octet, field, octets, part}
use Rattle.wire.proofs.OctetsLemmas.{cells8, octets3-field, field3-below, IsText-drop, IsText-take}
use Rattle.wire.specs.First.{first, fault_of}
use Rattle.wire.proofs.FirstLemmas.{NothingHolds-from}
use Rattle.wire.specs.declared.geneve.view.GeneveFault.{GeneveFault}
use Rattle.wire.specs.declared.geneve.view.GeneveFault.TheVariants.{BadOptions, CriticalOption}
use Rattle.wire.specs.GeneveOptions.{TunnelOption, allowed, options_in}
use Rattle.wire.specs.Geneve.{IsGeneve}
use Rattle.wire.specs.GeneveReading.{options_length, geneve_vni, options_of, geneve_options, geneve_inner, is_short, has_other_version, are_options_short, is_control, is_no_frame, is_refused, option_faults, geneve_faults, PacketWhereNothingHolds, PacketNowhereElse, PacketSent}
use Rattle.wire.proofs.OptionsLemmas.{options_in-texts, texts-options_in}

-- ---- the checks before the options

pub record NoneBefore (text : List ℕ) : Type 0 where
  pub long : is_short text ≡ false
  pub version : has_other_version text ≡ false
  pub room : are_options_short text ≡ false
  pub no_control : is_control text ≡ false
  pub frame : is_no_frame text ≡ false

-- where they are passed, the faults are those of the options
pub geneve_faults-options : (known : List (ℕ × ℕ)) (text : List ℕ) → NoneBefore text
    → first (geneve_faults known text) ≡ first (option_faults known (part 8 (options_length text) text))
geneve_faults-options known text before = rw (before.long, before.version, before.room, before.no_control, before.frame) refl

-- options of which nothing is told are there, and allowed
pub option_faults-none : (known : List (ℕ × ℕ)) (text : List ℕ) → first (option_faults known text) ≡ None
    → (options_in text ≡ Some (unwrap_or (options_in text) [])) × IsTrue (allowed known (unwrap_or (options_in text) []))
option_faults-none known text none = of (options_in text) none
  where
    of : (read : Option (List TunnelOption)) → first ((BadOptions, is_none read) ∷ (CriticalOption, is_refused known read) ∷ []) ≡ None
        → (read ≡ Some (unwrap_or read [])) × IsTrue (allowed known (unwrap_or read []))
    of None e = absurd cc
    of (Some options) e = (refl, accepted (allowed known options) e)
      where
        accepted : (b : Bool) → first ((CriticalOption, not b) ∷ []) ≡ None → b ≡ true
        accepted true e = refl
        accepted false e = absurd cc

-- ---- what is found at the places

pub packet-found : (text : List ℕ) (options : List TunnelOption) → IsText text → NoneBefore text → options_of text ≡ Some options
    → IsGeneve text (geneve_vni text) options (geneve_inner text)
packet-found text options octets_are before read =
    let eight = ltb-false _ _ before.long in
    let version_is = eqb-true _ _ (not-false (eqb (octet 0 text / 64) 0) before.version) in
    let there = ltb-false _ _ before.room in
    let kind = eqb-true _ _ (not-false (eqb (field 2 2 text) 0x6558) before.frame) in
    let n = options_length text in
    let third = octets_are 2 in
    let fourth = octets_are 3 in
    let two : octet 2 text ≡ 0x65 = omega arith in
    let three : octet 3 text ≡ 0x58 = omega arith in
    let opt_len_is : octet 0 text % 64 ≡ octet 0 text = omega arith in
    let texts = part 8 n text in
    let behind : drop 8 text ≡ texts ++ geneve_inner text = sym (take-append-drop n (drop 8 text)) ∙ ap (λ (x : List ℕ). texts ++ x) (drop-drop n 8 text) in
    record {
      opt_len = octet 0 text;
      flags = octet 1 text;
      last = octet 7 text;
      option_texts = texts;
      version_0 = omega arith;
      no_control = leb-false _ _ before.no_control;
      fits = field3-below 4 text octets_are;
      room = omega (arith, length-take n (drop 8 text), length-drop 8 text, opt_len_is);
      options_are = texts-options_in texts options (IsText-take n (drop 8 text) (IsText-drop 8 text octets_are)) read;
      whole = cells8 text eight
          ∙ ap (λ (x : ℕ). octet 0 text ∷ octet 1 text ∷ x ∷ octet 3 text ∷ octet 4 text ∷ octet 5 text ∷ octet 6 text ∷ octet 7 text ∷ drop 8 text) two
          ∙ ap (λ (x : ℕ). octet 0 text ∷ octet 1 text ∷ 0x65 ∷ x ∷ octet 4 text ∷ octet 5 text ∷ octet 6 text ∷ octet 7 text ∷ drop 8 text) three
          ∙ ap (λ (x : List ℕ). octet 0 text ∷ octet 1 text ∷ 0x65 ∷ 0x58 ∷ (x ++ octet 7 text ∷ drop 8 text)) (sym (octets3-field 4 text octets_are))
          ∙ ap (λ (x : List ℕ). octet 0 text ∷ octet 1 text ∷ 0x65 ∷ 0x58 ∷ octets 3 (geneve_vni text) ++ (octet 7 text ∷ x)) behind;
    }

pub geneve-found : PacketWhereNothingHolds
geneve-found known text octets_are none =
    let holds = NothingHolds-from (geneve_faults known text) none in
    let before : NoneBefore text = record { long = holds.0; version = holds.1.0; room = holds.1.1.0; no_control = holds.1.1.1.0; frame = holds.1.1.1.1.0 } in
    let told = option_faults-none known (part 8 (options_length text) text) (sym (geneve_faults-options known text before) ∙ none) in
    (packet-found text (geneve_options text) octets_are before told.0, told.1)

-- a packet by other spellings of its parts
pub with_parts : (text : List ℕ) (vni n : ℕ) (options os : List TunnelOption) (inner e : List ℕ) → n ≡ vni → os ≡ options → e ≡ inner → IsGeneve text vni options inner → IsGeneve text n os e
with_parts text vni n options os inner e vni_is options_are inner_is packet = rw (vni_is, options_are, inner_is) packet

-- ---- what is read of a packet

pub record Says (text : List ℕ) (vni : ℕ) (options : List TunnelOption) (inner : List ℕ) : Type 0 where
  pub before : NoneBefore text
  pub options_are : options_of text ≡ Some options
  pub vni_is : geneve_vni text ≡ vni
  pub inner_is : geneve_inner text ≡ inner

pub packet-says : (text : List ℕ) (vni : ℕ) (options : List TunnelOption) (inner : List ℕ) → IsGeneve text vni options inner → Says text vni options inner
packet-says text vni options inner packet =
    let opt_len = packet.opt_len in
    let texts = packet.option_texts in
    let x = opt_len ∷ packet.flags ∷ 0x65 ∷ 0x58 ∷ octets 3 vni ++ (packet.last ∷ texts ++ inner) in
    let version = packet.version_0 in
    let room = packet.room in
    let low : opt_len % 64 ≡ opt_len = omega arith in
    let size : options_length x ≡ 4 * opt_len = ap (λ (w : ℕ). 4 * w) low in
    let texts_are : part 8 (options_length x) x ≡ texts = take_at texts inner (options_length x) (omega arith) in
    let fits = packet.fits in
    subst (λ (y : List ℕ). Says y vni options inner) (sym packet.whole) (record {
      before = record {
        long = le-ltb _ _ (omega arith);
        version = not_from_true (eqb (opt_len / 64) 0) (eq-eqb _ _ (omega arith));
        room = le-ltb _ _ (omega (arith, length-append texts inner));
        no_control = lt-leb _ _ packet.no_control;
        frame = refl;
      };
      options_are = ap options_in texts_are ∙ options_in-texts texts options packet.options_are;
      vni_is = omega arith;
      inner_is = sym (drop-drop (options_length x) 8 x) ∙ drop_at texts inner (options_length x) (omega arith);
    })

-- what is told of options that are there
told-some : (known : List (ℕ × ℕ)) (read : Option (List TunnelOption)) (options : List TunnelOption) → read ≡ Some options
    → first ((BadOptions, is_none read) ∷ (CriticalOption, is_refused known read) ∷ []) ≡ cond (allowed known options) None (Some CriticalOption)
told-some known None options e = absurd cc
told-some known (Some others) options e =
    let same : others ≡ options = cc in
    by_cases (allowed known others) ∙ ap (λ (os : List TunnelOption). cond (allowed known os) None (Some CriticalOption)) same
  where
    by_cases : (b : Bool) → first ((BadOptions, false) ∷ (CriticalOption, not b) ∷ []) ≡ cond b None (Some CriticalOption)
    by_cases true = refl
    by_cases false = refl

pub geneve-only : PacketNowhereElse
geneve-only known text vni options inner packet =
    let says = packet-says text vni options inner packet in (
      geneve_faults-options known text says.before ∙ told-some known (options_of text) options says.options_are,
      says.vni_is,
      ap (λ (read : Option (List TunnelOption)). unwrap_or read []) says.options_are,
      says.inner_is,
    )

pub geneve-sent : PacketSent
geneve-sent vni inner fits = record { opt_len = 0; flags = 0; last = 0; option_texts = []; version_0 = omega arith; no_control = omega arith; fits = fits; room = refl; options_are = refl; whole = refl }

-- ---- what is answered of a packet

-- one with allowed options isn't refused
pub allowed-not_refused : (known : List (ℕ × ℕ)) (fault : GeneveFault) (text : List ℕ) (vni : ℕ) (options : List TunnelOption) (inner : List ℕ)
    → Some fault ≡ first (geneve_faults known text) → IsGeneve text vni options inner → IsTrue (allowed known options) → ⊥
allowed-not_refused known fault text vni options inner e packet accepted =
    let none : Some fault ≡ None = e ∙ (geneve-only known text vni options inner packet).0 ∙ ap (λ (b : Bool). cond b None (Some CriticalOption)) accepted in
    absurd cc

-- one with other options isn't taken
pub others-not_taken : (known : List (ℕ × ℕ)) (text : List ℕ) (vni : ℕ) (options : List TunnelOption) (inner : List ℕ)
    → None ≡ first (geneve_faults known text) → IsGeneve text vni options inner → IsFalse (allowed known options) → ⊥
others-not_taken known text vni options inner e packet others =
    let some : None ≡ Some CriticalOption = e ∙ (geneve-only known text vni options inner packet).0 ∙ ap (λ (b : Bool). cond b None (Some CriticalOption)) others in
    absurd cc

-- one with other options is refused for them
pub others-refused : {A : Type 0} (known : List (ℕ × ℕ)) (result : Result A GeneveFault) (text : List ℕ) (vni : ℕ) (options : List TunnelOption) (inner : List ℕ)
    → fault_of result ≡ first (geneve_faults known text) → IsGeneve text vni options inner → IsFalse (allowed known options) → IsErrOf result CriticalOption
others-refused {A = A} known result text vni options inner e packet refused =
    of result (e ∙ (geneve-only known text vni options inner packet).0 ∙ ap (λ (b : Bool). cond b None (Some CriticalOption)) refused)
  where
    of : (r : Result A GeneveFault) → fault_of r ≡ Some CriticalOption → IsErrOf r CriticalOption
    of (Ok v) q = absurd cc
    of (Err fault) q = cc
