-- What is handed on, file by file.
use Rattle.std.proofs.Common.{◌≡◌, ◌≤◌, ℕ, List, [], ◌∷◌, ◌++◌, length, map, Option, None, Some, Bool, true, false, if◌then◌else◌, All, refl, sym, ap, ◌∙◌, subst, arith, append_assoc, append-nil}
use Rattle.std.proofs.lemmas.List.{length_push, map-append}
use Rattle.std.proofs.lemmas.List.Elements.{All-push}
use Rattle.std.proofs.lemmas.Slice.Zip.{all_zipped_more}
use Rattle.std.specs.List.{AllZip}
use Rattle.std.specs.Io.KnownBytes.{Keeps, append_known}
use Rattle.pcap.specs.Block.{Block, told}
use Rattle.pcap.specs.Sink.{Drain}
use Rattle.program_files.specs.Held.{IsHeld}

-- what was written to outputs, and what files have
abbrev pub written_to : List Drain → List (Option (List ℕ))
written_to ports = map (λ (d : Drain). d.written) ports

abbrev pub in_files : List Block → List (Option (List ℕ))
in_files files = map (λ (b : Block). b.written) files

length-zero : (rest : List Drain) → length rest ≡ 0 → rest ≡ []
length-zero [] e = refl
length-zero (d ∷ ds) e = absurd (omega (arith, e))

module _ {F : Type 0} (contents : F → Option (List ℕ)) where
  -- of some outputs the first ones were taken, and files stand for all of them, or for fewer
  pub record Handed (ports done rest : List Drain) (files : List Block) : Type 0 where
    pub empty : All (λ (b : Block). b.held ≡ []) files
    pub inside : All (IsHeld contents) (in_files files)
    pub few : length files ≤ length done
    pub all : done ++ rest ≡ ports
    pub kept : length files ≡ length done → AllZip Keeps (written_to done) (in_files files)

  pub none : (ports rest : List Drain) (files : List Block) → rest ≡ ports → files ≡ [] → Handed ports [] rest files
  none ports rest files e is = subst (Handed ports [] rest) (sym is) record {
    empty = λ k d low. absurd (omega (arith, low));
    inside = λ k d low. absurd (omega (arith, low));
    few = omega arith;
    all = e;
    kept = λ e. tt;
  }

  passed : (ports done rest behind : List Drain) (port : Drain) → done ++ rest ≡ ports → rest ≡ port ∷ behind → (done ++ port ∷ []) ++ behind ≡ ports
  passed ports done rest behind port all next = append_assoc done (port ∷ []) behind ∙ ap (λ (r : List Drain). done ++ r) (sym next) ∙ all

  -- one more was taken, and no file stands for it
  fewer : (ports done rest behind : List Drain) (files : List Block) (port : Drain) → rest ≡ port ∷ behind → Handed ports done rest files → Handed ports (done ++ port ∷ []) behind files
  fewer ports done rest behind files port next h = record {
    empty = h.empty;
    inside = h.inside;
    few = omega (arith, h.few, length_push done port);
    all = passed ports done rest behind port h.all next;
    kept = λ e. absurd (omega (arith, e, h.few, length_push done port));
  }

  -- or one does
  more : (ports done rest behind : List Drain) (files : List Block) (port : Drain) (file : Block) → rest ≡ port ∷ behind → file.held ≡ [] → IsHeld contents file.written → Keeps port.written file.written
      → Handed ports done rest files → Handed ports (done ++ port ∷ []) behind (files ++ file ∷ [])
  more ports done rest behind files port file next empty inside keeps h = record {
    empty = All-push (λ (b : Block). b.held ≡ []) files file h.empty empty;
    inside = subst (All (IsHeld contents)) (sym (map-append (λ (b : Block). b.written) files (file ∷ []))) (All-push (IsHeld contents) (in_files files) file.written h.inside inside);
    few = omega (arith, h.few, length_push done port, length_push files file);
    all = passed ports done rest behind port h.all next;
    kept = λ e.
        let same : length files ≡ length done = omega (arith, e, length_push done port, length_push files file) in
        subst (λ (xs : List (Option (List ℕ))). AllZip Keeps xs (in_files (files ++ file ∷ []))) (sym (map-append (λ (d : Drain). d.written) done (port ∷ [])))
        (subst (λ (ys : List (Option (List ℕ))). AllZip Keeps (written_to done ++ port.written ∷ []) ys) (sym (map-append (λ (b : Block). b.written) files (file ∷ [])))
        (all_zipped_more Keeps (written_to done) (in_files files) port.written file.written (h.kept same) keeps));
  }

  -- the outputs among what a loop took
  abbrev pub outputs_in : List (ℕ × Drain) → List Drain
  outputs_in taken = map (λ (y : ℕ × Drain). y.1) taken

  pub one_fewer : (ports : List Drain) (taken : List (ℕ × Drain)) (rest behind : List Drain) (files : List Block) (index : ℕ) (port : Drain) → rest ≡ port ∷ behind
      → Handed ports (outputs_in taken) rest files → Handed ports (outputs_in (taken ++ (index, port) ∷ [])) behind files
  one_fewer ports taken rest behind files index port next h =
      subst (λ (done : List Drain). Handed ports done behind files) (sym (map-append (λ (y : ℕ × Drain). y.1) taken ((index, port) ∷ []))) (fewer ports (outputs_in taken) rest behind files port next h)

  -- where memory for the list was refused, none does
  by_memory : (ports done rest behind : List Drain) (files : List Block) (port : Drain) (file : Block) (is_pushed : Bool) → rest ≡ port ∷ behind → file.held ≡ [] → IsHeld contents file.written → Keeps port.written file.written
      → Handed ports done rest files → Handed ports (done ++ port ∷ []) behind (if is_pushed then files ++ file ∷ [] else files)
  by_memory ports done rest behind files port file true next empty inside keeps h = more ports done rest behind files port file next empty inside keeps h
  by_memory ports done rest behind files port file false next empty inside keeps h = fewer ports done rest behind files port next h

  pub one_more : (ports : List Drain) (taken : List (ℕ × Drain)) (rest behind : List Drain) (files new : List Block) (index : ℕ) (port : Drain) (file : Block) (is_pushed : Bool)
      → rest ≡ port ∷ behind → file.held ≡ [] → IsHeld contents file.written → Keeps port.written file.written
      → new ≡ (if is_pushed then files ++ file ∷ [] else files)
      → Handed ports (outputs_in taken) rest files → Handed ports (outputs_in (taken ++ (index, port) ∷ [])) behind new
  one_more ports taken rest behind files new index port file is_pushed next empty inside keeps items h =
      subst (Handed ports (outputs_in (taken ++ (index, port) ∷ [])) behind) (sym items)
      (subst (λ (done : List Drain). Handed ports done behind (if is_pushed then files ++ file ∷ [] else files)) (sym (map-append (λ (y : ℕ × Drain). y.1) taken ((index, port) ∷ [])))
      (by_memory ports (outputs_in taken) rest behind files port file is_pushed next empty inside keeps h))

  -- a file stands for each of them
  pub whole : (ports done rest : List Drain) (files : List Block) → length rest ≡ 0 → length files ≡ length ports → Handed ports done rest files → AllZip Keeps (written_to ports) (in_files files)
  whole ports done rest files size many h =
      let end = length-zero rest size in
      let same : done ≡ ports = sym (append-nil done) ∙ ap (λ (r : List Drain). done ++ r) (sym end) ∙ h.all in
      subst (λ (p : List Drain). AllZip Keeps (written_to p) (in_files files)) same (h.kept (many ∙ ap length (sym same)))

none_behind : (known : Option (List ℕ)) → append_known known [] ≡ known
none_behind None = refl
none_behind (Some octets) = ap (λ (xs : List ℕ). Some xs) (append-nil octets)

-- an output that holds nothing back has told what its file holds
pub told_by_file : (block : Block) (contents : Option (List ℕ)) → block.held ≡ [] → block.written ≡ contents → told block ≡ contents
told_by_file block contents empty same = ap (λ (held : List ℕ). append_known block.written held) empty ∙ none_behind block.written ∙ same

-- one more of some outputs writes to a file
pub one_more_held : {F : Type 0} (contents : F → Option (List ℕ)) (ports : List Drain) (port : Drain) → All (IsHeld contents) (written_to ports) → IsHeld contents port.written → All (IsHeld contents) (written_to (ports ++ port ∷ []))
one_more_held contents ports port all one =
    subst (All (IsHeld contents)) (sym (map-append (λ (d : Drain). d.written) ports (port ∷ []))) (All-push (IsHeld contents) (written_to ports) port.written all one)
