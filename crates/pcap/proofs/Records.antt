-- The text of a record, whose parts lie in different places.
use Rattle.std.proofs.Common.{◌≡◌, ◌∙◌, ◌++◌, ◌+◌, ap, arith, ℕ, List, length, length-append}
use Rattle.pcap.specs.Written.{record_header_of, whole_frame, written_record}

-- a record's header and four slices side by side are the record's text
pub text_is : (moment size : ℕ) (header a b d e : List ℕ) → header ≡ record_header_of moment size size → size ≡ length a + length b + length d + length e
    → header ++ (a ++ (b ++ (d ++ e))) ≡ written_record (whole_frame moment (a ++ (b ++ (d ++ e))))
unfolding written_record
text_is moment size header a b d e header_is size_is =
    let all : size ≡ length (a ++ (b ++ (d ++ e))) = simp length-append (omega arith) in
    ap (λ h. h ++ (a ++ (b ++ (d ++ e)))) (header_is ∙ ap (λ n. record_header_of moment n n) all)

-- the same, where one of the slices is told by another that is the same
pub text_by : (moment size : ℕ) (header a b d e told : List ℕ) → b ≡ told → header ≡ record_header_of moment size size → size ≡ length a + length b + length d + length e
    → header ++ (a ++ (b ++ (d ++ e))) ≡ written_record (whole_frame moment (a ++ (told ++ (d ++ e))))
text_by moment size header a b d e told same header_is size_is =
    text_is moment size header a b d e header_is size_is ∙ ap (λ t. written_record (whole_frame moment (a ++ (t ++ (d ++ e))))) same
