use Rattle.std.proofs.Common.{◌≡◌, refl, ap, ◌∙◌, ℕ, ◌+◌, List, ◌++◌, length, arith, append_assoc, length-append}
use Rattle.pcap.specs.Written.{record_header_of, whole_frame, written_record}
use Rattle.pcap.proofs.text.write.put_record.Goals as goal

-- a header and four slices, put one after another, are the record of the four side by side
put_frame : (moment size : ℕ) (a b d e out room header one two three four five : List ℕ)
    → size ≡ length a + length b + length d + length e → room ≡ out → header ≡ record_header_of moment size size
    → one ≡ room ++ header → two ≡ one ++ a → three ≡ two ++ b → four ≡ three ++ d → five ≡ four ++ e
    → five ≡ out ++ written_record (whole_frame moment (a ++ (b ++ (d ++ e))))
unfolding written_record
put_frame moment size a b d e out room header one two three four five size_is room_is header_is p q r s t =
    let whole : size ≡ length (a ++ (b ++ (d ++ e))) = simp length-append (omega arith) in
    let placed : five ≡ out ++ (header ++ (a ++ (b ++ (d ++ e)))) = rw (t, s, r, q, p, room_is) (simp append_assoc) in
    placed ∙ ap (λ h. out ++ (h ++ (a ++ (b ++ (d ++ e))))) (header_is ∙ ap (λ n. record_header_of moment n n) whole)

pub returns-clause-ok : goal.returns-clause-ok
returns-clause-ok c =
    put_frame c.args.moment _ c.args.head.now c.args.addresses.now c.args.tag.now c.args.body.now _ _ _ _ _ _ _ _
    refl c.reserve.ensures.items c.record_header.ensures
    c.put.ensures.items c.put-2.ensures.items c.put-3.ensures.items c.put-4.ensures.items c.put-5.ensures.items
