use Rattle.std.proofs.Common.{◌≡◌, ◌≤◌, ◌∙◌, ap, arith, length, sym, true}
use Rattle.std.specs.Prelude.{◌&&◌, nat_le}
use Rattle.std.proofs.lemmas.Bool.{both_ways}
use Rattle.pcapng_input.proofs.Leads.{first_pcapng, first_plain, placed_more}
use Rattle.pcapng_input.specs.Block.{is_section}
use Rattle.pcapng_input.proofs.reading.read_magic.Goals as goal
use Rattle.pcapng_input.proofs.reading.read_magic.Goals.{else-is_more-via-else-is_more, else-is_more-via-then-is_more+else-held-lt-MAGIC}

pub returns-then-is_pcapng-clause-leads : goal.returns-then-is_pcapng-clause-leads
returns-then-is_pcapng-clause-leads g c = λ selection all.
    first_pcapng selection c.args.context.now c.args.gathered.now c.fetch.new.self 4 c.in_ok-is_more.is_more c.put.new.self c.in_ok-is_more.ensures.fetched all c.requires.sound.1
    (c.put.ensures ∙ c.global_header.ensures)
    (ap (λ t. nat_le 4 (length t) && is_section t) (sym c.held-held.ensures.octets) ∙ sym c.is_pcapng.ensures ∙ c.if-is_pcapng.true)

pub returns-then-is_pcapng-clause-sound : goal.returns-then-is_pcapng-clause-sound
returns-then-is_pcapng-clause-sound g c =
    let fits = c.in_ok-is_more.ensures.fetched.fits in
    placed_more c.args.context.now 0 c.args.gathered.now c.fetch.new.self c.requires.sound.2 (omega (arith, fits)) c.in_ok-is_more.ensures.fewer

pub returns-clause-leads : goal.returns-clause-leads
returns-clause-leads g c =
    let same = c.held-held.ensures.octets in
    let long : c.in_ok-is_more.is_more ≡ true → 4 ≤ length c.fetch.new.self.held =
    elim c.else-is_more.branch [
      | else-is_more-via-then-is_more+else-held-lt-MAGIC w ↦ λ e. omega (arith, w.if-held-lt-MAGIC.false, ap length same)
      | else-is_more-via-else-is_more w ↦ λ e. absurd (both_ways c.in_ok-is_more.is_more w.if-is_more.false e)
    ] in
    λ selection all.
    first_plain selection c.args.context.now c.args.gathered.now c.fetch.new.self c.clear.new.self 4 c.in_ok-is_more.is_more c.put-2.new.self c.in_ok-is_more.ensures.fetched
    c.clear.ensures all (c.put-2.ensures ∙ same)
    (ap (λ t. nat_le 4 (length t) && is_section t) (sym same) ∙ sym c.is_pcapng.ensures ∙ c.if-is_pcapng.false) long
