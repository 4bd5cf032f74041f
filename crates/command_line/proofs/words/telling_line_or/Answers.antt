use Rattle.std.proofs.Common.{◌≡◌, ◌∙◌, ap, inl, inr, refl, subst, sym}
use Rattle.std.specs.Prelude.{IfSome, IsSome, Some, option_map}
use Rattle.clap.specs.Walk.{texts}
use Rattle.clap.specs.Words.{kind_of}
use Rattle.command_line.specs.Meaning.{HasDepth, meaning_of}
use Rattle.command_line.proofs.Simple.{meant_as_telling}
use Rattle.command_line.proofs.words.telling_line_or.Goals as goal

pub returns-in-Ok-Some : goal.returns-in-Ok-Some
returns-in-Ok-Some c =
    let words = texts c.args.words.now in
    let line = c.in-Ok-Some.line in
    let is : option_map meaning_of c.in-Ok-Some.field-0 ≡ Some (meaning_of line) = ap (option_map meaning_of) c.in-Ok-Some.field-0-is in
    let meant = sym c.in-Ok-Some.ensures.ok ∙ is in
    record {
      ok = elim c.requires [
        | inl h ↦ absurd (c.in_default.not-OutOfMemory (c.kind.ensures ∙ h))
        | inr h ↦ meant_as_telling words (kind_of c.args.error) (Some (meaning_of line)) h.1 meant
      ];
      depth = subst (λ o. IfSome o HasDepth) c.in-Ok-Some.field-0-is c.in-Ok-Some.ensures.depth;
      taken = inr (subst IsSome (sym meant) refl);
      fault = tt;
    }
