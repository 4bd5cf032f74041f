use Rattle.std.proofs.Common.{◌≡◌, ◌∙◌, ◌&&◌, refl, true, false, Option, Some, None, is_some, is_none, nat_le, ap, sym}
use Rattle.std.specs.FinMap.{get, len}
use Rattle.filter_db.specs.declared.entry.Entry.{Entry}
use Rattle.filter_db.proofs.table.Table.is_full.Goals as goal

none_of : (o : Option Entry) → is_some o ≡ false → is_none o ≡ true
none_of None h = refl
none_of (Some e) h = cc

pub returns-then-is_none : goal.returns-then-is_none
returns-then-is_none c =
    let s = c.args.self.now in
    let none : is_none (get s.entries c.args.mac) ≡ true = none_of (get s.entries c.args.mac) (ap is_some (sym c.entry.ensures) ∙ c.if-is_none.ensures) in
    c.is_at_limit.ensures ∙ ap (λ b. b && nat_le s.limit (len s.entries)) (sym none)
