use Rattle.std.proofs.Common.{arith}
use Rattle.shared_tables.proofs.OnEntries.Renewing.{renewable, renewed_whole, renewed_seen}
use Rattle.shared_tables.proofs.shared_tables.SharedTables.refresh.Goals as goal

pub renew_entry-requires : goal.renew_entry-requires
renew_entry-requires c =
    let k = renewable c.self.inside c.args.self.now c.self.view_is c.self.invariant c.args.vid c.args.slot c.requires.held c.requires.rule c.args.place.now c.args.last c.requires.now in
    record { held = k.held; previous = k.previous; next = k.next; shares = omega (arith, c.self.invariant.sound.shares_length, c.self.inside.shares.ok.0); there = k.there; last = k.behind; ends = k.ends }

pub invariant_of-self : goal.invariant_of-self
invariant_of-self c =
    renewed_whole c.self.inside c.args.self.now c.self.view_is c.self.invariant c.args.vid c.args.slot c.requires.held c.requires.rule c.args.place.now c.args.last c.requires.now
    c.renew_entry.new.slots c.renew_entry.new.shares.items c.renew_entry.ensures.pool c.renew_entry.ensures.shares

pub returns : goal.returns
returns c =
    renewed_seen c.self.inside c.args.self.now c.self.view_is c.self.invariant c.args.vid c.args.slot c.requires.held c.requires.rule c.args.place.now c.args.last c.requires.now
    c.renew_entry.new.slots c.renew_entry.new.shares.items c.renew_entry.ensures.pool c.renew_entry.ensures.shares
