-- The words on addresses and tunnel kinds that this crate's clauses cite, which ip_udp_view has.
pub use Rattle.wire.specs.Addr.{address, is_usable, same_addr, same_kind}
