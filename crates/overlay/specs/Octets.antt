-- The words on texts of octets, which header_octets has.
pub use Rattle.wire.specs.Octets.{IsText, octet, field, number, octets, part, begins, is_same}
