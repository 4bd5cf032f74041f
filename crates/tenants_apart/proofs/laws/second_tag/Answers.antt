use Rattle.tenants_apart.proofs.Again.{same-octets, one-behind, other-enters}
use Rattle.tenants_apart.proofs.SecondTag.{whole-tag, cut-refused, reserved-refused}
use Rattle.tenants_apart.proofs.laws.second_tag.Goals as goal

pub returns : goal.returns
returns c = record {
  whole = whole-tag;
  one = one-behind;
  octets = same-octets;
  enters = other-enters;
  reserved = reserved-refused;
  cut = cut-refused;
}
