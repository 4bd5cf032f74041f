-- How tables are stored as values. It states no standard.
use Rattle.std.specs.Prelude.{refl, ℕ}
use Rattle.std.specs.Coded.{Coded, code_by, coded×, coded_ℕ, coded_list}
use Rattle.std.specs.FinMap.{code}
use Rattle.filter_db.specs.contracts.entry.Entry as entry
use Rattle.filter_db.specs.Table.{Table}
use Rattle.filter_db.specs.Segment.{Segment}

-- a table is stored as the list of its entries
abbrev pub table_code : Coded Table
table_code = code (coded_list coded_ℕ) entry.the_row.coded

-- a segment is stored as the triple of its fields
abbrev pub segment_code : Coded Segment
segment_code =
    code_by (ℕ × (ℕ × Table)) (coded× coded_ℕ (coded× coded_ℕ table_code))
    (λ s. (s.limit, (s.ageing, s.entries))) (λ p. record { limit = p.0; ageing = p.1.0; entries = p.1.1 }) (λ _. refl)
