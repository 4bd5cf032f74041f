-- The texts of segments and differences. It states no standard.
use Rattle.std.specs.Prelude.{List, ℕ, ◌++◌, codes, decimal}
use Rattle.capture_compare.specs.Words.{addr_word, kind_word, tag_word, vni_word}
use Rattle.capture_compare.specs.declared.lonely.difference.Difference.{Difference}
use Rattle.capture_compare.specs.declared.lonely.difference.Difference.TheVariants as differences
use Rattle.capture_compare.specs.declared.lonely.segment.RecordSegment.{RecordSegment}
use Rattle.capture_compare.specs.declared.lonely.segment.RecordSegment.TheVariants as segments

-- the segment that a record tells
abbrev pub segment_text : RecordSegment → List ℕ
segment_text segments.Untagged = codes "untagged"
segment_text (segments.Vlan vid) = codes "vlan " ++ decimal vid
segment_text (segments.Tunnel kind vni) = kind_word kind ++ codes " " ++ vni_word vni
segment_text segments.NoTunnel = codes "no tunnel"

-- the one thing that differs
abbrev pub difference_text : Difference → List ℕ
difference_text (differences.Vni received sent) = codes "vni " ++ vni_word received ++ codes " for " ++ vni_word sent
difference_text (differences.Kind received sent) = codes "kind " ++ kind_word received ++ codes " for " ++ kind_word sent
difference_text (differences.Remote received sent) = codes "remote " ++ addr_word received ++ codes " for " ++ addr_word sent
difference_text (differences.Tag received sent) = codes "tag " ++ tag_word received ++ codes " for " ++ tag_word sent
difference_text (differences.Length received sent) = codes "length " ++ decimal received ++ codes " for " ++ decimal sent
