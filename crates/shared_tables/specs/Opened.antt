-- The shares of new tables. It serves proofs.
use Rattle.std.specs.Prelude.{◌≡◌, ℕ, ◌<◌, ◌≤◌, List, length, map, Option, Some, None}
use Rattle.std.specs.Option.{option_map}
use Rattle.std.specs.List.{sum_by}
use Rattle.std.specs.FinMap.{empty}
use Rattle.filter_db.specs.declared.tables.TableRule.{TableRule}
use Rattle.filter_db.specs.Segment.{Segment, new_segments}
use Rattle.filter_db.specs.Database.{slot}
use Rattle.shared_tables.specs.declared.share.Share.{Share}
use Rattle.shared_tables.specs.SlotsOfSegments.{share_at, share_limit}

-- a share that has no entries yet
pub record IsNew (share : Share) : Type 0 where
  pub count : share.count ≡ 0
  pub queue_first : share.queue.first ≡ None
  pub queue_last : share.queue.last ≡ None
  pub fixed_first : share.fixed.first ≡ None
  pub fixed_last : share.fixed.last ≡ None
  pub some_time : 0 < share.ageing

-- the share that a rule begins with
abbrev pub new_share : TableRule → Share
new_share rule = record {
  limit = rule.limit;
  ageing = rule.ageing;
  count = 0;
  queue = record { first = None; last = None };
  fixed = record { first = None; last = None };
}

-- the segment of such a share
abbrev pub segment_of_new : Share → Segment
segment_of_new share = record { limit = share.limit; ageing = share.ageing; entries = empty }

-- at the place of each VID a new share for its rule, where it has one
pub record AreOpened (rules : List TableRule) (shares : List (Option Share)) : Type 0 where
  pub size : length shares ≡ 4096
  pub segments : (vid : ℕ) → slot (map (option_map segment_of_new) shares) vid ≡ new_segments rules vid
  pub new : (vid : ℕ) (share : Share) → share_at shares vid ≡ Some share → IsNew share
  pub limits : sum_by share_limit shares ≤ sum_by (λ (rule : TableRule). rule.limit) rules
