-- The numbers of the rules, by the constants that code and definitions name them with.
use Rattle.std.specs.Prelude.{◌≡◌}
use Rattle.layout.specs.declared.job.TheConstants.{LAST_TICK}
use Rattle.layout.specs.declared.kind.TheConstants.{LABEL_LEN, RECORD_LEN}
use Rattle.power.specs.declared.model.TheConstants.{SETTING_VALUES}
use Rattle.planner.specs.declared.demands.TheConstants.{HORIZON, MOST_DEMANDS}
use Rattle.book.specs.declared.table.TheConstants.{PLACES}
use Rattle.book.specs.declared.image.TheConstants.{IMAGE_LEN}

pub record Numbers : Type 0 where
  -- the ticks that are planned ahead
  pub horizon : HORIZON ≡ 256
  -- the places of a book, and the demands that can be planned for
  pub places : PLACES ≡ 64
  pub most_demands : MOST_DEMANDS ≡ 64
  -- the last tick of all, 2^48 - 1
  pub last_tick : LAST_TICK ≡ 281474976710655
  -- the values that a setting can have
  pub setting_values : SETTING_VALUES ≡ 256
  -- the bytes of a label, of a record and of an image, which so has 65 records
  pub label_len : LABEL_LEN ≡ 6
  pub record_len : RECORD_LEN ≡ 24
  pub image_len : IMAGE_LEN ≡ 1560
