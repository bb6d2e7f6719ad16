-- What stands ahead of a place of a text.
use Rattle.std.specs.Prelude.{◌≡◌, List, ℕ, ◌-◌, ◌≤◌, ◌<◌, length}
use Rattle.text_places.specs.Inner.Blocks.{Without}
use Rattle.apply_pieces.specs.declared.ahead.Ahead.{Ahead}
use Rattle.apply_pieces.specs.Inner.Within.{FirstAt}
use Rattle.apply_pieces.specs.Inner.Sought.{SoughtSays, Sought}

abbrev pub none_ahead : Ahead
none_ahead = record { known = record { start = 0; row = 0 }; past = 0; after = record { start = 0; row = 0 } }

-- of the place `at`; the numbers have 32 bits, since they are kept as words
pub record AheadBy (ahead : Ahead) (classes : List (List ℕ)) (pool text : List ℕ) (at : ℕ) : Type 0 where
  pub inside : at ≤ length text
  pub known : Sought ahead.known classes pool text at
  pub past_small : ahead.past < 4294967296
  pub none : ahead.past ≡ 0 → Without 0x3B text at (length text)
  pub some : 0 < ahead.past → FirstAt 0x3B text at (ahead.past - 1)
  pub after : 0 < ahead.past → SoughtSays ahead.after.start ahead.after.row classes pool text ahead.past
  pub start_small : ahead.after.start < 4294967296
  pub row_small : ahead.after.row < 4294967296
