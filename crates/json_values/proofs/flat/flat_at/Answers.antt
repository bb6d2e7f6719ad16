-- `json_values::flat::flat_at` meets its contract, by the laws of Flats.
use Rattle.json_values.proofs.Flats.{flats}
use Rattle.json_values.proofs.flat.flat_at.Goals as goal

pub returns-then-s-at : goal.returns-then-s-at
returns-then-s-at c = search flats

pub returns-then-b-eq34 : goal.returns-then-b-eq34
returns-then-b-eq34 c = search flats

pub returns-then-b-eq102 : goal.returns-then-b-eq102
returns-then-b-eq102 c = search flats

pub returns-then-b-eq110 : goal.returns-then-b-eq110
returns-then-b-eq110 c = search flats

pub returns-then-b-eq116 : goal.returns-then-b-eq116
returns-then-b-eq116 c = search flats

pub returns : goal.returns
returns c = search flats
