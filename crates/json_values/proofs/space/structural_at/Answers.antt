-- `json_values::space::structural_at` meets its contract, by the laws of Spaces.
use Rattle.json_values.proofs.Spaces.{structure}
use Rattle.json_values.proofs.space.structural_at.Goals as goal

pub returns-then-s-place : goal.returns-then-s-place
returns-then-s-place c = search structure

pub returns-then-s-place-2 : goal.returns-then-s-place-2
returns-then-s-place-2 c = search structure

pub returns : goal.returns
returns c = search structure
