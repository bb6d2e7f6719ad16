-- A file into an output that is zero.
use Rattle.std.specs.Prelude.{◌≡◌, true, List, ◌++◌, ℕ, ◌-◌, ◌≤◌, ◌<◌, length, replicate, Result, Ok, Err}
use Rattle.ground.specs.Choice.{pick}
use Rattle.table_rows.specs.Rows.{most_classes, most_members}
use Rattle.tree_rule.specs.declared.TreeCounts.{TreeCounts}
use Rattle.tree_rule.specs.Files.{file_length}
use Rattle.tree_rule.specs.Checks.{well_formed_file}
use Rattle.tree_rule.specs.Theorems.{FormedBy}
use Rattle.apply_rule.specs.Applying.{most_tree, fits_in, output_in}
use Rattle.apply_plans.specs.Inner.Plan.{TextsLow}
use Rattle.table_pool.specs.declared.write.NoRoom.{NoRoom}
use Rattle.apply_rule.specs.declared.ApplyError.{ApplyError}
use Rattle.apply_rule.specs.declared.ApplyError.TheVariants as refusal

-- the output is zero
abbrev pub Zero : List ℕ → Type 0
Zero out = out ≡ replicate (length out) 0

pub record PassReady (classes rows : List (List ℕ)) (c : TreeCounts) (f out : List ℕ) : Type 0 where
  pub formed : FormedBy c f
  pub file : length f ≤ most_tree
  pub room : file_length c ≤ length out
  pub most : length out ≤ most_tree
  pub zero : Zero out
  pub few : length classes ≤ most_classes
  pub low : TextsLow classes rows

pub record FillReady (classes rows : List (List ℕ)) (f out : List ℕ) : Type 0 where
  pub formed : well_formed_file f ≡ true
  pub file : length f ≤ most_tree
  pub most : length out ≤ most_tree
  pub zero : Zero out
  pub few_classes : length classes ≤ most_classes
  pub few_members : length rows ≤ most_members
  pub low : TextsLow classes rows

-- the same, and any room is lent
pub record AcceptReady (classes rows : List (List ℕ)) (f out : List ℕ) : Type 0 where
  pub formed : well_formed_file f ≡ true
  pub file : length f ≤ most_tree
  pub zero : Zero out
  pub few_classes : length classes ≤ most_classes
  pub few_members : length rows ≤ most_members
  pub low : TextsLow classes rows

-- the file stands at the start of the output, and the rest of it is zero
pub record FilledTo («end» : ℕ) (file old new : List ℕ) : Type 0 where
  pub past : «end» ≡ length file
  pub room : «end» ≤ length old
  pub is : new ≡ file ++ replicate (length old - «end») 0

pub record NoneFilled (file old : List ℕ) : Type 0 where
  pub over : length old < length file

abbrev pub OutputFilledBy : Result ℕ NoRoom → List ℕ → List ℕ → List ℕ → Type 0
OutputFilledBy (Ok «end») file old new = FilledTo «end» file old new
OutputFilledBy (Err _) file old new = NoneFilled file old

-- where tables and tree are accepted: the answer and the output, of which `room` bytes are lent
abbrev pub fitting_answer : ℕ → List ℕ → Result ℕ ApplyError
fitting_answer room file = pick (fits_in room (length file)) (Ok (length file)) (Err refusal.NoRoom)

abbrev pub fitting_output : ℕ → List ℕ → List ℕ
fitting_output room file = pick (fits_in room (length file)) (output_in room file) (replicate room 0)
