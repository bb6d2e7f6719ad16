-- What is written of the tokens of one node, one after the other.
use Rattle.std.specs.Prelude.{◌≡◌, List, map, ℕ, ◌+◌, ◌*◌, ◌≤◌, ◌<◌, eqb, length, take, drop, Result, Ok, Err}
use Rattle.ground.specs.Choice.{pick}
use Rattle.ground.specs.Join.{join}
use Rattle.ground.specs.Put.{between}
use Rattle.tree_rule.specs.declared.TreeCounts.{TreeCounts}
use Rattle.tree_rule.specs.Words.{word_at, list_from}
use Rattle.tree_rule.specs.Files.{tokens_start, names_start, token_at, token_row_bytes}
use Rattle.tree_rule.specs.Theorems.{FormedBy}
use Rattle.apply_rule.specs.Changes.{Changed}
use Rattle.apply_rule.specs.Applying.{new_names, numbered, most_tree}
use Rattle.apply_pieces.specs.Inner.Notes.{NotesTold}
use Rattle.apply_members.specs.Inner.Notes.{MeantBy}
use Rattle.apply_plans.specs.declared.plan.Plan.{Plan}
use Rattle.apply_plans.specs.Inner.Entries.{entry_at, planned_text, EntryFits}
use Rattle.apply_plans.specs.Inner.Plan.{plan_at, plan_change, TextsLow}
use Rattle.apply_plans.specs.Inner.Put.{NoRow}
use Rattle.table_pool.specs.declared.write.NoRoom.{NoRoom}

-- A token may be planned, where `names` are planned before.
pub record TurnReady
    (classes rows : List (List ℕ))
    (pool : List ℕ)
    (c : TreeCounts)
    (f : List ℕ)
    (home context number token names : ℕ)
    (out : List ℕ) : Type 0 where
  pub formed : FormedBy c f
  pub inside : token < c.tokens
  pub few : number ≤ length rows
  pub told : NotesTold classes pool c f out
  pub meant : MeantBy classes rows pool home context
  pub low : TextsLow classes rows
  pub rows_room : entry_at c names ≤ length out
  pub most : length out ≤ most_tree

-- So may the tokens of a node.
pub record TokensReady
    (classes rows : List (List ℕ))
    (pool : List ℕ)
    (c : TreeCounts)
    (f : List ℕ)
    (home context number first count names : ℕ)
    (out : List ℕ) : Type 0 where
  pub formed : FormedBy c f
  pub inside : first + count ≤ c.tokens
  pub few : number ≤ length rows
  pub told : NotesTold classes pool c f out
  pub meant : MeantBy classes rows pool home context
  pub low : TextsLow classes rows
  pub rows_room : entry_at c names ≤ length out
  pub most : length out ≤ most_tree

-- the plan of the token `i` of a node, where the token `member` is the name of its member and shows the row with that number
abbrev pub node_plan : (classes rows : List (List ℕ)) (pool : List ℕ) (c : TreeCounts) (f out : List ℕ) (home context member number : ℕ) → ℕ → Plan
node_plan classes rows pool c f out home context member number i =
    plan_at classes rows pool c f out home context (pick (eqb i member) number 0) i

abbrev pub planned : (classes rows : List (List ℕ)) (pool : List ℕ) (c : TreeCounts) (f out : List ℕ) (home context member number : ℕ) → ℕ → Changed
planned classes rows pool c f out home context member number i =
    record {
      token = token_at c f i;
      change = plan_change classes pool c f (node_plan classes rows pool c f out home context member number i);
    }

-- so of `n` tokens from the token `first` on
abbrev pub planned_from : (classes rows : List (List ℕ)) (pool : List ℕ) (c : TreeCounts) (f out : List ℕ)
    (home context member number first n : ℕ) → List Changed
planned_from classes rows pool c f out home context member number first n =
    list_from (planned classes rows pool c f out home context member number) first n

-- `n` tokens have their rows, and the names that they add their plans; the notes, the plans before and all else are as they were.
pub record TokensTo
    (n more : ℕ)
    (classes rows : List (List ℕ))
    (pool : List ℕ)
    (c : TreeCounts)
    (f : List ℕ)
    (home context member number first names : ℕ)
    (old new : List ℕ) : Type 0 where
  pub size : length new ≡ length old
  pub counted : more ≡ names + length (new_names (planned_from classes rows pool c f old home context member number first n))
  pub room : entry_at c more ≤ length old
  pub before : take (tokens_start c + 12 * first) new ≡ take (tokens_start c + 12 * first) old
  pub tokens : between new (tokens_start c + 12 * first) (tokens_start c + 12 * (first + n)) ≡
      join (map token_row_bytes (numbered (c.names + names) (planned_from classes rows pool c f old home context member number first n)))
  pub kept : (p : ℕ) → names_start c ≤ p → p + 4 ≤ entry_at c names → word_at new p ≡ word_at old p
  pub texts : list_from (planned_text classes pool c f new) names
      (length (new_names (planned_from classes rows pool c f old home context member number first n))) ≡
      new_names (planned_from classes rows pool c f old home context member number first n)
  pub fits : (k : ℕ) → names ≤ k → k < more → EntryFits c new (word_at new (entry_at c k)) (word_at new (entry_at c k + 4))
  pub behind : drop (entry_at c more) new ≡ drop (entry_at c more) old

abbrev pub TokensBy : Result ℕ NoRoom → (classes rows : List (List ℕ)) (pool : List ℕ) (c : TreeCounts) (f : List ℕ)
    (home context member number first count names : ℕ) (old new : List ℕ) → Type 0
TokensBy (Ok more) classes rows pool c f home context member number first count names old new =
    TokensTo count more classes rows pool c f home context member number first names old new
TokensBy (Err _) classes rows pool c f home context member number first count names old new =
    NoRow c (names + length (new_names (planned_from classes rows pool c f old home context member number first count))) old
