-- Demand 3, over the entry points: after an accepted load and an accepted application, turning each shown class back gives the raw
-- descriptor. So different raw descriptors never show alike. Assumes nothing.
use Rattle.std.specs.Prelude.{Ok}
use mathlib.Core.Path.{◌≡◌, sym, ◌∙◌, ap}
use mathlib.Core.Bool.{true}
use mathlib.Core.List.{List}
use Prim.Native.Nat.{ℕ, ◌<◌}
use lib.ListN.{length, get_or, take}
use Rattle.text_places.proofs.PlaceLaws.{same_equal}
use Rattle.table_rows.specs.Tables.{Tables}
use Rattle.table_rows.specs.Classes.{Pair, back}
use Rattle.tables.specs.declared.check.Used.{Used}
use Rattle.tables.proofs.Checking.{all_at}
use Rattle.descriptor.specs.Pieces.{turn}
use Rattle.load_rule.specs.declared.Fates.{Fates}
use Rattle.load_rule.specs.Classes.{classes_of}
use Rattle.load_rule.specs.Theorems.{used_of}
use Rattle.load.specs.Loads.{Loads}
use Rattle.name_rule.specs.Mappings.{mapping_of}
use Rattle.tree_rule.specs.declared.Token.{Token}
use Rattle.tree_rule.specs.declared.Token.TheVariants.{Other, Descriptor}
use Rattle.tree_rule.specs.Trees.{Tree, name_in}
use Rattle.tree_rule.specs.Files.{read_tree, all_tokens}
use Rattle.tree_rule.specs.Theorems.{SoundTree}
use Rattle.tree_rule.proofs.Formed.{formed_tree}
use Rattle.tree_rule.proofs.Sound.{read_sound}
use Rattle.apply_rule.specs.Applying.{applied_tree, apply_answer}
use Rattle.apply_rule.specs.Theorems.{GivenWhen, when_done}
use Rattle.apply_rule.proofs.Answers.{given_iff, accepted_reads_back}
use Rattle.meaning.specs.TurnedBack.{displays_once, names_closed, shows_raw, names_unmistaken, of_tokens, turns_back}
use Rattle.meaning.specs.Outcomes.{Applies, Typed}
use Rattle.meaning.proofs.LoadedTables.{tables_back}
use Rattle.meaning.proofs.TokensBack.{tree_back}
use Rattle.load_rule.specs.Fates.{loaded_with}

-- the tree of an accepted file
accepted_sound : (t : Tables) (used : Used) (class file : List ℕ) (room : ℕ) → ((i : ℕ) → get_or file i 0 < 256) → {n : ℕ} →
    apply_answer t used class file room ≡ Ok n → SoundTree (read_tree file)
accepted_sound t used class file room small {n} e = go ((given_iff t used class file room (Ok n)).0 e)
  where
    go : {k : ℕ} → GivenWhen t used class file room (Ok k) → SoundTree (read_tree file)
    go (when_done a b c d f) = read_sound file small (formed_tree file c)

-- An accepted load, whose display descriptors stand on one class line each, with no `;` in a display class name.
module _
    {s : List ℕ}
    {ls : List (List ℕ)}
    {before t : Tables}
    {f : Fates}
    {names : ℕ}
    (load : Loads (Ok (loaded_with f names)) s ls before t)
    (once : displays_once ls ≡ true)
    (closed : names_closed ls ≡ true) where
  -- An accepted application, of a tree whose descriptors show their raw names and name no class that is unknown as raw yet a display.
  pub shown_back : {class file lent out : List ℕ} {n : ℕ} → Applies (Ok n) t (used_of f names) class file lent out → Typed t file →
      of_tokens shows_raw (read_tree file) ≡ true → of_tokens (names_unmistaken (classes_of ls)) (read_tree file) ≡ true →
      of_tokens (turns_back (classes_of ls)) (read_tree (take n out)) ≡ true
  shown_back {class} {file} {lent} {out} {n} a typed raw clear =
      let room : ℕ = length lent in
      let accepted : apply_answer t (used_of f names) class file room ≡ Ok n = sym a.answer in
      let tree : read_tree (take n out) ≡ applied_tree (mapping_of t (used_of f names)) class (read_tree file) =
      ap (λ o. read_tree (take n o)) a.output
      ∙ accepted_reads_back t (used_of f names) class file room typed.rows typed.bytes accepted in
      ap (of_tokens (turns_back (classes_of ls))) tree
      ∙ tree_back (mapping_of t (used_of f names)) ls (ap (λ m. m.classes) (tables_back load)) once closed class (read_tree file)
      (accepted_sound t (used_of f names) class file room typed.bytes accepted) raw clear

-- "So different raw descriptors never show alike": two descriptors of trees that turn back, of one output or of two.
token_back : (cs : List Pair) (name : ℕ → List ℕ) (raw display : ℕ) {t : Token} → turns_back cs name t ≡ true →
    t ≡ Descriptor raw display → turn (back cs) (name display) ≡ name raw
token_back cs name raw display h e =
    same_equal (turn (back cs) (name display)) (name raw) (sym (ap (turns_back cs name) e) ∙ h)

pub never_alike : (cs : List Pair) (t u : Tree) → of_tokens (turns_back cs) t ≡ true → of_tokens (turns_back cs) u ≡ true →
    (i j raw display raw₁ display₁ : ℕ) → i < length (all_tokens t.nodes) → j < length (all_tokens u.nodes) →
    get_or (all_tokens t.nodes) i (Other 0 0) ≡ Descriptor raw display →
    get_or (all_tokens u.nodes) j (Other 0 0) ≡ Descriptor raw₁ display₁ → name_in t display ≡ name_in u display₁ →
    name_in t raw ≡ name_in u raw₁
never_alike cs t u h k i j raw display raw₁ display₁ inside inside₁ is is₁ shows =
    let one = token_back cs (name_in t) raw display (all_at (turns_back cs (name_in t)) (Other 0 0) (all_tokens t.nodes) h i inside) is in
    let two =
    token_back cs (name_in u) raw₁ display₁ (all_at (turns_back cs (name_in u)) (Other 0 0) (all_tokens u.nodes) k j inside₁) is₁ in
    sym one ∙ ap (turn (back cs)) shows ∙ two
