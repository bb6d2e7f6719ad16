-- Where the texts of a member stand, and its row.
use Rattle.std.specs.Prelude.{◌≡◌, List, ℕ, ◌+◌, ◌-◌, ◌≤◌, ◌<◌, length, Result, Ok, Err}
use Rattle.table_pool.specs.Inner.Wrote.{Written}
use Rattle.table_rows.specs.declared.rows.Member.{Member}
use Rattle.table_rows.specs.declared.rows.Ranges.TheVariants.{None}
use Rattle.table_rows.specs.Rows.{text}
use Rattle.load_rule.specs.Members.{ranges_of}
use Rattle.load_texts.specs.declared.texts.Body.{Body}
use Rattle.load_texts.specs.declared.texts.Body.TheVariants.{Field, Method}
use Rattle.load_texts.specs.declared.texts.Places.{Places}
use Rattle.load_texts.specs.Inner.Texts.{MemberTexts, all_texts}
use Rattle.table_pool.specs.declared.write.NoRoom.{NoRoom}

-- the places `q` of the texts `t`, which stand from `at` on
pub record Placed (q : Places) (at : ℕ) (t : MemberTexts) : Type 0 where
  pub descriptor : q.descriptor ≡ at + length t.raw
  pub name : q.name ≡ q.descriptor + length t.descriptor
  pub owner : q.owner ≡ q.name + length t.name
  pub «end» : q.«end» ≡ q.owner + length t.owner

-- the texts are written into the pool `d` at the place `at`
pub record EnteredTexts (q : Places) (d : List ℕ) (at : ℕ) (t : MemberTexts) (d₁ : List ℕ) : Type 0 where
  pub placed : Placed q at t
  pub written : Written q.«end» d at (all_texts t) d₁

abbrev pub EnteredTextsBy : Result Places NoRoom → List ℕ → ℕ → MemberTexts → List ℕ → Type 0
EnteredTextsBy (Ok q) d at t d₁ = EnteredTexts q d at t d₁
EnteredTextsBy (Err _) d at t d₁ = length d < at + length (all_texts t)

-- the places rise, and end in the pool
pub record Rising (at : ℕ) (q : Places) (most : ℕ) : Type 0 where
  pub raw : at ≤ q.descriptor
  pub descriptor : q.descriptor ≤ q.name
  pub name : q.name ≤ q.owner
  pub owner : q.owner ≤ q.«end»
  pub inside : q.«end» ≤ most

-- the row of a member by the places of its texts
abbrev pub member_placed : ℕ → ℕ → Places → Body → Member
member_placed c at q (Field declared) =
    record {
      kind = 0;
      class = c;
      raw_name = text at (q.descriptor - at);
      descriptor = text q.descriptor (q.name - q.descriptor);
      name = text q.name (q.owner - q.name);
      owner = text 0 0;
      ranges = None;
    }
member_placed c at q (Method m) =
    record {
      kind = 1;
      class = c;
      raw_name = text at (q.descriptor - at);
      descriptor = text q.descriptor (q.name - q.descriptor);
      name = text q.name (q.owner - q.name);
      owner = text q.owner (q.«end» - q.owner);
      ranges = ranges_of m.raw m.display;
    }
