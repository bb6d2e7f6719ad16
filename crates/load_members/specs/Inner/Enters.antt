-- What entering a line says.
use Rattle.std.specs.Prelude.{◌≡◌, true, ◌⊎◌, List, ℕ, ◌+◌, ◌-◌, ◌≤◌, ◌<◌, length, set, drop, Result, Ok, Err, Option}
use Rattle.text_places.specs.Lines.{lines}
use Rattle.text_places.specs.declared.spans.Span.{Span}
use Rattle.text_places.specs.Spans.{span, part_of, Lies}
use Rattle.table_rows.specs.Classes.{Pair}
use Rattle.table_rows.specs.Rows.{pack_member, most_pool}
use Rattle.tables.specs.Back.{read_back}
use Rattle.load_raw_types.specs.Inner.Behind.{Indexed}
use Rattle.load_rule.specs.Comments.{residual_in}
use Rattle.load_rule.specs.Loading.{most_text}
use Rattle.load_residual.specs.Inner.Residuals.{Gives, heeded}
use Rattle.load_texts.specs.declared.texts.MemberLine.{MemberLine}
use Rattle.load_texts.specs.declared.texts.Places.{Places}
use Rattle.load_texts.specs.Inner.Texts.{MemberIn, MemberTexts, texts_of, all_texts}
use Rattle.load_texts.specs.Inner.Places.{EnteredTexts, member_placed}
use Rattle.load_members.specs.declared.role.Role.{Role}
use Rattle.load_members.specs.declared.role.Role.TheVariants.{Class, Member, Neither}
use Rattle.load_scan.specs.declared.step.LineStep.{LineStep}
use Rattle.load_members.specs.declared.enter.Slot.{Slot}
use Rattle.load_scan.specs.Inner.Steps.{bytes_of}
use Rattle.load_members.specs.Inner.Roles.{role_of}
use Rattle.table_pool.specs.declared.write.NoRoom.{NoRoom}
use Rattle.load_residual.specs.declared.residual.Residual.{Residual}

abbrev pub slot_at : ℕ → ℕ → ℕ → ℕ → ℕ → Slot
slot_at row place classes own own-end = record { row = row; place = place; classes = classes; own = own; own_end = own-end }

-- a member line has its parts in it, stands under a class line, and is the last member of its class
pub record MemberReady (s : List ℕ) (x : LineStep) (t : Slot) (parts : MemberLine) : Type 0 where
  pub lies : MemberIn parts (length (bytes_of s x))
  pub classed : 1 ≤ t.classes
  pub lasts : x.has_member ≡ true

-- what the lines behind the line `x` give to it
pub record Behind (s : List ℕ) (x : LineStep) (r : Option Residual) : Type 0 where
  pub gives : Gives (drop x.next s) r (heeded x.has_member (residual_in (lines (drop x.next s))))

abbrev pub RoleReady : Role → List ℕ → LineStep → Slot → Type 0
RoleReady Neither s x t = Unit {0}
RoleReady (Class display) s x t = Lies display (length (bytes_of s x))
RoleReady (Member parts) s x t = MemberReady s x t parts

-- the line `x` of the text `s` can be entered at `t`
pub record Ready (s : List ℕ) (rows : List (List ℕ)) (index : List ℕ) (x : LineStep) (t : Slot) (p : List ℕ) : Type 0 where
  pub short : length s ≤ most_text
  pub order : x.start ≤ x.«end»
  pub inside : x.«end» ≤ length s
  pub rest : x.next ≤ length s
  pub own_order : t.own ≤ t.own_end
  pub own_inside : t.own_end ≤ length s
  pub pool : length p ≤ most_pool
  pub indexed : Indexed rows p index t.place
  pub few : t.classes ≤ most_text
  pub role : RoleReady (role_of x.kind) s x t

-- the texts of the member of a line
abbrev pub texts_in : List ℕ → List Pair → LineStep → Slot → MemberLine → MemberTexts
texts_in s cs x t parts = texts_of cs (residual_in (lines (drop x.next s))) (part_of s (span t.own t.own_end)) (bytes_of s x) parts

-- the member is written: its texts into the pool `p`, its row into the rows `m`; the next one goes to `t₁`
pub record WrittenMember (t₁ : Slot) (s : List ℕ) (rows : List (List ℕ)) (x : LineStep) (parts : MemberLine) (t : Slot)
    (m : List (List ℕ)) (p : List ℕ) (m₁ : List (List ℕ)) (p₁ : List ℕ) : Type 0 where
  pub places : Places
  pub texts : EnteredTexts places p t.place (texts_in s (read_back rows p) x t parts) p₁
  pub room : t.row < length m
  pub row : m₁ ≡ set m t.row (pack_member (member_placed (t.classes - 1) t.place places parts.body))
  pub next : t₁ ≡ slot_at (t.row + 1) places.«end» t.classes t.own t.own_end

abbrev pub WrittenMemberBy : Result Slot NoRoom → List ℕ → List (List ℕ) → LineStep → MemberLine → Slot →
    List (List ℕ) → List ℕ → List (List ℕ) → List ℕ → Type 0
WrittenMemberBy (Ok t₁) s rows x parts t m p m₁ p₁ = WrittenMember t₁ s rows x parts t m p m₁ p₁
WrittenMemberBy (Err _) s rows x parts t m p m₁ p₁ =
    (length m ≤ t.row) ⊎ (length p < t.place + length (all_texts (texts_in s (read_back rows p) x t parts)))

-- nothing is written
pub record Kept (r : Result Slot NoRoom) (t : Slot) (m : List (List ℕ)) (p : List ℕ) (m₁ : List (List ℕ)) (p₁ : List ℕ) : Type 0 where
  pub answer : r ≡ Ok t
  pub rows : m₁ ≡ m
  pub pool : p₁ ≡ p

-- the slot after a class line, by its display name
abbrev pub under_class : LineStep → Span → Slot → Slot
under_class x display t = slot_at t.row t.place (t.classes + 1) (x.start + display.start) (x.start + display.«end»)

abbrev pub EnterBy : Role → Result Slot NoRoom → List ℕ → List (List ℕ) → LineStep → Slot → List (List ℕ) → List ℕ → List (List ℕ) → List ℕ → Type 0
EnterBy Neither r s rows x t m p m₁ p₁ = Kept r t m p m₁ p₁
EnterBy (Class display) r s rows x t m p m₁ p₁ = Kept r (under_class x display t) m p m₁ p₁
EnterBy (Member parts) r s rows x t m p m₁ p₁ = WrittenMemberBy r s rows x parts t m p m₁ p₁
