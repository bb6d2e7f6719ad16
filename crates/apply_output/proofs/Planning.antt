-- The plan of a new name, read in the output, the text that it means, and the row that takes its place. Assumes nothing.
use Rattle.std.specs.Prelude.{Result, Ok, Err}
use mathlib.Core.Path.{◌≡◌, refl, ◌∙◌, ap}
use mathlib.Core.List.{List}
use Prim.Native.Nat.{ℕ, zero, suc, ◌+◌, ◌*◌, ◌-◌, ◌≤◌, ◌<◌}
use native.Mathlib.Omega.{arith}
use lib.ListN.{length}
use mir.Val.{Fits}
use mir.Syntax.{w32}
use borrow.Author.Rules.{rules}
use Rattle.ground.specs.Put.{put}
use Rattle.table_rows.specs.Rows.{text}
use Rattle.table_pool.specs.Inner.Wrote.{Written, WroteBy, no_room}
use Rattle.table_pool.proofs.Writes.{wrote_told, wrote_none, wrote_as, written_length}
use Rattle.tables.specs.Back.{text_in}
use Rattle.tree_rule.specs.declared.TreeCounts.{TreeCounts}
use Rattle.tree_rule.specs.Words.{word_at}
use Rattle.tree_rule.specs.Files.{names_start, bytes_start, text_at, name_row_bytes}
use Rattle.apply_pieces.specs.Inner.Known.{all_shown, KnownAt}
use Rattle.apply_pieces.specs.Inner.Notes.{NoteSays}
use Rattle.apply_plans.specs.Inner.Entries.{entry_text, entry_at, planned_text, EntryFits}
use Rattle.apply_output.specs.declared.plan.Plan.{Plan}
use Rattle.apply_output.specs.declared.plan.Plan.TheVariants.{InPool, Shown}
use Rattle.apply_output.specs.Inner.Plan.{PlanReady, plan_by, plan_at}
use Rattle.apply_output.specs.Inner.NewName.{BodyReady, NameReady, NameOver, NamePut}
use Rattle.table_pool.specs.declared.write.NoRoom.{NoRoom}

-- The two numbers.
module _ {c : TreeCounts} {out : List ℕ} {k : ℕ} (r : PlanReady c out k) {s : ℕ} (e : s ≡ bytes_start c) where
  pub plan_inside : s + 8 * k + 4 + 4 ≤ length out
  plan_inside = omega (arith, r.room)

  module _ {first second : ℕ} (g : first ≡ word_at out (s + 8 * k)) (h : second ≡ word_at out (s + 8 * k + 4)) where
    same : plan_by c out first second ≡ plan_at c out k
    unfolding plan_at
    same = rw (g, h, e)

    pub plan_in_pool : (first ≡ 0 → ⊥) → InPool (first - 1) second ≡ plan_at c out k
    plan_in_pool n =
        let z : suc (first - 1) ≡ first = omega arith in
        ap (λ a. plan_by c out a second) z ∙ same

    module _ (n : first ≡ 0) {t : ℕ} (i : t ≡ names_start c) where
      meant : (second < c.names) × (0 < word_at out (names_start c + 8 * second))
      meant =
          let fits : EntryFits c out first second = rw (g, h, e) r.fits in
          rw n at fits

      pub note_first_inside : t + 8 * second + 4 ≤ length out
      note_first_inside = let l = meant.0 in omega (arith, r.room)

      pub note_second_inside : t + 8 * second + 4 + 4 ≤ length out
      note_second_inside = let l = meant.0 in omega (arith, r.room)

      module _ {start : ℕ} (j : start ≡ word_at out (t + 8 * second)) where
        pub note_some : 1 ≤ start
        note_some = rw (j, i) meant.1

        pub plan_shown : {row : ℕ} → row ≡ word_at out (t + 8 * second + 4) → Shown second (start - 1) row ≡ plan_at c out k
        plan_shown {row} l =
            let z : plan_by c out 0 second ≡ plan_by c out first second = rw n in
            let y : Shown second (start - 1) row ≡ plan_by c out 0 second = rw (j, l, i) in
            y ∙ z ∙ same

pub ruleset plans = (plan_inside, plan_in_pool, note_first_inside, note_second_inside, note_some, plan_shown, rules)

-- The text of a name.
note_known : (classes : List (List ℕ)) (pool s : List ℕ) (number row : ℕ) → NoteSays number row classes pool s → 0 < number →
    KnownAt classes pool s 0 (number - 1) row
note_known classes pool s zero row k h = absurd (omega arith)
note_known classes pool s (suc start) row k h = let z : suc start - 1 ≡ start = omega arith in rw z k

-- a plan that is read from two numbers means what they stand for
abbrev Means : (classes : List (List ℕ)) (pool : List ℕ) (c : TreeCounts) (f : List ℕ) → Plan → List ℕ → Type 0
Means classes pool c f (InPool place size) s = text_in pool (text place size) ≡ s
Means classes pool c f (Shown name start row) s =
    (name < c.names) × KnownAt classes pool (text_at c f name) 0 start row × (all_shown classes pool (text_at c f name) ≡ s)

module _
    {index : List ℕ} {classes : List (List ℕ)} {pool : List ℕ} {c : TreeCounts} {f : List ℕ} {k : ℕ} {out : List ℕ}
    (r : BodyReady index classes pool c f k out) where
  by_numbers : (a b : ℕ) → EntryFits c out a b → Means classes pool c f (plan_by c out a b) (entry_text classes pool c f a b)
  by_numbers zero name h = (
    h.0,
    note_known classes pool (text_at c f name) (word_at out (names_start c + 8 * name)) (word_at out (names_start c + 8 * name + 4))
        (r.notes name h.0) h.1,
    refl,
  )
  by_numbers (suc place) size h = refl

  read : Means classes pool c f (plan_at c out k) (planned_text classes pool c f out k)
  unfolding plan_at planned_text
  read = by_numbers (word_at out (entry_at c k)) (word_at out (entry_at c k + 4)) r.plan.fits

module _
    {index : List ℕ} {classes : List (List ℕ)} {pool : List ℕ} {c : TreeCounts} {f : List ℕ} {k : ℕ} {out : List ℕ}
    (r : BodyReady index classes pool c f k out) {p : Plan} (e : p ≡ plan_at c out k) where
  means : Means classes pool c f p (planned_text classes pool c f out k)
  means = rw e (read r)

  pub body_in_pool : {place size : ℕ} → p ≡ InPool place size → {s : List ℕ} → s ≡ text_in pool (text place size) →
      (a : Result ℕ NoRoom) (at : ℕ) (d : List ℕ) → WroteBy a out at s d → WroteBy a out at (planned_text classes pool c f out k) d
  body_in_pool g h a at d w = wrote_as a out at d (h ∙ (rw g at means)) w

  module _ {name start row : ℕ} (g : p ≡ Shown name start row) where
    here : Means classes pool c f (Shown name start row) (planned_text classes pool c f out k)
    here = rw g at means

    pub shown_inside : name < c.names
    shown_inside = here.0

    module _ {s : List ℕ} (h : s ≡ text_at c f name) where
      pub shown_known : KnownAt classes pool s 0 start row
      shown_known = rw h here.1

      pub body_shown : (a : Result ℕ NoRoom) (at : ℕ) (d : List ℕ) → WroteBy a out at (all_shown classes pool s) d →
          WroteBy a out at (planned_text classes pool c f out k) d
      body_shown a at d w = wrote_as a out at d (ap (all_shown classes pool) h ∙ here.2) w

pub ruleset bodies = (body_in_pool, shown_inside, shown_known, body_shown, rules)

-- The text and the row.
module _
    {index : List ℕ} {classes : List (List ℕ)} {pool : List ℕ} {c : TreeCounts} {f : List ℕ} {bytes k «end» : ℕ} {out : List ℕ}
    (n : NameReady index classes pool c f bytes k «end» out)
    (r : Result ℕ NoRoom) (out₁ : List ℕ) (w : WroteBy r out «end» (planned_text classes pool c f out k) out₁) where
  pub new_none : r ≡ Err no_room → NameOver classes pool c f k «end» out
  new_none e = record { full = wrote_none r out «end» (planned_text classes pool c f out k) out₁ w e }

  module _ {past : ℕ} (e : r ≡ Ok past) where
    wrote : Written past out «end» (planned_text classes pool c f out k) out₁
    wrote = wrote_told r out «end» (planned_text classes pool c f out k) out₁ w e

    pub new_order : «end» ≤ past
    new_order = omega (arith, wrote.past)

    pub new_place_narrow : Fits w32 («end» - bytes)
    new_place_narrow = omega (arith, n.room, n.most)

    pub new_size_narrow : Fits w32 (past - «end»)
    new_size_narrow = omega (arith, wrote.room, wrote.past, n.most)

    module _ {s : ℕ} (g : s ≡ bytes_start c) where
      pub new_row_room : s + 8 * k + 8 ≤ length out₁
      new_row_room = omega (arith, written_length wrote, n.row, n.before, n.room)

      pub new_done : {out₂ : List ℕ} → out₂ ≡ put out₁ (s + 8 * k) (name_row_bytes (text («end» - bytes) (past - «end»))) →
          NamePut past classes pool c f bytes k «end» out out₂
      new_done i =
          let size : past - «end» ≡ length (planned_text classes pool c f out k) = omega (arith, wrote.past) in
          record { behind = wrote.past; room = wrote.room; is = i ∙ rw (g, size, wrote.is) }

pub ruleset news = (new_none, new_order, new_place_narrow, new_size_narrow, new_row_room, new_done, rules)
