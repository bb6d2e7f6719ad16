-- The first known piece from a place on, by what stands ahead of a later one. Assumes nothing.
use Rattle.std.specs.Prelude.{Option, Some, None}
use mathlib.Core.Path.{◌≡◌, sym, ◌∙◌, ap}
use mathlib.Core.List.{List}
use mathlib.Core.Logic.{◌⊎◌, inl, inr}
use Prim.Native.Nat.{ℕ, ◌+◌, ◌-◌, ◌≤◌, ◌<◌}
use native.Mathlib.Numerals.{add-one}
use native.Mathlib.Omega.{arith}
use lib.ListN.{length, get_or}
use mir.Val.{Fits}
use mir.Syntax.{w32, w64}
use borrow.Author.Rules.{rules}
use Rattle.ground.specs.Put.{between}
use Rattle.ground.proofs.Cases.{le_or_lt}
use Rattle.text_places.specs.Places.{first_where, starts}
use Rattle.text_places.specs.Inner.Blocks.{Without}
use Rattle.table_rows.specs.Rows.{most_classes}
use Rattle.tables.specs.Search.{last_raw}
use Rattle.apply_rule.specs.Applying.{most_tree}
use Rattle.apply_pieces.specs.declared.note.Note.{Note}
use Rattle.apply_pieces.specs.declared.within.Within.{Within}
use Rattle.apply_pieces.specs.declared.within.Within.TheVariants.{Closed, Open, Nowhere}
use Rattle.apply_pieces.specs.declared.ahead.Ahead.{Ahead}
use Rattle.apply_pieces.specs.Inner.Within.{FirstAt, ClosedAt, OpenAt, OpenFrom, WithinBy}
use Rattle.apply_pieces.specs.Inner.Sought.{Seekable, FirstKnown, SoughtSays, Sought, note_at}
use Rattle.apply_pieces.specs.Inner.Ahead.{AheadBy}
use Rattle.apply_pieces.proofs.Cuts.{told_none, told_within, told_first}
use Rattle.apply_pieces.proofs.Seeks.{Passed, passed_says, passed_plain, open_never, passed_piece, first_piece}

-- two stretches without a byte, one after the other
without_join : {b : ℕ} {text : List ℕ} {a m i : ℕ} → Without b text a m → Without b text m i → Without b text a i
without_join {b} {text} {a} {m} {i} v w =
    record { goes = omega (arith, v.goes, w.goes); inside = w.inside; each = λ k l u. go k l u (le_or_lt m k) }
  where
    go : (k : ℕ) → a ≤ k → k < i → (m ≤ k) ⊎ (k < m) → get_or text k 0 ≡ b → ⊥
    go k l u (inl h) = w.each k h u
    go k l u (inr h) = v.each k l h

-- A piece that is found, as a note.
module _
    {index : List ℕ} {classes : List (List ℕ)} {pool : List ℕ} {longest : ℕ} {text : List ℕ}
    (k : Seekable index classes pool longest text) {a start row : ℕ} (f : FirstKnown classes pool text a start row) where
  start_small : start < most_tree
  start_small =
      let m = (f.long (length text) f.ends (omega arith)).filled in
      omega (arith, f.ends, k.short)

  row_small : row < most_classes
  row_small =
      let m = (f.long (length text) f.ends (omega arith)).inside in
      omega (arith, k.few)

  first_sought_lem : {note : Note} → note ≡ note_at start row → Sought note classes pool text a
  first_sought_lem e =
      let s = start_small in
      let r = row_small in
      rw e (record { says = rw (add-one start) f; start_small = omega arith; row_small = omega arith })

-- A piece that is looked up.
module _
    {index : List ℕ} {classes : List (List ℕ)} {pool : List ℕ} {longest : ℕ} {text : List ℕ}
    (k : Seekable index classes pool longest text) {start «end» : ℕ} (l : get_or text start 0 ≡ 0x4C)
    (h : start < «end») (f : FirstAt 0x3B text start («end» - 1)) {r : Option ℕ}
    (w : r ≡ last_raw classes pool (between text start «end»)) where
  whole : «end» - 1 + 1 ≡ «end»
  whole = omega arith

  same : last_raw classes pool (between text start («end» - 1 + 1)) ≡ r
  same = ap (λ e. last_raw classes pool (between text start e)) whole ∙ sym w

  looked_up : {row : ℕ} → r ≡ Some row → FirstKnown classes pool text start start row
  looked_up u = first_piece classes pool text start l («end» - 1) f (same ∙ u)

  looked_past : r ≡ None → Passed classes pool text start «end»
  looked_past u = rw whole at (passed_piece classes pool text start l («end» - 1) f (same ∙ u))

-- From an `L` with no `;` before the place that `ahead` tells of.
module _
    {index : List ℕ} {classes : List (List ℕ)} {pool : List ℕ} {longest : ℕ} {text : List ℕ}
    (k : Seekable index classes pool longest text) {start stop : ℕ} (o : OpenAt text start stop)
    {ahead : Ahead} (g : AheadBy ahead classes pool text stop) where
  pub open_nothing : ahead.past ≡ 0 → Sought (record { start = 0; row = 0 }) classes pool text start
  open_nothing e = record {
    says = open_never classes pool text start o.there (without_join o.unclosed (g.none e));
    start_small = omega arith;
    row_small = omega arith;
  }

  module _ (n : ahead.past ≡ 0 → ⊥) where
    there : 0 < ahead.past
    there = go n
      where
        go : (ahead.past ≡ 0 → ⊥) → 0 < ahead.past
        go m = omega arith

    closes : FirstAt 0x3B text start (ahead.past - 1)
    closes =
        let f = g.some there in
        record { before = without_join o.unclosed f.before; inside = f.inside; there = f.there }

    some : start < ahead.past
    some =
        let f = closes.before.goes in
        let t = there in
        omega arith

    pub open_order : start ≤ ahead.past
    open_order = let s = some in omega arith

    pub open_inside : ahead.past ≤ length text
    open_inside =
        let f = closes.inside in
        let t = there in
        omega arith

    module _ {r : Option ℕ} (w : r ≡ last_raw classes pool (between text start ahead.past)) where
      module _ {row : ℕ} (u : r ≡ Some row) where
        here : FirstKnown classes pool text start start row
        here = looked_up k o.there some closes w u

        pub open_start_small : start < most_tree
        open_start_small = start_small k here

        pub open_row_small : row < most_classes
        open_row_small = row_small k here

        pub open_found : {note : Note} → note ≡ note_at start row → Sought note classes pool text start
        open_found e = first_sought_lem k here e

      pub open_after : r ≡ None → Sought ahead.after classes pool text start
      open_after u = record {
        says = passed_says (looked_past k o.there some closes w u) ahead.after.start ahead.after.row (g.after there);
        start_small = g.start_small;
        row_small = g.row_small;
      }

pub ruleset from_open = (
  open_nothing,
  open_order,
  open_inside,
  open_start_small,
  open_row_small,
  open_found,
  open_after,
  rules,
)

-- What is first from `at` on is first from `from` on.
pub record SoughtTo (classes : List (List ℕ)) (pool text : List ℕ) («from» at stop : ℕ) : Type 0 where
  pub before : at ≤ stop
  pub passes : (start row : ℕ) → SoughtSays start row classes pool text at → SoughtSays start row classes pool text «from»

pub sought_starts : (classes : List (List ℕ)) (pool text : List ℕ) («from» stop : ℕ) → «from» ≤ stop →
    SoughtTo classes pool text «from» «from» stop
sought_starts classes pool text «from» stop h = record { before = h; passes = λ start row s. s }

module _
    {classes : List (List ℕ)} {pool text : List ℕ} {«from» at stop : ℕ} (t : SoughtTo classes pool text «from» at stop)
    (n : Within) (e : WithinBy n text at stop) where
  carried : {note : Note} {start : ℕ} → Passed classes pool text at start → Sought note classes pool text start →
      Sought note classes pool text «from»
  carried {note} p s = record {
    says = t.passes note.start note.row (passed_says p note.start note.row s.says);
    start_small = s.start_small;
    row_small = s.row_small;
  }

  pub sought_none : n ≡ Nowhere → {ahead : Ahead} → AheadBy ahead classes pool text stop → Sought ahead.known classes pool text «from»
  sought_none f g = let w : WithinBy Nowhere text at stop = rw f at e in carried (passed_plain classes pool text at stop w) g.known

  module _ {start : ℕ} (f : n ≡ Open start) where
    opens : OpenFrom text at start stop
    opens = rw f at e

    pub sought_open : OpenAt text start stop
    sought_open = opens.unclosed

    pub sought_opened : {note : Note} → Sought note classes pool text start → Sought note classes pool text «from»
    sought_opened s = carried (passed_plain classes pool text at start opens.plain.before) s

  module _ {start «end» : ℕ} (f : n ≡ Closed start «end») where
    closed : ClosedAt text at stop start «end»
    closed = rw f at e

    pub sought_order : start ≤ «end»
    sought_order = let s = closed.some in omega arith

    pub sought_inside : {ahead : Ahead} → AheadBy ahead classes pool text stop → «end» ≤ length text
    sought_inside g = omega (arith, closed.inside, g.inside)

    pub sought_less : stop - «end» < stop - at
    sought_less = omega (arith, closed.inside, closed.some, closed.plain.before.goes)

    module _
        {index : List ℕ} {longest : ℕ} (k : Seekable index classes pool longest text) {r : Option ℕ}
        (w : r ≡ last_raw classes pool (between text start «end»)) where
      plain : Passed classes pool text at start
      plain = passed_plain classes pool text at start closed.plain.before

      module _ {row : ℕ} (u : r ≡ Some row) where
        found : FirstKnown classes pool text start start row
        found = looked_up k closed.plain.there closed.some closed.closes w u

        pub sought_start_small : start < most_tree
        sought_start_small = start_small k found

        pub sought_row_small : row < most_classes
        sought_row_small = row_small k found

        pub sought_found : {note : Note} → note ≡ note_at start row → Sought note classes pool text «from»
        sought_found q = carried plain (first_sought_lem k found q)

      pub sought_on : r ≡ None → SoughtTo classes pool text «from» «end» stop
      sought_on u = record {
        before = closed.inside;
        passes = λ s row y.
            t.passes s row
            (passed_says plain s row
            (passed_says (looked_past k closed.plain.there closed.some closed.closes w u) s row y));
      }

pub ruleset sought_by_lem = (
  sought_starts,
  sought_none,
  sought_open,
  sought_opened,
  sought_order,
  sought_inside,
  sought_less,
  sought_start_small,
  sought_row_small,
  sought_found,
  sought_on,
  rules,
)

-- What stands ahead of an earlier place.
module _
    {index : List ℕ} {classes : List (List ℕ)} {pool : List ℕ} {longest : ℕ} {text : List ℕ}
    (k : Seekable index classes pool longest text) {«from» stop : ℕ} (i : «from» ≤ stop)
    {ahead : Ahead} (g : AheadBy ahead classes pool text stop) {known : Note} (s : Sought known classes pool text «from»)
    {p : Option ℕ} (e : p ≡ first_where (starts 0x3B) (between text «from» stop)) where
  pub ahead_same : p ≡ None →
      AheadBy (record { known = known; past = ahead.past; after = ahead.after }) classes pool text «from»
  ahead_same f =
      let w = told_none 0x3B text «from» stop i g.inside e f in
      record {
        inside = omega (arith, g.inside);
        known = s;
        past_small = g.past_small;
        none = λ n. without_join w (g.none n);
        some = λ n.
            let t = g.some n in
            record { before = without_join w t.before; inside = t.inside; there = t.there };
        after = g.after;
        start_small = g.start_small;
        row_small = g.row_small;
      }

  module _ {n : ℕ} (f : p ≡ Some n) where
    near : «from» + n < stop
    near = told_within 0x3B text «from» stop i g.inside e f

    pub ahead_fits : Fits w64 («from» + n)
    ahead_fits = let a = near in omega (arith, g.inside, k.short)

    pub ahead_past_fits : Fits w64 («from» + n + 1)
    ahead_past_fits = let a = near in omega (arith, g.inside, k.short)

    pub ahead_order : «from» + n + 1 ≤ stop
    ahead_order = let a = near in omega arith

    pub ahead_narrow : Fits w32 («from» + n + 1)
    ahead_narrow = let a = near in omega (arith, g.inside, k.short)

    pub ahead_new : {after : Note} → Sought after classes pool text («from» + n + 1) →
        AheadBy (record { known = known; past = «from» + n + 1; after = after }) classes pool text «from»
    ahead_new v =
        let a = near in
        let z : «from» + n + 1 - 1 ≡ «from» + n = omega arith in
        record {
          inside = omega (arith, g.inside);
          known = s;
          past_small = omega (arith, g.inside, k.short);
          none = λ q. absurd (omega arith);
          some = λ q. rw z (told_first 0x3B text «from» stop i g.inside e f);
          after = λ q. v.says;
          start_small = v.start_small;
          row_small = v.row_small;
        }

pub ruleset ahead_by = (ahead_same, ahead_fits, ahead_past_fits, ahead_order, ahead_narrow, ahead_new, rules)
