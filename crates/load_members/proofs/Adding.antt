-- One line more: its member's row and texts. Assumes nothing.
use Rattle.std.specs.Prelude.{Ok, Result, Err}
use mathlib.Core.Path.{◌≡◌, refl, sym, ◌∙◌, ap}
use mathlib.Core.Bool.{Bool, false}
use mathlib.Core.List.{List, [], ◌∷◌, ◌++◌, append_assoc}
use mathlib.Core.Logic.{◌⊎◌, inl, inr, ⊎_elim}
use Prim.Native.Nat.{ℕ, ◌+◌, ◌-◌, ◌≤◌, ◌<◌}
use native.Mathlib.Nat.{zero-add, add-zero}
use native.Mathlib.Omega.{arith}
use lib.ListN.{length, drop, set, length-append, length-take, length-set}
use Rattle.ground.specs.Put.{put}
use Rattle.ground.proofs.Parts.{part_part}
use Rattle.ground.proofs.PutLaws.{put_set}
use Rattle.text_places.specs.Lines.{lines, Taken}
use Rattle.text_places.specs.declared.spans.Span.{Span}
use Rattle.text_places.specs.Spans.{span, part_of, Lies}
use Rattle.line.specs.Kinds.{line_of}
use Rattle.ground.specs.Join.{join}
use Rattle.table_pool.proofs.Writes.{written_length, wrote_then, wrote_as}
use Rattle.table_rows.specs.Rows.{pack_member}
use Rattle.tables.specs.Back.{read_back}
use Rattle.load_raw_types.proofs.Indexing.{read_back_put, indexed_put}
use Rattle.load_rule.specs.declared.Fate.{Fate}
use Rattle.load_rule.specs.declared.Fates.{Fates}
use Rattle.load_rule.specs.Comments.{residual_in}
use Rattle.load_rule.specs.Loading.{most_text}
use Rattle.load_rule.specs.Fates.{no_fates, plus, one, class_line, scan_of}
use Rattle.load_rule.specs.Members.{Entry, Under, under, under_after, entry_in, entries_from, entry_text, entry_pool, entry_row, entry_rows}
use Rattle.load_rule.proofs.Tally.{fate_class}
use Rattle.ground.proofs.Joins.{join_more, join_append}
use Rattle.load_rule.proofs.Appended.{rows_length, rows_more}
use Rattle.load_scan.specs.Inner.Bounds.{Within}
use Rattle.load_scan.proofs.Stepping.{step_bounds, step_told, passed_told}
use Rattle.load_scan.proofs.Scanning.{Scanning, scanned_more}
use Rattle.load_texts.specs.declared.texts.MemberLine.{MemberLine}
use Rattle.load_members.specs.declared.role.Role.{Role}
use Rattle.load_members.specs.declared.role.Role.TheVariants.{Class, Member, Neither}
use Rattle.load_scan.specs.declared.step.LineStep.{LineStep}
use Rattle.load_scan.specs.declared.step.Step.{Step}
use Rattle.load_scan.specs.declared.step.Step.TheVariants as steps
use Rattle.load_members.specs.declared.enter.Slot.{Slot}
use Rattle.load_scan.specs.Inner.Steps.{scan_on, bytes_of, StepLine, StepPassed, StepBy}
use Rattle.load_members.specs.Inner.Enters.{MemberReady, RoleReady, Ready, texts_in, WrittenMember, Kept, under_class, EnterBy}
use Rattle.load_texts.specs.Inner.Texts.{MemberTexts, all_texts}
use Rattle.load_members.specs.Inner.Roles.{role_of}
use Rattle.load_texts.specs.Inner.Places.{EnteredTexts, member_placed}
use Rattle.load_members.specs.Inner.Filled.{Over, members, CutShort}
use Rattle.load_members.proofs.Entering.{entry_of, entry_member, entry_class, entry_neither, under_class_lem, under_neither, under_member, not_entered, neither_counts, class_counts, member_counts, member_classed, member_last, member_lies, class_lies, entry_text_lem, entry_row_lem}
use Rattle.load_members.proofs.Filling.{Filling, from_nothing}
use Rattle.table_pool.specs.declared.write.NoRoom.{NoRoom}
use Rattle.table_pool.specs.Inner.Wrote.{no_room}
use Rattle.load_rule.specs.declared.Fault.{Fault}

same_filling : {s : List ℕ} {rows : List (List ℕ)} {index : List ℕ} {used : ℕ} {m₀ : List (List ℕ)} {p₀ : List ℕ} {x y : ℕ} {t : Slot} {a b : Bool} {f : Fates} {m : List (List ℕ)} {p : List ℕ} →
    x ≡ y → a ≡ b → Filling s rows index used m₀ p₀ y t a f m p → Filling s rows index used m₀ p₀ x t b f m p
same_filling e g k = rw (e, ← g) k

module _ {s : List ℕ} {rows : List (List ℕ)} {index : List ℕ} {used : ℕ} {m₀ : List (List ℕ)} {p₀ : List ℕ}
    {at : ℕ} {t : Slot} {member : Bool} {f : Fates} {m : List (List ℕ)} {p : List ℕ}
    (k : Filling s rows index used m₀ p₀ at t member f m p) where
  -- A line that was read.
  module _ {y : LineStep} (st : StepLine s at f.class member y) where
    taken : Taken s at y.start y.«end» y.next
    taken = st.taken

    line_rest : y.next ≤ length s
    line_rest = taken.inside

    line_falls : at < length s → length s - y.next < length s - at
    line_falls h = let u = taken.past in let i = taken.inside in omega arith

    role_told : {x : Role} → role_of y.kind ≡ x → role_of (line_of (bytes_of s y)) ≡ x
    role_told h = sym (ap role_of st.is) ∙ h

    module _ {d : Span} (h : role_of y.kind ≡ Class d) where
      inside : Lies d (length (bytes_of s y))
      inside = class_lies (bytes_of s y) (role_told h)

      in_line : d.«end» ≤ y.«end» - y.start
      in_line = let w = inside.within in let l = length-take (y.«end» - y.start) (drop y.start s) in omega arith

    module _ {parts : MemberLine} (h : role_of y.kind ≡ Member parts) where
      member_ready : MemberReady s y t parts
      member_ready = record {
        lies = member_lies (bytes_of s y) (role_told h);
        classed = rw k.classes (member_classed f.class (line_of (bytes_of s y)) (role_told h) st.clean);
        lasts = st.after ∙ member_last member (line_of (bytes_of s y)) (role_told h);
      }

    -- A line is entered by its role.
    role_ready : (ro : Role) → role_of y.kind ≡ ro → RoleReady ro s y t
    role_ready Neither h = tt
    role_ready (Class d) h = inside h
    role_ready (Member parts) h = member_ready h

    line_ready : Ready s rows index y t p
    line_ready = record {
      short = k.short;
      order = taken.order;
      inside = taken.ends;
      rest = taken.inside;
      own_order = k.lies.order;
      own_inside = k.lies.within;
      pool = let size = k.pool_size in let most = k.most in omega arith;
      indexed = k.indexed;
      few = let c = k.classes in let w = k.scanning.within in let l = w.lines in let n = w.class in let i = k.scanning.inside in let h = k.short in omega arith;
      role = role_ready (role_of y.kind) refl;
    }

    module _ {g : Fates} (sum : g ≡ plus f (one y.fate)) where
      next_scan : Scanning s 0 no_fates false y.next g y.has_member
      next_scan = scanned_more k.scanning st sum

      line_within : Within g y.next
      line_within = next_scan.within

      next_class : g.class ≡ f.class + class_line (line_of (bytes_of s y))
      next_class =
          ap (λ y. y.class) (sum ∙ ap (λ z. plus f (one z)) st.fate)
          ∙ ap (λ y. f.class + y) (fate_class member (bytes_of s y) (line_of (bytes_of s y)))

      here : Under
      here = under f.class (part_of s (span t.own t.own_end))

      -- the members that are left: that of this line, and those after it
      step : members (lines s) (read_back rows p₀) ≡ k.done ++ (entry_in (read_back rows p₀) here (residual_in (lines (drop y.next s))) (bytes_of s y) (line_of (bytes_of s y))
          ++ entries_from (read_back rows p₀) (under_after here (bytes_of s y) (line_of (bytes_of s y))) (lines (drop y.next s)))
      unfolding entries_from here
      step = k.split ∙ ap (λ ls. k.done ++ entries_from (read_back rows p₀) (under f.class (part_of s (span t.own t.own_end))) ls) taken.split

      short_scan : {sc : Result Fates Fault} → sc ≡ scan_on g y.has_member (lines (drop y.next s)) → sc ≡ scan_of (lines s)
      short_scan y = y ∙ next_scan.decides ∙ from_nothing (lines s)

      line_neither : role_of y.kind ≡ Neither → Filling s rows index used m₀ p₀ y.next t y.has_member g m p
      unfolding here
      line_neither h = record {
        short = k.short;
        most = k.most;
        scanning = next_scan;
        done = k.done;
        split =
            step ∙ ap (λ es. k.done ++ (es ++ entries_from (read_back rows p₀) (under_after here (bytes_of s y) (line_of (bytes_of s y))) (lines (drop y.next s))))
            (entry_neither (read_back rows p₀) here (residual_in (lines (drop y.next s))) (bytes_of s y) (line_of (bytes_of s y)) (role_told h))
            ∙ ap (λ w. k.done ++ entries_from (read_back rows p₀) w (lines (drop y.next s)))
            (under_neither here (bytes_of s y) (line_of (bytes_of s y)) (role_told h) ∙ ap (λ c. under c (part_of s (span t.own t.own_end))) (sym next_class));
        held = k.held;
        counts = k.counts;
        classes = k.classes ∙ sym (next_class ∙ ap (λ c. f.class + c) (neither_counts (line_of (bytes_of s y)) (role_told h)) ∙ add-zero f.class);
        indexed = k.indexed;
        same = k.same;
        lies = k.lies;
        pool_size = k.pool_size;
        rows_size = k.rows_size;
      }

      module _ {d : Span} (h : role_of y.kind ≡ Class d) where
        line_class : Filling s rows index used m₀ p₀ y.next (under_class y d t) y.has_member g m p
        unfolding here
        line_class = record {
          short = k.short;
          most = k.most;
          scanning = next_scan;
          done = k.done;
          split =
              step ∙ ap (λ es. k.done ++ (es ++ entries_from (read_back rows p₀) (under_after here (bytes_of s y) (line_of (bytes_of s y))) (lines (drop y.next s))))
              (entry_class (read_back rows p₀) here (residual_in (lines (drop y.next s))) (bytes_of s y) (line_of (bytes_of s y)) (role_told h))
              ∙ ap (λ w. k.done ++ entries_from (read_back rows p₀) w (lines (drop y.next s)))
              (under_class_lem here (bytes_of s y) (line_of (bytes_of s y)) (role_told h) ∙ ap (λ c. under c (part_of (bytes_of s y) d)) (sym next_class)
              ∙ ap (under g.class) (part_part s y.start y.«end» d.start d.«end» (in_line h)));
          held = k.held;
          counts = k.counts;
          classes = ap (λ c. c + 1) k.classes ∙ sym (next_class ∙ ap (λ c. f.class + c) (class_counts (line_of (bytes_of s y)) (role_told h)));
          indexed = k.indexed;
          same = k.same;
          lies = record { order = let o = (inside h).order in omega arith; within = let w = in_line h in let f = taken.ends in let o₂ = taken.order in omega arith };
          pool_size = k.pool_size;
          rows_size = k.rows_size;
        }

      module _ {parts : MemberLine} (h : role_of y.kind ≡ Member parts) where
        no_class : g.class ≡ f.class
        no_class = next_class ∙ ap (λ c. f.class + c) (member_counts (line_of (bytes_of s y)) (role_told h)) ∙ add-zero f.class

        texts : MemberTexts
        texts = texts_in s (read_back rows p₀) y t parts

        entry : Entry
        entry = entry_of (f.class - 1) texts parts.body

        rest : List Entry
        rest = entries_from (read_back rows p₀) (under g.class (part_of s (span t.own t.own_end))) (lines (drop y.next s))

        -- this line's member, and those after it
        member_step : members (lines s) (read_back rows p₀) ≡ k.done ++ (entry ∷ rest)
        unfolding here entry rest texts
        member_step =
            step ∙ ap (λ es. k.done ++ (es ++ entries_from (read_back rows p₀) (under_after here (bytes_of s y) (line_of (bytes_of s y))) (lines (drop y.next s))))
            (entry_member (read_back rows p₀) here (residual_in (lines (drop y.next s))) (bytes_of s y) (line_of (bytes_of s y)) (role_told h))
            ∙ ap (λ w. k.done ++ (entry_of (f.class - 1) (texts_in s (read_back rows p₀) y t parts) parts.body ∷ entries_from (read_back rows p₀) w (lines (drop y.next s))))
            (under_member here (bytes_of s y) (line_of (bytes_of s y)) (role_told h) ∙ ap (λ c. under c (part_of s (span t.own t.own_end))) (sym next_class))

        past : t.place ≡ used + length (entry_pool k.done)
        past = k.held.texts.past

        text_is : entry_text entry ≡ all_texts texts
        unfolding entry texts
        text_is = entry_text_lem (f.class - 1) (read_back rows p₀) (residual_in (lines (drop y.next s))) (part_of s (span t.own t.own_end)) (bytes_of s y) parts

        few : length m ≤ t.row → Over (members (lines s) (read_back rows p₀)) used m₀ p₀
        few l =
            let c = k.counts in
            let size = k.rows_size in
            let all = ap length member_step ∙ length-append k.done (entry ∷ rest) in
            inl (omega arith)

        short : length p < t.place + length (all_texts (texts_in s (read_back rows p) y t parts)) → Over (members (lines s) (read_back rows p₀)) used m₀ p₀
        unfolding join texts
        short l =
            let over : length p < t.place + length (all_texts texts) = rw k.same at l in
            let size = k.pool_size in
            let before = past in
            let u = ap length text_is in
            let all = ap (λ es. length (entry_pool es)) member_step ∙ ap length (join_append entry_text k.done (entry ∷ rest))
            ∙ length-append (entry_pool k.done) (entry_text entry ++ entry_pool rest) in
            let v = length-append (entry_text entry) (entry_pool rest) in
            inr (omega arith)

        module _ {t₁ : Slot} {m₁ : List (List ℕ)} {p₁ : List ℕ} (w : WrittenMember t₁ s rows y parts t m p m₁ p₁) where
          it : EnteredTexts w.places p t.place texts p₁
          unfolding texts
          it = rw k.same at w.texts

          row_is : pack_member (member_placed (t.classes - 1) t.place w.places parts.body) ≡ entry_row (used + length (entry_pool k.done)) entry
          unfolding entry
          row_is =
              ap (λ c. pack_member (member_placed (c - 1) t.place w.places parts.body)) k.classes
              ∙ entry_row_lem (f.class - 1) t.place w.places texts parts.body it.placed ∙ ap (λ x. entry_row x entry) past

          line_member : Filling s rows index used m₀ p₀ y.next t₁ y.has_member g m₁ p₁
          unfolding rest
          line_member =
              let size = k.rows_size in
              let c = k.counts in
              let l = w.room in
              let rows_count : t.row ≡ 0 + length (entry_rows used k.done) = c ∙ sym (rows_length entry_row entry_text used k.done) ∙ sym (zero-add (length (entry_rows used k.done))) in
              let fits : 0 + length (entry_rows used k.done) < length m₀ = omega arith in
              let row : List ℕ = pack_member (member_placed (t.classes - 1) t.place w.places parts.body) in
              let texts_are : entry_pool k.done ++ all_texts texts ≡ entry_pool (k.done ++ (entry ∷ [])) =
              ap (λ x. entry_pool k.done ++ x) (sym text_is) ∙ sym (join_more entry_text k.done entry) in
              rw (w.row, w.next) (record {
                short = k.short;
                most = k.most;
                scanning = next_scan;
                done = k.done ++ (entry ∷ []);
                split = member_step ∙ sym (append_assoc k.done (entry ∷ []) rest);
                held = record {
                  room = rw (length-append k.done (entry ∷ [])) (omega arith);
                  rows =
                      ap (λ x. set x t.row row) k.held.rows ∙ ap (λ x. set (put m₀ 0 (entry_rows used k.done)) x row) rows_count
                      ∙ put_set m₀ 0 (entry_rows used k.done) row fits
                      ∙ ap (λ x. put m₀ 0 (entry_rows used k.done ++ (x ∷ []))) row_is ∙ ap (put m₀ 0) (sym (rows_more entry_row entry_text used k.done entry));
                  texts = wrote_as (Ok w.places.«end») p₀ used p₁ texts_are (wrote_then (Ok w.places.«end») (all_texts texts) p₁ k.held.texts it.written);
                };
                counts = ap (λ x. x + 1) c ∙ sym (length-append k.done (entry ∷ []));
                classes = k.classes ∙ sym no_class;
                indexed = indexed_put k.indexed it.written;
                same = read_back_put k.indexed it.written ∙ k.same;
                lies = k.lies;
                pool_size = written_length it.written ∙ k.pool_size;
                rows_size = length-set m t.row row ∙ k.rows_size;
              })

      module _ (o : Result Slot NoRoom) (m₁ : List (List ℕ)) (p₁ : List ℕ) (w : EnterBy (role_of y.kind) o s rows y t m p m₁ p₁) where
        line_entered : {t₁ : Slot} → o ≡ Ok t₁ → Filling s rows index used m₀ p₀ y.next t₁ y.has_member g m₁ p₁
        line_entered {t₁} e = go (role_of y.kind) refl w
          where
            kept : {u : Slot} → Filling s rows index used m₀ p₀ y.next u y.has_member g m p → Kept o u m p m₁ p₁ → Filling s rows index used m₀ p₀ y.next t₁ y.has_member g m₁ p₁
            kept {u} v z = let a = z.answer in let is : t₁ ≡ u = cc in rw (is, z.rows, z.pool) v

            go : (ro : Role) → role_of y.kind ≡ ro → EnterBy ro o s rows y t m p m₁ p₁ → Filling s rows index used m₀ p₀ y.next t₁ y.has_member g m₁ p₁
            go Neither h z = kept (line_neither h) z
            go (Class d) h z = kept (line_class h) z
            go (Member parts) h z = line_member h (rw e at z)

        line_over : o ≡ Err no_room → {sc : Result Fates Fault} → sc ≡ scan_on g y.has_member (lines (drop y.next s)) → CutShort sc (lines s) (read_back rows p₀) used m₀ p₀
        line_over e i = record { scanned = short_scan i; over = go (role_of y.kind) refl w }
          where
            none : {u : Slot} → o ≡ Ok u → Over (members (lines s) (read_back rows p₀)) used m₀ p₀
            none f = absurd (let z : ◌≡◌ {A = ℕ} 0 1 = cc in omega arith)

            go : (ro : Role) → role_of y.kind ≡ ro → EnterBy ro o s rows y t m p m₁ p₁ → Over (members (lines s) (read_back rows p₀)) used m₀ p₀
            go Neither h z = none z.answer
            go (Class d) h z = none z.answer
            go (Member parts) h z =
                let c : (length m ≤ t.row) ⊎ (length p < t.place + length (all_texts (texts_in s (read_back rows p) y t parts))) = rw e at z in
                ⊎_elim (few h) (short h) c

  module _ (r : Step) (x : StepBy r s at f.class member) {y : LineStep} (q : r ≡ steps.Line y) where
    st : StepLine s at f.class member y
    st = step_told s at f.class member r x q

    pub filling_rest : y.next ≤ length s
    filling_rest = line_rest st

    pub filling_falls : at < length s → length s - y.next < length s - at
    filling_falls h = line_falls st h

    pub filling_ready : Ready s rows index y t p
    filling_ready = line_ready st

    module _ {g : Fates} (sum : g ≡ plus f (one y.fate)) where
      pub filling_within : Within g y.next
      filling_within = line_within st sum

      pub filling_room : Within g most_text
      filling_room = step_bounds s k.short filling_rest filling_within

      module _ (o : Result Slot NoRoom) (m₁ : List (List ℕ)) (p₁ : List ℕ) (w : EnterBy (role_of y.kind) o s rows y t m p m₁ p₁) where
        pub filling_entered : {t₁ : Slot} → o ≡ Ok t₁ → Filling s rows index used m₀ p₀ y.next t₁ y.has_member g m₁ p₁
        filling_entered e = line_entered st sum o m₁ p₁ w e

        pub filling_over : o ≡ Err no_room → {sc : Result Fates Fault} → sc ≡ scan_on g y.has_member (lines (drop y.next s)) → CutShort sc (lines s) (read_back rows p₀) used m₀ p₀
        filling_over e i = line_over st sum o m₁ p₁ w e i

  -- A line of which nothing is entered.
  module _ (r : Step) (x : StepBy r s at f.class member) {n : ℕ} {v : Fate} (q : r ≡ steps.Passed n v) where
    passed : StepPassed s at f.class member n v
    passed = passed_told s at f.class member r x q

    pub filling_passed : {g : Fates} → g ≡ plus f (one v) → Filling s rows index used m₀ p₀ n t member g m p
    filling_passed e =
        let z = passed in
        same_filling z.starts z.stays (line_neither z.told (e ∙ ap (λ y. plus f (one y)) z.is) (not_entered z.line.kind z.passed))

    pub filling_passes : at < length s → length s - n < length s - at
    filling_passes h = let z = passed in let o = z.starts in let l = line_falls z.told h in omega arith
